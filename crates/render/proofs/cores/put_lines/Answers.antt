-- `render::cores::put_lines` meets its contract: the lines passed are written. Assumes nothing.
use Rattle.std.specs.Prelude.{◌≡◌, ℕ, ◌+◌, ◌<◌, ◌≤◌, List, Float, ◌++◌, length, get_or}
use mathlib.Core.Path.{refl, sym, ap, subst}
use native.Mathlib.Omega.{arith}
use borrow.Author.Rules.{rules}
use lib.Ieee.{nan}
use Rattle.digits.specs.Digits.{Puts}
use Rattle.render.specs.Lines.{lines, scalar_line}
use Rattle.render.proofs.Laws.{fits_next, puts-room, puts-next, puts_none, lines_next, lines-le}
use Rattle.render.proofs.cores.put_lines.Goals as goal

pub loop-k-init : goal.loop-k-init
loop-k-init c = (refl, puts_none c.args.x.now c.args.marks.now c.args.w.now.at c.args.w.now.out.now)

-- the next line has the room
next_room : (k : ℕ) (x : List Float) (marks : List ℕ) → k < length x → (at out : ℕ) → at + length (lines x marks (length x)) ≤ out
    → at + length (lines x marks k ++ scalar_line k (get_or x k nan) (get_or marks k 0)) ≤ out
next_room k x marks lt at out h = omega (arith, ap length (lines_next x marks k), lines-le x marks (k + 1) (length x) (omega arith), h)

pub scalar_line-requires : goal.scalar_line-requires
scalar_line-requires c =
    let k = c.loop-k.k in
    let x = c.args.x.now in
    let marks = c.args.marks.now in
    let line = scalar_line k (get_or x k nan) (get_or marks k 0) in
    puts-room line c.loop-k.invariant.1 (fits_next _ _ (lines x marks k) line (next_room k x marks (omega arith) _ _ c.requires.1))

pub loop-k-preserved : goal.loop-k-preserved
loop-k-preserved c =
    let l = c.loop-k in
    let x = c.args.x.now in
    let marks = c.args.marks.now in
    let line = scalar_line l.k (get_or x l.k nan) (get_or marks l.k 0) in
    let p = puts-next line l.invariant.1 c.scalar_line.ensures.puts (next_room l.k x marks (omega arith) _ _ c.requires.1) in
    (search rules, subst (λ (t : List ℕ). Puts c.args.w.now.at t c.args.w.now.out.now c.scalar_line.new.w.at c.scalar_line.new.w.out.now) (sym (lines_next x marks l.k)) p)

pub returns : goal.returns
returns c =
    let l = c.loop-k in
    let e : l.k ≡ length c.args.x.now = omega arith in
    record { puts = subst (λ (k : ℕ). Puts c.args.w.now.at (lines c.args.x.now c.args.marks.now k) c.args.w.now.out.now l.w.at l.w.out.now) e l.invariant.1; same = l.invariant.0 }
