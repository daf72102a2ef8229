-- `render::cores::lines_length` meets its contract: a sum, one turn a line. Assumes nothing.
use Rattle.std.specs.Prelude.{◌≡◌, ℕ, length, get_or}
use Prim.Native.Nat.{zero-le}
use mathlib.Core.Path.{sym, ap, ◌∙◌}
use native.Mathlib.Omega.{arith}
use lib.Ieee.{nan}
use lib.ListN.{length-append}
use Rattle.render.specs.Lines.{lines, scalar_line}
use Rattle.render.proofs.Laws.{lines_none, lines_next}
use Rattle.render.proofs.cores.lines_length.Goals as goal

pub loop-k-init : goal.loop-k-init
loop-k-init c = (zero-le, sym (lines_none c.args.x.now c.args.marks.now), zero-le)

pub overflow_add-sum : goal.overflow_add-sum
overflow_add-sum c = omega (arith, c.line_length-sum.ensures.0, c.loop-k.invariant.2, c.requires.0)

pub loop-k-preserved : goal.loop-k-preserved
loop-k-preserved c =
    let l = c.loop-k in
    let x = c.args.x.now in
    let marks = c.args.marks.now in
    let line = scalar_line l.k (get_or x l.k nan) (get_or marks l.k 0) in (
      omega arith,
      omega (arith, l.invariant.1, c.line_length-sum.ensures.1 (get_or x l.k nan), ap length (lines_next x marks l.k), length-append (lines x marks l.k) line),
      omega (arith, l.invariant.2, c.line_length-sum.ensures.0),
    )

pub returns : goal.returns
returns c =
    let l = c.loop-k in
    let x = c.args.x.now in
    let e : l.k ≡ length x = omega arith in
    (l.invariant.1 ∙ ap (λ (k : ℕ). length (lines x c.args.marks.now k)) e, omega (arith, l.invariant.2, c.requires.0))
