-- `contents::cores::make_starts` meets its contract: the columns passed have their starts, and all before the place reached is of
-- columns before the next. Assumes nothing.
use Rattle.std.specs.Prelude.{◌≡◌, ◌≤◌, length}
use mathlib.Core.Path.{◌∙◌}
use native.Mathlib.Omega.{arith}
use borrow.Author.Count.{below_more}
use lib.ListN.{length-set}
use lib.Seq.{get_or-set_same, get_or-set_other}
use borrow.Author.Rules.{rules}
use Rattle.tables.proofs.FaultLaws.{fault-end}
use Rattle.contents.specs.Contents.{start_at}
use Rattle.contents.proofs.Laws.{start-from, start-le, start-before, starts-filled}
use Rattle.contents.proofs.cores.make_starts.Goals as goal

pub loop-j-init : goal.loop-j-init
loop-j-init c = (search rules, search rules, (λ q h. absurd (omega arith)), λ i h. absurd (omega arith))

-- what the search found
found : (c : goal.After-unwrap_or-p) → c.unwrap_or-p.result ≡ start_at c.args.columns.now c.loop-j.j
found c =
    let l = c.loop-j in
    c.unwrap_or-p.ensures ∙ fault-end _ l.p (length c.args.columns.now) l.invariant.1 _ c.column_start.ensures ∙ start-from c.args.columns.now l.j l.p l.invariant.1 l.invariant.2

inside : (c : goal.After-unwrap_or-p) → c.unwrap_or-p.result ≤ length c.args.columns.now
inside c = omega (arith, found c, start-le c.args.columns.now c.args.n c.loop-j.j)

pub overflow_cast-start : goal.overflow_cast-start
overflow_cast-start c = omega (arith, inside c, c.requires.0)

pub loop-j-preserved : goal.loop-j-preserved
loop-j-preserved c =
    let l = c.loop-j in
    let columns = c.args.columns.now in
    let r = c.unwrap_or-p.result in (
      simp length-set l.invariant.0,
      inside c,
      (λ q h. omega (arith, start-before columns c.args.n l.j q (omega (arith, found c)))),
      below_more _ _ (λ i h. get_or-set_other l.starts l.j i r 0 (omega arith) ∙ l.invariant.3 i h) (get_or-set_same l.starts l.j r 0 (omega arith) ∙ found c),
    )

pub returns : goal.returns
returns c =
    let l = c.loop-j in
    let e = c.requires.1 in
    starts-filled _ _ l.starts (omega arith) (λ j h. l.invariant.3 j (omega arith))
