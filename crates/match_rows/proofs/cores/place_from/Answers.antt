-- `match_rows::cores::place_from` meets its contract: one comparison, then by halving. Assumes nothing.
use mathlib.Core.Path.{◌∙◌}
use native.Mathlib.Omega.{arith}
use Rattle.std.specs.Prelude.{◌+◌, ◌<◌}
use Rattle.tables.specs.Verdict.{at}
use Rattle.match_rows.proofs.HalvedLaws.{place-met, place-past}
use Rattle.match_rows.proofs.cores.place_from.Goals as goal
use Rattle.match_rows.proofs.cores.place_from.Goals.{then-end-from-via-then-end-from, then-end-from-via-else-end-from+then-row-rows}

pub returns-then-end-from : goal.returns-then-end-from
returns-then-end-from c =
    let b = c.requires.column_bound in
    place-met c.requires.column_rises c.args.from b.0 b.1 b.2
    (elim c.then-end-from.branch [
      | then-end-from-via-then-end-from w ↦ λ h. absurd (omega (arith, w.if-end-from))
      | then-end-from-via-else-end-from+then-row-rows w ↦ λ h. w.if-row-rows.true
    ])

pub returns : goal.returns
returns c =
    let b = c.requires.column_bound in
    let inside : c.args.from < at c.args.starts.now (c.args.column + 1) = omega (arith, c.if-end-from) in
    let below : at c.args.rows.now c.args.from < c.args.row = omega (arith, c.if-row-rows) in
    c.lower_bound.ensures ∙ place-past c.requires.column_rises c.args.from b.0 inside b.2 below
