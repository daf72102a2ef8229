-- `fill_rows::cores::copy_down` meets its contract. Assumes nothing.
use Rattle.std.specs.Prelude.{◌≡◌, ◌-◌}
use mathlib.Core.Logic.{inl, inr, ⊎_elim}
use native.Mathlib.Omega.{arith}
use Rattle.fill_rows.proofs.Copies.{move-begins, move-turns}
use Rattle.fill_rows.proofs.cores.copy_down.Goals as goal

pub loop-t-init : goal.loop-t-init
loop-t-init c = move-begins c.args.table.now c.args.from c.args.to

pub bounds-table-from : goal.bounds-table-from
bounds-table-from c = omega (arith, c.requires.0, c.requires.1, c.requires.2, c.loop-t-test.true, c.loop-t.invariant.same)

pub bounds-table-to : goal.bounds-table-to
bounds-table-to c = omega (arith, c.requires.0, c.requires.1, c.requires.2, c.loop-t-test.true, c.loop-t.invariant.same)

pub loop-t-preserved : goal.loop-t-preserved
loop-t-preserved c =
    let v = c.loop-t in
    move-turns c.args.table.now c.args.from c.args.to v.table v.t v.invariant (omega (arith, c.requires.2)) (omega (arith, c.requires.0, c.requires.1, c.requires.2, c.loop-t-test.true, v.invariant.same))

pub returns : goal.returns
returns c =
    let g = c.loop-t.invariant in
    let all : c.loop-t.t ≡ c.args.end - c.args.from = omega (arith, c.loop-t-test.false) in
    record { by_index = λ t h. g.moved t (omega arith); by_index_2 = λ x h. g.other x (⊎_elim (λ l. inl l) (λ l. inr (omega arith)) h) }
