-- `factor_room::cores::lent_core` meets its contract. Assumes nothing.
use mathlib.Core.Path.{◌∙◌}
use Rattle.factor_setup.proofs.SetupLaws.{sound}
use Rattle.factor_setup.specs.Exact.{handed}
use Rattle.factor_core.specs.Factorize.{lent_of}
use Rattle.factor_room.proofs.Laws.{needs-refused, first-worked}
use Rattle.factor_room.proofs.cores.lent_core.Goals as goal

pub unit_numbers-units-requires : goal.unit_numbers-units-requires
unit_numbers-units-requires c = let p = (sound c.args.s.now).plan in (p.sizes, p.blocks)

pub scalar_count-scalars-requires : goal.scalar_count-scalars-requires
scalar_count-scalars-requires c = let p = (sound c.args.s.now).plan in (p.sizes, p.blocks)

pub work_numbers-work-requires : goal.work_numbers-work-requires
work_numbers-work-requires c = let p = (sound c.args.s.now).plan in (p.sizes, p.blocks)

pub returns-in_err-first_short-clause-kept : goal.returns-in_err-first_short-clause-kept
returns-in_err-first_short-clause-kept c =
    needs-refused _ _ _ _ _ _ _ c.from_residual.ensures
    (c.in_err-first_short.ensures.says ∙ first-worked (handed c.args.s.now.system) (lent_of c.args.o.now c.args.w.now) c.unit_numbers-units.ensures c.scalar_count-scalars.ensures c.work_numbers-work.ensures)
