-- `match_rows::cores::stray_in` meets its contract: each place of the column is one of a block. Assumes nothing.
use Rattle.std.specs.Prelude.{◌+◌}
use native.Mathlib.Omega.{arith}
use Rattle.match_rows.proofs.cores.stray_in.Goals as goal

pub first_fault-requires : goal.first_fault-requires
first_fault-requires c u l h =
    let s = c.requires in
    let k = c.args.k in
    let o = s.compared.l_columns.ordered in
    (s.compared.columns, s.compared.permutes, s.compared.few, s.k_in_bounds.0, omega (arith, h, o.inside (k + 1) (omega (arith, s.k_in_bounds.0))), (s.compared.l_columns.ranged k u s.k_in_bounds.0 l h).1, s.k_in_bounds.1)
