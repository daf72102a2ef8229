-- `columns::cores::block_area` meets its contract: a product of two dimensions, each at most 16. Assumes nothing.
use Rattle.std.specs.Prelude.{◌≤◌}
use native.Mathlib.Nat.{mul-le-mul}
use native.Mathlib.Omega.{arith}
use Rattle.tables.specs.Verdict.{at}
use Rattle.columns.proofs.cores.block_area.Goals as goal

pub overflow_mul-result : goal.overflow_mul-result
overflow_mul-result c =
    let w : at c.args.dims.now (at c.args.rows.now c.args.p) ≤ 16 = omega (arith, c.requires.0.small (at c.args.rows.now c.args.p)) in
    omega (arith, mul-le-mul w c.requires.1)
