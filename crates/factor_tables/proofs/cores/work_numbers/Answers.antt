-- `factor_tables::cores::work_numbers` meets its contract. Assumes nothing.
use Rattle.std.specs.Prelude.{◌*◌}
use mathlib.Core.Path.{ap₂}
use native.Mathlib.Omega.{arith}
use Rattle.factor_tables.proofs.NeedLaws.{few-work}
use Rattle.factor_tables.proofs.cores.work_numbers.Goals as goal

-- what the two calls give is the returns
pub returns : goal.returns
returns c = ap₂ ◌*◌ c.scalar_count.ensures c.widest_of.ensures

pub overflow_mul-result : goal.overflow_mul-result
overflow_mul-result c = omega (arith, returns c, few-work c.args.dims.now c.requires.0 c.requires.1)
