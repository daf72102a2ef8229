-- `symbolic::cores::products_of` meets its contract. Assumes nothing.
use native.Mathlib.Omega.{arith}
use Rattle.symbolic.proofs.Numbers.{products-le}
use Rattle.symbolic.proofs.cores.products_of.Goals as goal

pub overflow_mul-result : goal.overflow_mul-result
overflow_mul-result c = let h = products-le c.args.c c.requires in omega arith
