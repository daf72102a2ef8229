-- `scalar::cores::store` meets its contract: the column lies in the block, so the place does, and its arithmetic does not wrap. Assumes nothing.
use Rattle.std.specs.Prelude.{◌+◌, ◌*◌, ◌≤◌}
use native.Mathlib.Omega.{arith}
use Rattle.scalar.proofs.Laws.{column}
use Rattle.scalar.proofs.cores.store.Goals as goal

fits : (c : goal.Start) → c.args.c * c.args.h + c.args.h ≤ c.args.h * c.args.w
fits c = column _ _ _ (omega arith)

pub overflow_mul-m : goal.overflow_mul-m
overflow_mul-m c = omega (arith, fits c)

pub overflow_add-m : goal.overflow_add-m
overflow_add-m c = omega (arith, fits c)

pub offset_bounds-m-r : goal.offset_bounds-m-r
offset_bounds-m-r c = omega (arith, fits c)

pub bounds-m-r : goal.bounds-m-r
bounds-m-r c = omega (arith, fits c)
