-- `scalar::cores::entry` meets its contract: the column lies in the block, so the place does, and its arithmetic does not wrap. Assumes nothing.
use native.Mathlib.Omega.{arith}
use Rattle.scalar.proofs.Laws.{column}
use Rattle.scalar.proofs.cores.entry.Goals as goal

pub overflow_mul-result : goal.overflow_mul-result
overflow_mul-result c = let x = c.args in omega (arith, column x.h x.w x.c c.requires.1)

pub overflow_add-result : goal.overflow_add-result
overflow_add-result c = let x = c.args in omega (arith, column x.h x.w x.c c.requires.1)

pub offset_bounds-m-r : goal.offset_bounds-m-r
offset_bounds-m-r c = let x = c.args in omega (arith, column x.h x.w x.c c.requires.1)

pub bounds-m-r : goal.bounds-m-r
bounds-m-r c = let x = c.args in omega (arith, column x.h x.w x.c c.requires.1)
