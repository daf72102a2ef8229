-- `keep_column::cores::keep_row` meets its contract. Assumes nothing.
use native.Mathlib.Nat.{add-sub_cancel_left}
use borrow.Author.Rules.{rules}
use Rattle.keep_column.proofs.KeepLaws.{row_kept}
use Rattle.keep_column.proofs.cores.keep_row.Goals as goal

pub returns-then-end-cache : goal.returns-then-end-cache
returns-then-end-cache c = let x = c.args in row_kept x.h x.w x.o x.values.now x.unit.now x.cache.now _ (search rules) (rw (c.multiply.ensures, add-sub_cancel_left))
