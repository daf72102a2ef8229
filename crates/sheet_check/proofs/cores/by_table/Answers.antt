-- `sheet_check::cores::by_table` meets its contract: a test that fails tells its refusal, and tables that pass are laid. Assumes nothing.
use Rattle.tables.proofs.TableLaws.{sizes-of}
use Rattle.contents.proofs.Laws.{sorted_of}
use Rattle.sheet_check.proofs.VerdictLaws.{bad-dim, bad-column}
use Rattle.sheet_check.proofs.cores.by_table.Goals as goal

pub returns-in-Some : goal.returns-in-Some
returns-in-Some c = bad-dim _ _ _ _ _ _ _ _ _ _ c.in-Some.ensures

pub returns-in-Some-first_column : goal.returns-in-Some-first_column
returns-in-Some-first_column c = bad-column _ _ _ _ _ _ _ _ _ c.in_default.ensures _ c.in-Some-first_column.ensures

pub by_number-requires : goal.by_number-requires
by_number-requires c =
    (c.requires.0, record { sizes = sizes-of _ c.in_default.ensures; sorted = sorted_of _ _ c.in_default-first_column.ensures; by_starts = c.make_starts.ensures })
