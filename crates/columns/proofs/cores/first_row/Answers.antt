-- `columns::cores::first_row` meets its contract: the test of a column is the definition's. Assumes nothing.
use Rattle.std.proofs.Common.{rules}
use Rattle.tables.specs.Verdict.{row_ok}
use Rattle.columns.specs.Least.{least_row}
use Rattle.columns.proofs.cores.first_row.Goals as goal

pub returns : goal.returns
returns c =
    let x = c.args in
    c.first_in_columns.ensures _ (λ j. row_ok x.rows.now x.n (least_row x.least j)) c.requires.1 (search rules)
