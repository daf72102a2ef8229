-- `columns::cores::first_fall` meets its contract: the test of a column is the definition's. Assumes nothing.
use Rattle.std.proofs.Common.{rules}
use Rattle.tables.specs.Verdict.{at, order_ok}
use Rattle.columns.proofs.cores.first_fall.Goals as goal

pub returns : goal.returns
returns c =
    let x = c.args in
    c.first_in_columns.ensures _ (λ j. order_ok x.rows.now (at x.starts.now j)) c.requires (search rules)
