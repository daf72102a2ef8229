-- `columns::cores::least_row` meets its contract: each case is its definition. Assumes nothing.
use Rattle.columns.proofs.cores.least_row.Goals as goal

pub returns-in-PastDiagonal : goal.returns-in-PastDiagonal
returns-in-PastDiagonal c = rw c.in-PastDiagonal.is
