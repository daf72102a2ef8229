-- `load_column::cores::load_body` meets its contract: by cases. Assumes nothing.
use Rattle.load_column.proofs.cores.load_body.Goals as goal

pub returns-then-above : goal.returns-then-above
returns-then-above c = rw c.if-above.true c.load_transposed.ensures
