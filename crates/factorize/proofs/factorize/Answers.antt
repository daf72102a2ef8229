-- `factorize::factorize` meets its contract: no cache is lent, and none is needed. Assumes nothing.
use Rattle.factorize.proofs.Laws.{no-cache}
use Rattle.factorize.proofs.factorize.Goals as goal

pub returns-clause-factors : goal.returns-clause-factors
returns-clause-factors c = no-cache _ _ _ _ _ c.factor_checked.ensures.kept
