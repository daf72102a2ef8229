-- `fit_factor::cores::factor_core` meets its contract: the rooms meet every need but perhaps that of L's values. Assumes nothing.
use mathlib.Core.Path.{refl}
use borrow.Author.Rules.{rules}
use Rattle.fit_factor.proofs.Laws.{within-number, within-fits}
use Rattle.fit_factor.proofs.cores.factor_core.Goals as goal

pub fitted_core-requires : goal.fitted_core-requires
fitted_core-requires c =
    within-number c.factorize.ensures.factors c.requires
    (record { order = search rules; parents = search rules; l_starts = search rules; l_rows = search rules; l_offsets = search rules; l_values = search rules; diag = search rules; d = search rules; column = refl; inverse = refl; sizes = refl; count = refl; heads = refl; into = refl; stamps = refl; table = refl; upper = refl; bodies = refl; unit_starts = refl; d_starts = refl; places = refl })

pub returns-clause-fits : goal.returns-clause-fits
returns-clause-fits c =
    within-fits c.factorize.ensures.factors c.requires
    (record { order = search rules; parents = search rules; l_starts = search rules; l_rows = search rules; l_offsets = search rules; l_values = search rules; diag = search rules; d = search rules; column = refl; inverse = refl; sizes = refl; count = refl; heads = refl; into = refl; stamps = refl; table = refl; upper = refl; bodies = refl; unit_starts = refl; d_starts = refl; places = refl })
    c.fitted_core.result c.fitted_core.ensures
