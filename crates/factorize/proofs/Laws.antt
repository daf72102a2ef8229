-- A call that is lent no cache. Assumes nothing.
use Rattle.std.specs.Prelude.{ℕ, ◌+◌, ◌*◌, List, []}
use mathlib.Core.Path.{ap, subst, ◌∙◌}
use native.Mathlib.Nat.{zero-mul}
use lib.Ieee.{Float}
use Rattle.refusal.specs.Refusal.{Told}
use Rattle.machine.specs.System.{System}
use Rattle.factor_core.specs.Factorize.{Factorized, Places, early, FactorsBy, Factors}
use Rattle.factor_core.specs.Cache.{handed_in, whole_kept, FactorsKept}
use Rattle.factor_core.proofs.CacheLaws.{none_kept}

-- the whole verdict is that of the other needs
pub no-cache : (a : System) (b : Places) (r : Factorized) (b' : Places) (cache' : List Float) → FactorsKept (early a b) (0 * (1 + handed_in a)) a b [] r b' cache' → Factors (early a b) a b r b'
no-cache a b r b' cache' q = subst (λ (w : Told). FactorsBy (early a b) w a b r b') (ap (λ (most : ℕ). whole_kept (early a b) most a b 0) (zero-mul (1 + handed_in a)) ∙ none_kept (early a b) a b) q.factors
