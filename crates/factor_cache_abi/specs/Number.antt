-- What the exported factorization with a cache answers: the number of an outcome of `factorize_with_cache::factorize_with_cache`, and what it
-- carries. Assumes nothing.
use Rattle.std.specs.Prelude.{ℕ, List, Float}
use Rattle.machine.specs.System.{System}
use Rattle.factor_core.specs.Factorize.{Factorized, Places}
use Rattle.factor_core.specs.Cache.{FactorsWithCache}
use Rattle.factor_report.specs.Answers.{Answers}

-- the call on night a in the places b with a cache c: the promise of `factorize_with_cache::factorize_with_cache`
abbrev pub ExportsWithCache : (a : System) (b : Places) (c : List Float) (r : ℕ) (t : List ℕ) (v : List Float) (b' : Places) (c' : List Float) → Type 0
ExportsWithCache a b c r t v b' c' = Answers (λ (f : Factorized). FactorsWithCache a b c f b' c') r t v
