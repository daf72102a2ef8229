-- What the exported factorization answers: the number of an outcome of `factorize::factorize`, and what it carries. Assumes nothing.
use Rattle.std.specs.Prelude.{ℕ, List, Float}
use Rattle.machine.specs.System.{System}
use Rattle.factor_core.specs.Factorize.{Factorized, Places, Factors, early}
use Rattle.factor_report.specs.Answers.{Answers}

-- the call on night a in the places b: the promise of `factorize::factorize`
abbrev pub Exports : (a : System) (b : Places) (r : ℕ) (t : List ℕ) (v : List Float) (b' : Places) → Type 0
Exports a b r t v b' = Answers (λ (f : Factorized). Factors (early a b) a b f b') r t v
