-- What an exported factorization answers: the number of an outcome of the factorization, and what it carries. Assumes nothing.
use Rattle.std.specs.Prelude.{ℕ, List, ◌≡◌, Float}
use Rattle.refusal.specs.Refusal as refusal
use Rattle.report.specs.Report.{carried}
use Rattle.factor_core.specs.Factorize.{Factorized, told}
use Rattle.factor_report.specs.Float.{carried_float}

-- the call answers by an outcome that meets its promise: the number, the three places and the float are that outcome's
pub record Answers (Promise : Factorized → Type 0) (r : ℕ) (t : List ℕ) (v : List Float) : Type 0 where
  pub outcome : Factorized
  pub factors : Promise outcome
  pub number : r ≡ refusal.number (told outcome)
  pub carries : t ≡ carried (told outcome)
  pub carries_float : v ≡ carried_float (told outcome)
