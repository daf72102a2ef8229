-- A loop that writes a list from its first place on. Assumes nothing.
use Rattle.std.specs.Prelude.{◌≡◌, ℕ, ◌+◌, ◌<◌, ◌≤◌, List, [], ◌∷◌, ◌++◌, length, get_or, take, set}
use mathlib.Core.Path.{refl, sym, ap, ◌∙◌}
use native.Mathlib.Omega.{arith}
use native.Mathlib.Numerals.{add-one}
use lib.ListN.{length-set}
use lib.Seq.{take-suc, take-suc-set, take_all}

module _ {A : Type 0} where
  -- at the head of the loop: the first k places of `out` are those of `whole`
  pub record Filled (whole out : List A) (k : ℕ) : Type 0 where
    pub within : k ≤ length whole
    pub long : length out ≡ length whole
    pub made : take k out ≡ take k whole

  pub filled_none : (whole out : List A) → length out ≡ length whole → Filled whole out 0
  filled_none whole out l = record { within = omega arith; long = l; made = refl }

  module _ (whole out : List A) (k : ℕ) (f : Filled whole out k) where
    pub filled_more : (d x : A) → k < length whole → get_or whole k d ≡ x → Filled whole (set out k x) (k + 1)
    filled_more d x h e =
        let l = f.long in
        record {
          within = omega arith;
          long = length-set out k x ∙ f.long;
          made = ap (λ (m : ℕ). take m (set out k x)) (add-one k) ∙ take-suc-set out k x (omega arith) ∙ ap (λ (l : List A). l ++ (x ∷ [])) f.made
              ∙ ap (λ (y : A). take k whole ++ (y ∷ [])) (sym e) ∙ sym (take-suc whole k d h) ∙ ap (λ (m : ℕ). take m whole) (sym (add-one k));
        }

    pub filled_all : length whole ≤ k → out ≡ whole
    filled_all h = let l = f.long in sym (take_all k out (omega arith)) ∙ f.made ∙ take_all k whole h
