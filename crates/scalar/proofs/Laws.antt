-- The laws that the proofs of the kernels share, and `kernels`, the set that `search` is handed. Assumes nothing.
use Rattle.std.specs.Prelude.{◌≡◌, ℕ, zero, suc, ◌+◌, ◌*◌, ◌<◌, ◌≤◌}
use mathlib.Core.Path.{refl, sym, ap, subst, ◌∙◌}
use mathlib.Core.Logic.{⊎_elim}
use Prim.Native.Nat.{zero-le}
use native.Mathlib.Nat.{le_antisymm, le_of_suc-le-suc, eq-or-lt_of_le, mul-le-mul, mul-le-mul_right, mul_comm, add-mul}
use native.Mathlib.Numerals.{add-one}
use native.Mathlib.Omega.{arith}
use borrow.Author.Rules.{rules}
use mir.Syntax.{w64}
use mir.Val.{Fits}
use Rattle.scalar.specs.Loop.{steps}

-- ---- a counted loop, whose invariant has `a ≡ steps f k a₀`
module _ {A : Type 0} (f : ℕ → A → A) where
  -- where it begins
  pub steps-none : (a₀ a : A) → a ≡ a₀ → a ≡ steps f 0 a₀
  unfolding steps
  steps-none a₀ a e = e

  -- after a turn
  pub steps-more : (k : ℕ) (a₀ a : A) → a ≡ steps f k a₀ → f k a ≡ steps f (k + 1) a₀
  unfolding steps
  steps-more k a₀ a e = rw (add-one, e)

  -- after a turn whose result b is a call's or an inner loop's, and is what f says by an equation
  pub steps_next : (k : ℕ) (a₀ a b : A) → a ≡ steps f k a₀ → b ≡ f k a → b ≡ steps f (k + 1) a₀
  steps_next k a₀ a b e g = g ∙ steps-more k a₀ a e

  -- after the last turn
  pub steps_all : (i n : ℕ) (a₀ a : A) → a ≡ steps f i a₀ → i ≤ n → n ≤ i → a ≡ steps f n a₀
  steps_all i n a₀ a e p q = rw (← le_antisymm p q) e

  -- where the loop is left early: a state that no turn changes is that of all later turns
  pub steps-stuck : (i n : ℕ) (a₀ a : A) → a ≡ steps f i a₀ → ((k : ℕ) → f k a ≡ a) → i ≤ n → a ≡ steps f n a₀
  unfolding steps
  steps-stuck i zero a₀ a e s p = steps_all i 0 a₀ a e p zero-le
  steps-stuck i (suc n) a₀ a e s p =
      ⊎_elim (λ q. subst (λ (k : ℕ). a ≡ steps f k a₀) q e)
      (λ q. sym (s n) ∙ ap (f n) (steps-stuck i n a₀ a e s (le_of_suc-le-suc q)))
      (eq-or-lt_of_le p)

-- two loops whose turns agree below n leave the same
module _ {A : Type 0} (f g : ℕ → A → A) where
  pub steps-same : (n : ℕ) → ((k : ℕ) (a : A) → k < n → f k a ≡ g k a) → (a : A) → steps f n a ≡ steps g n a
  unfolding steps
  steps-same zero same a = refl
  steps-same (suc n) same a = same n (steps f n a) (omega arith) ∙ ap (g n) (steps-same n (λ k b h. same k b (omega arith)) a)

-- what `search` is handed at a need of a kernel
pub ruleset kernels = (rules, steps-none, steps-more, steps_next, steps_all)

-- ---- sizes

-- column c of a block of height h and width w lies in the block
pub column : (h w c : ℕ) → c < w → c * h + h ≤ h * w
column h w c q = omega (arith, mul-le-mul_right h q, mul_comm h w, add-mul c 1 h)

-- an area of at most 16 by 16 fits a usize
pub area-fits : (h w : ℕ) → (h ≤ 16) × (w ≤ 16) → Fits w64 (h * w)
area-fits h w (p, q) = omega (arith, mul-le-mul p q)
