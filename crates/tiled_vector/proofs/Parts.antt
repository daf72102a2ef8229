-- A vector whose numbers lose their sums one after the other.
--     sums_none, -more, -all               sums gathered side by side are those gathered by themselves
--     held-less                            and lost
--     less_more, -length, -all             how far the vector is
-- Assumes nothing.
use Rattle.std.specs.Prelude.{◌≡◌, ℕ, zero, suc, ◌+◌, ◌≤◌, List, length, get_or, replicate}
use mathlib.Core.Path.{refl, sym, ap, subst, ◌∙◌}
use native.Mathlib.Nat.{le_antisymm}
use native.Mathlib.Omega.{arith}
use lib.Ieee.{Float, nan}
use lib.ListN.{length-set}
use Rattle.std.proofs.lemmas.List.{get_or-replicate}
use Rattle.scalar.specs.Loop.{steps}
use Rattle.scalar.specs.Block.{gain}
use Rattle.scalar.specs.Scalar.{nought}
use Rattle.scalar.proofs.Laws.{steps-more, steps-same}
use Rattle.tiled_product.specs.Tiled.{Holds}
use Rattle.tiled_vector.specs.TiledVector.{less, less_held, less_from, each_less}

-- ---- sums side by side: at turn u that of number q gains e u q times b u

module _ (e : ℕ → ℕ → Float) (b : ℕ → Float) (i : ℕ) where
  abbrev pub Sums : (u n : ℕ) → List Float → Type 0
  Sums u n = Holds n (λ q. steps (λ u s. gain s (e u (i + q)) (b u)) u nought)

  pub sums_none : (n : ℕ) (s : List Float) → s ≡ replicate n nought → Sums 0 n s
  unfolding steps
  sums_none n s from q h = rw from (get_or-replicate n q nought nan h)

  pub sums_more : (u n : ℕ) (s a z : List Float) (by : Float) → Sums u n s → Holds n (λ q. e u (i + q)) a → by ≡ b u → Holds n (λ q. gain (get_or s q nan) (get_or a q nan) by) z
      → Sums (u + 1) n z
  sums_more u n s a z by held from is turned q h =
      turned q h ∙ ap (λ (x : Float). gain (get_or s q nan) x by) (from q h) ∙ ap (gain (get_or s q nan) (e u (i + q))) is
      ∙ steps-more (λ u s. gain s (e u (i + q)) (b u)) u nought (get_or s q nan) (held q h)

  pub sums_all : (u w n : ℕ) (s : List Float) → u ≤ w → w ≤ u → Sums u n s → Sums w n s
  sums_all u w n s lo hi = subst (λ (u : ℕ). Sums u n s) (le_antisymm lo hi)

-- ---- losses

module _ (sum : ℕ → Float) where
  each-length : (n : ℕ) (z : List Float) → length (each_less sum n z) ≡ length z
  unfolding steps
  each-length zero z = refl
  each-length (suc n) z = length-set (each_less sum n z) n _ ∙ each-length n z

  one_less : (r : ℕ) (z : List Float) → less r (sum r) (each_less sum r z) ≡ each_less sum (r + 1) z
  one_less r z = steps-more (λ i. less i (sum i)) r z _ refl

  -- n from r on
  more-less : (r n : ℕ) (z : List Float) → less_from sum r n (each_less sum r z) ≡ each_less sum (r + n) z
  unfolding steps
  more-less r zero z = let e : r + 0 ≡ r = omega arith in ap (λ (k : ℕ). each_less sum k z) (sym e)
  more-less r (suc n) z =
      let e : r + n + 1 ≡ r + suc n = omega arith in
      ap (less (r + n) (sum (r + n))) (more-less r n z) ∙ (rw e at (one_less (r + n) z))

  -- which s holds
  pub held-less : (r n : ℕ) (s z : List Float) → Holds n (λ q. sum (r + q)) s → less_held r n s z ≡ less_from sum r n z
  held-less r n s z held = steps-same (λ q. less (r + q) (get_or s q nan)) (λ q. less (r + q) (sum (r + q))) n (λ q x h. ap (λ (y : Float). less (r + q) y x) (held q h)) z

  -- n numbers more
  pub less_more : (r n : ℕ) (z x x' : List Float) → x ≡ each_less sum r z → x' ≡ less_from sum r n x → x' ≡ each_less sum (r + n) z
  less_more r n z x x' e w = w ∙ ap (less_from sum r n) e ∙ more-less r n z

  -- as long as it was
  pub less-length : (r : ℕ) (z x : List Float) → x ≡ each_less sum r z → length x ≡ length z
  less-length r z x e = ap length e ∙ each-length r z

  pub less-all : (r n : ℕ) (z x : List Float) → r ≤ n → n ≤ r → x ≡ each_less sum r z → x ≡ each_less sum n z
  less-all r n z x lo hi = subst (λ (k : ℕ). x ≡ each_less sum k z) (le_antisymm lo hi)
