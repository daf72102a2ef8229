-- Rows one after the other: `through-none` where a loop over the rows of a column begins, `through-more` one row more;
-- `lost-length`, `lost-transpose-length`: a block is as long after a row. Assumes nothing.
use Prim.Native.Nat.{ℕ, zero, suc, ◌+◌, ◌-◌, ◌≤◌, ◌<◌}
use mathlib.Core.List.{List, [], ◌∷◌, ◌++◌}
use mathlib.Core.Path.{◌≡◌, refl, ap, ◌∙◌}
use native.Mathlib.Omega.{arith}
use lib.Ieee.{Float}
use lib.ListN.{length, drop, length-set, length-drop}
use lib.Seq.{take-suc, get_or-drop}
use Rattle.scalar.specs.Loop.{steps}
use Rattle.kernel_vector.specs.Vector.{sub_mat_plus_vec}
use Rattle.kernel_vector_transpose.specs.VectorTranspose.{sub_mat_transpose_plus_vec}
use Rattle.tables.specs.Verdict.{at}
use Rattle.block_product.specs.Working.{slot}
use Rattle.block_product.proofs.WorkingLaws.{steps-length}
use Rattle.solution.specs.Solution.{through}

-- one entry more
slot-more : (l : List ℕ) (s u : ℕ) → s ≤ u → u < length l → slot s (u + 1 - s) l ≡ slot s (u - s) l ++ (at l u ∷ [])
slot-more l s u lo hi =
    let e : u + 1 - s ≡ suc (u - s) = omega arith in
    let f : s + (u - s) ≡ u = omega arith in
    ap (λ (m : ℕ). slot s m l) e ∙ take-suc (drop s l) (u - s) 0 (rw length-drop (omega arith))
    ∙ ap (λ (i : ℕ). slot s (u - s) l ++ (i ∷ [])) (get_or-drop s l (u - s) 0 ∙ ap (at l) f)

module _ {A : Type 0} (f : ℕ → A → A) where
  through-snoc : (rows : List ℕ) (i : ℕ) (a : A) → through f (rows ++ (i ∷ [])) a ≡ f i (through f rows a)
  unfolding through
  through-snoc [] i a = refl
  through-snoc (r ∷ rows) i a = through-snoc rows i (f r a)

  pub through-none : (l : List ℕ) (s : ℕ) (a : A) → through f (slot s (s - s) l) a ≡ a
  unfolding through
  through-none l s a = let e : s - s ≡ 0 = omega arith in ap (λ (m : ℕ). through f (slot s m l) a) e

  pub through-more : (l : List ℕ) (s u : ℕ) (a : A) → s ≤ u → u < length l → through f (slot s (u + 1 - s) l) a ≡ f (at l u) (through f (slot s (u - s) l) a)
  through-more l s u a lo hi = ap (λ (r : List ℕ). through f r a) (slot-more l s u lo hi) ∙ through-snoc (slot s (u - s) l) (at l u) a

-- ---- lengths

pub lost-length : (m n : ℕ) (y a b : List Float) → length (sub_mat_plus_vec m n y a b) ≡ length y
unfolding sub_mat_plus_vec
lost-length m n y a b = steps-length _ (λ r y. length-set y _ _) m y

pub lost-transpose-length : (m n : ℕ) (x a z : List Float) → length (sub_mat_transpose_plus_vec m n x a z) ≡ length x
unfolding sub_mat_transpose_plus_vec
lost-transpose-length m n x a z = steps-length _ (λ c x. length-set x _ _) n x
