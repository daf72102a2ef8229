-- Substitutions from the right, by entries: in each row the columns are visited one after the other, and each loses by those visited before it.
--     whole_length, whole-at       any order of the columns
--     forward-length, forward-at   X L⁻ᵀ, from the first column on
--     backward-length, -at         X L⁻¹, from the last column back
--     scaled-length, scaled_at     X D⁻¹
-- Assumes nothing.
use Rattle.std.specs.Prelude.{◌≡◌, ℕ, zero, suc, ◌+◌, ◌-◌, ◌*◌, ◌<◌, ◌≤◌, List, length, get_or}
use mathlib.Core.Path.{refl, sym, ap, subst, ◌∙◌}
use native.Mathlib.Decide.{dec_lt}
use native.Mathlib.Omega.{arith}
use lib.Ieee.{Float, nan, binary64, mul}
use lib.ListN.{length-set}
use Rattle.scalar.specs.Loop.{steps}
use Rattle.scalar.specs.Block.{at, put, lose}
use Rattle.scalar.proofs.Laws.{steps-same}
use Rattle.tiled_right.specs.TiledRight.{lost}
use Rattle.kernel_diag.specs.Diag.{inverse}
use Rattle.kernel_right.specs.Right.{lower_right_solve}
use Rattle.kernel_right_transpose.specs.RightTranspose.{lower_transpose_rightsolve}
use Rattle.kernel_diag_right.specs.DiagRight.{diag_right_matsolve}
use Rattle.tiled_product.proofs.EntryLaws.{at-put, at_other, every, columns_length}

-- the same where the columns that are read hold the same
pub lost-same : (m : ℕ) (x y : List Float) (r : ℕ) (c : ℕ → ℕ) (b : ℕ → Float) (u : ℕ) → ((v : ℕ) → v < u → at x m r (c v) ≡ at y m r (c v))
    → (s : Float) → lost m x r c b u s ≡ lost m y r c b u s
lost-same m x y r c b u same = steps-same (λ v s. lose s (at x m r (c v)) (b v)) (λ v s. lose s (at y m r (c v)) (b v)) u (λ v s h. ap (λ (z : Float). lose s z (b v)) (same v h))

-- ---- any order: visit u goes to column p u, and reads the columns c u v, none of which is visited now or later

module _ (m n : ℕ) (p : ℕ → ℕ) (c : ℕ → ℕ → ℕ) (b : ℕ → ℕ → Float) where
  abbrev visit : ℕ → ℕ → List Float → List Float
  visit r u x = put x m r (p u) (lost m x r (c u) (b u) u (at x m r (p u)))

  -- every row
  abbrev pub whole : ℕ → List Float → List Float
  whole i = steps (λ r. steps (visit r) n) i

  row-length : (r u : ℕ) (x : List Float) → length (steps (visit r) u x) ≡ length x
  unfolding steps
  row-length r zero x = refl
  row-length r (suc u) x = length-set (steps (visit r) u x) (r + p u * m) _ ∙ row-length r u x

  pub whole_length : (i : ℕ) (x : List Float) → length (whole i x) ≡ length x
  unfolding steps
  whole_length zero x = refl
  whole_length (suc i) x = row-length i n (whole i x) ∙ whole_length i x

  module _ (inside : (u : ℕ) → u < n → p u < n) (once : (u k : ℕ) → u < k → k < n → p u ≡ p k → ⊥) (before : (u v k : ℕ) → v < u → u ≤ k → k < n → c u v ≡ p k → ⊥) where
    module _ (x : List Float) (long : length x ≡ m * n) (r : ℕ) (hr : r < m) where
      -- an entry of another row, or of a column that is not visited yet
      row_other : (u q o : ℕ) → q < m → (q ≡ r → (k : ℕ) → k < u → o ≡ p k → ⊥) → at (steps (visit r) u x) m q o ≡ at x m q o
      unfolding steps
      row_other zero q o hq ne = refl
      row_other (suc u) q o hq ne =
          at_other m n (steps (visit r) u x) (row-length r u x ∙ long) r (p u) q o _ hr hq (λ e f. ne e u (omega arith) f)
          ∙ row_other u q o hq (λ e k h. ne e k (omega arith))

      row_at : (u k : ℕ) → u ≤ n → k < u → at (steps (visit r) u x) m r (p k) ≡ lost m (steps (visit r) u x) r (c k) (b k) k (at x m r (p k))
      unfolding steps
      row_at zero k hu h = absurd (omega arith)
      row_at (suc u) k hu h = split (row_at u k (omega arith)) (dec_lt k u)
        where
          y : List Float
          y = steps (visit r) u x

          ly : length y ≡ m * n
          ly = row-length r u x ∙ long

          kept : (o : ℕ) → (o ≡ p u → ⊥) → at (visit r u y) m r o ≡ at y m r o
          kept o ne = at_other m n y ly r (p u) r o _ hr hr (λ e. ne)

          still : (k : ℕ) → k ≤ u → (s : Float) → lost m y r (c k) (b k) k s ≡ lost m (visit r u y) r (c k) (b k) k s
          still k l = lost-same m y (visit r u y) r (c k) (b k) k (λ v g. sym (kept (c k v) (before k v u g l hu)))

          split : (k < u → at y m r (p k) ≡ lost m y r (c k) (b k) k (at x m r (p k))) → Dec (k < u) → at (visit r u y) m r (p k) ≡ lost m (visit r u y) r (c k) (b k) k (at x m r (p k))
          split f (yes l) = kept (p k) (once k u l hu) ∙ f l ∙ still k (omega arith) (at x m r (p k))
          split f (no l) =
              let e : u ≡ k = omega arith in
              subst (λ (k : ℕ). at (visit r u y) m r (p k) ≡ lost m (visit r u y) r (c k) (b k) k (at x m r (p k))) e
              (at-put m n y ly r (p u) _ hr (inside u hu) ∙ still u (omega arith) (at y m r (p u))
              ∙ ap (lost m (visit r u y) r (c u) (b u) u) (row_other u r (p u) hr (λ q k g f. once k u g hu (sym f))))

    module _ (x : List Float) (long : length x ≡ m * n) where
      whole-other : (i q o : ℕ) → i ≤ m → q < m → i ≤ q → at (whole i x) m q o ≡ at x m q o
      unfolding steps
      whole-other zero q o hi hq h = refl
      whole-other (suc i) q o hi hq h =
          row_other (whole i x) (whole_length i x ∙ long) i hi n q o hq (λ e. absurd (omega arith)) ∙ whole-other i q o (omega arith) hq (omega arith)

      pub whole-at : (i r k : ℕ) → i ≤ m → r < i → k < n → at (whole i x) m r (p k) ≡ lost m (whole i x) r (c k) (b k) k (at x m r (p k))
      unfolding steps
      whole-at zero r k hi h hk = absurd (omega arith)
      whole-at (suc i) r k hi h hk = split (whole-at i r k (omega arith)) (dec_lt r i)
        where
          y : List Float
          y = whole i x

          ly : length y ≡ m * n
          ly = whole_length i x ∙ long

          kept : r < i → (o : ℕ) → at (steps (visit i) n y) m r o ≡ at y m r o
          kept l o = row_other y ly i hi n r o (omega arith) (λ e. absurd (omega arith))

          split : (r < i → k < n → at y m r (p k) ≡ lost m y r (c k) (b k) k (at x m r (p k))) → Dec (r < i)
              → at (steps (visit i) n y) m r (p k) ≡ lost m (steps (visit i) n y) r (c k) (b k) k (at x m r (p k))
          split f (yes l) =
              kept l (p k) ∙ f l hk ∙ lost-same m y (steps (visit i) n y) r (c k) (b k) k (λ v g. sym (kept l (c k v))) (at x m r (p k))
          split f (no l) =
              let e : i ≡ r = omega arith in
              subst (λ (r : ℕ). at (steps (visit i) n y) m r (p k) ≡ lost m (steps (visit i) n y) r (c k) (b k) k (at x m r (p k))) e
              (row_at y ly i hi n k (omega arith) hk ∙ ap (lost m (steps (visit i) n y) i (c k) (b k) k) (whole-other i i (p k) (omega arith) hi (omega arith)))

-- ---- the three kernels, X of m rows and n columns

module _ (m n : ℕ) (l : List Float) where
  -- X L⁻ᵀ: the columns from the first to the last; s, of row r and column j, loses by the columns before it
  abbrev pub ahead : List Float → (r j : ℕ) → Float → Float
  ahead x r j = lost m x r (λ t. t) (λ t. at l n j t) j

  pub forward-length : (x : List Float) → length (lower_transpose_rightsolve m n l x) ≡ length x
  unfolding lower_transpose_rightsolve
  forward-length x = whole_length m n (λ j. j) (λ j t. t) (λ j t. at l n j t) m x

  pub forward-at : (x : List Float) → length x ≡ m * n → (r j : ℕ) → r < m → j < n
      → at (lower_transpose_rightsolve m n l x) m r j ≡ ahead (lower_transpose_rightsolve m n l x) r j (at x m r j)
  unfolding lower_transpose_rightsolve
  forward-at x long r j hr hj =
      whole-at m n (λ j. j) (λ j t. t) (λ j t. at l n j t) (λ j h. h) (λ j k h g e. omega arith) (λ j t k h g q e. omega arith) x long m r j (omega arith) hr hj

  -- X L⁻¹: the columns from the last to the first; s, of row r and of the column that u follow, loses by those
  abbrev pub last : ℕ → ℕ
  last u = n - 1 - u

  abbrev pub behind : List Float → (r u : ℕ) → Float → Float
  behind x r u = lost m x r (λ v. last u + 1 + v) (λ v. at l n (last u + 1 + v) (last u)) u

  pub backward-length : (x : List Float) → length (lower_right_solve m n l x) ≡ length x
  unfolding lower_right_solve
  backward-length x = whole_length m n last (λ u v. last u + 1 + v) (λ u v. at l n (last u + 1 + v) (last u)) m x

  pub backward-at : (x : List Float) → length x ≡ m * n → (r u : ℕ) → r < m → u < n
      → at (lower_right_solve m n l x) m r (n - 1 - u) ≡ behind (lower_right_solve m n l x) r u (at x m r (n - 1 - u))
  unfolding lower_right_solve
  backward-at x long r u hr hu =
      whole-at m n last (λ u v. last u + 1 + v) (λ u v. at l n (last u + 1 + v) (last u)) (λ u h. omega arith) (λ u k h g e. omega arith) (λ u v k h g q e. omega arith) x long m r u (omega arith) hr hu

-- X D⁻¹
module _ (m n : ℕ) (d x : List Float) where
  pub scaled-length : length (diag_right_matsolve m n d x) ≡ length x
  unfolding diag_right_matsolve
  scaled-length = columns_length m n (λ r j s. mul binary64 s (inverse (get_or d j nan))) n x

  pub scaled_at : length x ≡ m * n → (r j : ℕ) → r < m → j < n → at (diag_right_matsolve m n d x) m r j ≡ mul binary64 (at x m r j) (inverse (get_or d j nan))
  unfolding diag_right_matsolve
  scaled_at long = every m n (λ r j s. mul binary64 s (inverse (get_or d j nan))) x long
