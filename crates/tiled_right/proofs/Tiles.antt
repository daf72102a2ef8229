-- Tiles of rows.
--     lost_none, losing_more, ..         what the rows of a column lose, held in locals
--     rows-wrote                         and written
--     held_none, forward-more, -all      how far a tile is, from its first column to its last
--     backward-more, -all                and back
--     above_none, -more, -all            the rows done so far, until all are
-- Assumes nothing.
use Rattle.std.specs.Prelude.{◌≡◌, ℕ, zero, suc, ◌+◌, ◌-◌, ◌*◌, ◌<◌, ◌≤◌, List, length, get_or, set}
use mathlib.Core.Path.{refl, sym, ap, subst, ◌∙◌}
use native.Mathlib.Decide.{ℕ_discrete, dec_lt}
use native.Mathlib.Nat.{le_antisymm}
use native.Mathlib.Numerals.{add-one}
use native.Mathlib.Omega.{arith}
use lib.Ieee.{Float, nan, binary64, mul}
use lib.ListN.{length-set}
use Rattle.scalar.specs.Loop.{steps}
use Rattle.scalar.specs.Block.{at, put, lose}
use Rattle.scalar.proofs.Laws.{steps-more}
use Rattle.kernel_diag.specs.Diag.{inverse}
use Rattle.kernel_right.specs.Right.{lower_right_solve}
use Rattle.kernel_right_transpose.specs.RightTranspose.{lower_transpose_rightsolve}
use Rattle.kernel_diag_right.specs.DiagRight.{diag_right_matsolve}
use Rattle.dense_solve_right.specs.SolveRight.{ldlt_right_matsolve}
use Rattle.tiled_product.specs.Tiled.{Holds, put_down}
use Rattle.tiled_product.proofs.EntryLaws.{at-put, at_other, by_entries}
use Rattle.tiled_product.proofs.TileLaws.{Between, between_none, between_more, between_all}
use Rattle.tiled_right.specs.TiledRight.{RowsSolved, lost}
use Rattle.tiled_right.proofs.Substitution.{behind, lost-same, forward-length, forward-at, scaled-length, scaled_at, backward-length, backward-at}

-- ---- rows written into a column

-- y is x with e written into `count` rows of column j, from row `low` on
pub record Wrote (m : ℕ) (e : ℕ → Float) (j low count : ℕ) (x y : List Float) : Type 0 where
  pub long : length y ≡ length x
  pub done : (r : ℕ) → low ≤ r → r < low + count → at y m r j ≡ e r
  pub rest : (r c : ℕ) → r < m → (c ≡ j → low ≤ r → r < low + count → ⊥) → at y m r c ≡ at x m r c

module _ (m n : ℕ) (e : ℕ → Float) (j low : ℕ) (hj : j < n) (x : List Float) (long : length x ≡ m * n) where
  wrote_none : Wrote m e j low 0 x x
  wrote_none = record { long = refl; done = λ r l h. absurd (omega arith); rest = λ r c hr ne. refl }

  -- one row more
  wrote-more : (count : ℕ) (y : List Float) → low + count < m → Wrote m e j low count x y → Wrote m e j low (count + 1) x (put y m (low + count) j (e (low + count)))
  wrote-more count y fits w =
      record {
        long = length-set y (low + count + j * m) (e (low + count)) ∙ w.long;
        done = λ r l h. split r l h (dec_lt r (low + count));
        rest = λ r c hr ne. kept r c hr (λ q f. ne f (omega arith) (omega arith)) ∙ w.rest r c hr (λ f l h. ne f l (omega arith));
      }
    where
      kept : (r c : ℕ) → r < m → (r ≡ low + count → c ≡ j → ⊥) → at (put y m (low + count) j (e (low + count))) m r c ≡ at y m r c
      kept r c hr = at_other m n y (w.long ∙ long) (low + count) j r c (e (low + count)) fits hr

      split : (r : ℕ) → low ≤ r → r < low + (count + 1) → Dec (r < low + count) → at (put y m (low + count) j (e (low + count))) m r j ≡ e r
      split r l h (yes g) = kept r j (omega arith) (λ q f. omega arith) ∙ w.done r l g
      split r l h (no g) =
          let q : low + count ≡ r = omega arith in
          subst (λ (r : ℕ). at (put y m (low + count) j (e (low + count))) m r j ≡ e r) q (at-put m n y (w.long ∙ long) (low + count) j (e (low + count)) fits hj)

  -- and as many as s holds
  written : (count : ℕ) (s : List Float) → low + count ≤ m → Holds count (λ q. e (low + q)) s → Wrote m e j low count x (put_down m j low count s x)
  unfolding steps
  written zero s fits held = wrote_none
  written (suc count) s fits held =
      rw (held count (omega arith)) (rw add-one at (wrote-more count (put_down m j low count s x) (omega arith) (written count s (omega arith) (λ q h. held q (omega arith)))))

-- those that are held in locals, each by itself: they lose the columns c, each times its b
module _ (m : ℕ) (x : List Float) (c : ℕ → ℕ) (b : ℕ → Float) (i : ℕ) where
  -- they, less what they lose in v turns
  module _ (s : List Float) where
    abbrev pub Lost : (v count : ℕ) → List Float → Type 0
    Lost v count = Holds count (λ q. lost m x (i + q) c b v (get_or s q nan))

    pub lost_none : (count : ℕ) → Lost 0 count s
    unfolding steps
    lost_none count q h = refl

    -- and by the next, the first q of them
    abbrev pub Losing : (v q count : ℕ) → List Float → Type 0
    Losing v = Between (λ q. lost m x (i + q) c b v (get_or s q nan)) (λ q. lost m x (i + q) c b (v + 1) (get_or s q nan))

    pub losing_none : (v count : ℕ) (z : List Float) → Lost v count z → Losing v 0 count z
    losing_none v count z held = between_none _ _ count z held

    pub losing_more : (v q count : ℕ) (z : List Float) (y : Float) → q < count → length z ≡ count → Losing v q count z
        → y ≡ lose (get_or z q nan) (at x m (i + q) (c v)) (b v) → Losing v (q + 1) count (set z q y)
    losing_more v q count z y fits long held e =
        between_more _ _ q count z y fits long held
        (λ was. e ∙ steps-more (λ v s. lose s (at x m (i + q) (c v)) (b v)) v (get_or s q nan) (get_or z q nan) was)

    pub losing_all : (v q count : ℕ) (z : List Float) → count ≤ q → Losing v q count z → Lost (v + 1) count z
    losing_all v q count z lo held = between_all _ _ q count z lo held

    pub lost_all : (v w count : ℕ) (z : List Float) → v ≤ w → w ≤ v → Lost v count z → Lost w count z
    lost_all v w count z lo hi = subst (λ (v : ℕ). Lost v count z) (le_antisymm lo hi)

  -- where row r starts from `start r`, and loses in `count` turns
  module _ (n j count : ℕ) (start : ℕ → Float) (hj : j < n) (long : length x ≡ m * n) where
    pub rows-wrote : (tall : ℕ) (s z y : List Float) → i + tall ≤ m → Holds tall (λ q. start (i + q)) s → Lost s count tall z → y ≡ put_down m j i tall z x
        → Wrote m (λ r. lost m x r c b count (start r)) j i tall x y
    rows-wrote tall s z y fits from held w =
        rw w
        (written m n (λ r. lost m x r c b count (start r)) j i hj x long tall z fits
        (λ q h. held q h ∙ ap (lost m x (i + q) c b count) (from q h)))

-- ---- how far a tile is: its columns below a hold y's entries, and those from b on w's; the rows above it are as they were in x₀

pub record Held (m n : ℕ) (y w : List Float) (low count : ℕ) (x₀ : List Float) (a b : ℕ) (x : List Float) : Type 0 where
  pub long : length x ≡ length x₀
  pub left : (r c : ℕ) → low ≤ r → r < low + count → c < a → at x m r c ≡ at y m r c
  pub right : (r c : ℕ) → low ≤ r → r < low + count → b ≤ c → c < n → at x m r c ≡ at w m r c
  pub above : (r c : ℕ) → r < low → c < n → at x m r c ≡ at x₀ m r c

module _ (m n : ℕ) (y w : List Float) (low count : ℕ) (fits : low + count ≤ m) (x₀ : List Float) where
  pub held_none : Held m n y w low count x₀ 0 n x₀
  held_none = record { long = refl; left = λ r c l h g. absurd (omega arith); right = λ r c l h g q. absurd (omega arith); above = λ r c h g. refl }

  -- column j is written with y's entries, or with w's
  held_more : (a b a' b' j : ℕ) (e : ℕ → Float) (x x' : List Float) → Held m n y w low count x₀ a b x → Wrote m e j low count x x'
      → ((c : ℕ) → c < a' → (c ≡ j → ⊥) → c < a) → ((c : ℕ) → b' ≤ c → (c ≡ j → ⊥) → b ≤ c)
      → (j < a' → (r : ℕ) → low ≤ r → r < low + count → e r ≡ at y m r j) → (b' ≤ j → (r : ℕ) → low ≤ r → r < low + count → e r ≡ at w m r j)
      → Held m n y w low count x₀ a' b' x'
  held_more a b a' b' j e x x' s o of-a of-b is_y is-w =
      record {
        long = o.long ∙ s.long;
        left = λ r c l h g. left r c l h g (ℕ_discrete c j);
        right = λ r c l h g q. right r c l h g q (ℕ_discrete c j);
        above = λ r c h g. o.rest r c (omega arith) (λ q l k. omega arith) ∙ s.above r c h g;
      }
    where
      left : (r c : ℕ) → low ≤ r → r < low + count → c < a' → Dec (c ≡ j) → at x' m r c ≡ at y m r c
      left r c l h g (yes q) = subst (λ (c : ℕ). c < a' → at x' m r c ≡ at y m r c) (sym q) (λ g. o.done r l h ∙ is_y g r l h) g
      left r c l h g (no q) = o.rest r c (omega arith) (λ f u v. q f) ∙ s.left r c l h (of-a c g q)

      right : (r c : ℕ) → low ≤ r → r < low + count → b' ≤ c → c < n → Dec (c ≡ j) → at x' m r c ≡ at w m r c
      right r c l h g u (yes q) = subst (λ (c : ℕ). b' ≤ c → at x' m r c ≡ at w m r c) (sym q) (λ g. o.done r l h ∙ is-w g r l h) g
      right r c l h g u (no q) = o.rest r c (omega arith) (λ f v z. q f) ∙ s.right r c l h (of-b c g q) u

-- ---- the columns of a tile, from the first to the last and back

-- a tile of the solve that is so far
abbrev pub Tile : (m n : ℕ) → (l d from : List Float) → (low count : ℕ) → List Float → (a b : ℕ) → List Float → Type 0
Tile m n l d from = Held m n (lower_transpose_rightsolve m n l from) (ldlt_right_matsolve m n l d from)

-- the rows above i are solved
abbrev pub Above : (m n : ℕ) → (l d from : List Float) → ℕ → List Float → Type 0
Above m n l d from i x = (r c : ℕ) → r < i → c < n → at x m r c ≡ at (ldlt_right_matsolve m n l d from) m r c

module _ (m n : ℕ) (l d from : List Float) (long : length from ≡ m * n) where
  -- X L⁻ᵀ, then X D⁻¹, then X L⁻¹
  abbrev forward : List Float
  forward = lower_transpose_rightsolve m n l from

  abbrev scaled : List Float
  scaled = diag_right_matsolve m n d forward

  abbrev solved : List Float
  solved = ldlt_right_matsolve m n l d from

  long-forward : length forward ≡ m * n
  long-forward = forward-length m n l from ∙ long

  long-scaled : length scaled ≡ m * n
  long-scaled = scaled-length m n d forward ∙ long-forward

  long-solved : length solved ≡ m * n
  unfolding ldlt_right_matsolve
  long-solved = backward-length m n l scaled ∙ long-scaled

  -- what the last loop starts from, where column n - 1 - u holds z
  abbrev scaled_by : ℕ → Float → Float
  scaled_by u z = mul binary64 z (inverse (get_or d (n - 1 - u) nan))

  solved-at : (r u : ℕ) → r < m → u < n → behind m n l solved r u (scaled_by u (at forward m r (n - 1 - u))) ≡ at solved m r (n - 1 - u)
  unfolding ldlt_right_matsolve
  solved-at r u hr hu =
      ap (behind m n l (lower_right_solve m n l scaled) r u) (sym (scaled_at m n d forward long-forward r (n - 1 - u) hr (omega arith)))
      ∙ sym (backward-at m n l scaled long-scaled r u hr hu)

  module _ (low count : ℕ) (fits : low + count ≤ m) (x₀ : List Float) where
    pub forward-more : (j : ℕ) (x x' : List Float) → j < n → Tile m n l d from low count x₀ j n x
        → Wrote m (λ r. lost m x r (λ v. v) (at l n j) j (at from m r j)) j low count x x' → Tile m n l d from low count x₀ (j + 1) n x'
    forward-more j x x' hj s o =
        held_more m n forward solved low count fits x₀ j n (j + 1) n j (λ r. lost m x r (λ v. v) (at l n j) j (at from m r j)) x x' s o (λ c g q. omega arith) (λ c g q. g)
        (λ g r p h.
        lost-same m x forward r (λ v. v) (at l n j) j (λ v k. s.left r v p h k) (at from m r j)
        ∙ sym (forward-at m n l from long r j (omega arith) hj))
        (λ g. absurd (omega arith))

    pub backward-more : (u : ℕ) (x x' : List Float) → u < n → Tile m n l d from low count x₀ (n - u) (n - u) x
        → Wrote m (λ r. behind m n l x r u (scaled_by u (at x m r (n - 1 - u)))) (n - 1 - u) low count x x'
        → Tile m n l d from low count x₀ (n - (u + 1)) (n - (u + 1)) x'
    backward-more u x x' hu s o =
        held_more m n forward solved low count fits x₀ (n - u) (n - u) (n - (u + 1)) (n - (u + 1)) (n - 1 - u) (λ r. behind m n l x r u (scaled_by u (at x m r (n - 1 - u)))) x x' s o
        (λ c g q. omega arith) (λ c g q. omega arith)
        (λ g. absurd (omega arith))
        (λ g r p h.
        lost-same m x solved r (λ v. n - 1 - u + 1 + v) (λ v. at l n (n - 1 - u + 1 + v) (n - 1 - u)) u (λ v k. s.right r (n - 1 - u + 1 + v) p h (omega arith) (omega arith)) _
        ∙ ap (λ (z : Float). behind m n l solved r u (scaled_by u z)) (s.left r (n - 1 - u) p h (omega arith))
        ∙ solved-at r u (omega arith) hu)

  -- between the two loops, and after them
  pub forward-all : (low count j : ℕ) (x₀ x : List Float) → n ≤ j → Tile m n l d from low count x₀ j n x → Tile m n l d from low count x (n - 0) (n - 0) x
  forward-all low count j x₀ x p s =
      record { long = refl; left = λ r c l h g. s.left r c l h (omega arith); right = λ r c l h g k. absurd (omega arith); above = λ r c h g. refl }

  pub backward_all : (low count j u : ℕ) (x₀ x x' : List Float) → n ≤ u → Tile m n l d from low count x₀ j n x → Tile m n l d from low count x (n - u) (n - u) x'
      → RowsSolved m n solved low count x₀ x'
  backward_all low count j u x₀ x x' p s o =
      record { long = o.long ∙ s.long; done = λ r c l h g. o.right r c l h (omega arith) g; above = λ r c h g. o.above r c h g ∙ s.above r c h g }

  -- ---- the rows done so far

  pub above_none : (x : List Float) → Above m n l d from 0 x
  above_none x r c h g = absurd (omega arith)

  pub above_more : (i count : ℕ) (x x' : List Float) → Above m n l d from i x → RowsSolved m n solved i count x x' → Above m n l d from (i + count) x'
  above_more i count x x' s o r c h g = split (dec_lt r i)
    where
      split : Dec (r < i) → at x' m r c ≡ at solved m r c
      split (yes l) = o.above r c l g ∙ s r c l g
      split (no l) = o.done r c (omega arith) h g

  pub above_all : (i : ℕ) (x : List Float) → length x ≡ m * n → m ≤ i → Above m n l d from i x → x ≡ solved
  above_all i x lx h s = by_entries m n x solved lx long-solved (λ r c hr hc. s r c (omega arith) hc)
