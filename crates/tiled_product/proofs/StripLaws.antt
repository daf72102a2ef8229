-- Entries written into three columns.
--     tiled-length, tiled-done, tiled-rest    one tile
--     strip-none, strip-more, strip_all       a loop over the rows, tile after tile
-- Assumes nothing.
use Rattle.std.specs.Prelude.{◌≡◌, ℕ, zero, suc, ◌+◌, ◌*◌, ◌<◌, ◌≤◌, List, length}
use mathlib.Core.Path.{refl, sym, ap, subst, ◌∙◌}
use native.Mathlib.Decide.{ℕ_discrete, dec_lt}
use native.Mathlib.Nat.{le_antisymm}
use native.Mathlib.Omega.{arith}
use lib.Ieee.{Float}
use lib.ListN.{length-set}
use Rattle.scalar.specs.Loop.{steps}
use Rattle.scalar.specs.Block.{at, put}
use Rattle.tiled_product.specs.Tiled.{column_by, tiled_by, Stripped}
use Rattle.tiled_product.proofs.EntryLaws.{at-put, at_other}

module _ (m n : ℕ) (e : ℕ → ℕ → Float) where
  -- ---- rows of one column

  column-length : (j low count : ℕ) (y : List Float) → length (column_by m e j low count y) ≡ length y
  unfolding steps
  column-length j low zero y = refl
  column-length j low (suc count) y = length-set (column_by m e j low count y) (low + count + j * m) (e (low + count) j) ∙ column-length j low count y

  module _ (y : List Float) (long : length y ≡ m * n) (j low : ℕ) where
    column-other : (count r c : ℕ) → low + count ≤ m → r < m → (c ≡ j → low ≤ r → r < low + count → ⊥) → at (column_by m e j low count y) m r c ≡ at y m r c
    unfolding steps
    column-other zero r c fits hr ne = refl
    column-other (suc count) r c fits hr ne =
        at_other m n (column_by m e j low count y) (column-length j low count y ∙ long) (low + count) j r c (e (low + count) j) (omega arith) hr (λ p q. ne q (omega arith) (omega arith))
        ∙ column-other count r c (omega arith) hr (λ q l h. ne q l (omega arith))

    column-in : (count r : ℕ) → low + count ≤ m → j < n → low ≤ r → r < low + count → at (column_by m e j low count y) m r j ≡ e r j
    unfolding steps
    column-in zero r fits hj l h = absurd (omega arith)
    column-in (suc count) r fits hj l h = split (λ g. column-in count r (omega arith) hj l g) (dec_lt r (low + count))
      where
        x : List Float
        x = column_by m e j low count y

        split : (r < low + count → at x m r j ≡ e r j) → Dec (r < low + count) → at (put x m (low + count) j (e (low + count) j)) m r j ≡ e r j
        split f (yes g) = at_other m n x (column-length j low count y ∙ long) (low + count) j r j (e (low + count) j) (omega arith) (omega arith) (λ p q. omega arith) ∙ f g
        split f (no g) =
            let p : low + count ≡ r = omega arith in
            subst (λ (r : ℕ). at (put x m (low + count) j (e (low + count) j)) m r j ≡ e r j) p
            (at-put m n x (column-length j low count y ∙ long) (low + count) j (e (low + count) j) (omega arith) hj)

  -- ---- one tile

  module _ (j0 j1 j2 : ℕ) (h0 : j0 < n) (h1 : j1 < n) (h2 : j2 < n) (low count : ℕ) (fits : low + count ≤ m) (y : List Float) (long : length y ≡ m * n) where
    -- after the first and the second column
    abbrev y1 : List Float
    y1 = column_by m e j0 low count y

    abbrev y2 : List Float
    y2 = column_by m e j1 low count y1

    length1 : length y1 ≡ m * n
    length1 = column-length j0 low count y ∙ long

    length2 : length y2 ≡ m * n
    length2 = column-length j1 low count y1 ∙ length1

    pub tiled-length : length (tiled_by m e j0 j1 j2 low count y) ≡ length y
    unfolding tiled_by
    tiled-length = column-length j2 low count y2 ∙ column-length j1 low count y1 ∙ column-length j0 low count y

    -- an entry of another row or column
    pub tiled-rest : (r c : ℕ) → r < m → (low ≤ r → r < low + count → (c ≡ j0 → ⊥) × (c ≡ j1 → ⊥) × (c ≡ j2 → ⊥)) → at (tiled_by m e j0 j1 j2 low count y) m r c ≡ at y m r c
    unfolding tiled_by
    tiled-rest r c hr ne =
        column-other y2 length2 j2 low count r c fits hr (λ q l h. (ne l h).2 q) ∙ column-other y1 length1 j1 low count r c fits hr (λ q l h. (ne l h).1 q)
        ∙ column-other y long j0 low count r c fits hr (λ q l h. (ne l h).0 q)

    pub tiled-done : (r c : ℕ) → low ≤ r → r < low + count → ((c ≡ j0 → ⊥) → (c ≡ j1 → ⊥) → c ≡ j2) → at (tiled_by m e j0 j1 j2 low count y) m r c ≡ e r c
    unfolding tiled_by
    tiled-done r c l h one = third (ℕ_discrete c j2)
      where
        done : List Float
        done = column_by m e j2 low count y2

        first : (c ≡ j2 → ⊥) → (c ≡ j1 → ⊥) → Dec (c ≡ j0) → at done m r c ≡ e r c
        first n2 n1 (yes q) =
            column-other y2 length2 j2 low count r c fits (omega arith) (λ p g u. n2 p) ∙ column-other y1 length1 j1 low count r c fits (omega arith) (λ p g u. n1 p)
            ∙ subst (λ (c : ℕ). at y1 m r c ≡ e r c) (sym q) (column-in y long j0 low count r fits h0 l h)
        first n2 n1 (no q) = absurd (n2 (one q n1))

        second : (c ≡ j2 → ⊥) → Dec (c ≡ j1) → at done m r c ≡ e r c
        second n2 (yes q) =
            column-other y2 length2 j2 low count r c fits (omega arith) (λ p g u. n2 p) ∙ subst (λ (c : ℕ). at y2 m r c ≡ e r c) (sym q) (column-in y1 length1 j1 low count r fits h1 l h)
        second n2 (no q) = first n2 q (ℕ_discrete c j0)

        third : Dec (c ≡ j2) → at done m r c ≡ e r c
        third (yes q) = subst (λ (c : ℕ). at done m r c ≡ e r c) (sym q) (column-in y2 length2 j2 low count r fits h2 l h)
        third (no q) = second q (ℕ_discrete c j1)

-- ---- a loop over the rows

module _ (m n : ℕ) (e : ℕ → ℕ → Float) (j0 j1 j2 : ℕ) (h0 : j0 < n) (h1 : j1 < n) (h2 : j2 < n) (y₀ : List Float) (long : length y₀ ≡ m * n) where
  pub strip-none : Stripped m n e j0 j1 j2 0 y₀ y₀
  strip-none = record { long = refl; done = λ r c h. absurd (omega arith); rest = λ r c hr hc ne. refl }

  -- after a tile, whose entries below row i are those that are wanted
  pub strip-more : (e' : ℕ → ℕ → Float) (y y' : List Float) (i count : ℕ) → i + count ≤ m → Stripped m n e j0 j1 j2 i y₀ y
      → ((r c : ℕ) → i ≤ r → r < m → c < n → e' r c ≡ e r c) → y' ≡ tiled_by m e' j0 j1 j2 i count y → Stripped m n e j0 j1 j2 (i + count) y₀ y'
  strip-more e' y y' i count fits s same w =
      record {
        long = ap (λ (l : List Float). length l) w ∙ tiled-length m n e' j0 j1 j2 h0 h1 h2 i count fits y (s.long ∙ long) ∙ s.long;
        done = λ r c h hr hc one. rw w (split r c h hr hc one (dec_lt r i));
        rest = λ r c hr hc ne.
            rw w (tiled-rest m n e' j0 j1 j2 h0 h1 h2 i count fits y (s.long ∙ long) r c hr (λ l h. ne h) ∙ s.rest r c hr hc (λ l. ne (omega arith)));
      }
    where
      split : (r c : ℕ) → r < i + count → r < m → c < n → ((c ≡ j0 → ⊥) → (c ≡ j1 → ⊥) → c ≡ j2) → Dec (r < i) → at (tiled_by m e' j0 j1 j2 i count y) m r c ≡ e r c
      split r c h hr hc one (yes l) = tiled-rest m n e' j0 j1 j2 h0 h1 h2 i count fits y (s.long ∙ long) r c hr (λ g u. absurd (omega arith)) ∙ s.done r c l hr hc one
      split r c h hr hc one (no l) = tiled-done m n e' j0 j1 j2 h0 h1 h2 i count fits y (s.long ∙ long) r c (omega arith) h one ∙ same r c (omega arith) hr hc

  pub strip_all : (y : List Float) (i : ℕ) → i ≤ m → m ≤ i → Stripped m n e j0 j1 j2 i y₀ y → Stripped m n e j0 j1 j2 m y₀ y
  strip_all y i l g s = subst (λ (k : ℕ). Stripped m n e j0 j1 j2 k y₀ y) (le_antisymm l g) s
