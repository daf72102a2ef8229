-- Tiles of three columns.
--     between_none, -more, -all         a turn of entries that are held
--     after_none, -all                  entries of a column that are held, turn after turn
--     turning_none, -more, -all         and within a turn
--     kept, tiled                       and written
--     strip-after                       a tile below the rows that are written
--     columns_none, -more, -all         the columns done so far, until all are
--     sub-is-tiled                      Y - A diag(d) Bᵀ is Y - A (B diag(d))ᵀ
-- Assumes nothing.
use Rattle.std.specs.Prelude.{◌≡◌, ℕ, zero, suc, ◌+◌, ◌*◌, ◌<◌, ◌≤◌, List, length, get_or, set}
use mathlib.Core.Path.{refl, sym, ap, subst, ◌∙◌}
use native.Mathlib.Decide.{ℕ_discrete, dec_lt}
use native.Mathlib.Omega.{arith}
use lib.Ieee.{Float, nan, binary64, mul}
use native.Mathlib.Nat.{le_antisymm}
use lib.Seq.{get_or-set_same, get_or-set_other}
use Rattle.scalar.specs.Loop.{steps}
use Rattle.scalar.specs.Block.{at, put, lose}
use Rattle.scalar.proofs.Laws.{steps-same, steps-more}
use Rattle.kernel_product.specs.Product.{sub_mat_diag_mat_t}
use Rattle.tiled_product.specs.Tiled.{Formula, Holds, after_turns, Stripped, Stands, Onward, times_diag, lose_at, lost_entry, sub_mat_mat_t, column_by, tiled_by, put_down, each_entry}
use Rattle.tiled_product.proofs.EntryLaws.{by_entries, column_step, every, columns_length}
use Rattle.tiled_product.proofs.StripLaws.{strip-more}

-- ---- entries of a column

-- a turn of `count` entries, one after the other: the first q of s are g's already, and the others still f's
module _ (f g : ℕ → Float) where
  abbrev pub Between : (q count : ℕ) → List Float → Type 0
  Between q count s = Holds q g s × ((r : ℕ) → q ≤ r → r < count → get_or s r nan ≡ f r)

  pub between_none : (count : ℕ) (s : List Float) → Holds count f s → Between 0 count s
  between_none count s held = ((λ r h. absurd (omega arith)), (λ r l h. held r h))

  pub between_more : (q count : ℕ) (s : List Float) (x : Float) → q < count → length s ≡ count → Between q count s → (get_or s q nan ≡ f q → x ≡ g q)
      → Between (q + 1) count (set s q x)
  between_more q count s x fits long (done, rest) e =
      ((λ r h. split r h (dec_lt r q)), (λ r l h. get_or-set_other s q r x nan (λ p. omega arith) ∙ rest r (omega arith) h))
    where
      split : (r : ℕ) → r < q + 1 → Dec (r < q) → get_or (set s q x) r nan ≡ g r
      split r h (yes l) = get_or-set_other s q r x nan (λ p. omega arith) ∙ done r l
      split r h (no l) =
          let p : q ≡ r = omega arith in
          subst (λ (r : ℕ). get_or (set s q x) r nan ≡ g r) p (get_or-set_same s q x nan (omega arith) ∙ e (rest q (omega arith) fits))

  pub between_all : (q count : ℕ) (s : List Float) → count ≤ q → Between q count s → Holds count g s
  between_all q count s lo (done, rest) r h = done r (omega arith)

-- `count` entries of column j, from row i on, of a block that holds y
module _ (f : Formula) (m : ℕ) (y : List Float) (i j : ℕ) where
  -- after t turns
  abbrev pub After : (t count : ℕ) → List Float → Type 0
  After t count = Holds count (λ q. after_turns f t (i + q) j (at y m (i + q) j))

  pub after_none : (count : ℕ) (s : List Float) → Holds count (λ q. f.first (i + q) j (at y m (i + q) j)) s → After 0 count s
  unfolding steps
  after_none count s held = held

  -- within turn t
  abbrev pub Turning : (t q count : ℕ) → List Float → Type 0
  Turning t = Between (λ q. after_turns f t (i + q) j (at y m (i + q) j)) (λ q. after_turns f (t + 1) (i + q) j (at y m (i + q) j))

  pub turning_none : (t count : ℕ) (s : List Float) → After t count s → Turning t 0 count s
  turning_none t count s held = between_none _ _ count s held

  pub turning_more : (t q count : ℕ) (s : List Float) (x : Float) → q < count → length s ≡ count → Turning t q count s
      → x ≡ f.turn (get_or s q nan) (f.left (i + q) t) (f.right j t) → Turning t (q + 1) count (set s q x)
  turning_more t q count s x fits long held e =
      between_more _ _ q count s x fits long held
      (λ was. e ∙ steps-more (λ t s. f.turn s (f.left (i + q) t) (f.right j t)) t (f.first (i + q) j (at y m (i + q) j)) (get_or s q nan) was)

  pub turning_all : (t q count : ℕ) (s : List Float) → count ≤ q → Turning t q count s → After (t + 1) count s
  turning_all t q count s lo held = between_all _ _ q count s lo held

  pub after_all : (t count : ℕ) (s : List Float) → t ≤ f.turns → f.turns ≤ t → After t count s → After f.turns count s
  after_all t count s lo hi = subst (λ (t : ℕ). After t count s) (le_antisymm lo hi)

-- written, they are those of e
pub kept : (m : ℕ) (e : ℕ → ℕ → Float) (j i n : ℕ) (s : List Float) → Holds n (λ q. e (i + q) j) s → (y : List Float) → put_down m j i n s y ≡ column_by m e j i n y
kept m e j i n s held =
    steps-same (λ q x. put x m (i + q) j (get_or s q nan)) (λ q x. put x m (i + q) j (e (i + q) j)) n (λ q x h. ap (put x m (i + q) j) (held q h))

module _ (m n : ℕ) (g : ℕ → ℕ → Float → Float) where
  -- the entries wanted, of a block that holds y
  abbrev of : List Float → ℕ → ℕ → Float
  of y r c = g r c (at y m r c)

  -- three columns of a tile
  pub tiled : (y : List Float) (j0 j1 j2 i count : ℕ) (s0 s1 s2 y' : List Float)
      → Holds count (λ q. of y (i + q) j0) s0 → Holds count (λ q. of y (i + q) j1) s1 → Holds count (λ q. of y (i + q) j2) s2
      → y' ≡ put_down m j2 i count s2 (put_down m j1 i count s1 (put_down m j0 i count s0 y)) → y' ≡ tiled_by m (of y) j0 j1 j2 i count y
  unfolding tiled_by
  tiled y j0 j1 j2 i count s0 s1 s2 y' h0 h1 h2 w =
      w ∙ kept m (of y) j2 i count s2 h2 _ ∙ ap (column_by m (of y) j2 i count) (kept m (of y) j1 i count s1 h1 _ ∙ ap (column_by m (of y) j1 i count) (kept m (of y) j0 i count s0 h0 y))

  -- a tile below the rows that are written: there Y is as it was, so its entries are those wanted
  pub strip-after : (j0 j1 j2 : ℕ) → j0 < n → j1 < n → j2 < n → (y₀ y y' : List Float) → length y₀ ≡ m * n → (i count : ℕ) → i + count ≤ m → Stripped m n (of y₀) j0 j1 j2 i y₀ y
      → y' ≡ tiled_by m (of y) j0 j1 j2 i count y → Stripped m n (of y₀) j0 j1 j2 (i + count) y₀ y'
  strip-after j0 j1 j2 h0 h1 h2 y₀ y y' long i count fits s =
      strip-more m n (of y₀) j0 j1 j2 h0 h1 h2 y₀ long (of y) y y' i count fits s
      (λ r c l hr hc. ap (g r c) (s.rest r c hr hc (λ h. absurd (omega arith))))

  -- ---- the columns done so far

  module _ (y₀ : List Float) where
    -- the columns below j are done, and the others are as they were
    pub record Columns (y : List Float) (j : ℕ) : Type 0 where
      pub long : length y ≡ m * n
      pub done : (r c : ℕ) → r < m → c < n → c < j → at y m r c ≡ of y₀ r c
      pub rest : (r c : ℕ) → r < m → c < n → j ≤ c → at y m r c ≡ at y₀ m r c

    pub columns_none : length y₀ ≡ m * n → Columns y₀ 0
    columns_none long = record { long = long; done = λ r c hr hc h. absurd (omega arith); rest = λ r c hr hc h. refl }

    -- three columns more; past the last, the last stands in
    pub columns_more : (y y' : List Float) (j j1 j2 next : ℕ) → Columns y j → j < n → Stands n j 1 j1 → Stands n j 2 j2 → Onward n j next
        → Stripped m n (of y) j j1 j2 m y y' → Columns y' next
    columns_more y y' j j1 j2 next s hj s1 s2 o w =
        record {
          long = w.long ∙ s.long;
          done = λ r c hr hc h. split r c hr hc (omega (arith, o.near)) (dec_lt c j);
          rest = λ r c hr hc h.
              w.rest r c hr hc (λ l. let t = o.there (omega arith) in ((λ q. omega arith), (λ q. omega (arith, s1.near)), (λ q. omega (arith, s2.near))))
              ∙ s.rest r c hr hc (omega (arith, o.after));
        }
      where
        split : (r c : ℕ) → r < m → c < n → c < j + 3 → Dec (c < j) → at y' m r c ≡ of y₀ r c
        split r c hr hc h (yes l) = w.rest r c hr hc (λ u. ((λ q. omega arith), (λ q. omega (arith, s1.from)), (λ q. omega (arith, s2.from)))) ∙ s.done r c hr hc l
        split r c hr hc h (no l) =
            w.done r c hr hr hc (λ n0 n1. third n0 n1 (ℕ_discrete c (j + 1))) ∙ ap (g r c) (s.rest r c hr hc (omega arith))
          where
            third : (c ≡ j → ⊥) → (c ≡ j1 → ⊥) → Dec (c ≡ j + 1) → c ≡ j2
            third n0 n1 (yes q) = absurd (n1 (q ∙ sym (s1.there (omega arith))))
            third n0 n1 (no q) = let p : c ≡ j + 2 = omega arith in p ∙ sym (s2.there (omega arith))

    pub columns_all : (y : List Float) (j : ℕ) → length y₀ ≡ m * n → n ≤ j → Columns y j → y ≡ each_entry m n g y₀
    columns_all y j long h s =
        by_entries m n y (each_entry m n g y₀) s.long (columns_length m n (λ r c x. of y₀ r c) n y₀ ∙ long)
        (λ r c hr hc. s.done r c hr hc (omega arith) ∙ sym (every m n (λ r c x. of y₀ r c) y₀ long r c hr hc))

-- ---- the kernel's product

module _ (n k : ℕ) (d b : List Float) (long : length b ≡ n * k) where
  times-at : (j t : ℕ) → j < n → t < k → at (times_diag n k d b) n j t ≡ mul binary64 (at b n j t) (get_or d t nan)
  unfolding times_diag
  times-at j t hj ht = every n k (λ j t x. mul binary64 x (get_or d t nan)) b long j t hj ht

module _ (m n : ℕ) (y a d b : List Float) (long : length y ≡ m * n) where
  -- the kernel's loop over t
  abbrev turn : ℕ → ℕ → ℕ → Float → Float
  turn t r c s = lose s (at a m r t) (mul binary64 (at b n c t) (get_or d t nan))

  worked-length : (k : ℕ) → length (sub_mat_diag_mat_t m n k y a d b) ≡ m * n
  unfolding sub_mat_diag_mat_t steps
  worked-length zero = long
  worked-length (suc k) = columns_length m n (turn k) n (steps (λ t. steps (column_step m n (turn t)) n) k y) ∙ worked-length k

  worked-at : (k r c : ℕ) → r < m → c < n → at (sub_mat_diag_mat_t m n k y a d b) m r c ≡ steps (λ t. turn t r c) k (at y m r c)
  unfolding sub_mat_diag_mat_t steps
  worked-at zero r c hr hc = refl
  worked-at (suc k) r c hr hc = every m n (turn k) (sub_mat_diag_mat_t m n k y a d b) (worked-length k) r c hr hc ∙ ap (turn k r c) (worked-at k r c hr hc)

  pub sub-is-tiled : (k : ℕ) → length b ≡ n * k → sub_mat_diag_mat_t m n k y a d b ≡ sub_mat_mat_t m n k y a (times_diag n k d b)
  unfolding sub_mat_mat_t
  sub-is-tiled k lb =
      by_entries m n (sub_mat_diag_mat_t m n k y a d b) (sub_mat_mat_t m n k y a (times_diag n k d b)) (worked-length k) (columns_length m n (λ r c x. lost_entry m n k y a (times_diag n k d b) r c) n y ∙ long)
      (λ r c hr hc.
      worked-at k r c hr hc
      ∙ steps-same (λ t. turn t r c) (lose_at m n a (times_diag n k d b) r c) k (λ t s ht. ap (lose s (at a m r t)) (sym (times-at n k d b lb c t hc ht))) (at y m r c)
      ∙ sym (every m n (λ r c x. lost_entry m n k y a (times_diag n k d b) r c) y long r c hr hc))
