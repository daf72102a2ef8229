-- Blocks by their entries.
--     apart, at-put, at_other    an entry that is written, and the others
--     steps-part                 a part of what a loop leaves
--     every                      loops that change each entry once
--     by_entries                 two blocks with the same entries
-- Assumes nothing.
use Rattle.std.specs.Prelude.{◌≡◌, ℕ, zero, suc, ◌+◌, ◌-◌, ◌*◌, ◌<◌, ◌≤◌, List, length, get_or}
use mathlib.Core.Path.{refl, sym, ap, subst, ◌∙◌}
use native.Mathlib.Decide.{dec_lt}
use native.Mathlib.Nat.{suc-mul, mul_comm, mul-le-mul_right}
use native.Mathlib.Omega.{arith}
use lib.Ieee.{Float, nan}
use lib.ListN.{length-set}
use lib.Seq.{get_or-set_same, get_or-set_other, ext_get_or}
use Rattle.scalar.specs.Loop.{steps}
use Rattle.scalar.specs.Block.{at, put}
use Rattle.scalar.proofs.Laws.{column}

-- ---- loops

-- a part of what a loop leaves, where a turn changes it by itself
pub steps-part : {A B : Type 0} (p : A → B) (f : ℕ → A → A) (g : ℕ → B → B) → ((k : ℕ) (a : A) → p (f k a) ≡ g k (p a)) → (n : ℕ) (a : A) → p (steps f n a) ≡ steps g n (p a)
unfolding steps
steps-part p f g h zero a = refl
steps-part p f g h (suc n) a = h n (steps f n a) ∙ ap (g n) (steps-part p f g h n a)

-- ---- places: columns of m rows

module _ (m : ℕ) where
  -- entries of different rows or columns stand apart
  pub apart : (r c i j : ℕ) → r < m → i < m → (r ≡ i → c ≡ j → ⊥) → r + c * m ≡ i + j * m → ⊥
  apart r c i j hr hi ne e = split (dec_lt c j) (dec_lt j c)
    where
      split : Dec (c < j) → Dec (j < c) → ⊥
      split (yes l) q = let s = suc-mul c m in let le = mul-le-mul_right m l in omega arith
      split (no l) (yes g) = let s = suc-mul j m in let le = mul-le-mul_right m g in omega arith
      split (no l) (no g) = let same : c ≡ j = omega arith in let z = ap (λ (x : ℕ). x * m) same in ne (omega arith) same

  module _ (n : ℕ) (y : List Float) (long : length y ≡ m * n) where
    pub at-put : (i j : ℕ) (x : Float) → i < m → j < n → at (put y m i j x) m i j ≡ x
    at-put i j x hi hj = get_or-set_same y (i + j * m) x nan (omega (arith, column m n j hj))

    pub at_other : (i j r c : ℕ) (x : Float) → i < m → r < m → (r ≡ i → c ≡ j → ⊥) → at (put y m i j x) m r c ≡ at y m r c
    at_other i j r c x hi hr ne = get_or-set_other y (i + j * m) (r + c * m) x nan (apart r c i j hr hi ne)

-- ---- two blocks with the same entries

pub record Place (m n p : ℕ) : Type 0 where
  pub r : ℕ
  pub c : ℕ
  pub low : r < m
  pub left : c < n
  pub place : p ≡ r + c * m

place-of : (m n p : ℕ) → p < n * m → Place m n p
place-of m zero p h = absurd (omega arith)
place-of m (suc n) p h = split (place-of m n p) (dec_lt p (n * m))
  where
    split : (p < n * m → Place m n p) → Dec (p < n * m) → Place m (suc n) p
    split f (yes l) = let q = f l in record { r = q.r; c = q.c; low = q.low; left = omega (arith, q.left); place = q.place }
    split f (no l) = let s = suc-mul n m in record { r = p - n * m; c = n; low = omega arith; left = omega arith; place = omega arith }

pub by_entries : (m n : ℕ) (x y : List Float) → length x ≡ m * n → length y ≡ m * n
    → ((r c : ℕ) → r < m → c < n → at x m r c ≡ at y m r c) → x ≡ y
by_entries m n x y lx ly same =
    ext_get_or nan x y (lx ∙ sym ly)
    (λ p h. let q = place-of m n p (omega (arith, mul_comm m n)) in subst (λ (o : ℕ). get_or x o nan ≡ get_or y o nan) (sym q.place) (same q.r q.c q.low q.left))

-- ---- loops that change each entry once, column by column

module _ (m n : ℕ) (g : ℕ → ℕ → Float → Float) where
  abbrev pub entry_step : ℕ → ℕ → List Float → List Float
  entry_step j i x = put x m i j (g i j (at x m i j))

  abbrev pub column_step : ℕ → List Float → List Float
  column_step j = steps (entry_step j) m

  rows-length : (j i : ℕ) (y : List Float) → length (steps (entry_step j) i y) ≡ length y
  unfolding steps
  rows-length j zero y = refl
  rows-length j (suc i) y = length-set (steps (entry_step j) i y) (i + j * m) _ ∙ rows-length j i y

  pub columns_length : (j : ℕ) (y : List Float) → length (steps column_step j y) ≡ length y
  unfolding steps
  columns_length zero y = refl
  columns_length (suc j) y = rows-length j m (steps column_step j y) ∙ columns_length j y

  module _ (y : List Float) (long : length y ≡ m * n) where
    -- an entry that the rows below i of column j do not have
    row_other : (j i r c : ℕ) → i ≤ m → r < m → (c ≡ j → i ≤ r) → at (steps (entry_step j) i y) m r c ≡ at y m r c
    unfolding steps
    row_other j zero r c hi hr ne = refl
    row_other j (suc i) r c hi hr ne =
        at_other m n (steps (entry_step j) i y) (rows-length j i y ∙ long) i j r c _ hi hr (λ e q. absurd (omega (arith, ne q)))
        ∙ row_other j i r c (omega arith) hr (λ q. omega (arith, ne q))

    row_in : (j i r : ℕ) → i ≤ m → j < n → r < i → at (steps (entry_step j) i y) m r j ≡ g r j (at y m r j)
    unfolding steps
    row_in j zero r hi hj h = absurd (omega arith)
    row_in j (suc i) r hi hj h = split (row_in j i r (omega arith) hj) (dec_lt r i)
      where
        split : (r < i → at (steps (entry_step j) i y) m r j ≡ g r j (at y m r j)) → Dec (r < i) → at (steps (entry_step j) (suc i) y) m r j ≡ g r j (at y m r j)
        split f (yes l) = at_other m n (steps (entry_step j) i y) (rows-length j i y ∙ long) i j r j _ hi (omega arith) (λ e q. omega arith) ∙ f l
        split f (no l) =
            let e : i ≡ r = omega arith in
            subst (λ (r : ℕ). at (steps (entry_step j) (suc i) y) m r j ≡ g r j (at y m r j)) e
            (at-put m n (steps (entry_step j) i y) (rows-length j i y ∙ long) i j _ hi hj ∙ ap (g i j) (row_other j i i j (omega arith) hi (λ q. omega arith)))

  module _ (y : List Float) (long : length y ≡ m * n) where
    col-other : (j r c : ℕ) → r < m → j ≤ c → at (steps column_step j y) m r c ≡ at y m r c
    unfolding steps
    col-other zero r c hr h = refl
    col-other (suc j) r c hr h =
        row_other (steps column_step j y) (columns_length j y ∙ long) j m r c (omega arith) hr (λ q. absurd (omega arith)) ∙ col-other j r c hr (omega arith)

    col-in : (j r c : ℕ) → r < m → j ≤ n → c < j → at (steps column_step j y) m r c ≡ g r c (at y m r c)
    unfolding steps
    col-in zero r c hr hj h = absurd (omega arith)
    col-in (suc j) r c hr hj h = split (col-in j r c hr (omega arith)) (dec_lt c j)
      where
        x : List Float
        x = steps column_step j y

        split : (c < j → at x m r c ≡ g r c (at y m r c)) → Dec (c < j) → at (column_step j x) m r c ≡ g r c (at y m r c)
        split f (yes l) = row_other x (columns_length j y ∙ long) j m r c (omega arith) hr (λ q. absurd (omega arith)) ∙ f l
        split f (no l) =
            let e : j ≡ c = omega arith in
            subst (λ (c : ℕ). at (column_step j x) m r c ≡ g r c (at y m r c)) e
            (row_in x (columns_length j y ∙ long) j m r (omega arith) hj hr ∙ ap (g r j) (col-other j r j hr (omega arith)))

    pub every : (r c : ℕ) → r < m → c < n → at (steps column_step n y) m r c ≡ g r c (at y m r c)
    every r c hr hc = col-in n r c hr (omega arith) hc
