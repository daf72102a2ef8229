-- The sums of the counting pass: over the blocks so far, over a row, and over L by columns instead of rows. Assumes nothing.
use Rattle.std.specs.Prelude.{◌≡◌, ℕ, ◌+◌, ◌-◌, ◌*◌, ◌/◌, ◌<◌, ◌≤◌, Bool, T, List, [], ◌∷◌, length, get_or}
use mathlib.Core.Path.{refl, sym, ap, ◌∙◌}
use native.Mathlib.Omega.{arith}
use native.Mathlib.Numerals.{add-one}
use native.Mathlib.Nat.{mul-le-mul, mul-suc, mul-zero, mul-add}
use Rattle.graph.specs.Sets.{elem, from, between, sum}
use Rattle.graph.specs.Symbolic.{rows}
use Rattle.graph.specs.Count.{products_of}
use Rattle.graph.proofs.SetLaws.{between-elim, between-intro, between-inc, inc-uniq}
use Rattle.graph.proofs.CountLaws.{same_test}
use Rattle.graph.proofs.SumLaws.{sum-ext, sum-swap, weigh, sum-weights}
use Rattle.graph.proofs.SymbolicLaws.{rows_right, rows_ascending}
use Rattle.buckets.proofs.Laws.{sum-snoc}
use Rattle.symbolic.proofs.Columns.{reached, reached-once, reached-rows}

-- ---- the sum of f over the first k numbers

abbrev pub up_to : (ℕ → ℕ) → ℕ → ℕ
up_to f k = sum (from 0 k) f

pub up_next : (f : ℕ → ℕ) (k : ℕ) → up_to f (k + 1) ≡ up_to f k + f k
up_next f k =
    let z : 0 + k ≡ k = omega arith in
    ap (λ (m : ℕ). sum (from 0 m) f) (add-one k) ∙ (sum-snoc f 0 k ∙ ap (λ (m : ℕ). sum (from 0 k) f + f m) z)

pub up_all : (f : ℕ → ℕ) (n k : ℕ) → k ≤ n → n ≤ k → up_to f k ≡ sum (between 0 n) f
up_all f n k a b = let e : k ≡ n - 0 = omega arith in ap (λ (m : ℕ). sum (from 0 m) f) e

-- ---- products

pub products-le : (c : ℕ) → c ≤ 65536 → c * (c + 1) ≤ 4295032832
products-le c h = mul-le-mul h (more c h)
  where
    more : (c : ℕ) → c ≤ 65536 → c + 1 ≤ 65537
    more c h = omega arith

pub half_le : (x : ℕ) → x ≤ 4295032832 → x / 2 ≤ 4295032832
half_le x h = omega arith

-- at the head of the loop over the counts: the totals of the first k columns
pub record Totalled (count : List ℕ) (stored products k : ℕ) : Type 0 where
  pub inside : k ≤ length count
  pub blocks : stored ≡ up_to (λ i. get_or count i 0) k
  pub work : products ≡ up_to (λ i. products_of (get_or count i 0)) k
  pub small : (stored ≤ 65536 * k) × (products ≤ 4295032832 * k)

pub total-begins : (count : List ℕ) → Totalled count 0 0 0
total-begins count = record { inside = omega arith; blocks = refl; work = refl; small = (omega arith, omega arith) }

pub total-turns : (count : List ℕ) (stored products k : ℕ) → Totalled count stored products k → k < length count → get_or count k 0 ≤ 65536
    → Totalled count (stored + get_or count k 0) (products + products_of (get_or count k 0)) (k + 1)
total-turns count stored products k t h few =
    let a = t.small.0 in
    let b = t.small.1 in
    let c = half_le (get_or count k 0 * (get_or count k 0 + 1)) (products-le (get_or count k 0) few) in
    record {
      inside = omega arith;
      blocks = ap (λ (m : ℕ). m + get_or count k 0) t.blocks ∙ sym (up_next (λ i. get_or count i 0) k);
      work = ap (λ (m : ℕ). m + products_of (get_or count k 0)) t.work ∙ sym (up_next (λ i. products_of (get_or count i 0)) k);
      small = (bound 65536 stored k (get_or count k 0) a few, bound 4295032832 products k (products_of (get_or count k 0)) b c);
    }
  where
    bound : (b s k x : ℕ) → s ≤ b * k → x ≤ b → s + x ≤ b * (k + 1)
    bound b s k x h g = let e : b * (k + 1) ≡ b * k + b = mul-add b k in omega arith
      where
        mul-add : (b k : ℕ) → b * (k + 1) ≡ b * k + b
        mul-add b k = ap (λ (m : ℕ). b * m) (add-one k) ∙ mul-suc b k

pub total-ends : (count : List ℕ) (stored products k : ℕ) → Totalled count stored products k → length count ≤ k
    → (stored ≡ sum (between 0 (length count)) (λ i. get_or count i 0)) × (products ≡ sum (between 0 (length count)) (λ i. products_of (get_or count i 0)))
total-ends count stored products k t h =
    (t.blocks ∙ up_all (λ i. get_or count i 0) (length count) k t.inside h, t.work ∙ up_all (λ i. products_of (get_or count i 0)) (length count) k t.inside h)

-- ---- the areas of a row: its dimension times the sum of the columns'

pub sum-times : (d : ℕ) (l : List ℕ) (f : ℕ → ℕ) → sum l (λ k. d * f k) ≡ d * sum l f
sum-times d [] f = sym (mul-zero d)
sum-times d (x ∷ l) f = ap (λ (s : ℕ). d * f x + s) (sum-times d l f) ∙ sym (mul-add d (f x) (sum l f))

pub times-le : (d r : ℕ) → d ≤ 16 → r ≤ 65536 → d * r ≤ 1048576
times-le d r h g = mul-le-mul h g

-- ---- by rows, or by columns

module _ (linked : ℕ → ℕ → Bool) (n : ℕ) (symm : (a b : ℕ) → T (linked a b) → T (linked b a)) (f : ℕ → ℕ → ℕ) where
  -- row j: over the columns that reach it, or over all columns that have it
  by_row : (j : ℕ) → j < n → sum (reached linked n symm j) (f j) ≡ sum (between 0 n) (λ k. weigh (elem j (rows linked n k)) (f j k))
  by_row j h =
      sum-weights (reached linked n symm j) (between 0 n) (f j) (reached-once linked n symm j h) (inc-uniq (between 0 n) (between-inc 0 n))
      (λ k m. let r = (reached-rows linked n symm j k h).0 m in between-intro k 0 n (omega arith) (omega arith))
      ∙ sum-ext (between 0 n) (λ k. weigh (elem k (reached linked n symm j)) (f j k)) (λ k. weigh (elem j (rows linked n k)) (f j k))
      (λ k m. ap (λ (b : Bool). weigh b (f j k))
      (same_test (elem k (reached linked n symm j)) (elem j (rows linked n k)) (λ t. ((reached-rows linked n symm j k h).0 t).1)
      (λ t. (reached-rows linked n symm j k h).1 (((rows_right linked n symm k (between-elim k 0 n m).1).sound j t).0, t))))

  -- column k: over its rows
  by-column : (k : ℕ) → k < n → sum (between 0 n) (λ j. weigh (elem j (rows linked n k)) (f j k)) ≡ sum (rows linked n k) (λ j. f j k)
  by-column k h =
      sym (sum-weights (rows linked n k) (between 0 n) (λ j. f j k) (inc-uniq (rows linked n k) (rows_ascending linked n symm k h)) (inc-uniq (between 0 n) (between-inc 0 n))
      (λ j m. between-intro j 0 n (omega arith) ((rows_right linked n symm k h).sound j m).1))

  pub by_columns : sum (between 0 n) (λ j. sum (reached linked n symm j) (f j)) ≡ sum (between 0 n) (λ k. sum (rows linked n k) (λ j. f j k))
  by_columns =
      sum-ext (between 0 n) (λ j. sum (reached linked n symm j) (f j)) (λ j. sum (between 0 n) (λ k. weigh (elem j (rows linked n k)) (f j k))) (λ j m. by_row j (between-elim j 0 n m).1)
      ∙ sum-swap (between 0 n) (between 0 n) (λ j k. weigh (elem j (rows linked n k)) (f j k))
      ∙ sum-ext (between 0 n) (λ k. sum (between 0 n) (λ j. weigh (elem j (rows linked n k)) (f j k))) (λ k. sum (rows linked n k) (λ j. f j k)) (λ k m. by-column k (between-elim k 0 n m).1)
