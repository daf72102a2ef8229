-- What tables that pass give the passes, and what the passes leave. Assumes nothing.
use Rattle.std.specs.Prelude.{◌≡◌, ℕ, zero, suc, ◌+◌, ◌<◌, ◌≤◌, Bool, List, [], ◌∷◌, map, length, get_or}
use mathlib.Core.Path.{refl, sym, ap, subst, ◌∙◌}
use native.Mathlib.Omega.{arith}
use lib.ListN.{length-map}
use lib.Seq.{ext_get_or}
use Rattle.graph.specs.Sets.{from, between, sum}
use Rattle.graph.specs.Symbolic as L
use Rattle.graph.specs.Count.{products_of}
use Rattle.graph.proofs.SumLaws.{sum-ext}
use Rattle.graph.proofs.SymbolicLaws.{columns_length}
use Rattle.buckets.specs.Buckets.{lengths, before}
use Rattle.buckets.proofs.Laws.{lengths-at, before-sum}
use Rattle.tables.specs.Sound.{Sizes, PlanSound}
use Rattle.order.specs.Order.{sizes_of}
use Rattle.pattern.specs.Moved.{Lower}
use Rattle.symbolic.specs.Columns.{Sized}
use Rattle.analysis.specs.Plan.{stored_of, products_in, starts_of}

-- A's tables, as the pattern reads them
pub as-lower : (dims starts rows perm late : List ℕ) → PlanSound dims starts rows perm late → Lower (length dims) starts rows
as-lower dims starts rows perm late p = record {
  few = p.blocks;
  stored = p.stored;
  count = p.columns.ordered.entries;
  rising = p.columns.ordered.rising;
  inside = p.columns.ordered.inside;
  bounds = λ c h r m. p.columns.members c r h m;
  ascends = p.columns.increasing;
}

-- the dimensions under an order
pub sized : (n : ℕ) (dims order : List ℕ) → Sizes dims → length order ≡ n → Sized n (sizes_of dims order)
unfolding sizes_of
sized n dims order s e = record { count = length-map {A = ℕ} {B = ℕ} order (λ old. get_or dims old 0) ∙ e; small = small order }
  where
    small : (l : List ℕ) (k : ℕ) → get_or (map {A = ℕ} {B = ℕ} (λ old. get_or dims old 0) l) k 0 ≤ 16
    small [] k = omega arith
    small (x ∷ l) zero = s.small x
    small (x ∷ l) (suc k) = small l k

-- ---- where each column of L begins

module _ (linked : ℕ → ℕ → Bool) (n : ℕ) (count : List ℕ) (e : count ≡ lengths (L.columns linked n n)) where
  pub counts-at : (k : ℕ) → get_or count k 0 ≡ length (L.rows linked n k)
  unfolding L.rows
  counts-at k = ap (λ (l : List ℕ). get_or l k 0) e ∙ lengths-at (L.columns linked n n) k

  pub counts-long : length count ≡ n
  counts-long = ap length e ∙ length-map {A = List ℕ} {B = ℕ} (L.columns linked n n) length ∙ columns_length linked n n

  pub counts-before : (k : ℕ) → before count k ≡ sum (between 0 k) (λ c. length (L.rows linked n c))
  counts-before k = before-sum count k ∙ sum-ext (between 0 k) (λ c. get_or count c 0) (λ c. length (L.rows linked n c)) (λ c m. counts-at c)

  pub starts-made : (heads : List ℕ) → length heads ≡ n + 1 → ((k : ℕ) → k ≤ length count → get_or heads k 0 ≡ before count k) → heads ≡ starts_of linked n
  starts-made heads long listed =
      ext_get_or 0 heads (starts_of linked n) (long ∙ (one n ∙ sym (length-map {A = ℕ} {B = ℕ} (from 0 (suc n)) start ∙ from-long 0 (suc n))))
      (λ k h. listed k (le k h) ∙ (counts-before k ∙ sym (at k h)))
    where
      start : ℕ → ℕ
      start k = sum (between 0 k) (λ c. length (L.rows linked n c))

      one : (n : ℕ) → n + 1 ≡ suc n
      one n = omega arith

      from-long : (a c : ℕ) → length (from a c) ≡ c
      from-long a zero = refl
      from-long a (suc c) = ap suc (from-long (suc a) c)

      le : (k : ℕ) → k < length heads → k ≤ length count
      le k h = let l : k < n + 1 = subst (λ (m : ℕ). k < m) long h in subst (λ (m : ℕ). k ≤ m) (sym counts-long) (omega arith)

      mapped : (f : ℕ → ℕ) (a c k : ℕ) → k < c → get_or (map {A = ℕ} {B = ℕ} f (from a c)) k 0 ≡ f (a + k)
      mapped f a zero k h = absurd (omega arith)
      mapped f a (suc c) zero h = let z : a ≡ a + 0 = omega arith in ap f z
      mapped f a (suc c) (suc k) h = let z : suc a + k ≡ a + suc k = omega arith in mapped f (suc a) c k (omega arith) ∙ ap f z

      at : (k : ℕ) → k < length heads → get_or (starts_of linked n) k 0 ≡ start k
      at k h = let z : 0 + k ≡ k = omega arith in let l : k < n + 1 = subst (λ (m : ℕ). k < m) long h in mapped start 0 (suc n) k (omega arith) ∙ ap start z

  -- the last one is the count of L's blocks
  pub stored-before : before count (length count) ≡ stored_of linked n
  stored-before = ap (before count) counts-long ∙ counts-before n

  -- what the totals say of L
  pub total-stored : (s : ℕ) → s ≡ sum (between 0 (length count)) (λ k. get_or count k 0) → s ≡ stored_of linked n
  total-stored s h = h ∙ (ap (λ (m : ℕ). sum (between 0 m) (λ k. get_or count k 0)) counts-long ∙ sum-ext (between 0 n) (λ k. get_or count k 0) (λ k. length (L.rows linked n k)) (λ k m. counts-at k))

  pub total-products : (s : ℕ) → s ≡ sum (between 0 (length count)) (λ k. products_of (get_or count k 0)) → s ≡ products_in linked n
  total-products s h =
      h ∙ (ap (λ (m : ℕ). sum (between 0 m) (λ k. products_of (get_or count k 0))) counts-long
      ∙ sum-ext (between 0 n) (λ k. products_of (get_or count k 0)) (λ k. products_of (length (L.rows linked n k))) (λ k m. ap products_of (counts-at k)))
