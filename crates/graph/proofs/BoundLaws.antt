-- The most block products: (n³ - n)/6 for n blocks, 11,453,245,440 for 4,096.
use Prim.Native.Nat.{ℕ, zero, suc, ◌+◌, ◌-◌, ◌*◌, ◌/◌, ◌≤◌, ◌<◌}
use mathlib.Core.Bool.{Bool}
use mathlib.Core.List.{List, [], ◌∷◌}
use mathlib.Core.Path.{◌≡◌, refl, ap, ◌∙◌}
use native.Mathlib.Omega.{arith}
use native.Mathlib.Nat.{suc-mul, mul-suc, add-mul, mul-add, mul-one, mul-le-mul}
use native.Mathlib.Decide.{le_ind}
use lib.Dec.{T}
use lib.ListN.{length}
use Rattle.graph.specs.Sets.{elem, from, between, sum, Inc}
use Rattle.graph.specs.Symbolic.{rows}
use Rattle.graph.specs.Count.{triples}
use Rattle.graph.proofs.SetLaws.{elem-head, elem-tail, from-elim}
use Rattle.graph.proofs.SymbolicLaws.{rows_right, rows_ascending}
use Rattle.graph.proofs.CountLaws.{triples-count}

-- an ascending list of numbers from a up to b
pub inc-length : (l : List ℕ) (a b : ℕ) → a ≤ b → Inc l → ((x : ℕ) → T (elem x l) → (a ≤ x) × (x < b)) → length l + a ≤ b
inc-length [] a b h i w = omega arith
inc-length (x ∷ l) a b h i w =
    let q = w x (elem-head x l) in
    let r : length l + suc x ≤ b = inc-length l (suc x) b q.1 i.1 (λ y m. (i.0 y m, (w y (elem-tail y x l m)).1)) in
    omega arith

half : ℕ → ℕ
half c = c * (c + 1) / 2

half-mono : (a b : ℕ) → a ≤ b → half a ≤ half b
unfolding half
half-mono a b h = let q : a * (a + 1) ≤ b * (b + 1) = mul-le-mul h (omega arith) in omega arith

-- half 0 + half 1 + .. + half (c - 1)
pub most : ℕ → ℕ
most zero = 0
most (suc c) = half c + most c

sum-most : (f : ℕ → ℕ) (a c : ℕ) → ((k : ℕ) → T (elem k (from a c)) → f k + suc k ≤ a + c) → sum (from a c) (λ k. half (f k)) ≤ most c
unfolding most
sum-most f a zero h = omega arith
sum-most f a (suc c) h =
    let p = h a (elem-head a (from (suc a) c)) in
    let q : half (f a) ≤ half c = half-mono (f a) c (omega arith) in
    let r = sum-most f (suc a) c (λ k m. let s = h k (elem-tail k a (from (suc a) c) m) in omega arith) in
    omega arith

-- c(c + 1) is even
half_twice : (c : ℕ) → 2 * half c ≡ c * (c + 1)
unfolding half
half_twice zero = refl
half_twice (suc c) =
    let ih = half_twice c in
    let a : suc c * (suc c + 1) ≡ c * (suc c + 1) + (suc c + 1) = suc-mul c (suc c + 1) in
    let b : c * (suc c + 1) ≡ c * suc c + c * 1 = mul-add c (suc c) 1 in
    let d : c * suc c ≡ c * c + c = mul-suc c c in
    let e : c * (c + 1) ≡ c * c + c * 1 = mul-add c c 1 in
    let g : c * 1 ≡ c = mul-one c in
    omega arith

pub most-cube : (c : ℕ) → 6 * most c + c ≡ c * c * c
unfolding most
most-cube zero = refl
most-cube (suc c) =
    let ih = most-cube c in
    let h = half_twice c in
    let e : c * (c + 1) ≡ c * c + c * 1 = mul-add c c 1 in
    let g : c * 1 ≡ c = mul-one c in
    let s : suc c * suc c ≡ c * c + c + suc c = suc-mul c (suc c) ∙ ap (λ (x : ℕ). x + suc c) (mul-suc c c) in
    let t : suc c * suc c * suc c ≡ suc c * suc c * c + suc c * suc c = mul-suc (suc c * suc c) c in
    let u : suc c * suc c * c ≡ (c * c + c) * c + suc c * c = ap (λ (x : ℕ). x * c) s ∙ add-mul (c * c + c) (suc c) c in
    let v : (c * c + c) * c ≡ c * c * c + c * c = add-mul (c * c) c c in
    let w : suc c * c ≡ c * c + c = suc-mul c c in
    omega arith

pub most-mono : (a b : ℕ) → a ≤ b → most a ≤ most b
unfolding most
most-mono a b h = le_ind (λ (m : ℕ). most a ≤ most m) (omega arith) (λ m k e. omega arith) b h

module _ (linked : ℕ → ℕ → Bool) (n : ℕ) (symm : (a b : ℕ) → T (linked a b) → T (linked b a)) where
  -- a column has at most the rows below it
  pub rows_short : (k : ℕ) → k < n → length (rows linked n k) + suc k ≤ n
  rows_short k h =
      inc-length (rows linked n k) (suc k) n h (rows_ascending linked n symm k h) (λ x m. let s = (rows_right linked n symm k h).sound x m in (s.0, s.1))

  pub triples-most : 6 * length (triples linked n) + n ≤ n * n * n
  unfolding half
  triples-most =
      let a : sum (between 0 n) (λ k. half (length (rows linked n k))) ≤ most (n - 0) =
      sum-most (λ k. length (rows linked n k)) 0 (n - 0) (λ k m. let r = from-elim k 0 (n - 0) m in let s = rows_short k (omega arith) in omega arith) in
      let b : most (n - 0) ≤ most n = most-mono (n - 0) n (omega arith) in
      let c = most-cube n in
      let d = triples-count linked n symm in
      omega arith

  -- the count fits 64 bits, with room
  pub triples-limit : n ≤ 4096 → length (triples linked n) ≤ 11453245440
  unfolding half
  triples-limit h =
      let a : sum (between 0 n) (λ k. half (length (rows linked n k))) ≤ most (n - 0) =
      sum-most (λ k. length (rows linked n k)) 0 (n - 0) (λ k m. let r = from-elim k 0 (n - 0) m in let s = rows_short k (omega arith) in omega arith) in
      let b : most (n - 0) ≤ most 4096 = most-mono (n - 0) 4096 (omega arith) in
      let c : 6 * most 4096 + 4096 ≡ 68719476736 = most-cube 4096 in
      let d = triples-count linked n symm in
      omega arith
