-- Lists gathered one behind the other.
--     gather_append, gather-snoc   over a list in two parts, and over one number more
--     gather-slot                  each of the lists is a slot of the whole
--     gather-runs                  a run of numbers as runs one behind the other
--     sum-slot                     a sum over the places of a slot is one over its entries
-- Assumes nothing.
use Rattle.std.specs.Prelude.{◌≡◌, ℕ, zero, suc, ◌+◌, ◌-◌, ◌<◌, ◌≤◌, List, [], ◌∷◌, ◌++◌, length, take}
use mathlib.Core.List.{append_assoc}
use mathlib.Core.Path.{refl, sym, ap, ◌∙◌}
use native.Mathlib.Omega.{arith}
use native.Mathlib.Numerals.{add-one}
use lib.Seq.{take_at, drop_at, drop-cons}
use Rattle.graph.specs.Sets.{from, gather}
use Rattle.graph.specs.Sets as list
use Rattle.graph.proofs.SumLaws.{length-gather}
use Rattle.buckets.proofs.Lists.{from-split}
use Rattle.tables.specs.Search.{sum}
use Rattle.tables.specs.Verdict.{at}
use Rattle.tables.proofs.SearchLaws.{sum-end, sum-next}
use Rattle.machine.proofs.ListLaws.{gather-last}
use Rattle.block_product.specs.Working.{slot}

module _ {A : Type 0} where
  pub gather_append : (f : ℕ → List A) (l m : List ℕ) → gather f (l ++ m) ≡ gather f l ++ gather f m
  gather_append f [] m = refl
  gather_append f (x ∷ l) m = ap (λ (r : List A). f x ++ r) (gather_append f l m) ∙ sym (append_assoc (f x) (gather f l) (gather f m))

  -- a run of numbers in two parts
  gather-split : (f : ℕ → List A) (a c d : ℕ) → gather f (from a (c + d)) ≡ gather f (from a c) ++ gather f (from (a + c) d)
  gather-split f a c d = ap (gather f) (from-split a c d) ∙ gather_append f (from a c) (from (a + c) d)

  pub gather-snoc : (f : ℕ → List A) (m : ℕ) → gather f (from 0 (suc m)) ≡ gather f (from 0 m) ++ f m
  gather-snoc f m = let z : 0 + m ≡ m = omega arith in gather-last f 0 m ∙ ap (λ (i : ℕ). gather f (from 0 m) ++ f i) z

  pub gather-slot : (f : ℕ → List A) (n k : ℕ) → k < n → slot (list.sum (from 0 k) (λ i. length (f i))) (length (f k)) (gather f (from 0 n)) ≡ f k
  gather-slot f n k h =
      let e : n ≡ k + suc (n - suc k) = omega arith in
      let z : 0 + k ≡ k = omega arith in
      let rest = gather f (from (suc k) (n - suc k)) in
      let whole : gather f (from 0 n) ≡ gather f (from 0 k) ++ (f k ++ rest) =
      ap (λ (m : ℕ). gather f (from 0 m)) e ∙ gather-split f 0 k (suc (n - suc k)) ∙ ap (λ (i : ℕ). gather f (from 0 k) ++ gather f (from i (suc (n - suc k)))) z in
      ap (slot (list.sum (from 0 k) (λ i. length (f i))) (length (f k))) whole
      ∙ ap (take (length (f k))) (drop_at (gather f (from 0 k)) (f k ++ rest) (list.sum (from 0 k) (λ i. length (f i))) (length-gather f (from 0 k)))
      ∙ take_at (f k) rest (length (f k)) refl

  pub gather-runs : (f : ℕ → List A) (start : ℕ → ℕ) (n : ℕ) → start 0 ≡ 0 → ((k : ℕ) → k < n → start k ≤ start (k + 1))
      → gather f (from 0 (start n)) ≡ gather (λ k. gather f (from (start k) (start (k + 1) - start k))) (from 0 n)
  gather-runs f start zero z up = ap (λ (m : ℕ). gather f (from 0 m)) z
  gather-runs f start (suc n) z up =
      let u = up n (omega arith) in
      let e : start (suc n) ≡ start n + (start (n + 1) - start n) = ap start (sym (add-one n)) ∙ omega arith in
      let o : 0 + start n ≡ start n = omega arith in
      ap (λ (m : ℕ). gather f (from 0 m)) e ∙ gather-split f 0 (start n) (start (n + 1) - start n)
      ∙ ap (λ (i : ℕ). gather f (from 0 (start n)) ++ gather f (from i (start (n + 1) - start n))) o
      ∙ ap (λ (r : List A). r ++ gather f (from (start n) (start (n + 1) - start n))) (gather-runs f start n z (λ k h. up k (omega arith)))
      ∙ sym (gather-snoc (λ k. gather f (from (start k) (start (k + 1) - start k))) n)

pub sum-slot : (l : List ℕ) (f : ℕ → ℕ) (a m : ℕ) → a + m ≤ length l → sum (λ p. f (at l p)) a (a + m) ≡ list.sum (slot a m l) f
sum-slot l f a zero h = sum-end (λ p. f (at l p)) a (a + 0) (omega arith)
sum-slot l f a (suc m) h =
    let e : suc a + m ≡ a + suc m = omega arith in
    sum-next (λ p. f (at l p)) a (a + suc m) (omega arith)
    ∙ ap (λ (s : ℕ). f (at l a) + s) (ap (λ (b : ℕ). sum (λ p. f (at l p)) b (a + suc m)) (add-one a) ∙ ap (sum (λ p. f (at l p)) (suc a)) (sym e) ∙ sum-slot l f (suc a) m (omega arith))
    ∙ sym (ap (λ (r : List ℕ). list.sum (take (suc m) r) f) (drop-cons l a 0 (omega arith)))
