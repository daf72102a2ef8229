-- A search or a sum over all places of a row table is one column after the other, since each place of column j has j as its column. Assumes nothing.
use Rattle.std.specs.Prelude.{◌≡◌, ℕ, zero, suc, ◌+◌, ◌-◌, ◌<◌, ◌≤◌, Bool, true, false, leb, ◌⊎◌, List, Option, Some, None, is_some}
use Prim.Native.Nat.{zero-le}
use mathlib.Core.Path.{◌∙◌}
use native.Mathlib.Numerals.{add-one}
use native.Mathlib.Omega.{arith}
use mathlib.Core.Logic.{inl, inr, ⊎_elim}
use native.Mathlib.Nat.{eq-or-lt_of_le}
use borrow.Author.Tests.{le-leb, lt-leb}
use Rattle.tables.specs.Search.{fault, sum}
use Rattle.tables.specs.Verdict.{at, column_of}
use Rattle.tables.specs.Sound.{Ordered}
use Rattle.tables.proofs.SearchLaws.{lt-or-ge, first-at, first-ge, first-before, first-fails, sum_same, sum-split, Summed}
use Rattle.tables.proofs.FaultLaws.{fault-here, fault-none, fault-some, fault-clear}

module _ {starts : List ℕ} {n m : ℕ} (o : Ordered starts n m) where
  rises_by : (d i j : ℕ) → i + d ≡ j → j ≤ n → at starts i ≤ at starts j
  rises_by zero i j e h = let z : i ≡ j = omega arith in rw z (omega arith)
  rises_by (suc d) i j e h = omega (arith, o.rising i (omega arith), rises_by d (i + 1) j (omega arith) h)

  -- the starts rise
  pub starts-rise : (i j : ℕ) → i ≤ j → j ≤ n → at starts i ≤ at starts j
  starts-rise i j l h = rises_by (j - i) i j (omega arith) h

  -- the column of a place
  pub column-is : (j p : ℕ) → j < n → at starts j ≤ p → p < at starts (j + 1) → column_of starts n p ≡ j
  unfolding column_of
  column-is j p l lo hi =
      first-at (λ i. leb (at starts (i + 1)) p) 0 j n zero-le l (λ i _ h. le-leb (at starts (i + 1)) p (omega (arith, starts-rise (i + 1) j (omega arith) (omega arith)))) (lt-leb _ _ hi)

  -- each place is in a column
  pub in_some : (p : ℕ) (P : Type 0) → p < m → ((j : ℕ) → j < n → at starts j ≤ p → p < at starts (j + 1) → P) → P
  in_some p P h f = below n (omega arith) (omega (arith, o.ends))
    where
      below : (j : ℕ) → j ≤ n → p < at starts j → P
      below zero l q = absurd (omega (arith, o.begins))
      below (suc j) l q =
          ⊎_elim (λ (s : p < at starts j). below j (omega arith) s) (λ (s : at starts j ≤ p). f j (omega arith) s (rw add-one q)) (lt-or-ge p (at starts j))

  -- ---- a search whose test of a place is that of its column
  module _ (test : ℕ → ℕ → Bool) where
    passes-here : (k : ℕ) → k < m → ((i : ℕ) → i < n → at starts i ≤ k → k < at starts (i + 1) → test i k ≡ true) → test (column_of starts n k) k ≡ true
    passes-here k l each =
        in_some k (test (column_of starts n k) k ≡ true) l (λ i h lo hi. rw (column-is i k h lo hi) (each i h lo hi))

    -- the columns before j pass, and so do the places of j before p, where it fails
    column-stops : (j p : ℕ) → j < n → at starts j ≤ p → p < at starts (j + 1) → ((i k : ℕ) → i < j → at starts i ≤ k → k < at starts (i + 1) → test i k ≡ true) → ((k : ℕ) → at starts j ≤ k → k < p → test j k ≡ true) → test j p ≡ false →
        Some p ≡ fault (λ k. test (column_of starts n k) k) 0 m
    column-stops j p l lo hi columns places fails =
        fault-here (λ k. test (column_of starts n k) k) 0 p m zero-le inside (λ k _ h. passes-here k (omega (arith, inside)) (λ i a b c. before k h i a b c)) (rw (column-is j p l lo hi) fails)
      where
        inside : p < m
        inside = omega (arith, o.inside (j + 1) (omega arith))

        before : (k : ℕ) → k < p → (i : ℕ) → i < n → at starts i ≤ k → k < at starts (i + 1) → test i k ≡ true
        before k h i a b c = ⊎_elim (λ (s : i < j). columns i k s b c) (λ (s : j ≤ i). here (eq-or-lt_of_le s)) (lt-or-ge i j)
          where
            here : (j ≡ i) ⊎ (j < i) → test i k ≡ true
            here (inl e) = rw (← e) (places k (rw e b) h)
            here (inr s) = absurd (omega (arith, starts-rise (j + 1) i (omega arith) (omega arith)))

    -- what is found in a column, where those before it have none
    pub column-found : (j : ℕ) (r : Option ℕ) → j < n → ((i : ℕ) → i < j → None ≡ fault (test i) (at starts i) (at starts (i + 1))) → r ≡ fault (test j) (at starts j) (at starts (j + 1)) → is_some r ≡ true →
        r ≡ fault (λ k. test (column_of starts n k) k) 0 m
    column-found j None l before e s = cc
    column-found j (Some p) l before e s =
        let is = fault-some (test j) (at starts j) (at starts (j + 1)) p e in
        column-stops j p l (rw is.0 (first-ge (test j) (at starts j) (at starts (j + 1)))) is.1 (λ i k h lo hi. fault-clear (test i) (at starts i) (at starts (i + 1)) (before i h) k lo hi) (λ k lo h. first-before (test j) (at starts j) (at starts (j + 1)) k lo (rw (← is.0) h))
        (rw is.0 (first-fails (test j) (at starts j) (at starts (j + 1)) (o.rising j l) (rw (← is.0) is.1)))

    -- none is found in any
    pub none-found : ((i : ℕ) → i < n → None ≡ fault (test i) (at starts i) (at starts (i + 1))) → None ≡ fault (λ k. test (column_of starts n k) k) 0 m
    none-found each = fault-none (λ k. test (column_of starts n k) k) 0 m (λ k _ h. passes-here k h (λ i a lo hi. fault-clear (test i) (at starts i) (at starts (i + 1)) (each i a) k lo hi))

  -- ---- a sum whose term at a place is that of its column
  module _ (f : ℕ → ℕ → ℕ) (j s x : ℕ) (l : j < n) (e : x ≡ sum (f j) (at starts j) (at starts (j + 1))) (w : Summed (λ k. f (column_of starts n k) k) 0 m (at starts j) s) where
    column-same : x ≡ sum (λ k. f (column_of starts n k) k) (at starts j) (at starts (j + 1))
    column-same = e ∙ sum_same (f j) (λ k. f (column_of starts n k) k) (at starts j) (at starts (j + 1)) (o.rising j l) (λ k a b. rw (column-is j k l a b))

    column-split : sum (λ k. f (column_of starts n k) k) (at starts j) (at starts (j + 1)) + sum (λ k. f (column_of starts n k) k) (at starts (j + 1)) m ≡ sum (λ k. f (column_of starts n k) k) (at starts j) m
    column-split = sum-split (λ k. f (column_of starts n k) k) (at starts j) (at starts (j + 1)) m (o.rising j l) (o.inside (j + 1) (omega arith))

    pub column_added : Summed (λ k. f (column_of starts n k) k) 0 m (at starts (j + 1)) (s + x)
    column_added = record { within = o.inside (j + 1) (omega arith); same = omega (arith, w.same, column-same, column-split) }

    pub column_added_le : s + x ≤ sum (λ k. f (column_of starts n k) k) 0 m
    column_added_le = omega (arith, w.same, column-same, column-split)
