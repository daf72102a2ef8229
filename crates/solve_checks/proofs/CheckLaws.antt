-- What each check of a factor's table says where its test fails, and where it holds, and what one that passes says; and what parents that
-- pass say at every place. Assumes nothing.
use Rattle.std.specs.Prelude.{◌≡◌, ℕ, ◌+◌, ◌<◌, Bool, true, false, ◌&&◌, ◌||◌, eqb, ltb, ◌⊎◌, List, length, Some, None}
use Prim.Native.Nat.{zero-le}
use mathlib.Core.Logic.{inl, inr}
use mathlib.Core.Path.{refl}
use borrow.Author.Tests.{ltb-true, eqb-true}
use Rattle.refusal.specs.Refusal.{done, bad_parent, refuses}
use Rattle.tables.specs.Search.{fault}
use Rattle.tables.specs.Verdict.{at, start_ok, row_fits, order_fits, past_diagonal, parent_fits}
use Rattle.tables.proofs.Bools.{and_left, and_right}
use Rattle.tables.proofs.FaultLaws.{fault-clear}
use Rattle.tables.proofs.CheckLaws.{fault-stop, fault-go, fault-pass}
use Rattle.solve_checks.specs.Verdict.{bad_factor, l_starts_check, l_rows_check, tree_check, l_order_check}

module _ (l_starts : List ℕ) (n m : ℕ) where
  pub l-starts-stop : (k : ℕ) → Some k ≡ fault (start_ok l_starts n m) 0 (n + 2) → l_starts_check l_starts n m ≡ bad_factor 3 k
  unfolding l_starts_check
  l-starts-stop = fault-stop (start_ok l_starts n m) (n + 2) (bad_factor 3)

  pub l-starts-go : None ≡ fault (start_ok l_starts n m) 0 (n + 2) → l_starts_check l_starts n m ≡ done
  unfolding l_starts_check
  l-starts-go = fault-go (start_ok l_starts n m) (n + 2) (bad_factor 3)

  pub l-starts-pass : refuses (l_starts_check l_starts n m) ≡ false → None ≡ fault (start_ok l_starts n m) 0 (n + 2)
  unfolding l_starts_check
  l-starts-pass = fault-pass (start_ok l_starts n m) (n + 2) (bad_factor 3) (λ k. refl)

module _ (l_starts l_rows : List ℕ) (n : ℕ) where
  pub l-rows-stop : (k : ℕ) → Some k ≡ fault (row_fits past_diagonal l_starts l_rows n) 0 (length l_rows) → l_rows_check l_starts l_rows n ≡ bad_factor 5 k
  unfolding l_rows_check
  l-rows-stop = fault-stop (row_fits past_diagonal l_starts l_rows n) (length l_rows) (bad_factor 5)

  pub l-rows-go : None ≡ fault (row_fits past_diagonal l_starts l_rows n) 0 (length l_rows) → l_rows_check l_starts l_rows n ≡ done
  unfolding l_rows_check
  l-rows-go = fault-go (row_fits past_diagonal l_starts l_rows n) (length l_rows) (bad_factor 5)

  pub l-rows-pass : refuses (l_rows_check l_starts l_rows n) ≡ false → None ≡ fault (row_fits past_diagonal l_starts l_rows n) 0 (length l_rows)
  unfolding l_rows_check
  l-rows-pass = fault-pass (row_fits past_diagonal l_starts l_rows n) (length l_rows) (bad_factor 5) (λ k. refl)

  pub l-order-stop : (k : ℕ) → Some k ≡ fault (order_fits l_starts l_rows n) 0 (length l_rows) → l_order_check l_starts l_rows n ≡ bad_factor 6 k
  unfolding l_order_check
  l-order-stop = fault-stop (order_fits l_starts l_rows n) (length l_rows) (bad_factor 6)

  pub l-order-go : None ≡ fault (order_fits l_starts l_rows n) 0 (length l_rows) → l_order_check l_starts l_rows n ≡ done
  unfolding l_order_check
  l-order-go = fault-go (order_fits l_starts l_rows n) (length l_rows) (bad_factor 6)

  pub l-order-pass : refuses (l_order_check l_starts l_rows n) ≡ false → None ≡ fault (order_fits l_starts l_rows n) 0 (length l_rows)
  unfolding l_order_check
  l-order-pass = fault-pass (order_fits l_starts l_rows n) (length l_rows) (bad_factor 6) (λ k. refl)

module _ (n : ℕ) (parents : List ℕ) where
  pub tree-stop : (k : ℕ) → Some k ≡ fault (parent_fits n parents) 0 (length parents) → tree_check n parents ≡ bad_parent k
  unfolding tree_check
  tree-stop = fault-stop (parent_fits n parents) (length parents) bad_parent

  pub tree-go : None ≡ fault (parent_fits n parents) 0 (length parents) → tree_check n parents ≡ done
  unfolding tree_check
  tree-go = fault-go (parent_fits n parents) (length parents) bad_parent

  tree-pass : refuses (tree_check n parents) ≡ false → None ≡ fault (parent_fits n parents) 0 (length parents)
  unfolding tree_check
  tree-pass = fault-pass (parent_fits n parents) (length parents) bad_parent (λ k. refl)

  pub tree_of : refuses (tree_check n parents) ≡ false → (k : ℕ) → k < length parents → (at parents k ≡ 4294967295) ⊎ ((k < at parents k) × (at parents k < n))
  unfolding parent_fits
  tree_of h k l = by-test (eqb (at parents k) 4294967295) refl (fault-clear (parent_fits n parents) 0 (length parents) (tree-pass h) k zero-le l)
    where
      by-test : (b : Bool) → eqb (at parents k) 4294967295 ≡ b → (b || ltb k (at parents k) && ltb (at parents k) n) ≡ true → (at parents k ≡ 4294967295) ⊎ ((k < at parents k) × (at parents k < n))
      by-test true e t = inl (eqb-true _ _ e)
      by-test false e t = inr (ltb-true _ _ (and_left (ltb k (at parents k)) _ t), ltb-true _ _ (and_right (ltb k (at parents k)) _ t))
