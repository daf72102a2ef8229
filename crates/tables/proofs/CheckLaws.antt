-- What each check says where its test fails, and where it holds, and what one that passes says of its test: a check is one test. Assumes nothing.
use Rattle.std.specs.Prelude.{◌≡◌, ℕ, ◌+◌, ◌<◌, ◌≤◌, Bool, true, false, cond, ltb, Some, None, List, ◌∷◌, length}
use mathlib.Core.Path.{refl, sym, ◌∙◌}
use mathlib.Core.Bool.{false≢true}
use borrow.Author.Tests.{lt-ltb, le-ltb, ltb-false, eq-eqb, ne_eqb, eqb-true}
use lib.Ieee.{Float}
use Rattle.scalar.specs.Scalar.{is_tolerance}
use Rattle.refusal.specs.Refusal.{Told, done, refuses, verdict, too_many_blocks, bad_dimension, bad_starts, too_many_stored, out_of_range, bad_parent, not_increasing, bad_value_count, bad_permutation, bad_late_flags, bad_tolerance}
use Rattle.refusal.specs.Check.{tolerance_check}
use Rattle.refusal.proofs.Laws.{of_test, verdict-stops, verdict-goes}
use Rattle.tables.specs.Search.{first, fault}
use Rattle.tables.specs.Verdict.{fault_in, dim_ok, start_ok, row_fits, order_fits, perm_ok, late_ok, parent_ok, areas, blocks_check, dims_check, starts_check, stored_check, rows_check, parents_check, order_check, values_check, perm_check, late_check}
use Rattle.tables.proofs.FaultLaws.{fault-some, fault-past}

-- ---- a list of checks, from its front

pub stops : {check v : Told} (checks : List Told) → check ≡ v → refuses v ≡ true → v ≡ verdict (check ∷ checks)
stops {check} checks e r = sym (verdict-stops check checks (rw e r) ∙ e)

pub goes : {check : Told} (checks : List Told) → check ≡ done → verdict checks ≡ verdict (check ∷ checks)
goes {check} checks e = sym (verdict-goes check checks e)

-- ---- a search and what it answered

module _ (ok : ℕ → Bool) (end : ℕ) (refusal : ℕ → Told) where
  pub fault-stop : (k : ℕ) → Some k ≡ fault ok 0 end → fault_in ok end refusal ≡ refusal k
  fault-stop k e = let f = fault-some ok 0 end k e in rw (← f.0, lt-ltb k end f.1)

  pub fault-go : None ≡ fault ok 0 end → fault_in ok end refusal ≡ done
  fault-go e = rw (le-ltb _ end (fault-past ok 0 end e))

  pub fault-pass : ((k : ℕ) → refuses (refusal k) ≡ true) → refuses (fault_in ok end refusal) ≡ false → None ≡ fault ok 0 end
  unfolding fault
  fault-pass r h = by-test (ltb (first ok 0 end) end) h
    where
      by-test : (b : Bool) → refuses (cond b (refusal (first ok 0 end)) done) ≡ false → None ≡ cond b (Some (first ok 0 end)) None
      by-test true g = absurd (false≢true (sym g ∙ r (first ok 0 end)))
      by-test false g = refl

-- ---- a test that is not to hold

pub fails-passes : (b : Bool) (v : Told) → refuses v ≡ true → refuses (cond b v done) ≡ false → b ≡ false
fails-passes true v r h = sym r ∙ h
fails-passes false v r h = refl

-- ---- 1

module _ (n : ℕ) where
  pub blocks-stop : 4096 < n → blocks_check n ≡ too_many_blocks
  unfolding blocks_check
  blocks-stop h = rw (lt-ltb 4096 n h)

  pub blocks-go : n ≤ 4096 → blocks_check n ≡ done
  unfolding blocks_check
  blocks-go h = rw (le-ltb 4096 n h)

  pub blocks-pass : refuses (blocks_check n) ≡ false → n ≤ 4096
  unfolding blocks_check
  blocks-pass h = ltb-false 4096 n (fails-passes _ _ refl h)

-- ---- 2

module _ (dims : List ℕ) where
  pub dims-stop : (k : ℕ) → Some k ≡ fault (dim_ok dims) 0 (length dims) → dims_check dims ≡ bad_dimension k
  unfolding dims_check
  dims-stop k e = fault-stop (dim_ok dims) (length dims) bad_dimension k e

  pub dims-go : None ≡ fault (dim_ok dims) 0 (length dims) → dims_check dims ≡ done
  unfolding dims_check
  dims-go e = fault-go (dim_ok dims) (length dims) bad_dimension e

  pub dims-pass : refuses (dims_check dims) ≡ false → None ≡ fault (dim_ok dims) 0 (length dims)
  unfolding dims_check
  dims-pass h = fault-pass (dim_ok dims) (length dims) bad_dimension (λ k. refl) h

-- ---- 3

module _ (starts : List ℕ) (n m : ℕ) where
  pub starts-stop : (k : ℕ) → Some k ≡ fault (start_ok starts n m) 0 (n + 2) → starts_check starts n m ≡ bad_starts k
  unfolding starts_check
  starts-stop k e = fault-stop (start_ok starts n m) (n + 2) bad_starts k e

  pub starts-go : None ≡ fault (start_ok starts n m) 0 (n + 2) → starts_check starts n m ≡ done
  unfolding starts_check
  starts-go e = fault-go (start_ok starts n m) (n + 2) bad_starts e

  pub starts-pass : refuses (starts_check starts n m) ≡ false → None ≡ fault (start_ok starts n m) 0 (n + 2)
  unfolding starts_check
  starts-pass h = fault-pass (start_ok starts n m) (n + 2) bad_starts (λ k. refl) h

-- ---- 4

module _ (m : ℕ) where
  pub stored-stop : 65536 < m → stored_check m ≡ too_many_stored
  unfolding stored_check
  stored-stop h = rw (lt-ltb 65536 m h)

  pub stored-go : m ≤ 65536 → stored_check m ≡ done
  unfolding stored_check
  stored-go h = rw (le-ltb 65536 m h)

  pub stored-pass : refuses (stored_check m) ≡ false → m ≤ 65536
  unfolding stored_check
  stored-pass h = ltb-false 65536 m (fails-passes _ _ refl h)

-- ---- 5

module _ (least : ℕ → ℕ) (starts rows : List ℕ) (n : ℕ) where
  pub rows-stop : (k : ℕ) → Some k ≡ fault (row_fits least starts rows n) 0 (length rows) → rows_check least starts rows n ≡ out_of_range k
  unfolding rows_check
  rows-stop k e = fault-stop (row_fits least starts rows n) (length rows) out_of_range k e

  pub rows-go : None ≡ fault (row_fits least starts rows n) 0 (length rows) → rows_check least starts rows n ≡ done
  unfolding rows_check
  rows-go e = fault-go (row_fits least starts rows n) (length rows) out_of_range e

  pub rows_pass : refuses (rows_check least starts rows n) ≡ false → None ≡ fault (row_fits least starts rows n) 0 (length rows)
  unfolding rows_check
  rows_pass h = fault-pass (row_fits least starts rows n) (length rows) out_of_range (λ k. refl) h

module _ (parents : List ℕ) where
  pub parents-stop : (k : ℕ) → Some k ≡ fault (parent_ok parents) 0 (length parents) → parents_check parents ≡ bad_parent k
  unfolding parents_check
  parents-stop k e = fault-stop (parent_ok parents) (length parents) bad_parent k e

  pub parents-go : None ≡ fault (parent_ok parents) 0 (length parents) → parents_check parents ≡ done
  unfolding parents_check
  parents-go e = fault-go (parent_ok parents) (length parents) bad_parent e

  pub parents-pass : refuses (parents_check parents) ≡ false → None ≡ fault (parent_ok parents) 0 (length parents)
  unfolding parents_check
  parents-pass h = fault-pass (parent_ok parents) (length parents) bad_parent (λ k. refl) h

-- ---- 6

module _ (starts rows : List ℕ) (n : ℕ) where
  pub order-stop : (k : ℕ) → Some k ≡ fault (order_fits starts rows n) 0 (length rows) → order_check starts rows n ≡ not_increasing k
  unfolding order_check
  order-stop k e = fault-stop (order_fits starts rows n) (length rows) not_increasing k e

  pub order-go : None ≡ fault (order_fits starts rows n) 0 (length rows) → order_check starts rows n ≡ done
  unfolding order_check
  order-go e = fault-go (order_fits starts rows n) (length rows) not_increasing e

  pub order-pass : refuses (order_check starts rows n) ≡ false → None ≡ fault (order_fits starts rows n) 0 (length rows)
  unfolding order_check
  order-pass h = fault-pass (order_fits starts rows n) (length rows) not_increasing (λ k. refl) h

-- ---- 7

module _ (dims starts rows : List ℕ) (count : ℕ) where
  pub values-stop : (need : ℕ) → need ≡ areas dims starts rows → (count ≡ need → ⊥) → values_check dims starts rows count ≡ bad_value_count
  unfolding values_check
  values-stop need e h = rw (← e, ne_eqb count need h)

  pub values-go : (need : ℕ) → need ≡ areas dims starts rows → count ≡ need → values_check dims starts rows count ≡ done
  unfolding values_check
  values-go need e h = rw (← e, eq-eqb count need h)

  pub values-pass : refuses (values_check dims starts rows count) ≡ false → count ≡ areas dims starts rows
  unfolding values_check
  values-pass h = eqb-true _ _ (of_test _ _ refl h)

-- ---- 8

module _ (perm : List ℕ) (n : ℕ) where
  pub perm-stop : (k : ℕ) → Some k ≡ fault (perm_ok perm n) 0 (n + 1) → perm_check perm n ≡ bad_permutation k
  unfolding perm_check
  perm-stop k e = fault-stop (perm_ok perm n) (n + 1) bad_permutation k e

  pub perm-go : None ≡ fault (perm_ok perm n) 0 (n + 1) → perm_check perm n ≡ done
  unfolding perm_check
  perm-go e = fault-go (perm_ok perm n) (n + 1) bad_permutation e

  pub perm-pass : refuses (perm_check perm n) ≡ false → None ≡ fault (perm_ok perm n) 0 (n + 1)
  unfolding perm_check
  perm-pass h = fault-pass (perm_ok perm n) (n + 1) bad_permutation (λ k. refl) h

-- ---- 9

module _ (late : List ℕ) (n : ℕ) where
  pub late-stop : (k : ℕ) → Some k ≡ fault (late_ok late n) 0 (n + 1) → late_check late n ≡ bad_late_flags k
  unfolding late_check
  late-stop k e = fault-stop (late_ok late n) (n + 1) bad_late_flags k e

  pub late-go : None ≡ fault (late_ok late n) 0 (n + 1) → late_check late n ≡ done
  unfolding late_check
  late-go e = fault-go (late_ok late n) (n + 1) bad_late_flags e

  pub late-pass : refuses (late_check late n) ≡ false → None ≡ fault (late_ok late n) 0 (n + 1)
  unfolding late_check
  late-pass h = fault-pass (late_ok late n) (n + 1) bad_late_flags (λ k. refl) h

-- ---- 10

module _ (tol : Float) where
  pub tolerance-stop : is_tolerance tol ≡ false → tolerance_check tol ≡ bad_tolerance
  tolerance-stop e = rw e

  pub tolerance-go : is_tolerance tol ≡ true → tolerance_check tol ≡ done
  tolerance-go e = rw e

  pub tolerance-pass : refuses (tolerance_check tol) ≡ false → is_tolerance tol ≡ true
  tolerance-pass h = of_test _ _ refl h
