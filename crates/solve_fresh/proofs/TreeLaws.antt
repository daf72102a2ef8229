-- The parents of an elimination tree pass the check of a table of parents. Assumes nothing.
use Prim.Native.Nat.{ℕ, ◌≤◌, ◌<◌}
use mathlib.Core.Bool.{Bool, true, ◌&&◌, ◌||◌}
use mathlib.Core.List.{List}
use mathlib.Core.Logic.{◌⊎◌, ⊎_elim}
use mathlib.Core.Path.{◌≡◌, subst}
use native.Mathlib.Omega.{arith}
use borrow.Author.Tests.{lt-ltb, eq-eqb}
use lib.Dec.{T, ltb, eqb}
use lib.ListN.{length}
use Rattle.refusal.specs.Refusal.{done}
use Rattle.tables.specs.Verdict.{at, parent_fits}
use Rattle.tables.proofs.Bools.{or-true}
use Rattle.elimination_tree.specs.Tree.{root, parents_of}
use Rattle.elimination_tree.proofs.Links.{parents-length, parents-rule}
use Rattle.solve_checks.specs.Verdict.{tree_check}
use Rattle.solve_checks.proofs.CheckLaws.{tree-go}
use Rattle.solve_fresh.proofs.ColumnLaws.{ends}

-- a table passes in which each entry is none or a greater one of n blocks
module _ (n : ℕ) (parents : List ℕ) (rule : (k : ℕ) → k < length parents → (at parents k ≡ root) ⊎ ((k < at parents k) × (at parents k < n))) where
  parent-fits : (k : ℕ) → k < length parents → parent_fits n parents k ≡ true
  unfolding parent_fits
  parent-fits k h = ⊎_elim none greater (rule k h)
    where
      none : at parents k ≡ root → (eqb (at parents k) root || ltb k (at parents k) && ltb (at parents k) n) ≡ true
      none e = rw (eq-eqb (at parents k) root e)

      greater : (k < at parents k) × (at parents k < n) → (eqb (at parents k) root || ltb k (at parents k) && ltb (at parents k) n) ≡ true
      greater g = rw (lt-ltb k (at parents k) g.0, lt-ltb (at parents k) n g.1) (or-true (eqb (at parents k) root))

  ruled-pass : tree_check n parents ≡ done
  ruled-pass = tree-go n parents (ends (parent_fits n parents) (length parents) parent-fits)

pub parents-pass : (linked : ℕ → ℕ → Bool) (n : ℕ) → ((a b : ℕ) → T (linked a b) → T (linked b a)) → n ≤ 4096 → tree_check n (parents_of linked n) ≡ done
parents-pass linked n symm few = ruled-pass n (parents_of linked n) (λ k h. parents-rule linked n symm few k (subst (λ (m : ℕ). k < m) (parents-length linked n symm) h))
