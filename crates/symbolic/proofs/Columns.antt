-- The passes make the theory's columns: j goes to the end of each column that reaches j, j ascending. Assumes nothing.
use Rattle.std.specs.Prelude.{◌≡◌, ℕ, ◌<◌, Bool, T, ◌↔◌, List, [], reverse, get_or}
use mathlib.Core.Path.{sym, subst, ◌∙◌}
use native.Mathlib.Omega.{arith}
use lib.Seq.{ext_get_or}
use Rattle.graph.specs.Sets.{elem, filter, from, Uniq}
use Rattle.graph.specs.Symbolic.{reach, columns, rows}
use Rattle.graph.specs.Liu.{tree_parent}
use Rattle.graph.proofs.SetLaws.{filter-elim, filter-intro, filter-inc, from-elim, from-intro, from-inc, inc-ext}
use Rattle.graph.proofs.SymbolicLaws.{columns_length, rows_right, rows_ascending, reach_rows, reach_uniq}
use Rattle.graph.proofs.TreeLaws.{reach-tree}
use Rattle.buckets.specs.Buckets.{scatter}
use Rattle.buckets.proofs.Laws.{scatter-length, scatter-at}
use Rattle.symbolic.proofs.Climbs.{elem_back, elem-forth, uniq-back}

module _ (linked : ℕ → ℕ → Bool) (n : ℕ) (symm : (a b : ℕ) → T (linked a b) → T (linked b a)) where
  -- the columns that reach column j, first found first
  abbrev pub reached : ℕ → List ℕ
  reached j = reverse (reach linked n (tree_parent linked n) j)

  pub reached-once : (j : ℕ) → j < n → Uniq (reached j)
  reached-once j h = uniq-back (reach linked n (tree_parent linked n) j) (subst Uniq (sym (reach-tree linked n symm j h)) (reach_uniq linked n symm j h))

  pub reached-rows : (j k : ℕ) → j < n → T (elem k (reached j)) ↔ ((k < j) × T (elem j (rows linked n k)))
  reached-rows j k h =
      let r = subst (λ (l : List ℕ). T (elem k l) ↔ ((k < j) × T (elem j (rows linked n k)))) (sym (reach-tree linked n symm j h)) (reach_rows linked n symm j k h) in
      (λ t. r.0 (elem_back k (reach linked n (tree_parent linked n) j) t), λ t. elem-forth k (reach linked n (tree_parent linked n) j) (r.1 t))

  -- column k
  scattered : (k : ℕ) → k < n → get_or (scatter reached n n) k [] ≡ rows linked n k
  scattered k h =
      scatter-at reached n reached-once n k (omega arith) h
      ∙ inc-ext (filter p (from 0 n)) (rows linked n k) (filter-inc p (from 0 n) (from-inc 0 n)) (rows_ascending linked n symm k h)
      (λ i m. let r = filter-elim p i (from 0 n) m in let b = from-elim i 0 n r.0 in ((reached-rows i k (omega arith)).0 r.1).1)
      (λ i m. let r = (rows_right linked n symm k h).sound i m in
      filter-intro p i (from 0 n) (from-intro i 0 n (omega arith) (omega (arith, r.1))) ((reached-rows i k r.1).1 (r.0, m)))
    where
      p : ℕ → Bool
      p i = elem k (reached i)

  -- all of them
  pub columns-made : scatter reached n n ≡ columns linked n n
  unfolding rows
  columns-made =
      ext_get_or [] (scatter reached n n) (columns linked n n) (scatter-length reached n n ∙ sym (columns_length linked n n))
      (λ k h. scattered k (subst (λ (m : ℕ). k < m) (scatter-length reached n n) h))
