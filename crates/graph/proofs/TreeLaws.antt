-- Liu's algorithm gives the first rows of L's columns, and the climbs over its tree are those over them. Assumes nothing.
use Prim.Native.Nat.{ℕ, ◌<◌}
use mathlib.Core.Bool.{Bool}
use mathlib.Core.List.{List}
use mathlib.Core.Option.{Option}
use mathlib.Core.Path.{◌≡◌, sym, subst}
use native.Mathlib.Omega.{arith}
use lib.Dec.{T}
use Rattle.graph.specs.Fill.{Least}
use Rattle.graph.specs.Symbolic.{reach, first, rows}
use Rattle.graph.specs.Liu.{tree_parent}
use Rattle.graph.proofs.SetLaws.{inc-ext}
use Rattle.graph.proofs.ReachLaws.{reach_same}
use Rattle.graph.proofs.SymbolicLaws.{IsColumn, parent_least}
use Rattle.graph.proofs.LiuLaws.{tree-parent}

module _ (linked : ℕ → ℕ → Bool) (n : ℕ) (symm : (a b : ℕ) → T (linked a b) → T (linked b a)) where
  -- a column is fixed by the fill rule
  pub column-unique : (k : ℕ) (l m : List ℕ) → IsColumn linked n k l → IsColumn linked n k m → l ≡ m
  column-unique k l m c d =
      inc-ext l m c.ascending d.ascending (λ x t. let s = c.sound x t in d.complete x s.0 s.1 s.2) (λ x t. let s = d.sound x t in c.complete x s.0 s.1 s.2)

  -- Liu's algorithm gives the first rows of the columns
  pub tree-rows : (k : ℕ) → k < n → tree_parent linked n k ≡ first (rows linked n k)
  tree-rows k h = tree-parent linked n (λ k. first (rows linked n k)) (parent_least linked n symm) symm k h

  pub tree-least : (k : ℕ) → k < n → Least linked n k (tree_parent linked n k)
  tree-least k h = subst (λ (o : Option ℕ). Least linked n k o) (sym (tree-rows k h)) (parent_least linked n symm k h)

  -- the climbs over the tree are those over the columns' first rows, in the same order
  pub reach-tree : (j : ℕ) → j < n → reach linked n (tree_parent linked n) j ≡ reach linked n (λ k. first (rows linked n k)) j
  reach-tree j h = reach_same linked n j (tree_parent linked n) h (λ k b. tree-least k (omega arith)) symm (λ k. first (rows linked n k)) (λ k b. tree-rows k (omega arith))
