-- What `reach::reach` finds where the parents are the tree's, whatever mark and stamps an earlier walk left: Davis's reach. Assumes nothing.
use Rattle.std.specs.Prelude.{◌≡◌, ℕ, ◌<◌, T, ◌↔◌, List, length}
use Rattle.graph.specs.Sets.{elem}
use Rattle.graph.specs.Tree.{Reaches}
use Rattle.graph.specs.Symbolic.{reach, rows}
use Rattle.graph.specs.Liu.{tree_parent}
use Rattle.reach.specs.Walk.{walk_of}
use Rattle.elimination_tree.specs.Tree.{linked_up}

pub record FindsReach (starts rows' parents stamps : List ℕ) (j mark : ℕ) : Type 0 where
  -- document 01's list, last found first
  pub listed : (walk_of starts rows' parents j mark stamps).found ≡ reach (linked_up starts rows') (length parents) (tree_parent (linked_up starts rows') (length parents)) j
  -- Davis: the blocks on the tree's paths from the entries of upper column j towards j
  pub davis : (k : ℕ) → T (elem k (walk_of starts rows' parents j mark stamps).found) ↔ Reaches (linked_up starts rows') (tree_parent (linked_up starts rows') (length parents)) j k
  -- which are the columns that have row j
  pub columns : (k : ℕ) → T (elem k (walk_of starts rows' parents j mark stamps).found) ↔ ((k < j) × T (elem j (rows (linked_up starts rows') (length parents) k)))
