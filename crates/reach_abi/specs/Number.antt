-- What the exported tree and walk answer: the number of an outcome of `elimination_tree::new` and of `reach::reach`, and what it carries.
-- Assumes nothing.
use Rattle.std.specs.Prelude.{ℕ, List, ◌≡◌, length, Result}
use Rattle.refusal.specs.Refusal as refusal
use Rattle.report.specs.Report.{carried}
use Rattle.elimination_tree.specs.New.{Grows, new_verdict}
use Rattle.elimination_tree.specs.New as tree
use Rattle.elimination_tree.specs.declared.TreeError.{TreeError}
use Rattle.reach.specs.Walk.{Walks, reach_verdict}
use Rattle.reach.specs.Walk as walk
use Rattle.reach.specs.declared.cores.Mark.{Mark}
use Rattle.reach.specs.declared.ReachError.{ReachError}

-- the tree: the number, the three places and the lent places afterwards are those of an outcome with which `elimination_tree::new` keeps
-- its promise
pub record ExportsTree (n : ℕ) (starts rows parents ancestors : List ℕ) (r : ℕ) (t parents' ancestors' : List ℕ) : Type 0 where
  pub outcome : Result Unit TreeError
  pub grows : Grows (new_verdict n starts rows (length parents) (length ancestors)) n starts rows parents ancestors outcome parents' ancestors'
  pub number : r ≡ refusal.number (tree.told outcome)
  pub carries : t ≡ carried (tree.told outcome)

-- the walk: the number, the three places and the lent places afterwards are those of an outcome with which `reach::reach` keeps its
-- promise
pub record ExportsReach (starts rows parents : List ℕ) (j mark : ℕ) (stamps found : List ℕ) (r : ℕ) (t stamps' found' : List ℕ) : Type 0 where
  pub outcome : Result Mark ReachError
  pub walks : Walks (reach_verdict starts rows parents j (length stamps) (length found)) starts rows parents j mark stamps found outcome stamps' found'
  pub number : r ≡ refusal.number (walk.told outcome)
  pub carries : t ≡ carried (walk.told outcome)
