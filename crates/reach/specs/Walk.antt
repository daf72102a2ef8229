-- What `reach::reach` answers, and what it leaves, for any arguments. Assumes nothing.
use Rattle.std.specs.Prelude.{◌≡◌, ℕ, ◌+◌, ◌-◌, cond, List, [], ◌∷◌, ◌++◌, length, take, drop, nat_lt, slice_index, Result}
use Rattle.std.proofs.Math.Seq.{slice}
use Rattle.refusal.specs.Refusal.{Told, done, accepted, told_by, too_many_blocks, bad_starts, out_of_range, bad_parent, not_increasing, short_buffer, shapes_disagree, first_of, verdict_after, after}
use Rattle.refusal.specs.Check.{need_check}
use Rattle.tables.specs.Verdict.{tree_verdict}
use Rattle.reach.specs.Reach.{State, mark_of, reach_of}
use Rattle.reach.specs.declared.cores.Mark.{Mark}
use Rattle.reach.specs.declared.ReachError.{ReachError}
use Rattle.reach.specs.declared.ReachError.TheVariants.{Blocks, Starts, Row, Parent, Order, Short, Past}

-- document 01's number and values for each case; an accepted walk hands back the mark it used and where its list begins
abbrev pub told_error : ReachError → Told
told_error Blocks = too_many_blocks
told_error (Starts place) = bad_starts place
told_error (Row place) = out_of_range place
told_error (Parent place) = bad_parent place
told_error (Order place) = not_increasing place
told_error (Short which need) = short_buffer which need
told_error (Past place) = shapes_disagree place

abbrev pub told : Result Mark ReachError → Told
told = told_by (λ m. accepted (m.mark ∷ m.top ∷ []) []) told_error

-- 12: the walk is asked for one of n blocks
abbrev pub block_check : (j n : ℕ) → Told
block_check j n = cond (nat_lt j n) done (shapes_disagree 0)

-- 11: the stamps and then the list need n places; then 12
abbrev pub needs : (n j stamps found : ℕ) → List Told
needs n j stamps found = need_check 0 stamps n ∷ need_check 1 found n ∷ block_check j n ∷ []

-- the first of 1, 3, 5, 6 on the upper pattern and the parents, then 11 and 12
unfoldable pub reach_verdict : (starts rows parents : List ℕ) → (j stamps found : ℕ) → Told
reach_verdict starts rows parents j stamps found = verdict_after (tree_verdict starts rows parents) (needs (length parents) j stamps found)

-- the walk, from the first n stamps
abbrev pub walk_of : (starts rows parents : List ℕ) → (j mark : ℕ) → (stamps : List ℕ) → State
walk_of starts rows parents j mark stamps =
    reach_of parents (slice (slice_index starts j) (slice_index starts (j + 1)) rows) j (take (length parents) stamps) mark

-- the promise under a verdict v: the first n stamps are those of the walk, and the last of the first n places of the list are
-- what was found; every other place is as it was
pub record Walks (v : Told) (starts rows parents : List ℕ) (j mark : ℕ) (stamps found : List ℕ) (r : Result Mark ReachError) (stamps' found' : List ℕ) : Type 0 where
  pub outcome : told r ≡ first_of v (accepted (mark_of (take (length parents) stamps) mark ∷ (length parents - length (walk_of starts rows parents j mark stamps).found) ∷ []) [])
  pub stamped : stamps' ≡ after v stamps ((walk_of starts rows parents j mark stamps).stamps ++ drop (length parents) stamps)
  pub listed : found' ≡ after v found (take (length parents - length (walk_of starts rows parents j mark stamps).found) found ++ ((walk_of starts rows parents j mark stamps).found ++ drop (length parents) found))
