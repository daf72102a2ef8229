-- What `elimination_tree::new` answers, and what it leaves, for any arguments. Assumes nothing.
use Rattle.std.specs.Prelude.{◌≡◌, ℕ, ◌<◌, false, List, [], ◌∷◌, ◌++◌, drop, replicate, slice_index, Result}
use Rattle.refusal.specs.Refusal.{Told, done, told_by, too_many_blocks, bad_starts, out_of_range, not_increasing, short_buffer, refuses, verdict_after, after}
use Rattle.refusal.specs.Check.{need_check}
use Rattle.tables.specs.Verdict.{upper_verdict}
use Rattle.graph.specs.Tree.{Parent}
use Rattle.elimination_tree.specs.Tree.{decode, linked_up, parents_of}
use Rattle.elimination_tree.specs.declared.TreeError.{TreeError}
use Rattle.elimination_tree.specs.declared.TreeError.TheVariants.{Blocks, Starts, Row, Order, Short}

-- document 01's number and values for each case
abbrev pub told_error : TreeError → Told
told_error Blocks = too_many_blocks
told_error (Starts place) = bad_starts place
told_error (Row place) = out_of_range place
told_error (Order place) = not_increasing place
told_error (Short which need) = short_buffer which need

abbrev pub told : Result Unit TreeError → Told
told = told_by (λ w. done) told_error

-- 11: the parents and then the ancestors need n places
abbrev pub needs : (n parents ancestors : ℕ) → List Told
needs n parents ancestors = need_check 0 parents n ∷ need_check 1 ancestors n ∷ []

-- the first of 1, 3, 5, 6 on the upper pattern, then 11
unfoldable pub new_verdict : (n : ℕ) → (starts rows : List ℕ) → (parents ancestors : ℕ) → Told
new_verdict n starts rows parents ancestors = verdict_after (upper_verdict n starts rows) (needs n parents ancestors)

-- the promise under a verdict v: the first n parents are those of Liu's algorithm, and each is the parent that Liu defines; the ancestors are scratch and end as zeros; places beyond n are as they were
pub record Grows (v : Told) (n : ℕ) (starts rows parents ancestors : List ℕ) (r : Result Unit TreeError) (parents' ancestors' : List ℕ) : Type 0 where
  pub outcome : told r ≡ v
  pub tree : parents' ≡ after v parents (parents_of (linked_up starts rows) n ++ drop n parents)
  pub liu : refuses v ≡ false → (k : ℕ) → k < n → Parent (linked_up starts rows) n k (decode (slice_index parents' k))
  pub scratch : ancestors' ≡ after v ancestors (replicate n 0 ++ drop n ancestors)
