-- Counts by kind. Assumes nothing.
use Rattle.std.specs.Prelude.{ℕ, cond, List, nat_lt, length, slice_index_or, slice_set, fold}
use Rattle.word_list.specs.declared.tally.Count.{Count}
use Rattle.word_list.specs.Count.{none, more}

-- where a kind is counted: at its own place, at 0 where it has none
abbrev pub place_of : (kinds kind : ℕ) → ℕ
place_of kinds kind = cond (nat_lt kind kinds) kind 0

-- some more of a kind
abbrev pub counted : List Count → ℕ → Count → List Count
counted counts kind by =
    let at = place_of (length counts) kind in
    slice_set counts at (more (slice_index_or counts at none) by)

-- all kinds together
abbrev pub summed : List Count → Count
summed counts = fold more none counts
