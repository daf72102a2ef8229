-- The refusals of document 01, 1 to 16, and what each carries. Assumes nothing.
use Rattle.std.specs.Prelude.{ℕ, zero, suc, Bool, true, false, cond, List, [], ◌∷◌, Float, Result, Ok, Err}

-- an answer as document 01 words it: the refusal's number, or 0 where the call is accepted, then the indices and the floats that it carries
pub data Told : Type 0 where
  tells : ℕ → List ℕ → List Float → Told

abbrev pub number : Told → ℕ
number (tells n is xs) = n

-- ---- 0: accepted, with what the call hands back
abbrev pub accepted : List ℕ → List Float → Told
accepted = tells 0

abbrev pub done : Told
done = accepted [] []

-- ---- the assembler of the tables

-- 1: more than 4,096 blocks
abbrev pub too_many_blocks : Told
too_many_blocks = tells 1 [] []

-- 2: a dimension 0 or above 16: its place
abbrev pub bad_dimension : ℕ → Told
bad_dimension place = tells 2 (place ∷ []) []

-- 3: column starts of another count, not beginning at 0, falling, or not ending at the row count: the place
abbrev pub bad_starts : ℕ → Told
bad_starts place = tells 3 (place ∷ []) []

-- 4: more than 65,536 stored blocks
abbrev pub too_many_stored : Told
too_many_stored = tells 4 [] []

-- 5: a row outside its range: the place in the row table
abbrev pub out_of_range : ℕ → Told
out_of_range place = tells 5 (place ∷ []) []

-- 5: a parent outside its range: the block, and 1, which tells it from a row
abbrev pub bad_parent : ℕ → Told
bad_parent block = tells 5 (block ∷ 1 ∷ []) []

-- 6: rows of a column not strictly increasing: the place
abbrev pub not_increasing : ℕ → Told
not_increasing place = tells 6 (place ∷ []) []

-- 7: the number of values is not the sum of block areas
abbrev pub bad_value_count : Told
bad_value_count = tells 7 [] []

-- ---- the night planner

-- 8: a permutation of another length, with an entry too large, or twice the same: the place
abbrev pub bad_permutation : ℕ → Told
bad_permutation place = tells 8 (place ∷ []) []

-- 9: late flags of another length, or one not 0 or 1: the place
abbrev pub bad_late_flags : ℕ → Told
bad_late_flags place = tells 9 (place ∷ []) []

-- ---- the operator

-- 10: a tolerance NaN, infinite or below zero
abbrev pub bad_tolerance : Told
bad_tolerance = tells 10 [] []

-- ---- whoever lends buffers

-- 11: a buffer shorter than needed: which one, and the need
abbrev pub short_buffer : ℕ → ℕ → Told
short_buffer which need = tells 11 (which ∷ need ∷ []) []

-- 12: shapes that disagree: the place in the call
abbrev pub shapes_disagree : ℕ → Told
shapes_disagree place = tells 12 (place ∷ []) []

-- ---- the data

-- 13: a pivot NaN or infinite: the block, the place and the pivot itself
abbrev pub pivot_not_finite : ℕ → ℕ → Float → Told
pivot_not_finite block place pivot = tells 13 (block ∷ place ∷ []) (pivot ∷ [])

-- 14: indefinite with a condition below 1e-10: the block and its condition
abbrev pub poorly_conditioned : ℕ → Float → Told
poorly_conditioned block condition = tells 14 (block ∷ []) (condition ∷ [])

-- ---- the sender of a sheet

-- 15: length or offsets wrong
abbrev pub bad_sheet : Told
bad_sheet = tells 15 [] []

-- 16: beyond the program's room
abbrev pub no_room : Told
no_room = tells 16 [] []

-- ---- the answer of a call: what is accepted, and its refusals

-- an answer, from how what is accepted and a refusal are told
abbrev pub told_by : {A E : Type 0} → (A → Told) → (E → Told) → Result A E → Told
told_by accepts refuses (Ok a) = accepts a
told_by accepts refuses (Err e) = refuses e

-- its number, 0 where the call is accepted
abbrev pub number_by : {A E : Type 0} → (E → Told) → Result A E → ℕ
number_by refuses (Ok a) = 0
number_by refuses (Err e) = number (refuses e)

-- ---- a verdict and what follows from it

abbrev pub refuses : Told → Bool
refuses (tells zero is xs) = false
refuses (tells (suc n) is xs) = true

-- the first of two verdicts that refuses
abbrev pub first_of : Told → Told → Told
first_of (tells zero is xs) next = next
first_of (tells (suc n) is xs) next = tells (suc n) is xs

-- the first of a list of checks that refuses, after one verdict already given
abbrev pub verdict_after : Told → List Told → Told
verdict_after before [] = before
verdict_after before (check ∷ checks) = verdict_after (first_of before check) checks

abbrev pub verdict : List Told → Told
verdict checks = verdict_after done checks

-- a lent place under a verdict of 1 to 12: as it was where that refuses, else the new contents
abbrev pub after : {A : Type 0} → Told → A → A → A
after v old new = cond (refuses v) old new
