-- The cache of a factorization: one more lent buffer, where the products L(i, k) times the unit factor of k are kept. Its need is L's numbers,
-- but no more than a bound by what is handed in; a call that is lent none has the bound 0. Assumes nothing.
use Rattle.std.specs.Prelude.{◌≡◌, ℕ, ◌+◌, ◌*◌, cond, List, ◌++◌, length, drop, nat_lt}
use Rattle.std.specs.Prelude.{Float}
use Rattle.scalar.specs.Block.{zeros}
use Rattle.refusal.specs.Refusal.{Told, verdict_after, after}
use Rattle.needs.specs.Needs.{Lent, need_checks}
use Rattle.machine.specs.System.{System}
use Rattle.factor_setup.specs.Exact.{stored, numbers}
use Rattle.factor_core.specs.Factorize.{Factorized, Places, early, FactorsBy}
use Rattle.factor_core.specs.Written.{plan_needs}

-- the lesser of two
abbrev pub lesser : ℕ → ℕ → ℕ
lesser m n = cond (nat_lt m n) m n

-- the entries and the numbers that are handed in
abbrev pub handed_in : System → ℕ
handed_in a = length a.dims + length a.starts + length a.rows + length a.values + length a.perm + length a.late

-- the most that the cache needs, by what is handed in
abbrev pub most_kept : System → ℕ
most_kept a = 16 * (1 + handed_in a)

-- the cache's need, at most `most`
abbrev pub cache_need : (most : ℕ) → System → ℕ
cache_need most a = lesser (numbers a) most

-- the needs that only the plan shows, where a cache of `have` numbers is lent: L's offsets and values, the cache, and L's row table last
abbrev pub kept_list : (most : ℕ) → System → Places → (have : ℕ) → List Lent
kept_list most a b have = plan_needs (length b.l_offsets) (length b.l_values) have (length b.l_rows) (stored a) (numbers a) (cache_need most a)

-- the verdict before the numbers: after an early one, the needs that only the plan shows
unfoldable pub whole_kept : Told → (most : ℕ) → System → Places → (have : ℕ) → Told
whole_kept v most a b have = verdict_after v (need_checks (kept_list most a b have))

-- zeros in the first n places, as far as there are so many
abbrev pub cleared_to : ℕ → List Float → List Float
cleared_to n xs = zeros (lesser n (length xs)) ++ drop n xs

-- What is left under an early verdict v: all as `FactorsBy` says; the cache is as it was where v refuses, else zeros as far as it is needed and
-- lent, and beyond its need as it was.
pub record FactorsKept (v : Told) (most : ℕ) (a : System) (b : Places) (c : List Float) (r : Factorized) (b' : Places) (c' : List Float) : Type 0 where
  pub factors : FactorsBy v (whole_kept v most a b (length c)) a b r b'
  pub cache : c' ≡ after v c (cleared_to (cache_need most a) c)

-- the promise of `factorize_with_cache`
abbrev pub FactorsWithCache : (a : System) (b : Places) (c : List Float) (r : Factorized) (b' : Places) (c' : List Float) → Type 0
FactorsWithCache a b c r b' c' = FactorsKept (early a b) (most_kept a) a b c r b' c'
