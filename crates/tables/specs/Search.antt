-- Going through the numbers lo, lo + 1, .., hi - 1: the first at which a test fails, and a sum. Assumes nothing.
use Rattle.std.specs.Prelude.{ℕ, zero, suc, ◌+◌, ◌-◌, Bool, cond, nat_lt, Option, Some, None}

-- of n numbers from i on, the first at which the test fails; i + n where there is none
unfoldable pub first_from : (ℕ → Bool) → ℕ → ℕ → ℕ
first_from ok i zero = i
first_from ok i (suc n) = cond (ok i) (first_from ok (suc i) n) i

-- the least k from lo on, below hi, at which the test fails; hi where there is none
unfoldable pub first : (ℕ → Bool) → ℕ → ℕ → ℕ
first ok lo hi = first_from ok lo (hi - lo)

-- the sum of f over n numbers from i on
unfoldable pub sum_from : (ℕ → ℕ) → ℕ → ℕ → ℕ
sum_from f i zero = 0
sum_from f i (suc n) = f i + sum_from f (suc i) n

-- f lo + f (lo + 1) + .. + f (hi - 1)
unfoldable pub sum : (ℕ → ℕ) → ℕ → ℕ → ℕ
sum f lo hi = sum_from f lo (hi - lo)

-- the least k from lo on, below hi, at which the test fails, if there is one
unfoldable pub fault : (ℕ → Bool) → ℕ → ℕ → Option ℕ
fault ok lo hi = cond (nat_lt (first ok lo hi) hi) (Some (first ok lo hi)) None
