-- Searches and sums, by the form of a loop that counts lo up to hi: each turn leaves the answer for the rest as it was. Assumes nothing.
--     first-end, first-here, first_next   what a turn, or the end, says of the answer
--     first-none, first-fails, first-before   what an answer says of the test
--     first_past, first-at     where the test holds on a part, and then fails
--     Searched, with searched, passed, failed, ended: the invariant of a search and its steps
--     Summed, with summed, added, added-le, all-added: the invariant of a sum and its steps
use Rattle.std.specs.Prelude.{◌≡◌, ℕ, zero, suc, ◌+◌, ◌-◌, ◌*◌, ◌<◌, ◌≤◌, Bool, true, false, cond, ltb, ◌⊎◌}
use mathlib.Core.Path.{refl, sym, ◌∙◌}
use mathlib.Core.Logic.{inl, inr, ⊎_elim}
use native.Mathlib.Numerals.{add-one}
use native.Mathlib.Nat.{eq-or-lt_of_le, mul-suc}
use native.Mathlib.Omega.{arith}
use borrow.Author.Tests.{ltb-true, ltb-false}
use Rattle.tables.specs.Search.{first_from, first, sum_from, sum}

pub lt-or-ge : (m n : ℕ) → (m < n) ⊎ (n ≤ m)
lt-or-ge m n = by-test (ltb m n) refl
  where
    by-test : (b : Bool) → ltb m n ≡ b → (m < n) ⊎ (n ≤ m)
    by-test true e = inl (ltb-true m n e)
    by-test false e = inr (ltb-false m n e)

-- ---- the step from hi - lo to the number after it

none_left : (lo hi : ℕ) → hi ≤ lo → hi - lo ≡ zero
none_left lo hi h = omega arith

one_left : (lo hi : ℕ) → lo < hi → hi - lo ≡ suc (hi - (lo + 1))
one_left lo hi h = omega arith

module _ (ok : ℕ → Bool) (lo hi : ℕ) where
  pub first-end : hi ≤ lo → first ok lo hi ≡ lo
  unfolding first first_from
  first-end h = rw (none_left lo hi h)

  pub first-here : lo < hi → ok lo ≡ false → first ok lo hi ≡ lo
  unfolding first first_from
  first-here h e = rw (one_left lo hi h, e)

  pub first_next : lo < hi → ok lo ≡ true → first ok lo hi ≡ first ok (lo + 1) hi
  unfolding first first_from
  first_next h e = rw (one_left lo hi h, e, add-one)

module _ (f : ℕ → ℕ) (lo hi : ℕ) where
  pub sum-end : hi ≤ lo → sum f lo hi ≡ 0
  unfolding sum sum_from
  sum-end h = rw (none_left lo hi h)

  pub sum-next : lo < hi → sum f lo hi ≡ f lo + sum f (lo + 1) hi
  unfolding sum sum_from
  sum-next h = rw (one_left lo hi h, add-one)

-- ---- what an answer tells

module _ (ok : ℕ → Bool) where
  from-ge : (i n : ℕ) → i ≤ first_from ok i n
  unfolding first_from
  from-ge i zero = omega arith
  from-ge i (suc n) = ge-cond (ok i) _ _ _ (omega (arith, from-ge (suc i) n)) (omega arith)
    where
      ge-cond : (b : Bool) (x y m : ℕ) → m ≤ x → m ≤ y → m ≤ cond b x y
      ge-cond true x y m p q = p
      ge-cond false x y m p q = q

  from-before : (i n k : ℕ) → i ≤ k → k < first_from ok i n → ok k ≡ true
  unfolding first_from
  from-before i zero k p q = absurd (omega arith)
  from-before i (suc n) k p q = by-test (ok i) refl q (λ s h. from-before (suc i) n k s h)
    where
      by-test : (b : Bool) → ok i ≡ b → k < cond b (first_from ok (suc i) n) i → (i < k → k < first_from ok (suc i) n → ok k ≡ true) → ok k ≡ true
      by-test false t h rest = absurd (omega arith)
      by-test true t h rest = ⊎_elim (λ s. rw s at t) (λ s. rest s h) (eq-or-lt_of_le p)

  from-fails : (i n : ℕ) → first_from ok i n < i + n → ok (first_from ok i n) ≡ false
  unfolding first_from
  from-fails i zero h = absurd (omega arith)
  from-fails i (suc n) h = by-test (ok i) refl h (λ g. from-fails (suc i) n g)
    where
      by-test : (b : Bool) → ok i ≡ b → cond b (first_from ok (suc i) n) i < i + suc n → (first_from ok (suc i) n < suc i + n → ok (first_from ok (suc i) n) ≡ false) → ok (cond b (first_from ok (suc i) n) i) ≡ false
      by-test false t g rest = t
      by-test true t g rest = rest (omega arith)

  pub first-ge : (lo hi : ℕ) → lo ≤ first ok lo hi
  unfolding first
  first-ge lo hi = from-ge lo (hi - lo)

  -- the test holds before the answer
  pub first-before : (lo hi k : ℕ) → lo ≤ k → k < first ok lo hi → ok k ≡ true
  unfolding first
  first-before lo hi k p q = from-before lo (hi - lo) k p q

  -- an answer before the end is where it fails
  pub first-fails : (lo hi : ℕ) → lo ≤ hi → first ok lo hi < hi → ok (first ok lo hi) ≡ false
  unfolding first
  first-fails lo hi l h = from-fails lo (hi - lo) (omega arith)

  -- a search that ran to its end: the test holds at each place
  pub first-none : (lo hi : ℕ) → hi ≤ first ok lo hi → (k : ℕ) → lo ≤ k → k < hi → ok k ≡ true
  first-none lo hi h k p q = first-before lo hi k p (omega arith)

  past : (d lo hi end : ℕ) → lo + d ≡ hi → hi ≤ end → ((k : ℕ) → lo ≤ k → k < hi → ok k ≡ true) → first ok lo end ≡ first ok hi end
  past zero lo hi end e h each = let z : lo ≡ hi = omega arith in rw z
  past (suc d) lo hi end e h each =
      first_next ok lo end (omega arith) (each lo (omega arith) (omega arith)) ∙ past d (lo + 1) hi end (omega arith) h (λ k p q. each k (omega arith) q)

  -- a part at which the test holds is passed over
  pub first_past : (lo hi end : ℕ) → lo ≤ hi → hi ≤ end → ((k : ℕ) → lo ≤ k → k < hi → ok k ≡ true) → first ok lo end ≡ first ok hi end
  first_past lo hi end l h each = past (hi - lo) lo hi end (omega arith) h each

  -- and where it fails next is the answer
  pub first-at : (lo k end : ℕ) → lo ≤ k → k < end → ((i : ℕ) → lo ≤ i → i < k → ok i ≡ true) → ok k ≡ false → first ok lo end ≡ k
  first-at lo k end l h each e = first_past lo k end l (omega arith) each ∙ first-here ok k end h e

module _ (f : ℕ → ℕ) where
  from-sum-le : (b i n : ℕ) → ((k : ℕ) → i ≤ k → k < i + n → f k ≤ b) → sum_from f i n ≤ b * n
  unfolding sum_from
  from-sum-le b i zero h = omega arith
  from-sum-le b i (suc n) h =
      let here : f i ≤ b = h i (omega arith) (omega arith) in
      let rest : sum_from f (suc i) n ≤ b * n = from-sum-le b (suc i) n (λ k p q. h k (omega arith) (omega arith)) in
      rw mul-suc (omega arith)

  pub sum-le : (b lo hi : ℕ) → lo ≤ hi → ((k : ℕ) → lo ≤ k → k < hi → f k ≤ b) → sum f lo hi ≤ b * (hi - lo)
  unfolding sum
  sum-le b lo hi h each = from-sum-le b lo (hi - lo) (λ k p q. each k p (omega arith))

  split : (d lo hi end : ℕ) → lo + d ≡ hi → hi ≤ end → sum f lo hi + sum f hi end ≡ sum f lo end
  split zero lo hi end e h = let z : lo ≡ hi = omega arith in rw z (omega (arith, sum-end f hi hi (omega arith)))
  split (suc d) lo hi end e h =
      omega (arith, sum-next f lo hi (omega arith), sum-next f lo end (omega arith), split d (lo + 1) hi end (omega arith) h)

  -- two parts
  pub sum-split : (lo hi end : ℕ) → lo ≤ hi → hi ≤ end → sum f lo hi + sum f hi end ≡ sum f lo end
  sum-split lo hi end l h = split (hi - lo) lo hi end (omega arith) h

module _ (f g : ℕ → ℕ) where
  from-same : (i n : ℕ) → ((k : ℕ) → i ≤ k → k < i + n → f k ≡ g k) → sum_from f i n ≡ sum_from g i n
  unfolding sum_from
  from-same i zero h = refl
  from-same i (suc n) h =
      omega (arith, h i (omega arith) (omega arith), from-same (suc i) n (λ k p q. h k (omega arith) (omega arith)))

  pub sum_same : (lo hi : ℕ) → lo ≤ hi → ((k : ℕ) → lo ≤ k → k < hi → f k ≡ g k) → sum f lo hi ≡ sum g lo hi
  unfolding sum
  sum_same lo hi l h = from-same lo (hi - lo) (λ k p q. h k p (omega arith))

-- ---- a loop that searches

-- the invariant of a loop that searches lo to hi and has come to i
pub record Searched (ok : ℕ → Bool) (lo hi i : ℕ) : Type 0 where
  pub within : i ≤ hi
  pub same : first ok lo hi ≡ first ok i hi

module _ {ok : ℕ → Bool} {lo hi : ℕ} where
  -- where it begins
  pub searched : lo ≤ hi → Searched ok lo hi lo
  searched h = record { within = h; same = refl }

  module _ {i : ℕ} (s : Searched ok lo hi i) where
    -- the test at i answers r, which is what `ok` says; it holds: one more turn
    pub passed : {r : Bool} → i < hi → r ≡ ok i → r ≡ true → Searched ok lo hi (i + 1)
    passed h e t = record { within = omega arith; same = s.same ∙ first_next ok i hi h (sym e ∙ t) }

    -- it fails: the answer is i
    pub failed : {r : Bool} → i < hi → r ≡ ok i → r ≡ false → i ≡ first ok lo hi
    failed h e t = sym (s.same ∙ first-here ok i hi h (sym e ∙ t))

    -- nothing is left: the answer is i
    pub ended : hi ≤ i → i ≡ first ok lo hi
    ended h = sym (s.same ∙ first-end ok i hi h)

-- ---- a loop that sums

-- the invariant of a loop that sums f over lo to hi, has come to i and holds s
pub record Summed (f : ℕ → ℕ) (lo hi i s : ℕ) : Type 0 where
  pub within : i ≤ hi
  pub same : s + sum f i hi ≡ sum f lo hi

module _ {f : ℕ → ℕ} {lo hi : ℕ} where
  pub summed : lo ≤ hi → Summed f lo hi lo 0
  summed h = record { within = h; same = omega arith }

  module _ {i s : ℕ} (w : Summed f lo hi i s) where
    -- the next number is within the whole, so a bound on the whole bounds it
    pub added-le : i < hi → s + f i ≤ sum f lo hi
    added-le h = omega (arith, w.same, sum-next f i hi h)

    pub added : i < hi → Summed f lo hi (i + 1) (s + f i)
    added h = record { within = omega arith; same = omega (arith, w.same, sum-next f i hi h) }

    pub all-added : hi ≤ i → s ≡ sum f lo hi
    all-added h = omega (arith, w.same, sum-end f i hi h)
