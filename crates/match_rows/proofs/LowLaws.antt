-- A pass over pairs of a row and a column that keeps the lowest column which does not list the row. `Low` is its invariant: what it
-- says of the pairs that the pass has come to. Assumes nothing.
use Rattle.std.specs.Prelude.{◌≡◌, ℕ, ◌+◌, ◌<◌, ◌≤◌, Bool, true, false, cond, not, ◌&&◌, T, ltb, ◌⊎◌, List}
use mathlib.Core.Logic.{inl, inr, ⊎_elim}
use mathlib.Core.Path.{refl, sym, subst, ◌∙◌}
use native.Mathlib.Omega.{arith}
use borrow.Author.Tests.{ltb-true, lt-ltb, le-ltb, not-true}
use Rattle.graph.specs.Sets.{elem}
use Rattle.graph.proofs.SetLaws.{is_false, decide, false_of}
use Rattle.tables.specs.Verdict.{at}
use Rattle.tables.specs.Sound.{Ordered}
use Rattle.tables.proofs.Bools.{and_left, and_right}
use Rattle.tables.proofs.SearchLaws.{lt-or-ge}
use Rattle.tables.proofs.ColumnLaws.{column-is}
use Rattle.match_rows.specs.Rows.{lowered, Lowest}

-- ---- the lowest so far

pub record Low (given : ℕ → ℕ → Bool) (listed : ℕ → List ℕ) (n : ℕ) (Done : ℕ → ℕ → Type 0) (r : ℕ) : Type 0 where
  pub within : r ≤ n
  pub before : (k i : ℕ) → k < r → Done i k → T (elem i (listed k))
  pub here : r < n → (i : ℕ) × (r < i) × (i < n) × T (given i r) × (T (elem i (listed r)) → ⊥)

module _ {given : ℕ → ℕ → Bool} {listed : ℕ → List ℕ} {n : ℕ} {Done : ℕ → ℕ → Type 0} where
  pub low-none : ((i k : ℕ) → Done i k → ⊥) → Low given listed n Done n
  low-none none = record { within = omega arith; before = λ k i h d. absurd (none i k d); here = λ h. absurd (omega arith) }

  -- where every pair has been come to
  pub low-all : {r : ℕ} → Low given listed n Done r → ((i k : ℕ) → k < i → i < n → T (given i k) → Done i k) → Lowest given listed n r
  low-all g all = record { within = g.within; before = λ k i h l b t. g.before k i h (all i k l b t); here = g.here }

  module _ {Done' : ℕ → ℕ → Type 0} {r : ℕ} (g : Low given listed n Done r) where
    -- where the pairs since then are listed
    pub low-keep : ((i k : ℕ) → k < r → Done' i k → Done i k ⊎ T (elem i (listed k))) → Low given listed n Done' r
    low-keep back = record { within = g.within; before = λ k i h d. ⊎_elim (λ d'. g.before k i h d') (λ m. m) (back i k h d); here = g.here }

    -- where one of column k, which is lower, is not
    pub low-down : (i k : ℕ) → k < r → k < i → i < n → T (given i k) → (T (elem i (listed k)) → ⊥) → ((i' k' : ℕ) → k' < k → Done' i' k' → Done i' k') → Low given listed n Done' k
    low-down i k less l b t lacks back =
        record { within = omega (arith, g.within); before = λ k' i' h d. g.before k' i' (omega arith) (back i' k' h d); here = λ h. (i, l, b, t, lacks) }

    pub low_skip : ((i k : ℕ) → Done' i k → Done i k) → Low given listed n Done' r
    low_skip back = low-keep (λ i k h d. inl (back i k d))

    -- one pair more
    pub low_more : (i k : ℕ) → k < i → i < n → T (given i k) → ((i' k' : ℕ) → Done' i' k' → Done i' k' ⊎ ((i' ≡ i) × (k' ≡ k))) → Low given listed n Done' (lowered listed i k r)
    unfolding lowered
    low_more i k l b t back = go (ltb k r && not (elem i (listed k))) refl
      where
        go : (x : Bool) → (ltb k r && not (elem i (listed k))) ≡ x → Low given listed n Done' (cond x k r)
        go true e =
            low-down i k (ltb-true k r (and_left (ltb k r) (not (elem i (listed k))) e)) l b t
            (is_false (not-true (elem i (listed k)) (and_right (ltb k r) (not (elem i (listed k))) e)))
            (λ i' k' h d. ⊎_elim (λ d'. d') (λ q. absurd (omega (arith, q.1))) (back i' k' d))
        go false e =
            low-keep (λ i' k' h d. ⊎_elim (λ d'. inl d') (λ q. inr (same k' i' h q.0 q.1 (decide (elem i (listed k))))) (back i' k' d))
          where
            same : (k' i' : ℕ) → k' < r → i' ≡ i → k' ≡ k → T (elem i (listed k)) ⊎ (T (elem i (listed k)) → ⊥) → T (elem i' (listed k'))
            same k' i' h p q (inl m) = rw (p, q) m
            same k' i' h p q (inr m) =
                let f : (true && not false) ≡ false = rw (lt-ltb k r (omega arith), false_of (elem i (listed k)) m) at e in
                absurd (is_false f tt)

-- ---- a pass that goes one place after the other, column by column

-- a pair of a place before u
pub record Passed (starts : List ℕ) (n : ℕ) (Pair : ℕ → ℕ → ℕ → ℕ → Type 0) (u i k : ℕ) : Type 0 where
  pub place : ℕ
  pub column : ℕ
  pub earlier : place < u
  pub known : column < n
  pub inside : (at starts column ≤ place) × (place < at starts (column + 1))
  pub pair : Pair place column i k

module _ {starts : List ℕ} {n m : ℕ} (o : Ordered starts n m) (Pair : ℕ → ℕ → ℕ → ℕ → Type 0) where
  pub passed_none : (i k : ℕ) → Passed starts n Pair (at starts 0) i k → ⊥
  passed_none i k p = omega (arith, p.earlier, o.begins)

  -- the pair of a place in column c
  pair_of : {u : ℕ} (c i k : ℕ) → c < n → (p : Passed starts n Pair u i k) → at starts c ≤ p.place → p.place < at starts (c + 1) → Pair p.place c i k
  pair_of c i k h p lo hi =
      let z : p.column ≡ c = sym (column-is o p.column p.place p.known p.inside.0 p.inside.1) ∙ column-is o c p.place h lo hi in
      subst (λ (x : ℕ). Pair p.place x i k) z p.pair

  pub passed-next : (c u i k : ℕ) → c < n → at starts c ≤ u → u < at starts (c + 1) → Passed starts n Pair (u + 1) i k → Passed starts n Pair u i k ⊎ Pair u c i k
  passed-next c u i k h lo hi p = ⊎_elim
      (λ s. inl (record { place = p.place; column = p.column; earlier = s; known = p.known; inside = p.inside; pair = p.pair }))
      (λ s. inr (last (omega (arith, p.earlier))))
      (lt-or-ge p.place u)
    where
      last : p.place ≡ u → Pair u c i k
      last e = subst (λ (x : ℕ). Pair x c i k) e (pair_of c i k h p (omega arith) (omega arith))

  -- those of a whole column
  pub passed-column : (c i k : ℕ) → c < n → Passed starts n Pair (at starts (c + 1)) i k → Passed starts n Pair (at starts c) i k ⊎ ((p : ℕ) × (at starts c ≤ p) × (p < at starts (c + 1)) × Pair p c i k)
  passed-column c i k h p = ⊎_elim
      (λ s. inl (record { place = p.place; column = p.column; earlier = s; known = p.known; inside = p.inside; pair = p.pair }))
      (λ s. inr (p.place, s, p.earlier, pair_of c i k h p s p.earlier))
      (lt-or-ge p.place (at starts c))

-- ---- one step of it

module _ (listed : ℕ → List ℕ) (i k least : ℕ) where
  pub lowered-taken : k < least → elem i (listed k) ≡ false → k ≡ lowered listed i k least
  unfolding lowered
  lowered-taken h e = rw (lt-ltb k least h, e)

  pub lowered-listed : k < least → elem i (listed k) ≡ true → least ≡ lowered listed i k least
  unfolding lowered
  lowered-listed h e = rw (lt-ltb k least h, e)

  pub lowered-past : least ≤ k → least ≡ lowered listed i k least
  unfolding lowered
  lowered-past h = rw (le-ltb k least h)
