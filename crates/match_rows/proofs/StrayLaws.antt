-- The stamps of a column's children, and the links, say which of its rows are given. Assumes nothing.
use Rattle.std.specs.Prelude.{◌≡◌, ℕ, ◌+◌, ◌<◌, ◌≤◌, Bool, true, false, not, ◌||◌, eqb, leb, is_some, List, length, Option}
use mathlib.Core.Logic.{⊎_elim}
use mathlib.Core.Path.{refl, sym, ap, ◌∙◌}
use native.Mathlib.Omega.{arith}
use borrow.Author.Tests.{le-leb, lt-leb}
use Rattle.graph.specs.Sets.{gather}
use Rattle.graph.specs.Links.{rows_in, linked_in}
use Rattle.tables.specs.Search.{first, fault}
use Rattle.tables.specs.Verdict.{at, past_diagonal}
use Rattle.tables.specs.Sound.{Columns}
use Rattle.tables.proofs.SearchLaws.{lt-or-ge, first-ge, first-before, first-fails, first-none, first-at, first_past, first-end}
use Rattle.match_rows.specs.Rows.{children, passed_on, given_in, stamps, column_given}
use Rattle.match_rows.proofs.FoundLaws.{some-within, none-past}
use Rattle.match_rows.proofs.ChildLaws.{stamps-length, stamps-le, stamps-test}

-- two tests that agree have the same first place
pub first-same : (ok ok' : ℕ → Bool) (lo hi : ℕ) → lo ≤ hi → ((k : ℕ) → lo ≤ k → k < hi → ok k ≡ ok' k) → first ok lo hi ≡ first ok' lo hi
first-same ok ok' lo hi le same =
    ⊎_elim
    (λ h. first-at ok lo (first ok' lo hi) hi (first-ge ok' lo hi) h (λ i a b. same i a (omega arith) ∙ first-before ok' lo hi i a b) (same (first ok' lo hi) (first-ge ok' lo hi) h ∙ first-fails ok' lo hi le h))
    (λ h. to_end ok (λ k a b. same k a b ∙ first-none ok' lo hi h k a b) ∙ sym (to_end ok' (first-none ok' lo hi h)))
    (lt-or-ge (first ok' lo hi) hi)
  where
    to_end : (t : ℕ → Bool) → ((k : ℕ) → lo ≤ k → k < hi → t k ≡ true) → first t lo hi ≡ hi
    to_end t all = first_past t lo hi hi le (omega arith) all ∙ first-end t hi hi (omega arith)

module _ (starts rows order l_starts l_rows : List ℕ) (k : ℕ) (seen seen' : List ℕ) (long : length seen ≡ 4096) (low : (i : ℕ) → i < 4096 → at seen i ≤ k)
    (e : seen' ≡ stamps (k + 1) (gather (rows_in l_starts l_rows) (children (rows_in l_starts l_rows) k (length order))) seen) where
  pub stamped-long : length seen' ≡ 4096
  stamped-long = ap length e ∙ stamps-length (k + 1) (gather (rows_in l_starts l_rows) (children (rows_in l_starts l_rows) k (length order))) seen ∙ long

  pub stamped-low : (i : ℕ) → i < 4096 → at seen' i ≤ k + 1
  stamped-low i h =
      rw e (stamps-le (k + 1) (gather (rows_in l_starts l_rows) (children (rows_in l_starts l_rows) k (length order))) seen i (omega (arith, long)) (omega (arith, low i h)))

  module _ (few : length order ≤ 4096) (columns : Columns past_diagonal (length order) l_starts l_rows) (h : k < length order) where
    -- where the search for a row that is neither stamped nor linked ended at u
    column-found : (u : ℕ) → u ≡ first (λ p. eqb (at seen' (at l_rows p)) (k + 1) || linked_in starts rows order (at l_rows p) k) (at l_starts k) (at l_starts (k + 1))
        → leb (at l_starts (k + 1)) u ≡ column_given (given_in starts rows order l_starts l_rows) l_starts l_rows k
    unfolding column_given given_in passed_on
    column-found u f =
        ap (leb (at l_starts (k + 1)))
        (f ∙ first-same (λ p. eqb (at seen' (at l_rows p)) (k + 1) || linked_in starts rows order (at l_rows p) k) (given_at) (at l_starts k) (at l_starts (k + 1)) (columns.ordered.rising k h) (λ p a b. ap (λ (x : Bool). x || linked_in starts rows order (at l_rows p) k) (row p a b)))
      where
        given_at : ℕ → Bool
        given_at p = given_in starts rows order l_starts l_rows (at l_rows p) k

        row : (p : ℕ) → at l_starts k ≤ p → p < at l_starts (k + 1) → eqb (at seen' (at l_rows p)) (k + 1) ≡ passed_on (rows_in l_starts l_rows) (length order) (at l_rows p) k
        row p a b =
            let r = (columns.ranged k p h a b).1 in
            rw e (stamps-test (k + 1) (gather (rows_in l_starts l_rows) (children (rows_in l_starts l_rows) k (length order))) seen (at l_rows p) (omega (arith, long)) (omega (arith, low (at l_rows p) (omega arith))))

    -- where it found o
    pub column-tested : (o : Option ℕ) → o ≡ fault (λ p. eqb (at seen' (at l_rows p)) (k + 1) || linked_in starts rows order (at l_rows p) k) (at l_starts k) (at l_starts (k + 1)) → (r : Bool) → is_some o ≡ not r
        → r ≡ column_given (given_in starts rows order l_starts l_rows) l_starts l_rows k
    column-tested o f true e = sym (le-leb _ _ (none-past _ _ _ o f e)) ∙ column-found _ refl
    column-tested o f false e = sym (lt-leb _ _ (some-within _ _ _ o f e)) ∙ column-found _ refl
