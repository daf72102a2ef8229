-- A column of L has its linked rows and the rows past it of its children, the columns whose first row it is. Assumes nothing.
--     fill-child    a row of the fill rule is a link, or a row of a child
--     given-ruled, ruled-given   the same of listed columns, where those before are right
--     right-here    so a column that lists what it is given, and no more, is right
use Rattle.std.specs.Prelude.{◌≡◌, ℕ, zero, suc, ◌+◌, ◌<◌, ◌≤◌, Bool, ◌||◌, T, ◌⊎◌, List, [], ◌∷◌}
use mathlib.Core.Logic.{inl, inr, ⊎_elim}
use mathlib.Core.Option.{Option, none, some}
use mathlib.Core.Path.{refl, sym, ap, subst, ◌∙◌}
use native.Mathlib.Omega.{arith}
use native.Mathlib.Decide.{dec_lt}
use lib.Dec.{eqb→eq}
use Rattle.graph.specs.Sets.{elem, gather, Inc}
use Rattle.graph.specs.Fill.{Fill, here, made, Least}
use Rattle.graph.specs.Symbolic.{first, rows}
use Rattle.graph.proofs.SetLaws.{or_left, or_right, or_cases, eqb_of, elem-head, inc-ext}
use Rattle.graph.proofs.SymbolicLaws.{rows_right, rows_ascending, parent_least}
use Rattle.match_rows.specs.Rows.{heads, children, passed_on}
use Rattle.match_rows.proofs.ChildLaws.{children-elim, children-intro, gather-elim, gather-intro}

-- ---- the first of a list

first-heads : (l : List ℕ) (k : ℕ) → first l ≡ some k → T (heads l k)
first-heads [] k e = let z : ◌≡◌ {A = ℕ} 0 1 = cc in absurd (omega arith)
first-heads (x ∷ l) k e = let z : x ≡ k = cc in eqb_of z

heads-elem : (l : List ℕ) (k : ℕ) → T (heads l k) → T (elem k l)
heads-elem [] k t = absurd t
heads-elem (x ∷ l) k t = subst (λ (y : ℕ). T (elem y (x ∷ l))) (eqb→eq x k t) (elem-head x l)

module _ (linked : ℕ → ℕ → Bool) (n : ℕ) (symm : (a b : ℕ) → T (linked a b) → T (linked b a)) where
  -- a child of k that has row i
  abbrev Child : ℕ → ℕ → Type 0
  Child i k = (c : ℕ) × (c < k) × (first (rows linked n c) ≡ some k) × Fill linked i c

  -- from a column m that has rows k and i the parents lead to a child of k that has row i
  leads : (d k m i : ℕ) → k ≤ m + d → m < k → k < i → i < n → Fill linked k m → Fill linked i m → Child i k
  leads zero k m i b l ki h f g = absurd (omega arith)
  leads (suc d) k m i b l ki h f g = go (first (rows linked n m)) refl (parent_least linked n symm m (omega arith)) (λ p b' l' f' g'. leads d k p i b' l' ki h f' g')
    where
      go : (o : Option ℕ) → first (rows linked n m) ≡ o → Least linked n m o
          → ((p : ℕ) → k ≤ p + d → p < k → Fill linked k p → Fill linked i p → Child i k) → Child i k
      go none e least rec = absurd (least k l (omega arith) f)
      go (some p) e least rec = at (dec_lt p k)
        where
          at : Dec (p < k) → Child i k
          at (yes s) = rec p (omega (arith, least.0)) s (made least.0 least.2 f) (made least.0 least.2 g)
          at (no s) = let z : p ≡ k = omega (arith, least.3 k l (omega arith) f) in (m, l, e ∙ ap some z, g)

  pub fill-child : {i k : ℕ} → k < i → i < n → Fill linked i k → T (linked i k) ⊎ Child i k
  fill-child l h (here t) = inl t
  fill-child {i} {k} l h (made {k = m} lt f g) = inr (leads k k m i (omega arith) lt l h f g)

  -- ---- listed columns

  module _ (listed : ℕ → List ℕ) (past : (k i : ℕ) → k < n → T (elem i (listed k)) → (k < i) × (i < n)) (k : ℕ) (h : k < n) (right : (c : ℕ) → c < k → listed c ≡ rows linked n c) where
    pub given-ruled : (i : ℕ) → k < i → i < n → T (passed_on listed n i k || linked i k) → T (elem i (rows linked n k))
    unfolding passed_on
    given-ruled i l b t = ⊎_elim (λ m. from-child m) (λ t'. (rows_right linked n symm k h).complete i l b (here t')) (or_cases (elem i (gather listed (children listed k n))) (linked i k) t)
      where
        from-child : T (elem i (gather listed (children listed k n))) → T (elem i (rows linked n k))
        from-child m =
            let q = gather-elim listed i (children listed k n) m in
            let c = q.0 in
            let e = children-elim listed k n c q.1 in
            let mk = heads-elem (listed c) k e.1 in
            let lt = (past c k e.0 mk).0 in
            let fk = ((rows_right linked n symm c e.0).sound k (subst (λ (x : List ℕ). T (elem k x)) (right c lt) mk)).2 in
            let fi = ((rows_right linked n symm c e.0).sound i (subst (λ (x : List ℕ). T (elem i x)) (right c lt) q.2)).2 in
            (rows_right linked n symm k h).complete i l b (made lt fk fi)

    pub ruled-given : (i : ℕ) → T (elem i (rows linked n k)) → T (passed_on listed n i k || linked i k)
    unfolding passed_on
    ruled-given i m =
        let s = (rows_right linked n symm k h).sound i m in
        ⊎_elim (λ t. or_right (elem i (gather listed (children listed k n))) (linked i k) t)
        (λ q. or_left (elem i (gather listed (children listed k n))) (linked i k) (by-child i s.0 s.1 q.0 q.1 q.2 q.3))
        (fill-child s.0 s.1 s.2)
      where
        by-child : (i : ℕ) → k < i → i < n → (c : ℕ) → c < k → first (rows linked n c) ≡ some k → Fill linked i c → T (elem i (gather listed (children listed k n)))
        by-child i l b c lt e f =
            gather-intro listed i c (children listed k n) (children-intro listed k n c (omega arith) (first-heads (listed c) k (ap first (right c lt) ∙ e)))
            (subst (λ (x : List ℕ). T (elem i x)) (sym (right c lt)) ((rows_right linked n symm c (omega arith)).complete i (omega arith) b f))

    pub right-here : Inc (listed k) → ((i : ℕ) → k < i → i < n → T (passed_on listed n i k || linked i k) → T (elem i (listed k)))
        → ((i : ℕ) → T (elem i (listed k)) → T (passed_on listed n i k || linked i k)) → listed k ≡ rows linked n k
    right-here inc all only =
        inc-ext (listed k) (rows linked n k) inc (rows_ascending linked n symm k h) (λ i m. let b = past k i h m in given-ruled i b.0 b.1 (only i m))
        (λ i m. let s = (rows_right linked n symm k h).sound i m in all i s.0 s.1 (ruled-given i m))
