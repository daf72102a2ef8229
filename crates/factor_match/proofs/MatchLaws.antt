-- The lowest of the passes' answers is the first wrong column, and says its kind. Assumes nothing.
use Rattle.std.specs.Prelude.{◌≡◌, ℕ, zero, suc, ◌+◌, ◌<◌, ◌≤◌, min, Bool, true, false, not, ◌||◌, T, List, length, Ok, Err, Option, Some, None}
use Prim.Native.Nat.{zero-le}
use mathlib.Core.Logic.{⊎_elim}
use mathlib.Core.Path.{refl, sym, ap, subst, ◌∙◌}
use native.Mathlib.Omega.{arith}
use native.Mathlib.Decide.{dec_lt}
use borrow.Author.Tests.{leb-true, leb-false, ltb-true, ltb-false, eqb-true, eqb-false, lt-ltb, le-ltb, eq-eqb, ne_eqb}
use Rattle.graph.specs.Sets.{elem, any, Inc}
use Rattle.graph.specs.Links.{rows_in, linked_in}
use Rattle.graph.specs.Symbolic.{rows}
use Rattle.graph.specs.Symbolic as symbolic
use Rattle.graph.specs.Liu.{tree_parent}
use Rattle.graph.proofs.SetLaws.{or_left, or_right, or_cases, is_true, is_false, true_of, false_of, any-intro, any-elim}
use Rattle.graph.proofs.SymbolicLaws.{rows_right}
use Rattle.graph.proofs.TreeLaws.{tree-rows}
use Rattle.graph.proofs.Whole.{linked-symm}
use Rattle.std.specs.Option.{unwrap_or}
use Rattle.tables.specs.Search.{first, fault}
use Rattle.tables.proofs.FaultLaws.{fault-end, fault-some, fault-past}
use Rattle.tables.specs.Verdict.{at, past_diagonal}
use Rattle.tables.specs.Sound.{Columns}
use Rattle.tables.proofs.SearchLaws.{first-ge, first-before, first-fails, first-none, first-at, first_past, first-end}
use Rattle.elimination_tree.specs.Tree.{code}
use Rattle.match_rows.specs.Rows.{passed_on, given_in, headed, Lowest, LowestOf, column_given}
use Rattle.match_rows.proofs.HalvedLaws.{listed_at, listed_place}
use Rattle.factor_match.specs.Match.{before, lacks, missing, extra, column_right, kind_at, first_wrong, match_of}
use Rattle.factor_match.specs.declared.cores.ColumnError.TheVariants as kind
use Rattle.factor_match.proofs.ChildLaws.{given-ruled, ruled-given, right-here}

-- ---- a row that is not there

pub lacks-some : (l m : List ℕ) (i : ℕ) → T (elem i l) → (T (elem i m) → ⊥) → lacks l m ≡ true
unfolding lacks
lacks-some l m i t n = true_of (any (λ i. not (elem i m)) l) (any-intro (λ i. not (elem i m)) i l t (rw (false_of (elem i m) n) tt))

pub lacks-none : (l m : List ℕ) → ((i : ℕ) → T (elem i l) → T (elem i m)) → lacks l m ≡ false
unfolding lacks
lacks-none l m all = false_of (any (λ i. not (elem i m)) l) (λ t. let r = any-elim (λ i. not (elem i m)) l t in never (elem r.0 m) r.2 (all r.0 r.1))
  where
    never : (b : Bool) → T (not b) → T b → ⊥
    never true s r = s
    never false s r = r

pub lacks-same : (l m : List ℕ) → l ≡ m → lacks l m ≡ false
lacks-same l m e = lacks-none l m (λ i t. subst (λ (x : List ℕ). T (elem i x)) e t)

-- ---- the first wrong column

module _ (linked : ℕ → ℕ → Bool) (n : ℕ) (parents : List ℕ) (listed : ℕ → List ℕ) where
  abbrev ok : ℕ → Bool
  ok = column_right linked n parents listed

  pub wrong-at : (k : ℕ) → k < n → ((i : ℕ) → i < k → column_right linked n parents listed i ≡ true) → column_right linked n parents listed k ≡ false → Err (kind_at linked n parents listed k) ≡ first_wrong linked n parents listed
  unfolding first_wrong
  wrong-at k h before here =
      let e = first-at ok 0 k n zero-le h (λ i _ l. before i l) here in
      rw (e, lt-ltb k n h)

  pub wrong-none : ((i : ℕ) → i < n → column_right linked n parents listed i ≡ true) → Ok tt ≡ first_wrong linked n parents listed
  unfolding first_wrong
  wrong-none all =
      let e = first_past ok 0 n n zero-le (omega arith) (λ i _ l. all i l) ∙ first-end ok n n (omega arith) in
      rw (e, le-ltb n n (omega arith))

  -- from the three tests of a column
  pub is_right : (k : ℕ) → missing linked n parents listed k ≡ false → extra linked n parents listed k ≡ false → at parents k ≡ code (tree_parent linked n k) → column_right linked n parents listed k ≡ true
  unfolding column_right
  is_right k a b e = rw (a, b, eq-eqb (at parents k) (code (tree_parent linked n k)) e)

  pub is-missing : (k : ℕ) → missing linked n parents listed k ≡ true → (column_right linked n parents listed k ≡ false) × (kind.Missing k ≡ kind_at linked n parents listed k)
  unfolding column_right kind_at
  is-missing k a = (rw a, rw a)

  pub is-extra : (k : ℕ) → missing linked n parents listed k ≡ false → extra linked n parents listed k ≡ true → (column_right linked n parents listed k ≡ false) × (kind.Extra k ≡ kind_at linked n parents listed k)
  unfolding column_right kind_at
  is-extra k a b = (rw (a, b), rw (a, b))

  pub is-off : (k : ℕ) → missing linked n parents listed k ≡ false → extra linked n parents listed k ≡ false → (at parents k ≡ code (tree_parent linked n k) → ⊥)
      → (column_right linked n parents listed k ≡ false) × (kind.Parent k ≡ kind_at linked n parents listed k)
  unfolding column_right kind_at
  is-off k a b e = (rw (a, b, ne_eqb (at parents k) (code (tree_parent linked n k)) e), rw (a, b))

-- ---- the answers of the passes

module _ (linked : ℕ → ℕ → Bool) (n : ℕ) (parents : List ℕ) (listed : ℕ → List ℕ) (symm : (a b : ℕ) → T (linked a b) → T (linked b a))
    (inc : (k : ℕ) → k < n → Inc (listed k)) (past : (k i : ℕ) → k < n → T (elem i (listed k)) → (k < i) × (i < n)) where
  module _ (lack stray off : ℕ) (low : Lowest (λ i k. passed_on listed n i k || linked i k) listed n lack)
      (given-all : (k i : ℕ) → k < stray → k < n → T (elem i (listed k)) → T (passed_on listed n i k || linked i k))
      (stray-here : stray < n → (i : ℕ) × T (elem i (listed stray)) × (T (passed_on listed n i stray || linked i stray) → ⊥))
      (headed-all : (k : ℕ) → k < off → k < n → at parents k ≡ code (symbolic.first (listed k)))
      (off-here : off < n → at parents off ≡ code (symbolic.first (listed off)) → ⊥) where
    -- before the lowest of the three all columns are right
    rows-below : (b : ℕ) → b ≤ lack → b ≤ stray → (k : ℕ) → k < b → listed k ≡ rows linked n k
    rows-below zero p q k h = absurd (omega arith)
    rows-below (suc b) p q k h = go (dec_lt k b) (rows-below b (omega arith) (omega arith))
      where
        go : Dec (k < b) → ((k : ℕ) → k < b → listed k ≡ rows linked n k) → listed k ≡ rows linked n k
        go (yes l) ih = ih k l
        go (no l) ih =
            let z : k ≡ b = omega arith in
            let hk : k < n = omega (arith, low.within) in
            right-here linked n symm listed past k hk (λ c lt. ih c (omega arith)) (inc k hk) (λ i l b t. low.before k i (omega arith) l b t) (λ i m. given-all k i (omega arith) hk m)

    module _ (k : ℕ) (h : k < n) where
      -- Liu's parent is the first row
      tree-first : listed k ≡ rows linked n k → code (symbolic.first (listed k)) ≡ code (tree_parent linked n k)
      tree-first e = ap (λ (l : List ℕ). code (symbolic.first l)) e ∙ ap code (sym (tree-rows linked n symm k h))

      all_listed : ((c : ℕ) → c < k → listed c ≡ rows linked n c) → k < lack → missing linked n parents listed k ≡ false
      all_listed right l =
          lacks-none (rows linked n k) (listed k) (λ i m. let s = (rows_right linked n symm k h).sound i m in low.before k i l s.0 s.1 (ruled-given linked n symm listed past k h right i m))

    column-right : (k : ℕ) → k < lack → k < stray → k < off → column_right linked n parents listed k ≡ true
    column-right k a b c =
        let h : k < n = omega (arith, low.within) in
        let e = rows-below (suc k) a b k (omega arith) in
        is_right linked n parents listed k (lacks-same (rows linked n k) (listed k) (sym e)) (lacks-same (listed k) (rows linked n k) e) (headed-all k c h ∙ tree-first k h e)

    pub answer-missing : lack < n → lack ≤ stray → lack ≤ off → Err (kind.Missing lack) ≡ first_wrong linked n parents listed
    answer-missing h a b =
        let q = low.here h in
        let right : (c : ℕ) → c < lack → listed c ≡ rows linked n c = rows-below lack (omega arith) a in
        let m = given-ruled linked n symm listed past lack h right q.0 q.1 q.2 q.3 in
        let w = is-missing linked n parents listed lack (lacks-some (rows linked n lack) (listed lack) q.0 m q.4) in
        ap Err w.1 ∙ wrong-at linked n parents listed lack h (λ i l. column-right i l (omega arith) (omega arith)) w.0

    pub answer-extra : stray < lack → stray ≤ off → Err (kind.Extra stray) ≡ first_wrong linked n parents listed
    answer-extra a b =
        let h : stray < n = omega (arith, low.within) in
        let q = stray-here h in
        let right : (c : ℕ) → c < stray → listed c ≡ rows linked n c = rows-below stray (omega arith) (omega arith) in
        let none = all_listed stray h right a in
        let w = is-extra linked n parents listed stray none (lacks-some (listed stray) (rows linked n stray) q.0 q.1 (λ m. q.2 (ruled-given linked n symm listed past stray h right q.0 m))) in
        ap Err w.1 ∙ wrong-at linked n parents listed stray h (λ i l. column-right i (omega arith) l (omega arith)) w.0

    pub answer-parent : off < lack → off < stray → Err (kind.Parent off) ≡ first_wrong linked n parents listed
    answer-parent a b =
        let h : off < n = omega (arith, low.within) in
        let e = rows-below (suc off) a b off (omega arith) in
        let w = is-off linked n parents listed off (lacks-same (rows linked n off) (listed off) (sym e)) (lacks-same (listed off) (rows linked n off) e) (λ z. off-here h (z ∙ sym (tree-first off h e))) in
        ap Err w.1 ∙ wrong-at linked n parents listed off h (λ i l. column-right i (omega arith) (omega arith) l) w.0

    pub answer-same : n ≤ lack → n ≤ stray → n ≤ off → Ok tt ≡ first_wrong linked n parents listed
    answer-same a b c = wrong-none linked n parents listed (λ i l. column-right i (omega arith) (omega arith) (omega arith))

-- ---- the answers, of the tables

-- lowest of two
module _ {g g' : ℕ → ℕ → Bool} {listed : ℕ → List ℕ} {n a b : ℕ} (p : Lowest g listed n a) (q : Lowest g' listed n b) where
  pub lowest-first : a < b → Lowest (λ i k. g i k || g' i k) listed n a
  lowest-first h =
      record {
        within = p.within;
        before = λ k i l ki b t. ⊎_elim (λ s. p.before k i l ki b s) (λ s. q.before k i (omega arith) ki b s) (or_cases (g i k) (g' i k) t);
        here = λ l. let r = p.here l in (r.0, r.1, r.2, or_left (g r.0 a) (g' r.0 a) r.3, r.4);
      }

  pub lowest_second : b ≤ a → Lowest (λ i k. g i k || g' i k) listed n b
  lowest_second h =
      record {
        within = q.within;
        before = λ k i l ki b t. ⊎_elim (λ s. p.before k i (omega arith) ki b s) (λ s. q.before k i l ki b s) (or_cases (g i k) (g' i k) t);
        here = λ l. let r = q.here l in (r.0, r.1, r.2, or_right (g r.0 b) (g' r.0 b) r.3, r.4);
      }

-- a column before another, by the end where there is no other
module _ (k n : ℕ) (l : k < n) where
  pub before-end : (o : Option ℕ) → before k o ≡ true → k < unwrap_or o n
  before-end (Some x) e = ltb-true k x e
  before-end None e = l

  pub end-before : (o : Option ℕ) → before k o ≡ false → unwrap_or o n ≤ k
  end-before (Some x) e = ltb-false k x e
  end-before None e = cc

pub lowest-end : {g : ℕ → ℕ → Bool} {listed : ℕ → List ℕ} {n : ℕ} (o : Option ℕ) → LowestOf g listed n o → Lowest g listed n (unwrap_or o n)
lowest-end (Some k) low = low.1
lowest-end None low = low

module _ (g g' : ℕ → ℕ → Bool) {listed : ℕ → List ℕ} {n : ℕ} where
  pub lowest-before : (k : ℕ) (o : Option ℕ) → LowestOf g listed n (Some k) → LowestOf g' listed n o → before k o ≡ true → LowestOf (λ i k. g i k || g' i k) listed n (Some k)
  lowest-before k o p q e = (p.0, lowest-first p.1 (lowest-end o q) (before-end k n p.0 o e))

  pub lowest-after : (k : ℕ) (o : Option ℕ) → LowestOf g listed n (Some k) → LowestOf g' listed n o → before k o ≡ false → LowestOf (λ i k. g i k || g' i k) listed n o
  lowest-after k (Some x) p q e = (q.0, lowest_second p.1 q.1 (ltb-false k x e))
  lowest-after k None p q e = cc

  pub lowest-other : (o : Option ℕ) → LowestOf g listed n None → LowestOf g' listed n o → LowestOf (λ i k. g i k || g' i k) listed n o
  lowest-other (Some x) p q = (q.0, lowest_second p q.1 (q.1.within))
  lowest-other None p q = lowest_second p q (omega arith)

module _ (starts rows order parents l_starts l_rows : List ℕ) (columns : Columns past_diagonal (length order) l_starts l_rows) where
  abbrev n : ℕ
  n = length order

  abbrev test : ℕ → Bool
  test = column_given (given_in starts rows order l_starts l_rows) l_starts l_rows

  -- what the search for a stray row says
  stray-all : (stray : ℕ) → stray ≡ first test 0 n → (k i : ℕ) → k < stray → k < n → T (elem i (rows_in l_starts l_rows k)) → T (given_in starts rows order l_starts l_rows i k)
  unfolding column_given
  stray-all stray e k i l h m =
      let given : ℕ → Bool = λ u. given_in starts rows order l_starts l_rows (at l_rows u) k in
      let full = leb-true _ _ (first-before test 0 n k zero-le (omega (arith, e))) in
      let p = listed_place columns k h i m in
      subst (λ (x : ℕ). T (given_in starts rows order l_starts l_rows x k)) p.3 (is_true (first-none given (at l_starts k) (at l_starts (k + 1)) full p.0 p.1 p.2))

  stray-at : (stray : ℕ) → stray ≡ first test 0 n → stray < n → (i : ℕ) × T (elem i (rows_in l_starts l_rows stray)) × (T (given_in starts rows order l_starts l_rows i stray) → ⊥)
  unfolding column_given
  stray-at stray e h =
      let given : ℕ → Bool = λ u. given_in starts rows order l_starts l_rows (at l_rows u) stray in
      let lo = at l_starts stray in
      let hi = at l_starts (stray + 1) in
      let fails : test stray ≡ false = rw (← e) at (first-fails test 0 n zero-le (omega (arith, e))) in
      let short : first given lo hi < hi = leb-false _ _ fails in
      let u = first given lo hi in
      (at l_rows u, listed_at columns stray h u (first-ge given lo hi) short, is_false (first-fails given lo hi (columns.ordered.rising stray h) short))

  module _ (lack stray off : ℕ) (low : Lowest (given_in starts rows order l_starts l_rows) (rows_in l_starts l_rows) (length order) lack)
      (es : stray ≡ first (column_given (given_in starts rows order l_starts l_rows) l_starts l_rows) 0 (length order))
      (eo : off ≡ first (headed parents (rows_in l_starts l_rows)) 0 (length parents)) (same : length parents ≡ length order) where
    headed-all : (k : ℕ) → k < off → k < n → at parents k ≡ code (symbolic.first (rows_in l_starts l_rows k))
    unfolding headed
    headed-all k l h = eqb-true _ _ (first-before (headed parents (rows_in l_starts l_rows)) 0 (length parents) k zero-le (omega (arith, eo)))

    off_at : off < n → at parents off ≡ code (symbolic.first (rows_in l_starts l_rows off)) → ⊥
    unfolding headed
    off_at h = eqb-false _ _ (rw (← eo) at (first-fails (headed parents (rows_in l_starts l_rows)) 0 (length parents) zero-le (omega (arith, eo, same))))

    symm : (a b : ℕ) → T (linked_in starts rows order a b) → T (linked_in starts rows order b a)
    symm = linked-symm (rows_in starts rows) order

    past : (k i : ℕ) → k < n → T (elem i (rows_in l_starts l_rows k)) → (k < i) × (i < n)
    past k i h m = let r = columns.members k i h m in (omega (arith, r.0), r.1)

    pub says-missing : lack < length order → lack ≤ stray → lack ≤ off → Err (kind.Missing lack) ≡ match_of starts rows order parents l_starts l_rows
    unfolding given_in
    says-missing = answer-missing (linked_in starts rows order) (length order) parents (rows_in l_starts l_rows) symm columns.increasing past lack stray off low (stray-all stray es) (stray-at stray es) headed-all off_at

    pub says-extra : stray < lack → stray ≤ off → Err (kind.Extra stray) ≡ match_of starts rows order parents l_starts l_rows
    unfolding given_in
    says-extra = answer-extra (linked_in starts rows order) (length order) parents (rows_in l_starts l_rows) symm columns.increasing past lack stray off low (stray-all stray es) (stray-at stray es) headed-all off_at

    pub says-parent : off < lack → off < stray → Err (kind.Parent off) ≡ match_of starts rows order parents l_starts l_rows
    unfolding given_in
    says-parent = answer-parent (linked_in starts rows order) (length order) parents (rows_in l_starts l_rows) symm columns.increasing past lack stray off low (stray-all stray es) (stray-at stray es) headed-all off_at

    pub says_same : length order ≤ lack → length order ≤ stray → length order ≤ off → Ok tt ≡ match_of starts rows order parents l_starts l_rows
    unfolding given_in
    says_same = answer-same (linked_in starts rows order) (length order) parents (rows_in l_starts l_rows) symm columns.increasing past lack stray off low (stray-all stray es) (stray-at stray es) headed-all off_at

  -- ---- the answers, as the searches tell them

  module _ (o_lack o_stray : Option ℕ) (low : LowestOf (given_in starts rows order l_starts l_rows) (rows_in l_starts l_rows) (length order) o_lack)
      (es : o_stray ≡ fault (column_given (given_in starts rows order l_starts l_rows) l_starts l_rows) 0 (length order)) (same : length parents ≡ length order) where
    abbrev lack : ℕ
    lack = unwrap_or o_lack n

    abbrev stray : ℕ
    stray = first test 0 n

    abbrev off : ℕ
    off = first (headed parents (rows_in l_starts l_rows)) 0 (length parents)

    stray-is : unwrap_or o_stray n ≡ stray
    stray-is = fault-end test 0 n zero-le o_stray es

    module _ (k : ℕ) (e : Some k ≡ fault (headed parents (rows_in l_starts l_rows)) 0 (length parents)) where
      off-is : (k ≡ off) × (k < length parents)
      off-is = fault-some (headed parents (rows_in l_starts l_rows)) 0 (length parents) k e

      off-within : k < n
      off-within = omega (arith, off-is, same)

      pub wrong-parent : before k o_lack ≡ true → before k o_stray ≡ true → Err (kind.Parent k) ≡ match_of starts rows order parents l_starts l_rows
      wrong-parent a b = says-parent lack stray k (lowest-end o_lack low) refl off-is.0 same (before-end k n off-within o_lack a) (omega (arith, before-end k n off-within o_stray b, stray-is))

      pub late-lack : before k o_lack ≡ false → min lack stray ≤ off
      late-lack a = omega (arith, end-before k n off-within o_lack a, off-is)

      pub late-stray : before k o_stray ≡ false → min lack stray ≤ off
      late-stray b = omega (arith, end-before k n off-within o_stray b, stray-is, off-is)

    pub late-none : None ≡ fault (headed parents (rows_in l_starts l_rows)) 0 (length parents) → min lack stray ≤ off
    late-none e = omega (arith, fault-past (headed parents (rows_in l_starts l_rows)) 0 (length parents) e, same, (lowest-end o_lack low).within)

    module _ (k : ℕ) (e : Some k ≡ fault (column_given (given_in starts rows order l_starts l_rows) l_starts l_rows) 0 (length order)) where
      pub wrong-extra : before k o_lack ≡ true → min lack stray ≤ off → Err (kind.Extra k) ≡ match_of starts rows order parents l_starts l_rows
      wrong-extra a late =
          let r = fault-some test 0 n k e in
          says-extra lack k off (lowest-end o_lack low) r.0 refl same (before-end k n r.1 o_lack a) (omega (arith, late, r.0, before-end k n r.1 o_lack a))

      pub stray-late : before k o_lack ≡ false → lack ≤ stray
      stray-late a = let r = fault-some test 0 n k e in omega (arith, end-before k n r.1 o_lack a, r.0)

    pub stray-none : None ≡ fault (column_given (given_in starts rows order l_starts l_rows) l_starts l_rows) 0 (length order) → lack ≤ stray
    stray-none e = omega (arith, fault-past test 0 n e, (lowest-end o_lack low).within)

    pub wrong-missing : (k : ℕ) → o_lack ≡ Some k → lack ≤ stray → min lack stray ≤ off → Err (kind.Missing k) ≡ match_of starts rows order parents l_starts l_rows
    wrong-missing k e a late =
        let z : lack ≡ k = ap (λ (o : Option ℕ). unwrap_or o n) e in
        let l : LowestOf (given_in starts rows order l_starts l_rows) (rows_in l_starts l_rows) (length order) (Some k) = rw e at low in
        says-missing k stray off l.1 refl refl same l.0 (omega (arith, z)) (omega (arith, z))

    pub none-wrong : o_lack ≡ None → lack ≤ stray → min lack stray ≤ off → Ok tt ≡ match_of starts rows order parents l_starts l_rows
    none-wrong e a late =
        let z : lack ≡ n = ap (λ (o : Option ℕ). unwrap_or o n) e in
        says_same lack stray off (lowest-end o_lack low) refl refl same (omega (arith, z)) (omega (arith, z)) (omega (arith, z))
