-- All the products of column j: a loop over the columns that reach it.
--     reach-none, reach-more, reach-all    where the loop begins, a turn, and where it ends
--     next-there, next_more                the next place of a column not yet worked is as it was; one further
--     turn                                 what is known of the column of a turn
-- Assumes nothing.
use Rattle.std.specs.Prelude.{◌≡◌, ℕ, ◌+◌, ◌-◌, ◌^◌, ◌<◌, ◌≤◌, T, eqb, List, [], ◌∷◌, ◌++◌, map, length, get_or, take, drop, set}
use mathlib.Core.List.{append-nil, append_assoc}
use mathlib.Core.Path.{refl, sym, ap, subst, ◌∙◌}
use native.Mathlib.Numerals.{add-one}
use native.Mathlib.Omega.{arith}
use lib.Ieee.{Float}
use lib.ListN.{length-set, length-append, length-map, take-append-drop}
use lib.Seq.{take-suc, take_all, get_or-set_other}
use Rattle.graph.specs.Sets.{elem, gather, Uniq}
use Rattle.graph.specs.Count.{Triple, triple}
use Rattle.graph.proofs.SetLaws.{elem-tail, eqb_of, or_left}
use Rattle.tables.specs.Verdict.{at}
use Rattle.tables.proofs.PassLaws.{once-before}
use Rattle.machine.specs.Machine.{State, Column, column_at, no_column, products}
use Rattle.machine.proofs.StepLaws.{products-finished}
use Rattle.block_product.specs.Working.{Shows}
use Rattle.block_product.proofs.SlotLaws.{slot-length}
use Rattle.column_products.specs.Columns.{Plan, size_of, place_of, Holds, Kept, PlacesFit, ColumnProducts}
use Rattle.reach_products.specs.Reach.{advanced, end_of, rows_from, reach_triples, ReachFit, ReachSteps}
use Rattle.row_products.proofs.RowLaws.{products-append}

-- ---- the next places

pub advanced-length : (ks next : List ℕ) → length (advanced ks next) ≡ length next
advanced-length [] next = refl
advanced-length (k ∷ ks) next = advanced-length ks (set next k (at next k + 1)) ∙ length-set next k (at next k + 1)

pub advanced-other : (ks next : List ℕ) (k : ℕ) → (T (elem k ks) → ⊥) → at (advanced ks next) k ≡ at next k
advanced-other [] next k h = refl
advanced-other (x ∷ ks) next k h =
    advanced-other ks (set next x (at next x + 1)) k (λ m. h (elem-tail k x ks m))
    ∙ get_or-set_other next x k (at next x + 1) 0 (λ e. h (or_left (eqb k x) (elem k ks) (eqb_of e)))

advanced-last : (ks next : List ℕ) (k : ℕ) → advanced (ks ++ (k ∷ [])) next ≡ set (advanced ks next) k (at (advanced ks next) k + 1)
advanced-last [] next k = refl
advanced-last (x ∷ ks) next k = advanced-last ks (set next x (at next x + 1)) k

next-there : (reach next : List ℕ) (t : ℕ) → Uniq reach → t < length reach → at (advanced (take t reach) next) (at reach t) ≡ at next (at reach t)
next-there reach next t u h = advanced-other (take t reach) next (at reach t) (once-before reach t u h)

next_more : (reach next : List ℕ) (t : ℕ) → Uniq reach → t < length reach
    → set (advanced (take t reach) next) (at reach t) (at next (at reach t) + 1) ≡ advanced (take (t + 1) reach) next
next_more reach next t u h =
    sym
    (rw (add-one, take-suc reach t 0 h, advanced-last (take t reach) next (at reach t))
    (ap (λ (m : ℕ). set (advanced (take t reach) next) (at reach t) (m + 1)) (next-there reach next t u h)))

-- ---- the loop

gather_append : (f : ℕ → List Triple) (l m : List ℕ) → gather f (l ++ m) ≡ gather f l ++ gather f m
gather_append f [] m = refl
gather_append f (x ∷ l) m = ap (λ (r : List Triple). f x ++ r) (gather_append f l m) ∙ sym (append_assoc (f x) (gather f l) (gather f m))

module _ (p : Plan) (l_starts : List ℕ) (j : ℕ) (reach next : List ℕ) where
  -- one column more
  triples-more : (t : ℕ) → t < length reach
      → reach_triples p l_starts next j (take (t + 1) reach) ≡ reach_triples p l_starts next j (take t reach) ++ map (triple j (at reach t)) (rows_from p l_starts next (at reach t))
  triples-more t h =
      ap (reach_triples p l_starts next j) (ap (λ (m : ℕ). take m reach) (add-one t) ∙ take-suc reach t 0 h)
      ∙ gather_append (λ k. map (triple j k) (rows_from p l_starts next k)) (take t reach) (at reach t ∷ [])
      ∙ ap (λ (l : List Triple). reach_triples p l_starts next j (take t reach) ++ l) (append-nil (map (triple j (at reach t)) (rows_from p l_starts next (at reach t))))

  count-more : (t : ℕ) → t < length reach
      → length (reach_triples p l_starts next j (take (t + 1) reach)) ≡ length (reach_triples p l_starts next j (take t reach)) + length (rows_from p l_starts next (at reach t))
  count-more t h =
      ap length (triples-more t h) ∙ length-append (reach_triples p l_starts next j (take t reach)) (map (triple j (at reach t)) (rows_from p l_starts next (at reach t)))
      ∙ ap (λ (m : ℕ). length (reach_triples p l_starts next j (take t reach)) + m) (length-map (rows_from p l_starts next (at reach t)) (triple j (at reach t)))

  -- a column's rows are as many as its places
  rows-many : (k v q c : ℕ) → at next k ≤ end_of l_starts k → PlacesFit p j k (at next k) (end_of l_starts k) v q c → length (rows_from p l_starts next k) ≡ end_of l_starts k - at next k
  rows-many k v q c le fits = slot-length p.l_rows (at next k) (end_of l_starts k - at next k) (omega (arith, fits.in_tables))

  -- the products by some of the columns are at most those by all
  count_room : (t : ℕ) → length (reach_triples p l_starts next j (take t reach)) ≤ length (reach_triples p l_starts next j reach)
  count_room t =
      omega (
        arith,
        ap (λ (l : List ℕ). length (reach_triples p l_starts next j l)) (take-append-drop t reach),
        ap length (gather_append (λ k. map (triple j k) (rows_from p l_starts next k)) (take t reach) (drop t reach)),
        length-append (reach_triples p l_starts next j (take t reach)) (reach_triples p l_starts next j (drop t reach)),
      )

  -- what is known of the column of turn u, where the next places are next' and the count is n
  pub record Turn (u : ℕ) (next' : List ℕ) (n count : ℕ) : Type 0 where
    -- its next place has not moved, and is row j's
    pub there : at next' (at reach u) ≡ at next (at reach u)
    pub from : (at next' (at reach u) < end_of l_starts (at reach u)) × (at p.l_rows (at next' (at reach u)) ≡ j)
    -- the count has room for its products, and comes to those of one column more
    pub room : n + (end_of l_starts (at reach u) - at next' (at reach u)) < 2 ^ 64
    pub counts : n + (end_of l_starts (at reach u) - at next' (at reach u)) ≡ count + length (reach_triples p l_starts next j (take (u + 1) reach))
    pub moves : set next' (at reach u) (at next' (at reach u) + 1) ≡ advanced (take (u + 1) reach) next

  pub turn : (values diag d qj qi c u n count : ℕ) (next' : List ℕ) → ReachFit p l_starts j reach next values diag d qj qi c → u < length reach
      → next' ≡ advanced (take u reach) next → n ≡ count + length (reach_triples p l_starts next j (take u reach))
      → count + length (reach_triples p l_starts next j reach) < 2 ^ 64 → Turn u next' n count
  turn values diag d qj qi c u n count next' fits h moved counted bound =
      let k = at reach u in
      let column = fits.column u h in
      let there : at next' k ≡ at next k = rw moved (next-there reach next u fits.once h) in
      let many = rows-many k values qi c (omega (arith, column)) (fits.places u h) in
      let more = count-more u h in
      let most = count_room (u + 1) in
      let counts : n + (end_of l_starts k - at next' k) ≡ count + length (reach_triples p l_starts next j (take (u + 1) reach)) = omega arith in
      record {
        there = there;
        from = (omega (arith, column), ap (at p.l_rows) there ∙ column.3);
        room = omega arith;
        counts = counts;
        moves = ap (λ (f : ℕ). set next' k (f + 1)) there ∙ ap (λ (m : List ℕ). set m k (at next k + 1)) moved ∙ next_more reach next u fits.once h;
      }

  module _ (values diag d cache c₀ : List Float) (count₀ : ℕ) where
    -- the first t columns are done
    abbrev pub ReachUpTo : List Float → ℕ → ℕ → Type 0
    ReachUpTo c count t = ReachSteps p l_starts j reach next values diag d cache c₀ count₀ (reach_triples p l_starts next j (take t reach)) c count

    pub reach-none : ReachUpTo c₀ count₀ 0
    unfolding products
    reach-none on all apart s holds kept sh = sh

    pub reach-more : (t : ℕ) (c c' : List Float) (count count' : ℕ) → t < length reach → ReachUpTo c count t
        → ColumnProducts p j (at reach t) (at next (at reach t)) (end_of l_starts (at reach t)) values diag d cache c count c' count'
        → ReachUpTo c' count' (t + 1)
    reach-more t c c' count count' h up col on all apart s holds kept sh =
        subst (Shows (size_of p) (place_of p) on j c' count') (sym whole)
        (col.steps on (all t h) apart s₁
        (subst (Holds p values diag d (at reach t) (at next (at reach t)) (end_of l_starts (at reach t))) same (holds t h))
        (subst (Kept p cache (at reach t) (at next (at reach t)) (end_of l_starts (at reach t))) same (kept t h)) (up on all apart s holds kept sh))
      where
        s₁ : State
        s₁ = products (size_of p) (reach_triples p l_starts next j (take t reach)) s

        same : column_at s (at reach t) ≡ column_at s₁ (at reach t)
        same = ap (λ (l : List Column). get_or l (at reach t) no_column) (sym (products-finished (size_of p) (reach_triples p l_starts next j (take t reach)) s))

        whole : products (size_of p) (reach_triples p l_starts next j (take (t + 1) reach)) s ≡ products (size_of p) (map (triple j (at reach t)) (rows_from p l_starts next (at reach t))) s₁
        whole =
            ap (λ (l : List Triple). products (size_of p) l s) (triples-more t h)
            ∙ products-append (size_of p) (reach_triples p l_starts next j (take t reach)) (map (triple j (at reach t)) (rows_from p l_starts next (at reach t))) s

    pub reach-all : (t : ℕ) (c : List Float) (count : ℕ) → length reach ≤ t → ReachUpTo c count t
        → ReachSteps p l_starts j reach next values diag d cache c₀ count₀ (reach_triples p l_starts next j reach) c count
    reach-all t c count h up = subst (λ (l : List ℕ). ReachSteps p l_starts j reach next values diag d cache c₀ count₀ (reach_triples p l_starts next j l) c count) (take_all t reach h) up
