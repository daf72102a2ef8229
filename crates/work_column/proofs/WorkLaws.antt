-- The products of column j: what the plan gives `apply_reach`, and that what it works through is the machine's own order.
--     asked    every block that the products read or write lies in its list, and the count has room for them
--     gives    the promise
-- Assumes nothing.
use Rattle.std.specs.Prelude.{◌≡◌, ℕ, ◌+◌, ◌-◌, ◌*◌, ◌^◌, ◌<◌, ◌≤◌, Bool, T, ltb, List, [], ◌∷◌, map, length, take, drop}
use mathlib.Core.Logic.{⊎_elim}
use mathlib.Core.Path.{refl, sym, ap, subst, ◌∙◌}
use native.Mathlib.Omega.{arith}
use native.Mathlib.Nat.{suc-mul, mul-le-mul}
use lib.Dec.{ltb→lt}
use lib.Ieee.{Float}
use lib.ListN.{length-drop, length-map, length-append}
use lib.Seq.{take_all, take-add, drop_at, drop-drop, length-take-le}
use Rattle.graph.specs.Sets.{elem, filter, gather}
use Rattle.graph.specs.Fill.{made}
use Rattle.graph.specs.Liu.{tree_parent}
use Rattle.graph.specs.Symbolic.{reach, rows}
use Rattle.graph.specs.Count.{Triple, triple, column_triples}
use Rattle.graph.proofs.SetLaws.{decide, elem-cases, elem-head, elem-tail, filter-elim}
use Rattle.graph.proofs.BoundLaws.{rows_short}
use Rattle.graph.proofs.SymbolicLaws.{rows_right}
use Rattle.graph.proofs.TreeLaws.{reach-tree}
use Rattle.graph.proofs.Whole.{Whole, whole}
use Rattle.buckets.proofs.Lists.{elem_at}
use Rattle.tables.specs.Verdict.{at}
use Rattle.elimination_tree.specs.Tree.{linked_up}
use Rattle.elimination_tree.proofs.Links.{linked-symm}
use Rattle.machine.specs.Machine.{column_at, load, products, sequence, worked}
use Rattle.machine.proofs.ListLaws.{gather_ext}
use Rattle.block_product.specs.Working.{slot, Shows}
use Rattle.block_product.proofs.SlotLaws.{at_slot, slot-length}
use Rattle.column_products.specs.Columns.{Plan, Holds, Kept, PlacesFit, FactorsFit}
use Rattle.reach_products.specs.Reach.{advanced, rows_from, reach_triples, ReachFit, ReachProducts}
use Rattle.reach_products.proofs.ReachLaws.{advanced-length, advanced-other}
use Rattle.layout.specs.Layout.{Tables, side, start_of, stop_of, rows_at, on_at, plan_at, RowsLaid, DiagonalLaid, Placed}
use Rattle.layout.proofs.RowLaws.{apart, on_inside}
use Rattle.work_column.specs.Work.{next_of, Next, Works}
use Rattle.work_column.proofs.NextLaws.{less, less-there, less-more, less-same, from-there, advanced-own}

-- what stands in a part from place m of it on
drop-slot : (l : List ℕ) (off m r : ℕ) → off + m + r ≤ length l → drop m (slot off (m + r) l) ≡ slot (off + m) r l
drop-slot l off m r h =
    ap (drop m) (take-add m r (drop off l)) ∙ drop_at (take m (drop off l)) (take r (drop m (drop off l))) m (length-take-le m (drop off l) (rw length-drop (omega arith)))
    ∙ ap (take r) (drop-drop m off l)

-- lists of at most `most` each
gather-few : {A : Type 0} (f : ℕ → List A) (most : ℕ) (l : List ℕ) → ((k : ℕ) → T (elem k l) → length (f k) ≤ most) → length (gather f l) ≤ length l * most
gather-few f most [] h = omega arith
gather-few f most (x ∷ l) h =
    let i = gather-few f most l (λ k m. h k (elem-tail k x l m)) in
    let b = h x (elem-head x l) in
    let a = length-append (f x) (gather f l) in
    let e = suc-mul (length l) most in
    omega arith

module _ (t : Tables) (n v w : ℕ) (laid : RowsLaid t n v w) (into upper : List ℕ)
    (grown : (k : ℕ) → k < n → rows_at t k ≡ rows (linked_up into upper) n k)
    (j : ℕ) (below : j < n) (next : List ℕ) (nx : Next t n j next) where
  abbrev linked : ℕ → ℕ → Bool
  linked = linked_up into upper

  theory : Whole linked n
  theory = whole linked n (linked-symm into upper)

  -- the columns that the walk finds
  abbrev pub found : List ℕ
  found = reach linked n (tree_parent linked n) j

  -- column k of the table has its places
  many : (k : ℕ) → k < n → length (rows_at t k) ≡ stop_of t k - start_of t k
  many k h = let c = laid.column k h in slot-length t.l_rows (start_of t k) (stop_of t k - start_of t k) (omega arith)

  module _ (k : ℕ) (m : T (elem k found)) where
    pub is-before : k < j
    is-before = ((theory.walk j k below).0 m).0

    pub in_table : k < n
    in_table = let b = is-before in omega arith

    has-row : T (elem j (rows_at t k))
    has-row = subst (λ (l : List ℕ). T (elem j l)) (sym (grown k in_table)) ((theory.walk j k below).0 m).1

    -- its next place is that of row j
    pub next-inside : (start_of t k ≤ at next k) × (at next k < stop_of t k)
    next-inside =
        let e = nx.place k in_table in
        let l = (less-there j (rows_at t k) (laid.ascends k in_table) has-row).0 in
        let c = many k in_table in (
          subst (λ (p : ℕ). start_of t k ≤ p) (sym e) (omega arith),
          subst (λ (p : ℕ). p < stop_of t k) (sym e) (omega arith),
        )

    pub next_row : at t.l_rows (at next k) ≡ j
    next_row =
        let l = less-there j (rows_at t k) (laid.ascends k in_table) has-row in
        let c = many k in_table in
        let q = l.0 in
        ap (at t.l_rows) (nx.place k in_table)
        ∙ sym (at_slot t.l_rows (start_of t k) (stop_of t k - start_of t k) (less j (rows_at t k)) (omega arith)) ∙ l.1

    -- from there on it has row j and its rows past j
    from_is : (p : Plan) → p.l_rows ≡ t.l_rows → rows_from p t.l_starts next k ≡ j ∷ filter (λ i. ltb j i) (rows_at t k)
    from_is p e =
        let l = (less-there j (rows_at t k) (laid.ascends k in_table) has-row).0 in
        let c = many k in_table in
        let b = laid.column k in_table in
        let s : stop_of t k - start_of t k ≡ less j (rows_at t k) + (stop_of t k - (start_of t k + less j (rows_at t k))) = omega arith in
        ap (λ (x : List ℕ). slot (at next k) (stop_of t k - at next k) x) e
        ∙ ap (λ (p : ℕ). slot p (stop_of t k - p) t.l_rows) (nx.place k in_table)
        ∙ sym (ap (λ (z : ℕ). drop (less j (rows_at t k)) (slot (start_of t k) z t.l_rows)) s
        ∙ drop-slot t.l_rows (start_of t k) (less j (rows_at t k)) (stop_of t k - (start_of t k + less j (rows_at t k))) (omega arith))
        ∙ from-there j (rows_at t k) (laid.ascends k in_table) has-row

    -- a row past j of a column that reaches j is a row of column j
    closed : (i : ℕ) → j < i → T (elem i (rows_at t k)) → T (elem i (rows_at t j))
    closed i h e =
        let ri = (rows_right linked n (linked-symm into upper) k in_table).sound i (subst (λ (l : List ℕ). T (elem i l)) (grown k in_table) e) in
        let rj = (rows_right linked n (linked-symm into upper) k in_table).sound j ((theory.walk j k below).0 m).1 in
        subst (λ (l : List ℕ). T (elem i l)) (sym (grown j below))
        ((rows_right linked n (linked-symm into upper) j below).complete i h ri.1 (made is-before rj.2 ri.2))

    -- so what it works on are blocks of column j
    pub on-from : (p : Plan) → p.l_rows ≡ t.l_rows → (i : ℕ) → T (elem i (rows_from p t.l_starts next k)) → T (elem i (on_at t j))
    on-from p e i h =
        ⊎_elim (λ q. subst (λ (x : ℕ). T (elem x (on_at t j))) (sym q) (elem-head j (rows_at t j)))
        (λ q. let f = filter-elim (λ i. ltb j i) i (rows_at t k) q in elem-tail i j (rows_at t j) (closed i (ltb→lt j i f.1) f.0))
        (elem-cases i j (filter (λ i. ltb j i) (rows_at t k)) (subst (λ (l : List ℕ). T (elem i l)) (from_is p e) h))

    -- the row at a place from there on
    on-place : (u : ℕ) → at next k ≤ u → u < stop_of t k → T (elem (at t.l_rows u) (on_at t j))
    on-place u lo hi =
        let p = plan_at t [] [] [] in
        let b = laid.column k in_table in
        let g = next-inside in
        let c : length (rows_from p t.l_starts next k) ≡ stop_of t k - at next k = slot-length t.l_rows (at next k) (stop_of t k - at next k) (omega arith) in
        let z : at next k + (u - at next k) ≡ u = omega arith in
        on-from p refl (at t.l_rows u)
        (subst (λ (x : ℕ). T (elem x (rows_from p t.l_starts next k))) (at_slot t.l_rows (at next k) (stop_of t k - at next k) (u - at next k) (omega arith) ∙ ap (at t.l_rows) z)
        (elem_at (rows_from p t.l_starts next k) (u - at next k) (omega arith)))

  -- ---- the next places afterwards

  next_on : Next t n (j + 1) (advanced found next)
  next_on = record { count = advanced-length found next ∙ nx.count; place = λ k h. ⊎_elim (moved k h) (stayed k h) (decide (elem k found)) }
    where
      moved : (k : ℕ) → k < n → T (elem k found) → at (advanced found next) k ≡ next_of t (j + 1) k
      moved k h m =
          let e = nx.place k h in
          let l = less-more j (rows_at t k) (laid.ascends k h) (has-row k m) in
          let q = nx.count in
          advanced-own found next k (theory.once j below) m (omega arith) ∙ omega arith

      stayed : (k : ℕ) → k < n → (T (elem k found) → ⊥) → at (advanced found next) k ≡ next_of t (j + 1) k
      stayed k h f = advanced-other found next k f ∙ nx.place k h ∙ sym (ap (λ (x : ℕ). start_of t k + x) (less-same j (rows_at t k) out))
        where
          out : T (elem j (rows_at t k)) → ⊥
          out e =
              let r = subst (λ (l : List ℕ). T (elem j l)) (grown k h) e in
              f ((theory.walk j k below).1 (((rows_right linked n (linked-symm into upper) k h).sound j r).0, r))

  -- ---- what the products need

  -- a block's area is at most 256
  area : (i k : ℕ) → i < n → k < n → side t i * side t k ≤ 256
  area i k hi hk = mul-le-mul (laid.size i hi).1 (laid.size k hk).1

  module _ (unit_starts d_starts places : List ℕ) (diag d qj qi : ℕ) (diagonal : DiagonalLaid t.sizes unit_starts d_starts n diag d)
      (placed : Placed t places j) (as_many : length places ≡ n) (room-j : 256 ≤ qj) (room-i : 256 ≤ qi) where
    abbrev p : Plan
    p = plan_at t unit_starts d_starts places

    places-fit : (k : ℕ) → T (elem k found) → PlacesFit p j k (at next k) (stop_of t k) v qi w
    places-fit k m =
        let hk = in_table k m in
        let lo = next-inside k m in
        let c = laid.column k hk in
        let o = laid.count in
        record {
          in_tables = (c.1, omega arith);
          row = λ u l h. let r = (laid.row k u hk (omega arith) h).1 in (omega arith, omega arith);
          body = λ u l h. let b = laid.body k u (length t.l_rows) hk (omega arith) h (omega arith) (omega arith) in let e = laid.bodies in omega arith;
          scaled_row = λ u l h. let a = area (at t.l_rows u) k (laid.row k u hk (omega arith) h).1 hk in omega arith;
          block = λ u l h. (on_inside t laid j below places placed (at t.l_rows u) (on-place k m u l h)).0;
        }

    factors-fit : (k : ℕ) → T (elem k found) → FactorsFit p j k diag d qj
    factors-fit k m =
        let hk = in_table k m in
        let o = laid.count in
        let c = diagonal.count in
        let s = (laid.size k hk).0 in
        record {
          known = (omega arith, omega arith, omega arith, omega arith, omega arith);
          unit = let b = diagonal.unit k n hk (omega arith) in let e = diagonal.units in omega arith;
          of_d = let b = diagonal.pivots k n hk (omega arith) in let e = diagonal.all_pivots in omega arith;
          scaled = let a = area j k below hk in omega arith;
        }

    fits : ReachFit p t.l_starts j found next v diag d qj qi w
    fits =
        record {
          once = theory.once j below;
          column = λ u h. let k = at found u in let m = elem_at found u h in let b = in_table k m in let o = laid.count in let q = nx.count in
              (omega arith, omega arith, (next-inside k m).1, next_row k m);
          places = λ u h. places-fit (at found u) (elem_at found u h);
          factors = λ u h. factors-fit (at found u) (elem_at found u h);
        }

    -- ---- what they say of the machine

    -- what is worked through is the theory's order
    in_order : reach_triples p t.l_starts next j found ≡ column_triples linked n j
    unfolding column_triples
    in_order =
        gather_ext (λ k. map (triple j k) (rows_from p t.l_starts next k)) (λ k. map (triple j k) (j ∷ filter (λ i. ltb j i) (rows linked n k))) found
        (λ k m. ap (map (triple j k)) (from_is k m p refl ∙ ap (λ (l : List ℕ). j ∷ filter (λ i. ltb j i) l) (grown k (in_table k m))))
        ∙ ap (gather (λ k. map (triple j k) (j ∷ filter (λ i. ltb j i) (rows linked n k)))) (reach-tree linked n (linked-symm into upper) j below)

    works : (values diag' d' cache c c' : List Float) (count count' : ℕ) (next' : List ℕ)
        → ReachProducts p t.l_starts j found next values diag' d' cache c count next' c' count'
        → Works t unit_starts d_starts into upper n j places values diag' d' cache c count c' count'
    unfolding load
    works values diag' d' cache c c' count count' next' did a s ahead shown =
        subst (Shows (side t) (at places) (on_at t j) j c' count') same
        (did.steps (on_at t j) (λ u h. on-from (at found u) (elem_at found u h) p refl) (apart t laid j below places placed) (load a j s) held keeps shown)
      where
        same : products (side t) (reach_triples p t.l_starts next j found) (load a j s) ≡ worked a j s
        same =
            ap (λ (ts : List Triple). products (side t) ts (load a j s)) (in_order ∙ sym ahead.by_sequence)
            ∙ ap (λ (l : List ℕ). products (at l) (sequence a j s) (load a j s)) ahead.by_sizes

        held : (u : ℕ) → u < length found → Holds p values diag' d' (at found u) (at next (at found u)) (stop_of t (at found u)) (column_at (load a j s) (at found u))
        held u h =
            let k = at found u in
            let m = elem_at found u h in
            let b = is-before k m in
            let f = ahead.so_far in
            let q = ahead.held.column k (omega arith) in
            let lo = (next-inside k m).0 in
            record { bodies = λ x le lt. q.bodies x (omega arith) lt; by_unit = q.by_unit; by_d = q.by_d }

        keeps : (u : ℕ) → u < length found → Kept p cache (at found u) (at next (at found u)) (stop_of t (at found u)) (column_at (load a j s) (at found u))
        keeps u h x le lt f =
            let k = at found u in
            let m = elem_at found u h in
            let b = is-before k m in
            let g = ahead.so_far in
            let lo = (next-inside k m).0 in
            ahead.kept k (omega arith) x (omega arith) lt f

    -- at most 4,096 columns reach j, with at most 4,096 rows each
    few : length found ≤ n → n ≤ 4096 → length (reach_triples p t.l_starts next j found) ≤ 16777216
    few h most =
        let g = gather-few (λ k. map (triple j k) (rows_from p t.l_starts next k)) n found rows_few in
        let l : length found ≤ 4096 = omega arith in
        let q : length found * n ≤ 4096 * 4096 = mul-le-mul l most in
        omega arith
      where
        rows_few : (k : ℕ) → T (elem k found) → length (map (triple j k) (rows_from p t.l_starts next k)) ≤ n
        rows_few k m =
            let c = laid.column k (in_table k m) in
            let lo = next-inside k m in
            let e = length-map (rows_from p t.l_starts next k) (triple j k) in
            let r = slot-length t.l_rows (at next k) (stop_of t k - at next k) (omega arith) in
            let a = many k (in_table k m) in
            let g = ap length (grown k (in_table k m)) in
            let b = rows_short linked n (linked-symm into upper) k (in_table k m) in
            omega arith

    -- ---- what the products ask and give, where the walk found the columns that stand in `out` from `top` on

    module _ (out : List ℕ) (top : ℕ) (walked : drop top out ≡ found) (long : length out ≡ n) (most : n ≤ 4096) (count : ℕ) (so_far : count ≤ 16777216 * j) where
      abbrev list : List ℕ
      list = take (length out - top) (drop top out)

      is : list ≡ found
      is = take_all (length out - top) (drop top out) (omega (arith, length-drop top out)) ∙ walked

      few_now : length (reach_triples p t.l_starts next j list) ≤ 16777216
      few_now =
          subst (λ (l : List ℕ). length (reach_triples p t.l_starts next j l) ≤ 16777216) (sym is)
          (few (omega (arith, sym (ap length walked), length-drop top out)) most)

      pub asked : ReachFit p t.l_starts j list next v diag d qj qi w × (count + length (reach_triples p t.l_starts next j list) < 2 ^ 64)
      asked = let f = few_now in let b = below in (subst (λ (l : List ℕ). ReachFit p t.l_starts j l next v diag d qj qi w) (sym is) fits, omega arith)

      pub gives : (values diag' d' cache c c' : List Float) (count' : ℕ) (next' : List ℕ) → ReachProducts p t.l_starts j list next values diag' d' cache c count next' c' count'
          → Next t n (j + 1) next' × (count' ≤ 16777216 * (j + 1)) × Works t unit_starts d_starts into upper n j places values diag' d' cache c count c' count'
      gives values diag' d' cache c c' count' next' did =
          let f = few_now in
          let e = did.counts in
          let of_found : ReachProducts p t.l_starts j found next values diag' d' cache c count next' c' count' =
          subst (λ (l : List ℕ). ReachProducts p t.l_starts j l next values diag' d' cache c count next' c' count') is did in
          (subst (Next t n (j + 1)) (sym of_found.moved) next_on, omega arith, works values diag' d' cache c c' count count' next' of_found)
