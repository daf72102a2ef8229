-- What the tables give the loop over the columns, and what it leaves in the flat lists.
--     source, laid, diagonal, grown, begun, unstamped    what the loop needs
--     served                                             the system that the lists are for
--     ends                                               what it leaves
-- Assumes nothing.
use Rattle.std.specs.Prelude.{◌≡◌, ℕ, zero, suc, ◌+◌, ◌-◌, ◌*◌, ◌<◌, ◌≤◌, Bool, ltb, List, [], ◌∷◌, length, get_or, replicate}
use mathlib.Core.Path.{refl, sym, ap, subst, ◌∙◌}
use native.Mathlib.Omega.{arith}
use lib.Dec.{ltb→lt}
use lib.Ieee.{Float}
use Rattle.std.specs.Prelude.{Result, Ok, Err}
use lib.Seq.{get_or-take, length-take-le}
use Rattle.scalar.specs.Block.{nans}
use Rattle.graph.specs.Sets.{keep, filter, from, gather}
use Rattle.graph.specs.Symbolic as L
use Rattle.graph.specs.Order.{Permutes}
use Rattle.graph.proofs.SetLaws.{false_of, from-elim}
use Rattle.graph.proofs.OrderLaws.{moved-permutes}
use Rattle.refusal.specs.Refusal.{Told}
use Rattle.tables.specs.Verdict.{at, areas, past_diagonal}
use Rattle.tables.specs.Sound.{Columns, SystemSound}
use Rattle.elimination_tree.specs.Tree.{linked_up, parents_of}
use Rattle.elimination_tree.proofs.Links.{parents-length}
use Rattle.pattern.specs.Moved.{UpperOf}
use Rattle.order.specs.Order.{sizes_of}
use Rattle.symbolic.specs.Columns.{Tree, Below}
use Rattle.analysis.proofs.Same.{tree_of}
use Rattle.scalars.specs.Scalars.{scalar_starts, scalar_count}
use Rattle.machine.specs.System.{System, blocks, links, order}
use Rattle.machine.specs.Machine as machine
use Rattle.machine.proofs.ListLaws.{gather_ext}
use Rattle.machine.proofs.RunLaws.{links-symm, run_demand3}
use Rattle.block_product.specs.Working.{slot}
use Rattle.block_product.proofs.SlotLaws.{gather-part}
use Rattle.layout.specs.Layout.{Tables, tables, tables_of, side, start_of, stop_of, rows_at, RowsLaid, DiagonalLaid, unit_starts_of, units_need, work_need}
use Rattle.layout.proofs.RowLaws.{rows-laid}
use Rattle.layout.proofs.DiagonalLaws.{diagonal-laid}
use Rattle.layout.proofs.PlanLaws.{plan_columns, plan_rows, plan_numbers}
use Rattle.layout.proofs.FlatLaws.{values_join, units-join, pivots-join}
use Rattle.factor_tables.proofs.NeedLaws.{same-scalars, same_units, same-work}
use Rattle.factor_tables.proofs.TableLaws.{sizes-sound, sizes-count}
use Rattle.load_column.specs.Load.{Source}
use Rattle.work_column.specs.Work.{next_of, Next, Grown}
use Rattle.factor_column.specs.Turn.{Given, given, Served, UpTo}
use Rattle.factor_columns.specs.Columns.{told, Ends, Runs}
use Rattle.factor_columns.specs.declared.cores.ColumnError.{ColumnError}
use Rattle.factor_columns.specs.declared.cores.ColumnError.TheVariants.{NotFinite, Poor}
use Rattle.factor_setup.specs.Exact.{sizes, numbers, l_starts, l_rows, l_offsets, values_after, units_after, pivots_after, Tabled}
use Rattle.factor_numbers.specs.Spoilt.{spoilt_by}
use Rattle.factor_numbers.proofs.LinkLaws.{same_rows, same-triples}

module _ (a : System) (sound : SystemSound a.dims a.starts a.rows a.values a.perm a.late a.tol) where
  abbrev n : ℕ
  n = blocks a

  -- the tables as they are defined
  abbrev t : Tables
  t = tables_of (sizes a) (l_starts a) (l_rows a)

  permutes : Permutes n (order a)
  permutes = moved-permutes a.perm a.late n sound.plan.permutes

  long : length (sizes a) ≡ n
  long = sizes-count a.dims (order a) permutes

  columns-good : Columns past_diagonal (length (sizes a)) (l_starts a) (l_rows a)
  columns-good = subst (λ (m : ℕ). Columns past_diagonal m (l_starts a) (l_rows a)) (sym long) (plan_columns (links a) n (links-symm a))

  numbers-are : areas (sizes a) (l_starts a) (l_rows a) ≡ numbers a
  numbers-are = plan_numbers (links a) n (links-symm a) (sizes a) long

  module _ (into upper tree moved starts' rows' offsets' sizes' bodies unit_starts d_starts next stamps : List ℕ)
      (listed : UpperOf n (links a) into upper) (by-tree : tree ≡ parents_of (links a) n)
      (tb : Tabled a moved starts' rows' offsets' sizes' bodies unit_starts d_starts next stamps) where
    -- the tables as they are lent
    abbrev t' : Tables
    t' = tables sizes' starts' rows' offsets'

    same : t ≡ t'
    same = rw (tb.by_sizes, tb.by_starts, tb.by_rows, tb.by_offsets) refl

    abbrev g : Given
    g = given a.dims a.starts a.rows a.values moved a.tol

    -- ---- what the loop needs

    pub source : Source a.dims a.starts a.rows a.values bodies moved sizes'
    source =
        record {
          few = sound.plan.blocks;
          stored = sound.plan.stored;
          dimensions = sound.plan.sizes;
          columns = sound.plan.columns;
          counted = sound.counted;
          permutes = subst (Permutes n) (sym tb.by_order) permutes;
          by_bodies = tb.by_bodies;
          by_sizes = tb.by_sizes ∙ ap (sizes_of a.dims) (sym tb.by_order);
        }

    pub laid : (values column : List Float) → length values ≡ numbers a → length column ≡ work_need a.dims → RowsLaid t' n (length values) (length column)
    laid values column ev ec =
        subst (λ (t : Tables). RowsLaid t n (length values) (length column)) same
        (subst (λ (m : ℕ). RowsLaid t m (length values) (length column)) long
        (subst (λ (v : ℕ). RowsLaid t (length (sizes a)) v (length column)) (numbers-are ∙ sym ev)
        (subst (λ (c : ℕ). RowsLaid t (length (sizes a)) (areas (sizes a) (l_starts a) (l_rows a)) c) (same-work a.dims (order a) permutes ∙ sym ec)
        (rows-laid (sizes a) (l_starts a) (l_rows a) (sizes-sound a.dims (order a) permutes sound.plan.sizes) columns-good))))

    pub diagonal : (diag d : List Float) → length diag ≡ units_need a.dims → length d ≡ scalar_count a.dims → DiagonalLaid sizes' unit_starts d_starts n (length diag) (length d)
    diagonal diag d eu ed =
        rw (tb.by_sizes, tb.by_units, tb.by_pivots, eu, ed, ← same_units a.dims (order a) permutes, ← same-scalars a.dims (order a) permutes)
        (subst (λ (m : ℕ). DiagonalLaid (sizes a) (unit_starts_of (sizes a)) (scalar_starts (sizes a)) m (units_need (sizes a)) (scalar_count (sizes a))) long (diagonal-laid (sizes a)))

    tree-long : length tree ≡ n
    tree-long = ap length by-tree ∙ parents-length (links a) n (links-symm a)

    pub grown : Grown t' into upper tree × (length tree ≡ n)
    grown = (
      record {
        liu = subst (λ (m : ℕ). Tree m into upper tree) (sym tree-long) (tree_of n (links a) into upper sound.plan.blocks listed (links-symm a) tree by-tree);
        rows = λ k h.
            let hk : k < n = subst (λ (m : ℕ). k < m) tree-long h in
            sym (ap (λ (t : Tables). rows_at t k) same)
            ∙ plan_rows (links a) n (links-symm a) (sizes a) (l_offsets a) k hk
            ∙ sym (same_rows n (links a) into upper sound.plan.blocks listed (links-symm a) k)
            ∙ ap (λ (m : ℕ). L.rows (linked_up into upper) m k) (sym tree-long);
      },
      tree-long,
    )

    pub begun : Next t' n 0 next
    begun = subst (λ (t : Tables). Next t n 0 next) same (record { count = ap length tb.by_next ∙ length-take-le n (l_starts a) few; place = λ k h. first k h })
      where
        few : n ≤ length (l_starts a)
        few = let e = columns-good.ordered.entries in let l = long in omega arith

        none-less : (l : List ℕ) → length (filter (λ i. ltb i 0) l) ≡ 0
        none-less [] = refl
        none-less (x ∷ l) = ap (λ (b : Bool). length (keep b x (filter (λ i. ltb i 0) l))) (false_of (ltb x 0) (λ q. let z : x < 0 = ltb→lt x 0 q in omega arith)) ∙ none-less l

        first : (k : ℕ) → k < n → at next k ≡ next_of t 0 k
        first k h = ap (λ (l : List ℕ). at l k) tb.by_next ∙ get_or-take n (l_starts a) k 0 h ∙ (let z = none-less (rows_at t k) in omega arith)

    pub unstamped : Below 0 stamps
    unfolding Below
    unstamped i h = subst (λ (l : List ℕ). get_or l i 0 ≤ 0) (sym tb.by_stamps) (noughts n i)
      where
        noughts : (m i : ℕ) → get_or (replicate m 0) i 0 ≤ 0
        noughts zero i = omega arith
        noughts (suc m) zero = omega arith
        noughts (suc m) (suc i) = noughts m i

    served : Served t' into upper g a
    served =
        record {
          fed = record { by_dims = refl; by_starts = refl; by_rows = refl; by_values = refl; by_order = sym tb.by_order };
          by_tol = refl;
          by_rows = λ k h. sym (plan_rows (links a) n (links-symm a) (sizes a) (l_offsets a) k h) ∙ ap (λ (t : Tables). rows_at t k) same;
          by_triples = λ j h. sym (same-triples n (links a) into upper sound.plan.blocks listed (links-symm a) j h);
        }

    -- ---- what it leaves

    -- the flat lists of a whole run
    module _ (values diag d : List Float) (count : ℕ) (ev : length values ≡ numbers a) (eu : length diag ≡ units_need a.dims) (ed : length d ≡ scalar_count a.dims)
        {cache : List Float} (up : UpTo t' unit_starts d_starts a n values diag d cache count) where
      all_done : length up.state.finished ≡ n
      all_done = (run_demand3 a up.state up.going_on).whole

      -- column k, as it is held
      module _ (k : ℕ) (h : k < n) where
        here : k < length up.state.finished
        here = let e = all_done in omega arith

        inside : (start_of t k ≤ stop_of t k) × (stop_of t k ≤ length (l_rows a))
        inside =
            let l = long in
            (columns-good.ordered.rising k (omega arith), columns-good.ordered.inside (k + 1) (omega arith))

        abbrev Bodies : Tables → Type 0
        Bodies t =
            (u : ℕ) → start_of t k ≤ u → u < stop_of t k
            → slot (at t.l_offsets u) (side t (at t.l_rows u) * side t k) values ≡ (machine.column_at up.state k).body (at t.l_rows u)

        held-bodies : Bodies t
        held-bodies = subst Bodies (sym same) (λ u lo hi. (up.held.column k here).bodies u lo hi)

        column-values :
            gather (λ u. slot (at (l_offsets a) u) (side t (at (l_rows a) u) * side t k) values) (from (start_of t k) (stop_of t k - start_of t k))
            ≡ gather (machine.column_at up.state k).body (machine.rows_at up.state k)
        column-values =
            gather_ext (λ u. slot (at (l_offsets a) u) (side t (at (l_rows a) u) * side t k) values) (λ u. (machine.column_at up.state k).body (at (l_rows a) u)) (from (start_of t k) (stop_of t k - start_of t k))
            (λ u m. let r = from-elim u (start_of t k) (stop_of t k - start_of t k) m in let i = inside in held-bodies u r.0 (omega arith))
            ∙ gather-part (machine.column_at up.state k).body (l_rows a) (start_of t k) (stop_of t k - start_of t k) (let i = inside in omega arith)
            ∙ ap (gather (machine.column_at up.state k).body) (ap (λ (t : Tables). rows_at t k) same ∙ sym (up.held.rows k here))

        column-unit : slot (at (unit_starts_of (sizes a)) k) (at (sizes a) k * at (sizes a) k) diag ≡ (machine.column_at up.state k).unit
        column-unit =
            sym (ap (λ (l : List ℕ). slot (at l k) (at (sizes a) k * at (sizes a) k) diag) tb.by_units)
            ∙ sym (ap (λ (l : List ℕ). slot (at unit_starts k) (at l k * at l k) diag) tb.by_sizes) ∙ (up.held.column k here).by_unit

        column-d : slot (at (scalar_starts (sizes a)) k) (at (sizes a) k) d ≡ (machine.column_at up.state k).d
        column-d =
            sym (ap (λ (l : List ℕ). slot (at l k) (at (sizes a) k) d) tb.by_pivots)
            ∙ sym (ap (λ (l : List ℕ). slot (at d_starts k) (at l k) d) tb.by_sizes) ∙ (up.held.column k here).by_d

      -- all columns: each list is its parts, one behind the other
      by_columns : (x : List Float) (f g : ℕ → List Float) → x ≡ gather f (from 0 (length (sizes a))) → ((k : ℕ) → k < n → f k ≡ g k) → x ≡ gather g (from 0 n)
      by_columns x f g e same_parts =
          e ∙ ap (λ (m : ℕ). gather f (from 0 m)) long
          ∙ gather_ext f g (from 0 n) (λ k m. same_parts k (let r = from-elim k 0 n m in omega arith))

      values-so : values ≡ values_after a (machine.run a)
      values-so =
          by_columns values _ _ (values_join (sizes a) (l_starts a) (l_rows a) columns-good values (ev ∙ sym numbers-are)) column-values
          ∙ sym (ap (values_after a) up.going_on)

      units-so : diag ≡ units_after a (machine.run a)
      units-so = by_columns diag _ _ (units-join (sizes a) diag (eu ∙ sym (same_units a.dims (order a) permutes))) column-unit ∙ sym (ap (units_after a) up.going_on)

      pivots-so : d ≡ pivots_after a (machine.run a)
      pivots-so = by_columns d _ _ (pivots-join (sizes a) d (ed ∙ sym (same-scalars a.dims (order a) permutes))) column-d ∙ sym (ap (pivots_after a) up.going_on)

      told-so : told (Ok count) ≡ machine.told (machine.run a)
      told-so = ap (λ (c : ℕ). told (Ok c)) up.counted ∙ sym (ap machine.told up.going_on)

    pub record Left (r : Result ℕ ColumnError) (values diag d : List Float) : Type 0 where
      pub outcome : told r ≡ machine.told (machine.run a)
      pub of_values : spoilt_by r values ≡ values_after a (machine.run a)
      pub of_diag : spoilt_by r diag ≡ units_after a (machine.run a)
      pub of_d : spoilt_by r d ≡ pivots_after a (machine.run a)

    module _ (values diag d : List Float) (ev : length values ≡ numbers a) (eu : length diag ≡ units_need a.dims) (ed : length d ≡ scalar_count a.dims) where
      -- a refused run: NaN in full
      refused : (r : Result ℕ ColumnError) (u : Told) → told r ≡ u → ((x : List Float) → spoilt_by r x ≡ nans (length x)) → machine.run a ≡ machine.stopped u → Left r values diag d
      refused r u e spoilt ran =
          record {
            outcome = e ∙ sym (ap machine.told ran);
            of_values = spoilt values ∙ ap nans ev ∙ sym (ap (values_after a) ran);
            of_diag = spoilt diag ∙ ap nans eu ∙ sym (ap (units_after a) ran);
            of_d = spoilt d ∙ ap nans ed ∙ sym (ap (pivots_after a) ran);
          }

      by_end : (cache : List Float) (r : Result ℕ ColumnError) → Ends t' unit_starts d_starts a r values diag d cache → Left r values diag d
      by_end cache (Ok count) up =
          record {
            outcome = told-so values diag d count ev eu ed up;
            of_values = values-so values diag d count ev eu ed up;
            of_diag = units-so values diag d count ev eu ed up;
            of_d = pivots-so values diag d count ev eu ed up;
          }
      by_end cache (Err (NotFinite block place pivot)) ran = refused (Err (NotFinite block place pivot)) _ refl (λ x. refl) ran
      by_end cache (Err (Poor block condition)) ran = refused (Err (Poor block condition)) _ refl (λ x. refl) ran

      pub ends : (cache : List Float) (r : Result ℕ ColumnError) → Runs t' unit_starts d_starts into upper g r values diag d cache → Left r values diag d
      ends cache r runs = by_end cache r (runs a served)
