-- One column, whole: where the flat lists hold the machine's columns before j, what loading, the products and the end of column j
-- leave is the machine's column j, or its refusal.
--     nothing_yet    before the first column
--     turns          one column more
--     laid-again, placed_by    what the steps need, with lengths as they are later
-- Assumes nothing.
use Rattle.std.specs.Prelude.{◌≡◌, ℕ, ◌*◌, ◌<◌, true, false, List, [], ◌∷◌, ◌++◌, length}
use mathlib.Core.List.{append-nil}
use mathlib.Core.Option.{none}
use mathlib.Core.Path.{refl, sym, ap, ap₂, subst, ◌∙◌}
use native.Mathlib.Omega.{arith}
use lib.Ieee.{Float, nan}
use lib.ListN.{length-map}
use Rattle.scalar.specs.Loop.{steps}
use Rattle.graph.specs.Sets.{filter}
use Rattle.graph.specs.Order.{moved}
use Rattle.graph.specs.Symbolic as L
use Rattle.graph.specs.Count.{column_triples}
use Rattle.graph.proofs.SumLaws.{filter-all}
use Rattle.graph.proofs.SymbolicLaws.{columns_length, columns_at}
use Rattle.tables.specs.Verdict.{at}
use Rattle.elimination_tree.specs.Tree.{linked_up}
use Rattle.order.specs.Order.{sizes_of}
use Rattle.std.specs.Prelude.{Result, Ok, Err}
use Rattle.dense_pivots.specs.declared.LdltResult.{LdltResult}
use Rattle.block_diag_ldlt.specs.declared.cores.BlockError.{BlockError}
use Rattle.block_diag_ldlt.specs.declared.cores.BlockError.TheVariants.{NotFinite, Poor}
use Rattle.machine.specs.System.{System, blocks, links, order, dim}
use Rattle.machine.specs.Machine.{State, Column, load, sequence, worked, stored, start, run_to}
use Rattle.machine.proofs.StepLaws.{products-finished}
use Rattle.machine.proofs.RunLaws.{Right, columns_keep, sequence-is, touched-is}
use Rattle.machine.proofs.StopLaws.{run-next}
use Rattle.block_product.specs.Working.{slot, Shows}
use Rattle.layout.specs.Layout.{Tables, side, start_of, stop_of, on_at, RowsLaid, Placed}
use Rattle.load_column.specs.Load.{Fed, LoadedColumn}
use Rattle.finish_column.specs.Finish.{HoldsAll, Before, Ended, Finishes}
use Rattle.keep_column.specs.Keep.{Keeps, KeptAll}
use Rattle.work_column.specs.Work.{Ahead, Works}
use Rattle.factor_column.proofs.KeptLaws.{kept_more}
use Rattle.factor_column.specs.Turn.{turned_of, Given, Served, UpTo, After, Turns}

-- ---- what the steps need

-- with no late block the order is the permutation
moved_none : (perm : List ℕ) → moved perm [] ≡ perm
unfolding moved
moved_none perm = ap₂ {C = List ℕ} ◌++◌ (filter-all (λ block. true) perm (λ x m. tt)) (none_left perm) ∙ append-nil perm
  where
    none_left : (l : List ℕ) → filter (λ block. false) l ≡ []
    none_left [] = refl
    none_left (x ∷ l) = none_left l

module _ (t : Tables) where
  pub laid-again : {n n' v v' c c' : ℕ} → n ≡ n' → v ≡ v' → c ≡ c' → RowsLaid t n v c → RowsLaid t n' v' c'
  laid-again en ev ec laid = rw (← en, ← ev, ← ec) laid

  -- the places of a loaded column, whatever the system
  pub placed_by : (dims starts rows : List ℕ) (values : List Float) (moved : List ℕ) (j : ℕ) (places : List ℕ) (c : List Float)
      → ((a : System) → Fed a dims starts rows values moved → LoadedColumn t a j places c) → Placed t places j
  placed_by dims starts rows values moved j places c loads =
      (loads (record { dims = dims; starts = starts; rows = rows; values = values; perm = moved; late = []; tol = nan })
      (record { by_dims = refl; by_starts = refl; by_rows = refl; by_values = refl; by_order = moved_none moved })).placed

-- ---- one column

module _ (t : Tables) (unit_starts d_starts : List ℕ) where
  -- no column is done, and none is held
  pub nothing_yet : (a : System) (values diag d cache : List Float) → UpTo t unit_starts d_starts a 0 values diag d cache 0
  unfolding run_to steps
  nothing_yet a values diag d cache =
      record {
        state = start;
        going_on = refl;
        held = record { column = λ k h. absurd (omega arith); rows = λ k h. absurd (omega arith) };
        kept = λ k h. absurd (omega arith);
        counted = refl;
      }

  module _ (into upper : List ℕ) (g : Given) (j : ℕ) (below : j < length g.dims) (by_sizes : t.sizes ≡ sizes_of g.dims g.order)
      (places : List ℕ) (values diag d cache c c' : List Float) (count count' : ℕ)
      (loads : (a : System) → Served t into upper g a → LoadedColumn t a j places c)
      (works : Works t unit_starts d_starts into upper (length g.dims) j places values diag d cache c count c' count')
      (r : Result LdltResult BlockError) (values' diag' d' : List Float) (finishes : Finishes t unit_starts d_starts g.tol j places c' values diag d (r, values', diag', d'))
      {m : ℕ} (laid : RowsLaid t (length g.dims) (length values) m) (cache' : List Float)
      (keeps : Keeps t.sizes t.l_rows t.l_offsets j (start_of t j) (stop_of t j) values' (slot (at unit_starts j) (side t j * side t j) diag') cache cache') where
    module _ (a : System) (served : Served t into upper g a) (up : UpTo t unit_starts d_starts a j values diag d cache count) where
      abbrev s : State
      s = up.state

      many : blocks a ≡ length g.dims
      many = ap length served.fed.by_dims

      inside : j < blocks a
      inside = let m = many in omega arith

      right : Right a j s
      right = columns_keep a j s (let i = inside in omega arith) up.going_on

      so_far : length s.finished ≡ j
      so_far = sym (length-map s.finished (λ (c : Column). c.rows)) ∙ ap length right.by_rows ∙ columns_length (links a) (blocks a) j

      sizes-are : t.sizes ≡ sizes_of a.dims (order a)
      sizes-are = by_sizes ∙ sym (ap₂ {C = List ℕ} sizes_of served.fed.by_dims served.fed.by_order)

      -- the column is loaded
      shown : Shows (side t) (at places) (on_at t j) j c count (load a j s)
      unfolding load
      shown = record { blocks = (loads a served).blocks; counted = up.counted }

      ahead : Ahead t unit_starts d_starts into upper (length g.dims) j a values diag d cache s
      ahead =
          record {
            by_sizes = sizes-are;
            by_sequence =
                sequence-is a j inside s right.by_rows ∙ served.by_triples j inside
                ∙ ap (λ (m : ℕ). column_triples (linked_up into upper) m j) many;
            so_far = so_far;
            held = up.held;
            kept = up.kept;
          }

      -- its products are done
      did : Shows (side t) (at places) (on_at t j) j c' count' (worked a j s)
      did = works a s ahead shown

      same-finished : (worked a j s).finished ≡ s.finished
      unfolding load
      same-finished = products-finished (dim a) (sequence a j s) (load a j s)

      before : Before t unit_starts d_starts a g.tol j count' places c' values diag d (worked a j s)
      unfolding L.rows
      before =
          record {
            by_sizes = sizes-are;
            by_tol = served.by_tol;
            so_far = ap length same-finished ∙ so_far;
            held = subst (HoldsAll t unit_starts d_starts values diag d) (sym same-finished) up.held;
            shown = did;
            rows = touched-is a j inside s right.by_rows ∙ sym (columns_at (links a) (blocks a) (blocks a) j inside) ∙ served.by_rows j inside;
          }

      -- so its end is the machine's
      ends : (r : Result LdltResult BlockError) → Ended t unit_starts d_starts a j (worked a j s) (r, values', diag', d') → After t unit_starts d_starts a j (turned_of count' r) values' diag' d' cache'
      unfolding stored
      ends (Ok k) e =
          record {
            state = record { finished = (worked a j s).finished ++ (e.0 ∷ []); work = λ i. none; done = (worked a j s).done };
            going_on = run-next a j s up.going_on ∙ ap (stored (worked a j s)) e.1;
            held = e.2;
            kept =
                kept_more t laid j below unit_starts d_starts values' diag' d' cache cache' (worked a j s).finished e.0 (ap length same-finished ∙ so_far)
                (subst (KeptAll t unit_starts d_starts cache) (sym same-finished) up.kept) e.2 keeps;
            counted = did.counted;
          }
      ends (Err (NotFinite place pivot)) e = run-next a j s up.going_on ∙ ap (stored (worked a j s)) e
      ends (Err (Poor condition)) e = run-next a j s up.going_on ∙ ap (stored (worked a j s)) e

    pub turns : Turns t unit_starts d_starts into upper g j values diag d cache count (turned_of count' r) values' diag' d' cache'
    turns a served up = ends a served up r (finishes a count' (worked a j up.state) (before a served up))
