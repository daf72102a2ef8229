-- From what the analysis leaves to the tables of a factor, of any system whose tables have passed.
--     sound         what the checks have found
--     tree-long     the tree has an entry a block
--     count_long    and so have the counts
--     store_asks    L's tables can be stored
--     starts-told   where L's columns begin, by the system's own links
--     rows_told     and so its rows
--     parents-told  a copy of the tree is the system's
--     laid          all offsets can be laid out by them
--     tabled        what the steps leave are the tables of the system
-- Assumes nothing.
use Rattle.std.specs.Prelude.{◌≡◌, ℕ, ◌+◌, ◌≤◌, List, length, take, replicate}
use mathlib.Core.Path.{sym, ap, subst, ◌∙◌}
use native.Mathlib.Omega.{arith}
use lib.ListN.{length-map}
use lib.Seq.{take_all}
use Rattle.graph.specs.Symbolic.{columns}
use Rattle.graph.proofs.SymbolicLaws.{columns_length}
use Rattle.buckets.specs.Buckets.{lengths}
use Rattle.tables.specs.Sound.{PlanSound, SystemSound}
use Rattle.tables.proofs.Sound.{system-sound}
use Rattle.elimination_tree.specs.Tree.{linked_up, parents_of}
use Rattle.elimination_tree.proofs.Links.{parents-length}
use Rattle.order.specs.Order.{sizes_of}
use Rattle.symbolic.specs.Columns.{Tree, columns_of}
use Rattle.analysis.specs.Plan.{stored_of, starts_of, rows_of}
use Rattle.analysis.proofs.Same.{same-columns, same-stored, same-starts, same-l-rows, tree_of}
use Rattle.scalars.specs.Scalars.{scalar_starts}
use Rattle.scalars.specs.Bodies.{offsets}
use Rattle.machine.specs.System.{System, blocks, links, order}
use Rattle.machine.proofs.RunLaws.{links-symm}
use Rattle.layout.specs.Layout.{unit_starts_of}
use Rattle.layout.proofs.PlanLaws.{plan_columns, plan_few}
use Rattle.factor_tables.specs.Given.{Layable}
use Rattle.factor_tables.proofs.TableLaws.{layable}
use Rattle.factor_setup.specs.declared.Passed.{Passed}
use Rattle.factor_setup.specs.Exact.{stored, l_starts, l_rows, Analyzed, Tabled}

-- ---- the system

-- what the checks have found in what they accepted
pub sound : (s : Passed) → SystemSound s.system.dims.now s.system.starts.now s.system.rows.now s.system.values.now s.system.perm.now s.system.late.now s.system.tol
sound s = system-sound _ _ _ _ _ _ _ s.accepted

-- ---- L's tables

module _ (a : System) (few : blocks a ≤ 4096) {into upper tree count : List ℕ} (g : Analyzed a into upper tree count) where
  pub tree-long : length tree ≡ blocks a
  tree-long = ap length g.parents ∙ parents-length (links a) (blocks a) (links-symm a)

  pub count_long : length count ≡ blocks a
  count_long = ap length g.counted ∙ (length-map {A = List ℕ} {B = ℕ} (columns (links a) (blocks a) (blocks a)) length ∙ columns_length (links a) (blocks a) (blocks a))

  -- what `store` asks
  pub store_asks : (stamps inverse starts rows : List ℕ) → length stamps ≡ blocks a → length inverse ≡ blocks a → length starts ≡ blocks a + 1 → length rows ≡ stored a
      → (Tree (length tree) into upper tree × (count ≡ lengths (columns_of into upper (length tree))))
      × (((length stamps ≡ length tree) × (length inverse ≡ length tree) × (length starts ≡ length tree + 1)) × (length rows ≡ stored_of (linked_up into upper) (length tree)))
  store_asks stamps inverse starts rows s i l o =
      subst (λ (m : ℕ). (Tree m into upper tree × (count ≡ lengths (columns_of into upper m))) × (((length stamps ≡ m) × (length inverse ≡ m) × (length starts ≡ m + 1)) × (length rows ≡ stored_of (linked_up into upper) m)))
      (sym tree-long) (
        (
          tree_of (blocks a) (links a) into upper few g.listed (links-symm a) tree g.parents,
          g.counted ∙ ap lengths (sym (same-columns (blocks a) (links a) into upper few g.listed (links-symm a))),
        ),
        ((s, i, l), o ∙ sym (same-stored (blocks a) (links a) into upper few g.listed (links-symm a))),
      )

  -- what it leaves
  pub starts-told : (starts : List ℕ) → starts ≡ starts_of (linked_up into upper) (length tree) → starts ≡ l_starts a
  starts-told starts e = e ∙ (ap (starts_of (linked_up into upper)) tree-long ∙ same-starts (blocks a) (links a) into upper few g.listed (links-symm a))

  pub rows_told : (rows : List ℕ) → rows ≡ rows_of (linked_up into upper) (length tree) → rows ≡ l_rows a
  rows_told rows e = e ∙ (ap (rows_of (linked_up into upper)) tree-long ∙ same-l-rows (blocks a) (links a) into upper few g.listed (links-symm a))

  -- the tree, as many places of it as there are blocks
  pub parents-told : (n : ℕ) (parents : List ℕ) → n ≡ blocks a → parents ≡ take n tree → parents ≡ parents_of (links a) (blocks a)
  parents-told n parents e p = let h : length tree ≤ n = omega (arith, tree-long) in p ∙ (take_all n tree h ∙ g.parents)

-- ---- the offsets

module _ (a : System) (moved starts rows : List ℕ) (o : moved ≡ order a) (s : starts ≡ l_starts a) (r : rows ≡ l_rows a) where
  -- what `lay_rows` asks
  pub laid : PlanSound a.dims a.starts a.rows a.perm a.late → Layable a.dims a.starts a.rows moved starts rows
  laid p =
      let few = plan_few (links a) (blocks a) (links-symm a) p.blocks in
      let good : Layable a.dims a.starts a.rows (order a) (l_starts a) (l_rows a) =
      layable a.dims a.starts a.rows a.perm a.late (l_starts a) (l_rows a) p (plan_columns (links a) (blocks a) (links-symm a)) (omega (arith, few)) in
      rw (o, s, r) good

  -- what the steps leave
  pub tabled : (offsets' sizes' bodies units pivots next stamps : List ℕ) (n m : ℕ) → n ≡ blocks a → m ≡ blocks a
      → sizes' ≡ sizes_of a.dims moved → offsets' ≡ offsets (sizes_of a.dims moved) starts rows → bodies ≡ offsets a.dims a.starts a.rows
      → units ≡ unit_starts_of (sizes_of a.dims moved) → pivots ≡ scalar_starts (sizes_of a.dims moved) → next ≡ take n starts → stamps ≡ replicate m 0
      → Tabled a moved starts rows offsets' sizes' bodies units pivots next stamps
  tabled offsets' sizes' bodies units pivots next stamps n m en em z f b u d x t =
      let by_sizes = ap (sizes_of a.dims) o in
      record {
        by_order = o;
        by_starts = s;
        by_rows = r;
        by_offsets = f ∙ (ap (λ (l : List ℕ). offsets l starts rows) by_sizes ∙ (ap (λ (l : List ℕ). offsets (sizes_of a.dims (order a)) l rows) s ∙ ap (offsets (sizes_of a.dims (order a)) (l_starts a)) r));
        by_sizes = z ∙ by_sizes;
        by_bodies = b;
        by_units = u ∙ ap unit_starts_of by_sizes;
        by_pivots = d ∙ ap scalar_starts by_sizes;
        by_next = x ∙ (ap (λ (k : ℕ). take k starts) en ∙ ap (take (blocks a)) s);
        by_stamps = t ∙ ap (λ (k : ℕ). replicate k 0) em;
      }
