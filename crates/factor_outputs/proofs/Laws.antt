-- How a factorization in the first places of longer outputs is one in the whole. Assumes nothing.
use Rattle.std.specs.Prelude.{◌≡◌, ℕ, ◌+◌, ◌-◌, ◌<◌, T, ◌↔◌, List, ◌++◌, length}
use mathlib.Core.Path.{refl, sym, ap, ap₂, subst, ◌∙◌}
use native.Mathlib.Omega.{arith}
use lib.Ieee.{Float}
use lib.Seq.{slice}
use Rattle.graph.specs.Sets.{elem, between}
use Rattle.graph.specs.Links.{rows_in}
use Rattle.graph.specs.Path.{Stored}
use Rattle.graph.specs.Count.{products_of}
use Rattle.graph.specs.Tree.{Parent}
use Rattle.graph.proofs.SetLaws.{between-elim}
use Rattle.graph.proofs.SumLaws.{sum-ext}
use Rattle.refusal.specs.Refusal.{done}
use Rattle.tables.specs.Verdict.{at}
use Rattle.buckets.proofs.Lists.{front}
use Rattle.elimination_tree.specs.Tree.{decode, parents_of}
use Rattle.scalars.specs.Scalars.{scalar_count}
use Rattle.machine.specs.System.{System, blocks, links, order}
use Rattle.machine.specs.Machine.{run}
use Rattle.layout.specs.Layout.{units_need}
use Rattle.factor_setup.specs.Exact.{l_starts, units_after, pivots_after}
use Rattle.factor_core.specs.Factorize.{Factorized, Places, lent, Demand3}
use Rattle.factor_core.specs.Cache.{whole_kept, FactorsKept}
use Rattle.factor_lent.proofs.Laws.{Cut, joined}

-- demand 3 reads no place beyond the n + 1 column starts
demand3-joined : (a : System) (products : ℕ) (starts rest rows : List ℕ) → length starts ≡ blocks a + 1 → Demand3 a products starts rows → Demand3 a products (starts ++ rest) rows
demand3-joined a products starts rest rows long g =
    record {
      state = g.state;
      accepts = g.accepts;
      worked = g.worked;
      summed = g.summed ∙ sum-ext (between 0 (blocks a)) (λ k. products_of (at starts (k + 1) - at starts k)) (λ k. products_of (at (starts ++ rest) (k + 1) - at (starts ++ rest) k)) (λ k m. same-product k (between-elim k 0 (blocks a) m).1);
      path_rule = λ k i h. subst (λ (l : List ℕ). T (elem i l) ↔ ((i < blocks a) × Stored (links a) k i)) (sym (same_rows k h)) (g.path_rule k i h);
      listed = λ k h. same_rows k h ∙ g.listed k h;
    }
  where
    same : (k : ℕ) → k < blocks a + 1 → at (starts ++ rest) k ≡ at starts k
    same k h = front starts rest k (subst (λ (m : ℕ). k < m) (sym long) h)

    same-product : (k : ℕ) → k < blocks a → products_of (at starts (k + 1) - at starts k) ≡ products_of (at (starts ++ rest) (k + 1) - at (starts ++ rest) k)
    same-product k h = ap products_of (ap₂ ◌-◌ (sym (same (k + 1) (omega arith))) (sym (same k (omega arith))))

    same_rows : (k : ℕ) → k < blocks a → rows_in (starts ++ rest) rows k ≡ rows_in starts rows k
    same_rows k h = ap₂ (λ (x y : ℕ). slice x y rows) (same k (omega arith)) (same (k + 1) (omega arith))

-- ---- the outputs but L's rows, offsets and values

-- a factorization in what is cut is one in the whole: the needs that only the plan shows are of buffers that are not cut
pub outputs-joined : (most : ℕ) (a : System) (units scalars : ℕ) (b c : Places) (r : Factorized) (cache cache' : List Float)
    {order' parents' l_starts' l_rows' l_offsets' : List ℕ} {l_values' diag' d' : List Float}
    → units ≡ units_need a.dims → scalars ≡ scalar_count a.dims → length c.parents ≡ blocks a → length c.l_starts ≡ blocks a + 1
    → (e-order : Cut (blocks a) b.order c.order order')
    → (e-parents : Cut (blocks a) b.parents c.parents parents')
    → (e-l_starts : Cut (blocks a + 1) b.l_starts c.l_starts l_starts')
    → l_rows' ≡ c.l_rows
    → l_offsets' ≡ c.l_offsets
    → l_values' ≡ c.l_values
    → (e-diag : Cut units b.diag c.diag diag')
    → (e-d : Cut scalars b.d c.d d')
    → FactorsKept done most a (lent e-order.front e-parents.front e-l_starts.front b.l_rows b.l_offsets b.l_values e-diag.front e-d.front b.column b.inverse b.sizes b.count b.heads b.into b.stamps b.table b.upper b.bodies b.unit_starts b.d_starts b.places) cache r c cache'
    → FactorsKept done most a b cache r (lent order' parents' l_starts' l_rows' l_offsets' l_values' diag' d' c.column c.inverse c.sizes c.count c.heads c.into c.stamps c.table c.upper c.bodies c.unit_starts c.d_starts c.places) cache'
unfolding whole_kept
outputs-joined most a units scalars b c r cache cache' {l_rows' = l_rows'} units-is scalars-is parents-kept starts-kept e-order e-parents e-l_starts e-l_rows e-l_offsets e-l_values e-diag e-d q =
    let f = q.factors in
    let w = whole_kept done most a b (length cache) in
    record {
      factors = record {
        outcome = f.outcome;
        order = joined w (blocks a) (blocks a) b.order (order a) c.order _ refl e-order f.order;
        parents = joined w (blocks a) (blocks a) b.parents (parents_of (links a) (blocks a)) c.parents _ refl e-parents f.parents;
        l_starts = joined w (blocks a + 1) (blocks a + 1) b.l_starts (l_starts a) c.l_starts _ refl e-l_starts f.l_starts;
        l_rows = e-l_rows ∙ f.l_rows;
        l_offsets = e-l_offsets ∙ f.l_offsets;
        l_values = e-l_values ∙ f.l_values;
        diag = joined w units (units_need a.dims) b.diag (units_after a (run a)) c.diag _ units-is e-diag f.diag;
        d = joined w scalars (scalar_count a.dims) b.d (pivots_after a (run a)) c.d _ scalars-is e-d f.d;
        column = f.column;
        inverse = f.inverse;
        sizes = f.sizes;
        count = f.count;
        heads = f.heads;
        into = f.into;
        stamps = f.stamps;
        table = f.table;
        upper = f.upper;
        bodies = f.bodies;
        unit_starts = f.unit_starts;
        d_starts = f.d_starts;
        places = f.places;
        liu = λ passes k h. subst (λ (p : ℕ). Parent (links a) (blocks a) k (decode p)) (sym (ap (λ (l : List ℕ). at l k) e-parents.left ∙ front c.parents e-parents.beyond k (subst (λ (l : ℕ). k < l) (sym parents-kept) h))) (f.liu passes k h);
        demand3 = λ counts is. subst (λ (l : List ℕ). Demand3 a counts.products l l_rows') (sym e-l_starts.left) (subst (Demand3 a counts.products (c.l_starts ++ e-l_starts.beyond)) (sym e-l_rows) (demand3-joined a counts.products c.l_starts e-l_starts.beyond c.l_rows starts-kept (f.demand3 counts is)));
      };
      cache = q.cache;
    }
