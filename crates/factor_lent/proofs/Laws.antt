-- How a factorization in the first places of longer buffers is one in the whole. Assumes nothing.
use Rattle.std.specs.Prelude.{◌≡◌, ℕ, ◌+◌, Bool, true, false, cond, List, ◌++◌, length, drop, replicate, Float}
use mathlib.Core.Path.{refl, sym, ap, ap₂, ◌∙◌}
use Rattle.scalar.specs.Block.{zeros}
use Rattle.refusal.specs.Refusal.{Told, done, refuses, after}
use Rattle.machine.specs.System.{System, blocks}
use Rattle.layout.specs.Layout.{work_need}
use Rattle.factor_cleared.proofs.CoreLaws.{exact}
use Rattle.factor_core.specs.Factorize.{Factorized, Places, lent}
use Rattle.factor_core.specs.Cache.{whole_kept, FactorsKept}

-- ---- a buffer that is cut in two; n is worked out to be the need

-- its first n places, and those beyond; in the end what is left in both
pub record Cut {A : Type 0} (n : ℕ) (xs ys zs : List A) : Type 0 where
  pub front : List A
  pub beyond : List A
  pub whole : xs ≡ front ++ beyond
  pub long : length front ≡ n
  pub kept : beyond ≡ drop n xs
  pub left : zs ≡ ys ++ beyond

-- what is left in the whole, where `new` is left in the first places
pub joined : {A : Type 0} (w : Told) (n need : ℕ) (xs new ys zs : List A) → n ≡ need → (c : Cut n xs ys zs) → ys ≡ after w c.front (new ++ drop need c.front) → zs ≡ after w xs (new ++ drop need xs)
joined {A} w n need xs new ys zs e c is = c.left ∙ by-case (refuses w) is
  where
    by-case : (t : Bool) → ys ≡ cond t c.front (new ++ drop need c.front) → ys ++ c.beyond ≡ cond t xs (new ++ drop need xs)
    by-case true is = ap (λ (l : List A). l ++ c.beyond) is ∙ sym c.whole
    by-case false is = ap₂ (λ (l k : List A). l ++ k) (is ∙ sym (exact need c.front new (c.long ∙ e))) (c.kept ∙ ap (λ (k : ℕ). drop k xs) e)

-- ---- all of the scratch

-- a factorization in what is cut is one in the whole: the needs that only the plan shows are of buffers that are not cut
pub all-joined : (most : ℕ) (a : System) (work : ℕ) (b c : Places) (r : Factorized) (cache cache' : List Float) {column' : List Float} {inverse' sizes' count' heads' into' stamps' table' upper' bodies' unit_starts' d_starts' places' : List ℕ}
    → work ≡ work_need a.dims
    → (e-column : Cut work b.column c.column column')
    → (e-inverse : Cut (blocks a) b.inverse c.inverse inverse')
    → (e-sizes : Cut (blocks a) b.sizes c.sizes sizes')
    → (e-count : Cut (blocks a) b.count c.count count')
    → (e-heads : Cut (blocks a + 1) b.heads c.heads heads')
    → (e-into : Cut (blocks a + 1) b.into c.into into')
    → (e-stamps : Cut (blocks a) b.stamps c.stamps stamps')
    → (e-table : Cut (length a.rows) b.table c.table table')
    → (e-upper : Cut (length a.rows) b.upper c.upper upper')
    → (e-bodies : Cut (length a.rows + 1) b.bodies c.bodies bodies')
    → (e-unit_starts : Cut (blocks a + 1) b.unit_starts c.unit_starts unit_starts')
    → (e-d_starts : Cut (blocks a + 1) b.d_starts c.d_starts d_starts')
    → (e-places : Cut (blocks a) b.places c.places places')
    → FactorsKept done most a (lent b.order b.parents b.l_starts b.l_rows b.l_offsets b.l_values b.diag b.d e-column.front e-inverse.front e-sizes.front e-count.front e-heads.front e-into.front e-stamps.front e-table.front e-upper.front e-bodies.front e-unit_starts.front e-d_starts.front e-places.front) cache r c cache'
    → FactorsKept done most a b cache r (lent c.order c.parents c.l_starts c.l_rows c.l_offsets c.l_values c.diag c.d column' inverse' sizes' count' heads' into' stamps' table' upper' bodies' unit_starts' d_starts' places') cache'
unfolding whole_kept
all-joined most a work b c r cache cache' work-is e-column e-inverse e-sizes e-count e-heads e-into e-stamps e-table e-upper e-bodies e-unit_starts e-d_starts e-places q =
    let f = q.factors in
    record {
      factors = record {
        outcome = f.outcome;
        order = f.order;
        parents = f.parents;
        l_starts = f.l_starts;
        l_rows = f.l_rows;
        l_offsets = f.l_offsets;
        l_values = f.l_values;
        diag = f.diag;
        d = f.d;
        column = joined done work (work_need a.dims) b.column (zeros (work_need a.dims)) c.column _ work-is e-column f.column;
        inverse = joined done (blocks a) (blocks a) b.inverse (replicate (blocks a) 0) c.inverse _ refl e-inverse f.inverse;
        sizes = joined done (blocks a) (blocks a) b.sizes (replicate (blocks a) 0) c.sizes _ refl e-sizes f.sizes;
        count = joined done (blocks a) (blocks a) b.count (replicate (blocks a) 0) c.count _ refl e-count f.count;
        heads = joined done (blocks a + 1) (blocks a + 1) b.heads (replicate (blocks a + 1) 0) c.heads _ refl e-heads f.heads;
        into = joined done (blocks a + 1) (blocks a + 1) b.into (replicate (blocks a + 1) 0) c.into _ refl e-into f.into;
        stamps = joined done (blocks a) (blocks a) b.stamps (replicate (blocks a) 0) c.stamps _ refl e-stamps f.stamps;
        table = joined done (length a.rows) (length a.rows) b.table (replicate (length a.rows) 0) c.table _ refl e-table f.table;
        upper = joined done (length a.rows) (length a.rows) b.upper (replicate (length a.rows) 0) c.upper _ refl e-upper f.upper;
        bodies = joined done (length a.rows + 1) (length a.rows + 1) b.bodies (replicate (length a.rows + 1) 0) c.bodies _ refl e-bodies f.bodies;
        unit_starts = joined done (blocks a + 1) (blocks a + 1) b.unit_starts (replicate (blocks a + 1) 0) c.unit_starts _ refl e-unit_starts f.unit_starts;
        d_starts = joined done (blocks a + 1) (blocks a + 1) b.d_starts (replicate (blocks a + 1) 0) c.d_starts _ refl e-d_starts f.d_starts;
        places = joined done (blocks a) (blocks a) b.places (replicate (blocks a) 0) c.places _ refl e-places f.places;
        liu = f.liu;
        demand3 = f.demand3;
      };
      cache = q.cache;
    }
