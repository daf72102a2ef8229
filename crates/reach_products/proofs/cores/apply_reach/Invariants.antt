-- `reach_products::cores::apply_reach` meets its contract: the invariant: the first u columns are done (`ReachUpTo`), and their next places have gone
-- one further. Assumes nothing.
use Rattle.std.specs.Prelude.{◌≡◌, ◌+◌, ◌-◌, ◌≤◌, length, take}
use Rattle.column_products.specs.Columns.{plan_of, SameWorking}
use Rattle.reach_products.specs.Reach.{advanced, reach_triples}
use Rattle.reach_products.proofs.ReachLaws.{ReachUpTo}
use Rattle.reach_products.proofs.cores.apply_reach.Given as goal

abbrev pub invariant-loop-reaching : goal.invariant-loop-reaching
invariant-loop-reaching l =
    record {
      done : l.reaching-index ≤ length l.reach;
      same : SameWorking l.initial.w l.w;
      moved : l.next ≡ advanced (take l.reaching-index l.reach) l.initial.next;
      counts : l.n ≡ l.count + length (reach_triples (plan_of l.t l.f.places.now) l.t.l_starts.now l.initial.next l.j (take l.reaching-index l.reach));
      steps : ReachUpTo (plan_of l.t l.f.places.now) l.t.l_starts.now l.j l.reach l.initial.next l.f.l_values.now l.f.diag.now l.f.d.now l.f.cache.now l.initial.w.c.now l.count l.w.c.now l.n l.reaching-index;
    }

abbrev pub decreases-loop-reaching : goal.decreases-loop-reaching
decreases-loop-reaching l = length l.reach - l.reaching-index
