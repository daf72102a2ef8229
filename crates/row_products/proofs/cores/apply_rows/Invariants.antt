-- `row_products::cores::apply_rows` meets its contract. Assumes nothing.
use Rattle.std.specs.Prelude.{◌≡◌, ◌+◌, ◌-◌, ◌≤◌, length}
use Rattle.tables.specs.Verdict.{at}
use Rattle.row_products.proofs.RowLaws.{UpTo}
use Rattle.row_products.proofs.cores.apply_rows.Given as goal

abbrev pub invariant-loop-t : goal.invariant-loop-t
invariant-loop-t l =
    record {
      done : l.t ≤ length l.r.rows.now;
      room : length l.qi ≡ length l.initial.qi;
      long : length l.c ≡ length l.initial.c;
      counts : l.n ≡ l.count + l.t;
      steps : UpTo (at l.held.pair.sizes.now) (at l.places) l.held.pair.j l.held.pair.k l.r.rows.now l.r.offsets.now l.held.values.now l.held.cache.now l.held.unit.now l.qj l.initial.c l.count l.c l.n l.t;
    }

abbrev pub decreases-loop-t : goal.decreases-loop-t
decreases-loop-t l = length l.r.rows.now - l.t
