-- `factor_numbers::cores::write_numbers` meets its contract. Assumes nothing.
use Rattle.std.specs.Prelude.{◌≡◌, List, length}
use mathlib.Core.Path.{ap, ◌∙◌}
use native.Mathlib.Omega.{arith}
use lib.Ieee.{Float}
use lib.ListN.{length-replicate}
use borrow.Author.Rules.{rules}
use Rattle.scalar.specs.Block.{zeros}
use Rattle.factor_setup.proofs.SetupLaws.{sound}
use Rattle.factor_setup.specs.Exact.{handed}
use Rattle.factor_tables.proofs.NeedLaws.{few-work}
use Rattle.factor_numbers.proofs.ExactLaws.{source, laid, diagonal, grown, begun, unstamped, ends}
use Rattle.factor_numbers.proofs.cores.write_numbers.Goals as goal

pub factor_columns-r-requires : goal.factor_columns-r-requires
factor_columns-r-requires c =
    let x = c.args in
    let a = handed x.s.now.system in
    let sound = sound c.args.s.now in
    let listed = c.requires.upper_of in
    let tabled = c.requires.tabled in
    let room = c.requires.number_room in
    record {
      source = source a sound x.into.now x.upper.now x.tree.now x.order.now x.l_starts.now x.l_rows.now x.l_offsets.now x.sizes.now x.bodies.now x.unit_starts.now x.d_starts.now x.next.now x.stamps.now listed.0 listed.1 tabled;
      rows_laid = laid a sound x.into.now x.upper.now x.tree.now x.order.now x.l_starts.now x.l_rows.now x.l_offsets.now x.sizes.now x.bodies.now x.unit_starts.now x.d_starts.now x.next.now x.stamps.now listed.0 listed.1 tabled x.l_values.now x.column.now room.of_values room.of_column;
      diagonal_laid = diagonal a sound x.into.now x.upper.now x.tree.now x.order.now x.l_starts.now x.l_rows.now x.l_offsets.now x.sizes.now x.bodies.now x.unit_starts.now x.d_starts.now x.next.now x.stamps.now listed.0 listed.1 tabled x.diag.now x.d.now room.of_diag room.of_d;
      grown = grown a sound x.into.now x.upper.now x.tree.now x.order.now x.l_starts.now x.l_rows.now x.l_offsets.now x.sizes.now x.bodies.now x.unit_starts.now x.d_starts.now x.next.now x.stamps.now listed.0 listed.1 tabled;
      ready = record {
        next = begun a sound x.into.now x.upper.now x.tree.now x.order.now x.l_starts.now x.l_rows.now x.l_offsets.now x.sizes.now x.bodies.now x.unit_starts.now x.d_starts.now x.next.now x.stamps.now listed.0 listed.1 tabled;
        stamps = (
          ap length tabled.by_stamps ∙ length-replicate _ _,
          unstamped a sound x.into.now x.upper.now x.tree.now x.order.now x.l_starts.now x.l_rows.now x.l_offsets.now x.sizes.now x.bodies.now x.unit_starts.now x.d_starts.now x.next.now x.stamps.now listed.0 listed.1 tabled,
        );
        out = room.of_inverse;
        places = room.of_places;
        rooms = (omega arith, omega arith);
      };
      c_len = omega (arith, room.of_column, few-work a.dims sound.plan.sizes sound.plan.blocks);
    }

-- a list that is lent in a struct is what the calls left there
through : {x y z : List Float} → x ≡ y → y ≡ z → x ≡ z
through p q = p ∙ q

pub returns : goal.returns
returns c =
    let x = c.args in
    let a = handed x.s.now.system in
    let room = c.requires.number_room in
    let call = c.factor_columns-r in
    let f = call.new.f in
    let same = call.ensures.numbers in
    let left =
    ends a (sound c.args.s.now) x.into.now x.upper.now x.tree.now x.order.now x.l_starts.now x.l_rows.now x.l_offsets.now x.sizes.now x.bodies.now x.unit_starts.now x.d_starts.now x.next.now x.stamps.now c.requires.upper_of.0 c.requires.upper_of.1 c.requires.tabled
    f.l_values.now f.diag.now f.d.now (same.l_values.1 ∙ room.of_values) (same.diag.1 ∙ room.of_diag) (same.d.1 ∙ room.of_d) f.cache.now call.result call.ensures.runs in
    record {
      result_value = left.outcome;
      l_values_after = through {y = c.spoil.new.x} (search rules) (c.spoil.ensures ∙ left.of_values);
      diag_after = through {y = c.spoil-2.new.x} (search rules) (c.spoil-2.ensures ∙ left.of_diag);
      d_after = through {y = c.spoil-3.new.x} (search rules) (c.spoil-3.ensures ∙ left.of_d);
      cache_after = through {y = c.clear.new.x} (search rules) (c.clear.ensures ∙ ap zeros same.cache.1);
    }
