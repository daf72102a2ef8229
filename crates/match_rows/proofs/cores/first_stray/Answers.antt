-- `match_rows::cores::first_stray` meets its contract: a search, one turn a column. Assumes nothing.
use Rattle.std.specs.Prelude.{ℕ}
use Prim.Native.Nat.{zero-le}
use mathlib.Core.Path.{refl}
use native.Mathlib.Omega.{arith}
use lib.ListN.{length-replicate, get_or-replicate}
use Rattle.tables.proofs.SearchLaws.{searched, passed, failed, ended}
use Rattle.match_rows.proofs.FoundLaws.{found-at, found-none}
use Rattle.match_rows.proofs.cores.first_stray.Goals as goal

pub link_children-requires : goal.link_children-requires
link_children-requires c =
    let s = c.requires in
    record { n_bound = (s.compared.few, s.compared.l_columns); head_value = (refl, length-replicate {A = ℕ} 4096 0) }

pub loop-k-init : goal.loop-k-init
loop-k-init c = (searched zero-le, c.link_children.ensures, length-replicate {A = ℕ} 4096 0, λ i h. omega (arith, get_or-replicate {A = ℕ} 4096 i 0 0 h))

pub column_given-requires : goal.column_given-requires
column_given-requires c =
    let s = c.requires in
    let l = c.loop-k in
    record { compared = s.compared; k_in_bounds = c.loop-k-test.true; families = (l.invariant.1, l.invariant.2, l.invariant.3) }

pub returns-then-not-column_given : goal.returns-then-not-column_given
returns-then-not-column_given c = found-at _ _ _ _ (failed c.loop-k.invariant.0 c.loop-k-test.true c.column_given.ensures.value c.if-not-column_given.true) c.loop-k-test.true

pub loop-k-preserved : goal.loop-k-preserved
loop-k-preserved c =
    let l = c.loop-k in
    let e = c.column_given.ensures in
    (passed l.invariant.0 c.loop-k-test.true e.value c.if-not-column_given.false, l.invariant.1, e.seen_len.0, e.seen_len.1)

pub returns : goal.returns
returns c = found-none _ _ _ (omega (arith, ended c.loop-k.invariant.0 (omega arith)))
