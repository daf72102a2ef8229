-- `match_rows::cores::row_given` meets its contract. Assumes nothing.
use borrow.Author.Tests.{eq-eqb, ne_eqb}
use Rattle.tables.specs.Verdict.{at}
use Rattle.match_rows.proofs.cores.row_given.Goals as goal

pub returns-then-seen-i : goal.returns-then-seen-i
returns-then-seen-i c =
    let s = c.args in
    let e = c.if-seen-i.true in
    rw (eq-eqb (at s.seen.now (at s.l_rows.now s.u)) s.v e)

pub linked-requires : goal.linked-requires
linked-requires c =
    let s = c.requires in
    record { columns = s.columns; i_in_bounds = (s.order_len_bound.3, s.order_len_bound.1) }

pub returns : goal.returns
returns c =
    let s = c.args in
    let e = c.if-seen-i.false in
    rw (ne_eqb (at s.seen.now (at s.l_rows.now s.u)) s.v e) c.linked.ensures
