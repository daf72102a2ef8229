-- `reach::cores::advance` meets its contract: the next mark is stale where it is 0 or a stamp holds it. Assumes nothing.
use Rattle.std.proofs.Common.{◌≡◌, true, false, sym, ◌∙◌}
use Rattle.reach.specs.Reach.{stale, next_of}
use Rattle.reach.proofs.Laws.{any_listed, stale-zero, stale-held}
use Rattle.reach.proofs.cores.advance.Goals as goal
use Rattle.reach.proofs.cores.advance.Goals.{then-next-eq0-via-then-next-eq0, then-next-eq0-via-else-next-eq0+then-contains}

-- the two ways to a stale mark
is-stale : (c : goal.After-slice_known-then-next-eq0-1) → stale c.args.stamp.now c.args.mark ≡ true
is-stale c =
    elim c.then-next-eq0.branch [
      | then-next-eq0-via-then-next-eq0 w ↦ stale-zero c.args.stamp.now c.args.mark w.if-next-eq0.true
      | then-next-eq0-via-else-next-eq0+then-contains w ↦ stale-held c.args.stamp.now c.args.mark w.if-next-eq0.false ∙ sym (any_listed (next_of c.args.mark) c.args.stamp.now) ∙ sym w.contains.ensures.value ∙ w.if-contains.true
    ]

pub returns-then-next-eq0-clause-value : goal.returns-then-next-eq0-clause-value
returns-then-next-eq0-clause-value c = rw (is-stale c)

pub returns-then-next-eq0-clause-stamp_after : goal.returns-then-next-eq0-clause-stamp_after
returns-then-next-eq0-clause-stamp_after c = rw (is-stale c) (c.fill.ensures.after (λ y h. h))

is-fresh : (c : goal.Else-contains) → stale c.args.stamp.now c.args.mark ≡ false
is-fresh c = stale-held c.args.stamp.now c.args.mark c.if-next-eq0.false ∙ sym (any_listed (next_of c.args.mark) c.args.stamp.now) ∙ sym c.contains.ensures.value ∙ c.if-contains.false

pub returns-clause-value : goal.returns-clause-value
returns-clause-value c = rw (is-fresh c)

pub returns-clause-stamp_after : goal.returns-clause-stamp_after
returns-clause-stamp_after c = rw (is-fresh c)
