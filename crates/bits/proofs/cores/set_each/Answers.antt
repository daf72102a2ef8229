-- `bits::cores::set_each` meets its contract: a turn sets one place. Assumes nothing.
use Rattle.std.specs.Prelude.{◌≡◌, slice_get, slice_set, Some}
use mathlib.Core.Path.{◌∙◌, ap}
use native.Mathlib.Omega.{arith}
use borrow.Author.Count.{below_more}
use borrow.Author.Rules.{rules}
use Rattle.bits.proofs.Laws.{set_here, set_there}
use Rattle.bits.proofs.cores.set_each.Goals as goal

pub loop-k-preserved : goal.loop-k-preserved
loop-k-preserved g c =
    let l = c.loop-k in (
      search rules,
      λ f h. below_more (λ j. slice_get (slice_set l.out l.k c.value.result) j ≡ Some (f j)) l.k
          (λ j below. set_there l.out l.k c.value.result j (f j) below (omega arith) (l.invariant.1 f h j below))
          (set_here l.out l.k c.value.result (omega arith) ∙ ap Some (h l.k c.value.result (omega arith) c.value.ensures)),
    )

pub returns-clause-each : goal.returns-clause-each
returns-clause-each g c = λ f h k below. c.loop-k.invariant.1 f h k (omega arith)
