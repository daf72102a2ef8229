-- `dense_ldlt::cores::ldlt_decompose_core` meets its contract: the state of the definition is `going` with the block and the d of the rows done. Where the loop is left early it is `stopped`, which no later row changes. Assumes nothing.
use Rattle.std.specs.Prelude.{◌≡◌, ◌+◌, ◌*◌, [], ◌∷◌, ◌++◌, length, take, set}
use mathlib.Core.Path.{refl, ◌∙◌, ap, sym}
use native.Mathlib.Nat.{le_trans}
use native.Mathlib.Numerals.{add-one}
use native.Mathlib.Omega.{arith}
use lib.Seq.{take-suc-set, take_all, length-take-le}
use borrow.Author.Rules.{rules}
use Rattle.scalar.specs.Loop.{steps}
use Rattle.scalar.proofs.Laws.{steps_next, steps_all, steps-stuck}
use Rattle.dense_pivots.specs.Pivots.{pivots_of}
use Rattle.dense_ldlt.specs.Ldlt.{ldlt, ldlt_row, finish}
use Rattle.dense_pivots.proofs.PivotLaws.{rank-grows, account-more, account-all}
use Rattle.dense_ldlt.proofs.RowLaws.{goes_on, stops}
use Rattle.dense_ldlt.proofs.cores.ldlt_decompose_core.Goals as goal

pub loop-j-init : goal.loop-j-init
unfolding pivots_of steps
loop-j-init c = (search rules, search rules, search rules, search rules, refl, refl)

pub returns-then-not-is_finite : goal.returns-then-not-is_finite
unfolding ldlt ldlt_row
returns-then-not-is_finite c =
    let x = c.args in
    let infinite = sym c.is_finite.ensures ∙ c.if-not-is_finite.true in
    let long : length c.divide_row-x.new.a ≡ x.n * x.n = omega (arith, c.divide_row-x.auto.a) in
    rw (c.blank.ensures, c.blank-then-not-is_finite.ensures, long, c.loop-j.invariant.2)
    (ap (finish x.n x.tol)
    (steps-stuck _ _ x.n _ _
    (steps_next _ _ _ _ _ c.loop-j.invariant.5
    (stops _ _ _ _ _ _ _ _ (rw c.loop-j.invariant.4) c.divide_row-x.ensures.a_after c.divide_row-x.ensures.value infinite))
    (λ k. refl) (omega arith)))

pub loop-j-preserved : goal.loop-j-preserved
loop-j-preserved c =
    let finite = sym c.is_finite.ensures ∙ c.if-not-is_finite.false in
    let before = c.loop-j.d in
    let j = c.loop-j.j in
    let more : take (j + 1) (set before j c.kept_of-kept.result) ≡ take j before ++ (c.kept_of-kept.result ∷ []) = rw add-one (take-suc-set before j _ (omega arith)) in (
      search rules,
      omega (arith, c.store.auto.m, c.divide_row-x.auto.a),
      search rules,
      rw c.counted-p.ensures (le_trans (rank-grows _ _) (omega arith)),
      rw (c.counted-p.ensures, c.loop-j.invariant.4, more) (account-more (take j before) j _ (length-take-le j before (omega arith))),
      rw more
          (steps_next _ _ _ _ _ c.loop-j.invariant.5
          (rw (c.store.ensures, c.kept_of-kept.ensures)
          (goes_on _ _ _ _ _ _ _ _ (rw c.loop-j.invariant.4) c.divide_row-x.ensures.a_after c.divide_row-x.ensures.value finite))),
    )

pub returns : goal.returns
unfolding ldlt
returns c =
    let x = c.args in
    let d = c.loop-j.d in
    let j = c.loop-j.j in
    let whole : take j d ≡ d = take_all j d (omega arith) in
    rw (c.recorded.ensures, c.clear_upper.ensures, account-all _ _ _ x.n (rw whole at c.loop-j.invariant.4) (search rules) (search rules))
    (ap (finish x.n x.tol) (steps_all _ _ x.n _ _ (rw whole at c.loop-j.invariant.5) (search rules) (search rules)))
