-- `plan_core::cores::planned_core` meets its contract: the need that the analysis shows, then the outputs; zeros in scratch either way. Assumes nothing.
use Rattle.std.specs.Prelude.{◌≡◌, ℕ, ◌+◌, ◌≤◌, List, [], ◌∷◌, ◌++◌, take, drop}
use mathlib.Core.Path.{refl, ap, ◌∙◌}
use native.Mathlib.Omega.{arith}
use lib.Seq.{length-take-le}
use Rattle.refusal.specs.Refusal.{accepted, short_buffer}
use Rattle.plan_core.proofs.Laws.{row-table-short, planned, cleared_all, same_again, store_asks, starts-told, rows_told}
use Rattle.plan_core.proofs.cores.planned_core.Goals as goal

-- the same counts, told
told_same : {s n p s' n' p' : ℕ} → s ≡ s' → n ≡ n' → p ≡ p' → accepted (s ∷ n ∷ p ∷ []) [] ≡ accepted (s' ∷ n' ∷ p' ∷ []) []
told_same e f g = cc

-- the rows before what stood beyond them
front-told : {m n : ℕ} {new : List ℕ} (ys xs : List ℕ) → m ≡ n → ys ≡ new → ys ++ drop m xs ≡ new ++ drop n xs
front-told ys xs e f = cc

-- the first places of a buffer that has one place more
one_more : {k m n : ℕ} → k ≡ m → m ≡ n + 1 → n ≤ k
one_more e f = omega arith

-- L's row table is too short
pub returns-then-o-need-clause-plans : goal.returns-then-o-need-clause-plans
returns-then-o-need-clause-plans c =
    let found = c.analyze-found in
    let zero = c.clear_plan in
    let need = found.ensures.ready.analyzed.stored in
    row-table-short _ _ _ _ c.requires.exact (cleared_all _ c.args.o.now c.requires.exact found.ensures.same zero.ensures.cleared) (omega (arith, need)) (ap (short_buffer 3) need) refl refl refl refl

pub store-requires-clause-tree : goal.store-requires-clause-tree
store-requires-clause-tree c =
    let x = c.requires.exact in
    let found = c.analyze-found in
    let w = found.new.w in
    let same = found.ensures.same in
    (store_asks _ w.count.now w.heads.now w.into.now w.upper.now found.result found.ensures.ready c.requires.plan_sound.blocks (one_more same.heads.1 x.heads)
    w.stamps.now w.inverse.now c.args.o.now.l_starts.now (take found.result.counts.stored c.args.o.now.l_rows.now) (same.stamps.1 ∙ x.stamps) (same.inverse.1 ∙ x.inverse) x.l_starts
    (length-take-le found.result.counts.stored c.args.o.now.l_rows.now (omega arith))).0

pub store-requires-clause-l_rows_len : goal.store-requires-clause-l_rows_len
store-requires-clause-l_rows_len c =
    let x = c.requires.exact in
    let found = c.analyze-found in
    let w = found.new.w in
    let same = found.ensures.same in
    (store_asks _ w.count.now w.heads.now w.into.now w.upper.now found.result found.ensures.ready c.requires.plan_sound.blocks (one_more same.heads.1 x.heads)
    w.stamps.now w.inverse.now c.args.o.now.l_starts.now (take found.result.counts.stored c.args.o.now.l_rows.now) (same.stamps.1 ∙ x.stamps) (same.inverse.1 ∙ x.inverse) x.l_starts
    (length-take-le found.result.counts.stored c.args.o.now.l_rows.now (omega arith))).2

pub returns-clause-scratch : goal.returns-clause-scratch
returns-clause-scratch c =
    same_again (same_again c.analyze-found.ensures.same (record {
      inverse = (refl, c.store.auto.out);
      sizes = (refl, refl);
      count = (refl, c.store.auto.count);
      heads = (refl, refl);
      into = (refl, refl);
      stamps = (refl, c.store.auto.stamps);
      table = (refl, refl);
      upper = (refl, refl);
    })) c.clear_plan-2.ensures.same

-- the plan
pub returns-clause-plans : goal.returns-clause-plans
returns-clause-plans c =
    let x = c.requires.exact in
    let found = c.analyze-found in
    let w = found.new.w in
    let store = c.store in
    let few = c.requires.plan_sound.blocks in
    let ready = found.ensures.ready in
    let room = one_more found.ensures.same.heads.1 x.heads in
    planned _ _ _ _ x
    (cleared_all _ c.args.o.now x (same_again found.ensures.same (record {
      inverse = (refl, c.store.auto.out);
      sizes = (refl, refl);
      count = (refl, c.store.auto.count);
      heads = (refl, refl);
      into = (refl, refl);
      stamps = (refl, c.store.auto.stamps);
      table = (refl, refl);
      upper = (refl, refl);
    })) c.clear_plan-2.ensures.cleared)
    (omega (arith, ready.analyzed.stored))
    (told_same ready.analyzed.stored ready.analyzed.numbers ready.analyzed.products)
    c.move_late.ensures
    (c.copy.ensures ∙ (ap (λ (m : ℕ). take m w.heads.now) x.parents ∙ ready.analyzed.parents))
    (starts-told _ w.count.now w.heads.now w.into.now w.upper.now found.result ready few room store.new.l_starts store.ensures.l_starts_after)
    (front-told store.new.l_rows c.args.o.now.l_rows.now ready.analyzed.stored (rows_told _ w.count.now w.heads.now w.into.now w.upper.now found.result ready few room store.new.l_rows store.ensures.l_rows_after))
    few
