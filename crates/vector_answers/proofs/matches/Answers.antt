-- `vector_answers::matches` meets its contract: each part is compared where it stands. Assumes nothing.
use mathlib.Core.Bool.{Bool, true, false}
use mathlib.Core.Path.{◌≡◌, sym, ◌∙◌, ap}
use Prim.Native.Nat.{ℕ}
use Rattle.replay.specs.Words.{word_at, word_float, onward}
use Rattle.replay.proofs.Laws.{never}
use Rattle.vector_answers.proofs.matches.Goals as goal

-- a test that failed and a fact by which it passes
clash : (b : Bool) → b ≡ false → b ≡ true → false ≡ true
clash b h e = sym h ∙ e

pub returns-then-count-t : goal.returns-then-count-t
returns-then-count-t c = (λ z. never z, λ f. absurd (c.if-count-t.true (c.count.ensures ∙ f.number)))

pub returns-then-count-t-2 : goal.returns-then-count-t-2
returns-then-count-t-2 c = (λ z. never z, λ f. absurd (c.if-count-t-2.true (c.count-2.ensures ∙ ap (word_at _) c.on.ensures ∙ f.indices)))

pub returns-then-not-index_is : goal.returns-then-not-index_is
returns-then-not-index_is c = (λ z. never z, λ f. clash _ c.if-not-index_is.true (c.index_is.ensures.1 (λ l. ap (word_at _) c.on-2.ensures ∙ f.first l)))

pub returns-then-not-index_is-2 : goal.returns-then-not-index_is-2
returns-then-not-index_is-2 c = (λ z. never z, λ f. clash _ c.if-not-index_is-2.true (c.index_is-2.ensures.1 (λ l. ap (word_at _) c.on-3.ensures ∙ f.second l)))

pub returns-then-count-t-3 : goal.returns-then-count-t-3
returns-then-count-t-3 c =
    (λ z. never z, λ f. absurd (c.if-count-t-3.true (c.count-3.ensures ∙ ap (word_at _) (c.on-floats.ensures ∙ ap (onward _) c.on-4.ensures) ∙ f.floats)))

pub returns : goal.returns
returns c =
    let x = c.args in
    let s = x.w.now in
    let place : c.on-floats.result ≡ onward x.at (onward 2 x.t.indices) = c.on-floats.ensures ∙ ap (onward x.at) c.on-4.ensures in (
      λ h. record {
        number = sym c.count.ensures ∙ c.if-count-t.false;
        indices = ap (word_at s) (sym c.on.ensures) ∙ sym c.count-2.ensures ∙ c.if-count-t-2.false;
        first = λ l. ap (word_at s) (sym c.on-2.ensures) ∙ c.index_is.ensures.0 (c.if-not-index_is.false) l;
        second = λ l. ap (word_at s) (sym c.on-3.ensures) ∙ c.index_is-2.ensures.0 (c.if-not-index_is-2.false) l;
        floats = ap (word_at s) (sym place) ∙ sym c.count-3.ensures ∙ c.if-count-t-3.false;
        float = λ l. ap (word_float s) (sym (c.on-5.ensures ∙ ap (λ (p : ℕ). onward p 1) place)) ∙ c.float_is.ensures.0 h l;
      },
      λ f. c.float_is.ensures.1 (λ l. ap (word_float s) (c.on-5.ensures ∙ ap (λ (p : ℕ). onward p 1) place) ∙ f.float l),
    )
