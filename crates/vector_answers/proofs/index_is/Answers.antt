-- `vector_answers::index_is` meets its contract: it compares where there are more than k. Assumes nothing.
use mathlib.Core.Path.{refl, sym, ◌∙◌}
use native.Mathlib.Omega.{arith}
use borrow.Author.Tests.{eqb-true, eq-eqb}
use Rattle.vector_answers.proofs.index_is.Goals as goal

pub returns-then-k-indices : goal.returns-then-k-indices
returns-then-k-indices c = (λ h l. sym c.count.ensures ∙ eqb-true _ _ h, λ f. eq-eqb _ _ (c.count.ensures ∙ f c.if-k-indices.true))

pub returns : goal.returns
returns c = (λ h l. absurd (omega arith), λ f. refl)
