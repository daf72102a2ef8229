-- `vector_answers::float_is` meets its contract: it compares where there is a float. Assumes nothing.
use mathlib.Core.Path.{refl, sym, ◌∙◌}
use native.Mathlib.Omega.{arith}
use Rattle.vector_answers.proofs.float_is.Goals as goal

pub returns-then-floats-gt0 : goal.returns-then-floats-gt0
returns-then-floats-gt0 c = (λ h l. sym c.float.ensures ∙ c.same.ensures.only h, λ f. c.same.ensures.also (c.float.ensures ∙ f c.if-floats-gt0.true))

pub returns : goal.returns
returns c = (λ h l. absurd (omega arith), λ f. refl)
