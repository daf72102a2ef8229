-- `replay::fill` meets its contract: each place holds its float. Assumes nothing.
use Rattle.std.proofs.lemmas.Option.{get_or_from_slice_get}
use native.Mathlib.Omega.{arith}
use borrow.Author.Rules.{rules}
use Rattle.replay.specs.Words.{float_at}
use Rattle.replay.proofs.fill.Goals as goal

pub returns : goal.returns
returns c = λ k below. get_or_from_slice_get _ k _ _ (c.set_each.ensures.each (float_at c.args.w.now c.args.at) (λ j x inside gives. search rules) k (omega (arith, c.set_each.ensures.room)))
