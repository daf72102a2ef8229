-- `digits::cores::spell` meets its contract: what is written with what is left to write is the whole. Assumes nothing.
use Rattle.std.specs.Prelude.{◌≡◌, length}
use Rattle.digits.proofs.Laws.{spelt}
use Rattle.digits.proofs.cores.spell.Given as goal

abbrev pub invariant-loop-i : goal.invariant-loop-i
invariant-loop-i l = (length l.out ≡ length l.initial.out) × (spelt l.base l.out l.i l.rest ≡ spelt l.base l.initial.out (length l.initial.out) l.n)
