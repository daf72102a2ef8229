-- `replay::word` meets its contract: within the words it reads eight bytes, past them 0. Assumes nothing.
use mathlib.Core.Path.{refl}
use borrow.Author.Tests.{lt-ltb, le-ltb}
use Rattle.replay.specs.Words.{word_at}
use Rattle.replay.proofs.word.Goals as goal

pub returns-then-at-w : goal.returns-then-at-w
unfolding word_at
returns-then-at-w c = rw (lt-ltb _ _ c.if-at-w.true) c.u64_at.ensures

pub returns-else-at-w : goal.returns-else-at-w
unfolding word_at
returns-else-at-w c = rw (le-ltb _ _ c.if-at-w.false) refl
