-- `scalar::is_tolerance` meets its contract: each way rewrites the definition with the test that led there. Assumes nothing.
use Rattle.scalar.proofs.is_tolerance.Goals as goal

pub returns-then-is_finite : goal.returns-then-is_finite
returns-then-is_finite c = rw (← c.is_finite.ensures, c.if-is_finite.true)

pub returns : goal.returns
returns c = rw (← c.is_finite.ensures, c.if-is_finite.false)
