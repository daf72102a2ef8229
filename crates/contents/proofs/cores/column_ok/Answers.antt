-- `contents::cores::column_ok` meets its contract: the code's tests are the definition's. Assumes nothing.
use borrow.Author.Tests.{lt-ltb, le-ltb, eq-eqb, ne_eqb}
use Rattle.contents.specs.Contents.{column_fits}
use Rattle.contents.proofs.cores.column_ok.Goals as goal

pub returns-then-n-x : goal.returns-then-n-x
unfolding column_fits
returns-then-n-x c = rw (le-ltb _ _ c.if-n-x.true)

pub returns-then-p-eq0 : goal.returns-then-p-eq0
unfolding column_fits
returns-then-p-eq0 c = rw (lt-ltb _ _ c.if-n-x.false, eq-eqb _ _ c.if-p-eq0.true)

pub returns : goal.returns
unfolding column_fits
returns c = rw (lt-ltb _ _ c.if-n-x.false, ne_eqb _ _ c.if-p-eq0.false)
