-- `block_diag_ldlt::cores::decompose_core` meets its contract: what the decomposition of the copy answers is settled case by case. Assumes nothing.
use Rattle.std.specs.Prelude.{◌≡◌, ◌*◌, length}
use mathlib.Core.Path.{ap, sym, ◌∙◌}
use native.Mathlib.Omega.{arith}
use borrow.Author.Rules.{rules}
use Rattle.block_diag_ldlt.specs.Block.{settle, block_ldlt}
use Rattle.block_diag_ldlt.proofs.VerdictLaws.{err-is}
use Rattle.block_diag_ldlt.proofs.cores.decompose_core.Goals as goal

pub returns-then-is_poor : goal.returns-then-is_poor
unfolding block_ldlt
returns-then-is_poor c =
    let x = c.args in
    let copied : c.copy.new.l ≡ x.a.now = search rules in
    let is-poor = sym c.is_poor.ensures ∙ c.if-is_poor.true in
    let settled = ap (settle x.n) (rw c.in_ok-k.was at c.ldlt_decompose_core.ensures) in
    let factor : length c.ldlt_decompose_core.new.a ≡ x.n * x.n = omega (arith, c.ldlt_decompose_core.auto.a, c.copy.auto.l) in
    let diagonal : length c.ldlt_decompose_core.new.d ≡ x.n = omega (arith, c.ldlt_decompose_core.auto.d) in
    rw (c.blank.ensures, c.blank-then-is_poor.ensures, factor, diagonal, ← copied)
    (rw is-poor at settled)

pub returns : goal.returns
unfolding block_ldlt
returns c =
    let x = c.args in
    let copied : c.copy.new.l ≡ x.a.now = search rules in
    let fine = sym c.is_poor.ensures ∙ c.if-is_poor.false in
    rw (← copied)
    (rw fine at (ap (settle x.n) (rw c.in_ok-k.was at c.ldlt_decompose_core.ensures)))

pub returns-in_err-k : goal.returns-in_err-k
unfolding block_ldlt
returns-in_err-k c =
    let x = c.args in
    let copied : c.copy.new.l ≡ x.a.now = search rules in
    rw (err-is _ _ c.from_residual.ensures.1, ← copied)
    (ap (settle x.n) (rw c.in_err-k.was at c.ldlt_decompose_core.ensures))
