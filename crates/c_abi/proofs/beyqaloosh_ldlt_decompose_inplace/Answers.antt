-- `c_abi::beyqaloosh_ldlt_decompose_inplace` meets its contract: the number of what the call answers. Assumes nothing.
use mathlib.Core.Path.{ap, ◌∙◌}
use Rattle.dense_ldlt.proofs.VerdictLaws.{number-told}
use Rattle.c_abi.specs.Number.{numbered}
use Rattle.c_abi.proofs.beyqaloosh_ldlt_decompose_inplace.Goals as goal

pub returns : goal.returns
returns c = rw (c.number_of.ensures ∙ number-told c.ldlt_decompose_inplace.result) (ap numbered c.ldlt_decompose_inplace.ensures)
