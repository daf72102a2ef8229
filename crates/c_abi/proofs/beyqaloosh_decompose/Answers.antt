-- `c_abi::beyqaloosh_decompose` meets its contract: the number of what the call answers. Assumes nothing.
use mathlib.Core.Path.{ap, ◌∙◌}
use Rattle.block_diag_ldlt.proofs.VerdictLaws.{number-told}
use Rattle.c_abi.specs.Number.{numbered}
use Rattle.c_abi.proofs.beyqaloosh_decompose.Goals as goal

pub returns : goal.returns
returns c = rw (c.number_of.ensures ∙ number-told c.decompose.result) (ap numbered c.decompose.ensures)
