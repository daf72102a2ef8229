-- `bits::cores::u32_at` meets its contract: what four bytes are worth. Assumes nothing.
use native.Mathlib.Omega.{arith}
use Rattle.bits.specs.Bytes.{u32_at}
use Rattle.bits.proofs.cores.u32_at.Goals as goal

pub returns : goal.returns
unfolding u32_at
returns c = omega (arith, c.from_le_bytes.ensures)
