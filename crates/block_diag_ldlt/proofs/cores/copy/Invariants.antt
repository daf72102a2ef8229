-- `block_diag_ldlt::cores::copy` meets its contract: the first t numbers are copied. Assumes nothing.
use Rattle.std.specs.Prelude.{◌≡◌, ◌≤◌, length, take}
use Rattle.block_diag_ldlt.proofs.cores.copy.Given as goal

abbrev pub invariant-loop-t : goal.invariant-loop-t
invariant-loop-t l = (l.t-end ≡ length l.a) × (l.t ≤ length l.a) × (length l.l ≡ length l.a) × (take l.t l.l ≡ take l.t l.a)
