-- `column_products::cores::copy` meets its contract: the first t numbers are copied. Assumes nothing.
use Rattle.std.specs.Prelude.{◌≡◌, ◌≤◌, length, take}
use Rattle.column_products.proofs.cores.copy.Given as goal

abbrev pub invariant-loop-t : goal.invariant-loop-t
invariant-loop-t l = (l.t-end ≡ length l.from) × (l.t ≤ length l.from) × (length l.to ≡ length l.from) × (take l.t l.to ≡ take l.t l.from)
