-- `digits::cores::places` meets its contract: a search over the powers of ten. Assumes nothing.
use Rattle.std.specs.Prelude.{◌≡◌, ◌*◌, ◌^◌, ◌≤◌, leb}
use Rattle.tables.proofs.SearchLaws.{Searched}
use Rattle.digits.proofs.cores.places.Given as goal

abbrev pub invariant-loop-k : goal.invariant-loop-k
invariant-loop-k l = Searched (λ j. leb (10 ^ j) l.n) 1 20 l.k × (10 * l.unit ≡ 10 ^ l.k) × (1 ≤ l.unit)
