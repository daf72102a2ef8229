-- `dense_ldlt::cores::ldlt_decompose_core` meets its contract: the state of the definition is `going` with the block and the d of the rows done. Where the loop is left early it is `stopped`, which no later row changes. Assumes nothing.
use Rattle.std.specs.Prelude.{◌≡◌, ◌*◌, ◌≤◌, [], length, take}
use Rattle.scalar.specs.Loop.{steps}
use Rattle.dense_pivots.specs.Pivots.{pivots_of}
use Rattle.dense_ldlt.specs.Ldlt.{ldlt_row, going}
use Rattle.dense_ldlt.proofs.cores.ldlt_decompose_core.Given as goal

abbrev pub invariant-loop-j : goal.invariant-loop-j
invariant-loop-j l =
    (l.j ≤ l.n) × (length l.a ≡ l.n * l.n) × (length l.d ≡ l.n) × (l.p.rank ≤ l.j) × (l.p ≡ pivots_of (take l.j l.d) l.j)
    × (going l.a (take l.j l.d) ≡ steps (ldlt_row l.n l.tol) l.j (going l.initial.a []))
