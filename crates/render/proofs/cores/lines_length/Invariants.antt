-- `render::cores::lines_length` meets its contract: a sum, one turn a line. Assumes nothing.
use Rattle.std.specs.Prelude.{◌≡◌, ◌*◌, ◌≤◌, length}
use Rattle.render.specs.Lines.{lines}
use Rattle.render.proofs.cores.lines_length.Given as goal

abbrev pub invariant-loop-k : goal.invariant-loop-k
invariant-loop-k l = (l.k ≤ length l.x) × (l.sum ≡ length (lines l.x l.marks l.k)) × (l.sum ≤ 45 * l.k)
