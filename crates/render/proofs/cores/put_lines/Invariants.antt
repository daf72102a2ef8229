-- The loop of `render::cores::put_lines`: the lines passed are written. Assumes nothing.
use Rattle.std.specs.Prelude.{◌≡◌}
use Rattle.digits.specs.Digits.{Puts}
use Rattle.render.specs.Lines.{lines}
use Rattle.render.proofs.cores.put_lines.Given as goal

abbrev pub invariant-loop-k : goal.invariant-loop-k
invariant-loop-k l = (l.w.out.ghost_name ≡ l.initial.w.out.ghost_name) × Puts l.initial.w.at (lines l.x l.marks l.k) l.initial.w.out.now l.w.at l.w.out.now
