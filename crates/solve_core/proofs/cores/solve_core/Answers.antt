-- `solve_core::cores::solve_core` meets its contract: the tables, the right side by new number, the three parts, the solution back (`solves`),
-- and all scratch cleared. Assumes nothing.
use mathlib.Core.Path.{sym, ◌∙◌}
use Rattle.solve_core.proofs.CoreLaws.{permutes-all, perm-long, laid, solves}
use Rattle.solve_core.proofs.cores.solve_core.Goals as goal

pub permute-requires : goal.permute-requires
permute-requires c =
    let x = c.args in
    let f = x.f.now in
    let b = c.solve_tables in
    let l = perm-long x.dims.now f.order.now c.requires.solvable.permutes b.new.perm b.ensures.0 in
    (permutes-all x.dims.now f.order.now c.requires.solvable.permutes b.new.perm b.ensures.0, c.requires.solve_room.of_x ∙ sym l, c.requires.solve_room.of_y ∙ sym l)

pub substitute-requires-clause-laid : goal.substitute-requires-clause-laid
substitute-requires-clause-laid c =
    let b = c.solve_tables in
    let both = laid c.requires.solvable b.new.sizes b.new.starts _ b.ensures.1 b.ensures.2 (c.permute.auto.y ∙ c.requires.solve_room.of_y) in
    record { rows = both.0.0; blocks = both.0.1 }

pub substitute-requires-clause-starts_value : goal.substitute-requires-clause-starts_value
substitute-requires-clause-starts_value c =
    let b = c.solve_tables in
    (laid c.requires.solvable b.new.sizes b.new.starts _ b.ensures.1 b.ensures.2 (c.permute.auto.y ∙ c.requires.solve_room.of_y)).1

pub unpermute-requires : goal.unpermute-requires
unpermute-requires c =
    let x = c.args in
    let f = x.f.now in
    let b = c.solve_tables in
    let l = perm-long x.dims.now f.order.now c.requires.solvable.permutes b.new.perm b.ensures.0 in (
      permutes-all x.dims.now f.order.now c.requires.solvable.permutes b.new.perm b.ensures.0,
      c.substitute.auto.y ∙ c.permute.auto.y ∙ c.requires.solve_room.of_y ∙ sym l,
      c.requires.solve_room.of_x ∙ sym l,
    )

pub returns-clause-solved_by : goal.returns-clause-solved_by
returns-clause-solved_by c =
    let x = c.args in
    let f = x.f.now in
    let b = c.solve_tables in
    let p = c.permute in
    let q = c.substitute in
    solves c.requires.solvable f.l_values.now f.diag.now f.d.now x.x.now p.new.y q.new.y b.new.sizes b.new.starts b.new.perm _
    b.ensures.1 b.ensures.2 b.ensures.0 p.ensures q.ensures (q.auto.y ∙ p.auto.y ∙ c.requires.solve_room.of_y) c.unpermute.ensures
