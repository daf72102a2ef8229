-- `tiled_product::cores::tile` meets its contract: how far the entries of each column are. Assumes nothing.
use Rattle.std.specs.Prelude.{◌≡◌, ◌≤◌, length, ℕ, List, Float}
use Rattle.tiled_product.proofs.TileLaws.{After, Turning}
use Rattle.tiled_product.proofs.cores.tile.Given as goal

abbrev pub invariant-loop-t : goal.invariant-loop-t
invariant-loop-t g l =
    let f = g.P.Product.formula l.p in
    let far = λ (c : ℕ) (s : List Float). (length s ≡ g.row.N) × After f l.h l.y l.i c l.t g.row.N s in
    (l.t ≤ f.turns) × far l.j.c0 l.s0 × far l.j.c1 l.s1 × far l.j.c2 l.s2

abbrev pub invariant-loop-q : goal.invariant-loop-q
invariant-loop-q g l =
    let f = g.P.Product.formula l.p in
    let far = λ (c : ℕ) (s : List Float). (length s ≡ g.row.N) × Turning f l.h l.y l.i c l.t l.q g.row.N s in
    (l.q ≤ g.row.N) × far l.j.c0 l.s0 × far l.j.c1 l.s1 × far l.j.c2 l.s2
