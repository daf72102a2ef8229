-- `render::cores::first_length` meets its contract: the digits of five numbers, and all else is fixed. Assumes nothing.
use native.Mathlib.Omega.{arith}
use Rattle.render.proofs.Laws.{length-first}
use Rattle.render.proofs.cores.first_length.Goals as goal

pub returns : goal.returns
returns c =
    let x = c.args in
    (omega (arith, c.places.ensures.0, c.places-2.ensures.0, c.places-3.ensures.0, c.places-4.ensures.0, c.places-5.ensures.0, length-first x.blocks x.scalars x.stored x.products x.silent), omega (arith, c.places.ensures.1, c.places-2.ensures.1, c.places-3.ensures.1, c.places-4.ensures.1, c.places-5.ensures.1))
