-- Every row of the table of nights holds: both sides compute to the same. Assumes nothing.
use mathlib.Core.Path.{refl}
use native.Mathlib.Omega.{arith}
use lib.Ieee.{of_bits, neg, mul, div, lt, eq, le, is_nan}
use Rattle.scalar.specs.Loop.{steps}
use Rattle.scalar.specs.Scalar.{magnitude, is_finite, max, min}
use Rattle.dense_rows.specs.Row.{divided_by, stored, clear_upper}
use Rattle.dense_pivots.specs.Pivots.{counted, pivots_of}
use Rattle.dense_ldlt.specs.Ldlt.{ldlt, ldlt_row}
use Rattle.dense_ldlt.specs.Decompose as dense
use Rattle.block_diag_ldlt.specs.Block as block
use Rattle.graph.specs.Symbolic.{climb, climbs, reach, column, columns, rows}
use Rattle.graph.specs.Count.{column_triples, triples}
use Rattle.graph.specs.Liu as liu
use Rattle.graph.specs.Order.{moved}
use Rattle.graph.proofs.BoundLaws.{triples-most}
use Rattle.nights.specs.Nights.{Hold, nights, MostOfFour}

pub claim : Hold nights × MostOfFour
unfolding moved liu.walk liu.walks liu.forest liu.tree_parent climb climbs reach column columns rows column_triples triples of_bits neg mul div lt eq le is_nan steps magnitude is_finite max min divided_by stored clear_upper counted pivots_of ldlt ldlt_row dense.decompose_verdict dense.decomposed block.decompose_verdict block.block_ldlt block.decomposed
claim = ((refl, (refl, (refl, (refl, (refl, (refl, (refl, (refl, (refl, (refl, tt)))))))))), λ linked symm. let h = triples-most linked 4 symm in omega arith)
