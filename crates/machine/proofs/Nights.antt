-- Document 01's nights by hand, of the machine. The counts follow from the theorem on all nights; the rest computes. Assumes nothing.
use Prim.Native.Nat.{ℕ}
use mathlib.Core.List.{[]}
use mathlib.Core.Path.{◌≡◌, refl, ap, ◌∙◌}
use lib.ListN.{length}
use lib.Ieee.{of_bits, add, sub, mul, div, neg, lt, le, eq, is_nan}
use Rattle.scalar.specs.Loop.{steps}
use Rattle.scalar.specs.Scalar.{nought, magnitude, is_finite, max, min}
use Rattle.graph.specs.Order.{moved}
use Rattle.graph.specs.Symbolic.{reach, climb, climbs, column, columns, rows}
use Rattle.graph.specs.Count.{column_triples, triples}
use Rattle.tables.specs.Search.{first_from, first, sum_from, sum}
use Rattle.tables.specs.Verdict.{column_of, block_area}
use Rattle.order.specs.Order.{sizes_of}
use Rattle.scalars.specs.Bodies.{place_of, transposed, permuted_body}
use Rattle.kernel_product.specs.Product.{sub_mat_diag_mat_t}
use Rattle.kernel_right.specs.Right.{lower_right_solve}
use Rattle.kernel_right_transpose.specs.RightTranspose.{lower_transpose_rightsolve}
use Rattle.kernel_diag_right.specs.DiagRight.{diag_right_matsolve}
use Rattle.dense_solve_right.specs.SolveRight.{ldlt_right_matsolve}
use Rattle.dense_rows.specs.Row.{divided_by, stored as stored_pivot, clear_upper}
use Rattle.dense_pivots.specs.Pivots.{counted, pivots_of}
use Rattle.dense_ldlt.specs.Ldlt.{ldlt, ldlt_row}
use Rattle.block_diag_ldlt.specs.Block.{block_ldlt}
use Rattle.machine.specs.System.{links, inverse_of, loaded}
use Rattle.machine.specs.Machine.{load, mat_product, product, products, sequence, settled_by, finish, stored, work_column, run_to}
use Rattle.machine.specs.Nights.{AllCount, patterns, system, Hold, Turned}
use Rattle.machine.specs.Nights as nights
use Rattle.machine.proofs.RunLaws.{run_triples}

pub counts : AllCount patterns
unfolding moved climb climbs reach column columns rows column_triples triples
counts = (one nights.p1 refl, (one nights.p2 refl, (one nights.p3 refl, (one nights.p4 refl, (one nights.p5 refl, (one nights.p6 refl, tt))))))
  where
    -- the count of the theory for a pattern is that of the machine
    one : (p : nights.Pattern) → length (triples (links (system p [] [] nought)) (length p.perm)) ≡ p.products → nights.Counts p
    one p e = λ dims values tol s l accepted. ap length (run_triples (system p dims values tol) s accepted) ∙ ap (λ (n : ℕ). length (triples (links (system p [] [] nought)) n)) l ∙ e

-- how each of these runs is told, its triples, L and d
pub hold : Hold nights.rows
unfolding of_bits add sub mul div neg lt le eq is_nan steps magnitude is_finite max min moved reach climb climbs first_from first sum_from sum column_of block_area sizes_of place_of transposed permuted_body sub_mat_diag_mat_t lower_right_solve lower_transpose_rightsolve diag_right_matsolve ldlt_right_matsolve divided_by stored_pivot clear_upper counted pivots_of ldlt ldlt_row block_ldlt inverse_of loaded load mat_product product products sequence settled_by finish stored work_column run_to
hold = (refl, (refl, (refl, (refl, (refl, (refl, (refl, (refl, tt))))))))

pub turned : Turned
unfolding of_bits add first_from first sum_from sum column_of block_area moved place_of transposed permuted_body inverse_of loaded
turned = refl
