-- Document 01's sheet of two blocks, from its 116 bytes to the three lines that `fit` prints: the tables, the plan, the numbers, the
-- solution and the marks, all by the written definitions. By computation. Assumes nothing.
use Rattle.std.specs.Prelude.{◌≡◌, ◌++◌}
use mathlib.Core.Path.{refl}
use lib.Ieee.{of_bits, to_bits, add, sub, mul, div, neg, lt, le, eq, is_nan}
use Rattle.scalar.specs.Loop.{steps}
use Rattle.scalar.specs.Scalar.{magnitude, is_finite, max, min}
use Rattle.graph.specs.Order.{moved}
use Rattle.graph.specs.Symbolic.{reach, climb, climbs, column, columns, rows}
use Rattle.buckets.specs.Buckets.{before}
use Rattle.tables.specs.Search.{first_from, first, sum_from, sum}
use Rattle.tables.specs.Verdict.{column_of, dim_ok, row_ok, order_ok, block_area, perm_ok, late_ok, dims_check, rows_check, order_check, perm_check, late_check}
use Rattle.order.specs.Order.{sizes_of}
use Rattle.scalars.specs.Scalars.{scalar_perm}
use Rattle.scalars.specs.Bodies.{place_of, transposed, permuted_body}
use Rattle.kernel_product.specs.Product.{sub_mat_diag_mat_t}
use Rattle.kernel_lower.specs.Lower.{lower_solve}
use Rattle.kernel_lower_transpose.specs.Transpose.{lower_transpose_solve}
use Rattle.kernel_diag.specs.Diag.{diag_solve}
use Rattle.kernel_vector.specs.Vector.{sub_mat_plus_vec}
use Rattle.kernel_vector_transpose.specs.VectorTranspose.{sub_mat_transpose_plus_vec}
use Rattle.kernel_right.specs.Right.{lower_right_solve}
use Rattle.kernel_right_transpose.specs.RightTranspose.{lower_transpose_rightsolve}
use Rattle.kernel_diag_right.specs.DiagRight.{diag_right_matsolve}
use Rattle.dense_solve.specs.Solve.{ldlt_solve}
use Rattle.dense_solve_right.specs.SolveRight.{ldlt_right_matsolve}
use Rattle.dense_rows.specs.Row.{divided_by, stored as stored_pivot, clear_upper}
use Rattle.dense_pivots.specs.Pivots.{counted, pivots_of}
use Rattle.dense_ldlt.specs.Ldlt.{ldlt, ldlt_row}
use Rattle.block_diag_ldlt.specs.Block.{block_ldlt}
use Rattle.machine.specs.System.{inverse_of, loaded}
use Rattle.machine.specs.Machine.{load, mat_product, product, products, sequence, settled_by, finish, stored, work_column, run_to}
use Rattle.solution.specs.Solution.{through, forward, solved_blocks, backward, permuted, unpermuted, solution}
use Rattle.marks.specs.Mark.{mark, marks_of, silent_of}
use Rattle.sheet_bytes.specs.Layout.{u32_at, u32s, f64s}
use Rattle.contents.specs.Contents.{column_fits, columns_check, start_at, starts_from, offset_fits, offsets_check}
use Rattle.sheet_check.specs.Sheet.{sheet_verdict}
use Rattle.digits.specs.Digits.{digits, places, bits_of}
use Rattle.render.specs.Lines.{scalar_line, lines}
use Rattle.render.proofs.Examples.{line0, line1, line2}
use Rattle.sheet.proofs.Examples.{two_blocks}
use Rattle.fit_answer.specs.Fit.{night_text, printed}

pub two-blocks : printed two_blocks ≡ line0 ++ line1 ++ line2
unfolding printed night_text of_bits to_bits add sub mul div neg lt le eq is_nan steps magnitude is_finite max min moved reach climb climbs column columns rows before first_from first sum_from sum column_of dim_ok row_ok order_ok block_area perm_ok late_ok dims_check rows_check order_check perm_check late_check sizes_of scalar_perm place_of transposed permuted_body sub_mat_diag_mat_t lower_solve lower_transpose_solve diag_solve sub_mat_plus_vec sub_mat_transpose_plus_vec lower_right_solve lower_transpose_rightsolve diag_right_matsolve ldlt_solve ldlt_right_matsolve divided_by stored_pivot clear_upper counted pivots_of ldlt ldlt_row block_ldlt inverse_of loaded load mat_product product products sequence settled_by finish stored work_column run_to through forward solved_blocks backward permuted unpermuted solution mark marks_of silent_of u32_at u32s f64s column_fits columns_check start_at starts_from offset_fits offsets_check sheet_verdict digits places bits_of scalar_line lines
two-blocks = refl
