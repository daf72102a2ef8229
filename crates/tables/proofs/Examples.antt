-- The verdicts on small tables, and document 01's tables at the limits, computed: each row is its definition worked out. Assumes nothing.
use Rattle.std.specs.Prelude.{◌≡◌, ℕ, List, [], ◌∷◌, replicate}
use mathlib.Core.Path.{refl}
use lib.Ieee.{Float, nan, binary64, of_bits, of_fields, lt}
use Rattle.scalar.specs.Scalar.{one, is_finite}
use Rattle.refusal.specs.Refusal.{Told, done, too_many_blocks, bad_dimension, bad_starts, too_many_stored, out_of_range, not_increasing, bad_value_count, bad_permutation, bad_late_flags, bad_tolerance}
use Rattle.refusal.specs.Check.{tolerance_check}
use Rattle.tables.specs.Search.{first, first_from, sum, sum_from}
use Rattle.tables.specs.Verdict.{dim_ok, rises_at, start_ok, column_of, row_ok, order_ok, block_area, perm_ok, late_ok, blocks_check, dims_check, starts_check, stored_check, rows_check, order_check, values_check, perm_check, late_check, system_verdict, factor_verdict, upper_verdict}

-- 1e-300, with its sign or without, and -0.0
abbrev minus : Float
minus = of_bits binary64 0x81a5_6e1f_c2f8_f359

abbrev minus_zero : Float
minus_zero = of_bits binary64 0x8000_0000_0000_0000

-- 4,096 blocks pass, 4,097 is 1; dimension 16 passes, 17 is 2; 65,536 stored pass, one more is 4; a tolerance of -0.0 passes,
-- one of -1e-300 is 10
pub limits :
    (blocks_check 4096 ∷ blocks_check 4097 ∷ dims_check (1 ∷ 16 ∷ []) ∷ dims_check (16 ∷ 17 ∷ []) ∷ dims_check (0 ∷ []) ∷ stored_check 65536 ∷ stored_check 65537 ∷ tolerance_check minus_zero ∷ tolerance_check minus ∷ [])
    ≡ (done ∷ too_many_blocks ∷ done ∷ bad_dimension 1 ∷ bad_dimension 0 ∷ done ∷ too_many_stored ∷ done ∷ bad_tolerance ∷ [])
unfolding blocks_check dims_check stored_check dim_ok first first_from is_finite lt of_bits of_fields
limits = refl

-- the verdict on a system whose values number `count`
abbrev on : (dims starts rows : List ℕ) → ℕ → (perm late : List ℕ) → Float → Told
on dims starts rows count perm late tol = system_verdict dims starts rows (replicate count nan) perm late tol

-- the sheet of document 01, a system without blocks, then one wrong place, or more, for each number
pub systems :
    (on (1 ∷ 1 ∷ []) (0 ∷ 2 ∷ 3 ∷ []) (0 ∷ 1 ∷ 1 ∷ []) 3 (0 ∷ 1 ∷ []) (0 ∷ 0 ∷ []) one
    ∷ on [] (0 ∷ []) [] 0 [] [] one
    ∷ on (1 ∷ 17 ∷ []) (0 ∷ 2 ∷ []) (0 ∷ 1 ∷ 1 ∷ []) 3 (0 ∷ 1 ∷ []) (0 ∷ 0 ∷ []) one
    ∷ on (1 ∷ 1 ∷ []) (0 ∷ 2 ∷ []) (0 ∷ 1 ∷ 1 ∷ []) 3 (0 ∷ 1 ∷ []) (0 ∷ 0 ∷ []) one
    ∷ on (1 ∷ 1 ∷ []) (0 ∷ 2 ∷ 3 ∷ 3 ∷ []) (0 ∷ 1 ∷ 1 ∷ []) 3 (0 ∷ 1 ∷ []) (0 ∷ 0 ∷ []) one
    ∷ on (1 ∷ 1 ∷ []) (0 ∷ 4 ∷ 3 ∷ []) (0 ∷ 1 ∷ 1 ∷ []) 3 (0 ∷ 1 ∷ []) (0 ∷ 0 ∷ []) one
    ∷ on (1 ∷ 1 ∷ []) (0 ∷ 2 ∷ 3 ∷ []) (0 ∷ 1 ∷ 0 ∷ []) 3 (0 ∷ 1 ∷ []) (0 ∷ 0 ∷ []) one
    ∷ on (1 ∷ 1 ∷ []) (0 ∷ 2 ∷ 3 ∷ []) (1 ∷ 1 ∷ 1 ∷ []) 3 (0 ∷ 1 ∷ []) (0 ∷ 0 ∷ []) one
    ∷ on (1 ∷ 2 ∷ []) (0 ∷ 2 ∷ 3 ∷ []) (0 ∷ 1 ∷ 1 ∷ []) 7 (0 ∷ 1 ∷ []) (0 ∷ 0 ∷ []) one
    ∷ on (1 ∷ 2 ∷ []) (0 ∷ 2 ∷ 3 ∷ []) (0 ∷ 1 ∷ 1 ∷ []) 6 (0 ∷ 1 ∷ []) (0 ∷ 0 ∷ []) one
    ∷ on (1 ∷ 1 ∷ []) (0 ∷ 2 ∷ 3 ∷ []) (0 ∷ 1 ∷ 1 ∷ []) 3 (1 ∷ 1 ∷ []) (0 ∷ 2 ∷ []) one
    ∷ on (1 ∷ 1 ∷ []) (0 ∷ 2 ∷ 3 ∷ []) (0 ∷ 1 ∷ 1 ∷ []) 3 (1 ∷ 0 ∷ []) (0 ∷ 0 ∷ 0 ∷ []) nan
    ∷ on (1 ∷ 1 ∷ []) (0 ∷ 2 ∷ 3 ∷ []) (0 ∷ 1 ∷ 1 ∷ []) 3 (1 ∷ 0 ∷ []) (1 ∷ 0 ∷ []) nan
    ∷ [])
    ≡ (done
    ∷ done
    ∷ bad_dimension 1
    ∷ bad_starts 2
    ∷ bad_starts 3
    ∷ bad_starts 2
    ∷ out_of_range 2
    ∷ not_increasing 1
    ∷ done
    ∷ bad_value_count
    ∷ bad_permutation 1
    ∷ bad_late_flags 2
    ∷ bad_tolerance
    ∷ [])
unfolding system_verdict blocks_check dims_check starts_check stored_check rows_check order_check values_check perm_check late_check dim_ok rises_at start_ok column_of row_ok order_ok block_area perm_ok late_ok first first_from sum sum_from is_finite lt of_bits of_fields
systems = refl

-- the sheet's factor, with its one block, and with a diagonal block; an upper pattern, which may have one, and a row past the last
pub others :
    (factor_verdict (1 ∷ 1 ∷ []) (0 ∷ 1 ∷ 1 ∷ []) (1 ∷ []) (one ∷ [])
    ∷ factor_verdict (1 ∷ 1 ∷ []) (0 ∷ 2 ∷ 2 ∷ []) (0 ∷ 1 ∷ []) (one ∷ one ∷ [])
    ∷ upper_verdict 2 (0 ∷ 0 ∷ 2 ∷ []) (0 ∷ 1 ∷ [])
    ∷ upper_verdict 2 (0 ∷ 0 ∷ 2 ∷ []) (0 ∷ 2 ∷ [])
    ∷ [])
    ≡ (done ∷ out_of_range 0 ∷ done ∷ out_of_range 1 ∷ [])
unfolding factor_verdict upper_verdict blocks_check dims_check starts_check rows_check order_check values_check dim_ok rises_at start_ok column_of row_ok order_ok block_area first first_from sum sum_from
others = refl
