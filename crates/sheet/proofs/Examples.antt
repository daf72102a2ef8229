-- Document 01's sheet of two blocks, 116 bytes: it passes, and its tables are those of the two-block system. By computation.
-- Assumes nothing.
use Rattle.std.specs.Prelude.{◌≡◌, ℕ, List, [], ◌∷◌, length}
use mathlib.Core.Path.{refl}
use lib.Ieee.{binary64, of_bits, lt}
use Rattle.scalar.specs.Scalar.{is_finite}
use Rattle.refusal.specs.Refusal.{accepted, done}
use Rattle.tables.specs.Search.{first_from, first, sum_from, sum}
use Rattle.tables.specs.Verdict.{column_of, dim_ok, row_ok, order_ok, block_area, perm_ok, late_ok, dims_check, rows_check, order_check, perm_check, late_check}
use Rattle.buckets.specs.Buckets.{before}
use Rattle.sheet_bytes.specs.Layout.{u32_at, u32s, f64s}
use Rattle.contents.specs.Contents.{column_fits, columns_check, start_at, starts_from, offset_fits, offsets_check}
use Rattle.sheet_check.specs.Sheet.{system_of, right_side_of, sheet_verdict}
use Rattle.sheet_check.specs.Outcome.{sheet_told}

abbrev pub two_blocks : List ℕ
two_blocks =
    -- n 2, m 3, tolerance 1e-12
    2 ∷ 0 ∷ 0 ∷ 0 ∷ 3 ∷ 0 ∷ 0 ∷ 0 ∷ 17 ∷ 234 ∷ 45 ∷ 129 ∷ 153 ∷ 151 ∷ 113 ∷ 61 ∷
    -- dimension 1, flag 0, twice
    1 ∷ 0 ∷ 0 ∷ 0 ∷ 0 ∷ 0 ∷ 0 ∷ 0 ∷ 1 ∷ 0 ∷ 0 ∷ 0 ∷ 0 ∷ 0 ∷ 0 ∷ 0 ∷
    -- permutation 0 1
    0 ∷ 0 ∷ 0 ∷ 0 ∷ 1 ∷ 0 ∷ 0 ∷ 0 ∷
    -- contents (0,0,76) (1,0,84) (1,1,92)
    0 ∷ 0 ∷ 0 ∷ 0 ∷ 0 ∷ 0 ∷ 0 ∷ 0 ∷ 76 ∷ 0 ∷ 0 ∷ 0 ∷ 1 ∷ 0 ∷ 0 ∷ 0 ∷ 0 ∷ 0 ∷ 0 ∷ 0 ∷ 84 ∷ 0 ∷ 0 ∷ 0 ∷ 1 ∷ 0 ∷ 0 ∷ 0 ∷ 1 ∷ 0 ∷ 0 ∷ 0 ∷ 92 ∷ 0 ∷ 0 ∷ 0 ∷
    -- bodies 4, 2, 5
    0 ∷ 0 ∷ 0 ∷ 0 ∷ 0 ∷ 0 ∷ 16 ∷ 64 ∷ 0 ∷ 0 ∷ 0 ∷ 0 ∷ 0 ∷ 0 ∷ 0 ∷ 64 ∷ 0 ∷ 0 ∷ 0 ∷ 0 ∷ 0 ∷ 0 ∷ 20 ∷ 64 ∷
    -- right side 8, 8
    0 ∷ 0 ∷ 0 ∷ 0 ∷ 0 ∷ 0 ∷ 32 ∷ 64 ∷ 0 ∷ 0 ∷ 0 ∷ 0 ∷ 0 ∷ 0 ∷ 32 ∷ 64 ∷ []

has-116 : length two_blocks ≡ 116
has-116 = refl

-- it is accepted, with 2 blocks, 3 stored, 3 values, 2 scalars
pub passes : sheet_verdict two_blocks ≡ done
unfolding sheet_verdict u32_at u32s first_from first sum_from sum column_of dim_ok row_ok order_ok block_area perm_ok late_ok dims_check rows_check order_check perm_check late_check before column_fits columns_check start_at starts_from offset_fits offsets_check is_finite lt of_bits
passes = refl

pub told-so : sheet_told two_blocks ≡ accepted (2 ∷ 3 ∷ 3 ∷ 2 ∷ []) (of_bits binary64 0x3d71_9799_812d_ea11 ∷ [])
unfolding sheet_verdict u32_at u32s first_from first sum_from sum column_of dim_ok row_ok order_ok block_area perm_ok late_ok dims_check rows_check order_check perm_check late_check before column_fits columns_check start_at starts_from offset_fits offsets_check is_finite lt of_bits
told-so = refl

-- its system: values 4, 2, 5
pub system-is : system_of two_blocks ≡ record { dims = 1 ∷ 1 ∷ []; starts = 0 ∷ 2 ∷ 3 ∷ []; rows = 0 ∷ 1 ∷ 1 ∷ []; values = of_bits binary64 0x4010_0000_0000_0000 ∷ of_bits binary64 0x4000_0000_0000_0000 ∷ of_bits binary64 0x4014_0000_0000_0000 ∷ []; perm = 0 ∷ 1 ∷ []; late = 0 ∷ 0 ∷ []; tol = of_bits binary64 0x3d71_9799_812d_ea11 }
unfolding u32_at u32s f64s first_from first sum_from sum column_of block_area start_at starts_from
system-is = refl

-- its right side: 8, 8
pub right_is : right_side_of two_blocks ≡ of_bits binary64 0x4020_0000_0000_0000 ∷ of_bits binary64 0x4020_0000_0000_0000 ∷ []
unfolding u32_at u32s f64s first_from first sum_from sum column_of block_area start_at starts_from before
right_is = refl
