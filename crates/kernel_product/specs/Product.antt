-- Y ∓ A diag(d) Bᵀ: kernel.rs. Assumes nothing.
use Rattle.std.specs.Prelude.{ℕ, List, [], ◌∷◌, slice_index_or}
use Rattle.std.specs.Prelude.{Float}
use Rattle.std.specs.Float.{nan, binary64}
use Rattle.std.specs.Float.Ieee.{mul}
use Rattle.scalar.specs.Loop.{steps}
use Rattle.scalar.specs.Block.{at, put, lose, gain}
use Rattle.refusal.specs.Refusal.{Told, verdict}
use Rattle.refusal.specs.Check.{size_check, area_check}

-- ---- Y ∓ A diag(d) Bᵀ, Y of m rows and n columns, A of m rows and k columns, B of n rows and k columns

-- what y(i, j) becomes by a(i, t) and s: `lose` or `gain`
abbrev pub Change : Type 0
Change = Float → Float → Float → Float

abbrev pub change_entry : Change → ℕ → List Float → ℕ → Float → ℕ → ℕ → List Float → List Float
change_entry f m a t s j i y = put y m i j (f (at y m i j) (at a m i t) s)

-- column j of Y is changed by column t of A times b(j, t) * d(t)
abbrev pub change_column : Change → ℕ → ℕ → List Float → List Float → List Float → ℕ → ℕ → List Float → List Float
change_column f m n a d b t j y = steps (change_entry f m a t (mul binary64 (at b n j t) (slice_index_or d t nan)) j) m y

-- t below k, then j below n, then i below m
abbrev pub changed : Change → ℕ → ℕ → ℕ → List Float → List Float → List Float → List Float → List Float
changed f m n k y a d b = steps (λ t. steps (change_column f m n a d b t) n) k y

unfoldable pub sub_mat_diag_mat_t : ℕ → ℕ → ℕ → List Float → List Float → List Float → List Float → List Float
sub_mat_diag_mat_t = changed lose

unfoldable pub add_mat_diag_mat_t : ℕ → ℕ → ℕ → List Float → List Float → List Float → List Float → List Float
add_mat_diag_mat_t = changed gain

-- ---- what is refused, by the sizes and by how many numbers each slice has

unfoldable pub product_verdict : ℕ → ℕ → ℕ → (y a d b : ℕ) → Told
product_verdict m n k y a d b =
    verdict (size_check 0 0 m ∷ size_check 0 1 n ∷ size_check 0 2 k ∷ area_check 0 m n y ∷ area_check 1 m k a ∷ area_check 2 k 1 d ∷ area_check 3 n k b ∷ [])
