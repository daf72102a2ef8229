-- The bodies of A's stored blocks, and what becomes of each under new numbers: one that lands above the diagonal is transposed.
-- A's values are never copied into a permuted matrix. Assumes nothing.
use Rattle.std.specs.Prelude.{ℕ, ◌+◌, Bool, cond, not, List, map, length, take, drop, ◌==◌, nat_lt}
use Rattle.std.specs.Prelude.{Float}
use Rattle.graph.specs.Sets.{from, gather}
use Rattle.scalar.specs.Block as block
use Rattle.tables.specs.Search.{first, sum}
use Rattle.tables.specs.Verdict.{at, column_of, area_at}

-- ---- where they lie

-- the place in A's values where the body of the stored block p begins: the areas before it
abbrev pub offset_at : (dims starts rows : List ℕ) → ℕ → ℕ
offset_at dims starts rows p = sum (area_at dims starts rows) 0 p

-- those of all stored blocks, and behind the last the number of values
unfoldable pub offsets : (dims starts rows : List ℕ) → List ℕ
offsets dims starts rows = map {A = ℕ} {B = ℕ} (offset_at dims starts rows) (from 0 (length rows + 1))

-- the body of the stored block p
abbrev pub body_at : (dims starts rows : List ℕ) → (values : List Float) → ℕ → List Float
body_at dims starts rows values p = take (area_at dims starts rows p) (drop (offset_at dims starts rows p) values)

-- the place of the block (row, column), by old numbers: the first of its column that holds the row
unfoldable pub place_of : (starts rows : List ℕ) → (row column : ℕ) → ℕ
place_of starts rows row column = first (λ p. not (at rows p == row)) (at starts column) (at starts (column + 1))

-- ---- under new numbers

-- of a body of height h and width w, row r becomes column r
unfoldable pub transposed : (h w : ℕ) → List Float → List Float
transposed h w body = gather {A = Float} (λ r. map {A = ℕ} {B = Float} (λ c. block.at body h r c) (from 0 w)) (from 0 h)

-- a body of height h and width w, transposed where it lands above the diagonal
abbrev pub landed : (above : Bool) → (h w : ℕ) → List Float → List Float
landed above h w body = cond above (transposed h w body) body

-- does the stored block p land above the diagonal? inv is the new number of each old one
abbrev pub lands_above : (starts rows inv : List ℕ) → (n p : ℕ) → Bool
lands_above starts rows inv n p = nat_lt (at inv (at rows p)) (at inv (column_of starts n p))

-- the body of the stored block p under new numbers: its height is the dimension of the greater of the two, its width that of the lesser
unfoldable pub permuted_body : (dims starts rows : List ℕ) → (values : List Float) → (inv : List ℕ) → ℕ → List Float
permuted_body dims starts rows values inv p =
    landed (lands_above starts rows inv (length dims) p) (at dims (at rows p)) (at dims (column_of starts (length dims) p)) (body_at dims starts rows values p)
