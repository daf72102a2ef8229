-- Which blocks are linked, by new number: read from A's tables and the permutation alone, never from a body. Assumes nothing.
use Rattle.std.specs.Prelude.{ℕ, ◌+◌, min, max, Bool, ◌&&◌, not, List, eqb, get_or}
use Rattle.std.proofs.Math.Seq.{slice}
use Rattle.graph.specs.Sets.{elem}
use Rattle.graph.specs.Order.{moved}

-- the rows that tables of column starts and rows list in column c
abbrev pub rows_in : (starts rows : List ℕ) → ℕ → List ℕ
rows_in starts rows c = slice (get_or starts c 0) (get_or starts (c + 1) 0) rows

-- two different new numbers below the number of blocks are linked exactly when A stores the block of their old numbers, the greater as row;
-- `column` gives the rows that A stores in a column, `perm` the old number of each new one
abbrev pub linked_by : (ℕ → List ℕ) → List ℕ → ℕ → ℕ → Bool
linked_by column perm p q = not (eqb p q) && elem (max (get_or perm p 0) (get_or perm q 0)) (column (min (get_or perm p 0) (get_or perm q 0)))

-- A's tables
abbrev pub linked_in : (starts rows perm : List ℕ) → ℕ → ℕ → Bool
linked_in starts rows perm = linked_by (rows_in starts rows) perm

-- a night: A's tables under the permutation after the late move
abbrev pub linked_of : (starts rows perm late : List ℕ) → ℕ → ℕ → Bool
linked_of starts rows perm late = linked_in starts rows (moved perm late)
