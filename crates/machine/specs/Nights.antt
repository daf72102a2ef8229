-- Document 01's nights by hand, of the machine: the products of P1 to P6 for any numbers, and small nights whose numbers are worked out.
-- Assumes nothing.
use Rattle.std.specs.Prelude.{ℕ, List, [], ◌∷◌, ◌++◌, map, ◌≡◌, length, replicate, Float}
use Rattle.std.proofs.Math.Option.{some}
use Rattle.std.specs.Float.{binary64}
use Rattle.std.specs.Float.Ieee.{of_bits}
use Rattle.scalar.specs.Scalar.{nought, one}
use Rattle.refusal.specs.Refusal.{Told, accepted, pivot_not_finite, poorly_conditioned}
use Rattle.graph.specs.Count.{Triple, triple}
use Rattle.machine.specs.System.{System, loaded_row}
use Rattle.machine.specs.Machine.{Column, State, Run, going, stopped, run, told}

-- ---- P1 to P6: the products, for any dimensions, values and tolerance of an accepted night

-- A's tables, the permutation, and the products that document 01 names; no block is late
pub record Pattern : Type 0 where
  pub starts : List ℕ
  pub rows : List ℕ
  pub perm : List ℕ
  pub products : ℕ

abbrev pub system : Pattern → (dims : List ℕ) → (values : List Float) → (tol : Float) → System
system p dims values tol =
    record { dims = dims; starts = p.starts; rows = p.rows; values = values; perm = p.perm; late = replicate (length p.perm) 0; tol = tol }

abbrev pub Counts : Pattern → Type 0
Counts p =
    (dims : List ℕ) (values : List Float) (tol : Float) (s : State) → length dims ≡ length p.perm → run (system p dims values tol) ≡ going s
    → length s.done ≡ p.products

-- every pattern of a list
abbrev pub AllCount : List Pattern → Type 0
AllCount [] = Unit
AllCount (p ∷ ps) = Counts p × AllCount ps

-- links (1,0) (2,1) (3,0): 7 products
abbrev pub p1 : Pattern
p1 = record { starts = 0 ∷ 3 ∷ 5 ∷ 6 ∷ 7 ∷ []; rows = 0 ∷ 1 ∷ 3 ∷ 1 ∷ 2 ∷ 2 ∷ 3 ∷ []; perm = 0 ∷ 1 ∷ 2 ∷ 3 ∷ []; products = 7 }

-- links (2,0) (2,1): 2 products
abbrev pub p2 : Pattern
p2 = record { starts = 0 ∷ 2 ∷ 4 ∷ 5 ∷ []; rows = 0 ∷ 2 ∷ 1 ∷ 2 ∷ 2 ∷ []; perm = 0 ∷ 1 ∷ 2 ∷ []; products = 2 }

-- hub 0 of four blocks: 10 products
abbrev pub p3 : Pattern
p3 = record { starts = 0 ∷ 4 ∷ 5 ∷ 6 ∷ 7 ∷ []; rows = 0 ∷ 1 ∷ 2 ∷ 3 ∷ 1 ∷ 2 ∷ 3 ∷ []; perm = 0 ∷ 1 ∷ 2 ∷ 3 ∷ []; products = 10 }

-- the same, permutation 3 2 1 0: 3
abbrev pub p4 : Pattern
p4 = record { starts = 0 ∷ 4 ∷ 5 ∷ 6 ∷ 7 ∷ []; rows = 0 ∷ 1 ∷ 2 ∷ 3 ∷ 1 ∷ 2 ∷ 3 ∷ []; perm = 3 ∷ 2 ∷ 1 ∷ 0 ∷ []; products = 3 }

-- no links: 0
abbrev pub p5 : Pattern
p5 = record { starts = 0 ∷ 1 ∷ 2 ∷ 3 ∷ []; rows = 0 ∷ 1 ∷ 2 ∷ []; perm = 0 ∷ 1 ∷ 2 ∷ []; products = 0 }

-- no blocks: 0
abbrev pub p6 : Pattern
p6 = record { starts = 0 ∷ []; rows = []; perm = []; products = 0 }

abbrev pub patterns : List Pattern
patterns = p1 ∷ p2 ∷ p3 ∷ p4 ∷ p5 ∷ p6 ∷ []

-- ---- small nights of two blocks, the first column full

abbrev pub two_blocks : (dims : List ℕ) → (values : List Float) → (perm late : List ℕ) → System
two_blocks dims values perm late =
    record { dims = dims; starts = 0 ∷ 2 ∷ 3 ∷ []; rows = 0 ∷ 1 ∷ 1 ∷ []; values = values; perm = perm; late = late; tol = of_bits binary64 0x3d71_9799_812d_ea11 }

-- the numbers 2, 3, 4, 5, 6 and 0.5, 0.25, -0.0, 1e-11 and its negative, and infinity
abbrev pub two : Float
two = of_bits binary64 0x4000_0000_0000_0000

abbrev pub three : Float
three = of_bits binary64 0x4008_0000_0000_0000

abbrev pub four : Float
four = of_bits binary64 0x4010_0000_0000_0000

abbrev pub five : Float
five = of_bits binary64 0x4014_0000_0000_0000

abbrev pub six : Float
six = of_bits binary64 0x4018_0000_0000_0000

abbrev pub half : Float
half = of_bits binary64 0x3fe0_0000_0000_0000

abbrev pub quarter : Float
quarter = of_bits binary64 0x3fd0_0000_0000_0000

abbrev pub minus_zero : Float
minus_zero = of_bits binary64 0x8000_0000_0000_0000

abbrev pub tiny : Float
tiny = of_bits binary64 0x3da5_fd7f_e179_6495

abbrev pub minus_tiny : Float
minus_tiny = of_bits binary64 0xbda5_fd7f_e179_6495

abbrev pub infinity : Float
infinity = of_bits binary64 0x7ff0_0000_0000_0000

-- what can be seen of a run: how it is told, the triples, and of each column the rows with their bodies, the unit factor and d
abbrev pub Seen : Type 0
Seen = Told × List Triple × List (List ℕ × List (List Float) × List Float × List Float)

abbrev pub seen_column : Column → List ℕ × List (List Float) × List Float × List Float
seen_column c = (c.rows, map c.body c.rows, c.unit, c.d)

abbrev pub seen : Run → Seen
seen (going s) = (told (going s), s.done, map seen_column s.finished)
seen (stopped t) = (t, [], [])

-- a night, what is seen of it, and what is expected
pub record Row : Type 0 where
  pub answer : Seen
  pub expected : Seen

-- the two-block sheet of document 01, bodies 4, 2, 5: L(1, 0) is 0.5, d is 4 and 4, one product
abbrev pub sheet : Row
sheet =
    record {
      answer = seen (run (two_blocks (1 ∷ 1 ∷ []) (four ∷ two ∷ five ∷ []) (0 ∷ 1 ∷ []) (0 ∷ 0 ∷ [])));
      expected = (
        accepted (1 ∷ []) [],
        triple 1 0 1 ∷ [],
        (1 ∷ [], (half ∷ []) ∷ [], one ∷ [], four ∷ []) ∷ ([], [], one ∷ [], four ∷ []) ∷ [],
      );
    }

-- the same with -0.0 between the two, which is loaded as 0.0: the block of zeros is stored, and its product counts
abbrev pub noughts : Row
noughts =
    record {
      answer = seen (run (two_blocks (1 ∷ 1 ∷ []) (four ∷ minus_zero ∷ five ∷ []) (0 ∷ 1 ∷ []) (0 ∷ 0 ∷ [])));
      expected = (
        accepted (1 ∷ []) [],
        triple 1 0 1 ∷ [],
        (1 ∷ [], (nought ∷ []) ∷ [], one ∷ [], four ∷ []) ∷ ([], [], one ∷ [], five ∷ []) ∷ [],
      );
    }

-- one body of 2 and no diagonal blocks, which count as zeros: both pivots are dropped, the product is worked through all the same
abbrev pub no_diagonal : Row
no_diagonal =
    record {
      answer = seen (run (system (record { starts = 0 ∷ 1 ∷ 1 ∷ []; rows = 1 ∷ []; perm = 0 ∷ 1 ∷ []; products = 1 }) (1 ∷ 1 ∷ []) (two ∷ []) one));
      expected = (
        accepted (1 ∷ []) [],
        triple 1 0 1 ∷ [],
        (1 ∷ [], (nought ∷ []) ∷ [], one ∷ [], nought ∷ []) ∷ ([], [], one ∷ [], nought ∷ []) ∷ [],
      );
    }

-- a block of two scalars and one of one, of the matrix 4 2 2, 2 5 3, 2 3 6: L(1, 0) is 0.25 0.5, Q(1) is 0.5 0.5, and every d is 4
abbrev pub wide : Row
wide =
    record {
      answer = seen (run (two_blocks (2 ∷ 1 ∷ []) (four ∷ two ∷ two ∷ five ∷ two ∷ three ∷ six ∷ []) (0 ∷ 1 ∷ []) (0 ∷ 0 ∷ [])));
      expected = (
        accepted (1 ∷ []) [],
        triple 1 0 1 ∷ [],
        (1 ∷ [], (quarter ∷ half ∷ []) ∷ [], one ∷ half ∷ nought ∷ one ∷ [], four ∷ four ∷ []) ∷ ([], [], one ∷ [], four ∷ []) ∷ [],
      );
    }

-- P2 with bodies 4, 2, 4, 2, 6: column 1 is worked in before column 0, as reach lists them
abbrev pub fan : Row
fan =
    record {
      answer = seen (run (system p2 (1 ∷ 1 ∷ 1 ∷ []) (four ∷ two ∷ four ∷ two ∷ six ∷ []) nought));
      expected = (
        accepted (2 ∷ []) [],
        triple 2 1 2 ∷ triple 2 0 2 ∷ [],
        (2 ∷ [], (half ∷ []) ∷ [], one ∷ [], four ∷ []) ∷ (2 ∷ [], (half ∷ []) ∷ [], one ∷ [], four ∷ []) ∷ ([], [], one ∷ [], four ∷ []) ∷ [],
      );
    }

-- block 0 late: it comes second, so bodies 5, 2, 4 give the same
abbrev pub late_first : Row
late_first =
    record {
      answer = seen (run (two_blocks (1 ∷ 1 ∷ []) (five ∷ two ∷ four ∷ []) (0 ∷ 1 ∷ []) (1 ∷ 0 ∷ [])));
      expected = sheet.expected;
    }

-- 13 and 14 name the new block: the second here
abbrev pub infinite : Row
infinite =
    record {
      answer = seen (run (two_blocks (1 ∷ 1 ∷ []) (four ∷ two ∷ infinity ∷ []) (0 ∷ 1 ∷ []) (0 ∷ 0 ∷ [])));
      expected = (pivot_not_finite 1 0 infinity, [], []);
    }

abbrev pub poor : Row
poor =
    record {
      answer = seen (run (two_blocks (1 ∷ 1 ∷ []) (minus_tiny ∷ nought ∷ one ∷ []) (1 ∷ 0 ∷ []) (0 ∷ 0 ∷ [])));
      expected = (poorly_conditioned 1 tiny, [], []);
    }

-- every row holds
abbrev pub Hold : List Row → Type 0
Hold [] = Unit
Hold (r ∷ rs) = (r.answer ≡ r.expected) × Hold rs

abbrev pub rows : List Row
rows = sheet ∷ noughts ∷ no_diagonal ∷ wide ∷ fan ∷ late_first ∷ infinite ∷ poor ∷ []

-- a body of two rows and columns that lands above the diagonal is loaded as its transpose
abbrev pub Turned : Type 0
Turned =
    loaded_row (two_blocks (2 ∷ 2 ∷ []) (replicate 4 nought ++ (two ∷ three ∷ four ∷ five ∷ []) ++ replicate 4 nought) (1 ∷ 0 ∷ []) (0 ∷ 0 ∷ [])) 0 1
    ≡ some (two ∷ four ∷ three ∷ five ∷ [])
