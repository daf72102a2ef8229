-- The nights by hand that document 01 marks P: one table, a row for each. What a row answers is worked out by the written meanings alone.
-- Assumes nothing.
use Rattle.std.specs.Prelude.{Bool, List, [], ◌∷◌, ◌++◌, map, ◌≡◌, ℕ, ◌≤◌, T, length, Float}
use Rattle.std.proofs.Math.Option.{Option, none, some}
use Rattle.std.specs.Float.{binary64}
use Rattle.std.specs.Float.Ieee.{of_bits}
use Rattle.graph.specs.Sets.{between, sum}
use Rattle.graph.specs.Links.{linked_of}
use Rattle.graph.specs.Symbolic.{reach, rows}
use Rattle.graph.specs.Count.{triples}
use Rattle.graph.specs.Liu.{tree_parent}
use Rattle.scalar.specs.Scalar.{nought, one}
use Rattle.refusal.specs.Refusal.{Told, accepted, poorly_conditioned}
use Rattle.dense_pivots.specs.Pivots.{definiteness_number}
use Rattle.dense_pivots.specs.declared.Definiteness.TheVariants.{PositiveDefinite, PositiveSemiDefinite, Indefinite}
use Rattle.dense_ldlt.specs.Decompose as dense
use Rattle.block_diag_ldlt.specs.Block as block

-- a row: P's number, what is worked out, and what document 01 says
pub record Night : Type 0 where
  pub number : ℕ
  pub answer : Told
  pub expected : Told

-- every row of a table holds
abbrev pub Hold : List Night → Type 0
Hold [] = Unit
Hold (night ∷ nights) = (night.answer ≡ night.expected) × Hold nights

-- ---- patterns: A's tables, the permutation and the late flags

pub record Pattern : Type 0 where
  pub starts : List ℕ
  pub rows : List ℕ
  pub perm : List ℕ
  pub late : List ℕ

abbrev pub blocks : Pattern → ℕ
blocks a = length a.perm

abbrev pub links : Pattern → ℕ → ℕ → Bool
links a = linked_of a.starts a.rows a.perm a.late

-- a parent as the tables hold it: none is 4,294,967,295
abbrev pub code : Option ℕ → ℕ
code none = 4294967295
code (some p) = p

abbrev pub parents : Pattern → List ℕ
parents a = map (λ k. code (tree_parent (links a) (blocks a) k)) (between 0 (blocks a))

abbrev pub reach_of : Pattern → ℕ → List ℕ
reach_of a j = reach (links a) (blocks a) (tree_parent (links a) (blocks a)) j

-- how many blocks L stores, and the block products
abbrev pub stored_of : Pattern → ℕ
stored_of a = sum (between 0 (blocks a)) (λ k. length (rows (links a) (blocks a) k))

abbrev pub products : Pattern → ℕ
products a = length (triples (links a) (blocks a))

-- ---- the numbers in the rows

abbrev pub 1e-12 : Float
1e-12 = of_bits binary64 0x3d71_9799_812d_ea11

abbrev pub 1e-10 : Float
1e-10 = of_bits binary64 0x3ddb_7cdf_d9d7_bdbb

abbrev pub -1e-10 : Float
-1e-10 = of_bits binary64 0xbddb_7cdf_d9d7_bdbb

abbrev pub 1e-11 : Float
1e-11 = of_bits binary64 0x3da5_fd7f_e179_6495

abbrev pub -1e-11 : Float
-1e-11 = of_bits binary64 0xbda5_fd7f_e179_6495

-- ---- the rows

-- links (1,0) (2,1) (3,0): parents 1, 2, 3, none; reach of 3 is 2, 1, 0; L stores 5; 7 products
abbrev pub a1 : Pattern
a1 = record { starts = 0 ∷ 2 ∷ 3 ∷ 3 ∷ 3 ∷ []; rows = 1 ∷ 3 ∷ 2 ∷ []; perm = 0 ∷ 1 ∷ 2 ∷ 3 ∷ []; late = 0 ∷ 0 ∷ 0 ∷ 0 ∷ [] }

abbrev pub p1 : Night
p1 =
    record {
      number = 1;
      answer = accepted (parents a1 ++ reach_of a1 3 ++ (stored_of a1 ∷ products a1 ∷ [])) [];
      expected = accepted (1 ∷ 2 ∷ 3 ∷ 4294967295 ∷ 2 ∷ 1 ∷ 0 ∷ 5 ∷ 7 ∷ []) [];
    }

-- links (2,0) (2,1): reach of 2 is 1, 0; 2 products
abbrev pub a2 : Pattern
a2 = record { starts = 0 ∷ 1 ∷ 2 ∷ 2 ∷ []; rows = 2 ∷ 2 ∷ []; perm = 0 ∷ 1 ∷ 2 ∷ []; late = 0 ∷ 0 ∷ 0 ∷ [] }

abbrev pub p2 : Night
p2 = record { number = 2; answer = accepted (reach_of a2 2 ++ (products a2 ∷ [])) []; expected = accepted (1 ∷ 0 ∷ 2 ∷ []) [] }

-- hub 0 of four blocks: 6 stored, 10 products, which `MostOfFour` calls the most for four
abbrev pub hub : List ℕ → Pattern
hub perm = record { starts = 0 ∷ 3 ∷ 3 ∷ 3 ∷ 3 ∷ []; rows = 1 ∷ 2 ∷ 3 ∷ []; perm = perm; late = 0 ∷ 0 ∷ 0 ∷ 0 ∷ [] }

abbrev pub p3 : Night
p3 =
    let a = hub (0 ∷ 1 ∷ 2 ∷ 3 ∷ []) in
    record { number = 3; answer = accepted (stored_of a ∷ products a ∷ []) []; expected = accepted (6 ∷ 10 ∷ []) [] }

-- the same, permutation 3 2 1 0: 3 and 3
abbrev pub p4 : Night
p4 =
    let a = hub (3 ∷ 2 ∷ 1 ∷ 0 ∷ []) in
    record { number = 4; answer = accepted (stored_of a ∷ products a ∷ []) []; expected = accepted (3 ∷ 3 ∷ []) [] }

-- no links: 0 products
abbrev pub p5 : Night
p5 =
    record {
      number = 5;
      answer = accepted (products (record { starts = 0 ∷ 0 ∷ 0 ∷ 0 ∷ []; rows = []; perm = 0 ∷ 1 ∷ 2 ∷ []; late = 0 ∷ 0 ∷ 0 ∷ [] }) ∷ []) [];
      expected = accepted (0 ∷ []) [];
    }

-- no blocks: 0
abbrev pub p6 : Night
p6 = record { number = 6; answer = accepted (products (record { starts = 0 ∷ []; rows = []; perm = []; late = [] }) ∷ []) []; expected = accepted (0 ∷ []) [] }

-- dense 0×0: rank 0, PositiveDefinite, condition 0.0
abbrev pub p7 : Night
p7 =
    record {
      number = 7;
      answer = (dense.decomposed 0 [] [] 1e-12).0;
      expected = accepted (0 ∷ definiteness_number PositiveDefinite ∷ []) (nought ∷ []);
    }

-- dense 1×1 of 0.0, tolerance 0: rank 0, PositiveSemiDefinite
abbrev pub p8 : Night
p8 =
    record {
      number = 8;
      answer = (dense.decomposed 1 (nought ∷ []) (one ∷ []) nought).0;
      expected = accepted (0 ∷ definiteness_number PositiveSemiDefinite ∷ []) (nought ∷ []);
    }

-- block 1×1 of -1e-10, tolerance 1e-12: condition 1e-10, accepted
abbrev pub p9 : Night
p9 =
    record {
      number = 9;
      answer = (block.decomposed 1 (-1e-10 ∷ []) (one ∷ []) (one ∷ []) 1e-12).0;
      expected = accepted (1 ∷ definiteness_number Indefinite ∷ []) (1e-10 ∷ []);
    }

-- block 1×1 of -1e-11, the same tolerance: refusal 14
abbrev pub p10 : Night
p10 =
    record {
      number = 10;
      answer = (block.decomposed 1 (-1e-11 ∷ []) (one ∷ []) (one ∷ []) 1e-12).0;
      expected = poorly_conditioned 0 1e-11;
    }

abbrev pub nights : List Night
nights = p1 ∷ p2 ∷ p3 ∷ p4 ∷ p5 ∷ p6 ∷ p7 ∷ p8 ∷ p9 ∷ p10 ∷ []

-- P3's "the most for four": no pattern of four blocks has more than 10 products
abbrev pub MostOfFour : Type 0
MostOfFour = (linked : ℕ → ℕ → Bool) → ((a b : ℕ) → T (linked a b) → T (linked b a)) → length (triples linked 4) ≤ 10
