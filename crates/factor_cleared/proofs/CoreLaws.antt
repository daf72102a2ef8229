-- The outputs with the scratch cleared are what is promised, in buffers that have exactly their needs. Assumes nothing.
use Rattle.std.specs.Prelude.{◌≡◌, ℕ, ◌+◌, ◌-◌, ◌<◌, ◌≤◌, Bool, true, false, cond, T, ◌↔◌, List, [], ◌++◌, length, drop, replicate, Ok}
use mathlib.Core.Bool.{false≢true}
use mathlib.Core.List.{append-nil}
use mathlib.Core.Path.{refl, sym, ap, subst, ◌∙◌}
use native.Mathlib.Omega.{arith}
use lib.Ieee.{Float}
use lib.ListN.{drop_of_length-le}
use lib.Seq.{take-append-le}
use Rattle.scalar.specs.Block.{zeros}
use Rattle.graph.specs.Sets.{elem, between}
use Rattle.graph.specs.Links.{rows_in}
use Rattle.graph.specs.Path.{Stored}
use Rattle.graph.specs.Tree.{Parent}
use Rattle.graph.specs.Count.{products_of}
use Rattle.graph.specs.Symbolic as L
use Rattle.graph.proofs.SetLaws.{between-elim}
use Rattle.graph.proofs.SumLaws.{sum-ext}
use Rattle.graph.proofs.Whole.{whole_in, parent-of-least}
use Rattle.refusal.specs.Refusal.{Told, done, refuses, after}
use Rattle.refusal.proofs.Laws.{first-refuses, first_passes}
use Rattle.tables.specs.Verdict.{at}
use Rattle.tables.specs.Sound.{SystemSound}
use Rattle.elimination_tree.specs.Tree.{decode, parents_of}
use Rattle.elimination_tree.proofs.Links.{parents-least}
use Rattle.scalars.specs.Scalars.{scalar_count}
use Rattle.analysis.specs.declared.cores.Counts.{Counts}
use Rattle.machine.specs.System.{System, blocks, links, order}
use Rattle.machine.specs.Machine.{State, rows_at, going, run}
use Rattle.machine.proofs.RunLaws.{links-symm, run_rows, run_demand3}
use Rattle.layout.specs.Layout.{units_need, work_need}
use Rattle.layout.proofs.RowLaws.{rows-slot}
use Rattle.layout.proofs.PlanLaws.{plan_rows, plan_columns}
use Rattle.block_product.proofs.SlotLaws.{slot-length}
use Rattle.factor_setup.specs.Exact.{l_starts, l_rows, stored}
use Rattle.factor_core.specs.Factorize.{Factorized, told, Places, answered, cleared, Demand3, FactorsBy, Exact}
use Rattle.factor_core.specs.Written.{Written}
use Rattle.factor_core.specs.Cache.{cache_need, whole_kept, cleared_to, FactorsKept}
use Rattle.factor_core.proofs.StopLaws.{accepted-run}

-- nothing stands beyond an exact need
pub exact : {A : Type 0} (n : ℕ) (xs new : List A) → length xs ≡ n → new ≡ new ++ drop n xs
exact n xs new e = let h : length xs ≤ n = omega arith in sym (ap (λ (l : List _). new ++ l) (drop_of_length-le xs h) ∙ append-nil new)

-- the same, under a verdict
exact-after : {A : Type 0} (w : Told) (n : ℕ) (xs new ys : List A) → length xs ≡ n → ys ≡ after w xs new → ys ≡ after w xs (new ++ drop n xs)
exact-after w n xs new ys e p = p ∙ ap (λ (l : List _). after w xs l) (exact n xs new e)

-- a buffer that was cleared
cleared-of : (n m : ℕ) (xs ys : List ℕ) → length xs ≡ n → m ≡ n → ys ≡ replicate m 0 → ys ≡ cleared n xs
cleared-of n m xs ys e f p = p ∙ ap (λ (k : ℕ). replicate k 0) f ∙ exact n xs (replicate n 0) e

-- the same of numbers, by the length before
pub noughts-of : {n m : ℕ} {ys : List Float} → ys ≡ zeros m → m ≡ n → ys ≡ zeros n
noughts-of p e = p ∙ ap zeros e

-- ---- demand 3, of L's tables with anything behind the row table

module _ (a : System) where
  -- column k of the table, whatever follows the last column
  table-rows : (k : ℕ) → k < blocks a → (rest : List ℕ) → rows_in (l_starts a) (l_rows a ++ rest) k ≡ L.rows (links a) (blocks a) k
  table-rows k h rest =
      let c = plan_columns (links a) (blocks a) (links-symm a) in
      let hi : at (l_starts a) (k + 1) ≤ length (l_rows a) = c.ordered.inside (k + 1) (omega arith) in
      ap (drop (at (l_starts a) k)) (take-append-le (at (l_starts a) (k + 1)) (l_rows a) rest hi)
      ∙ rows-slot (l_starts a) (l_rows a) k ∙ plan_rows (links a) (blocks a) (links-symm a) [] [] k h

  -- and how many rows it has
  table-count : (k : ℕ) → k < blocks a → at (l_starts a) (k + 1) - at (l_starts a) k ≡ length (L.rows (links a) (blocks a) k)
  table-count k h =
      let c = plan_columns (links a) (blocks a) (links-symm a) in
      let hi : at (l_starts a) (k + 1) ≤ length (l_rows a) = c.ordered.inside (k + 1) (omega arith) in
      let up = c.ordered.rising k h in
      sym (slot-length (l_rows a) (at (l_starts a) k) (at (l_starts a) (k + 1) - at (l_starts a) k) (omega arith))
      ∙ ap length (plan_rows (links a) (blocks a) (links-symm a) [] [] k h)

  keeps : (c : ℕ) (s : State) (rest : List ℕ) → run a ≡ going s → c ≡ length s.done → Demand3 a c (l_starts a) (l_rows a ++ rest)
  keeps c s rest ran e =
      record {
        state = s;
        accepts = ran;
        worked = e;
        summed =
            e ∙ (run_demand3 a s ran).count
            ∙ sum-ext (between 0 (blocks a)) (λ k. products_of (length (rows_at s k))) (λ k. products_of (at (l_starts a) (k + 1) - at (l_starts a) k))
            (λ k m. ap products_of (ap length (run_rows a s ran k) ∙ sym (table-count k (between-elim k 0 (blocks a) m).1)));
        path_rule = λ k i h.
            subst (λ (l : List ℕ). T (elem i l) ↔ ((i < blocks a) × Stored (links a) k i)) (sym (table-rows k h rest))
            ((whole_in a.starts a.rows (order a) (blocks a)).path_rule k i h);
        listed = λ k h. table-rows k h rest ∙ sym (run_rows a s ran k);
      }

-- ---- the promise

-- the scratch afterwards, by the lengths before
pub record Zeros (b b' : Places) : Type 0 where
  pub column : b'.column ≡ zeros (length b.column)
  pub inverse : b'.inverse ≡ replicate (length b.inverse) 0
  pub sizes : b'.sizes ≡ replicate (length b.sizes) 0
  pub count : b'.count ≡ replicate (length b.count) 0
  pub heads : b'.heads ≡ replicate (length b.heads) 0
  pub into : b'.into ≡ replicate (length b.into) 0
  pub stamps : b'.stamps ≡ replicate (length b.stamps) 0
  pub table : b'.table ≡ replicate (length b.table) 0
  pub upper : b'.upper ≡ replicate (length b.upper) 0
  pub bodies : b'.bodies ≡ replicate (length b.bodies) 0
  pub unit_starts : b'.unit_starts ≡ replicate (length b.unit_starts) 0
  pub d_starts : b'.d_starts ≡ replicate (length b.d_starts) 0
  pub places : b'.places ≡ replicate (length b.places) 0

module _ (a : System) (sound : SystemSound a.dims a.starts a.rows a.values a.perm a.late a.tol) (b b' : Places) (r : Factorized)
    (v : Told) (x : Exact a b) (w : Written v a b r b') (z : Zeros b b') where
  -- where nothing is refused, the outputs are the factor's
  passes : {A : Type 0} (old new now : A) → refuses v ≡ false → now ≡ after v old new → now ≡ new
  passes old new now p e = e ∙ ap (λ (t : Bool). cond t old new) p

  accepted-passes : (c : Counts) → r ≡ Ok c → refuses v ≡ false
  accepted-passes c e = go (refuses v) refl
    where
      go : (t : Bool) → refuses v ≡ t → refuses v ≡ false
      go false p = p
      go true p =
          let q : told r ≡ v = w.outcome ∙ sym (first-refuses v _ p) in
          absurd (false≢true (sym (ap refuses (ap told e)) ∙ ap refuses q ∙ p))

  demand3 : (c : Counts) → r ≡ Ok c → Demand3 a c.products b'.l_starts b'.l_rows
  demand3 c e =
      let p = accepted-passes c e in
      let l = accepted-run a c.stored c.numbers c.products (sym (ap told e) ∙ w.outcome ∙ sym (first_passes v (answered a (run a)) p)) in
      subst (λ (s : List ℕ). Demand3 a c.products s b'.l_rows) (sym (passes b.l_starts (l_starts a) b'.l_starts p w.l_starts))
      (subst (Demand3 a c.products (l_starts a)) (sym (passes b.l_rows (l_rows a ++ drop (stored a) b.l_rows) b'.l_rows p w.l_rows))
      (keeps a c.products l.0 (drop (stored a) b.l_rows) l.1 l.2))

  factors : FactorsBy done v a b r b'
  factors =
      record {
        outcome = w.outcome;
        order = exact-after v (blocks a) b.order _ b'.order x.order w.order;
        parents = exact-after v (blocks a) b.parents _ b'.parents x.parents w.parents;
        l_starts = exact-after v (blocks a + 1) b.l_starts _ b'.l_starts x.l_starts w.l_starts;
        l_rows = w.l_rows;
        l_offsets = w.l_offsets;
        l_values = w.l_values;
        diag = exact-after v (units_need a.dims) b.diag _ b'.diag x.diag w.diag;
        d = exact-after v (scalar_count a.dims) b.d _ b'.d x.d w.d;
        column = z.column ∙ ap zeros x.column ∙ exact (work_need a.dims) b.column (zeros (work_need a.dims)) x.column;
        inverse = cleared-of (blocks a) _ b.inverse b'.inverse x.inverse x.inverse z.inverse;
        sizes = cleared-of (blocks a) _ b.sizes b'.sizes x.sizes x.sizes z.sizes;
        count = cleared-of (blocks a) _ b.count b'.count x.count x.count z.count;
        heads = cleared-of (blocks a + 1) _ b.heads b'.heads x.heads x.heads z.heads;
        into = cleared-of (blocks a + 1) _ b.into b'.into x.into x.into z.into;
        stamps = cleared-of (blocks a) _ b.stamps b'.stamps x.stamps x.stamps z.stamps;
        table = cleared-of (length a.rows) _ b.table b'.table x.table x.table z.table;
        upper = cleared-of (length a.rows) _ b.upper b'.upper x.upper x.upper z.upper;
        bodies = cleared-of (length a.rows + 1) _ b.bodies b'.bodies x.bodies x.bodies z.bodies;
        unit_starts = cleared-of (blocks a + 1) _ b.unit_starts b'.unit_starts x.unit_starts x.unit_starts z.unit_starts;
        d_starts = cleared-of (blocks a + 1) _ b.d_starts b'.d_starts x.d_starts x.d_starts z.d_starts;
        places = cleared-of (blocks a) _ b.places b'.places x.places x.places z.places;
        liu = λ p k h.
            subst (λ (l : List ℕ). Parent (links a) (blocks a) k (decode (at l k))) (sym (passes b.parents (parents_of (links a) (blocks a)) b'.parents p w.parents))
            (parent-of-least (links a) (links-symm a) (blocks a) k (decode (at (parents_of (links a) (blocks a)) k)) (parents-least (links a) (blocks a) (links-symm a) sound.plan.blocks k h));
        demand3 = demand3;
      }

-- the outputs of b, the working column and the scratch of c
abbrev pub with_scratch : (b c : Places) → Places
with_scratch b c = record {
  order = b.order;
  parents = b.parents;
  l_starts = b.l_starts;
  l_rows = b.l_rows;
  l_offsets = b.l_offsets;
  l_values = b.l_values;
  diag = b.diag;
  d = b.d;
  column = c.column;
  inverse = c.inverse;
  sizes = c.sizes;
  count = c.count;
  heads = c.heads;
  into = c.into;
  stamps = c.stamps;
  table = c.table;
  upper = c.upper;
  bodies = c.bodies;
  unit_starts = c.unit_starts;
  d_starts = c.d_starts;
  places = c.places;
}

-- the outputs as they are written, then the scratch cleared
pub kept : (most : ℕ) (a : System) → SystemSound a.dims a.starts a.rows a.values a.perm a.late a.tol → (b b₁ b' : Places) (c c' : List Float) (r : Factorized) → Exact a b
    → Written (whole_kept done most a b (length c)) a b r b₁ → Zeros b b' → c' ≡ cleared_to (cache_need most a) c → FactorsKept done most a b c r (with_scratch b₁ b') c'
kept most a sound b b₁ b' c c' r x w z e =
    record {
      factors =
          factors a sound b (with_scratch b₁ b') r (whole_kept done most a b (length c)) x
          (record {
            outcome = w.outcome;
            order = w.order;
            parents = w.parents;
            l_starts = w.l_starts;
            l_rows = w.l_rows;
            l_offsets = w.l_offsets;
            l_values = w.l_values;
            diag = w.diag;
            d = w.d;
          })
          (record {
            column = z.column;
            inverse = z.inverse;
            sizes = z.sizes;
            count = z.count;
            heads = z.heads;
            into = z.into;
            stamps = z.stamps;
            table = z.table;
            upper = z.upper;
            bodies = z.bodies;
            unit_starts = z.unit_starts;
            d_starts = z.d_starts;
            places = z.places;
          });
      cache = e;
    }
