-- What the plan answers where the tables have passed, in buffers that have exactly their needs. Assumes nothing.
use Rattle.std.specs.Prelude.{◌≡◌, ℕ, ◌+◌, ◌<◌, ◌≤◌, Bool, true, cond, T, ◌↔◌, List, [], ◌++◌, length, get_or, take, drop, replicate, Result}
use mathlib.Core.Bool.{false≢true}
use mathlib.Core.List.{append-nil}
use mathlib.Core.Path.{sym, ap, subst, ◌∙◌}
use native.Mathlib.Omega.{arith}
use lib.ListN.{drop_of_length-le}
use lib.Seq.{length-take-le}
use Rattle.graph.specs.Sets.{elem}
use Rattle.graph.specs.Links.{rows_in}
use Rattle.graph.specs.Order.{moved}
use Rattle.graph.specs.Path as rule
use Rattle.graph.specs.Fill.{Least}
use Rattle.graph.specs.Tree.{Parent}
use Rattle.graph.specs.Symbolic as L
use Rattle.graph.proofs.Whole.{whole_in, linked-symm, parent-of-least}
use Rattle.refusal.specs.Refusal.{Told, done, short_buffer, refuses, first_of, after}
use Rattle.refusal.proofs.Laws.{first-refuses, need-short, need-met}
use Rattle.elimination_tree.specs.Tree.{decode, linked_up, parents_of}
use Rattle.elimination_tree.proofs.Links.{parents-length, parents-least}
use Rattle.symbolic.specs.Columns.{Tree, columns_of}
use Rattle.buckets.specs.Buckets.{lengths}
use Rattle.buckets.proofs.Lists.{front}
use Rattle.graph.specs.Count.{triples}
use Rattle.analysis.specs.Plan.{stored_of, products_in, starts_of, rows_of, Ready}
use Rattle.analysis.specs.declared.cores.Analysis.{Analysis}
use Rattle.analysis.proofs.Same.{same-columns, same-stored, same-starts, same-l-rows, tree_of}
use Rattle.scratch.specs.Scratch.{SameScratch, Cleared}
use Rattle.scratch.specs.declared.Scratch.{Scratch}
use Rattle.scratch.proofs.Laws.{zero_of}
use Rattle.plan_core.specs.Plan.{told, Night, Places, places, lent_of, blocks, links, whole, answer, Plans, Exact}
use Rattle.plan_core.specs.declared.Outputs.{Outputs}
use Rattle.analysis.specs.declared.cores.Counts.{Counts}
use Rattle.plan_core.specs.declared.PlanError.{PlanError}

-- ---- the theory, of any night

pub links-symm : (a : Night) (p q : ℕ) → T (links a p q) → T (links a q p)
links-symm a p q t = linked-symm (rows_in a.starts a.rows) (moved a.perm a.late) p q t

pub path_rule : (a : Night) (k i : ℕ) → k < blocks a → T (elem i (L.rows (links a) (blocks a) k)) ↔ ((i < blocks a) × rule.Stored (links a) k i)
path_rule a = (whole_in a.starts a.rows (moved a.perm a.late) (blocks a)).path_rule

pub all_products : (a : Night) → products_in (links a) (blocks a) ≡ length (triples (links a) (blocks a))
all_products a = sym (whole_in a.starts a.rows (moved a.perm a.late) (blocks a)).count

pub liu-parents : (a : Night) (rest : List ℕ) → blocks a ≤ 4096 → (k : ℕ) → k < blocks a → Parent (links a) (blocks a) k (decode (get_or (parents_of (links a) (blocks a) ++ rest) k 0))
liu-parents a rest few k h =
    let symm : (p q : ℕ) → T (links a p q) → T (links a q p) = links-symm a in
    let long = parents-length (links a) (blocks a) symm in
    parent-of-least (links a) symm (blocks a) k (decode (get_or (parents_of (links a) (blocks a) ++ rest) k 0))
    (subst (λ (x : ℕ). Least (links a) (blocks a) k (decode x)) (sym (front (parents_of (links a) (blocks a)) rest k (subst (λ (m : ℕ). k < m) (sym long) h)))
    (parents-least (links a) (blocks a) symm few k h))

-- ---- the rows of L, from what the analysis leaves

module _ (a : Night) (count heads into upper : List ℕ) (r : Analysis) (g : Ready a.dims a.starts a.rows a.perm a.late count heads into upper r) (few : blocks a ≤ 4096) (room : blocks a ≤ length heads) where
  part : List ℕ
  part = take r.entries upper

  tree : List ℕ
  tree = take (blocks a) heads

  tree-long : length tree ≡ blocks a
  unfolding tree
  tree-long = length-take-le (blocks a) heads room

  -- what `store` asks
  pub store_asks : (stamps inverse l_starts l_rows : List ℕ) → length stamps ≡ blocks a → length inverse ≡ blocks a → length l_starts ≡ blocks a + 1 → length l_rows ≡ r.counts.stored
      → (Tree (length (take (blocks a) heads)) into (take r.entries upper) (take (blocks a) heads) × (count ≡ lengths (columns_of into (take r.entries upper) (length (take (blocks a) heads)))))
      × ((length stamps ≡ length (take (blocks a) heads)) × (length inverse ≡ length (take (blocks a) heads)) × (length l_starts ≡ length (take (blocks a) heads) + 1))
      × (length l_rows ≡ stored_of (linked_up into (take r.entries upper)) (length (take (blocks a) heads)))
  unfolding part tree
  store_asks stamps inverse l_starts l_rows s i l o =
      subst (λ (m : ℕ). (Tree m into part tree × (count ≡ lengths (columns_of into part m))) × ((length stamps ≡ m) × (length inverse ≡ m) × (length l_starts ≡ m + 1)) × (length l_rows ≡ stored_of (linked_up into part) m))
      (sym tree-long) (
        (
          tree_of (blocks a) (links a) into part few g.listed (links-symm a) tree g.analyzed.parents,
          g.analyzed.counted ∙ ap lengths (sym (same-columns (blocks a) (links a) into part few g.listed (links-symm a))),
        ),
        (s, i, l),
        o ∙ (g.analyzed.stored ∙ sym (same-stored (blocks a) (links a) into part few g.listed (links-symm a))),
      )

  -- what it leaves
  pub starts-told : (l_starts : List ℕ) → l_starts ≡ starts_of (linked_up into (take r.entries upper)) (length (take (blocks a) heads)) → l_starts ≡ starts_of (links a) (blocks a)
  unfolding part tree
  starts-told l_starts e = e ∙ (ap (starts_of (linked_up into part)) tree-long ∙ same-starts (blocks a) (links a) into part few g.listed (links-symm a))

  pub rows_told : (l_rows : List ℕ) → l_rows ≡ rows_of (linked_up into (take r.entries upper)) (length (take (blocks a) heads)) → l_rows ≡ rows_of (links a) (blocks a)
  unfolding part tree
  rows_told l_rows e = e ∙ (ap (rows_of (linked_up into part)) tree-long ∙ same-l-rows (blocks a) (links a) into part few g.listed (links-symm a))

-- ---- in buffers that have exactly their needs

-- nothing stands beyond the need
pub exact : (n : ℕ) (xs new : List ℕ) → length xs ≡ n → new ≡ new ++ drop n xs
exact n xs new e = let h : length xs ≤ n = omega arith in sym (ap (λ (l : List ℕ). new ++ l) (drop_of_length-le xs h) ∙ append-nil new)

-- the scratch afterwards
pub record Zeros (a : Night) (b : Places) : Type 0 where
  pub inverse : b.inverse ≡ replicate (blocks a) 0
  pub sizes : b.sizes ≡ replicate (blocks a) 0
  pub count : b.count ≡ replicate (blocks a) 0
  pub heads : b.heads ≡ replicate (blocks a + 1) 0
  pub into : b.into ≡ replicate (blocks a + 1) 0
  pub stamps : b.stamps ≡ replicate (blocks a) 0
  pub table : b.table ≡ replicate (length a.rows) 0
  pub upper : b.upper ≡ replicate (length a.rows) 0

-- all scratch is cleared that has exactly its needs, whatever was written into it before
pub cleared_all : (a : Night) (o : Outputs) {w x y : Scratch} {order parents l_starts l_rows : List ℕ} → Exact a (lent_of o w) → SameScratch w x → Cleared x y
    → Zeros a (places order parents l_starts l_rows y.inverse.now y.sizes.now y.count.now y.heads.now y.into.now y.stamps.now y.table.now y.upper.now)
cleared_all a o e s z = record {
  inverse = zero_of z.inverse (s.inverse.1 ∙ e.inverse);
  sizes = zero_of z.sizes (s.sizes.1 ∙ e.sizes);
  count = zero_of z.count (s.count.1 ∙ e.count);
  heads = zero_of z.heads (s.heads.1 ∙ e.heads);
  into = zero_of z.into (s.into.1 ∙ e.into);
  stamps = zero_of z.stamps (s.stamps.1 ∙ e.stamps);
  table = zero_of z.table (s.table.1 ∙ e.table);
  upper = zero_of z.upper (s.upper.1 ∙ e.upper);
}

-- scratch that is the same twice is the same
pub same_again : {w x y : Scratch} → SameScratch w x → SameScratch x y → SameScratch w y
same_again s t = record {
  inverse = (t.inverse.0 ∙ s.inverse.0, t.inverse.1 ∙ s.inverse.1);
  sizes = (t.sizes.0 ∙ s.sizes.0, t.sizes.1 ∙ s.sizes.1);
  count = (t.count.0 ∙ s.count.0, t.count.1 ∙ s.count.1);
  heads = (t.heads.0 ∙ s.heads.0, t.heads.1 ∙ s.heads.1);
  into = (t.into.0 ∙ s.into.0, t.into.1 ∙ s.into.1);
  stamps = (t.stamps.0 ∙ s.stamps.0, t.stamps.1 ∙ s.stamps.1);
  table = (t.table.0 ∙ s.table.0, t.table.1 ∙ s.table.1);
  upper = (t.upper.0 ∙ s.upper.0, t.upper.1 ∙ s.upper.1);
}

module _ (a : Night) (b b' : Places) (r : Result Counts PlanError) (x : Exact a b) (z : Zeros a b') where
  -- L's row table is too short
  pub row-table-short : length b.l_rows < stored_of (links a) (blocks a) → told r ≡ short_buffer 3 (stored_of (links a) (blocks a))
      → b'.order ≡ b.order → b'.parents ≡ b.parents → b'.l_starts ≡ b.l_starts → b'.l_rows ≡ b.l_rows → Plans done a b r b'
  row-table-short short e o p s l =
      let w = whole done a b in
      let is : w ≡ short_buffer 3 (stored_of (links a) (blocks a)) = ap (first_of done) (need-short 3 (length b.l_rows) (stored_of (links a) (blocks a)) short) in
      let also : refuses w ≡ true = ap refuses is in
      let out : (old new : List ℕ) → old ≡ after w old new = λ old new. sym (ap (λ (y : Bool). cond y old new) also) in
      record {
        outcome = e ∙ (sym is ∙ first-refuses w _ also);
        order = o ∙ out b.order _;
        parents = p ∙ out b.parents _;
        l_starts = s ∙ out b.l_starts _;
        l_rows = l ∙ out b.l_rows _;
        inverse = z.inverse ∙ exact (blocks a) b.inverse _ x.inverse;
        sizes = z.sizes ∙ exact (blocks a) b.sizes _ x.sizes;
        count = z.count ∙ exact (blocks a) b.count _ x.count;
        heads = z.heads ∙ exact (blocks a + 1) b.heads _ x.heads;
        into = z.into ∙ exact (blocks a + 1) b.into _ x.into;
        stamps = z.stamps ∙ exact (blocks a) b.stamps _ x.stamps;
        table = z.table ∙ exact (length a.rows) b.table _ x.table;
        upper = z.upper ∙ exact (length a.rows) b.upper _ x.upper;
        liu = λ passes. absurd (false≢true (sym passes ∙ also));
        path = path_rule a;
        products = all_products a;
      }

  -- it is long enough
  pub planned : stored_of (links a) (blocks a) ≤ length b.l_rows
      → told r ≡ answer a
      → b'.order ≡ moved a.perm a.late → b'.parents ≡ parents_of (links a) (blocks a) → b'.l_starts ≡ starts_of (links a) (blocks a)
      → b'.l_rows ≡ rows_of (links a) (blocks a) ++ drop (stored_of (links a) (blocks a)) b.l_rows → blocks a ≤ 4096 → Plans done a b r b'
  planned met e o p s l few =
      let w = whole done a b in
      let passes : w ≡ done = ap (first_of done) (need-met 3 (length b.l_rows) (stored_of (links a) (blocks a)) met) in
      let out : (old new : List ℕ) → new ≡ after w old new = λ old new. sym (ap (λ (t : Told). after t old new) passes) in
      record {
        outcome = e ∙ sym (ap (λ (t : Told). first_of t (answer a)) passes);
        order = o ∙ (exact (blocks a) b.order _ x.order ∙ out b.order _);
        parents = p ∙ (exact (blocks a) b.parents _ x.parents ∙ out b.parents _);
        l_starts = s ∙ (exact (blocks a + 1) b.l_starts _ x.l_starts ∙ out b.l_starts _);
        l_rows = l ∙ out b.l_rows _;
        inverse = z.inverse ∙ exact (blocks a) b.inverse _ x.inverse;
        sizes = z.sizes ∙ exact (blocks a) b.sizes _ x.sizes;
        count = z.count ∙ exact (blocks a) b.count _ x.count;
        heads = z.heads ∙ exact (blocks a + 1) b.heads _ x.heads;
        into = z.into ∙ exact (blocks a + 1) b.into _ x.into;
        stamps = z.stamps ∙ exact (blocks a) b.stamps _ x.stamps;
        table = z.table ∙ exact (length a.rows) b.table _ x.table;
        upper = z.upper ∙ exact (length a.rows) b.upper _ x.upper;
        liu = λ _ k h. subst (λ (t : List ℕ). Parent (links a) (blocks a) k (decode (get_or t k 0))) (sym (p ∙ sym (append-nil _))) (liu-parents a [] few k h);
        path = path_rule a;
        products = all_products a;
      }
