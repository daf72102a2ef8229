-- `analysis::cores::store` meets its contract: the counts summed up are the starts, and the filling pass stores the rows. Assumes nothing.
use Rattle.std.specs.Prelude.{ℕ, ◌+◌, length, take}
use mathlib.Core.Path.{sym, ap, subst, ◌∙◌}
use native.Mathlib.Omega.{arith}
use Rattle.elimination_tree.specs.Tree.{linked_up}
use Rattle.buckets.specs.Buckets.{Laid}
use Rattle.symbolic.specs.Columns.{columns_of}
use Rattle.symbolic.proofs.Passes.{counts_length, counts_few, layout_laid}
use Rattle.analysis.proofs.Laws.{starts-made, stored-before}
use Rattle.analysis.proofs.cores.store.Goals as goal

pub sums-requires : goal.sums-requires
sums-requires c =
    let starts = c.args.t.now.starts.now in
    let rows = take c.args.entries c.args.t.now.rows.now in
    let n = length c.args.t.now.parent.now in
    let count = c.args.count.now in
    let few = c.requires.tree.0.pattern.few in
    let e = c.requires.tree.1 in
    let long = counts_length starts rows n count few e in
    record { sizes_len_bound = (omega (arith, long, few), c.requires.stamps_len.2 ∙ ap (λ (m : ℕ). m + 1) (sym long)); by_index = counts_few starts rows n count few e }

pub fill-requires : goal.fill-requires
fill-requires c =
    let starts = c.args.t.now.starts.now in
    let rows = take c.args.entries c.args.t.now.rows.now in
    let n = length c.args.t.now.parent.now in
    let count = c.args.count.now in
    let few = c.requires.tree.0.pattern.few in
    let e = c.requires.tree.1 in
    let sums = c.sums in
    let heads = sums.new.starts in record {
      tree = c.requires.tree.0;
      stamp_len = (c.requires.stamps_len.0, c.requires.stamps_len.1, counts_length starts rows n count few e);
      laid = subst (Laid (columns_of starts rows n) heads) (sums.ensures.value ∙ (stored-before (linked_up starts rows) n count e ∙ sym c.requires.l_rows_len))
          (layout_laid starts rows n count few e heads sums.result (sums.auto.starts ∙ c.requires.stamps_len.2) sums.ensures.value sums.ensures.by_index_2);
    }

pub returns : goal.returns
returns c =
    let starts = c.args.t.now.starts.now in
    let rows = take c.args.entries c.args.t.now.rows.now in
    let sums = c.sums in
    record { l_starts_after = starts-made (linked_up starts rows) (length c.args.t.now.parent.now) c.args.count.now c.requires.tree.1 sums.new.starts (sums.auto.starts ∙ c.requires.stamps_len.2) sums.ensures.by_index_2; l_rows_after = c.fill.ensures }
