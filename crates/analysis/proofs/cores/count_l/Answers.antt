-- `analysis::cores::count_l` meets its contract: Liu's tree, the counts over it, their totals. Assumes nothing.
use Rattle.std.specs.Prelude.{◌≡◌, ℕ, length}
use mathlib.Core.Path.{sym, ap, subst, ◌∙◌}
use native.Mathlib.Omega.{arith}
use Rattle.elimination_tree.specs.Tree.{linked_up}
use Rattle.symbolic.specs.Columns.{Sized, Tree, columns_of, numbers_of}
use Rattle.buckets.specs.Buckets.{lengths}
use Rattle.symbolic.proofs.Passes.{counts_length, counts_few}
use Rattle.analysis.proofs.Laws.{total-stored, total-products}
use Rattle.analysis.proofs.cores.count_l.Goals as goal

pub counts-numbers-requires : goal.counts-numbers-requires
counts-numbers-requires c =
    let tree = c.new_core in
    let n = length c.args.tree.now in
    let e : length tree.new.parent ≡ n = tree.auto.parent in record {
      tree = (
        subst (λ (m : ℕ). Tree m c.args.starts.now c.args.rows.now tree.new.parent) (sym e) (record { pattern = c.requires.pattern.0; ascends = c.requires.pattern.1; liu = tree.ensures }),
        subst (λ (m : ℕ). Sized m c.args.sizes.now) (sym e) c.requires.pattern.2,
      );
      stamp_len = (tree.auto.ancestor ∙ c.requires.stamps_len.0 ∙ sym e, c.requires.stamps_len.1 ∙ sym e);
    }

pub add_up-stored-requires : goal.add_up-stored-requires
add_up-stored-requires c =
    let starts = c.args.starts.now in
    let rows = c.args.rows.now in
    let n = length c.args.tree.now in
    let call = c.counts-numbers in
    let count = call.new.count in
    let few = c.requires.pattern.0.few in
    let e : count ≡ lengths (columns_of starts rows n) = call.ensures.count_after ∙ ap (λ (m : ℕ). lengths (columns_of starts rows m)) c.new_core.auto.parent in
    (omega (arith, counts_length starts rows n count few e, few), counts_few starts rows n count few e)

pub returns : goal.returns
returns c =
    let starts = c.args.starts.now in
    let rows = c.args.rows.now in
    let n = length c.args.tree.now in
    let tree = c.new_core in
    let call = c.counts-numbers in
    let all = c.add_up-stored in
    let count = call.new.count in
    let blocks : length tree.new.parent ≡ n = tree.auto.parent in
    let e : count ≡ lengths (columns_of starts rows n) = call.ensures.count_after ∙ ap (λ (m : ℕ). lengths (columns_of starts rows m)) blocks in
    record {
      parents = tree.ensures;
      counted = e;
      stored = total-stored (linked_up starts rows) n count e all.result.0 all.ensures.stored_value;
      numbers = call.ensures.value ∙ ap (λ (m : ℕ). numbers_of (linked_up starts rows) m c.args.sizes.now) blocks;
      products = total-products (linked_up starts rows) n count e all.result.1 all.ensures.products_value;
    }
