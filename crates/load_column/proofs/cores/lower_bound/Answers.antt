-- `load_column::cores::lower_bound` meets its contract: the rows are parted where they come to this one. Assumes nothing.
use Rattle.std.proofs.Common.{rules}
use Rattle.std.proofs.lemmas.List.Sorted.{IsPartitionPoint-from_clause}
use Rattle.std.specs.Prelude.{nat_lt}
use Rattle.load_column.proofs.FindLaws.{parted, parted-at}
use Rattle.load_column.proofs.cores.lower_bound.Goals as goal

pub returns : goal.returns
returns c =
    let x = c.args in
    let b = c.requires.bounds in
    parted-at x.rows.now x.from x.end x.row b.0 b.1 c.partition_point.result c.partition_point.ensures.bound
    (IsPartitionPoint-from_clause (λ y. nat_lt y x.row) _ _ c.partition_point.ensures.partitioned (parted x.rows.now x.from x.end x.row b.0 b.1 c.requires.rises) (λ a r q k. search rules))
