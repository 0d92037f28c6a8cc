use Rattle.std.proofs.Common.{rules, tests}
use Rattle.std.specs.Prelude.{nat_lt}
use Rattle.std.proofs.lemmas.List.Sorted.{IsPartitionPoint-from_clause, IsPartitionedBy-ltb}
use Rattle.enc_delta.specs.declared.shared.Keyed.{Keyed}
use Rattle.enc_delta.specs.Members.{no_keyed}
use Rattle.enc_delta.proofs.CutBy.{cut_at}
use Rattle.enc_delta.proofs.shared.cut.Goals as goal

pub returns : goal.returns
returns c =
    let entries = c.args.entries.now in
    cut_at (λ (e : Keyed). e.key) no_keyed entries c.args.key c.partition_point.result c.partition_point.ensures.bound (IsPartitionPoint-from_clause (λ (e : Keyed). nat_lt e.key c.args.key) entries c.partition_point.result c.partition_point.ensures.partitioned (IsPartitionedBy-ltb (λ (e : Keyed). e.key) entries c.args.key c.requires) (λ a r f' k. search (rules, tests)))
