use Rattle.std.proofs.Common.{rules, tests}
use Rattle.std.specs.Prelude.{nat_lt}
use Rattle.std.proofs.lemmas.List.Sorted.{IsPartitionPoint-from_clause, IsPartitionedBy-ltb}
use Rattle.enc_base.specs.declared.token.Token.{Token}
use Rattle.enc_ppdb.specs.Seen.{token_order}
use Rattle.enc_ppdb.proofs.Halves.{cut_at}
use Rattle.enc_ppdb.proofs.methods.cut.Goals as goal

pub returns : goal.returns
returns c =
    let tokens = c.args.tokens.now in
    let wanted = c.order-wanted.result in
    cut_at tokens c.args.token c.partition_point.result wanted c.order-wanted.ensures c.partition_point.ensures.bound (IsPartitionPoint-from_clause (λ (t : Token). nat_lt (token_order t) wanted) tokens c.partition_point.result c.partition_point.ensures.partitioned (IsPartitionedBy-ltb token_order tokens wanted c.requires) (λ a r f' k. search (rules, tests)))
