use Rattle.std.proofs.Common.{rules, tests}
use Rattle.std.specs.Prelude.{nat_lt}
use Rattle.std.proofs.lemmas.List.Sorted.{IsPartitionPoint-from_clause, IsPartitionedBy-ltb}
use Rattle.enc_base.specs.Token.{number_of, nil}
use Rattle.enc_base.specs.declared.token.Token.{Token}
use Rattle.enc_delta.proofs.CutBy.{cut_at}
use Rattle.enc_delta.proofs.place.cut.Goals as goal

pub returns : goal.returns
returns c =
    let tokens = c.args.tokens.now in
    cut_at number_of nil tokens c.args.number c.partition_point.result c.partition_point.ensures.bound (IsPartitionPoint-from_clause (λ (t : Token). nat_lt (number_of t) c.args.number) tokens c.partition_point.result c.partition_point.ensures.partitioned (IsPartitionedBy-ltb number_of tokens c.args.number c.requires) (λ a r f' k. search (rules, tests)))
