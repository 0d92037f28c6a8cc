use Rattle.std.proofs.Common.{inl, inr}
use Rattle.std.proofs.lemmas.Bool.{cases_eq}
use Rattle.enc_row_order.proofs.Tags.{code_some, code_none, code_there, same_number}
use Rattle.enc_row_order.proofs.keys.coded.Goals as goal

pub unreachable-requires : goal.unreachable-requires
unreachable-requires c = code_there c.args.kind c.args.token c.requires.named c.in-None.ensures.none

pub returns : goal.returns
returns c = elim (cases_eq c.args.token.row 0) [
  | inl none ↦ code_none c.args.kind c.args.token _ none (same_number _ 0 (c.in-Some.ensures.nil none))
  | inr some ↦ code_some c.args.kind c.args.token _ some c.in-Some.ensures.some
]
