use Rattle.enc_base.specs.Token.{number_of, nil}
use Rattle.enc_delta.proofs.CutBy.{none_past, one_there}
use Rattle.enc_delta.proofs.place.has_number.Goals as goal

pub returns-then-i-tokens : goal.returns-then-i-tokens
returns-then-i-tokens c = none_past number_of nil c.args.tokens.now c.args.number c.cut-i.result c.cut-i.ensures c.if-i-tokens.true

pub returns : goal.returns
returns c = rw c.number_of.ensures (one_there number_of nil c.args.tokens.now c.args.number c.cut-i.result c.requires c.cut-i.ensures c.if-i-tokens.false)
