use Rattle.std.proofs.Common.{◌∙◌, sym}
use Rattle.enc_ppdb.proofs.Halves.{found_there, missing_past, missing_there}
use Rattle.enc_ppdb.proofs.methods.place_by_halves.Goals as goal

pub returns-then-i-tokens : goal.returns-then-i-tokens
returns-then-i-tokens c = missing_past c.args.tokens.now c.args.token c.cut-i.result c.cut-i.ensures c.if-i-tokens.true

pub returns-then-is_same : goal.returns-then-is_same
returns-then-is_same c = found_there c.args.tokens.now c.args.token _ c.cut-i.result c.cut-i.ensures c.if-i-tokens.false (sym c.is_same.ensures.fields ∙ c.if-is_same.true)

pub returns : goal.returns
returns c = missing_there c.args.tokens.now c.args.token _ c.cut-i.result c.requires c.cut-i.ensures c.if-i-tokens.false (sym c.is_same.ensures.order ∙ c.if-is_same.false)
