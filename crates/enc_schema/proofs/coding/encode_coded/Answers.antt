use Rattle.enc_schema.proofs.Codes.{zero_to_nil, found, none_to_row}
use Rattle.enc_schema.proofs.coding.encode_coded.Goals as goal

pub returns-then-token-eq0-clause-some : goal.returns-then-token-eq0-clause-some
returns-then-token-eq0-clause-some c = zero_to_nil c.args.kind c.args.token c.if-token-eq0.true

pub returns-in-None-clause-none : goal.returns-in-None-clause-none
returns-in-None-clause-none c =
    none_to_row c.args.kind c.args.token c.if-token-eq0.false (rw c.tables_of.ensures.tables at c.in-None.ensures.none)

pub returns-in-Some-clause-some : goal.returns-in-Some-clause-some
returns-in-Some-clause-some c =
    let t = c.tables_of.ensures in
    let f = c.in-Some.ensures.some in
    found c.args.kind c.args.token c.tables_of.result.now c.tag_bits.result c.in-Some.tag c.above.result c.tag_bits.ensures.bits t.tables f.0 t.few c.if-token-eq0.false f.1 c.above.ensures
