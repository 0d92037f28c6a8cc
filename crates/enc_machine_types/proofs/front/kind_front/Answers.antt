use Rattle.std.proofs.Common.{sym, ◌∙◌}
use Rattle.enc_machine_types.proofs.OneByte.{alone_at_front}
use Rattle.enc_machine_types.proofs.front.kind_front.Goals as goal

pub returns-in-Some : goal.returns-in-Some
returns-in-Some c = alone_at_front c.args.bytes.now c.in-Some.kind c.in-len1-up.len_at_least (sym c.is_one_byte.ensures ∙ c.if-not-is_one_byte.false)
    (sym c.kind_of_element.ensures ∙ c.in-Some.is)
