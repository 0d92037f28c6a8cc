use Rattle.std.proofs.Common.{◌∙◌}
use Rattle.enc_text.proofs.Guids.{guid_text_is}
use Rattle.enc_text.proofs.text.push_guid.Goals as goal

pub returns : goal.returns
returns c = rw (← (guid_text_is _ _ c.args.bytes c.encode_lower.ensures.text (c.hyphenated-guid.ensures ∙ c.from_bytes_le.ensures))) c.push_str.ensures
