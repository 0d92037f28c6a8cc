use Rattle.enc_commands.proofs.Named.{name_is_text}
use Rattle.enc_commands.proofs.commands.named.text_of.Goals as goal

pub unreachable-requires : goal.unreachable-requires
unreachable-requires c = c.in-Err.ensures.cases.0 (name_is_text c.args.name.now c.requires)
