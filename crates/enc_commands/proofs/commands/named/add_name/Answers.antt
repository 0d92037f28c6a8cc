use Rattle.enc_commands.proofs.Named.{name_added}
use Rattle.enc_commands.proofs.commands.named.add_name.Goals as goal

pub returns : goal.returns
returns c = name_added c.args.names.now.keys c.insert.new.self.keys c.args.name c.in_ok-insert.ensures.keys
