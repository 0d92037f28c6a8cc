use Rattle.std.proofs.Common.{rules}
use Rattle.enc_command_line.proofs.Spaced.{name_more, none_left}
use Rattle.enc_command_line.proofs.lines.push_spaced.Goals as goal

pub loop-name-preserved : goal.loop-name-preserved
loop-name-preserved c = name_more c.args.names.now c.loop-name.name-index _ c.loop-name.out.items c.push_str.new.out.items _ _ (search rules) c.in_ok-push_str.ensures c.in_ok-push_str-2.ensures c.loop-name.invariant

pub returns : goal.returns
returns c = none_left c.args.names.now c.loop-name.name-index c.loop-name.out.items _ (search rules) c.loop-name.invariant
