use Rattle.std.proofs.Common.{sym, subst}
use Rattle.std.specs.Str.Parse.{digits_value}
use Rattle.enc_command_line.specs.Commands.{IsValue}
use Rattle.enc_command_line.proofs.Numerals.{value_read}
use Rattle.enc_command_line.proofs.command.value_of.Goals as goal

pub returns : goal.returns
returns c = subst (λ o. IsValue o (digits_value 10 c.args.word.now)) (sym c.ok.ensures.value) (value_read c.args.word.now c.parse.result c.requires.some c.requires.digits (c.parse.ensures.value.0))
