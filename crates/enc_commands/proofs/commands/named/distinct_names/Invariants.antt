use Rattle.std.proofs.Common.{◌≡◌, [], drop}
use Rattle.enc_rewriter.specs.Distinct.{borrowed}
use Rattle.enc_commands.specs.Verdict.{deltas_named}
use Rattle.enc_commands.proofs.commands.named.distinct_names.Given as goal

-- those so far, and what is left
abbrev pub invariant-loop-command : goal.invariant-loop-command
invariant-loop-command l = deltas_named (borrowed l.names.keys) (drop l.command-index l.script) ≡ deltas_named [] l.script
