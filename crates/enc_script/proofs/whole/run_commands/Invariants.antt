use Rattle.std.proofs.Common.{◌+◌, ◌≤◌, map, drop}
use Rattle.enc_script.proofs.Commands.{IsRestOf}
use Rattle.enc_script.specs.Run.{named_delta}
use Rattle.enc_script.proofs.whole.run_commands.Given as goal

-- the commands so far are carried out
abbrev pub invariant-loop-command : goal.invariant-loop-command
invariant-loop-command g l =
    IsRestOf (map named_delta l.deltas) l.script (drop l.command-index l.script) l.fn.running l.running l.out.items l.fn.out.items
    × (l.running.session.seated.given ≤ l.fn.running.session.seated.given + l.command-index)
