use Rattle.std.proofs.Common.{◌+◌, drop, map, arith}
use Rattle.enc_jobs.proofs.Loops.{front}
use Rattle.std.proofs.lemmas.List.{drop_all}
use Rattle.enc_script.proofs.Commands.{one_less, none_left}
use Rattle.enc_script.specs.Run.{named_delta}
use Rattle.enc_script.proofs.whole.run_commands.Goals as goal

pub loop-command-preserved : goal.loop-command-preserved
loop-command-preserved g c =
    let i : _ = c.loop-command.command-index in (
      one_less (map named_delta c.args.deltas.now) c.args.script.now _ (drop (i + 1) c.args.script.now) (drop i c.args.script.now) c.args.running.now
          c.loop-command.running c.command.new.self c.command.new.out.items c.loop-command.out.items c.args.out.now.items
          (front c.args.script.now i c.command-item.result c.loop-command-test.true c.command-item.is) c.loop-command.invariant.0 c.in_ok-command.ensures.ran,
      omega (arith, c.in_ok-command.ensures.given, c.loop-command.invariant.1),
    )

pub returns : goal.returns
returns g c =
    c.loop-command.invariant.0 c.loop-command.running c.loop-command.out.items
    (rw (drop_all c.loop-command.command-index c.args.script.now c.loop-command-test.false)
    (none_left (map named_delta c.args.deltas.now) c.loop-command.running c.loop-command.out.items))
