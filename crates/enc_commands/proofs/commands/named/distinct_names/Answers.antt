use Rattle.std.proofs.Common.{◌+◌, ◌∙◌, sym, drop}
use Rattle.std.proofs.lemmas.List.{drop_all}
use Rattle.enc_jobs.proofs.Loops.{front}
use Rattle.enc_rewriter.specs.Distinct.{borrowed}
use Rattle.enc_commands.proofs.Named.{one_named, none_named}
use Rattle.enc_commands.proofs.commands.named.distinct_names.Goals as goal

pub loop-command-preserved : goal.loop-command-preserved
loop-command-preserved c =
    let i : _ = c.loop-command.command-index in
    one_named (borrowed c.loop-command.names.keys) (borrowed c.add_named.new.names.keys) c.command-item.result (drop (i + 1) c.args.script.now) (drop i c.args.script.now)
    (front c.args.script.now i c.command-item.result c.loop-command-test.true c.command-item.is) c.in_ok-add_named.ensures ∙ c.loop-command.invariant

pub returns : goal.returns
returns c =
    sym (none_named (borrowed c.loop-command.names.keys) (drop c.loop-command.command-index c.args.script.now)
    (drop_all c.loop-command.command-index c.args.script.now c.loop-command-test.false)) ∙ c.loop-command.invariant
