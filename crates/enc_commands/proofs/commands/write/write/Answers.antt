use Rattle.std.proofs.Common.{◌≡◌, Ok}
use Rattle.enc_command_line.specs.Words.{texts}
use Rattle.enc_commands.specs.Verdict.{accept_text}
use Rattle.enc_commands.specs.Loads.{texted}
use Rattle.enc_commands.proofs.Served.{if_some}
use Rattle.enc_commands.proofs.commands.write.write.Goals as goal

pub returns-clause-plan : goal.returns-clause-plan
returns-clause-plan g c =
    if_some (g.S.Store.told c.args.store.now) (λ files. accept_text files c.args.base.now c.args.edits.now (texts c.args.deltas.now) ≡ Ok (texted c.in_ok-texted.texted)) _ c.in_ok-texted.ensures.step
    (λ files is. rw is c.of_text.ensures.plan)
