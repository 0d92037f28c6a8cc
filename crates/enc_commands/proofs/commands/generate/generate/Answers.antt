use Rattle.enc_commands.proofs.Cases.{lists_few}
use Rattle.enc_commands.proofs.commands.generate.generate.Goals as goal

pub add_lists-requires-clause-drawn : goal.add_lists-requires-clause-drawn
add_lists-requires-clause-drawn c = record { start = c.args.start.value; count = c.args.count.value; few = c.requires.few; short = lists_few c.args.start.value c.args.count.value c.in_ok-case.case.lists c.in_ok-case.ensures.lists c.requires.few; lists_are = c.in_ok-case.ensures.lists }
