use Rattle.enc_commands.proofs.Drawn.{no_limit, end_is_light}
use Rattle.enc_commands.proofs.commands.generate.end.Goals as goal

pub want_of_memory-requires : goal.want_of_memory-requires
want_of_memory-requires c = no_limit c.in-Err.fault _ (rw (c.rows-2.ensures, c.points-2.ensures) at c.in-Err.ensures.tells) (end_is_light c.args.out.now c.args.start.value c.args.count.value c.args.series c.requires.series c.requires.few c.case_laws.ensures.light)
