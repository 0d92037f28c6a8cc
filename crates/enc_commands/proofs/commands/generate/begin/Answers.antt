use Rattle.enc_commands.proofs.Drawn.{none_is, none_within, none_written, no_limit, base_is_light}
use Rattle.enc_commands.proofs.commands.generate.begin.Goals as goal

pub rewrite-requires-clause-within : goal.rewrite-requires-clause-within
rewrite-requires-clause-within c = none_within c.in_ok-nothing.nothing.base c.in_ok-nothing.nothing.deltas _ c.in_ok-nothing.ensures.base c.in_ok-nothing.ensures.deltas (c.within_law.ensures.base.1 _)

pub begun-requires : goal.begun-requires
begun-requires c = none_written c.args.base.now.plain _ _ _ c.requires (none_is c.in_ok-nothing.nothing.base c.in_ok-nothing.nothing.deltas c.in_ok-nothing.ensures.base c.in_ok-nothing.ensures.deltas) c.in-Ok.ensures.written

pub want_of_memory-requires : goal.want_of_memory-requires
want_of_memory-requires c = no_limit c.in-Err.fault _ c.in-Err.ensures.tells (base_is_light c.args.base.now.plain _ c.requires (none_is c.in_ok-nothing.nothing.base c.in_ok-nothing.nothing.deltas c.in_ok-nothing.ensures.base c.in_ok-nothing.ensures.deltas) c.case_laws.ensures.light)
