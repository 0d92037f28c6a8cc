use Rattle.std.proofs.Common.{sym, ◌∙◌, arith}
use Rattle.enc_edit_list.specs.Reach.{branches_reach}
use Rattle.enc_rules.proofs.InstructionsPlaced.{length_front, reach_more, reach_stops, reach_none}
use Rattle.enc_rules.proofs.instructions.branches_reach.Goals as goal

pub argument_reaches-requires : goal.argument_reaches-requires
argument_reaches-requires c = omega (arith, length_front c.loop-rest.rest.now c.instr-item.result c.in-len1-up.len_at_least c.instr-item.is, c.loop-rest.invariant.end, c.size_of-at.ensures.size, c.requires)

pub returns-then-not-argument_reaches : goal.returns-then-not-argument_reaches
returns-then-not-argument_reaches c =
    reach_stops c.loop-rest.at c.size_of-at.result c.loop-rest.rest.now c.instr-item.result (branches_reach 0 c.args.code.now) c.in-len1-up.len_at_least c.instr-item.is c.size_of-at.ensures.size c.loop-rest.invariant.reach (sym c.argument_reaches.ensures ∙ c.if-not-argument_reaches.true)

pub loop-rest-preserved : goal.loop-rest-preserved
loop-rest-preserved c = record {
  reach = reach_more c.loop-rest.at c.size_of-at.result c.loop-rest.rest.now c.instr-item.result (branches_reach 0 c.args.code.now) c.in-len1-up.len_at_least c.instr-item.is c.size_of-at.ensures.size c.loop-rest.invariant.reach (sym c.argument_reaches.ensures ∙ c.if-not-argument_reaches.false);
  end = omega (arith, length_front c.loop-rest.rest.now c.instr-item.result c.in-len1-up.len_at_least c.instr-item.is, c.loop-rest.invariant.end, c.size_of-at.ensures.size);
}

pub returns : goal.returns
returns c = sym (reach_none c.loop-rest.at c.loop-rest.rest.now c.in_default.len_below) ∙ c.loop-rest.invariant.reach
