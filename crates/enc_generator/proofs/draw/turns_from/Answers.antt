use Rattle.std.proofs.Common.{◌∷◌, [], ap, ◌∙◌, arith, length-append}
use Rattle.enc_generator.specs.Generated.{turn_drawn, state_behind}
use Rattle.enc_generator.proofs.Turning.{turns_more, turns_end, state_more}
use Rattle.enc_generator.proofs.draw.turns_from.Goals as goal

pub loop-more-preserved : goal.loop-more-preserved
loop-more-preserved c =
    let turn = c.turn_drawn-turn.ensures.turn ∙ ap (turn_drawn c.args.methods) c.next_state.ensures in
    let state = c.turn_drawn-turn.ensures.state ∙ ap state_behind c.next_state.ensures in
    let pushed = c.in_ok-push.ensures.ok in
    record {
      turns = rw pushed (turns_more c.args.methods c.args.count c.loop-more.more c.loop-more.state c.turn_drawn-turn.result.state c.loop-more.turns _ c.turn_drawn-turn.result.turn c.loop-more-test.true turn state c.loop-more.invariant.turns);
      state = state_more c.args.count c.loop-more.more c.loop-more.state c.turn_drawn-turn.result.state _ c.loop-more-test.true state c.loop-more.invariant.state;
      short = rw pushed (omega (arith, length-append c.loop-more.turns (c.turn_drawn-turn.result.turn ∷ []), c.loop-more.invariant.short));
      few = omega (arith, c.loop-more-test.true);
    }

pub returns-clause-turns : goal.returns-clause-turns
returns-clause-turns c = turns_end c.args.methods c.args.count c.loop-more.more c.loop-more.state c.loop-more.turns _ (omega (arith, c.loop-more-test.false)) c.loop-more.invariant.turns
