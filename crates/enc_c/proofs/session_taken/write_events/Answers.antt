use Rattle.std.proofs.Common.{sym, ◌∙◌}
use Rattle.enc_c.specs.SessionNumbers.{event_numbers}
use Rattle.enc_c.proofs.Items.{written_more}
use Rattle.enc_c.proofs.session_taken.write_events.Goals as goal

pub loop-i-preserved : goal.loop-i-preserved
loop-i-preserved c =
    written_more event_numbers c.args.events.now c.args.buffer.now c.loop-i.buffer c.loop-i.i c.in-Some.event c.event_numbers.result
    (sym c.event_at.ensures ∙ c.in-Some.is) c.requires c.loop-i.invariant c.event_numbers.ensures
