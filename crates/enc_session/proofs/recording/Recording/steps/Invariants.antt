use Rattle.std.proofs.Common.{◌≡◌, ◌≤◌, ◌+◌, ◌-◌, ◌*◌, length}
use Rattle.enc_session.specs.Recording.{steps_recorded}
use Rattle.enc_session.proofs.Stepping.{all_ran}
use Rattle.enc_session.proofs.recording.Recording.steps.Given as goal

abbrev pub invariant-loop-ran : goal.invariant-loop-ran
invariant-loop-ran l =
    (steps_recorded l.fn.task l.ran l.fn.self ≡ all_ran l.ran l.self)
    × (length l.self.events ≤ length l.fn.self.events + 4 * l.ran) × (l.self.limit ≡ l.fn.self.limit) × (l.ran ≤ l.fn.count)

abbrev pub decreases-loop-ran : goal.decreases-loop-ran
decreases-loop-ran l = l.fn.count - l.ran
