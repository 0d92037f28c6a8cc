use Rattle.std.proofs.Common.{rules, Some, length, ◌∙◌, ap, refl, sym}
use Rattle.std.proofs.lemmas.Option.{slice_get_past, slice_get_read}
use Rattle.enc_versions.specs.Version.{Version}
use Rattle.enc_vm.proofs.FramesSeen.{below_at, top_at, none_at_end}
use Rattle.enc_frames.specs.Machine.{Frame, Thread}
use Rattle.enc_vm.proofs.thread.Thread.frame.Goals as goal

pub returns-in-Some : goal.returns-in-Some
returns-in-Some c =
    ap (λ (f : Frame Version). Some f) c.shown.ensures
    ∙ sym (below_at c.as_slice-below.result.now c.args.self.now.below c.args.self.now.top c.in-Some.frame.now c.args.i (search rules)
    (slice_get_read c.as_slice-below.result.now (length c.as_slice-below.result.now) c.args.i c.in-Some.frame.now refl (search rules) (search rules)))

pub returns-in-None : goal.returns-in-None
returns-in-None c =
    ap (λ (f : Frame Version). Some f) c.shown-in-None.ensures
    ∙ ap (λ (t : Thread Version). Some t.top) c.self.view_is
    ∙ sym (top_at c.as_slice-below.result.now c.args.self.now.below c.args.self.now.top c.args.i (search rules) (search rules))

pub returns-in-None-2 : goal.returns-in-None-2
returns-in-None-2 c =
    sym (none_at_end c.as_slice-below.result.now c.args.self.now.below c.args.self.now.top c.args.i (search rules)
    (slice_get_past c.as_slice-below.result.now c.args.i (search rules)) (search rules))
