use Rattle.std.proofs.Common.{◌≡◌, ◌++◌, take}
use Rattle.std.specs.Prelude.{flat_map}
use Rattle.enc_session.specs.States.{static_line}
use Rattle.enc_session.proofs.objects.push_statics.Given as goal

-- the statics so far are appended
abbrev pub invariant-loop-field : goal.invariant-loop-field
invariant-loop-field l = l.out.items ≡ l.fn.out.items ++ flat_map static_line (take l.field-index l.statics)
