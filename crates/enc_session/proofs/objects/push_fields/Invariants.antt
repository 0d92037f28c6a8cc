use Rattle.std.proofs.Common.{◌≡◌, ◌++◌, take}
use Rattle.enc_session.specs.States.{fields_text}
use Rattle.enc_session.proofs.objects.push_fields.Given as goal

-- the fields so far are appended
abbrev pub invariant-loop-field : goal.invariant-loop-field
invariant-loop-field l = l.out.items ≡ l.fn.out.items ++ fields_text (take l.field-index l.fields)
