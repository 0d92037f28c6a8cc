use Rattle.std.proofs.Common.{◌≡◌, take}
use Rattle.enc_versions.specs.StandFor.{lines_read}
use Rattle.enc_session.specs.Recording.{line_before}
use Rattle.enc_session.proofs.looks.line_before.Given as goal

abbrev pub invariant-loop-i : goal.invariant-loop-i
invariant-loop-i l = l.line ≡ line_before l.fn.offset (take l.i (lines_read l.fn.points).points)
