use Rattle.std.proofs.Common.{◌≡◌, map, take}
use Rattle.enc_versions.specs.Commit.{version_in}
use Rattle.enc_session.specs.Codes.{new_version}
use Rattle.enc_session.proofs.codes.new_codes.Given as goal

-- those so far
abbrev pub invariant-loop-i : goal.invariant-loop-i
invariant-loop-i l = map version_in l.codes ≡ map (new_version l.delta l.pdb) (take l.i l.methods)
