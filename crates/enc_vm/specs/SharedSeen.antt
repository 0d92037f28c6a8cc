-- For the contracts of private functions: what all tasks share.
use Rattle.enc_frames.specs.FramesSeen.{shared_by}
use Rattle.enc_frames.specs.Machine.{Shared as TheShared}
use Rattle.enc_vm.specs.declared.shared.Shared.{Shared}

-- the objects and the types that were touched
abbrev pub shared_in : Shared → TheShared
shared_in s = shared_by s.objects s.touched
