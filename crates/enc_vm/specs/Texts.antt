-- The user texts that the codes of frames name are there; so frames mean the same when more texts come.
use Rattle.std.specs.Prelude.{◌≡◌, ℕ, Bool, true, ◌&&◌, List, Option, IsTrue}
use Rattle.std.specs.List.{list_all}
use Rattle.enc_opcodes.specs.Body.{texts_are_there, KeepsTexts}
use Rattle.enc_versions.specs.Version.{Version}
use Rattle.enc_frames.specs.Machine.{Frame, Task, going, ended, trapped, MachineState, state_meant}

-- each user text that a version's code names is there, and so for frames, tasks and machines
abbrev pub version_texts : (ℕ → Option (List ℕ)) → Version → Bool
version_texts users v = texts_are_there users v.code.code

abbrev pub frame_texts : (ℕ → Option (List ℕ)) → Frame Version → Bool
frame_texts users f = version_texts users f.code

abbrev pub task_texts : (ℕ → Option (List ℕ)) → Task Version → Bool
task_texts users (going t) = frame_texts users t.top && list_all (frame_texts users) t.below
task_texts users ended = true
task_texts users (trapped x frames) = list_all (frame_texts users) frames

unfoldable pub machine_texts : (ℕ → Option (List ℕ)) → MachineState Version → Bool
machine_texts users s = list_all (task_texts users) s.tasks

-- where more texts are there, a machine means the same, and its texts are there still
abbrev pub MoreTextsMeanTheSame : Type 0
MoreTextsMeanTheSame =
    (users others : ℕ → Option (List ℕ)) (s : MachineState Version) → KeepsTexts users others
    → IsTrue (machine_texts users s)
    → (state_meant others s ≡ state_meant users s) × IsTrue (machine_texts others s)
