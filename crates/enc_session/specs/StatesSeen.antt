-- For the contracts of private functions: an object and a task by their numbers, as they are shown.
use Rattle.std.specs.Prelude.{ℕ, List, [], option_map, unwrap_or}
use Rattle.enc_objects.specs.Objects.{Store, object_at}
use Rattle.enc_objects.specs.declared.object.Object.{Object}
use Rattle.enc_vm.specs.Looks.{frame_in}
use Rattle.enc_frames.specs.Machine.{Task, MachineState}
use Rattle.enc_vm.specs.Step.{task_at}
use Rattle.enc_session.specs.Lines.{task_line}
use Rattle.enc_session.specs.States.{content_text, frame_line, object_line, standing_text, task_text}

-- what the object of a number is, nothing where there is none
unfoldable pub content_at : Store → ℕ → List ℕ
content_at s id = unwrap_or (option_map (λ (o : Object). content_text o.content o.fields) (object_at s id)) []

-- its line
unfoldable pub object_line_at : Store → ℕ → List ℕ
object_line_at s id = unwrap_or (option_map (object_line id) (object_at s id)) []

-- the line of how it stands with the task of a number, nothing where there is none
unfoldable pub standing_at : {C : Type 0} → MachineState C → ℕ → List ℕ
standing_at s task = unwrap_or (option_map (λ (t : Task _). task_line task (standing_text t)) (task_at s task)) []

-- the line of the i-th frame of a task, from the outermost, nothing where there is none
unfoldable pub frame_line_at : {C : Type 0} → MachineState C → ℕ → ℕ → List ℕ
frame_line_at s task i = unwrap_or (option_map frame_line (frame_in s task i)) []

-- the task of a number, nothing where there is none
unfoldable pub task_text_at : {C : Type 0} → MachineState C → ℕ → List ℕ
task_text_at s task = unwrap_or (option_map (task_text task) (task_at s task)) []
