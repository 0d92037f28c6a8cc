-- What instructions do to one frame, and to objects beside it (ECMA-335 III.3, III.4).
use Rattle.std.specs.Prelude.{ℕ, Ok}
use Rattle.enc_machine_types.specs.Types.{type_kind}
use Rattle.enc_objects.specs.Objects.{Store}
use Rattle.enc_objects.specs.declared.trap.Trap.TheVariants.{X2}
use Rattle.enc_frames.specs.Handlers.{leave_to}
use Rattle.enc_frames.specs.Machine.{World, Frame}
use Rattle.enc_frames.specs.Memory.{load_field_of, store_field_of, named_field, new_array_of_kind, array_length, load_element, store_element, cast_to, instance_or_null, Stored}
use Rattle.enc_frames.specs.Results.{◌>>=◌, or_trap}
use Rattle.enc_frames.specs.Straight.{Framed, moved_on, load, load_argument, load_local, store_argument, store_local, argument_kind, local_kind, duplicate, discard, branch_if, branch_by}
use Rattle.enc_frames.specs.declared.act.FrameAct.{FrameAct}
use Rattle.enc_frames.specs.declared.act.ObjectAct.{ObjectAct}
use Rattle.enc_frames.specs.declared.act.FrameAct.TheVariants as frame
use Rattle.enc_frames.specs.declared.act.ObjectAct.TheVariants as object

-- what an instruction does to its frame alone; next is where the one behind it begins
unfoldable pub frame_act : {C : Type 0} → World C → ℕ → FrameAct → Frame C → Framed C
frame_act w next frame.Nothing f = Ok (moved_on next f.stack f)
frame_act w next (frame.LoadArg n) f = load_argument ((w.body f.code).stack) next n f
frame_act w next (frame.StoreArg n) f = store_argument (argument_kind w.plain f n) next n f
frame_act w next (frame.LoadLocal n) f = load_local ((w.body f.code).stack) next n f
frame_act w next (frame.StoreLocal n) f = store_local (local_kind w.plain ((w.body f.code).locals) f n) next n f
frame_act w next (frame.Constant v) f = load ((w.body f.code).stack) next v f
frame_act w next frame.Duplicate f = duplicate ((w.body f.code).stack) next f
frame_act w next frame.Discard f = discard next f
frame_act w next (frame.Branch goal) f = Ok (moved_on goal f.stack f)
frame_act w next (frame.BranchIf wanted goal) f = branch_if wanted goal next f
frame_act w next (frame.BranchBy test goal) f = branch_by test goal next f
frame_act w next (frame.Leave goal) f = Ok (leave_to ((w.body f.code).handlers) goal f)

-- what one does to objects and its frame
unfoldable pub object_act : {C : Type 0} → World C → ℕ → ObjectAct → Store → Frame C → Stored C
object_act w next (object.LoadField field) s f = named_field w.plain field >>= λ k. load_field_of k next field s f
object_act w next (object.StoreField field) s f = named_field w.plain field >>= λ k. store_field_of k next field s f
object_act w next (object.NewArray type) s f = or_trap X2 (type_kind w.plain type) >>= λ k. new_array_of_kind k next s f
object_act w next object.Length s f = array_length next s f
object_act w next (object.LoadElement k) s f = load_element k next s f
object_act w next (object.LoadElementOf type) s f = or_trap X2 (type_kind w.plain type) >>= λ k. load_element k next s f
object_act w next (object.StoreElement k) s f = store_element k next s f
object_act w next (object.StoreElementOf type) s f =
    or_trap X2 (type_kind w.plain type) >>= λ k. store_element k next s f
object_act w next (object.Cast type) s f = cast_to w.plain next type s f
object_act w next (object.IsInstance type) s f = instance_or_null w.plain next type s f
