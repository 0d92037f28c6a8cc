-- Instructions on a frame's own values do the same whatever the frame's code is.
use Rattle.std.proofs.Common.{◌≡◌, ℕ, Bool, List, length, Option, refl, slice_get}
use Rattle.std.specs.Prelude.{nat_lt}
use Rattle.enc_objects.specs.Instructions.{on_two, on_one}
use Rattle.enc_objects.specs.declared.kind.Kind.{Kind}
use Rattle.enc_objects.specs.declared.trap.Trap.TheVariants.{X2}
use Rattle.enc_objects.specs.declared.value.Value.{Value}
use Rattle.enc_opcodes.specs.declared.op.Op.{Op}
use Rattle.enc_vm.proofs.Mapped.{frame_by, result_by, along, either}
use Rattle.enc_frames.specs.Machine.{Frame}
use Rattle.enc_frames.specs.Results.{or_trap}
use Rattle.enc_frames.specs.Straight.{moved_on, load, load_argument, load_local, store_argument, store_local, duplicate, discard, branch_if, branch_by, switch_to, on_upper_two, on_top}
use Rattle.enc_frames.specs.Values.{fit, upper, upper_two, pushed, word_of_value, tested}
use Rattle.enc_frames.specs.declared.act.Test.{Test}

pub pushed_same : {C D : Type 0} (h : C → D) (max : ℕ) (v : Value) (f : Frame C) → pushed max v (frame_by h f) ≡ result_by (frame_by h) (pushed max v f)
pushed_same h max v f = either (result_by (frame_by h)) (nat_lt (length f.stack) max) _ _ _ _ refl refl

pub load_same : {C D : Type 0} (h : C → D) (max next : ℕ) (v : Value) (f : Frame C) → load max next v (frame_by h f) ≡ result_by (frame_by h) (load max next v f)
unfolding load
load_same h max next v f = pushed_same h max v (moved_on next f.stack f)

pub load_argument_same : {C D : Type 0} (h : C → D) (max next n : ℕ) (f : Frame C)
    → load_argument max next n (frame_by h f) ≡ result_by (frame_by h) (load_argument max next n f)
unfolding load_argument
load_argument_same h max next n f = along (frame_by h) (or_trap X2 (slice_get f.args n)) _ _ (λ v. load_same h max next v f)

pub load_local_same : {C D : Type 0} (h : C → D) (max next n : ℕ) (f : Frame C)
    → load_local max next n (frame_by h f) ≡ result_by (frame_by h) (load_local max next n f)
unfolding load_local
load_local_same h max next n f = along (frame_by h) (or_trap X2 (slice_get f.locals n)) _ _ (λ v. load_same h max next v f)

pub store_argument_same : {C D : Type 0} (h : C → D) (kind : Option Kind) (next n : ℕ) (f : Frame C)
    → store_argument kind next n (frame_by h f) ≡ result_by (frame_by h) (store_argument kind next n f)
unfolding store_argument
store_argument_same h kind next n f =
    along (frame_by h) (or_trap X2 kind) _ _ (λ k. along (frame_by h) (upper f.stack) _ _ (λ p. along (frame_by h) (fit k p) _ _ (λ v. refl)))

pub store_local_same : {C D : Type 0} (h : C → D) (kind : Option Kind) (next n : ℕ) (f : Frame C)
    → store_local kind next n (frame_by h f) ≡ result_by (frame_by h) (store_local kind next n f)
unfolding store_local
store_local_same h kind next n f =
    along (frame_by h) (or_trap X2 kind) _ _ (λ k. along (frame_by h) (upper f.stack) _ _ (λ p. along (frame_by h) (fit k p) _ _ (λ v. refl)))

pub duplicate_same : {C D : Type 0} (h : C → D) (max next : ℕ) (f : Frame C) → duplicate max next (frame_by h f) ≡ result_by (frame_by h) (duplicate max next f)
unfolding duplicate
duplicate_same h max next f = along (frame_by h) (upper f.stack) _ _ (λ p. load_same h max next p f)

pub discard_same : {C D : Type 0} (h : C → D) (next : ℕ) (f : Frame C) → discard next (frame_by h f) ≡ result_by (frame_by h) (discard next f)
unfolding discard
discard_same h next f = along (frame_by h) (upper f.stack) _ _ (λ p. refl)

pub branch_if_same : {C D : Type 0} (h : C → D) (wanted : Bool) (goal next : ℕ) (f : Frame C)
    → branch_if wanted goal next (frame_by h f) ≡ result_by (frame_by h) (branch_if wanted goal next f)
unfolding branch_if
branch_if_same h wanted goal next f = along (frame_by h) (upper f.stack) _ _ (λ p. refl)

pub branch_by_same : {C D : Type 0} (h : C → D) (test : Test) (goal next : ℕ) (f : Frame C)
    → branch_by test goal next (frame_by h f) ≡ result_by (frame_by h) (branch_by test goal next f)
unfolding branch_by
branch_by_same h test goal next f =
    along (frame_by h) (upper_two f.stack) _ _ (λ p. along (frame_by h) (tested test p.0 p.1) _ _ (λ holds. refl))

pub switch_same : {C D : Type 0} (h : C → D) (goals : List ℕ) (next : ℕ) (f : Frame C)
    → switch_to goals next (frame_by h f) ≡ result_by (frame_by h) (switch_to goals next f)
unfolding switch_to
switch_same h goals next f = along (frame_by h) (upper f.stack) _ _ (λ p. along (frame_by h) (word_of_value p) _ _ (λ n. refl))

pub on_upper_two_same : {C D : Type 0} (h : C → D) (op : Op) (next : ℕ) (f : Frame C)
    → on_upper_two op next (frame_by h f) ≡ result_by (frame_by h) (on_upper_two op next f)
unfolding on_upper_two
on_upper_two_same h op next f = along (frame_by h) (upper_two f.stack) _ _ (λ p. along (frame_by h) (on_two op p.0 p.1) _ _ (λ v. refl))

pub on_top_same : {C D : Type 0} (h : C → D) (op : Op) (next : ℕ) (f : Frame C) → on_top op next (frame_by h f) ≡ result_by (frame_by h) (on_top op next f)
unfolding on_top
on_top_same h op next f = along (frame_by h) (upper f.stack) _ _ (λ p. along (frame_by h) (on_one op p) _ _ (λ v. refl))
