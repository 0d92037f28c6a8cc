-- For the contracts of private functions: frames of constructors that stand ready below the innermost frame.
use Rattle.std.specs.Prelude.{ℕ, ◌+◌, List, ◌∷◌, length, drop, None, Result, Ok, nat_lt}
use Rattle.enc_base.specs.declared.token.Token.{Token}
use Rattle.enc_objects.specs.Objects.{Store}
use Rattle.enc_objects.specs.declared.object.Content.TheVariants.{Instance}
use Rattle.enc_objects.specs.declared.kind.Kind.{Kind}
use Rattle.enc_objects.specs.declared.trap.Trap.{Trap}
use Rattle.enc_objects.specs.declared.trap.Trap.TheVariants.{X10, X11}
use Rattle.enc_objects.specs.declared.value.Value.{Value}
use Rattle.enc_objects.specs.declared.value.Value.TheVariants.{Null, Obj}
use Rattle.enc_versions.specs.Version.{Version}
use Rattle.enc_frames.specs.ArgumentsSeen.{fitting}
use Rattle.enc_vm.specs.Calls.{construct, most_frames, entering}
use Rattle.enc_vm.specs.declared.construct.Construction.{Construction}
use Rattle.enc_frames.specs.Callers.{without_first}
use Rattle.enc_frames.specs.FramesSeen.{frame_at, with_nearest, nearest_or, with_object_first}
use Rattle.enc_plain.specs.Module.{Module}
use Rattle.enc_frames.specs.Machine.{World, Frame, Thread, Shared}
use Rattle.enc_frames.specs.Memory.{new_in}
use Rattle.enc_frames.specs.Results.{◌>>=◌, or_trap, ask, Made}
use Rattle.enc_frames.specs.Straight.{moved_on}
use Rattle.enc_frames.specs.Values.{pushed}

-- a frame stands ready below the innermost one, and null on that one's stack
abbrev pub made_ready : Frame Version → Thread Version → Thread Version
made_ready f t = record t { top = record t.top { stack = Null ∷ t.top.stack }; below = f ∷ t.below }

-- both go
abbrev pub let_go : Thread Version → Thread Version
let_go t = record t { top = record t.top { stack = drop 1 t.top.stack }; below = without_first t.below }

-- the frame that stood ready begins
abbrev pub held_begun : ℕ → ℕ → Value → Thread Version → Thread Version
held_begun next n v t = record {
  top = with_object_first v (nearest_or (moved_on next (v ∷ drop n t.top.stack) t.top) t.below);
  below = with_nearest (moved_on next (v ∷ drop n t.top.stack) t.top) t.below;
  flight = None;
}

-- an object is made, and its constructor's frame is entered
abbrev pub object_entered : Token → ℕ → ℕ → Frame Version → Store → Thread Version
    → Result (Store × Thread Version) Trap
object_entered class next n frame s t =
    new_in (Instance class) 0 s >>= λ o. pushed t.top.code.code.max (Obj o.1)
    (moved_on next (drop n t.top.stack) t.top) >>= λ caller.
    Ok (o.0, record { top = with_object_first (Obj o.1) frame; below = caller ∷ t.below; flight = None })

-- what a constructor is called with, from the top of a stack, with null in the place of its object
abbrev pub with_null : List Kind → List Value → Result (List Value) Trap
with_null kinds stack = fitting kinds stack >>= λ args. Ok (Null ∷ args)

-- what all tasks share and the frames, where a method was entered
abbrev pub entered_by : Shared → Token → Store × Thread Version → Made Version
entered_by s method x = entering (record s { store = x.0 }) method x.1

-- a frame at the first instruction of a method that is run
abbrev pub frame_made : World Version → Module → Token → List Value → Result (Frame Version) Trap
frame_made w m method args = or_trap X10 (w.now method) >>= λ code. Ok (frame_at m method code args)

-- a new object by these arguments of its constructor, which are so many values on the stack
abbrev pub constructed_on : World Version → Module → ℕ → ℕ → Token → Token → List Value → Thread Version → Shared
    → Result (Made Version) Trap
constructed_on w m next n class method args t s =
    frame_made w m method args >>= λ f. ask X11 (nat_lt (length t.below + 1) most_frames) >>= λ _.
    object_entered class next n f s.store t >>= λ x. Ok (entered_by s method x)

-- a new object by what stands on the stack
abbrev pub construct_made : World Version → Construction → Thread Version → Shared → Result (Made Version) Trap
construct_made w c t s = construct w c.next c.method c.shape t s
