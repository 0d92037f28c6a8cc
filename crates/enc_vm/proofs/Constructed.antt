-- Frames of constructors that stand ready below the innermost frame.
use Rattle.std.proofs.Common.{◌≡◌, ℕ, suc, ◌+◌, ◌≤◌, Bool, true, false, List, ◌∷◌, length, take, drop, reverse, Option, Some, None, Result, Ok, Err, refl, sym, ap, ◌∙◌, arith}
use Rattle.std.specs.Prelude.{nat_le, nat_lt, not, ◌&&◌, if◌then◌else◌}
use Rattle.std.proofs.lemmas.Bool.Decides.{nat_tests}
use Rattle.enc_base.specs.declared.token.Token.{Token}
use Rattle.enc_machine_types.specs.Elements.{CallShape}
use Rattle.enc_objects.specs.Objects.{Store}
use Rattle.enc_objects.specs.declared.kind.Kind.{Kind}
use Rattle.enc_objects.specs.declared.object.Content.TheVariants.{Instance}
use Rattle.enc_objects.specs.declared.trap.Trap.{Trap}
use Rattle.enc_objects.specs.declared.trap.Trap.TheVariants.{X2, X3, X10, X11}
use Rattle.enc_objects.specs.declared.value.Value.{Value}
use Rattle.enc_objects.specs.declared.value.Value.TheVariants.{Null, Obj}
use Rattle.enc_opcodes.specs.Body.{body_of}
use Rattle.enc_plain.specs.Module.{Module, cells_of}
use Rattle.enc_plain.specs.ValueType.{is_value_type}
use Rattle.enc_versions.specs.Version.{Version}
use Rattle.enc_vm.proofs.Called.{in_turn}
use Rattle.enc_frames.specs.ArgumentsSeen.{fitting}
use Rattle.enc_frames.specs.Values.{arguments}
use Rattle.enc_vm.specs.Calls.{construct, declaring, entering, most_frames, new_frame, new_object, touch}
use Rattle.enc_frames.specs.Straight.{named_method}
use Rattle.enc_frames.specs.FramesSeen.{frame_at}
use Rattle.enc_frames.specs.FramesSeen.{with_object_first}
use Rattle.enc_vm.specs.ConstructSeen.{object_entered, with_null, entered_by, constructed_on}
use Rattle.enc_frames.specs.Machine.{World, Frame, Thread, Shared, version_world}
use Rattle.enc_frames.specs.Memory.{new_in}
use Rattle.enc_frames.specs.Results.{◌>>=◌, or_trap, ask, Made}
use Rattle.enc_frames.specs.Straight.{moved_on}
use Rattle.enc_frames.specs.Values.{fit_all, pushed}

pub drop_more : {A : Type 0} (n : ℕ) (x : A) (xs : List A) → drop (n + 1) (x ∷ xs) ≡ drop n xs
drop_more n x xs = let on : n + 1 ≡ suc n = omega arith in ap (λ (k : ℕ). drop k (x ∷ xs)) on

by_count : {A B : Type 0} (b : Bool) (n k : ℕ) (x : A) (f : A → Result B Trap) (l : B) → nat_le n k ≡ b → ((if b then Ok x else Err X3) >>= f) ≡ Ok l → n ≤ k
by_count true n k x f l is e = grind (arith, nat_tests, is)
by_count false n k x f l is e = absurd cc

-- where values fit, there are so many
pub are_there : (kinds : List Kind) (stack l : List Value) → fitting kinds stack ≡ Ok l → length kinds ≤ length stack
unfolding arguments
are_there kinds stack l e =
    by_count (nat_le (length kinds) (length stack)) (length kinds) (length stack) (reverse (take (length kinds) stack)) (fit_all kinds) l refl e

by_caller : (s : Shared) (t : Thread Version) (m : Module) (method : Token) (code : Version) (args : List Value) (n : Store × ℕ) (r : Result (Frame Version) Trap)
    → (r >>= λ caller. Ok (entering (record s { store = n.0 }) method (record { top = frame_at m method code (Obj n.1 ∷ args); below = caller ∷ t.below; flight = None })))
    ≡ ((r >>= λ caller. Ok (n.0, record { top = with_object_first (Obj n.1) (frame_at m method code (Null ∷ args)); below = caller ∷ t.below; flight = None }))
    >>= λ x. Ok (entered_by s method x))
by_caller s t m method code args n (Ok caller) = refl
by_caller s t m method code args n (Err x) = refl

-- the object, its place on the caller's stack and its constructor's frame, one after the other
abbrev pub made_and_entered : Module → ℕ → ℕ → Token → Version → List Value → Thread Version → Shared → Result (Store × ℕ) Trap → Result (Made Version) Trap
made_and_entered m next k method code args t s r =
    r >>= λ n. pushed t.top.code.code.max (Obj n.1) (moved_on next (drop k t.top.stack) t.top) >>= λ caller.
    Ok (entering (record s { store = n.0 }) method (record { top = frame_at m method code (Obj n.1 ∷ args); below = caller ∷ t.below; flight = None }))

by_store : (m : Module) (next k : ℕ) (method : Token) (code : Version) (args : List Value) (t : Thread Version) (s : Shared) (r : Result (Store × ℕ) Trap)
    → made_and_entered m next k method code args t s r
    ≡ ((r >>= λ n. pushed t.top.code.code.max (Obj n.1) (moved_on next (drop k t.top.stack) t.top) >>= λ caller.
    Ok (n.0, record { top = with_object_first (Obj n.1) (frame_at m method code (Null ∷ args)); below = caller ∷ t.below; flight = None }))
    >>= λ x. Ok (entered_by s method x))
by_store m next k method code args t s (Err x) = refl
by_store m next k method code args t s (Ok n) = by_caller s t m method code args n (pushed t.top.code.code.max (Obj n.1) (moved_on next (drop k t.top.stack) t.top))

by_room : (m : Module) (next k : ℕ) (class method : Token) (code : Version) (args : List Value) (t : Thread Version) (s : Shared) (a : Result Bool Trap)
    → (a >>= λ _. made_and_entered m next k method code args t s (new_in (Instance class) 0 s.store))
    ≡ (a >>= λ _. object_entered class next k (frame_at m method code (Null ∷ args)) s.store t >>= λ x. Ok (entered_by s method x))
by_room m next k class method code args t s (Err x) = refl
by_room m next k class method code args t s (Ok holds) = by_store m next k method code args t s (new_in (Instance class) 0 s.store)

by_code : (m : Module) (next k : ℕ) (class method : Token) (args : List Value) (t : Thread Version) (s : Shared) (o : Option Version)
    → (or_trap X10 o >>= λ code. ask X11 (nat_lt (length t.below + 1) most_frames) >>= λ _.
    made_and_entered m next k method code args t s (new_in (Instance class) 0 s.store))
    ≡ ((or_trap X10 o >>= λ code. Ok (frame_at m method code (Null ∷ args))) >>= λ f. ask X11 (nat_lt (length t.below + 1) most_frames) >>= λ _.
    object_entered class next k f s.store t >>= λ x. Ok (entered_by s method x))
by_code m next k class method args t s None = refl
by_code m next k class method args t s (Some code) = by_room m next k class method code args t s (ask X11 (nat_lt (length t.below + 1) most_frames))

by_args : (w : World Version) (m : Module) (next k : ℕ) (class method : Token) (t : Thread Version) (s : Shared) (r : Result (List Value) Trap)
    → (r >>= λ args. or_trap X10 (w.now method) >>= λ code. ask X11 (nat_lt (length t.below + 1) most_frames) >>= λ _.
    made_and_entered m next k method code args t s (new_in (Instance class) 0 s.store))
    ≡ ((r >>= λ args. Ok (Null ∷ args)) >>= λ args. constructed_on w m next k class method args t s)
by_args w m next k class method t s (Err x) = refl
by_args w m next k class method t s (Ok args) = by_code m next k class method args t s (w.now method)

-- a new object, by what its constructor is called with
pub construct_is : (users : ℕ → Option (List ℕ)) (m : Module) (methods : List (Option Version)) (next : ℕ) (method : Token) (shape : CallShape)
    (t : Thread Version) (s : Shared)
    → construct (version_world users m methods) next method shape t s
    ≡ (with_null shape.takes t.top.stack >>= λ args.
    constructed_on (version_world users m methods) m next (length shape.takes) (declaring m method) method args t s)
unfolding construct version_world body_of new_frame
construct_is users m methods next method shape t s =
    sym (in_turn (arguments (length shape.takes) t.top.stack) (λ taken. fit_all shape.takes taken)
    (λ args. or_trap X10 ((version_world users m methods).now method) >>= λ code. ask X11 (nat_lt (length t.below + 1) most_frames) >>= λ _.
    made_and_entered m next (length shape.takes) method code args t s (new_in (Instance (declaring m method)) 0 s.store)))
    ∙ by_args (version_world users m methods) m next (length shape.takes) (declaring m method) method t s (fitting shape.takes t.top.stack)

-- newobj
pub new_object_is : (users : ℕ → Option (List ℕ)) (m : Module) (methods : List (Option Version)) (next : ℕ) (method : Token) (s : Shared) (t : Thread Version)
    → new_object (version_world users m methods) next method s t
    ≡ (named_method m method >>= λ (shape : CallShape). ask X2 (shape.this && not (is_value_type (cells_of m) (declaring m method))) >>= λ _.
    touch (version_world users m methods) s t (declaring m method) (construct (version_world users m methods) next method shape t))
unfolding new_object version_world
new_object_is users m methods next method s t = refl
