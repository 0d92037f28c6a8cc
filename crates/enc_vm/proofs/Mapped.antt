-- The machine with other codes in its frames: what each part becomes by a function on codes, and how results go along.
use Rattle.std.proofs.Common.{◌≡◌, Bool, true, false, map, Option, Some, None, Result, Ok, Err, refl, ap, ◌∙◌}
use Rattle.std.specs.Prelude.{option_map, if◌then◌else◌}
use Rattle.enc_base.specs.declared.token.Token.{Token}
use Rattle.enc_objects.specs.Objects.{Store}
use Rattle.enc_objects.specs.declared.trap.Trap.{Trap}
use Rattle.enc_frames.specs.Handlers.{Flown}
use Rattle.enc_frames.specs.Machine.{World, Frame, Thread, Task, going, ended, trapped, MachineState}
use Rattle.enc_frames.specs.Results.{◌>>=◌, or_trap, Made}
use Rattle.enc_vm.specs.Step.{Stepped, Spawning, begun, too_many, no_method}

-- a result with another value
abbrev pub result_by : {A B : Type 0} → (A → B) → Result A Trap → Result B Trap
result_by g (Ok x) = Ok (g x)
result_by g (Err x) = Err x

-- frames, threads, tasks and machines by what each of their codes becomes
abbrev pub frame_by : {C D : Type 0} → (C → D) → Frame C → Frame D
frame_by h f = record { method = f.method; code = h f.code; offset = f.offset; args = f.args; locals = f.locals; stack = f.stack; running = f.running }

abbrev pub thread_by : {C D : Type 0} → (C → D) → Thread C → Thread D
thread_by h t = record { top = frame_by h t.top; below = map (frame_by h) t.below; flight = t.flight }

abbrev pub task_by : {C D : Type 0} → (C → D) → Task C → Task D
task_by h (going t) = going (thread_by h t)
task_by h ended = ended
task_by h (trapped x frames) = trapped x (map (frame_by h) frames)

abbrev pub state_by : {C D : Type 0} → (C → D) → MachineState C → MachineState D
state_by h s = record { shared = s.shared; tasks = map (task_by h) s.tasks }

-- and what a step makes
abbrev pub pair_by : {C D : Type 0} → (C → D) → Store × Frame C → Store × Frame D
pair_by h p = (p.0, frame_by h p.1)

abbrev pub made_with_codes : {C D : Type 0} → (C → D) → Made C → Made D
made_with_codes h m = record { shared = m.shared; thread = option_map (thread_by h) m.thread; shown = m.shown }

abbrev pub flown_with_codes : {C D : Type 0} → (C → D) → Flown C → Flown D
flown_with_codes h x = record { thread = option_map (thread_by h) x.thread; left = x.left }

abbrev pub stepped_with_codes : {C D : Type 0} → (C → D) → Stepped C → Stepped D
stepped_with_codes h x = record { shared = x.shared; task = task_by h x.task; end = x.end; line = x.line; shown = x.shown }

abbrev pub spawning_with_codes : {C D : Type 0} → (C → D) → Spawning C → Spawning D
spawning_with_codes h (begun n s) = begun n (state_by h s)
spawning_with_codes h too_many = too_many
spawning_with_codes h no_method = no_method

-- worlds that agree along a function on codes: what a code says is what the one that it becomes says
pub record Agree {C D : Type 0} (h : C → D) (w : World C) (u : World D) : Type 0 where
  pub plain : u.plain ≡ w.plain
  pub body : (c : C) → u.body (h c) ≡ w.body c
  pub points : (c : C) → u.points (h c) ≡ w.points c
  pub now : (t : Token) → u.now t ≡ option_map h (w.now t)

-- such worlds, by the second one and the codes that methods have in the first
abbrev pub before : {C D : Type 0} → (C → D) → World D → (Token → Option C) → World C
before h u now = record { plain = u.plain; body = λ c. u.body (h c); points = λ c. u.points (h c); now = now }

abbrev pub after : {C D : Type 0} → (C → D) → World D → (Token → Option C) → World D
after h u now = record { plain = u.plain; body = u.body; points = u.points; now = λ t. option_map h (now t) }

pub is_before : {C D : Type 0} (h : C → D) (w : World C) (u : World D) → Agree h w u → before h u w.now ≡ w
is_before h w u agree = λ i. record { plain = agree.plain i; body = λ c. agree.body c i; points = λ c. agree.points c i; now = w.now }

pub is_after : {C D : Type 0} (h : C → D) (w : World C) (u : World D) → Agree h w u → u ≡ after h u w.now
is_after h w u agree = λ i. record { plain = u.plain; body = u.body; points = u.points; now = λ t. agree.now t i }

-- what follows a result that is the same in both
pub along : {A B D : Type 0} (g : B → D) (r : Result A Trap) (f : A → Result B Trap) (k : A → Result D Trap)
    → ((x : A) → k x ≡ result_by g (f x)) → (r >>= k) ≡ result_by g (r >>= f)
along g (Ok x) f k same = same x
along g (Err x) f k same = refl

-- and one that isn't
on_other : {A B D E : Type 0} (c : A → E) (g : B → D) (r : Result A Trap) (f : A → Result B Trap) (k : E → Result D Trap)
    → ((x : A) → k (c x) ≡ result_by g (f x)) → (result_by c r >>= k) ≡ result_by g (r >>= f)
on_other c g (Ok x) f k same = same x
on_other c g (Err x) f k same = refl

pub via : {A B D E : Type 0} (c : A → E) (g : B → D) (q : Result E Trap) (r : Result A Trap) (f : A → Result B Trap) (k : E → Result D Trap)
    → q ≡ result_by c r → ((x : A) → k (c x) ≡ result_by g (f x)) → (q >>= k) ≡ result_by g (r >>= f)
via c g q r f k e same = ap (λ z. z >>= k) e ∙ on_other c g r f k same

pub trap_by : {A B : Type 0} (g : A → B) (x : Trap) (o : Option A) → or_trap x (option_map g o) ≡ result_by g (or_trap x o)
trap_by g x (Some y) = refl
trap_by g x None = refl

-- a choice of two
pub either : {A B : Type 0} (g : A → B) (b : Bool) (x y : A) (x' y' : B) → x' ≡ g x → y' ≡ g y → (if b then x' else y') ≡ g (if b then x else y)
either g true x y x' y' ex ey = ex
either g false x y x' y' ex ey = ey
