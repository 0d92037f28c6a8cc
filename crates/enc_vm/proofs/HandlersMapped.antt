-- Thrown objects and handlers do the same whatever the codes of frames are.
use Rattle.std.proofs.Common.{◌≡◌, ℕ, ◌-◌, Bool, List, [], ◌∷◌, length, map, Option, Some, None, Ok, refl, ap, ◌∙◌, if◌then◌else◌, ◌==◌}
use Rattle.std.proofs.lemmas.List.{length-map}
use Rattle.enc_base.specs.Order.{or_else}
use Rattle.enc_base.specs.declared.token.Token.{Token}
use Rattle.enc_objects.specs.Objects.{Store, shape_in}
use Rattle.enc_objects.specs.declared.trap.Trap.TheVariants.{X2, X14}
use Rattle.enc_opcodes.specs.Body.{Handler}
use Rattle.enc_unwind.specs.Search.{next_among}
use Rattle.enc_unwind.specs.declared.way_out.WayOut.TheVariants as stop
use Rattle.enc_unwind.specs.declared.thrown.Thrown.{Thrown}
use Rattle.enc_vm.proofs.Mapped.{frame_by, thread_by, flown_with_codes, result_by, before, after, along, either}
use Rattle.enc_frames.specs.Handlers.{gone_to, start, left_by, leave_to, thrown_of, ends_search, caught_by, outer_taker, taker, throw_object, ending_handler, resumed_by, end_finally, is_taking, way_out, handled, object_taken, left_on, flown, fly}
use Rattle.enc_frames.specs.Machine.{World, Frame, Thread}
use Rattle.enc_frames.specs.Memory.{not_null}
use Rattle.enc_frames.specs.Results.{or_trap}
use Rattle.enc_frames.specs.Values.{upper, reference}
use Rattle.enc_frames.specs.declared.handler.Flight.{Flight}
use Rattle.enc_frames.specs.declared.handler.Reason.{Reason}
use Rattle.enc_frames.specs.declared.handler.Reason.TheVariants as reason
use Rattle.enc_frames.specs.declared.handler.Running.{Running}

start_same : {C D : Type 0} (h : C → D) (clauses : List Handler) (clause origin : ℕ) (why : Reason) (f : Frame C)
    → start clauses clause origin why (frame_by h f) ≡ frame_by h (start clauses clause origin why f)
unfolding start gone_to
start_same h clauses clause origin why f = refl

left_by_same : {C D : Type 0} (h : C → D) (clauses : List Handler) (origin goal : ℕ) (clause : Option ℕ) (f : Frame C)
    → left_by clauses origin goal clause (frame_by h f) ≡ frame_by h (left_by clauses origin goal clause f)
unfolding gone_to
left_by_same h clauses origin goal (Some clause) f = start_same h clauses clause origin (reason.Leave goal) f
left_by_same h clauses origin goal None f = refl

pub leave_same : {C D : Type 0} (h : C → D) (clauses : List Handler) (goal : ℕ) (f : Frame C) → leave_to clauses goal (frame_by h f) ≡ frame_by h (leave_to clauses goal f)
unfolding leave_to
leave_same h clauses goal f = left_by_same h clauses f.offset goal (next_among clauses None f.offset (stop.Leave goal)) f

outer_taker_same : {C D : Type 0} (h : C → D) (u : World D) (now : Token → Option C) (t : Thrown) (below : List (Frame C))
    → outer_taker (after h u now) t (map (frame_by h) below) ≡ outer_taker (before h u now) t below
unfolding outer_taker
outer_taker_same h u now t [] = refl
outer_taker_same h u now t (f ∷ below) =
    ap (λ (n : ℕ). or_else (caught_by (before h u now) t (f.offset - 1) f n)
    (if ends_search u.plain f then None else outer_taker (after h u now) t (map (frame_by h) below))) (length-map below (frame_by h))
    ∙ ap (λ (o : Option (ℕ × ℕ)). or_else (caught_by (before h u now) t (f.offset - 1) f (length below)) (if ends_search u.plain f then None else o))
    (outer_taker_same h u now t below)

taker_same : {C D : Type 0} (h : C → D) (u : World D) (now : Token → Option C) (t : Thrown) (f : Frame C) (below : List (Frame C))
    → taker (after h u now) t (frame_by h f) (map (frame_by h) below) ≡ taker (before h u now) t f below
taker_same h u now t f below =
    ap (λ (n : ℕ). or_else (caught_by (before h u now) t f.offset f n)
    (if ends_search u.plain f then None else outer_taker (after h u now) t (map (frame_by h) below))) (length-map below (frame_by h))
    ∙ ap (λ (o : Option (ℕ × ℕ)). or_else (caught_by (before h u now) t f.offset f (length below)) (if ends_search u.plain f then None else o))
    (outer_taker_same h u now t below)

pub throw_same : {C D : Type 0} (h : C → D) (u : World D) (now : Token → Option C) (s : Store) (t : Thread C)
    → throw_object (after h u now) s (thread_by h t) ≡ result_by (thread_by h) (throw_object (before h u now) s t)
unfolding throw_object
throw_same h u now s t =
    along (thread_by h) (upper t.top.stack) _ _ (λ p. along (thread_by h) (reference p) _ _ (λ r. along (thread_by h) (not_null r) _ _ (λ id.
    rw (taker_same h u now (thrown_of (shape_in s id)) t.top t.below)
    (along (thread_by h) (or_trap X14 (taker (before h u now) (thrown_of (shape_in s id)) t.top t.below)) _ _ (λ target. refl)))))

resumed_same : {C D : Type 0} (h : C → D) (clauses : List Handler) (t : Thread C) (r : Running) (why : Reason) (f : Frame C)
    → resumed_by clauses (thread_by h t) r why (frame_by h f) ≡ thread_by h (resumed_by clauses t r why f)
resumed_same h clauses t r (reason.Leave goal) f =
    ap (λ (g : Frame _). record (thread_by h t) { top = g }) (left_by_same h clauses r.origin goal (next_among clauses (Some r.clause) r.origin (stop.Leave goal)) f)
resumed_same h clauses t r (reason.Flight flight) f = refl

pub end_finally_same : {C D : Type 0} (h : C → D) (clauses : List Handler) (t : Thread C)
    → end_finally clauses (thread_by h t) ≡ result_by (thread_by h) (end_finally clauses t)
unfolding end_finally
end_finally_same h clauses t =
    along (thread_by h) (or_trap X2 (ending_handler clauses t.top.offset t.top.running)) _ _ (λ r.
    ap (λ (x : Thread _). Ok x) (resumed_same h clauses t r.0 r.0.reason (record t.top { running = r.1 })))

taking_same : {C D : Type 0} (h : C → D) (t : Thread C) (flight : Flight) → is_taking (thread_by h t) flight ≡ is_taking t flight
taking_same h t flight = ap (λ (n : ℕ). flight.frame == n) (length-map t.below (frame_by h))

handled_same : {C D : Type 0} (h : C → D) (clauses : List Handler) (t : Thread C) (flight : Flight) (clause : ℕ)
    → handled clauses (thread_by h t) flight clause ≡ flown_with_codes h (handled clauses t flight clause)
unfolding start gone_to
handled_same h clauses t flight clause = refl

taken_same : {C D : Type 0} (h : C → D) (clauses : List Handler) (t : Thread C) (flight : Flight)
    → object_taken clauses (thread_by h t) flight ≡ flown_with_codes h (object_taken clauses t flight)
unfolding gone_to
taken_same h clauses t flight = refl

left_on_same : {C D : Type 0} (h : C → D) (t : Thread C) (flight : Flight) (below : List (Frame C))
    → left_on (thread_by h t) flight (map (frame_by h) below) ≡ flown_with_codes h (left_on t flight below)
left_on_same h t flight [] = refl
left_on_same h t flight (f ∷ below) = refl

flown_same : {C D : Type 0} (h : C → D) (clauses : List Handler) (t : Thread C) (flight : Flight) (clause : Option ℕ)
    → flown clauses (thread_by h t) flight clause ≡ flown_with_codes h (flown clauses t flight clause)
flown_same h clauses t flight (Some clause) = handled_same h clauses t flight clause
flown_same h clauses t flight None =
    ap (λ (b : Bool). if b then object_taken clauses (thread_by h t) flight else left_on (thread_by h t) flight (map (frame_by h) t.below)) (taking_same h t flight)
    ∙ either (flown_with_codes h) (is_taking t flight) _ _ _ _ (taken_same h clauses t flight) (left_on_same h t flight t.below)

pub fly_same : {C D : Type 0} (h : C → D) (clauses : List Handler) (t : Thread C) (flight : Flight) → fly clauses (thread_by h t) flight ≡ flown_with_codes h (fly clauses t flight)
unfolding fly
fly_same h clauses t flight =
    ap (λ (b : Bool). flown clauses (thread_by h t) flight (next_among clauses flight.tried flight.origin (if b then stop.Before flight.clause else stop.All))) (taking_same h t flight)
    ∙ flown_same h clauses t flight (next_among clauses flight.tried flight.origin (way_out t flight))
