-- Handlers begin at places and go on to places.
use Rattle.std.proofs.Common.{◌≡◌, ℕ, true, List, [], ◌∷◌, Option, Some, None, refl}
use Rattle.std.proofs.lemmas.Bool.{and_parts, and_from}
use Rattle.enc_objects.specs.Objects.{Store, shape_in}
use Rattle.enc_objects.specs.declared.trap.Trap.TheVariants.{X2, X14}
use Rattle.enc_opcodes.specs.Body.{Body}
use Rattle.enc_unwind.specs.Search.{is_in_range, next_among}
use Rattle.enc_unwind.specs.declared.way_out.WayOut.TheVariants as stop
use Rattle.enc_vm.proofs.Placed.{AfterOk, AfterSome, through, after_that, or_trapped, either_way, handler_place, fewer_hold}
use Rattle.enc_frames.specs.Handlers.{handler_range, pruned, gone_to, start, left_by, leave_to, thrown_of, taker, throw_object, ending_handler, resumed_by, end_finally, is_taking, way_out, Flown, object_taken, left_on, flown, fly}
use Rattle.enc_frames.specs.Machine.{World, Frame, Thread}
use Rattle.enc_frames.specs.Memory.{not_null}
use Rattle.enc_vm.specs.Placed.{is_place_in, leads_to_place, lead_to_places, IsFramePlaced, AreFramesPlaced, IsThreadPlaced}
use Rattle.enc_frames.specs.Results.{or_trap}
use Rattle.enc_frames.specs.Values.{upper, reference}
use Rattle.enc_frames.specs.declared.handler.Flight.{Flight}
use Rattle.enc_frames.specs.declared.handler.Reason.{Reason}
use Rattle.enc_frames.specs.declared.handler.Reason.TheVariants as reason
use Rattle.enc_frames.specs.declared.handler.Running.{Running}

-- fewer handlers run
pruned_lead : (b : Body) (offset : ℕ) (running : List Running) → lead_to_places b running ≡ true → lead_to_places b (pruned b.handlers offset running) ≡ true
unfolding pruned
pruned_lead b offset running h =
    fewer_hold (λ (r : Running). leads_to_place b r.reason) (λ (r : Running). is_in_range (handler_range b.handlers r.clause) offset) running h

gone_placed : {C : Type 0} (w : World C) (offset : ℕ) (f : Frame C) → IsFramePlaced w f → is_place_in (w.body f.code) offset ≡ true
    → IsFramePlaced w (gone_to ((w.body f.code).handlers) offset f)
unfolding gone_to
gone_placed w offset f p at = record { sound = p.sound; at = at; leaves = pruned_lead (w.body f.code) offset f.running p.leaves }

start_placed : {C : Type 0} (w : World C) (clause origin : ℕ) (why : Reason) (f : Frame C) → IsFramePlaced w f → leads_to_place (w.body f.code) why ≡ true
    → IsFramePlaced w (start ((w.body f.code).handlers) clause origin why f)
unfolding start gone_to
start_placed w clause origin why f p leads = record {
  sound = p.sound;
  at = handler_place (w.body f.code) p.sound clause;
  leaves = and_from (leads_to_place (w.body f.code) why)
      (lead_to_places (w.body f.code) (pruned ((w.body f.code).handlers) ((handler_range ((w.body f.code).handlers) clause).0) f.running))
      leads (pruned_lead (w.body f.code) ((handler_range ((w.body f.code).handlers) clause).0) f.running p.leaves);
}

left_by_placed : {C : Type 0} (w : World C) (origin goal : ℕ) (clause : Option ℕ) (f : Frame C) → IsFramePlaced w f → is_place_in (w.body f.code) goal ≡ true
    → IsFramePlaced w (left_by ((w.body f.code).handlers) origin goal clause f)
left_by_placed w origin goal (Some clause) f p g = start_placed w clause origin (reason.Leave goal) f p g
left_by_placed w origin goal None f p g = gone_placed w goal f p g

pub leave_placed : {C : Type 0} (w : World C) (goal : ℕ) (f : Frame C) → IsFramePlaced w f → is_place_in (w.body f.code) goal ≡ true
    → IsFramePlaced w (leave_to ((w.body f.code).handlers) goal f)
unfolding leave_to
leave_placed w goal f p g = left_by_placed w f.offset goal (next_among ((w.body f.code).handlers) None f.offset (stop.Leave goal)) f p g

pub throw_placed : {C : Type 0} (w : World C) (s : Store) (t : Thread C) → IsThreadPlaced w t → AfterOk (IsThreadPlaced w) (throw_object w s t)
unfolding throw_object
throw_placed w s t p =
    through (IsThreadPlaced w) (upper t.top.stack) _ (λ v. through (IsThreadPlaced w) (reference v) _ (λ r. through (IsThreadPlaced w) (not_null r) _ (λ id.
    through (IsThreadPlaced w) (or_trap X14 (taker w (thrown_of (shape_in s id)) t.top t.below)) _ (λ target. p))))

-- the handler that ends, and those that go on
abbrev EndLeads : Body → Running × List Running → Type 0
EndLeads b x = (leads_to_place b x.0.reason ≡ true) × (lead_to_places b x.1 ≡ true)

ending_leads : (b : Body) (offset : ℕ) (running : List Running) → lead_to_places b running ≡ true → AfterSome (EndLeads b) (ending_handler b.handlers offset running)
ending_leads b offset [] h = tt
ending_leads b offset (r ∷ rest) h =
    let a = and_parts (leads_to_place b r.reason) (lead_to_places b rest) h in
    either_way (AfterSome (EndLeads b)) (is_in_range (handler_range b.handlers r.clause) offset) (Some (r, rest)) None (a.0, a.1) tt

resumed_placed : {C : Type 0} (w : World C) (t : Thread C) (r : Running) (why : Reason) (f : Frame C)
    → IsFramePlaced w f → AreFramesPlaced w t.below → leads_to_place (w.body f.code) why ≡ true → IsThreadPlaced w (resumed_by ((w.body f.code).handlers) t r why f)
resumed_placed w t r (reason.Leave goal) f p b leads =
    (left_by_placed w r.origin goal (next_among ((w.body f.code).handlers) (Some r.clause) r.origin (stop.Leave goal)) f p leads, b)
resumed_placed w t r (reason.Flight flight) f p b leads = (p, b)

without_it : {C : Type 0} (w : World C) (f : Frame C) (rest : List Running) → IsFramePlaced w f → lead_to_places (w.body f.code) rest ≡ true → IsFramePlaced w (record f { running = rest })
without_it w f rest p leads = record { sound = p.sound; at = p.at; leaves = leads }

pub end_finally_placed : {C : Type 0} (w : World C) (t : Thread C) → IsThreadPlaced w t → AfterOk (IsThreadPlaced w) (end_finally ((w.body t.top.code).handlers) t)
unfolding end_finally
end_finally_placed w t p =
    after_that (EndLeads (w.body t.top.code)) (IsThreadPlaced w) (or_trap X2 (ending_handler ((w.body t.top.code).handlers) t.top.offset t.top.running)) _
    (or_trapped (EndLeads (w.body t.top.code)) X2 (ending_handler ((w.body t.top.code).handlers) t.top.offset t.top.running)
    (ending_leads (w.body t.top.code) t.top.offset t.top.running p.0.leaves))
    (λ x leads. resumed_placed w t x.0 x.0.reason (record t.top { running = x.1 }) (without_it w t.top x.1 p.0 leads.1) p.1 leads.0)

-- the frames that a flight's step leaves
abbrev pub IsFlownPlaced : {C : Type 0} → World C → Flown C → Type 0
IsFlownPlaced w x = AfterSome (IsThreadPlaced w) x.thread

taken_placed : {C : Type 0} (w : World C) (t : Thread C) (flight : Flight) → IsThreadPlaced w t → IsFlownPlaced w (object_taken ((w.body t.top.code).handlers) t flight)
unfolding gone_to
taken_placed w t flight p = (
  record {
    sound = p.0.sound;
    at = handler_place (w.body t.top.code) p.0.sound flight.clause;
    leaves = pruned_lead (w.body t.top.code) ((handler_range ((w.body t.top.code).handlers) flight.clause).0) t.top.running p.0.leaves;
  },
  p.1,
)

left_on_placed : {C : Type 0} (w : World C) (t : Thread C) (flight : Flight) (below : List (Frame C)) → AreFramesPlaced w below → IsFlownPlaced w (left_on t flight below)
left_on_placed w t flight [] p = tt
left_on_placed w t flight (f ∷ below) p = (p.0, p.1)

flown_placed : {C : Type 0} (w : World C) (t : Thread C) (flight : Flight) (clause : Option ℕ) → IsThreadPlaced w t
    → IsFlownPlaced w (flown ((w.body t.top.code).handlers) t flight clause)
flown_placed w t flight (Some clause) p = (start_placed w clause flight.origin (reason.Flight (record flight { tried = Some clause })) t.top p.0 refl, p.1)
flown_placed w t flight None p =
    either_way (IsFlownPlaced w) (is_taking t flight) _ _ (taken_placed w t flight p) (left_on_placed w t flight t.below p.1)

pub fly_placed : {C : Type 0} (w : World C) (t : Thread C) (flight : Flight) → IsThreadPlaced w t → IsFlownPlaced w (fly ((w.body t.top.code).handlers) t flight)
unfolding fly
fly_placed w t flight p =
    flown_placed w t flight (next_among ((w.body t.top.code).handlers) flight.tried flight.origin (way_out t flight)) p
