-- What a member outside makes of a frame alone it makes in any task, whatever types were touched.
use Rattle.std.proofs.Common.{◌≡◌, ℕ, Bool, List, [], ◌++◌, length, drop, Option, option_map, Result, Ok, Err, refl, ap, ◌∙◌}
use Rattle.std.specs.Prelude.{not, ◌||◌, is_some}
use Rattle.enc_base.specs.declared.token.Token.{Token}
use Rattle.enc_machine_types.specs.Outside.{outside_of}
use Rattle.enc_machine_types.specs.declared.outside.Outside.{Outside}
use Rattle.enc_machine_types.specs.declared.outside.Outside.TheVariants as outside
use Rattle.enc_objects.specs.Objects.{Store}
use Rattle.enc_objects.specs.declared.object.Content.TheVariants.{Instance, Text}
use Rattle.enc_objects.specs.declared.trap.Trap.{Trap}
use Rattle.enc_objects.specs.declared.trap.Trap.TheVariants.{X2, X5}
use Rattle.enc_objects.specs.declared.value.Value.{Value}
use Rattle.enc_objects.specs.declared.value.Value.TheVariants.{Obj}
use Rattle.enc_opcodes.specs.Body.{body_of}
use Rattle.enc_plain.specs.Module.{Module, cells_of}
use Rattle.enc_plain.specs.Rows.{token_at}
use Rattle.enc_schema.specs.Columns as columns
use Rattle.enc_versions.specs.Version.{Version}
use Rattle.enc_frames.specs.FramesSeen.{shared_by}
use Rattle.enc_frames.specs.Console.{text, or_empty, put_text, unit_at, run_constructor, run_outside, call_outside, is_outside_constructor, new_outside}
use Rattle.enc_frames.specs.ConsoleSeen.{frame_alone, MakesWriting}
use Rattle.enc_frames.specs.Machine.{version_world, Frame, Thread}
use Rattle.enc_frames.specs.Memory.{new_in}
use Rattle.enc_frames.specs.Results.{◌>>=◌, or_trap, ask, Made, with_top}
use Rattle.enc_frames.specs.Straight.{load}
use Rattle.enc_frames.specs.Values.{upper, upper_two, upper_three, reference, word_of_value}
use Rattle.enc_frames.specs.declared.stop.Stop.{Stop}
use Rattle.enc_frames.specs.declared.stop.Stop.TheVariants as stop

-- what was made of the frame alone, in a task
abbrev placed : {C : Type 0} → List Token → Thread C → Made C → Made C
placed touched t m = record { shared = shared_by m.shared.store touched; thread = option_map (λ u. with_top t u.top) m.thread; shown = m.shown }

abbrev in_task : {C : Type 0} → List Token → Thread C → Result (Made C) Trap → Result (Made C) Trap
in_task touched t (Ok m) = Ok (placed touched t m)
in_task touched t (Err trap) = Err trap

-- one thing before, which a trap stops
then_both : {A C : Type 0} (touched : List Token) (t : Thread C) (r : Result A Trap) (f g : A → Result (Made C) Trap) → ((x : A) → f x ≡ in_task touched t (g x)) → (r >>= f) ≡ in_task touched t (r >>= g)
then_both touched t (Ok x) f g each = each x
then_both touched t (Err trap) f g each = refl

text_put : {C : Type 0} (next : ℕ) (units : List ℕ) (rest : List Value) (store : Store) (touched : List Token) (t : Thread C) → put_text next units rest (shared_by store touched) t ≡ in_task touched t (put_text next units rest (shared_by store []) (frame_alone t.top))
text_put next units rest store touched t = then_both touched t (new_in (Text units) (length units) store) _ _ (λ n. refl)

constructed : {C : Type 0} (asked : Bool) (next : ℕ) (store : Store) (touched : List Token) (t : Thread C) → run_constructor asked next (shared_by store touched) t ≡ in_task touched t (run_constructor asked next (shared_by store []) (frame_alone t.top))
constructed asked next store touched t =
    then_both touched t (upper t.top.stack) _ _ (λ p. then_both touched t (reference p) _ _ (λ r. then_both touched t (ask X5 (not asked || is_some r)) _ _ (λ holds. refl)))

ran : {C : Type 0} (o : Outside) (asked : Bool) (next : ℕ) (store : Store) (touched : List Token) (t : Thread C) → run_outside o asked next (shared_by store touched) t ≡ in_task touched t (run_outside o asked next (shared_by store []) (frame_alone t.top))
unfolding run_outside
ran outside.NewObject asked next store touched t = constructed asked next store touched t
ran outside.NewException asked next store touched t = constructed asked next store touched t
ran outside.WriteLine asked next store touched t = refl
ran outside.WriteLineText asked next store touched t =
    then_both touched t (upper t.top.stack) _ _ (λ p. then_both touched t (text store p) _ _ (λ o. refl))
ran outside.WriteLineNumber asked next store touched t =
    then_both touched t (upper t.top.stack) _ _ (λ p. then_both touched t (word_of_value p) _ _ (λ n. refl))
ran outside.WriteText asked next store touched t =
    then_both touched t (upper t.top.stack) _ _ (λ p. then_both touched t (text store p) _ _ (λ o. refl))
ran outside.ConcatTwo asked next store touched t =
    then_both touched t (upper_two t.top.stack) _ _ (λ p. then_both touched t (text store p.0) _ _ (λ a. then_both touched t (text store p.1) _ _ (λ b. text_put next (or_empty a ++ or_empty b) (drop 2 t.top.stack) store touched t)))
ran outside.ConcatThree asked next store touched t =
    then_both touched t (upper_three t.top.stack) _ _ (λ p. then_both touched t (text store p.0) _ _ (λ a. then_both touched t (text store p.1) _ _ (λ b. then_both touched t (text store p.2) _ _ (λ c. text_put next (or_empty a ++ or_empty b ++ or_empty c) (drop 3 t.top.stack) store touched t))))
ran outside.AreEqual asked next store touched t =
    then_both touched t (upper_two t.top.stack) _ _ (λ p. then_both touched t (text store p.0) _ _ (λ a. then_both touched t (text store p.1) _ _ (λ b. refl)))
ran outside.TextLength asked next store touched t =
    then_both touched t (upper t.top.stack) _ _ (λ p. then_both touched t (text store p) _ _ (λ o. then_both touched t (or_trap X5 o) _ _ (λ units. refl)))
ran outside.TextUnit asked next store touched t =
    then_both touched t (upper_two t.top.stack) _ _ (λ p. then_both touched t (text store p.0) _ _ (λ o. then_both touched t (word_of_value p.1) _ _ (λ n. then_both touched t (or_trap X5 o) _ _ (λ units. then_both touched t (unit_at units n) _ _ (λ u. refl)))))

called : (users : ℕ → Option (List ℕ)) (m : Module) (methods : List (Option Version)) (asked : Bool) (next : ℕ) (member : Token) (store : Store) (touched : List Token) (t : Thread Version) → call_outside (version_world users m methods) asked next member (shared_by store touched) t ≡ in_task touched t (call_outside (version_world users m []) asked next member (shared_by store []) (frame_alone t.top))
unfolding call_outside version_world
called users m methods asked next member store touched t =
    then_both touched t (or_trap X2 (outside_of m member)) _ _ (λ o. ran o asked next store touched t)

created : (users : ℕ → Option (List ℕ)) (m : Module) (methods : List (Option Version)) (next : ℕ) (member : Token) (store : Store) (touched : List Token) (t : Thread Version) → new_outside (version_world users m methods) next member (shared_by store touched) t ≡ in_task touched t (new_outside (version_world users m []) next member (shared_by store []) (frame_alone t.top))
unfolding new_outside version_world
created users m methods next member store touched t =
    then_both touched t (or_trap X2 (outside_of m member)) _ _ (λ o. then_both touched t (ask X2 (is_outside_constructor o)) _ _ (λ holds. then_both touched t (new_in (Instance (token_at (cells_of m) member columns.member_ref_class)) 0 store) _ _ (λ n. then_both touched t (load ((body_of users t.top.code.code).stack) next (Obj n.1) t.top) _ _ (λ f. refl))))

-- what is written of the frame alone is written in the task
writes_in : (result : Result (Option (List ℕ)) Stop) (new old : Store) (f : Frame Version) (touched : List Token) (t : Thread Version) (alone said : Result (Made Version) Trap) → said ≡ in_task touched t alone → MakesWriting result new old f [] (frame_alone t.top) alone → MakesWriting result new old f touched t said
writes_in (Ok wrote) new old f touched t alone said e h = e ∙ ap (in_task touched t) h
writes_in (Err (stop.Trap trap)) new old f touched t alone said e h = (e ∙ ap (in_task touched t) h.0, h.1, h.2)
writes_in (Err stop.Memory) new old f touched t alone said e h = h

-- call, callvirt: in any task with this frame on top, whatever types were touched and whatever bodies methods have
pub call_outside_in : (users : ℕ → Option (List ℕ)) (m : Module) (methods : List (Option Version)) (asked : Bool) (next : ℕ) (member : Token) (result : Result (Option (List ℕ)) Stop) (new old : Store) (f : Frame Version) (touched : List Token) (t : Thread Version) → MakesWriting result new old f [] (frame_alone t.top) (call_outside (version_world users m []) asked next member (shared_by old []) (frame_alone t.top)) → MakesWriting result new old f touched t (call_outside (version_world users m methods) asked next member (shared_by old touched) t)
call_outside_in users m methods asked next member result new old f touched t h =
    writes_in result new old f touched t _ _ (called users m methods asked next member old touched t) h

-- newobj
pub new_outside_in : (users : ℕ → Option (List ℕ)) (m : Module) (methods : List (Option Version)) (next : ℕ) (member : Token) (result : Result (Option (List ℕ)) Stop) (new old : Store) (f : Frame Version) (touched : List Token) (t : Thread Version) → MakesWriting result new old f [] (frame_alone t.top) (new_outside (version_world users m []) next member (shared_by old []) (frame_alone t.top)) → MakesWriting result new old f touched t (new_outside (version_world users m methods) next member (shared_by old touched) t)
new_outside_in users m methods next member result new old f touched t h =
    writes_in result new old f touched t _ _ (created users m methods next member old touched t) h
