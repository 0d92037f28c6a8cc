-- Members outside do the same whatever the codes of frames are.
use Rattle.std.proofs.Common.{◌≡◌, ℕ, Bool, not, ◌||◌, List, length, Option, refl, is_some}
use Rattle.enc_base.specs.declared.token.Token.{Token}
use Rattle.enc_machine_types.specs.Outside.{outside_of}
use Rattle.enc_machine_types.specs.declared.outside.Outside.{Outside}
use Rattle.enc_machine_types.specs.declared.outside.Outside.TheVariants as outside
use Rattle.enc_objects.specs.declared.object.Content.TheVariants.{Instance, Text}
use Rattle.enc_objects.specs.declared.trap.Trap.TheVariants.{X2, X5}
use Rattle.enc_objects.specs.declared.value.Value.{Value}
use Rattle.enc_objects.specs.declared.value.Value.TheVariants.{Obj}
use Rattle.enc_plain.specs.Module.{cells_of}
use Rattle.enc_plain.specs.Rows.{token_at}
use Rattle.enc_schema.specs.Columns as columns
use Rattle.enc_vm.proofs.FramesMapped.{load_same}
use Rattle.enc_vm.proofs.Mapped.{frame_by, thread_by, made_with_codes, result_by, before, after, along, via}
use Rattle.enc_frames.specs.Console.{text, or_empty, put_text, unit_at, run_constructor, run_outside, call_outside, is_outside_constructor, new_outside}
use Rattle.enc_frames.specs.Machine.{World, Thread, Shared}
use Rattle.enc_frames.specs.Memory.{new_in}
use Rattle.enc_frames.specs.Results.{or_trap, ask}
use Rattle.enc_frames.specs.Straight.{load}
use Rattle.enc_frames.specs.Values.{upper, upper_two, upper_three, reference, word_of_value}
use Rattle.std.specs.Prelude.{drop, ◌++◌}

put_text_same : {C D : Type 0} (h : C → D) (next : ℕ) (units : List ℕ) (rest : List Value) (s : Shared) (t : Thread C)
    → put_text next units rest s (thread_by h t) ≡ result_by (made_with_codes h) (put_text next units rest s t)
put_text_same h next units rest s t = along (made_with_codes h) (new_in (Text units) (length units) s.store) _ _ (λ n. refl)

constructor_same : {C D : Type 0} (h : C → D) (asked : Bool) (next : ℕ) (s : Shared) (t : Thread C)
    → run_constructor asked next s (thread_by h t) ≡ result_by (made_with_codes h) (run_constructor asked next s t)
constructor_same h asked next s t =
    along (made_with_codes h) (upper t.top.stack) _ _ (λ p. along (made_with_codes h) (reference p) _ _ (λ r.
    along (made_with_codes h) (ask X5 (not asked || is_some r)) _ _ (λ _. refl)))

outside_same : {C D : Type 0} (h : C → D) (o : Outside) (asked : Bool) (next : ℕ) (s : Shared) (t : Thread C)
    → run_outside o asked next s (thread_by h t) ≡ result_by (made_with_codes h) (run_outside o asked next s t)
unfolding run_outside
outside_same h outside.NewObject asked next s t = constructor_same h asked next s t
outside_same h outside.NewException asked next s t = constructor_same h asked next s t
outside_same h outside.WriteLine asked next s t = refl
outside_same h outside.WriteLineText asked next s t =
    along (made_with_codes h) (upper t.top.stack) _ _ (λ p. along (made_with_codes h) (text s.store p) _ _ (λ o. refl))
outside_same h outside.WriteLineNumber asked next s t =
    along (made_with_codes h) (upper t.top.stack) _ _ (λ p. along (made_with_codes h) (word_of_value p) _ _ (λ n. refl))
outside_same h outside.WriteText asked next s t =
    along (made_with_codes h) (upper t.top.stack) _ _ (λ p. along (made_with_codes h) (text s.store p) _ _ (λ o. refl))
outside_same h outside.ConcatTwo asked next s t =
    along (made_with_codes h) (upper_two t.top.stack) _ _ (λ p. along (made_with_codes h) (text s.store p.0) _ _ (λ a.
    along (made_with_codes h) (text s.store p.1) _ _ (λ b. put_text_same h next (or_empty a ++ or_empty b) (drop 2 t.top.stack) s t)))
outside_same h outside.ConcatThree asked next s t =
    along (made_with_codes h) (upper_three t.top.stack) _ _ (λ p. along (made_with_codes h) (text s.store p.0) _ _ (λ a.
    along (made_with_codes h) (text s.store p.1) _ _ (λ b. along (made_with_codes h) (text s.store p.2) _ _ (λ c.
    put_text_same h next (or_empty a ++ or_empty b ++ or_empty c) (drop 3 t.top.stack) s t))))
outside_same h outside.AreEqual asked next s t =
    along (made_with_codes h) (upper_two t.top.stack) _ _ (λ p. along (made_with_codes h) (text s.store p.0) _ _ (λ a.
    along (made_with_codes h) (text s.store p.1) _ _ (λ b. refl)))
outside_same h outside.TextLength asked next s t =
    along (made_with_codes h) (upper t.top.stack) _ _ (λ p. along (made_with_codes h) (text s.store p) _ _ (λ o.
    along (made_with_codes h) (or_trap X5 o) _ _ (λ units. refl)))
outside_same h outside.TextUnit asked next s t =
    along (made_with_codes h) (upper_two t.top.stack) _ _ (λ p. along (made_with_codes h) (text s.store p.0) _ _ (λ o.
    along (made_with_codes h) (word_of_value p.1) _ _ (λ n. along (made_with_codes h) (or_trap X5 o) _ _ (λ units.
    along (made_with_codes h) (unit_at units n) _ _ (λ u. refl)))))

pub call_outside_same : {C D : Type 0} (h : C → D) (u : World D) (now : Token → Option C) (asked : Bool) (next : ℕ) (member : Token) (s : Shared) (t : Thread C)
    → call_outside (after h u now) asked next member s (thread_by h t) ≡ result_by (made_with_codes h) (call_outside (before h u now) asked next member s t)
unfolding call_outside
call_outside_same h u now asked next member s t =
    along (made_with_codes h) (or_trap X2 (outside_of u.plain member)) _ _ (λ o. outside_same h o asked next s t)

pub new_outside_same : {C D : Type 0} (h : C → D) (u : World D) (now : Token → Option C) (next : ℕ) (member : Token) (s : Shared) (t : Thread C)
    → new_outside (after h u now) next member s (thread_by h t) ≡ result_by (made_with_codes h) (new_outside (before h u now) next member s t)
unfolding new_outside
new_outside_same h u now next member s t =
    along (made_with_codes h) (or_trap X2 (outside_of u.plain member)) _ _ (λ o.
    along (made_with_codes h) (ask X2 (is_outside_constructor o)) _ _ (λ _.
    along (made_with_codes h) (new_in (Instance (token_at (cells_of u.plain) member columns.member_ref_class)) 0 s.store) _ _ (λ n.
    via (frame_by h) (made_with_codes h)
    (load ((u.body (h t.top.code)).stack) next (Obj n.1) (frame_by h t.top)) (load ((u.body (h t.top.code)).stack) next (Obj n.1) t.top)
    _ _ (load_same h ((u.body (h t.top.code)).stack) next (Obj n.1) t.top) (λ f. refl))))
