-- Members outside leave the frame at the next instruction.
use Rattle.std.proofs.Common.{◌≡◌, ℕ, Bool, true, not, ◌||◌, List, length, is_some, drop, ◌++◌}
use Rattle.enc_base.specs.declared.token.Token.{Token}
use Rattle.enc_machine_types.specs.Outside.{outside_of}
use Rattle.enc_machine_types.specs.declared.outside.Outside.{Outside}
use Rattle.enc_machine_types.specs.declared.outside.Outside.TheVariants as outside
use Rattle.enc_objects.specs.declared.object.Content.TheVariants.{Instance, Text}
use Rattle.enc_objects.specs.declared.trap.Trap.TheVariants.{X2, X5}
use Rattle.enc_objects.specs.declared.value.Value.{Value}
use Rattle.enc_objects.specs.declared.value.Value.TheVariants.{Obj}
use Rattle.enc_plain.specs.Module.{cells_of}
use Rattle.enc_plain.specs.Rows.{token_at}
use Rattle.enc_schema.specs.Columns as columns
use Rattle.enc_vm.proofs.CallsPlaced.{IsMadePlaced}
use Rattle.enc_vm.proofs.FramesPlaced.{load_placed}
use Rattle.enc_vm.proofs.Placed.{AfterOk, through, after_that, here}
use Rattle.enc_frames.specs.Console.{text, or_empty, put_text, unit_at, run_constructor, run_outside, call_outside, is_outside_constructor, new_outside}
use Rattle.enc_frames.specs.Machine.{World, Thread, Shared}
use Rattle.enc_frames.specs.Memory.{new_in}
use Rattle.enc_vm.specs.Placed.{is_place_in, IsFramePlaced, IsThreadPlaced}
use Rattle.enc_frames.specs.Results.{or_trap, ask}
use Rattle.enc_frames.specs.Straight.{load}
use Rattle.enc_frames.specs.Values.{upper, upper_two, upper_three, reference, word_of_value}

-- the frames with the innermost at the next instruction
with_next : {C : Type 0} (w : World C) (t : Thread C) (next : ℕ) (stack : List Value) → IsThreadPlaced w t → is_place_in (w.body t.top.code) next ≡ true
    → IsThreadPlaced w (record t { top = record t.top { offset = next; stack = stack } })
with_next w t next stack p n = (here w t.top _ next _ _ _ p.0 n, p.1)

put_text_placed : {C : Type 0} (w : World C) (next : ℕ) (units : List ℕ) (rest : List Value) (s : Shared) (t : Thread C)
    → IsThreadPlaced w t → is_place_in (w.body t.top.code) next ≡ true → AfterOk (IsMadePlaced w) (put_text next units rest s t)
put_text_placed w next units rest s t p n = through (IsMadePlaced w) (new_in (Text units) (length units) s.store) _ (λ o. with_next w t next _ p n)

constructor_placed : {C : Type 0} (w : World C) (asked : Bool) (next : ℕ) (s : Shared) (t : Thread C)
    → IsThreadPlaced w t → is_place_in (w.body t.top.code) next ≡ true → AfterOk (IsMadePlaced w) (run_constructor asked next s t)
constructor_placed w asked next s t p n =
    through (IsMadePlaced w) (upper t.top.stack) _ (λ v. through (IsMadePlaced w) (reference v) _ (λ r.
    through (IsMadePlaced w) (ask X5 (not asked || is_some r)) _ (λ _. with_next w t next _ p n)))

outside_placed : {C : Type 0} (w : World C) (o : Outside) (asked : Bool) (next : ℕ) (s : Shared) (t : Thread C)
    → IsThreadPlaced w t → is_place_in (w.body t.top.code) next ≡ true → AfterOk (IsMadePlaced w) (run_outside o asked next s t)
unfolding run_outside
outside_placed w outside.NewObject asked next s t p n = constructor_placed w asked next s t p n
outside_placed w outside.NewException asked next s t p n = constructor_placed w asked next s t p n
outside_placed w outside.WriteLine asked next s t p n = with_next w t next _ p n
outside_placed w outside.WriteLineText asked next s t p n =
    through (IsMadePlaced w) (upper t.top.stack) _ (λ v. through (IsMadePlaced w) (text s.store v) _ (λ o. with_next w t next _ p n))
outside_placed w outside.WriteLineNumber asked next s t p n =
    through (IsMadePlaced w) (upper t.top.stack) _ (λ v. through (IsMadePlaced w) (word_of_value v) _ (λ i. with_next w t next _ p n))
outside_placed w outside.WriteText asked next s t p n =
    through (IsMadePlaced w) (upper t.top.stack) _ (λ v. through (IsMadePlaced w) (text s.store v) _ (λ o. with_next w t next _ p n))
outside_placed w outside.ConcatTwo asked next s t p n =
    through (IsMadePlaced w) (upper_two t.top.stack) _ (λ v. through (IsMadePlaced w) (text s.store v.0) _ (λ a.
    through (IsMadePlaced w) (text s.store v.1) _ (λ b. put_text_placed w next (or_empty a ++ or_empty b) (drop 2 t.top.stack) s t p n)))
outside_placed w outside.ConcatThree asked next s t p n =
    through (IsMadePlaced w) (upper_three t.top.stack) _ (λ v. through (IsMadePlaced w) (text s.store v.0) _ (λ a.
    through (IsMadePlaced w) (text s.store v.1) _ (λ b. through (IsMadePlaced w) (text s.store v.2) _ (λ c.
    put_text_placed w next (or_empty a ++ or_empty b ++ or_empty c) (drop 3 t.top.stack) s t p n))))
outside_placed w outside.AreEqual asked next s t p n =
    through (IsMadePlaced w) (upper_two t.top.stack) _ (λ v. through (IsMadePlaced w) (text s.store v.0) _ (λ a.
    through (IsMadePlaced w) (text s.store v.1) _ (λ b. with_next w t next _ p n)))
outside_placed w outside.TextLength asked next s t p n =
    through (IsMadePlaced w) (upper t.top.stack) _ (λ v. through (IsMadePlaced w) (text s.store v) _ (λ o.
    through (IsMadePlaced w) (or_trap X5 o) _ (λ units. with_next w t next _ p n)))
outside_placed w outside.TextUnit asked next s t p n =
    through (IsMadePlaced w) (upper_two t.top.stack) _ (λ v. through (IsMadePlaced w) (text s.store v.0) _ (λ o.
    through (IsMadePlaced w) (word_of_value v.1) _ (λ i. through (IsMadePlaced w) (or_trap X5 o) _ (λ units.
    through (IsMadePlaced w) (unit_at units i) _ (λ u. with_next w t next _ p n)))))

pub call_outside_placed : {C : Type 0} (w : World C) (asked : Bool) (next : ℕ) (member : Token) (s : Shared) (t : Thread C)
    → IsThreadPlaced w t → is_place_in (w.body t.top.code) next ≡ true → AfterOk (IsMadePlaced w) (call_outside w asked next member s t)
unfolding call_outside
call_outside_placed w asked next member s t p n =
    through (IsMadePlaced w) (or_trap X2 (outside_of w.plain member)) _ (λ o. outside_placed w o asked next s t p n)

pub new_outside_placed : {C : Type 0} (w : World C) (next : ℕ) (member : Token) (s : Shared) (t : Thread C)
    → IsThreadPlaced w t → is_place_in (w.body t.top.code) next ≡ true → AfterOk (IsMadePlaced w) (new_outside w next member s t)
unfolding new_outside
new_outside_placed w next member s t p n =
    through (IsMadePlaced w) (or_trap X2 (outside_of w.plain member)) _ (λ o.
    through (IsMadePlaced w) (ask X2 (is_outside_constructor o)) _ (λ _.
    through (IsMadePlaced w) (new_in (Instance (token_at (cells_of w.plain) member columns.member_ref_class)) 0 s.store) _ (λ x.
    after_that (IsFramePlaced w) (IsMadePlaced w) (load ((w.body t.top.code).stack) next (Obj x.1) t.top) _
    (load_placed w ((w.body t.top.code).stack) next (Obj x.1) t.top p.0 n) (λ f q. (q, p.1)))))
