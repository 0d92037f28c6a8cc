-- Instructions on objects leave the frame at the next instruction.
use Rattle.std.proofs.Common.{◌≡◌, ℕ, true, List, length, pos, not, int_lt, unsigned_abs}
use Rattle.enc_base.specs.declared.token.Token.{Token}
use Rattle.enc_objects.specs.Objects.{Store, new_array_of, static_in, element_in}
use Rattle.enc_objects.specs.declared.kind.Kind.{Kind}
use Rattle.enc_objects.specs.declared.object.Content.TheVariants.{Text}
use Rattle.enc_objects.specs.declared.trap.Trap.TheVariants.{X2, X4, X5, X7, X8, X9}
use Rattle.enc_objects.specs.declared.value.Value.TheVariants.{Obj}
use Rattle.enc_plain.specs.Module.{Module}
use Rattle.enc_vm.proofs.FramesPlaced.{load_placed}
use Rattle.enc_vm.proofs.Placed.{AfterOk, through, after_that, here}
use Rattle.enc_frames.specs.Machine.{World, Frame}
use Rattle.enc_frames.specs.Memory.{new_in, load_text, not_null, load_field_of, store_field_of, load_static, store_static, new_array_of_kind, array_in_value, array_length, array_of, index_in, load_element, element_kind, store_element, is_cast_type, is_null_or_of, cast_to, instance_or_null}
use Rattle.enc_vm.specs.Placed.{is_place_in, IsFramePlaced}
use Rattle.enc_frames.specs.Results.{or_trap, ask}
use Rattle.enc_frames.specs.Straight.{load}
use Rattle.enc_frames.specs.Values.{fit, upper, upper_two, upper_three, reference, word_of_value}

-- the frame beside a store is placed
abbrev pub IsPairPlaced : {C : Type 0} → World C → Store × Frame C → Type 0
IsPairPlaced w x = IsFramePlaced w x.1

pub load_text_placed : {C : Type 0} (w : World C) (max next : ℕ) (units : List ℕ) (s : Store) (f : Frame C)
    → IsFramePlaced w f → is_place_in (w.body f.code) next ≡ true → AfterOk (IsPairPlaced w) (load_text max next units s f)
unfolding load_text
load_text_placed w max next units s f p n =
    through (IsPairPlaced w) (new_in (Text units) (length units) s) _ (λ o.
    after_that (IsFramePlaced w) (IsPairPlaced w) (load max next (Obj o.1) f) _ (load_placed w max next (Obj o.1) f p n) (λ g q. q))

pub load_field_placed : {C : Type 0} (w : World C) (k : Kind) (next : ℕ) (t : Token) (s : Store) (f : Frame C)
    → IsFramePlaced w f → is_place_in (w.body f.code) next ≡ true → AfterOk (IsPairPlaced w) (load_field_of k next t s f)
unfolding load_field_of
load_field_placed w k next t s f p n =
    through (IsPairPlaced w) (upper f.stack) _ (λ v. through (IsPairPlaced w) (reference v) _ (λ r. through (IsPairPlaced w) (not_null r) _ (λ id.
    here w f _ next _ _ _ p n)))

pub store_field_placed : {C : Type 0} (w : World C) (k : Kind) (next : ℕ) (t : Token) (s : Store) (f : Frame C)
    → IsFramePlaced w f → is_place_in (w.body f.code) next ≡ true → AfterOk (IsPairPlaced w) (store_field_of k next t s f)
unfolding store_field_of
store_field_placed w k next t s f p n =
    through (IsPairPlaced w) (upper_two f.stack) _ (λ v. through (IsPairPlaced w) (reference v.0) _ (λ r.
    through (IsPairPlaced w) (fit k v.1) _ (λ x. through (IsPairPlaced w) (not_null r) _ (λ id. here w f _ next _ _ _ p n))))

pub load_static_placed : {C : Type 0} (w : World C) (k : Kind) (max next : ℕ) (t : Token) (s : Store) (f : Frame C)
    → IsFramePlaced w f → is_place_in (w.body f.code) next ≡ true → AfterOk (IsPairPlaced w) (load_static k max next t s f)
unfolding load_static
load_static_placed w k max next t s f p n =
    after_that (IsFramePlaced w) (IsPairPlaced w) (load max next (static_in s t k) f) _ (load_placed w max next (static_in s t k) f p n) (λ g q. q)

pub store_static_placed : {C : Type 0} (w : World C) (k : Kind) (next : ℕ) (t : Token) (s : Store) (f : Frame C)
    → IsFramePlaced w f → is_place_in (w.body f.code) next ≡ true → AfterOk (IsPairPlaced w) (store_static k next t s f)
unfolding store_static
store_static_placed w k next t s f p n =
    through (IsPairPlaced w) (upper f.stack) _ (λ v. through (IsPairPlaced w) (fit k v) _ (λ x. here w f _ next _ _ _ p n))

pub new_array_placed : {C : Type 0} (w : World C) (k : Kind) (next : ℕ) (s : Store) (f : Frame C)
    → IsFramePlaced w f → is_place_in (w.body f.code) next ≡ true → AfterOk (IsPairPlaced w) (new_array_of_kind k next s f)
unfolding new_array_of_kind
new_array_placed w k next s f p n =
    through (IsPairPlaced w) (upper f.stack) _ (λ v. through (IsPairPlaced w) (word_of_value v) _ (λ i. through (IsPairPlaced w) (ask X7 (not (int_lt i (pos 0)))) _ (λ _.
    through (IsPairPlaced w) (new_in (new_array_of k (unsigned_abs i)) (unsigned_abs i) s) _ (λ o. here w f _ next _ _ _ p n))))

pub array_length_placed : {C : Type 0} (w : World C) (next : ℕ) (s : Store) (f : Frame C)
    → IsFramePlaced w f → is_place_in (w.body f.code) next ≡ true → AfterOk (IsPairPlaced w) (array_length next s f)
unfolding array_length
array_length_placed w next s f p n =
    through (IsPairPlaced w) (upper f.stack) _ (λ v. through (IsPairPlaced w) (or_trap X4 (array_in_value s v)) _ (λ o.
    through (IsPairPlaced w) (or_trap X5 o) _ (λ a. here w f _ next _ _ _ p n)))

pub load_element_placed : {C : Type 0} (w : World C) (k : Kind) (next : ℕ) (s : Store) (f : Frame C)
    → IsFramePlaced w f → is_place_in (w.body f.code) next ≡ true → AfterOk (IsPairPlaced w) (load_element k next s f)
unfolding load_element
load_element_placed w k next s f p n =
    through (IsPairPlaced w) (upper_two f.stack) _ (λ v. through (IsPairPlaced w) (array_of k s v.0) _ (λ o. through (IsPairPlaced w) (word_of_value v.1) _ (λ j.
    through (IsPairPlaced w) (or_trap X5 o) _ (λ a. through (IsPairPlaced w) (index_in a j) _ (λ i. through (IsPairPlaced w) (or_trap X8 (element_in s a.id i)) _ (λ x.
    through (IsPairPlaced w) (fit k x) _ (λ y. here w f _ next _ _ _ p n)))))))

pub store_element_placed : {C : Type 0} (w : World C) (k : Kind) (next : ℕ) (s : Store) (f : Frame C)
    → IsFramePlaced w f → is_place_in (w.body f.code) next ≡ true → AfterOk (IsPairPlaced w) (store_element k next s f)
unfolding store_element
store_element_placed w k next s f p n =
    through (IsPairPlaced w) (upper_three f.stack) _ (λ v. through (IsPairPlaced w) (array_of k s v.0) _ (λ o. through (IsPairPlaced w) (word_of_value v.1) _ (λ j.
    through (IsPairPlaced w) (fit (element_kind k o) v.2) _ (λ x. through (IsPairPlaced w) (or_trap X5 o) _ (λ a. through (IsPairPlaced w) (index_in a j) _ (λ i.
    here w f _ next _ _ _ p n))))))

pub cast_placed : {C : Type 0} (w : World C) (m : Module) (next : ℕ) (t : Token) (s : Store) (f : Frame C)
    → IsFramePlaced w f → is_place_in (w.body f.code) next ≡ true → AfterOk (IsPairPlaced w) (cast_to m next t s f)
unfolding cast_to
cast_placed w m next t s f p n =
    through (IsPairPlaced w) (ask X2 (is_cast_type m t)) _ (λ _. through (IsPairPlaced w) (upper f.stack) _ (λ v. through (IsPairPlaced w) (reference v) _ (λ r.
    through (IsPairPlaced w) (ask X9 (is_null_or_of m t s r)) _ (λ _. here w f _ next _ _ _ p n))))

pub instance_placed : {C : Type 0} (w : World C) (m : Module) (next : ℕ) (t : Token) (s : Store) (f : Frame C)
    → IsFramePlaced w f → is_place_in (w.body f.code) next ≡ true → AfterOk (IsPairPlaced w) (instance_or_null m next t s f)
unfolding instance_or_null
instance_placed w m next t s f p n =
    through (IsPairPlaced w) (ask X2 (is_cast_type m t)) _ (λ _. through (IsPairPlaced w) (upper f.stack) _ (λ v. through (IsPairPlaced w) (reference v) _ (λ r.
    here w f _ next _ _ _ p n)))
