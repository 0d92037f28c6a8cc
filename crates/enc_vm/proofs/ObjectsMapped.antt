-- Instructions on objects do the same whatever the frame's code is.
use Rattle.std.proofs.Common.{◌≡◌, ℕ, List, length, refl, pos, not, int_lt, unsigned_abs}
use Rattle.enc_base.specs.declared.token.Token.{Token}
use Rattle.enc_objects.specs.Objects.{Store, new_array_of, static_in, element_in}
use Rattle.enc_objects.specs.declared.kind.Kind.{Kind}
use Rattle.enc_objects.specs.declared.object.Content.TheVariants.{Text}
use Rattle.enc_objects.specs.declared.trap.Trap.TheVariants.{X2, X4, X5, X7, X8, X9}
use Rattle.enc_objects.specs.declared.value.Value.TheVariants.{Obj}
use Rattle.enc_plain.specs.Module.{Module}
use Rattle.enc_vm.proofs.FramesMapped.{load_same}
use Rattle.enc_vm.proofs.Mapped.{frame_by, pair_by, result_by, along, via}
use Rattle.enc_frames.specs.Machine.{Frame}
use Rattle.enc_frames.specs.Memory.{new_in, load_text, not_null, load_field_of, store_field_of, load_static, store_static, new_array_of_kind, array_in_value, array_length, array_of, index_in, load_element, element_kind, store_element, is_cast_type, is_null_or_of, cast_to, instance_or_null}
use Rattle.enc_frames.specs.Results.{or_trap, ask}
use Rattle.enc_frames.specs.Straight.{load}
use Rattle.enc_frames.specs.Values.{fit, upper, upper_two, upper_three, reference, word_of_value}

pub load_text_same : {C D : Type 0} (h : C → D) (max next : ℕ) (units : List ℕ) (s : Store) (f : Frame C)
    → load_text max next units s (frame_by h f) ≡ result_by (pair_by h) (load_text max next units s f)
unfolding load_text
load_text_same h max next units s f =
    along (pair_by h) (new_in (Text units) (length units) s) _ _ (λ n.
    via (frame_by h) (pair_by h) (load max next (Obj n.1) (frame_by h f)) (load max next (Obj n.1) f) _ _ (load_same h max next (Obj n.1) f) (λ g. refl))

pub load_field_same : {C D : Type 0} (h : C → D) (k : Kind) (next : ℕ) (t : Token) (s : Store) (f : Frame C)
    → load_field_of k next t s (frame_by h f) ≡ result_by (pair_by h) (load_field_of k next t s f)
unfolding load_field_of
load_field_same h k next t s f =
    along (pair_by h) (upper f.stack) _ _ (λ p. along (pair_by h) (reference p) _ _ (λ r. along (pair_by h) (not_null r) _ _ (λ id. refl)))

pub store_field_same : {C D : Type 0} (h : C → D) (k : Kind) (next : ℕ) (t : Token) (s : Store) (f : Frame C)
    → store_field_of k next t s (frame_by h f) ≡ result_by (pair_by h) (store_field_of k next t s f)
unfolding store_field_of
store_field_same h k next t s f =
    along (pair_by h) (upper_two f.stack) _ _ (λ p. along (pair_by h) (reference p.0) _ _ (λ r.
    along (pair_by h) (fit k p.1) _ _ (λ v. along (pair_by h) (not_null r) _ _ (λ id. refl))))

pub load_static_same : {C D : Type 0} (h : C → D) (k : Kind) (max next : ℕ) (t : Token) (s : Store) (f : Frame C)
    → load_static k max next t s (frame_by h f) ≡ result_by (pair_by h) (load_static k max next t s f)
unfolding load_static
load_static_same h k max next t s f =
    via (frame_by h) (pair_by h) (load max next (static_in s t k) (frame_by h f)) (load max next (static_in s t k) f) _ _ (load_same h max next (static_in s t k) f) (λ g. refl)

pub store_static_same : {C D : Type 0} (h : C → D) (k : Kind) (next : ℕ) (t : Token) (s : Store) (f : Frame C)
    → store_static k next t s (frame_by h f) ≡ result_by (pair_by h) (store_static k next t s f)
unfolding store_static
store_static_same h k next t s f = along (pair_by h) (upper f.stack) _ _ (λ p. along (pair_by h) (fit k p) _ _ (λ v. refl))

pub new_array_same : {C D : Type 0} (h : C → D) (k : Kind) (next : ℕ) (s : Store) (f : Frame C)
    → new_array_of_kind k next s (frame_by h f) ≡ result_by (pair_by h) (new_array_of_kind k next s f)
unfolding new_array_of_kind
new_array_same h k next s f =
    along (pair_by h) (upper f.stack) _ _ (λ p. along (pair_by h) (word_of_value p) _ _ (λ n. along (pair_by h) (ask X7 (not (int_lt n (pos 0)))) _ _ (λ _.
    along (pair_by h) (new_in (new_array_of k (unsigned_abs n)) (unsigned_abs n) s) _ _ (λ o. refl))))

pub array_length_same : {C D : Type 0} (h : C → D) (next : ℕ) (s : Store) (f : Frame C)
    → array_length next s (frame_by h f) ≡ result_by (pair_by h) (array_length next s f)
unfolding array_length
array_length_same h next s f =
    along (pair_by h) (upper f.stack) _ _ (λ p. along (pair_by h) (or_trap X4 (array_in_value s p)) _ _ (λ o.
    along (pair_by h) (or_trap X5 o) _ _ (λ a. refl)))

pub load_element_same : {C D : Type 0} (h : C → D) (k : Kind) (next : ℕ) (s : Store) (f : Frame C)
    → load_element k next s (frame_by h f) ≡ result_by (pair_by h) (load_element k next s f)
unfolding load_element
load_element_same h k next s f =
    along (pair_by h) (upper_two f.stack) _ _ (λ p. along (pair_by h) (array_of k s p.0) _ _ (λ o. along (pair_by h) (word_of_value p.1) _ _ (λ n.
    along (pair_by h) (or_trap X5 o) _ _ (λ a. along (pair_by h) (index_in a n) _ _ (λ i. along (pair_by h) (or_trap X8 (element_in s a.id i)) _ _ (λ v.
    along (pair_by h) (fit k v) _ _ (λ w. refl)))))))

pub store_element_same : {C D : Type 0} (h : C → D) (k : Kind) (next : ℕ) (s : Store) (f : Frame C)
    → store_element k next s (frame_by h f) ≡ result_by (pair_by h) (store_element k next s f)
unfolding store_element
store_element_same h k next s f =
    along (pair_by h) (upper_three f.stack) _ _ (λ p. along (pair_by h) (array_of k s p.0) _ _ (λ o. along (pair_by h) (word_of_value p.1) _ _ (λ n.
    along (pair_by h) (fit (element_kind k o) p.2) _ _ (λ v. along (pair_by h) (or_trap X5 o) _ _ (λ a. along (pair_by h) (index_in a n) _ _ (λ i. refl))))))

pub cast_same : {C D : Type 0} (h : C → D) (m : Module) (next : ℕ) (t : Token) (s : Store) (f : Frame C)
    → cast_to m next t s (frame_by h f) ≡ result_by (pair_by h) (cast_to m next t s f)
unfolding cast_to
cast_same h m next t s f =
    along (pair_by h) (ask X2 (is_cast_type m t)) _ _ (λ _. along (pair_by h) (upper f.stack) _ _ (λ p. along (pair_by h) (reference p) _ _ (λ r.
    along (pair_by h) (ask X9 (is_null_or_of m t s r)) _ _ (λ _. refl))))

pub instance_same : {C D : Type 0} (h : C → D) (m : Module) (next : ℕ) (t : Token) (s : Store) (f : Frame C)
    → instance_or_null m next t s (frame_by h f) ≡ result_by (pair_by h) (instance_or_null m next t s f)
unfolding instance_or_null
instance_same h m next t s f =
    along (pair_by h) (ask X2 (is_cast_type m t)) _ _ (λ _. along (pair_by h) (upper f.stack) _ _ (λ p. along (pair_by h) (reference p) _ _ (λ r. refl)))
