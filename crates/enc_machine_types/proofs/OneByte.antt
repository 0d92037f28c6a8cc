-- A type that is one byte is read as that.
use Rattle.std.proofs.Common.{◌≡◌, ℕ, suc, ◌-◌, ◌≤◌, Bool, true, List, [], ◌∷◌, length, take, drop, Option, Some, refl, sym, ap, ◌∙◌, arith}
use Rattle.std.specs.Prelude.{◌&&◌, ◌||◌, ◌==◌, nat_le, slice_index_or, if◌then◌else◌}
use Rattle.std.proofs.lemmas.Bool.Decides.{nat_tests}
use Rattle.enc_objects.specs.declared.kind.Kind.{Kind}
use Rattle.enc_sigs.specs.Grammar.{form_of, formed_in, elem_in, type_in, is_coded}
use Rattle.enc_sigs.specs.declared.type_form.TypeForm.TheVariants as form
use Rattle.enc_sigs.specs.Reads.{element_front}
use Rattle.std.proofs.Math.Seq.{take-length}
use Rattle.enc_machine_types.specs.Alone.{is_one_byte}
use Rattle.enc_machine_types.specs.Elements.{kind_of_element}
use Rattle.enc_machine_types.specs.Fronts.{kind_front}

is_bare : (b : ℕ) → is_one_byte b ≡ true → (nat_le 0x01 b && nat_le b 0x0E || b == 0x16 || b == 0x18 || b == 0x19 || b == 0x1C) ≡ true
is_bare b alone = grind (arith, nat_tests, alone)

bare_form : (b : ℕ) → is_one_byte b ≡ true → form_of b ≡ Some form.Bare
unfolding form_of
bare_form b alone = rw (is_bare b alone) refl

bare_elem : (good : ℕ → Bool) (depth b : ℕ) (rest : List ℕ) → is_one_byte b ≡ true → element_front (elem_in good (suc depth) (b ∷ rest)) ≡ Some (b, rest)
unfolding elem_in formed_in
bare_elem good depth b rest alone = rw (bare_form b alone) refl

bare_type : (b : ℕ) (rest : List ℕ) → is_one_byte b ≡ true → element_front (type_in is_coded (b ∷ rest)) ≡ Some (b, rest)
unfolding type_in
bare_type b rest alone = bare_elem is_coded 99 b rest alone

pub alone_front : (b : ℕ) (rest : List ℕ) (k : Kind) → is_one_byte b ≡ true → kind_of_element b ≡ Some k → kind_front (b ∷ rest) ≡ Some (k, rest)
unfolding kind_front
alone_front b rest k alone is = rw (bare_type b rest alone, is) refl

-- by the bytes as they are taken apart
take_rest : (xs : List ℕ) → take (suc (length xs) - 1) xs ≡ xs
take_rest xs = let e : suc (length xs) - 1 ≡ length xs = omega arith in rw e (take-length xs)

pub alone_at_front : (bytes : List ℕ) (k : Kind) → 1 ≤ length bytes → is_one_byte (slice_index_or bytes 0 0) ≡ true
    → kind_of_element (slice_index_or bytes 0 0) ≡ Some k → Some (k, take (length bytes - 1) (drop 1 bytes)) ≡ kind_front bytes
alone_at_front [] k some alone is = absurd (omega (arith, some))
alone_at_front (b ∷ rest) k some alone is = ap (λ xs. Some (k, xs)) (take_rest rest) ∙ sym (alone_front b rest k alone is)
