-- What is read whole, and what isn't.
use Rattle.std.proofs.Common.{◌≡◌, ℕ, suc, true, false, List, [], ◌∷◌, length, Option, Some, None, refl, sym, ap, ◌∙◌, arith}
use Rattle.std.specs.Prelude.{◌==◌, option_map, option_and_then, slice_get}
use borrow.Author.Tests.{eqb-true}
use Rattle.enc_base.specs.Readers.{number_in}
use Rattle.enc_objects.specs.declared.kind.Kind.{Kind}
use Rattle.enc_sigs.specs.Grammar.{many, all_of, unless_more}
use Rattle.enc_machine_types.specs.Elements.{field_kind_in, local_kinds_in}
use Rattle.enc_machine_types.specs.Fronts.{kind_front, nth_of}
use Rattle.enc_machine_types.specs.Parts.{behind_byte, field_front, locals_front}
use Rattle.enc_machine_types.proofs.PartsRead.{field_is, locals_are}

none_more : {A : Type 0} (x : A) (rest : List ℕ) → (length rest == 0) ≡ true → unless_more x rest ≡ Some x
none_more x [] e = refl
none_more x (b ∷ rest) e = absurd (let f : suc (length rest) ≡ 0 = eqb-true (suc (length rest)) 0 e in omega arith)

some_more : {A : Type 0} (x : A) (rest : List ℕ) → (length rest == 0) ≡ false → unless_more x rest ≡ None
some_more x [] e = absurd (cc)
some_more x (b ∷ rest) e = refl

-- a field
pub no_field : (blob : List ℕ) → None ≡ behind_byte 0x06 blob → None ≡ field_kind_in blob
unfolding field_front
no_field blob e = rw (field_is blob, ← e) refl

pub no_field_kind : (blob rest : List ℕ) → Some rest ≡ behind_byte 0x06 blob → None ≡ kind_front rest → None ≡ field_kind_in blob
unfolding field_front
no_field_kind blob rest e f = rw (field_is blob, ← e, ← f) refl

pub field_read : (blob rest behind : List ℕ) (k : Kind) → Some rest ≡ behind_byte 0x06 blob → Some (k, behind) ≡ kind_front rest → (length behind == 0) ≡ true → Some k ≡ field_kind_in blob
unfolding field_front
field_read blob rest behind k e f none = rw (field_is blob, ← e, ← f) (sym (none_more k behind none))

pub field_more : (blob rest behind : List ℕ) (k : Kind) → Some rest ≡ behind_byte 0x06 blob → Some (k, behind) ≡ kind_front rest → (length behind == 0) ≡ false → None ≡ field_kind_in blob
unfolding field_front
field_more blob rest behind k e f some = rw (field_is blob, ← e, ← f) (sym (some_more k behind some))

-- local variables
pub no_locals : (blob : List ℕ) → None ≡ behind_byte 0x07 blob → None ≡ local_kinds_in blob
unfolding locals_front
no_locals blob e = rw (locals_are blob, ← e) refl

pub no_count : (blob first : List ℕ) → Some first ≡ behind_byte 0x07 blob → None ≡ number_in first → None ≡ local_kinds_in blob
unfolding locals_front
no_count blob first e f = rw (locals_are blob, ← e, ← f) refl

pub no_kinds : (blob first second : List ℕ) (n : ℕ) → Some first ≡ behind_byte 0x07 blob → Some (n, second) ≡ number_in first → None ≡ many kind_front n second → None ≡ local_kinds_in blob
unfolding locals_front
no_kinds blob first second n e f g = rw (locals_are blob, ← e, ← f, ← g) refl

pub locals_read : (blob first second behind : List ℕ) (n : ℕ) (ks : List Kind) → Some first ≡ behind_byte 0x07 blob → Some (n, second) ≡ number_in first → Some (ks, behind) ≡ many kind_front n second → (length behind == 0) ≡ true → Some ks ≡ local_kinds_in blob
unfolding locals_front
locals_read blob first second behind n ks e f g none = rw (locals_are blob, ← e, ← f, ← g) (sym (none_more ks behind none))

pub locals_more : (blob first second behind : List ℕ) (n : ℕ) (ks : List Kind) → Some first ≡ behind_byte 0x07 blob → Some (n, second) ≡ number_in first → Some (ks, behind) ≡ many kind_front n second → (length behind == 0) ≡ false → None ≡ local_kinds_in blob
unfolding locals_front
locals_more blob first second behind n ks e f g some = rw (locals_are blob, ← e, ← f, ← g) (sym (some_more ks behind some))

-- one of the local variables
abbrev nth_kind : ℕ → Option (List Kind) → Option Kind
nth_kind i o = option_and_then (λ ks. slice_get ks i) o

whole : (o : Option Kind) → o ≡ all_of (option_map {T = Kind} (λ k. (k, [])) o)
whole None = refl
whole (Some k) = refl

unended : (o : Option Kind) (b : ℕ) (rest : List ℕ) → None ≡ all_of (option_map {T = Kind} (λ k. (k, b ∷ rest)) o)
unended None b rest = refl
unended (Some k) b rest = refl

nth_all : (i : ℕ) (o : Option (List Kind × List ℕ)) → nth_kind i (all_of o) ≡ all_of (nth_of i o)
nth_all i None = refl
nth_all i (Some (ks, [])) = whole (slice_get ks i)
nth_all i (Some (ks, b ∷ rest)) = unended (slice_get ks i) b rest

nth_whole : (blob first second : List ℕ) (n i : ℕ) (o : Option (Kind × List ℕ))
    → Some first ≡ behind_byte 0x07 blob → Some (n, second) ≡ number_in first → o ≡ nth_of i (many kind_front n second)
    → all_of o ≡ nth_kind i (local_kinds_in blob)
unfolding locals_front
nth_whole blob first second n i o e f g = rw (locals_are blob, ← e, ← f) (ap all_of g ∙ sym (nth_all i (many kind_front n second)))

pub no_local : (blob : List ℕ) (i : ℕ) → None ≡ behind_byte 0x07 blob → None ≡ nth_kind i (local_kinds_in blob)
no_local blob i e = ap (nth_kind i) (no_locals blob e)

pub no_local_count : (blob first : List ℕ) (i : ℕ)
    → Some first ≡ behind_byte 0x07 blob → None ≡ number_in first → None ≡ nth_kind i (local_kinds_in blob)
no_local_count blob first i e f = ap (nth_kind i) (no_count blob first e f)

pub no_local_there : (blob first second : List ℕ) (n i : ℕ)
    → Some first ≡ behind_byte 0x07 blob → Some (n, second) ≡ number_in first → None ≡ nth_of i (many kind_front n second)
    → None ≡ nth_kind i (local_kinds_in blob)
no_local_there blob first second n i e f g = nth_whole blob first second n i None e f g

pub local_read : (blob first second behind : List ℕ) (n i : ℕ) (k : Kind)
    → Some first ≡ behind_byte 0x07 blob → Some (n, second) ≡ number_in first → Some (k, behind) ≡ nth_of i (many kind_front n second)
    → (length behind == 0) ≡ true → Some k ≡ nth_kind i (local_kinds_in blob)
local_read blob first second behind n i k e f g none = sym (none_more k behind none) ∙ nth_whole blob first second n i (Some (k, behind)) e f g

pub local_more : (blob first second behind : List ℕ) (n i : ℕ) (k : Kind)
    → Some first ≡ behind_byte 0x07 blob → Some (n, second) ≡ number_in first → Some (k, behind) ≡ nth_of i (many kind_front n second)
    → (length behind == 0) ≡ false → None ≡ nth_kind i (local_kinds_in blob)
local_more blob first second behind n i k e f g some = sym (some_more k behind some) ∙ nth_whole blob first second n i (Some (k, behind)) e f g
