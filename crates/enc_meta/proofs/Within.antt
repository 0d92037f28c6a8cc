-- The streams of a root that was read stand in its bytes.
use Rattle.std.proofs.Common.{◌≡◌, ℕ, suc, ◌+◌, ◌<◌, ◌≤◌, Bool, true, false, ◌||◌, cond, List, [], ◌∷◌, length, take, Option, Some, None, Ok, IfSome, codes, refl, ap, subst, ◌∙◌, arith}
use Rattle.std.specs.Prelude.{is_some, option_map, option_and_then, unwrap_or, find, bytes_eq, slice_get, nat_lt}
use Rattle.std.proofs.lemmas.Bool.Decides.{nat_tests}
use Rattle.std.proofs.lemmas.Option.{slice_get_within}
use Rattle.std.proofs.lemmas.Slice.Eq.{bytes_eq-Decides}
use Rattle.enc_base.specs.Order.{or_else, first_below}
use Rattle.enc_base.specs.declared.refusal.StreamName.{StreamName}
use Rattle.enc_base.proofs.First.{first_means}
use Rattle.enc_meta.specs.Root.{Header, streams, known, has_stream, fault_of, fault_at, stream_fault, span_of, nowhere, root_with, root_or_fault, root_in, root_of, IsSpanOf, AreWithin}
use Rattle.enc_meta.specs.declared.root.Root.{Root}
use Rattle.enc_meta.specs.declared.span.Span.{Span}

-- each header of a known name among these has a range in so many bytes
abbrev KnownWithin : ℕ → List Header → Type 0
KnownWithin size all = (k : ℕ) (h : Header) → slice_get all k ≡ Some h → is_some (known h.name) ≡ true → h.span.start + h.span.len ≤ size

not_so : {A : Type 0} (x : A) (before past : Bool) → cond (before || past) (Some x) None ≡ None → past ≡ false
not_so x true past e = absurd (cc)
not_so x false true e = absurd (cc)
not_so x false false e = refl

not_past : (size end : ℕ) (which : Option StreamName) (before : Bool) → is_some which ≡ true → option_and_then (λ (x : StreamName). cond (before || nat_lt size end) (Some x) None) which ≡ None → end ≤ size
not_past size end None before some none = absurd (cc)
not_past size end (Some x) before some none =
    let past = not_so x before (nat_lt size end) none in
    grind (arith, nat_tests)

faultless : (size : ℕ) (all : List Header) → first_below (fault_at size all) (length all) ≡ None → (k : ℕ) → k < length all → fault_at size all k ≡ None
faultless size all none = let m = first_means (fault_at size all) (length all) in rw none at m

known_within : (size : ℕ) (all : List Header) → first_below (fault_at size all) (length all) ≡ None → KnownWithin size all
unfolding fault_at fault_of
known_within size all none k h here some =
    let fault = faultless size all none k (slice_get_within all k h here) in
    not_past size (h.span.start + h.span.len) (known h.name) (has_stream h.name (take k all)) some (rw here at fault)

span_step : (size : ℕ) (text : List ℕ) (h : Header) (o : Option Header) (same : Bool) → (same ≡ true → h.span.start + h.span.len ≤ size) → IfSome (option_map (λ (x : Header). x.span) o) (λ s. s.start + s.len ≤ size) → IfSome (option_map (λ (x : Header). x.span) (cond same (Some h) o)) (λ s. s.start + s.len ≤ size)
span_step size text h o true here rest = here refl
span_step size text h o false here rest = rest

span_within : (size : ℕ) (text : List ℕ) (all : List Header) → is_some (known text) ≡ true → KnownWithin size all → IfSome (span_of text all) (λ s. s.start + s.len ≤ size)
unfolding span_of
span_within size text [] some within = tt
span_within size text (h ∷ rest) some within =
    span_step size text h (find (λ (x : Header). bytes_eq x.name text) rest) (bytes_eq h.name text) (λ same. within 0 h refl (ap (λ t. is_some (known t)) ((bytes_eq-Decides h.name text).0 same) ∙ some)) (span_within size text rest some (λ k x at. within (suc k) x at))

unwrapped : (bytes : List ℕ) (o : Option Span) → IfSome o (IsSpanOf bytes) → IsSpanOf bytes (unwrap_or o nowhere)
unwrapped bytes None within = omega arith
unwrapped bytes (Some s) within = within

either : (bytes : List ℕ) (a b : Option Span) → IfSome a (IsSpanOf bytes) → IfSome b (IsSpanOf bytes) → IfSome (or_else a b) (IsSpanOf bytes)
either bytes None b one two = two
either bytes (Some s) b one two = one

root_within : (bytes : List ℕ) (all : List Header) → KnownWithin (length bytes) all → AreWithin bytes (root_with all)
unfolding root_with known
root_within bytes all within = record {
  tables = unwrapped bytes _ (either bytes _ _ (span_within _ (codes "#~") all refl within) (span_within _ (codes "#-") all refl within));
  strings = unwrapped bytes _ (span_within _ (codes "#Strings") all refl within);
  users = unwrapped bytes _ (span_within _ (codes "#US") all refl within);
  blobs = unwrapped bytes _ (span_within _ (codes "#Blob") all refl within);
  guids = unwrapped bytes _ (span_within _ (codes "#GUID") all refl within);
  pdb = span_within _ (codes "#Pdb") all refl within;
}

no_fault : (size : ℕ) (all : List Header) → stream_fault size all ≡ None → first_below (fault_at size all) (length all) ≡ None
unfolding stream_fault
no_fault size all none = first_none (first_below (fault_at size all) (length all)) _ none
  where
    first_none : (a b : Option StreamName) → or_else a b ≡ None → a ≡ None
    first_none None b e = refl
    first_none (Some x) b e = absurd (cc)

good_within : (bytes : List ℕ) (root : Root) (all : List Header) (fault : Option StreamName) → stream_fault (length bytes) all ≡ fault → root_or_fault all fault ≡ Ok root → AreWithin bytes root
unfolding root_or_fault
good_within bytes root all (Some which) none e = absurd (cc)
good_within bytes root all None none e =
    let same : root_with all ≡ root = cc in
    let P : Root → Type 0 = λ r. AreWithin bytes r in
    subst P same (root_within bytes all (known_within (length bytes) all (no_fault (length bytes) all none)))

found_within : (bytes : List ℕ) (root : Root) (o : Option (List Header)) → root_in bytes o ≡ Ok root → AreWithin bytes root
unfolding root_in
found_within bytes root None e = absurd (cc)
found_within bytes root (Some all) e = good_within bytes root all (stream_fault (length bytes) all) refl e

pub are_within : (bytes : List ℕ) (root : Root) → root_of bytes ≡ Ok root → AreWithin bytes root
unfolding root_of
are_within bytes root e = found_within bytes root (streams bytes) e
