-- The length of each heap of a root that was read is a number of four bytes.
use Rattle.std.proofs.Common.{◌≡◌, ℕ, zero, suc, ◌+◌, ◌^◌, ◌<◌, ◌≤◌, Bool, true, false, cond, List, [], ◌∷◌, ◌++◌, length, drop, get_or, Option, Some, None, Ok, IfSome, codes, refl, subst, arith}
use Rattle.std.specs.Prelude.{option_map, option_and_then, unwrap_or, find, bytes_eq, nat_le}
use Rattle.std.specs.Int.{w16, w32, from_le_bytes}
use Rattle.std.proofs.lemmas.List.{length-take, get_or-drop}
use Rattle.enc_base.specs.Numbers.{little_endian_at}
use Rattle.enc_base.specs.declared.refusal.StreamName.{StreamName}
use Rattle.enc_meta.specs.Root.{Header, version_len, name_at, header_at, headers, streams, stream_fault, span_of, nowhere, root_with, root_or_fault, root_in, root_of}
use Rattle.enc_meta.specs.Heaps.{counted_strings, filled, part, heaps_of, AreAtMost}
use Rattle.enc_meta.specs.declared.root.Root.{Root}
use Rattle.enc_meta.specs.declared.span.Span.{Span}

-- each is a byte
abbrev pub AreBytes : List ℕ → Type 0
AreBytes bytes = (i : ℕ) → get_or bytes i 0 < 256

four_few : (bytes : List ℕ) → AreBytes bytes → from_le_bytes w32 bytes < 2 ^ 32
four_few bytes all = omega (arith, all 0, all 1, all 2, all 3)

are_behind : (bytes : List ℕ) (n : ℕ) → AreBytes bytes → AreBytes (drop n bytes)
are_behind bytes n all i = rw (get_or-drop n bytes i 0) (all (n + i))

number_few : (bytes : List ℕ) (at n : ℕ) → AreBytes bytes → little_endian_at w32 bytes at ≡ Some n → n < 2 ^ 32
number_few bytes at n all is = by_test (nat_le (at + 4) (length bytes)) (from_le_bytes w32 (drop at bytes)) (four_few (drop at bytes) (are_behind bytes at all)) is
  where
    by_test : (t : Bool) (m : ℕ) → m < 2 ^ 32 → cond t (Some m) None ≡ Some n → n < 2 ^ 32
    by_test true m few is = let e : m ≡ n = cc in rw (← e) few
    by_test false m few is = absurd cc

-- what holds of each value that comes behind
behind : {A B : Type 0} (o : Option A) (f : A → Option B) (P : B → Type 0) → ((a : A) → o ≡ Some a → IfSome (f a) P) → IfSome (option_and_then f o) P
behind None f P each = tt
behind (Some a) f P each = each a refl

mapped : {A B : Type 0} (o : Option A) (f : A → B) (P : B → Type 0) → IfSome o (λ a. P (f a)) → IfSome (option_map f o) P
mapped None f P each = tt
mapped (Some a) f P each = each

-- each header's stream has a length of four bytes
abbrev AreFew : List Header → Type 0
AreFew [] = Unit {0}
AreFew (h ∷ rest) = (h.span.len < 2 ^ 32) × AreFew rest

few_more : (all : List Header) (h : Header) → AreFew all → h.span.len < 2 ^ 32 → AreFew (all ++ h ∷ [])
few_more [] h all few = (few, tt)
few_more (x ∷ rest) h all few = (all.0, few_more rest h all.1 few)

header_few : (bytes : List ℕ) (at : ℕ) → AreBytes bytes → IfSome (header_at bytes at) (λ x. x.0.span.len < 2 ^ 32)
unfolding header_at
header_few bytes at all =
    behind (little_endian_at w32 bytes at) _ (λ (x : Header × ℕ). x.0.span.len < 2 ^ 32) (λ start s. behind (little_endian_at w32 bytes (at + 4)) _ (λ (x : Header × ℕ). x.0.span.len < 2 ^ 32) (λ size is. behind (name_at bytes (at + 8)) _ (λ (x : Header × ℕ). x.0.span.len < 2 ^ 32) (λ text t. number_few bytes (at + 4) size all is)))

headers_few : (bytes : List ℕ) (at n : ℕ) → AreBytes bytes → IfSome (headers bytes at n) (λ x. AreFew x.0)
unfolding headers
headers_few bytes at zero all = tt
headers_few bytes at (suc n) all =
    behind (headers bytes at n) _ (λ (x : List Header × ℕ). AreFew x.0) (λ before e. behind (header_at bytes before.1) _ (λ (x : List Header × ℕ). AreFew x.0) (λ next f. few_more before.0 next.0 (rw e at (headers_few bytes at n all)) (rw f at (header_few bytes before.1 all))))

streams_few : (bytes : List ℕ) → AreBytes bytes → IfSome (streams bytes) AreFew
unfolding streams
streams_few bytes all =
    behind (version_len bytes) _ AreFew (λ len v. behind (little_endian_at w16 bytes (18 + len)) _ AreFew (λ count c. mapped (headers bytes (20 + len) count) _ AreFew (headers_few bytes (20 + len) count all)))

span_few : (text : List ℕ) (all : List Header) → AreFew all → (unwrap_or (span_of text all) nowhere).len < 2 ^ 32
unfolding span_of
span_few text [] few = omega arith
span_few text (h ∷ rest) few = by_name h (find (λ (x : Header). bytes_eq x.name text) rest) (bytes_eq h.name text) few.0 (span_few text rest few.1)
  where
    by_name : (h : Header) (o : Option Header) (same : Bool) → h.span.len < 2 ^ 32 → (unwrap_or (option_map (λ (x : Header). x.span) o) nowhere).len < 2 ^ 32 → (unwrap_or (option_map (λ (x : Header). x.span) (cond same (Some h) o)) nowhere).len < 2 ^ 32
    by_name h o true here rest = here
    by_name h o false here rest = rest

-- the length of a part and of its bytes that count
part_few : (bytes : List ℕ) (s : Span) → s.len < 2 ^ 32 → length (part bytes s) ≤ 0xFFFFFFFF
unfolding part
part_few bytes s few = omega (arith, length-take s.len (drop s.start bytes))

strings_few : (heap : List ℕ) → length heap ≤ 0xFFFFFFFF → length (counted_strings heap) ≤ 0xFFFFFFFF
unfolding counted_strings
strings_few heap few = omega (arith, length-take (filled heap + 1) heap)

root_few : (bytes : List ℕ) (all : List Header) → AreFew all → AreAtMost 0xFFFFFFFF (heaps_of bytes (root_with all))
unfolding root_with heaps_of
root_few bytes all few = record {
  strings = strings_few _ (part_few bytes _ (span_few (codes "#Strings") all few));
  users = part_few bytes _ (span_few (codes "#US") all few);
  blobs = part_few bytes _ (span_few (codes "#Blob") all few);
  guids = part_few bytes _ (span_few (codes "#GUID") all few);
}

good_few : (bytes : List ℕ) (root : Root) (all : List Header) (fault : Option StreamName) → AreFew all → root_or_fault all fault ≡ Ok root → AreAtMost 0xFFFFFFFF (heaps_of bytes root)
unfolding root_or_fault
good_few bytes root all (Some which) few e = absurd cc
good_few bytes root all None few e =
    let same : root_with all ≡ root = cc in
    let P : Root → Type 0 = λ r. AreAtMost 0xFFFFFFFF (heaps_of bytes r) in
    subst P same (root_few bytes all few)

found_few : (bytes : List ℕ) (root : Root) (o : Option (List Header)) → IfSome o AreFew → root_in bytes o ≡ Ok root → AreAtMost 0xFFFFFFFF (heaps_of bytes root)
unfolding root_in
found_few bytes root None few e = absurd cc
found_few bytes root (Some all) few e = good_few bytes root all (stream_fault (length bytes) all) few e

-- no heap of a root is longer than four bytes say
pub lengths_few : (bytes : List ℕ) (root : Root) → AreBytes bytes → root_of bytes ≡ Ok root → AreAtMost 0xFFFFFFFF (heaps_of bytes root)
unfolding root_of
lengths_few bytes root all e = found_few bytes root (streams bytes) (streams_few bytes all) e
