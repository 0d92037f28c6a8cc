-- The number of the newest file that knows a method, and the documents at its places.
use Rattle.std.proofs.Common.{◌≡◌, ℕ, zero, suc, ◌+◌, ◌*◌, ◌<◌, ◌≤◌, Bool, true, false, List, [], ◌∷◌, length, Option, Some, None, refl, ap, ◌∙◌, ◌⊎◌, inl, inr, arith}
use Rattle.std.specs.Prelude.{◌^◌, ◌==◌, is_some, option_map, option_and_then, OnOk, Result, Ok, Err, if◌then◌else◌}
use Rattle.std.specs.List.{list_any}
use Rattle.std.proofs.lemmas.Bool.Decides.{nat_tests}
use Rattle.std.proofs.lemmas.Nat.{div-mul-add, mod-mul-add}
use Rattle.enc_base.specs.Token.{is_token}
use Rattle.enc_base.specs.declared.token.Token.{Token}
use Rattle.enc_rows.specs.Source.{Source}
use Rattle.enc_ppdb.specs.PdbChain.{DebugDelta, row_in_file, base_row, delta_row, document_at, documents_at}
use Rattle.enc_ppdb.specs.KnownAt.{known_or, known_at}
use Rattle.enc_ppdb.specs.PlacedAt.{file_at, number_or, file_number, document_placed, room_for}
use Rattle.enc_ppdb.specs.Points.{row_for}
use Rattle.enc_ppdb.specs.PdbChain.{row_of_method}

-- no file has a number past the last
file_none : (base : Option Source) (deltas : List DebugDelta) (n : ℕ) → length deltas < n → file_at base deltas n ≡ None
unfolding file_at
file_none base [] zero past = absurd (omega arith)
file_none base [] (suc n) past = refl
file_none base (d ∷ older) n past =
    let other : (n == length older + 1) ≡ false = grind (arith, nat_tests) in
    rw other (file_none base older n (omega arith))

number_by : (shown changed : Bool) (own none before : ℕ) → own < none → ((before ≡ none) ⊎ (before < own)) → (number_or shown changed own none before ≡ none) ⊎ (number_or shown changed own none before < own + 1)
number_by true changed own none before low is = inr (omega arith)
number_by false true own none before low is = inl refl
number_by false false own none before low (inl e) = inl e
number_by false false own none before low (inr l) = inr (omega (arith, l))

base_by : (none : ℕ) (b : Bool) → ((if b then 0 else none) ≡ none) ⊎ ((if b then 0 else none) < 1)
base_by none true = inr (omega arith)
base_by none false = inl refl

-- the number is none, or that of a file
number_low : (base : Option Source) (none : ℕ) (deltas : List DebugDelta) (method : Token) → length deltas < none
    → (file_number base none deltas method ≡ none) ⊎ (file_number base none deltas method < length deltas + 1)
unfolding file_number
number_low base none [] method low = base_by none (is_some (base_row base method))
number_low base none (d ∷ older) method low =
    let many : length (d ∷ older) ≡ length older + 1 = omega arith in
    rw many (number_by (is_some (delta_row d.pdb method)) (list_any (is_token method) d.changed) (length older + 1) none (file_number base none older method) (omega arith)
    (number_low base none older method (omega arith)))

row_by : (s : Source) (k : ℕ) (o : Option Token)
    → file_at (Some s) [] (if is_some (row_in_file s o) then 0 else suc k) ≡ option_map (λ (p : Source × Token). p.0) (row_in_file s o)
unfolding file_at
row_by s k None = refl
row_by s k (Some r) = refl

base_known : (base : Option Source) (k : ℕ) (method : Token)
    → file_at base [] (if is_some (base_row base method) then 0 else suc k) ≡ option_map (λ (p : Source × Token). p.0) (base_row base method)
unfolding file_at
base_known None k method = refl
base_known (Some s) k method = row_by s k (row_of_method s method)

own_by : (s : Source) (place : Source × Token) (o : Option Token) → row_in_file s o ≡ Some place → s ≡ place.0
own_by s place None is = absurd cc
own_by s place (Some r) is = cc

own_file : (pdb : Option Source) (method : Token) (place : Source × Token) → delta_row pdb method ≡ Some place → pdb ≡ Some place.0
own_file None method place is = absurd cc
own_file (Some s) method place is = ap (λ x. Some x) (own_by s place (row_for s method) is)

at_own : (base : Option Source) (d : DebugDelta) (older : List DebugDelta) → file_at base (d ∷ older) (length older + 1) ≡ d.pdb
unfolding file_at
at_own base d older =
    let same : (length older + 1 == length older + 1) ≡ true = grind (arith, nat_tests) in
    rw same refl

at_other : (base : Option Source) (d : DebugDelta) (older : List DebugDelta) (n : ℕ) → (n == length older + 1) ≡ false → file_at base (d ∷ older) n ≡ file_at base older n
unfolding file_at
at_other base d older n other = rw other refl

differs : (n own none : ℕ) → own < none → ((n ≡ none) ⊎ (n < own)) → (n == own) ≡ false
differs n own none low (inl e) = grind (arith, nat_tests, e)
differs n own none low (inr l) = grind (arith, nat_tests, l)

known_by : (base : Option Source) (d : DebugDelta) (older : List DebugDelta) (none : ℕ) (method : Token) (o : Option (Source × Token)) (changed : Bool) → delta_row d.pdb method ≡ o → length older + 1 < none
    → file_at base older (file_number base none older method) ≡ option_map (λ (p : Source × Token). p.0) (known_at base older method)
    → file_at base (d ∷ older) (number_or (is_some o) changed (length older + 1) none (file_number base none older method))
    ≡ option_map (λ (p : Source × Token). p.0) (known_or o changed (known_at base older method))
known_by base d older none method (Some place) changed is low before = at_own base d older ∙ own_file d.pdb method place is
known_by base d older none method None true is low before = file_none base (d ∷ older) none (omega (arith, low))
known_by base d older none method None false is low before =
    at_other base d older (file_number base none older method) (differs (file_number base none older method) (length older + 1) none low (number_low base none older method (omega (arith, low)))) ∙ before

-- the file with the number is the one that knows the method
file_known : (base : Option Source) (none : ℕ) (deltas : List DebugDelta) (method : Token) → length deltas < none
    → file_at base deltas (file_number base none deltas method) ≡ option_map (λ (p : Source × Token). p.0) (known_at base deltas method)
unfolding file_number known_at
file_known base zero [] method low = absurd (omega arith)
file_known base (suc k) [] method low = base_known base k method
file_known base none (d ∷ older) method low =
    known_by base d older none method (delta_row d.pdb method) (list_any (is_token method) d.changed) refl (omega arith) (file_known base none older method (omega arith))

documents_by : (o : Option (Source × Token)) (n : ℕ)
    → option_and_then (λ (s : Source). document_at s n) (option_map (λ (p : Source × Token). p.0) o) ≡ documents_at o n
unfolding documents_at
documents_by None n = refl
documents_by (Some p) n = refl

-- so the document at the place is the one that the number means there
pub placed_known : (base : Option Source) (none : ℕ) (deltas : List DebugDelta) (method : Token) (n : ℕ) → length deltas < none → n < 2 ^ 32
    → document_placed base deltas (file_number base none deltas method * 2 ^ 32 + n) ≡ documents_at (known_at base deltas method) n
unfolding document_placed
placed_known base none deltas method n low small =
    rw (div-mul-add (file_number base none deltas method) (2 ^ 32) n small, mod-mul-add (file_number base none deltas method) (2 ^ 32) n small, file_known base none deltas method low)
    (documents_by (known_at base deltas method) n)

few_by : (n k : ℕ) → k + 1 < 2 ^ 32 → ((n ≡ k + 1) ⊎ (n < k + 1)) → n < 2 ^ 32
few_by n k few (inl e) = omega (arith, few, e)
few_by n k few (inr l) = omega (arith, few, l)

pub number_few : (base : Option Source) (deltas : List DebugDelta) (method : Token) → length deltas + 1 < 2 ^ 32
    → file_number base (length deltas + 1) deltas method < 2 ^ 32
number_few base deltas method few = few_by (file_number base (length deltas + 1) deltas method) (length deltas) few (number_low base (length deltas + 1) deltas method (omega arith))

-- room for more deltas
pub room_some : (capacity n more : ℕ) → n + 1 ≤ capacity → n < 0xFFFFFFFE → 0 < room_for capacity n
unfolding room_for
room_some capacity n more some few = omega (arith, some, few)

pub room_kept : (a b n : ℕ) → a ≤ b → room_for a n ≤ room_for b n
unfolding room_for
room_kept a b n le = omega (arith, le)

pub room_there : (capacity n : ℕ) → 0 < room_for capacity n → (n < capacity) × (n + 1 < 0xFFFFFFFF)
unfolding room_for
room_there capacity n some = (omega (arith, some), omega (arith, some))

pub room_less : (capacity n : ℕ) → 0 < room_for capacity n → room_for capacity (n + 1) + 1 ≡ room_for capacity n
unfolding room_for
room_less capacity n some = omega (arith, some)

pub room_when : {E : Type 0} (r : Result Unit E) (capacity n : ℕ) → n < 0xFFFFFFFE → OnOk r (n + 1 ≤ capacity) → OnOk r (0 < room_for capacity n)
room_when (Ok x) capacity n few some = room_some capacity n 1 some few
room_when (Err e) capacity n few some = tt
