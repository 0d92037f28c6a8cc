-- A body that was written stands where it was written to.
use Rattle.std.proofs.Common.{◌≡◌, ℕ, zero, suc, ◌+◌, ◌-◌, ◌*◌, ◌%◌, ◌<◌, ◌≤◌, Bool, true, false, List, [], ◌∷◌, ◌++◌, length, map, drop, replicate, Option, Some, option_map, refl, sym, ap, ◌∙◌, arith}
use Rattle.std.specs.Prelude.{option_and_then, nat_le, if◌then◌else◌}
use Rattle.std.specs.List.{list_all}
use Rattle.std.proofs.Math.Seq.{drop-append_seam}
use Rattle.std.proofs.lemmas.Bool.Decides.{nat_tests}
use Rattle.std.proofs.lemmas.List.{append_assoc, length-append, length-replicate}
use Rattle.std.specs.Int.{w16, w32, to_le_bytes}
use Rattle.enc_base.specs.Token.{number_of}
use Rattle.enc_base.specs.Numbers.{padded}
use Rattle.enc_base.proofs.SmallNumbers.{EachIsByte}
use Rattle.enc_meta.specs.Regions.{Region, region_holds, rest_loaded}
use Rattle.enc_opcodes.specs.declared.code.Clause.{Clause}
use Rattle.enc_opcodes.specs.Clause.{clauses_of}
use Rattle.enc_opcodes.specs.Body.{Code, Body, nil_or, body_at, body_of, handler_meant, is_good, texts_are_there}
use Rattle.enc_opcodes.specs.Sound.{body_is_sound}
use Rattle.enc_il.specs.Written.{is_tiny, tiny_written, fat_written, body_written, place_for, with_body, IsWritable, clause_fits, code_again, sections_written, flags_written, code_written}
use Rattle.enc_il.proofs.BodiesWritten.{bodies_are_read}
use Rattle.enc_il.proofs.ClausesWritten.{clauses_are_read}
use Rattle.enc_il.proofs.Numbers.{byte_between}
use Rattle.enc_plain.specs.Bodies.{code_there, code_loaded, body_loaded, code_is_good}
use Rattle.enc_rewriter.specs.Copied.{SaysSame}
use Rattle.enc_rewriter.specs.Placed.{loaded_with}
use Rattle.enc_rewriter.specs.Standing.{StandsAt, is_known, known_as}
use Rattle.enc_rewriter.proofs.SoundCode.{meant_same, all_known, sound_is_good}

-- what stands in the code stands in more of it
pub more_loaded : (code more behind : List ℕ) → loaded_with (code ++ more) behind ≡ loaded_with code (more ++ behind)
more_loaded code more behind = ap (λ (bytes : List ℕ). let r : Region = record { address = 8192; bytes = bytes } in r ∷ []) (append_assoc code more behind)

pub stands_still : (count : ℕ → ℕ) (users : ℕ → Option (List ℕ)) (code more : List ℕ) (rva : ℕ) (b : Body) → StandsAt count users code rva b → StandsAt count users (code ++ more) rva b
stands_still count users code more rva b is = record {
  some = is.some;
  meant = λ behind. ap (λ r. body_loaded r users rva) (more_loaded code more behind) ∙ is.meant (more ++ behind);
  good = λ behind. ap (λ r. code_is_good count users (code_loaded r rva)) (more_loaded code more behind) ∙ is.good (more ++ behind);
}

-- a written body has a byte, and the bytes before it end where it begins
fat_some : (c : Code) (cs : List Clause) → 0 < length (fat_written c cs)
unfolding fat_written
fat_some c cs =
    let a = to_le_bytes w16 (flags_written c.init cs) in
    let b = to_le_bytes w16 c.max in
    let d = to_le_bytes w32 (length c.code) in
    let e = to_le_bytes w32 (number_of (nil_or c.locals)) in
    let f = code_written c cs in
    omega (arith, length-append (a ++ b ++ d ++ e) f, length-append (a ++ b ++ d) e, length-append (a ++ b) d, length-append a b)

some_by : (c : Code) (cs : List Clause) (t : Bool) → 0 < length (if t then tiny_written c else fat_written c cs)
some_by c cs true = omega arith
some_by c cs false = fat_some c cs

body_some : (c : Code) (cs : List Clause) → 0 < length (body_written c cs)
unfolding body_written
body_some c cs = some_by c cs (is_tiny c cs)

padded_behind : (n : ℕ) → n ≤ padded n
unfolding padded
padded_behind n = omega arith

padded_fours : (n : ℕ) → (8192 + padded n) % 4 ≡ 0
unfolding padded
padded_fours n = omega arith

padded_none : padded 0 ≡ 0
unfolding padded
padded_none = refl

place_by : (n : ℕ) (t : Bool) → n ≤ (if t then n else padded n)
place_by n true = omega arith
place_by n false = padded_behind n

pub place_behind : (n : ℕ) (c : Code) (cs : List Clause) → n ≤ place_for n c cs
unfolding place_for
place_behind n c cs = place_by n (is_tiny c cs)

front_size : (before : List ℕ) (c : Code) (cs : List Clause) → length (before ++ replicate (place_for (length before) c cs - length before) 0) ≡ place_for (length before) c cs
front_size before c cs =
    let n = length before in
    let p = place_for n c cs in
    length-append before (replicate (p - n) 0) ∙ ap (λ k. n + k) (length-replicate (p - n) 0) ∙ omega (arith, place_behind n c cs)

body_dropped : (before behind : List ℕ) (c : Code) (cs : List Clause) → drop (place_for (length before) c cs) (with_body before c cs ++ behind) ≡ body_written c cs ++ behind
unfolding with_body
body_dropped before behind c cs =
    let front = before ++ replicate (place_for (length before) c cs - length before) 0 in
    ap (drop (place_for (length before) c cs)) (append_assoc front (body_written c cs) behind)
    ∙ ap (λ n. drop n (front ++ (body_written c cs ++ behind))) (sym (front_size before c cs))
    ∙ drop-append_seam front (body_written c cs ++ behind)

body_within : (before behind : List ℕ) (c : Code) (cs : List Clause) → place_for (length before) c cs + 1 ≤ length (with_body before c cs ++ behind)
unfolding with_body
body_within before behind c cs =
    let front = before ++ replicate (place_for (length before) c cs - length before) 0 in
    omega (arith, length-append (front ++ body_written c cs) behind, length-append front (body_written c cs), front_size before c cs, body_some c cs)

-- so its bytes are loaded at its place
holds : (n : ℕ) (bytes : List ℕ) → n + 1 ≤ length bytes → region_holds (8192 + n) 1 (record { address = 8192; bytes = bytes }) ≡ true
holds n bytes within =
    let a : nat_le 8192 (8192 + n) ≡ true = grind (arith, nat_tests) in
    let b : nat_le (8192 + n - 8192 + 1) (length bytes) ≡ true = grind (arith, nat_tests) in
    rw (a, b) refl

shifted : (n : ℕ) → 8192 + n - 8192 ≡ n
shifted n = omega arith

rest_there : (n : ℕ) (bytes : List ℕ) → n + 1 ≤ length bytes → rest_loaded (record { address = 8192; bytes = bytes } ∷ []) (8192 + n) ≡ Some (drop n bytes)
unfolding rest_loaded
rest_there n bytes within = rw (holds n bytes within) (ap (λ k. Some (drop k bytes)) (shifted n))

code_at : (regions : List Region) (n : ℕ) → 0 < n → code_loaded regions n ≡ code_there regions n
unfolding code_loaded
code_at regions zero some = absurd (omega (arith, some))
code_at regions (suc n) some = refl

-- and it is read there: a tiny one at any place
tiny_at_any : (x : ℕ) (xs : List ℕ) (p q : ℕ) → x % 4 ≡ 2 → body_at (x ∷ xs) 0 p ≡ body_at (x ∷ xs) 0 q
unfolding body_at
tiny_at_any x xs p q two = rw (byte_between [] xs x 0 refl, two) refl

tiny_first : (n : ℕ) → (n * 4 + 2) % 4 ≡ 2
tiny_first n = omega arith

alone : (c : Code) (cs : List Clause) → place_for 0 c cs ≡ 0
unfolding place_for
alone c cs = by_test (is_tiny c cs)
  where
    by_test : (t : Bool) → (if t then 0 else padded 0) ≡ 0
    by_test true = refl
    by_test false = padded_none

with_alone : (c : Code) (cs : List Clause) → with_body [] c cs ≡ body_written c cs
unfolding with_body
with_alone c cs = rw (alone c cs) refl

read_first : (c : Code) (cs : List Clause) (behind : List ℕ) (first : ℕ) → IsWritable c cs → first % 4 ≡ 0 → body_at (body_written c cs ++ behind) 0 first ≡ Some (code_again c cs)
read_first c cs behind first fits four =
    let e = bodies_are_read [] behind c cs first fits four in
    let more : first ≡ first + 0 = omega arith in
    ap (λ xs. body_at (xs ++ behind) 0 first) (sym (with_alone c cs))
    ∙ ap (λ n. body_at (with_body [] c cs ++ behind) 0 n) more
    ∙ ap (λ n. body_at (with_body [] c cs ++ behind) n (first + n)) (sym (alone c cs))
    ∙ e

tiny_is : (c : Code) (cs : List Clause) → is_tiny c cs ≡ true → body_written c cs ≡ (length c.code * 4 + 2) ∷ c.code
unfolding body_written
tiny_is c cs is = rw is refl

fat_place : (n : ℕ) (c : Code) (cs : List Clause) → is_tiny c cs ≡ false → place_for n c cs ≡ padded n
unfolding place_for
fat_place n c cs is = rw is refl

read_by : (c : Code) (cs : List Clause) (behind : List ℕ) (n : ℕ) (t : Bool) → is_tiny c cs ≡ t → IsWritable c cs → body_at (body_written c cs ++ behind) 0 (8192 + place_for n c cs) ≡ Some (code_again c cs)
read_by c cs behind n true is fits =
    ap (λ xs. body_at (xs ++ behind) 0 (8192 + place_for n c cs)) (tiny_is c cs is)
    ∙ tiny_at_any (length c.code * 4 + 2) (c.code ++ behind) (8192 + place_for n c cs) 8192 (tiny_first (length c.code))
    ∙ ap (λ xs. body_at (xs ++ behind) 0 8192) (sym (tiny_is c cs is))
    ∙ read_first c cs behind 8192 fits refl
read_by c cs behind n false is fits =
    ap (λ p. body_at (body_written c cs ++ behind) 0 (8192 + p)) (fat_place n c cs is)
    ∙ read_first c cs behind (8192 + padded n) fits (padded_fours n)

code_stands : (before behind : List ℕ) (c : Code) (cs : List Clause) → IsWritable c cs → code_loaded (loaded_with (with_body before c cs) behind) (8192 + place_for (length before) c cs) ≡ Some (code_again c cs)
code_stands before behind c cs fits =
    let n = place_for (length before) c cs in
    let regions = loaded_with (with_body before c cs) behind in
    let rest = rest_there n (with_body before c cs ++ behind) (body_within before behind c cs) in
    code_at regions (8192 + n) (omega arith)
    ∙ ap (λ (o : Option (List ℕ)). option_and_then (λ (bytes : List ℕ). body_at bytes 0 (8192 + n)) o) rest
    ∙ ap (λ bytes. body_at bytes 0 (8192 + n)) (body_dropped before behind c cs)
    ∙ read_by c cs behind (length before) (is_tiny c cs) refl fits

pub written_stands : (count : ℕ → ℕ) (users : ℕ → Option (List ℕ)) (before : List ℕ) (c : Code) (cs : List Clause) (b : Body) → IsWritable c cs → body_of users (code_again c cs) ≡ b → is_good count (code_again c cs) ≡ true
    → texts_are_there users c.code ≡ true → StandsAt count users (with_body before c cs) (8192 + place_for (length before) c cs) b
unfolding body_loaded
written_stands count users before c cs b fits is good there = record {
  some = omega arith;
  meant = λ behind. ap (λ (o : Option Code). option_map (body_of users) o) (code_stands before behind c cs fits) ∙ ap (λ x. Some x) is;
  good = λ behind. ap (code_is_good count users) (code_stands before behind c cs fits) ∙ rw (good, there) refl;
}

-- what is said anew, with the same clauses, is the same body, and good
abbrev pub said_as : Code → List ℕ → Code
said_as c says = record { max = c.max; init = c.init; locals = c.locals; code = says; sections = [] }

pub same_body : (old new : ℕ → Option (List ℕ)) (c : Code) (says : List ℕ) (cs : List Clause) → SaysSame old new c.code says 0 → length says ≡ length c.code → nil_or c.locals ≡ c.locals → list_all clause_fits cs ≡ true
    → cs ≡ map known_as (clauses_of c.sections) → body_of new (code_again (said_as c says) cs) ≡ body_of old c
unfolding body_of
same_body old new c says cs same size nil fit are =
    let handlers : map handler_meant (clauses_of (sections_written cs)) ≡ map handler_meant (clauses_of c.sections) =
    ap (map handler_meant) (clauses_are_read cs fit ∙ are) ∙ meant_same (clauses_of c.sections) in
    rw (nil, size, same.told, handlers) refl

pub same_good : (old new : ℕ → Option (List ℕ)) (count : ℕ → ℕ) (c : Code) (says : List ℕ) (cs : List Clause) → SaysSame old new c.code says 0 → length says ≡ length c.code → nil_or c.locals ≡ c.locals → list_all clause_fits cs ≡ true
    → cs ≡ map known_as (clauses_of c.sections) → EachIsByte says → body_is_sound count (body_of old c) ≡ true → is_good count (code_again (said_as c says) cs) ≡ true
same_good old new count c says cs same size nil fit are bytes sound =
    sound_is_good new count (code_again (said_as c says) cs) bytes
    (ap (list_all (λ (x : Clause). is_known x.kind)) (clauses_are_read cs fit ∙ are) ∙ all_known (clauses_of c.sections))
    (ap (body_is_sound count) (same_body old new c says cs same size nil fit are) ∙ sound)

pub same_there : (old new : ℕ → Option (List ℕ)) (code says : List ℕ) → SaysSame old new code says 0 → texts_are_there new says ≡ true
unfolding texts_are_there
same_there old new code says same = same.there

-- so it stands where it was written
pub said_stands : (old new : ℕ → Option (List ℕ)) (count : ℕ → ℕ) (c : Code) (before says : List ℕ) (cs : List Clause) → SaysSame old new c.code says 0 → length says ≡ length c.code → nil_or c.locals ≡ c.locals
    → list_all clause_fits cs ≡ true → cs ≡ map known_as (clauses_of c.sections) → EachIsByte says → body_is_sound count (body_of old c) ≡ true → IsWritable (said_as c says) cs
    → StandsAt count new (with_body before (said_as c says) cs) (8192 + place_for (length before) (said_as c says) cs) (body_of old c)
said_stands old new count c before says cs same size nil fit are bytes sound fits =
    written_stands count new before (said_as c says) cs (body_of old c) fits (same_body old new c says cs same size nil fit are) (same_good old new count c says cs same size nil fit are bytes sound) (same_there old new c.code says same)

-- the bytes before it stay
pub with_grows : (before : List ℕ) (c : Code) (cs : List Clause) → (rest : List ℕ) × (with_body before c cs ≡ before ++ rest)
unfolding with_body
with_grows before c cs = (replicate (place_for (length before) c cs - length before) 0 ++ body_written c cs, append_assoc before (replicate (place_for (length before) c cs - length before) 0) (body_written c cs))
