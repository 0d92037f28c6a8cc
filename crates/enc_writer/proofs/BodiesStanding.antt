-- A body that was written into a delta's code is loaded from its place.
use Rattle.std.proofs.Common.{◌≡◌, ℕ, zero, suc, ◌+◌, ◌-◌, ◌*◌, ◌%◌, ◌<◌, ◌≤◌, Bool, true, false, List, [], ◌∷◌, ◌++◌, length, drop, replicate, Option, Some, refl, sym, ap, ◌∙◌, arith}
use Rattle.std.specs.Prelude.{option_and_then, nat_le, if◌then◌else◌}
use Rattle.std.proofs.Math.Seq.{drop-append_seam}
use Rattle.std.proofs.lemmas.Bool.Decides.{nat_tests}
use Rattle.std.proofs.lemmas.List.{append_assoc, length-append, length-replicate}
use Rattle.std.specs.Int.{w16, w32, to_le_bytes}
use Rattle.enc_base.specs.Token.{number_of}
use Rattle.enc_base.specs.Numbers.{padded}
use Rattle.enc_meta.specs.Regions.{Region, region_holds, rest_loaded}
use Rattle.enc_opcodes.specs.declared.code.Clause.{Clause}
use Rattle.enc_opcodes.specs.Body.{Code, nil_or, body_at}
use Rattle.enc_il.specs.Written.{is_tiny, tiny_written, fat_written, body_written, place_for, with_body, IsWritable, code_again, flags_written, code_written}
use Rattle.enc_il.proofs.BodiesWritten.{bodies_are_read}
use Rattle.enc_il.proofs.Numbers.{byte_between}
use Rattle.enc_plain.specs.Bodies.{code_there, code_loaded}
use Rattle.enc_delta.specs.Delta.{loaded_code}

-- a written body has a byte
fat_some : (c : Code) (cs : List Clause) → 0 < length (fat_written c cs)
unfolding fat_written
fat_some c cs =
    let a = to_le_bytes w16 (flags_written c.init cs) in
    let b = to_le_bytes w16 c.max in
    let d = to_le_bytes w32 (length c.code) in
    let e = to_le_bytes w32 (number_of (nil_or c.locals)) in
    let f = code_written c cs in
    omega (arith, length-append (a ++ b ++ d ++ e) f, length-append (a ++ b ++ d) e, length-append (a ++ b) d, length-append a b)

some_by : (c : Code) (cs : List Clause) (t : Bool) → 0 < length (if t then tiny_written c else fat_written c cs)
some_by c cs true = omega arith
some_by c cs false = fat_some c cs

body_some : (c : Code) (cs : List Clause) → 0 < length (body_written c cs)
unfolding body_written
body_some c cs = some_by c cs (is_tiny c cs)

-- it begins behind the bytes before it
padded_behind : (n : ℕ) → n ≤ padded n
unfolding padded
padded_behind n = omega arith

place_by : (n : ℕ) (t : Bool) → n ≤ (if t then n else padded n)
place_by n true = omega arith
place_by n false = padded_behind n

pub place_behind : (n : ℕ) (c : Code) (cs : List Clause) → n ≤ place_for n c cs
unfolding place_for
place_behind n c cs = place_by n (is_tiny c cs)

front_size : (before : List ℕ) (c : Code) (cs : List Clause) → length (before ++ replicate (place_for (length before) c cs - length before) 0) ≡ place_for (length before) c cs
front_size before c cs =
    let n = length before in
    let p = place_for n c cs in
    length-append before (replicate (p - n) 0) ∙ ap (λ k. n + k) (length-replicate (p - n) 0) ∙ omega (arith, place_behind n c cs)

body_dropped : (before behind : List ℕ) (c : Code) (cs : List Clause) → drop (place_for (length before) c cs) (with_body before c cs ++ behind) ≡ body_written c cs ++ behind
unfolding with_body
body_dropped before behind c cs =
    let front = before ++ replicate (place_for (length before) c cs - length before) 0 in
    ap (drop (place_for (length before) c cs)) (append_assoc front (body_written c cs) behind)
    ∙ ap (λ n. drop n (front ++ (body_written c cs ++ behind))) (sym (front_size before c cs))
    ∙ drop-append_seam front (body_written c cs ++ behind)

body_within : (before behind : List ℕ) (c : Code) (cs : List Clause) → place_for (length before) c cs + 1 ≤ length (with_body before c cs ++ behind)
unfolding with_body
body_within before behind c cs =
    let front = before ++ replicate (place_for (length before) c cs - length before) 0 in
    omega (arith, length-append (front ++ body_written c cs) behind, length-append front (body_written c cs), front_size before c cs, body_some c cs)

-- what is loaded from a place of the code
rest_there : (n : ℕ) (il : List ℕ) → n + 1 ≤ length il → rest_loaded (loaded_code il) n ≡ Some (drop n il)
unfolding rest_loaded
rest_there n il within =
    let a : nat_le 0 n ≡ true = grind (arith, nat_tests) in
    let b : nat_le (n - 0 + 1) (length il) ≡ true = grind (arith, nat_tests) in
    let holds : region_holds n 1 (record { address = 0; bytes = il }) ≡ true = rw (a, b) refl in
    let same : n - 0 ≡ n = omega arith in
    rw holds (ap (λ k. Some (drop k il)) same)

code_at : (regions : List Region) (n : ℕ) → 0 < n → code_loaded regions n ≡ code_there regions n
unfolding code_loaded
code_at regions zero some = absurd (omega (arith, some))
code_at regions (suc n) some = refl

-- a tiny body is read at any place, and a fat one at its own
tiny_at_any : (x : ℕ) (xs : List ℕ) (p q : ℕ) → x % 4 ≡ 2 → body_at (x ∷ xs) 0 p ≡ body_at (x ∷ xs) 0 q
unfolding body_at
tiny_at_any x xs p q two = rw (byte_between [] xs x 0 refl, two) refl

tiny_first : (n : ℕ) → (n * 4 + 2) % 4 ≡ 2
tiny_first n = omega arith

alone : (c : Code) (cs : List Clause) → place_for 0 c cs ≡ 0
unfolding place_for padded
alone c cs = by_test (is_tiny c cs)
  where
    by_test : (t : Bool) → (if t then 0 else padded 0) ≡ 0
    by_test true = refl
    by_test false = refl

with_alone : (c : Code) (cs : List Clause) → with_body [] c cs ≡ body_written c cs
unfolding with_body
with_alone c cs = rw (alone c cs) refl

read_first : (c : Code) (cs : List Clause) (behind : List ℕ) (first : ℕ) → IsWritable c cs → first % 4 ≡ 0 → body_at (body_written c cs ++ behind) 0 first ≡ Some (code_again c cs)
read_first c cs behind first fits four =
    let e = bodies_are_read [] behind c cs first fits four in
    let more : first ≡ first + 0 = omega arith in
    ap (λ xs. body_at (xs ++ behind) 0 first) (sym (with_alone c cs))
    ∙ ap (λ n. body_at (with_body [] c cs ++ behind) 0 n) more
    ∙ ap (λ n. body_at (with_body [] c cs ++ behind) n (first + n)) (sym (alone c cs))
    ∙ e

tiny_is : (c : Code) (cs : List Clause) → is_tiny c cs ≡ true → body_written c cs ≡ (length c.code * 4 + 2) ∷ c.code
unfolding body_written
tiny_is c cs is = rw is refl

fat_place : (n : ℕ) (c : Code) (cs : List Clause) → is_tiny c cs ≡ false → place_for n c cs % 4 ≡ 0
unfolding place_for padded
fat_place n c cs is = rw is (omega arith)

read_by : (c : Code) (cs : List Clause) (behind : List ℕ) (n : ℕ) (t : Bool) → is_tiny c cs ≡ t → IsWritable c cs → body_at (body_written c cs ++ behind) 0 (place_for n c cs) ≡ Some (code_again c cs)
read_by c cs behind n true is fits =
    ap (λ xs. body_at (xs ++ behind) 0 (place_for n c cs)) (tiny_is c cs is)
    ∙ tiny_at_any (length c.code * 4 + 2) (c.code ++ behind) (place_for n c cs) 0 (tiny_first (length c.code))
    ∙ ap (λ xs. body_at (xs ++ behind) 0 0) (sym (tiny_is c cs is))
    ∙ read_first c cs behind 0 fits refl
read_by c cs behind n false is fits = read_first c cs behind (place_for n c cs) fits (fat_place n c cs is)

-- whatever stands behind it
pub code_stands : (before behind : List ℕ) (c : Code) (cs : List Clause) → IsWritable c cs → 0 < length before → code_loaded (loaded_code (with_body before c cs ++ behind)) (place_for (length before) c cs) ≡ Some (code_again c cs)
code_stands before behind c cs fits some =
    let n = place_for (length before) c cs in
    let il = with_body before c cs ++ behind in
    code_at (loaded_code il) n (omega (arith, some, place_behind (length before) c cs))
    ∙ ap (λ (o : Option (List ℕ)). option_and_then (λ (bytes : List ℕ). body_at bytes 0 n) o) (rest_there n il (body_within before behind c cs))
    ∙ ap (λ bytes. body_at bytes 0 n) (body_dropped before behind c cs)
    ∙ read_by c cs behind (length before) (is_tiny c cs) refl fits

-- the bytes before it stay
pub with_grows : (before : List ℕ) (c : Code) (cs : List Clause) → (rest : List ℕ) × (with_body before c cs ≡ before ++ rest)
unfolding with_body
with_grows before c cs = (replicate (place_for (length before) c cs - length before) 0 ++ body_written c cs, append_assoc before (replicate (place_for (length before) c cs - length before) 0) (body_written c cs))
