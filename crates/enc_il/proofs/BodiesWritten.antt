-- Bodies that were written are read back.
use Rattle.std.proofs.Common.{◌≡◌, ℕ, suc, ◌+◌, ◌-◌, ◌*◌, ◌/◌, ◌%◌, ◌^◌, ◌<◌, ◌≤◌, Bool, true, false, not, List, [], ◌∷◌, ◌++◌, length, drop, Some, replicate, refl, sym, ap, ◌∙◌, arith}
use Rattle.std.specs.Prelude.{◌==◌, option_and_then, if◌then◌else◌}
use Rattle.std.specs.Int.{w8, w16, w32, to_le_bytes}
use Rattle.std.proofs.lemmas.Bool.Decides.{nat_tests}
use Rattle.std.proofs.lemmas.List.{append_assoc, append-nil, length-append, length-replicate, drop_at}
use Rattle.std.proofs.lemmas.Bool.{and_parts, lt-ltb}
use Rattle.enc_base.specs.Numbers.{little_endian_at, padded, has_flag}
use Rattle.enc_base.specs.Token.{number_of, token_of, nil}
use Rattle.enc_base.specs.declared.token.Token.{Token}
use Rattle.enc_opcodes.specs.declared.code.Clause.{Clause}
use Rattle.enc_opcodes.specs.Instruction.{range_at}
use Rattle.enc_opcodes.specs.Body.{Code, nil_or, sections_at, if_short, sections_behind, fat_at, body_at}
use Rattle.enc_il.specs.Written.{sections_written, is_tiny, flags_written, padding_after, code_written, fat_written, tiny_written, body_written, place_for, with_body, IsWritable, code_again, BodyIsRead}
use Rattle.enc_il.proofs.Numbers.{byte_between, half_between, word_between, range_between}
use Rattle.enc_il.proofs.BodiesShort.{sections_few}
use Rattle.enc_il.proofs.ClausesWritten.{sections_again}

-- a token that names a row, or nil, by its number
token_again : (t : Token) → t.table < 0x100 → t.row < 2 ^ 24 → token_of (number_of t) ≡ t
token_again t table row =
    let a : (t.table * 0x1000000 + t.row) / 0x1000000 ≡ t.table = omega arith in
    let b : (t.table * 0x1000000 + t.row) % 0x1000000 ≡ t.row = omega arith in
    rw (a, b) refl

nil_again : (t : Token) → t.table < 0x100 → t.row < 2 ^ 24 → nil_or (token_of (number_of (nil_or t))) ≡ nil_or t
nil_again t table row = by_row (t.row == 0) refl
  where
    by_row : (b : Bool) → t.row == 0 ≡ b → nil_or (token_of (number_of (nil_or t))) ≡ nil_or t
    by_row true is = rw is refl
    by_row false is = rw (is) (ap nil_or (token_again t table row) ∙ rw is refl)

number_few : (t : Token) → t.table < 0x100 → t.row < 2 ^ 24 → number_of (nil_or t) < 2 ^ 32
number_few t table row = by_row (t.row == 0) refl
  where
    by_row : (b : Bool) → t.row == 0 ≡ b → number_of (nil_or t) < 2 ^ 32
    by_row true is = rw is (omega arith)
    by_row false is = rw is (omega (arith, table, row))

-- whether there are clauses
abbrev some : List Clause → Bool
some [] = false
some (x ∷ rest) = true

not_none : (n : ℕ) → (suc n == 0) ≡ false
not_none n = grind (arith, nat_tests)

-- the flags
abbrev flags_for : Bool → Bool → ℕ
flags_for init more = 0x3003 + (if more then 8 else 0) + (if init then 0x10 else 0)

flags_are : (init : Bool) (cs : List Clause) → flags_written init cs ≡ flags_for init (some cs)
flags_are init [] = refl
flags_are init (x ∷ rest) = rw (not_none (length rest)) refl

flags_few : (init more : Bool) → flags_for init more < 2 ^ 16
flags_few true true = omega arith
flags_few true false = omega arith
flags_few false true = omega arith
flags_few false false = omega arith

flags_are_fat : (init more : Bool) → flags_for init more / 0x1000 == 3 ≡ true
flags_are_fat true true = refl
flags_are_fat true false = refl
flags_are_fat false true = refl
flags_are_fat false false = refl

flags_say_init : (init more : Bool) → has_flag 0x10 (flags_for init more) ≡ init
flags_say_init true true = refl
flags_say_init true false = refl
flags_say_init false true = refl
flags_say_init false false = refl

flags_say_more : (init more : Bool) → has_flag 8 (flags_for init more) ≡ more
flags_say_more true true = refl
flags_say_more true false = refl
flags_say_more false true = refl
flags_say_more false false = refl

-- the padding
padded_more : (n : ℕ) → n ≤ padded n
unfolding padded
padded_more n = omega arith

padded_four : (n : ℕ) → padded n % 4 ≡ 0
unfolding padded
padded_four n = omega arith

-- the code and what follows it
code_first : (c : Code) (cs : List Clause) → (tail : List ℕ) × (code_written c cs ≡ c.code ++ tail)
code_first c [] = ([], sym (append-nil c.code))
code_first c (x ∷ rest) = (padding_after (length c.code) ++ sections_written (x ∷ rest), append_assoc c.code (padding_after (length c.code)) (sections_written (x ∷ rest)))

code_length : (c : Code) → length (c.code ++ padding_after (length c.code)) ≡ padded (length c.code)
code_length c =
    let l = length-append c.code (padding_after (length c.code)) in
    let r = length-replicate {A = ℕ} (padded (length c.code) - length c.code) 0 in
    omega (arith, l, r, padded_more (length c.code))

-- the sections behind the code
short_so : (xs : List ℕ) → length xs < 2 ^ 32 → if_short xs ≡ Some xs
short_so xs few = rw (lt-ltb (length xs) (2 ^ 32) few) refl

sections_there : (front rest : List ℕ) (c : Code) (cs : List Clause) (at : ℕ) → length front ≡ at → length (sections_written cs) < 2 ^ 32 → sections_behind (front ++ (code_written c cs ++ rest)) (at + padded (length c.code)) (some cs) ≡ Some (sections_written cs)
unfolding sections_written
sections_there front rest c [] at long few = refl
sections_there front rest c (x ∷ cs) at long few =
    let padding = padding_after (length c.code) in
    let sections = sections_written (x ∷ cs) in
    let before = front ++ (c.code ++ padding) in
    let e : front ++ (((c.code ++ padding) ++ sections) ++ rest) ≡ before ++ (sections ++ rest) = simp append_assoc in
    let l : length before ≡ at + padded (length c.code) = omega (arith, length-append front (c.code ++ padding), code_length c, long) in
    ap (option_and_then if_short) (
    ap (λ bytes. sections_at (drop (at + padded (length c.code)) bytes)) e
    ∙ ap sections_at (drop_at before (sections ++ rest) (at + padded (length c.code)) l)
    ∙ sections_again (x ∷ cs) rest (omega arith)
    )
    ∙ short_so sections few

-- the parts of a fat body, each between those in front of it and those behind it
at_0 : (o a b c d e r : List ℕ) → o ++ ((a ++ b ++ c ++ d ++ e) ++ r) ≡ o ++ (a ++ (b ++ c ++ d ++ e ++ r))
at_0 o a b c d e r = simp append_assoc

at_1 : (o a b c d e r : List ℕ) → o ++ ((a ++ b ++ c ++ d ++ e) ++ r) ≡ (o ++ a) ++ (b ++ (c ++ d ++ e ++ r))
at_1 o a b c d e r = simp append_assoc

at_2 : (o a b c d e r : List ℕ) → o ++ ((a ++ b ++ c ++ d ++ e) ++ r) ≡ (o ++ a ++ b) ++ (c ++ (d ++ e ++ r))
at_2 o a b c d e r = simp append_assoc

at_3 : (o a b c d e r : List ℕ) → o ++ ((a ++ b ++ c ++ d ++ e) ++ r) ≡ (o ++ a ++ b ++ c) ++ (d ++ (e ++ r))
at_3 o a b c d e r = simp append_assoc

at_4 : (o a b c d e r : List ℕ) → o ++ ((a ++ b ++ c ++ d ++ e) ++ r) ≡ (o ++ a ++ b ++ c ++ d) ++ (e ++ r)
at_4 o a b c d e r = simp append_assoc

-- a fat body by what stands at its places
fat_from : (bytes : List ℕ) (at flags max size locals : ℕ) (code sections : List ℕ) → little_endian_at w16 bytes at ≡ Some flags → little_endian_at w16 bytes (at + 2) ≡ Some max → little_endian_at w32 bytes (at + 4) ≡ Some size → little_endian_at w32 bytes (at + 8) ≡ Some locals → range_at bytes (at + 12) size ≡ Some code → sections_behind bytes (at + 12 + padded size) (has_flag 8 flags) ≡ Some sections → flags / 0x1000 == 3 ≡ true → fat_at bytes at ≡ Some (record { max = max; init = has_flag 0x10 flags; locals = nil_or (token_of locals); code = code; sections = sections })
unfolding fat_at
fat_from bytes at flags max size locals code sections h0 h1 h2 h3 h4 h5 h6 = rw (h0, h1, h2, h3, h4, h5, h6) refl

-- the code at its place
code_there : (front rest : List ℕ) (c : Code) (cs : List Clause) (at : ℕ) → length front ≡ at → range_at (front ++ (code_written c cs ++ rest)) at (length c.code) ≡ Some c.code
code_there front rest c cs at long =
    let first = code_first c cs in
    let e : front ++ (code_written c cs ++ rest) ≡ front ++ (c.code ++ (first.0 ++ rest)) = ap (λ bytes. front ++ bytes) (ap (λ bytes. bytes ++ rest) first.1 ∙ append_assoc c.code first.0 rest) in
    ap (λ bytes. range_at bytes at (length c.code)) e ∙ range_between front c.code (first.0 ++ rest) at (length c.code) long refl

fat_again : (before rest : List ℕ) (c : Code) (cs : List Clause) (at : ℕ) → length before ≡ at → IsWritable c cs → fat_at (before ++ (fat_written c cs ++ rest)) at ≡ Some (code_again c cs)
unfolding fat_written
fat_again before rest c cs at long fits =
    let flags = flags_written c.init cs in
    let locals = number_of (nil_or c.locals) in
    let a = to_le_bytes w16 flags in
    let b = to_le_bytes w16 c.max in
    let d = to_le_bytes w32 (length c.code) in
    let e = to_le_bytes w32 locals in
    let f = code_written c cs in
    let l1 = length-append before a in
    let l2 = length-append (before ++ a) b in
    let l3 = length-append (before ++ a ++ b) d in
    let l4 = length-append (before ++ a ++ b ++ d) e in
    let is = flags_are c.init cs in
    let few : flags < 2 ^ 16 = rw is (flags_few c.init (some cs)) in
    let h0 = ap (λ bytes. little_endian_at w16 bytes at) (at_0 before a b d e f rest) ∙ half_between before (b ++ d ++ e ++ f ++ rest) flags at long few in
    let h1 = ap (λ bytes. little_endian_at w16 bytes (at + 2)) (at_1 before a b d e f rest) ∙ half_between (before ++ a) (d ++ e ++ f ++ rest) c.max (at + 2) (omega (arith, l1, long)) fits.max in
    let h2 = ap (λ bytes. little_endian_at w32 bytes (at + 4)) (at_2 before a b d e f rest) ∙ word_between (before ++ a ++ b) (e ++ f ++ rest) (length c.code) (at + 4) (omega (arith, l1, l2, long)) fits.size in
    let h3 = ap (λ bytes. little_endian_at w32 bytes (at + 8)) (at_3 before a b d e f rest) ∙ word_between (before ++ a ++ b ++ d) (f ++ rest) locals (at + 8) (omega (arith, l1, l2, l3, long)) (number_few c.locals fits.table fits.row) in
    let l : length (before ++ a ++ b ++ d ++ e) ≡ at + 12 = omega (arith, l1, l2, l3, l4, long) in
    let h4 = ap (λ bytes. range_at bytes (at + 12) (length c.code)) (at_4 before a b d e f rest) ∙ code_there (before ++ a ++ b ++ d ++ e) rest c cs (at + 12) l in
    let more : has_flag 8 flags ≡ some cs = ap (λ n. has_flag 8 n) is ∙ flags_say_more c.init (some cs) in
    let h5 = ap (λ bytes. sections_behind bytes (at + 12 + padded (length c.code)) (has_flag 8 flags)) (at_4 before a b d e f rest) ∙ ap (λ t. sections_behind ((before ++ a ++ b ++ d ++ e) ++ (f ++ rest)) (at + 12 + padded (length c.code)) t) more ∙ sections_there (before ++ a ++ b ++ d ++ e) rest c cs (at + 12) l (omega (arith, sections_few cs, fits.sections)) in
    let h6 : flags / 0x1000 == 3 ≡ true = ap (λ n. n / 0x1000 == 3) is ∙ flags_are_fat c.init (some cs) in
    let init : has_flag 0x10 flags ≡ c.init = ap (λ n. has_flag 0x10 n) is ∙ flags_say_init c.init (some cs) in
    fat_from (before ++ (fat_written c cs ++ rest)) at flags c.max (length c.code) locals c.code (sections_written cs) h0 h1 h2 h3 h4 h5 h6
    ∙ rw (init, nil_again c.locals fits.table fits.row) refl

-- a tiny header serves where the body says no more than it
record IsTiny (c : Code) : Type 0 where
  max : c.max ≡ 8
  init : c.init ≡ false
  locals : (c.locals.row == 0) ≡ true

unset : (b : Bool) → not b ≡ true → b ≡ false
unset true h = absurd cc
unset false h = refl

eight : (n : ℕ) → n == 8 ≡ true → n ≡ 8
eight n h = grind (arith, nat_tests)

tiny_parts : (c : Code) → is_tiny c [] ≡ true → IsTiny c
unfolding is_tiny
tiny_parts c h =
    let e = and_parts _ _ h in
    let d = and_parts _ _ e.0 in
    let b = and_parts _ _ d.0 in
    record { max = eight c.max b.1; init = unset c.init d.1; locals = e.1 }

tiny_alike : (c : Code) → IsTiny c → record { max = 8; init = false; locals = nil; code = c.code; sections = [] } ≡ code_again c []
unfolding sections_written
tiny_alike c is = rw (is.max, is.init, is.locals) refl

-- a tiny body
tiny_from : (bytes : List ℕ) (at place first : ℕ) (code : List ℕ) → little_endian_at w8 bytes at ≡ Some first → first % 4 ≡ 2 → range_at bytes (at + 1) (first / 4) ≡ Some code → body_at bytes at place ≡ Some (record { max = 8; init = false; locals = nil; code = code; sections = [] })
unfolding body_at
tiny_from bytes at place first code h0 h1 h2 = rw (h0, h1, h2) refl

tiny_again : (before rest : List ℕ) (c : Code) (at place : ℕ) → length before ≡ at → is_tiny c [] ≡ true → body_at (before ++ (tiny_written c ++ rest)) at place ≡ Some (code_again c [])
tiny_again before rest c at place long is =
    let n = length c.code * 4 + 2 in
    let e : before ++ (tiny_written c ++ rest) ≡ (before ++ (n ∷ [])) ++ (c.code ++ rest) = simp append_assoc in
    let l : length (before ++ (n ∷ [])) ≡ at + 1 = omega (arith, length-append before (n ∷ []), long) in
    let size : (length c.code * 4 + 2) / 4 ≡ length c.code = omega arith in
    let h0 = byte_between before (c.code ++ rest) n at long in
    let h1 : (length c.code * 4 + 2) % 4 ≡ 2 = omega arith in
    let h2 = ap (λ m. range_at (before ++ (tiny_written c ++ rest)) (at + 1) m) size ∙ ap (λ bytes. range_at bytes (at + 1) (length c.code)) e ∙ range_between (before ++ (n ∷ [])) c.code rest (at + 1) (length c.code) l refl in
    tiny_from (before ++ (tiny_written c ++ rest)) at place n c.code h0 h1 h2 ∙ ap (λ x. Some x) (tiny_alike c (tiny_parts c is))

-- a body whose header is fat
fat_first : (init more : Bool) → flags_for init more % 256 % 4 ≡ 3
fat_first true true = refl
fat_first true false = refl
fat_first false true = refl
fat_first false false = refl

body_from : (bytes : List ℕ) (at place first : ℕ) → little_endian_at w8 bytes at ≡ Some first → first % 4 ≡ 3 → place % 4 ≡ 0 → body_at bytes at place ≡ fat_at bytes at
unfolding body_at
body_from bytes at place first h0 h1 h2 = rw (h0, h1, h2) refl

first_there : (before rest : List ℕ) (c : Code) (cs : List Clause) (at : ℕ) → length before ≡ at → little_endian_at w8 (before ++ (fat_written c cs ++ rest)) at ≡ Some (flags_written c.init cs % 256)
unfolding fat_written
first_there before rest c cs at long =
    let flags = flags_written c.init cs in
    let a = to_le_bytes w16 flags in
    let b = to_le_bytes w16 c.max in
    let d = to_le_bytes w32 (length c.code) in
    let e = to_le_bytes w32 (number_of (nil_or c.locals)) in
    let f = code_written c cs in
    ap (λ bytes. little_endian_at w8 bytes at) (at_0 before a b d e f rest) ∙ byte_between before ((flags / 256 % 256) ∷ (b ++ d ++ e ++ f ++ rest)) (flags % 256) at long

big_again : (before rest : List ℕ) (c : Code) (cs : List Clause) (at place : ℕ) → length before ≡ at → place % 4 ≡ 0 → IsWritable c cs → body_at (before ++ (fat_written c cs ++ rest)) at place ≡ Some (code_again c cs)
big_again before rest c cs at place long four fits =
    let first : flags_written c.init cs % 256 % 4 ≡ 3 = ap (λ n. n % 256 % 4) (flags_are c.init cs) ∙ fat_first c.init (some cs) in
    body_from (before ++ (fat_written c cs ++ rest)) at place (flags_written c.init cs % 256) (first_there before rest c cs at long) first four
    ∙ fat_again before rest c cs at long fits

-- a body between other bytes
not_tiny : (c : Code) (x : Clause) (rest : List Clause) → is_tiny c (x ∷ rest) ≡ false
unfolding is_tiny
not_tiny c x rest = refl

body_again : (before rest : List ℕ) (c : Code) (cs : List Clause) (at place : ℕ) → length before ≡ at → (is_tiny c cs ≡ false → place % 4 ≡ 0) → IsWritable c cs → body_at (before ++ (body_written c cs ++ rest)) at place ≡ Some (code_again c cs)
unfolding body_written
body_again before rest c cs at place long four fits = by_test (is_tiny c cs) refl
  where
    by_tiny : (all : List Clause) → is_tiny c all ≡ true → body_at (before ++ (tiny_written c ++ rest)) at place ≡ Some (code_again c all)
    by_tiny [] is = tiny_again before rest c at place long is
    by_tiny (x ∷ more) is = let no = not_tiny c x more in absurd cc

    by_test : (t : Bool) → is_tiny c cs ≡ t → body_at (before ++ (body_written c cs ++ rest)) at place ≡ Some (code_again c cs)
    by_test true is = rw is (by_tiny cs is)
    by_test false is = rw is (big_again before rest c cs at place long (four is) fits)

-- where it begins
place_behind : (n : ℕ) (c : Code) (cs : List Clause) → n ≤ place_for n c cs
unfolding place_for
place_behind n c cs = by_test (is_tiny c cs) refl
  where
    by_test : (t : Bool) → is_tiny c cs ≡ t → n ≤ place_for n c cs
    by_test true is = rw is (omega arith)
    by_test false is = rw is (padded_more n)

place_four : (n first : ℕ) (c : Code) (cs : List Clause) → first % 4 ≡ 0 → is_tiny c cs ≡ false → (first + place_for n c cs) % 4 ≡ 0
unfolding place_for
place_four n first c cs at is = rw is (omega (arith, at, padded_four n))

pub bodies_are_read : BodyIsRead
unfolding with_body
bodies_are_read bytes rest c cs first fits four =
    let place = place_for (length bytes) c cs in
    let zeros = replicate (place - length bytes) 0 in
    let l : length (bytes ++ zeros) ≡ place = omega (arith, length-append bytes zeros, length-replicate {A = ℕ} (place - length bytes) 0, place_behind (length bytes) c cs) in
    let e = append_assoc (bytes ++ zeros) (body_written c cs) rest in
    ap (λ all. body_at all place (first + place)) e
    ∙ body_again (bytes ++ zeros) rest c cs place (first + place) l (place_four (length bytes) first c cs four) fits
