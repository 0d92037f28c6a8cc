-- The operand of an instruction is read from its bytes.
use Rattle.std.proofs.Common.{◌≡◌, ℕ, ◌+◌, ◌*◌, ◌/◌, ◌%◌, ◌^◌, ◌<◌, ◌≤◌, Bool, true, false, List, [], ◌∷◌, ◌++◌, length, Some, None, refl, sym, ap, arith, append_assoc}
use Rattle.std.specs.Prelude.{nat_lt, nat_le, ◌&&◌, flat_map, if◌then◌else◌}
use Rattle.std.specs.List.{list_all}
use Rattle.std.specs.Int.{w8, w16, w32, w64, to_le_bytes, cast_unsigned}
use Rattle.std.proofs.lemmas.Bool.Decides.{nat_tests}
use Rattle.std.proofs.lemmas.List.{length-append}
use Rattle.std.proofs.lemmas.Nat.{from_le_bytes-to_le_bytes_4}
use Rattle.enc_base.specs.Token.{token_of, number_of}
use Rattle.enc_base.specs.declared.token.Token.{Token}
use Rattle.enc_il.proofs.Numbers.{half_between, word_between, range_between}
use Rattle.enc_meta.specs.Built.{unit_bytes}
use Rattle.enc_opcodes.specs.declared.op.Operand.{Operand}
use Rattle.enc_opcodes.specs.declared.op.Operand.TheVariants as operand
use Rattle.enc_opcodes.specs.Instruction.{nothing, targets, text, is_reached, reached, target_at, all_reached, are_reached, text_or_token, switch_in, arg_in}
use Rattle.enc_opcodes.specs.Sound.{operand_size}
use Rattle.enc_edit_list.specs.declared.body.ArgValue.{ArgValue}
use Rattle.enc_edit_list.specs.declared.body.ArgValue.TheVariants as arg
use Rattle.enc_edit_list.specs.Form.{arg_fits}
use Rattle.enc_edit_list.specs.Reach.{lies_in_reach, argument_reaches}
use Rattle.enc_edit_list.specs.Sizes.{arg_meant}
use Rattle.enc_assembly.specs.Assembly.{distance, switch_bytes, arg_bytes, arg_named, arg_is_small}
use Rattle.enc_assembly.proofs.Distances.{reads_far, reads_near}
use Rattle.enc_assembly.proofs.Numbers.{quad_between, low_byte, bits_8, bits_32, bits_64, plain_of}

-- a test of two
first_of : (a b : Bool) → (a && b) ≡ true → a ≡ true
first_of true b h = refl
first_of false b h = absurd cc

second_of : (a b : Bool) → (a && b) ≡ true → b ≡ true
second_of true b h = h
second_of false b h = absurd cc

lt_of : (a b : ℕ) → nat_lt a b ≡ true → a < b
lt_of a b h = grind (arith, nat_tests, h)

le_of : (a b : ℕ) → nat_le a b ≡ true → a ≤ b
le_of a b h = grind (arith, nat_tests, h)

-- a token by its number
token_again : (t : Token) → t.table < 0x100 → t.row < 2 ^ 24 → token_of (number_of t) ≡ t
token_again t small low =
    let table : (t.table * 0x1000000 + t.row) / 0x1000000 ≡ t.table = omega arith in
    let row : (t.table * 0x1000000 + t.row) % 0x1000000 ≡ t.row = omega arith in
    rw (table, row) refl

user_again : (offset : ℕ) → offset < 0x1000000 → text_or_token (0x70000000 + offset) ≡ text offset
user_again offset low =
    let table : (0x70000000 + offset) / 0x1000000 ≡ 0x70 = omega arith in
    let row : (0x70000000 + offset) % 0x1000000 ≡ offset = omega arith in
    rw (table, row) refl

-- the targets of a `switch` are read from their distances
far_is : (end d t : ℕ) (b : Bool) → is_reached end d ≡ b → (if b then Some (reached end d) else None) ≡ Some t → (b ≡ true) × (reached end d ≡ t)
far_is end d t true e h = (refl, let is : reached end d ≡ t = cc in is)
far_is end d t false e h = absurd cc

far_read : (end t : ℕ) → end < 2 ^ 32 → t < 2 ^ 32 → lies_in_reach end t ≡ true → target_at end (distance end t) ≡ Some t
far_read end t few low reach =
    let back = le_of end (t + 0x80000000) (first_of (nat_le end (t + 0x80000000)) (nat_lt t (end + 0x80000000)) reach) in
    let on = lt_of t (end + 0x80000000) (second_of (nat_le end (t + 0x80000000)) (nat_lt t (end + 0x80000000)) reach) in
    reads_far end t few low back on

far : (end t : ℕ) → end < 2 ^ 32 → t < 2 ^ 32 → lies_in_reach end t ≡ true → (is_reached end (distance end t) ≡ true) × (reached end (distance end t) ≡ t)
far end t few low reach = far_is end (distance end t) t (is_reached end (distance end t)) refl (far_read end t few low reach)

abbrev distances : ℕ → List ℕ → List ℕ
distances end ts = flat_map (λ t. to_le_bytes w32 (distance end t)) ts

four_each : (end : ℕ) (ts : List ℕ) → length (distances end ts) ≡ 4 * length ts
four_each end [] = refl
four_each end (t ∷ ts) = let more = four_each end ts in omega (arith, more)

abbrev below : List ℕ → Bool
below ts = list_all (λ t. nat_lt t (2 ^ 32)) ts

targets_again : (end : ℕ) (ts : List ℕ) → end < 2 ^ 32 → below ts ≡ true → list_all (lies_in_reach end) ts ≡ true → (are_reached end (distances end ts) ≡ true) × (all_reached end (distances end ts) ≡ ts)
unfolding are_reached all_reached
targets_again end [] few low reach = (refl, refl)
targets_again end (t ∷ ts) few low reach =
    let near = first_of (lies_in_reach end t) (list_all (lies_in_reach end) ts) reach in
    let one = far end t few (lt_of t (2 ^ 32) (first_of (nat_lt t (2 ^ 32)) (below ts) low)) near in
    let more = targets_again end ts few (second_of (nat_lt t (2 ^ 32)) (below ts) low) (second_of (lies_in_reach end t) (list_all (lies_in_reach end) ts) reach) in
    let word = from_le_bytes-to_le_bytes_4 (distance end t) (omega arith) in
    (rw (word, one.0, more.0) refl, rw (word, one.1, more.1) refl)

switch_read : (front rest : List ℕ) (at end : ℕ) (ts : List ℕ) → length front ≡ at → end ≡ at + 4 + 4 * length ts → end < 2 ^ 32 → below ts ≡ true → list_all (lies_in_reach end) ts ≡ true → switch_in (front ++ (switch_bytes end ts ++ rest)) at ≡ Some (targets ts, end)
unfolding switch_in
switch_read front rest at end ts long ends few low reach =
    let count : to_le_bytes w32 (length ts) ++ distances end ts ++ rest ≡ to_le_bytes w32 (length ts) ++ (distances end ts ++ rest) = append_assoc (to_le_bytes w32 (length ts)) (distances end ts) rest in
    let behind : length (front ++ to_le_bytes w32 (length ts)) ≡ at + 4 = rw (length-append front (to_le_bytes w32 (length ts))) (omega (arith, long)) in
    let moved : front ++ (to_le_bytes w32 (length ts) ++ (distances end ts ++ rest)) ≡ front ++ to_le_bytes w32 (length ts) ++ (distances end ts ++ rest) = sym (append_assoc front (to_le_bytes w32 (length ts)) (distances end ts ++ rest)) in
    let range = range_between (front ++ to_le_bytes w32 (length ts)) (distances end ts) rest (at + 4) (4 * length ts) behind (four_each end ts) in
    let again = targets_again end ts few low reach in
    rw (count, word_between front (distances end ts ++ rest) (length ts) at long (omega (arith, few, ends)), moved, range, ← ends, again.0, again.1) refl

-- the front of the operand stands at the place, and the instruction ends behind it
pub reads : (offset : List ℕ → ℕ) (front rest : List ℕ) (at end : ℕ) (o : Operand) (a : ArgValue) → length front ≡ at → end ≡ at + operand_size o (arg_meant a) → arg_fits o a ≡ true → argument_reaches end o a ≡ true → arg_is_small offset a ≡ true → end < 2 ^ 32 → arg_in o (front ++ (arg_bytes offset end o a ++ rest)) at ≡ Some (arg_named offset a, end)
unfolding arg_in arg_bytes
reads offset front rest at end operand.None arg.None long ends fits reach small few = let e : at ≡ end = omega (arith, ends) in ap (λ n. Some (nothing, n)) e
reads offset front rest at end operand.I8 (arg.Num n) long ends fits reach small few =
    let b = bits_8 n fits in
    rw (low_byte front rest (cast_unsigned w8 n) at long b.0, b.1, ends) refl
reads offset front rest at end operand.U8 (arg.Num n) long ends fits reach small few =
    let p = plain_of n 0xFF fits in
    let w : cast_unsigned w8 n < 0x100 = rw p.1 (omega (arith, p.0)) in
    rw (low_byte front rest (cast_unsigned w8 n) at long w, p.1, p.2, ends) refl
reads offset front rest at end operand.U16 (arg.Num n) long ends fits reach small few =
    let p = plain_of n 0xFFFF fits in
    rw (half_between front rest (cast_unsigned w16 n) at long (omega (arith, p.0)), p.2, ends) refl
reads offset front rest at end operand.I32 (arg.Num n) long ends fits reach small few =
    let b = bits_32 n fits in
    rw (word_between front rest (cast_unsigned w32 n) at long b.0, b.1, ends) refl
reads offset front rest at end operand.I64 (arg.Num n) long ends fits reach small few =
    let b = bits_64 n fits in
    rw (quad_between front rest (cast_unsigned w64 n) at long b.0, b.1, ends) refl
reads offset front rest at end operand.R4 (arg.Raw bytes) long ends fits reach small few =
    let many : length bytes ≡ 4 = grind (arith, nat_tests, fits) in
    rw (range_between front bytes rest at 4 long many, ends) refl
reads offset front rest at end operand.R8 (arg.Raw bytes) long ends fits reach small few =
    let many : length bytes ≡ 8 = grind (arith, nat_tests, fits) in
    rw (range_between front bytes rest at 8 long many, ends) refl
reads offset front rest at end operand.Branch8 (arg.Target t) long ends fits reach small few =
    let low = lt_of t (2 ^ 32) small in
    let back = le_of end (t + 128) (first_of (nat_le end (t + 128)) (nat_le t (end + 127)) reach) in
    let on = le_of t (end + 127) (second_of (nat_le end (t + 128)) (nat_le t (end + 127)) reach) in
    rw (low_byte front rest (distance end t % 0x100) at long (omega arith), ← ends, reads_near end t few low back on) refl
reads offset front rest at end operand.Branch32 (arg.Target t) long ends fits reach small few =
    let low = lt_of t (2 ^ 32) small in
    rw (word_between front rest (distance end t) at long (omega arith), ← ends, far_read end t few low reach) refl
reads offset front rest at end operand.Switch (arg.Targets ts) long ends fits reach small few =
    switch_read front rest at end ts long (omega (arith, ends)) few small reach
reads offset front rest at end operand.Token (arg.Token t) long ends fits reach small few =
    let table = lt_of t.table 0x100 (first_of (nat_lt t.table 0x100) (nat_lt t.row 0x1000000) small) in
    let row = lt_of t.row 0x1000000 (second_of (nat_lt t.table 0x100) (nat_lt t.row 0x1000000) small) in
    rw (word_between front rest (number_of t) at long (omega (arith, table, row)), token_again t table row, ends) refl
reads offset front rest at end operand.User (arg.User units) long ends fits reach small few =
    let low = lt_of (offset (unit_bytes units)) 0x1000000 small in
    rw (word_between front rest (0x70000000 + offset (unit_bytes units)) at long (omega (arith, low)), user_again (offset (unit_bytes units)) low, ends) refl
reads offset front rest at end _ _ long ends fits reach small few = absurd cc

-- and it has as many bytes as its size tells
pub arg_size : (offset : List ℕ → ℕ) (end : ℕ) (o : Operand) (a : ArgValue) → arg_fits o a ≡ true → length (arg_bytes offset end o a) ≡ operand_size o (arg_meant a)
unfolding arg_bytes
arg_size offset end operand.None arg.None fits = refl
arg_size offset end operand.I8 (arg.Num n) fits = refl
arg_size offset end operand.U8 (arg.Num n) fits = refl
arg_size offset end operand.U16 (arg.Num n) fits = refl
arg_size offset end operand.I32 (arg.Num n) fits = refl
arg_size offset end operand.I64 (arg.Num n) fits = refl
arg_size offset end operand.R4 (arg.Raw bytes) fits = grind (arith, nat_tests, fits)
arg_size offset end operand.R8 (arg.Raw bytes) fits = grind (arith, nat_tests, fits)
arg_size offset end operand.Branch8 (arg.Target t) fits = refl
arg_size offset end operand.Branch32 (arg.Target t) fits = refl
arg_size offset end operand.Switch (arg.Targets ts) fits = let four = four_each end ts in omega (arith, four)
arg_size offset end operand.Token (arg.Token t) fits = refl
arg_size offset end operand.User (arg.User units) fits = refl
arg_size offset end _ _ fits = absurd cc
