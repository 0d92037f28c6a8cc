-- Whole code: each instruction takes the bytes of its code and of its operand, and the next stands behind it.
use Rattle.std.proofs.Common.{◌≡◌, ℕ, zero, suc, ◌+◌, ◌-◌, ◌*◌, ◌^◌, ◌<◌, ◌≤◌, Bool, true, false, cond, List, [], ◌∷◌, length, map, take, drop, Option, Some, None, option_map, refl, sym, ap, ◌∙◌, arith}
use Rattle.std.specs.Prelude.{option_and_then, nat_le, ◌==◌, ◌&&◌, if◌then◌else◌}
use Rattle.std.specs.Int.{w8, w16, w32, w64}
use Rattle.std.proofs.lemmas.Bool.Decides.{nat_tests}
use Rattle.std.proofs.lemmas.Bool.{and_from}
use Rattle.enc_base.specs.Numbers.{little_endian_at}
use Rattle.enc_base.proofs.SmallNumbers.{EachIsByte, number8_few}
use Rattle.enc_opcodes.specs.declared.op.Op.{Op}
use Rattle.enc_opcodes.specs.declared.op.Operand.{Operand}
use Rattle.enc_opcodes.specs.declared.op.Operand.TheVariants as operand
use Rattle.enc_opcodes.specs.Table.{Entry}
use Rattle.enc_opcodes.specs.Opcodes.{entry_of, with_code, code_of, op_at}
use Rattle.enc_opcodes.specs.Instruction.{Argument, nothing, number, target, targets, token, text, raw, Instruction, range_at, widened, target_at, all_reached, are_reached, targets_at, switch_in, arg_in, op_in, instr_in, IsChain}
use Rattle.enc_opcodes.specs.Body.{told, instruction_told}
use Rattle.enc_opcodes.specs.Sound.{target_count, operand_size, instruction_size, are_whole}

-- what is read, and the place behind it
pair_is : {X : Type 0} (p q : X × ℕ) → Some p ≡ Some q → (p.0 ≡ q.0) × (p.1 ≡ q.1)
pair_is {X} p q h = let e : p ≡ q = cc in (ap (λ (x : X × ℕ). x.0) e, ap (λ (x : X × ℕ). x.1) e)

mapped : {X Y : Type 0} (o : Option X) (f : X → Y) (next : ℕ) (a : Y) (n : ℕ) → option_map {U = Y × ℕ} (λ (x : X). (f x, next)) o ≡ Some (a, n) → next ≡ n
mapped None f next a n h = absurd (cc)
mapped {X} {Y} (Some x) f next a n h = (pair_is {X = Y} (f x, next) (a, n) h).1

-- a switch has as many targets as its count says
length_reached : (end n : ℕ) (bytes : List ℕ) → length bytes ≡ 4 * n → length (all_reached end bytes) ≡ n
unfolding all_reached
length_reached end zero [] h = refl
length_reached end zero (a ∷ rest) h = absurd (omega arith)
length_reached end (suc n) [] h = absurd (omega arith)
length_reached end (suc n) (a ∷ []) h = absurd (omega arith)
length_reached end (suc n) (a ∷ b ∷ []) h = absurd (omega arith)
length_reached end (suc n) (a ∷ b ∷ c ∷ []) h = absurd (omega arith)
length_reached end (suc n) (a ∷ b ∷ c ∷ d ∷ rest) h = ap suc (length_reached end n rest (omega arith))

length_taken : (xs : List ℕ) (n : ℕ) → n ≤ length xs → length (take n xs) ≡ n
length_taken xs zero h = refl
length_taken [] (suc n) h = absurd (omega arith)
length_taken (x ∷ xs) (suc n) h = ap suc (length_taken xs n (omega arith))

length_dropped : (xs : List ℕ) (n : ℕ) → length (drop n xs) ≡ length xs - n
length_dropped xs zero = omega arith
length_dropped [] (suc n) = omega arith
length_dropped (x ∷ xs) (suc n) = omega (arith, length_dropped xs n)

range_length : (bytes : List ℕ) (at n : ℕ) (r : List ℕ) → range_at bytes at n ≡ Some r → length r ≡ n
unfolding range_at
range_length bytes at n r h = by_test (nat_le (at + n) (length bytes)) refl h
  where
    by_test : (t : Bool) → nat_le (at + n) (length bytes) ≡ t → cond t (Some (take n (drop at bytes))) None ≡ Some r → length r ≡ n
    by_test true e h =
        let is : take n (drop at bytes) ≡ r = cc in
        let le : at + n ≤ length bytes = grind (arith, nat_tests) in
        rw (← is) (length_taken (drop at bytes) n (omega (arith, length_dropped bytes at)))
    by_test false e h = absurd cc

-- an operand takes its size
abbrev Takes : Operand → Argument ℕ → ℕ → ℕ → Type 0
Takes k a at n = n ≡ at + operand_size k a

abbrev with_targets : ℕ → Option (List ℕ) → Option (Argument ℕ × ℕ)
with_targets end offsets = option_and_then (λ (ts : List ℕ). Some (targets ts, end)) offsets

abbrev switch_of : ℕ → ℕ → Option (List ℕ) → Option (Argument ℕ × ℕ)
switch_of at count range = option_and_then (λ (distances : List ℕ). with_targets (at + 4 + 4 * count) (targets_at (at + 4 + 4 * count) distances)) range

switch_targets : (at count : ℕ) (r : List ℕ) (b : Bool) (a : Argument ℕ) (n : ℕ) → length r ≡ 4 * count → with_targets (at + 4 + 4 * count) (if b then Some (all_reached (at + 4 + 4 * count) r) else None) ≡ Some (a, n) → Takes operand.Switch a at n
switch_targets at count r false a n long h = absurd (cc)
switch_targets at count r true a n long h =
    let e = pair_is {X = Argument ℕ} (targets (all_reached (at + 4 + 4 * count) r), at + 4 + 4 * count) (a, n) h in
    let many : length (all_reached (at + 4 + 4 * count) r) ≡ count = length_reached (at + 4 + 4 * count) count r long in
    let size : target_count a ≡ count = sym (ap (λ (b : Argument ℕ). target_count b) e.0) ∙ many in
    rw size (omega (arith, e.1))

switch_range : (code : List ℕ) (at count : ℕ) (range : Option (List ℕ)) (a : Argument ℕ) (n : ℕ) → range_at code (at + 4) (4 * count) ≡ range → switch_of at count range ≡ Some (a, n) → Takes operand.Switch a at n
switch_range code at count None a n is h = absurd (cc)
switch_range code at count (Some r) a n is h = switch_targets at count r (are_reached (at + 4 + 4 * count) r) a n (range_length code (at + 4) (4 * count) r is) h

switch_count : (code : List ℕ) (at : ℕ) (count : Option ℕ) (a : Argument ℕ) (n : ℕ) → option_and_then (λ (k : ℕ). switch_of at k (range_at code (at + 4) (4 * k))) count ≡ Some (a, n) → Takes operand.Switch a at n
switch_count code at None a n h = absurd (cc)
switch_count code at (Some k) a n h = switch_range code at k (range_at code (at + 4) (4 * k)) a n refl h

switch_takes : (code : List ℕ) (at : ℕ) (a : Argument ℕ) (n : ℕ) → switch_in code at ≡ Some (a, n) → Takes operand.Switch a at n
unfolding switch_in
switch_takes code at a n h = switch_count code at (little_endian_at w32 code at) a n h

arg_takes : (k : Operand) (code : List ℕ) (at : ℕ) (a : Argument ℕ) (n : ℕ) → arg_in k code at ≡ Some (a, n) → Takes k a at n
unfolding arg_in
arg_takes operand.None code at a n h = let e = pair_is {X = Argument ℕ} (nothing, at) (a, n) h in omega (arith, e.1)
arg_takes operand.I8 code at a n h = sym (mapped (little_endian_at w8 code at) _ (at + 1) a n h)
arg_takes operand.U8 code at a n h = sym (mapped (little_endian_at w8 code at) _ (at + 1) a n h)
arg_takes operand.U16 code at a n h = sym (mapped (little_endian_at w16 code at) _ (at + 2) a n h)
arg_takes operand.I32 code at a n h = sym (mapped (little_endian_at w32 code at) _ (at + 4) a n h)
arg_takes operand.I64 code at a n h = sym (mapped (little_endian_at w64 code at) _ (at + 8) a n h)
arg_takes operand.R4 code at a n h = sym (mapped (range_at code at 4) _ (at + 4) a n h)
arg_takes operand.R8 code at a n h = sym (mapped (range_at code at 8) _ (at + 8) a n h)
arg_takes operand.Branch8 code at a n h = sym (mapped (option_and_then (λ (n : ℕ). target_at (at + 1) (widened n)) (little_endian_at w8 code at)) _ (at + 1) a n h)
arg_takes operand.Branch32 code at a n h = sym (mapped (option_and_then (target_at (at + 4)) (little_endian_at w32 code at)) _ (at + 4) a n h)
arg_takes operand.Switch code at a n h = switch_takes code at a n h
arg_takes operand.Token code at a n h = sym (mapped (little_endian_at w32 code at) _ (at + 4) a n h)
arg_takes operand.User code at a n h = sym (mapped (little_endian_at w32 code at) _ (at + 4) a n h)

-- an instruction's code takes one byte, or FE and another
abbrev code_size : ℕ → ℕ
code_size byte = if nat_le 0xFE00 byte then 2 else 1

code_told : (code : ℕ) (e : Option Entry) (op : Op) → option_map (with_code code) e ≡ Some op → op.byte ≡ code
code_told code None op h = absurd (cc)
code_told code (Some e) op h = let is : with_code code e ≡ op = cc in sym (ap (λ (p : Op). p.byte) is)

op_code : (b0 b1 : ℕ) (op : Op) → op_at b0 b1 ≡ Some op → op.byte ≡ code_of b0 b1
unfolding op_at
op_code b0 b1 op h = code_told (code_of b0 b1) (entry_of (code_of b0 b1)) op h

two_code : (n : ℕ) → code_size (0xFE00 + n) ≡ 2
two_code n = let e : nat_le 0xFE00 (0xFE00 + n) ≡ true = grind (arith, nat_tests) in rw e refl

one_code : (n : ℕ) → n < 2 ^ 8 → code_size n ≡ 1
one_code n few = let e : nat_le 0xFE00 n ≡ false = grind (arith, nat_tests) in rw e refl

op_there : (o : Option Op) (next : ℕ) (op : Op) (n : ℕ) → option_map {U = Op × ℕ} (λ (x : Op). (x, next)) o ≡ Some (op, n) → (o ≡ Some op) × (next ≡ n)
op_there None next op n h = absurd (cc)
op_there (Some x) next op n h = let e = pair_is {X = Op} (x, next) (op, n) h in (ap (λ (y : Op). Some y) e.0, e.1)

two_bytes : (code : List ℕ) (at first : ℕ) (second : Option ℕ) (op : Op) (n : ℕ) → (first == 0xFE) ≡ true → option_and_then {U = Op × ℕ} (λ (s : ℕ). option_map {U = Op × ℕ} (λ (x : Op). (x, at + 2)) (op_at first s)) second ≡ Some (op, n) → n ≡ at + code_size op.byte
two_bytes code at first None op n fe h = absurd (cc)
two_bytes code at first (Some s) op n fe h =
    let e = op_there (op_at first s) (at + 2) op n h in
    let byte : op.byte ≡ code_of first s = op_code first s op e.0 in
    let is : op.byte ≡ 0xFE00 + s = rw fe at byte in
    rw (is, two_code s) (sym e.1)

by_prefix : (code : List ℕ) (at first : ℕ) (b : Bool) (op : Op) (n : ℕ) → (first == 0xFE) ≡ b → first < 2 ^ 8 → cond b (option_and_then {U = Op × ℕ} (λ (s : ℕ). option_map {U = Op × ℕ} (λ (x : Op). (x, at + 2)) (op_at first s)) (little_endian_at w8 code (at + 1))) (option_map {U = Op × ℕ} (λ (x : Op). (x, at + 1)) (op_at first 0)) ≡ Some (op, n) → n ≡ at + code_size op.byte
by_prefix code at first true op n fe few h = two_bytes code at first (little_endian_at w8 code (at + 1)) op n fe h
by_prefix code at first false op n fe few h =
    let e = op_there (op_at first 0) (at + 1) op n h in
    let byte : op.byte ≡ code_of first 0 = op_code first 0 op e.0 in
    let is : op.byte ≡ first = rw fe at byte in
    rw (is, one_code first few) (sym e.1)

by_first : (code : List ℕ) (at : ℕ) (o : Option ℕ) (op : Op) (n : ℕ) → EachIsByte code → little_endian_at w8 code at ≡ o → option_and_then {U = Op × ℕ} (λ (first : ℕ). cond (first == 0xFE) (option_and_then {U = Op × ℕ} (λ (s : ℕ). option_map {U = Op × ℕ} (λ (x : Op). (x, at + 2)) (op_at first s)) (little_endian_at w8 code (at + 1))) (option_map {U = Op × ℕ} (λ (x : Op). (x, at + 1)) (op_at first 0))) o ≡ Some (op, n) → n ≡ at + code_size op.byte
by_first code at None op n all is h = absurd (cc)
by_first code at (Some first) op n all is h = by_prefix code at first (first == 0xFE) op n refl (number8_few code at first all is) h

op_takes : (code : List ℕ) (at : ℕ) (op : Op) (n : ℕ) → EachIsByte code → op_in code at ≡ Some (op, n) → n ≡ at + code_size op.byte
unfolding op_in
op_takes code at op n all h = by_first code at (little_endian_at w8 code at) op n all refl h

abbrev with_arg : Op → Option (Argument ℕ × ℕ) → Option (Instruction ℕ × ℕ)
with_arg op o = option_and_then (λ (rest : Argument ℕ × ℕ). Some (record { op = op; arg = rest.0 }, rest.1)) o

by_arg : (code : List ℕ) (at : ℕ) (op : Op) (mid : ℕ) (o : Option (Argument ℕ × ℕ)) (i : Instruction ℕ) (n : ℕ) → mid ≡ at + code_size op.byte → arg_in op.operand code mid ≡ o → with_arg op o ≡ Some (i, n) → n ≡ at + (code_size i.op.byte + operand_size i.op.operand i.arg)
by_arg code at op mid None i n head is h = absurd (cc)
by_arg code at op mid (Some x) i n head is h =
    let m : Takes op.operand x.0 mid x.1 = arg_takes op.operand code mid x.0 x.1 is in
    let e = pair_is {X = Instruction ℕ} (record { op = op; arg = x.0 }, x.1) (i, n) h in
    rw (← e.0) (omega (arith, e.1, head, m))

by_op : (code : List ℕ) (at : ℕ) (o : Option (Op × ℕ)) (i : Instruction ℕ) (n : ℕ) → EachIsByte code → op_in code at ≡ o → option_and_then (λ (head : Op × ℕ). with_arg head.0 (arg_in head.0.operand code head.1)) o ≡ Some (i, n) → n ≡ at + (code_size i.op.byte + operand_size i.op.operand i.arg)
by_op code at None i n all is h = absurd (cc)
by_op code at (Some x) i n all is h = by_arg code at x.0 x.1 (arg_in x.0.operand code x.1) i n (op_takes code at x.0 x.1 all is) refl h

-- an instruction takes its size
pub instr_takes : (code : List ℕ) (at n : ℕ) (i : Instruction ℕ) → EachIsByte code → instr_in code at ≡ Some (i, n) → n ≡ at + instruction_size i
unfolding instr_in instruction_size
instr_takes code at n i all h = by_op code at (op_in code at) i n all refl h

-- a user text that is told takes what its offset does
size_told : (texts : ℕ → Option (List ℕ)) (k : Operand) (a : Argument ℕ) → operand_size k (told texts a) ≡ operand_size k a
size_told texts operand.None a = refl
size_told texts operand.I8 a = refl
size_told texts operand.U8 a = refl
size_told texts operand.U16 a = refl
size_told texts operand.I32 a = refl
size_told texts operand.I64 a = refl
size_told texts operand.R4 a = refl
size_told texts operand.R8 a = refl
size_told texts operand.Branch8 a = refl
size_told texts operand.Branch32 a = refl
size_told texts operand.Token a = refl
size_told texts operand.User a = refl
size_told texts operand.Switch nothing = refl
size_told texts operand.Switch (number n) = refl
size_told texts operand.Switch (target t) = refl
size_told texts operand.Switch (targets ts) = refl
size_told texts operand.Switch (token t) = refl
size_told texts operand.Switch (text offset) = refl
size_told texts operand.Switch (raw bytes) = refl

size_kept : (texts : ℕ → Option (List ℕ)) (x : ℕ × Instruction ℕ) → instruction_size (instruction_told texts x).1 ≡ instruction_size x.1
unfolding instruction_size
size_kept texts x = ap (λ n. code_size x.1.op.byte + n) (size_told texts x.1.op.operand x.1.arg)

eq_same : (a b : ℕ) → a ≡ b → (a == b) ≡ true
eq_same a b h = grind (arith, nat_tests)

-- the instructions of whole code stand one behind the other
pub chain_whole : (texts : ℕ → Option (List ℕ)) (code : List ℕ) (size at : ℕ) (xs : List (ℕ × Instruction ℕ)) → EachIsByte code → IsChain (instr_in code) size at xs → are_whole size at (map (instruction_told texts) xs) ≡ true
unfolding IsChain are_whole
chain_whole texts code size at [] all is = eq_same at size is
chain_whole texts code size at (x ∷ xs) all is =
    let n : is.0 ≡ at + instruction_size (instruction_told texts x).1 = rw (size_kept texts x) (instr_takes code at is.0 x.1 all is.2) in
    and_from (x.0 == at) _ (eq_same x.0 at is.1) (rw (← n) (chain_whole texts code size is.0 xs all is.3))
