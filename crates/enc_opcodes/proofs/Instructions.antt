-- Instructions one behind the other: each ends behind its place and within the code, so all laws of chains hold of them.
use Rattle.std.proofs.Common.{◌≡◌, ℕ, ◌+◌, ◌-◌, ◌*◌, ◌<◌, ◌≤◌, Bool, true, false, cond, List, [], ◌∷◌, length, take, drop, Option, Some, None, option_map, refl, sym, ap, arith}
use Rattle.std.specs.Prelude.{option_and_then, nat_le, ◌==◌}
use Rattle.std.specs.Int.{Width, byte_len, w8, w16, w32, w64}
use Rattle.std.proofs.lemmas.Bool.Decides.{nat_tests}
use Rattle.enc_base.specs.Numbers.{little_endian_at}
use Rattle.enc_opcodes.specs.declared.op.Op.{Op}
use Rattle.enc_opcodes.specs.declared.op.Operand.{Operand}
use Rattle.enc_opcodes.specs.declared.op.Operand.TheVariants as operand
use Rattle.enc_opcodes.specs.Opcodes.{op_at}
use Rattle.enc_opcodes.specs.Instruction.{Argument, nothing, target, targets, Instruction, range_at, targets_at, switch_in, arg_in, op_in, instr_in, IsChain, rest_of, end_of, instructions_of}
use Rattle.enc_opcodes.proofs.Chains.{GoesOn, chain_none, end_none, chain_more, end_more, read_is_chain, chain_is_read, chain_ends}

is_true : {A : Type 0} (b : Bool) (x y : A) → cond b (Some x) None ≡ Some y → b ≡ true
is_true true x y h = refl
is_true false x y h = absurd (cc)

le_is : (m n : ℕ) → nat_le m n ≡ true → m ≤ n
le_is m n h = grind (arith, nat_tests)

-- a number that is read stands whole in the bytes, and so does a range
pub number_there : (w : Width) (bytes : List ℕ) (at v : ℕ) → little_endian_at w bytes at ≡ Some v → at + byte_len w ≤ length bytes
number_there w bytes at v h = le_is (at + byte_len w) (length bytes) (is_true (nat_le (at + byte_len w) (length bytes)) _ v h)

pub range_there : (bytes : List ℕ) (at n : ℕ) (r : List ℕ) → range_at bytes at n ≡ Some r → at + n ≤ length bytes
unfolding range_at
range_there bytes at n r h = le_is (at + n) (length bytes) (is_true (nat_le (at + n) (length bytes)) (take n (drop at bytes)) r h)

same_place : {X : Type 0} (p q : X × ℕ) → Some p ≡ Some q → p.1 ≡ q.1
same_place {X} p q h = let e : p ≡ q = cc in ap (λ (x : X × ℕ). x.1) e

mapped : {X Y : Type 0} (o : Option X) (f : X → Y) (next : ℕ) (a : Y) (n : ℕ) → option_map {U = Y × ℕ} (λ (x : X). (f x, next)) o ≡ Some (a, n) → (x : X) × (o ≡ Some x) × (next ≡ n)
mapped None f next a n h = absurd (cc)
mapped {X} {Y} (Some x) f next a n h = (x, refl, same_place {X = Y} (f x, next) (a, n) h)

-- what was read between two places of the code
abbrev Between : List ℕ → ℕ → ℕ → Type 0
Between code at n = (at ≤ n) × (n ≤ length code)

number_moves : (w : Width) (f : ℕ → Argument ℕ) (code : List ℕ) (at many : ℕ) (a : Argument ℕ) (n : ℕ) → byte_len w ≡ many → option_map {U = Argument ℕ × ℕ} (λ x. (f x, at + many)) (little_endian_at w code at) ≡ Some (a, n) → Between code at n
number_moves w f code at many a n is h =
    let m = mapped (little_endian_at w code at) f (at + many) a n h in
    let e : at + byte_len w ≤ length code = number_there w code at m.0 m.1 in
    (omega (arith, m.2), omega (arith, m.2, e, is))

range_moves : (f : List ℕ → Argument ℕ) (code : List ℕ) (at many : ℕ) (a : Argument ℕ) (n : ℕ) → option_map {U = Argument ℕ × ℕ} (λ x. (f x, at + many)) (range_at code at many) ≡ Some (a, n) → Between code at n
range_moves f code at many a n h =
    let m = mapped (range_at code at many) f (at + many) a n h in
    let e : at + many ≤ length code = range_there code at many m.0 m.1 in
    (omega (arith, m.2), omega (arith, m.2, e))

-- where something comes behind a first reading, that was there
first_there : {X Y : Type 0} (o : Option X) (f : X → Option Y) (y : Y) → option_and_then f o ≡ Some y → (x : X) × (o ≡ Some x)
first_there None f y h = absurd (cc)
first_there (Some x) f y h = (x, refl)

branch_moves : (w : Width) (f : ℕ → Option ℕ) (code : List ℕ) (at many : ℕ) (a : Argument ℕ) (n : ℕ) → byte_len w ≡ many → option_map {U = Argument ℕ × ℕ} (λ t. (target t, at + many)) (option_and_then f (little_endian_at w code at)) ≡ Some (a, n) → Between code at n
branch_moves w f code at many a n is h =
    let m = mapped (option_and_then f (little_endian_at w code at)) target (at + many) a n h in
    let first = first_there (little_endian_at w code at) f m.0 m.1 in
    let e : at + byte_len w ≤ length code = number_there w code at first.0 first.1 in
    (omega (arith, m.2), omega (arith, m.2, e, is))

abbrev switch_with : ℕ → Option (List ℕ) → Option (Argument ℕ × ℕ)
switch_with behind offsets = option_and_then (λ (ts : List ℕ). Some (targets ts, behind)) offsets

abbrev switch_of : ℕ → ℕ → Option (List ℕ) → Option (Argument ℕ × ℕ)
switch_of at count range = option_and_then (λ (distances : List ℕ). switch_with (at + 4 + 4 * count) (targets_at (at + 4 + 4 * count) distances)) range

switch_ends : (behind : ℕ) (offsets : Option (List ℕ)) (a : Argument ℕ) (n : ℕ) → switch_with behind offsets ≡ Some (a, n) → behind ≡ n
switch_ends behind None a n h = absurd (cc)
switch_ends behind (Some ts) a n h = same_place {X = Argument ℕ} (targets ts, behind) (a, n) h

switch_range : (code : List ℕ) (at count : ℕ) (range : Option (List ℕ)) (a : Argument ℕ) (n : ℕ) → range_at code (at + 4) (4 * count) ≡ range → switch_of at count range ≡ Some (a, n) → Between code at n
switch_range code at count None a n is h = absurd (cc)
switch_range code at count (Some r) a n is h =
    let e : at + 4 + 4 * count ≤ length code = range_there code (at + 4) (4 * count) r is in
    let m = switch_ends (at + 4 + 4 * count) (targets_at (at + 4 + 4 * count) r) a n h in
    (omega (arith, m), omega (arith, m, e))

switch_count : (code : List ℕ) (at : ℕ) (count : Option ℕ) (a : Argument ℕ) (n : ℕ) → option_and_then (λ (k : ℕ). switch_of at k (range_at code (at + 4) (4 * k))) count ≡ Some (a, n) → Between code at n
switch_count code at None a n h = absurd (cc)
switch_count code at (Some k) a n h = switch_range code at k (range_at code (at + 4) (4 * k)) a n refl h

switch_moves : (code : List ℕ) (at : ℕ) (a : Argument ℕ) (n : ℕ) → switch_in code at ≡ Some (a, n) → Between code at n
unfolding switch_in
switch_moves code at a n h = switch_count code at (little_endian_at w32 code at) a n h

arg_moves : (k : Operand) (code : List ℕ) (at : ℕ) (a : Argument ℕ) (n : ℕ) → at ≤ length code → arg_in k code at ≡ Some (a, n) → Between code at n
unfolding arg_in
arg_moves operand.None code at a n le h = let e = same_place {X = Argument ℕ} (nothing, at) (a, n) h in (omega (arith, e), omega (arith, e, le))
arg_moves operand.I8 code at a n le h = number_moves w8 _ code at 1 a n refl h
arg_moves operand.U8 code at a n le h = number_moves w8 _ code at 1 a n refl h
arg_moves operand.U16 code at a n le h = number_moves w16 _ code at 2 a n refl h
arg_moves operand.I32 code at a n le h = number_moves w32 _ code at 4 a n refl h
arg_moves operand.I64 code at a n le h = number_moves w64 _ code at 8 a n refl h
arg_moves operand.R4 code at a n le h = range_moves _ code at 4 a n h
arg_moves operand.R8 code at a n le h = range_moves _ code at 8 a n h
arg_moves operand.Branch8 code at a n le h = branch_moves w8 _ code at 1 a n refl h
arg_moves operand.Branch32 code at a n le h = branch_moves w32 _ code at 4 a n refl h
arg_moves operand.Switch code at a n le h = switch_moves code at a n h
arg_moves operand.Token code at a n le h = number_moves w32 _ code at 4 a n refl h
arg_moves operand.User code at a n le h = number_moves w32 _ code at 4 a n refl h

-- an instruction's code is of one byte or two
abbrev Behind : List ℕ → ℕ → ℕ → Type 0
Behind code at n = (at < n) × (n ≤ length code)

op_here : (code : List ℕ) (at next : ℕ) (o : Option Op) (op : Op) (n : ℕ) → at < next → next ≤ length code → option_map {U = Op × ℕ} (λ (x : Op). (x, next)) o ≡ Some (op, n) → Behind code at n
op_here code at next None op n lt le h = absurd (cc)
op_here code at next (Some x) op n lt le h = let e = same_place {X = Op} (x, next) (op, n) h in (omega (arith, e, lt), omega (arith, e, le))

two_bytes : (code : List ℕ) (at first : ℕ) (second : Option ℕ) (op : Op) (n : ℕ) → little_endian_at w8 code (at + 1) ≡ second → option_and_then {U = Op × ℕ} (λ (s : ℕ). option_map {U = Op × ℕ} (λ (x : Op). (x, at + 2)) (op_at first s)) second ≡ Some (op, n) → Behind code at n
two_bytes code at first None op n is h = absurd (cc)
two_bytes code at first (Some s) op n is h =
    let e : at + 1 + 1 ≤ length code = number_there w8 code (at + 1) s is in
    op_here code at (at + 2) (op_at first s) op n (omega arith) (omega (arith, e)) h

by_prefix : (code : List ℕ) (at first : ℕ) (b : Bool) (op : Op) (n : ℕ) → little_endian_at w8 code at ≡ Some first → cond b (option_and_then {U = Op × ℕ} (λ (s : ℕ). option_map {U = Op × ℕ} (λ (x : Op). (x, at + 2)) (op_at first s)) (little_endian_at w8 code (at + 1))) (option_map {U = Op × ℕ} (λ (x : Op). (x, at + 1)) (op_at first 0)) ≡ Some (op, n) → Behind code at n
by_prefix code at first true op n is h = two_bytes code at first (little_endian_at w8 code (at + 1)) op n refl h
by_prefix code at first false op n is h =
    let e : at + 1 ≤ length code = number_there w8 code at first is in
    op_here code at (at + 1) (op_at first 0) op n (omega arith) e h

by_first : (code : List ℕ) (at : ℕ) (o : Option ℕ) (op : Op) (n : ℕ) → little_endian_at w8 code at ≡ o → option_and_then {U = Op × ℕ} (λ (first : ℕ). cond (first == 0xFE) (option_and_then {U = Op × ℕ} (λ (s : ℕ). option_map {U = Op × ℕ} (λ (x : Op). (x, at + 2)) (op_at first s)) (little_endian_at w8 code (at + 1))) (option_map {U = Op × ℕ} (λ (x : Op). (x, at + 1)) (op_at first 0))) o ≡ Some (op, n) → Behind code at n
by_first code at None op n is h = absurd (cc)
by_first code at (Some first) op n is h = by_prefix code at first (first == 0xFE) op n is h

op_moves : (code : List ℕ) (at : ℕ) (op : Op) (n : ℕ) → op_in code at ≡ Some (op, n) → Behind code at n
unfolding op_in
op_moves code at op n h = by_first code at (little_endian_at w8 code at) op n refl h

-- an instruction with its operand
abbrev with_arg : Op → Option (Argument ℕ × ℕ) → Option (Instruction ℕ × ℕ)
with_arg op o = option_and_then (λ (rest : Argument ℕ × ℕ). Some (record { op = op; arg = rest.0 }, rest.1)) o

by_arg : (code : List ℕ) (at : ℕ) (op : Op) (mid : ℕ) (o : Option (Argument ℕ × ℕ)) (i : Instruction ℕ) (n : ℕ) → Behind code at mid → arg_in op.operand code mid ≡ o → with_arg op o ≡ Some (i, n) → Behind code at n
by_arg code at op mid None i n head is h = absurd (cc)
by_arg code at op mid (Some x) i n head is h =
    let m : Between code mid x.1 = arg_moves op.operand code mid x.0 x.1 head.1 is in
    let e = same_place {X = Instruction ℕ} (record { op = op; arg = x.0 }, x.1) (i, n) h in
    (omega (arith, e, head.0, m.0), omega (arith, e, m.1))

by_op : (code : List ℕ) (at : ℕ) (o : Option (Op × ℕ)) (i : Instruction ℕ) (n : ℕ) → op_in code at ≡ o → option_and_then (λ (head : Op × ℕ). with_arg head.0 (arg_in head.0.operand code head.1)) o ≡ Some (i, n) → Behind code at n
by_op code at None i n is h = absurd (cc)
by_op code at (Some x) i n is h = by_arg code at x.0 x.1 (arg_in x.0.operand code x.1) i n (op_moves code at x.0 x.1 is) refl h

-- an instruction ends behind its place and within the code
pub instr_goes : (code : List ℕ) → GoesOn (instr_in code) (length code)
unfolding instr_in
instr_goes code at i n h = by_op code at (op_in code at) i n refl h

pub instr_ends : (code : List ℕ) (at n : ℕ) (i : Instruction ℕ) → instr_in code at ≡ Some (i, n) → (at < n) × (n ≤ length code)
instr_ends code at n i h = instr_goes code at i n h

-- the instructions from a place on: that which stands there and those behind it
pub rest_none : (code : List ℕ) (at : ℕ) → instr_in code at ≡ None → rest_of code at ≡ []
unfolding rest_of
rest_none code at none = chain_none (instr_in code) (length code - at) at none

pub rest_more : (code : List ℕ) (at n : ℕ) (i : Instruction ℕ) → instr_in code at ≡ Some (i, n) → rest_of code at ≡ (at, i) ∷ rest_of code n
unfolding rest_of
rest_more code at n i is = chain_more (instr_in code) (length code) at n i (instr_goes code) is

pub rest_end_none : (code : List ℕ) (at : ℕ) → instr_in code at ≡ None → end_of code at ≡ at
unfolding end_of
rest_end_none code at none = end_none (instr_in code) (length code - at) at none

pub rest_end_more : (code : List ℕ) (at n : ℕ) (i : Instruction ℕ) → instr_in code at ≡ Some (i, n) → end_of code at ≡ end_of code n
unfolding end_of
rest_end_more code at n i is = end_more (instr_in code) (length code) at n i (instr_goes code) is

-- code that is whole instructions is the chain of them, and the only one
pub instructions_are_chain : (code : List ℕ) → end_of code 0 ≡ length code → IsChain (instr_in code) (length code) 0 (instructions_of code)
unfolding rest_of end_of
instructions_are_chain code whole = read_is_chain (instr_in code) (length code) (length code - 0) 0 whole

pub chain_is_instructions : (code : List ℕ) (xs : List (ℕ × Instruction ℕ)) → IsChain (instr_in code) (length code) 0 xs → xs ≡ instructions_of code
unfolding rest_of
chain_is_instructions code xs is = sym (chain_is_read (instr_in code) (length code) 0 xs (instr_goes code) is)

pub chain_is_whole : (code : List ℕ) (xs : List (ℕ × Instruction ℕ)) → IsChain (instr_in code) (length code) 0 xs → end_of code 0 ≡ length code
unfolding end_of
chain_is_whole code xs is = chain_ends (instr_in code) (length code) 0 xs (instr_goes code) is
