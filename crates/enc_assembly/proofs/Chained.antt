-- Assembled code is its instructions, one behind the other.
use Rattle.std.proofs.Common.{◌≡◌, ℕ, ◌+◌, ◌-◌, ◌^◌, ◌<◌, ◌≤◌, Bool, true, false, List, [], ◌∷◌, ◌++◌, length, Some, refl, sym, arith, ◌∙◌, append_assoc}
use Rattle.std.specs.Prelude.{nat_le, ◌&&◌, ◌==◌, if◌then◌else◌}
use Rattle.std.specs.List.{list_all}
use Rattle.std.specs.Int.{w8}
use Rattle.std.proofs.lemmas.Bool.Decides.{nat_tests}
use Rattle.std.proofs.lemmas.List.{length-append, append-nil}
use Rattle.enc_base.specs.Numbers.{little_endian_at}
use Rattle.enc_il.proofs.Numbers.{byte_between}
use Rattle.enc_opcodes.specs.declared.op.Op.{Op}
use Rattle.enc_opcodes.specs.Opcodes.{op_at, is_op}
use Rattle.enc_opcodes.specs.Instruction.{op_in, instr_in, IsChain}
use Rattle.enc_opcodes.specs.Sound.{instruction_size, operand_size}
use Rattle.enc_opcodes.specs.Laws.{CodesTell}
use Rattle.enc_opcodes.proofs.Instructions.{chain_is_instructions, chain_is_whole}
use Rattle.enc_edit_list.specs.declared.body.InstrValue.{InstrValue}
use Rattle.enc_edit_list.specs.Form.{arg_fits, instr_fits}
use Rattle.enc_edit_list.specs.Reach.{argument_reaches, branches_reach}
use Rattle.enc_edit_list.specs.Sizes.{arg_meant, instr_meant, length_of_code}
use Rattle.enc_assembly.specs.Assembly.{op_bytes, arg_bytes, instr_bytes, code_bytes, instr_named, placed_named, arg_is_small, are_small, AssembledIsRead}
use Rattle.enc_assembly.proofs.Codes.{below_fe}
use Rattle.enc_assembly.proofs.Args.{reads, arg_size}

-- how many bytes the code of an instruction has
abbrev front_size : Op → ℕ
front_size op = if nat_le 0xFE00 op.byte then 2 else 1

op_read : CodesTell → (before rest : List ℕ) (at : ℕ) (o : Op) → length before ≡ at → is_op o ≡ true → op_in (before ++ (op_bytes o ++ rest)) at ≡ Some (o, at + front_size o)
unfolding op_in op_at
op_read tells before rest at o long is = by_form (nat_le 0xFE00 o.byte) refl
  where
    by_form : (b : Bool) → nat_le 0xFE00 o.byte ≡ b → op_in (before ++ ((if b then 0xFE ∷ (o.byte - 0xFE00) ∷ [] else o.byte ∷ []) ++ rest)) at ≡ Some (o, at + (if b then 2 else 1))
    by_form true h =
        let moved : before ++ (0xFE ∷ ((o.byte - 0xFE00) ∷ rest)) ≡ (before ++ 0xFE ∷ []) ++ ((o.byte - 0xFE00) ∷ rest) = sym (append_assoc before (0xFE ∷ []) ((o.byte - 0xFE00) ∷ rest)) in
        let behind : length (before ++ 0xFE ∷ []) ≡ at + 1 = rw (length-append before (0xFE ∷ [])) (omega (arith, long)) in
        let le : 0xFE00 ≤ o.byte = grind (arith, nat_tests, h) in
        let code : 0xFE00 + (o.byte - 0xFE00) ≡ o.byte = omega (arith, le) in
        let second : little_endian_at w8 (before ++ (0xFE ∷ ((o.byte - 0xFE00) ∷ rest))) (at + 1) ≡ Some (o.byte - 0xFE00) = rw moved (byte_between (before ++ 0xFE ∷ []) rest (o.byte - 0xFE00) (at + 1) behind) in
        rw (byte_between before ((o.byte - 0xFE00) ∷ rest) 0xFE at long, second, code, tells o is) refl
    by_form false h =
        let other : (o.byte == 0xFE) ≡ false = below_fe o is h in
        rw (byte_between before rest o.byte at long, other, tells o is) refl

-- a test of two
first_of : (a b : Bool) → (a && b) ≡ true → a ≡ true
first_of true b h = refl
first_of false b h = absurd cc

second_of : (a b : Bool) → (a && b) ≡ true → b ≡ true
second_of true b h = h
second_of false b h = absurd cc

size_of_front : (o : Op) → length (op_bytes o) ≡ front_size o
size_of_front o = by_form (nat_le 0xFE00 o.byte)
  where
    by_form : (b : Bool) → length (if b then 0xFE ∷ (o.byte - 0xFE00) ∷ [] else o.byte ∷ []) ≡ (if b then 2 else 1)
    by_form true = refl
    by_form false = refl

-- the whole instruction
instr_read : CodesTell → (offset : List ℕ → ℕ) (before rest : List ℕ) (at : ℕ) (i : InstrValue) → length before ≡ at → instr_fits i ≡ true → argument_reaches (at + instruction_size (instr_meant i)) i.op.operand i.arg ≡ true → arg_is_small offset i.arg ≡ true → at + instruction_size (instr_meant i) < 2 ^ 32
    → instr_in (before ++ (instr_bytes offset (at + instruction_size (instr_meant i)) i ++ rest)) at ≡ Some (instr_named offset i, at + instruction_size (instr_meant i))
unfolding instr_in instr_bytes instruction_size
instr_read tells offset before rest at i long fits reach small few =
    let is = first_of (is_op i.op) (arg_fits i.op.operand i.arg) fits in
    let has = second_of (is_op i.op) (arg_fits i.op.operand i.arg) fits in
    let end : ℕ = at + (front_size i.op + operand_size i.op.operand (arg_meant i.arg)) in
    let joined : op_bytes i.op ++ arg_bytes offset end i.op.operand i.arg ++ rest ≡ op_bytes i.op ++ (arg_bytes offset end i.op.operand i.arg ++ rest) = append_assoc (op_bytes i.op) (arg_bytes offset end i.op.operand i.arg) rest in
    let moved : before ++ (op_bytes i.op ++ (arg_bytes offset end i.op.operand i.arg ++ rest)) ≡ before ++ op_bytes i.op ++ (arg_bytes offset end i.op.operand i.arg ++ rest) = sym (append_assoc before (op_bytes i.op) (arg_bytes offset end i.op.operand i.arg ++ rest)) in
    let behind : length (before ++ op_bytes i.op) ≡ at + front_size i.op = rw (length-append before (op_bytes i.op), size_of_front i.op) (omega (arith, long)) in
    let arg = reads offset (before ++ op_bytes i.op) rest (at + front_size i.op) end i.op.operand i.arg behind (omega arith) has reach small few in
    rw (joined, op_read tells before (arg_bytes offset end i.op.operand i.arg ++ rest) at i.op long is, moved, arg) refl

instr_size : (offset : List ℕ → ℕ) (end : ℕ) (i : InstrValue) → instr_fits i ≡ true → length (instr_bytes offset end i) ≡ instruction_size (instr_meant i)
unfolding instr_bytes instruction_size
instr_size offset end i fits =
    rw (length-append (op_bytes i.op) (arg_bytes offset end i.op.operand i.arg), size_of_front i.op, arg_size offset end i.op.operand i.arg (second_of (is_op i.op) (arg_fits i.op.operand i.arg) fits)) refl

pub code_size : (offset : List ℕ → ℕ) (at : ℕ) (code : List InstrValue) → list_all instr_fits code ≡ true → length (code_bytes offset at code) ≡ length_of_code code
unfolding code_bytes length_of_code
code_size offset at [] fits = refl
code_size offset at (i ∷ rest) fits =
    let end : ℕ = at + instruction_size (instr_meant i) in
    rw (length-append (instr_bytes offset end i) (code_bytes offset end rest), instr_size offset end i (first_of (instr_fits i) (list_all instr_fits rest) fits), code_size offset end rest (second_of (instr_fits i) (list_all instr_fits rest) fits)) refl

-- all instructions of a code that stands between other bytes
pub chained : CodesTell → (offset : List ℕ → ℕ) (all before : List ℕ) (at : ℕ) (code : List InstrValue) → all ≡ before ++ code_bytes offset at code → length before ≡ at → list_all instr_fits code ≡ true → branches_reach at code ≡ true → are_small offset code ≡ true → at + length_of_code code < 2 ^ 32
    → IsChain (instr_in all) (length all) at (placed_named offset at code)
unfolding IsChain placed_named code_bytes branches_reach length_of_code
chained tells offset all before at [] is long fits reach small few = rw (is, append-nil before) (sym long)
chained tells offset all before at (i ∷ rest) is long fits reach small few =
    let end : ℕ = at + instruction_size (instr_meant i) in
    let own = first_of (instr_fits i) (list_all instr_fits rest) fits in
    let near = first_of (argument_reaches end i.op.operand i.arg) (branches_reach end rest) reach in
    let low = first_of (arg_is_small offset i.arg) (are_small offset rest) small in
    let step : instr_in all at ≡ Some (instr_named offset i, end) = rw is (instr_read tells offset before (code_bytes offset end rest) at i long own near low (omega (arith, few))) in
    let behind : length (before ++ instr_bytes offset end i) ≡ end = rw (length-append before (instr_bytes offset end i), instr_size offset end i own) (omega (arith, long)) in
    let more = chained tells offset all (before ++ instr_bytes offset end i) end rest (is ∙ sym (append_assoc before (instr_bytes offset end i) (code_bytes offset end rest))) behind (second_of (instr_fits i) (list_all instr_fits rest) fits) (second_of (argument_reaches end i.op.operand i.arg) (branches_reach end rest) reach) (second_of (arg_is_small offset i.arg) (are_small offset rest) small) (omega (arith, few)) in
    (end, refl, step, more)

pub assembled : CodesTell → AssembledIsRead
assembled tells offset code fits reach small few =
    let chain = chained tells offset (code_bytes offset 0 code) [] 0 code refl refl fits reach small (omega (arith, few)) in
    let size = code_size offset 0 code fits in
    (sym (chain_is_instructions (code_bytes offset 0 code) (placed_named offset 0 code) chain), chain_is_whole (code_bytes offset 0 code) (placed_named offset 0 code) chain ∙ size, size)
