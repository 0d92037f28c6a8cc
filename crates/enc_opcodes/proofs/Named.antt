-- Names and instructions belong together one to one, computed over the table.
use Rattle.std.proofs.Common.{◌≡◌, ℕ, zero, suc, ◌+◌, ◌-◌, ◌<◌, ◌≤◌, inl, inr, Bool, true, false, ◌&&◌, ◌⊎◌, get_or, List, [], ◌∷◌, length, Option, Some, None, refl, sym, ◌∙◌, ap, arith, nat_lt, cond}
use Rattle.std.specs.Prelude.{nat_le, option_map, ◌==◌, bytes_eq, IfSome, IsTrue}
use Rattle.std.proofs.lemmas.Bool.{cases_lt, eqb-true, and_parts}
use Rattle.std.proofs.lemmas.Bool.Decides.{nat_tests}
use Rattle.std.proofs.lemmas.Slice.Eq.{bytes_eq-Decides}
use Rattle.enc_base.specs.Order.{or_else}
use Rattle.enc_opcodes.specs.declared.op.Op.{Op}
use Rattle.enc_opcodes.specs.declared.op.Operand.{Operand}
use Rattle.enc_opcodes.specs.declared.op.Operand.TheVariants.{None as Bare, I8, U8, U16, I32, I64, R4, R8, Branch8, Branch32, Switch, Token, User}
use Rattle.enc_opcodes.specs.Table.{Entry, one_byte_opcodes, two_byte_opcodes}
use Rattle.enc_opcodes.specs.Opcodes.{opcode_entry, entry_of, with_code, op_with, name_in, name_of, operand_kind, has_operand, is_op, first_named, op_named}

-- a kind's number tells it
kinds : List Operand
kinds = Bare ∷ I8 ∷ U8 ∷ U16 ∷ I32 ∷ I64 ∷ R4 ∷ R8 ∷ Branch8 ∷ Branch32 ∷ Switch ∷ Token ∷ User ∷ []

kind_back : (k : Operand) → get_or kinds (operand_kind k) Bare ≡ k
unfolding kinds
kind_back Bare = refl
kind_back I8 = refl
kind_back U8 = refl
kind_back U16 = refl
kind_back I32 = refl
kind_back I64 = refl
kind_back R4 = refl
kind_back R8 = refl
kind_back Branch8 = refl
kind_back Branch32 = refl
kind_back Switch = refl
kind_back Token = refl
kind_back User = refl

same_kind : (a b : Operand) → operand_kind a == operand_kind b ≡ true → a ≡ b
same_kind a b h = sym (kind_back a) ∙ ap (λ n. get_or kinds n Bare) (eqb-true (operand_kind a) (operand_kind b) h) ∙ kind_back b

kind_self : (n : ℕ) → (n == n) ≡ true
kind_self n = grind (arith, nat_tests)

-- an instruction is the one with its code
with_entry : (code : ℕ) (k : Operand) (found : Option Entry) → has_operand k found ≡ true → option_map (with_code code) found ≡ Some (record { byte = code; operand = k })
with_entry code k None h = absurd (cc)
with_entry code k (Some e) h = let same : k ≡ e.1 = same_kind k e.1 h in rw same refl

pub codes_tell : (o : Op) → is_op o ≡ true → op_with o.byte ≡ Some o
unfolding is_op
codes_tell o h = with_entry o.byte o.operand (entry_of o.byte) h

entry_has : (o : Op) (name : List ℕ) → entry_of o.byte ≡ Some (name, o.operand) → is_op o ≡ true
unfolding is_op
entry_has o name h = rw h (kind_self (operand_kind o.operand))

-- where an instruction found by its name stands
abbrev Stands : List ℕ → ℕ → List (Option Entry) → Op → Type 0
Stands name code table o = (i : ℕ) × (o.byte ≡ code + i) × (i < length table) × (opcode_entry table i ≡ Some (name, o.operand))

same_name : (a b : List ℕ) → bytes_eq a b ≡ true → a ≡ b
same_name a b h = (bytes_eq-Decides a b).0 h

same_op : (a b : Op) → Some a ≡ Some b → a ≡ b
same_op a b h = cc

stands_first : (name : List ℕ) (code : ℕ) (e : Entry) (rest : List (Option Entry)) (o : Op) → bytes_eq e.0 name ≡ true → Some (with_code code e) ≡ Some o → Stands name code (Some e ∷ rest) o
stands_first name code e rest o same h =
    let n : e.0 ≡ name = same_name e.0 name same in
    let is : with_code code e ≡ o = same_op (with_code code e) o h in
    let b : code ≡ o.byte = ap (λ (p : Op). p.byte) is in
    let k : e.1 ≡ o.operand = ap (λ (p : Op). p.operand) is in
    let f : Some e ≡ Some (name, o.operand) = rw (← n) (rw (← k) refl) in
    (0, omega (arith, b), omega arith, f)

stands_later : (name : List ℕ) (code : ℕ) (x : Option Entry) (rest : List (Option Entry)) (o : Op) → Stands name (code + 1) rest o → Stands name code (x ∷ rest) o
stands_later name code x rest o w = (suc w.0, omega (arith, w.1), omega (arith, w.2), w.3)

by_name : (name : List ℕ) (code : ℕ) (e : Entry) (rest : List (Option Entry)) (o : Op) (later : Option Op) → (later ≡ Some o → Stands name (code + 1) rest o) → (b : Bool) → bytes_eq e.0 name ≡ b → cond b (Some (with_code code e)) later ≡ Some o → Stands name code (Some e ∷ rest) o
by_name name code e rest o later below true same h = stands_first name code e rest o same h
by_name name code e rest o later below false same h = stands_later name code (Some e) rest o (below h)

named_stands : (name : List ℕ) (code : ℕ) (table : List (Option Entry)) (o : Op) → first_named name code table ≡ Some o → Stands name code table o
unfolding first_named
named_stands name code [] o h = absurd (cc)
named_stands name code (None ∷ rest) o h = stands_later name code None rest o (named_stands name (code + 1) rest o h)
named_stands name code (Some e ∷ rest) o h = by_name name code e rest o (first_named name (code + 1) rest) (named_stands name (code + 1) rest o) (bytes_eq e.0 name) refl h

either : (a b : Option Op) (o : Op) → or_else a b ≡ Some o → (a ≡ Some o) ⊎ (b ≡ Some o)
either None b o h = inr h
either (Some x) b o h = inl h

of_one_byte : (code : ℕ) → nat_lt code 0xFE00 ≡ true → entry_of code ≡ opcode_entry one_byte_opcodes code
unfolding entry_of
of_one_byte code low = rw low refl

of_two_bytes : (code : ℕ) → nat_lt code 0xFE00 ≡ false → entry_of code ≡ opcode_entry two_byte_opcodes (code - 0xFE00)
unfolding entry_of
of_two_bytes code high = rw high refl

is_low : (code : ℕ) → code < 0xFE00 → nat_lt code 0xFE00 ≡ true
is_low code h = grind (arith, nat_tests)

is_high : (code : ℕ) → 0xFE00 ≤ code → nat_lt code 0xFE00 ≡ false
is_high code h = grind (arith, nat_tests)

one_byte_found : (name : List ℕ) (o : Op) → Stands name 0 one_byte_opcodes o → entry_of o.byte ≡ Some (name, o.operand)
one_byte_found name o w =
    let e : w.0 ≡ o.byte = omega (arith, w.1) in
    let many : length one_byte_opcodes ≡ 225 = refl in
    of_one_byte o.byte (is_low o.byte (omega (arith, w.2, many))) ∙ (rw e at w.3)

two_bytes_found : (name : List ℕ) (o : Op) → Stands name 0xFE00 two_byte_opcodes o → entry_of o.byte ≡ Some (name, o.operand)
two_bytes_found name o w =
    let e : w.0 ≡ o.byte - 0xFE00 = omega (arith, w.1) in
    of_two_bytes o.byte (is_high o.byte (omega (arith, w.1))) ∙ (rw e at w.3)

pub one_byte_known : (name : List ℕ) (r : Option Op) → r ≡ first_named name 0 one_byte_opcodes → IfSome r (λ o. IsTrue (is_op o))
one_byte_known name None h = tt
one_byte_known name (Some o) h = entry_has o name (one_byte_found name o (named_stands name 0 one_byte_opcodes o (sym h)))

pub two_bytes_known : (name : List ℕ) (r : Option Op) → r ≡ first_named name 0xFE00 two_byte_opcodes → IfSome r (λ o. IsTrue (is_op o))
two_bytes_known name None h = tt
two_bytes_known name (Some o) h = entry_has o name (two_bytes_found name o (named_stands name 0xFE00 two_byte_opcodes o (sym h)))

found_entry : (name : List ℕ) (o : Op) → op_named name ≡ Some o → entry_of o.byte ≡ Some (name, o.operand)
unfolding op_named
found_entry name o h =
    elim (either (first_named name 0 one_byte_opcodes) (first_named name 0xFE00 two_byte_opcodes) o h) [
      | inl w ↦ one_byte_found name o (named_stands name 0 one_byte_opcodes o w)
      | inr w ↦ two_bytes_found name o (named_stands name 0xFE00 two_byte_opcodes o w)
    ]

pub named_is_op : (name : List ℕ) (o : Op) → op_named name ≡ Some o → is_op o ≡ true
named_is_op name o h = entry_has o name (found_entry name o h)

pub named_has_name : (name : List ℕ) (o : Op) → op_named name ≡ Some o → name_of o.byte ≡ name
unfolding name_of
named_has_name name o h = rw (found_entry name o h) refl

-- whether this is the instruction with this code
is_this : ℕ → Option Op → Bool
is_this code None = false
is_this code (Some o) = o.byte == code

-- whether each instruction of a table is found by its name, where the first has this code
each_found : ℕ → List (Option Entry) → Bool
each_found code [] = true
each_found code (None ∷ rest) = each_found (code + 1) rest
each_found code (Some e ∷ rest) = is_this code (op_named e.0) && each_found (code + 1) rest

one_byte_each : each_found 0 one_byte_opcodes ≡ true
unfolding each_found is_this op_named first_named
one_byte_each = refl

two_bytes_each : each_found 0xFE00 two_byte_opcodes ≡ true
unfolding each_found is_this op_named first_named
two_bytes_each = refl

found_at : (table : List (Option Entry)) (code i : ℕ) (e : Entry) → each_found code table ≡ true → opcode_entry table i ≡ Some e → is_this (code + i) (op_named e.0) ≡ true
unfolding each_found
found_at [] code i e all is = absurd (cc)
found_at (None ∷ rest) code zero e all is = absurd (cc)
found_at (None ∷ rest) code (suc i) e all is =
    let n : code + 1 + i ≡ code + suc i = omega arith in
    rw n at (found_at rest (code + 1) i e all is)
found_at (Some x ∷ rest) code zero e all is =
    let n : code ≡ code + 0 = omega arith in
    let s : x ≡ e = cc in
    rw (← n) (rw (← s) ((and_parts (is_this code (op_named x.0)) (each_found (code + 1) rest) all).0))
found_at (Some x ∷ rest) code (suc i) e all is =
    let n : code + 1 + i ≡ code + suc i = omega arith in
    rw n at (found_at rest (code + 1) i e ((and_parts (is_this code (op_named x.0)) (each_found (code + 1) rest) all).1) is)

entry_found : (code : ℕ) (e : Entry) → entry_of code ≡ Some e → is_this code (op_named e.0) ≡ true
entry_found code e is =
    elim (cases_lt code 0xFE00) [
      | inl low ↦
          let n : 0 + code ≡ code = omega arith in
          rw n at (found_at one_byte_opcodes 0 code e one_byte_each (sym (of_one_byte code (is_low code low)) ∙ is))
      | inr high ↦
          let n : 0xFE00 + (code - 0xFE00) ≡ code = omega (arith, high) in
          rw n at (found_at two_byte_opcodes 0xFE00 (code - 0xFE00) e two_bytes_each (sym (of_two_bytes code (is_high code high)) ∙ is))
    ]

same_parts : (a b : ℕ) (x y : Operand) → a ≡ b → x ≡ y → Some (with_code a ([], x)) ≡ Some (with_code b ([], y))
same_parts a b x y e f = rw e (rw f refl)

this_is : (o : Op) (e : Entry) (found : Option Op) → entry_of o.byte ≡ Some e → o.operand ≡ e.1 → ((p : Op) → found ≡ Some p → entry_of p.byte ≡ Some (e.0, p.operand)) → is_this o.byte found ≡ true → found ≡ Some o
unfolding is_this
this_is o e None here kind back is = absurd (cc)
this_is o e (Some p) here kind back is =
    let b : p.byte ≡ o.byte = eqb-true p.byte o.byte is in
    let there : entry_of o.byte ≡ Some (e.0, p.operand) = rw b at (back p refl) in
    let both : Some e ≡ Some (e.0, p.operand) = sym here ∙ there in
    let k : e.1 ≡ p.operand = cc in
    same_parts p.byte o.byte p.operand o.operand b (sym k ∙ sym kind)

by_entry : (o : Op) (found : Option Entry) → entry_of o.byte ≡ found → has_operand o.operand found ≡ true → op_named (name_in found) ≡ Some o
by_entry o None here h = absurd (cc)
by_entry o (Some e) here h = this_is o e (op_named e.0) here (same_kind o.operand e.1 h) (found_entry e.0) (entry_found o.byte e here)

pub names_tell : (o : Op) → is_op o ≡ true → op_named (name_of o.byte) ≡ Some o
unfolding is_op name_of
names_tell o h = by_entry o (entry_of o.byte) refl h

-- names are short
is_short : Option Entry → Bool
is_short None = true
is_short (Some e) = nat_le (length e.0) 14

all_short : List (Option Entry) → Bool
all_short [] = true
all_short (x ∷ rest) = is_short x && all_short rest

one_byte_short : all_short one_byte_opcodes ≡ true
unfolding all_short is_short
one_byte_short = refl

two_bytes_short : all_short two_byte_opcodes ≡ true
unfolding all_short is_short
two_bytes_short = refl

short_at : (table : List (Option Entry)) (i : ℕ) → all_short table ≡ true → is_short (opcode_entry table i) ≡ true
unfolding all_short is_short
short_at [] i all = refl
short_at (x ∷ rest) zero all = (and_parts (is_short x) (all_short rest) all).0
short_at (x ∷ rest) (suc i) all = short_at rest i ((and_parts (is_short x) (all_short rest) all).1)

entry_short : (code : ℕ) → is_short (entry_of code) ≡ true
entry_short code =
    elim (cases_lt code 0xFE00) [
      | inl low ↦ rw (of_one_byte code (is_low code low)) (short_at one_byte_opcodes code one_byte_short)
      | inr high ↦ rw (of_two_bytes code (is_high code high)) (short_at two_byte_opcodes (code - 0xFE00) two_bytes_short)
    ]

few_in : (found : Option Entry) → is_short found ≡ true → length (name_in found) ≤ 14
unfolding is_short
few_in None h = omega arith
few_in (Some e) h = grind (arith, nat_tests)

pub few_at : (code : ℕ) (e : Entry) → Some e ≡ entry_of code → length e.0 ≤ 14
few_at code e is = few_in (Some e) (rw (sym is) at (entry_short code))
