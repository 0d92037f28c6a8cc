-- The code of a body that is given, as it is assembled.
use Rattle.std.proofs.Common.{◌≡◌, ℕ, ◌+◌, ◌*◌, ◌/◌, ◌%◌, ◌<◌, ◌≤◌, Bool, true, false, List, [], ◌∷◌, length, map, Option, Some, refl, ap, ◌∙◌, arith}
use Rattle.std.specs.Prelude.{◌^◌, ◌&&◌, ◌||◌, ◌==◌, not, nat_lt, nat_le, unwrap_or, is_some, if◌then◌else◌}
use Rattle.std.specs.List.{list_all, list_any}
use Rattle.std.proofs.lemmas.Bool.{and_parts, and_from}
use Rattle.std.proofs.lemmas.Bool.Decides.{nat_tests}
use Rattle.enc_base.specs.Token.{nil}
use Rattle.enc_base.specs.Units.{units_of}
use Rattle.enc_base.specs.declared.token.Token.{Token}
use Rattle.enc_meta.specs.Built.{Built, is_kept, user_offset, unit_bytes}
use Rattle.enc_base.specs.Tables.{type_ref, type_def, field, method_def, member_ref, stand_alone_sig, type_spec, method_spec}
use Rattle.enc_opcodes.specs.declared.code.Clause.{Clause}
use Rattle.enc_opcodes.specs.declared.op.Operand.{Operand}
use Rattle.enc_opcodes.specs.Instruction.{Argument, text, Instruction}
use Rattle.enc_opcodes.specs.Body.{told, instruction_told, handler_meant, nil_or, may_name, is_named, is_user, locals_are_good, text_is_there}
use Rattle.enc_opcodes.specs.Sound.{instruction_size, begins_at, argument_is_sound, instruction_is_sound, handler_is_sound, are_whole, body_is_sound}
use Rattle.enc_edit_list.specs.declared.body.ArgValue.{ArgValue}
use Rattle.enc_edit_list.specs.declared.body.ArgValue.TheVariants as arg
use Rattle.enc_edit_list.specs.declared.body.BodyValue.{BodyValue}
use Rattle.enc_edit_list.specs.declared.body.InstrValue.{InstrValue}
use Rattle.enc_edit_list.specs.Form.{instr_fits}
use Rattle.enc_edit_list.specs.Sizes.{arg_meant, instr_meant, length_of_code, placed}
use Rattle.enc_rules.specs.Edited.{body_stated}
use Rattle.enc_assembly.specs.Assembly.{code_bytes, arg_named, placed_named, token_is_small, arg_is_small, are_small, text_is_kept}
use Rattle.enc_assembly.proofs.Chained.{code_size}

-- how long it is, and how many clauses it has
pub size_given : (h : Built) (b : BodyValue) (code : List InstrValue) (bytes : List ℕ) → code ≡ b.code → bytes ≡ code_bytes (user_offset h) 0 code → list_all instr_fits b.code ≡ true → length bytes ≡ length_of_code b.code
size_given h b code bytes is are fits = ap (λ (xs : List ℕ). length xs) (are ∙ ap (code_bytes (user_offset h) 0) is) ∙ code_size (user_offset h) 0 b.code fits

pub many_given : (b : BodyValue) (clauses : List Clause) → clauses ≡ b.clauses → length clauses ≡ length b.clauses
many_given b clauses is = ap (λ (xs : List Clause). length xs) is

-- units are those that their bytes spell
unit_is : (u : ℕ) → u % 0x100 + 256 * (u / 0x100) ≡ u
unit_is u = omega arith

units_again : (us : List ℕ) → units_of (unit_bytes us) ≡ us
unfolding units_of
units_again [] = refl
units_again (u ∷ us) = rw (unit_is u, units_again us) refl

-- texts that are kept are read at their offsets
abbrev pub AreRead : Built → (ℕ → Option (List ℕ)) → Type 0
AreRead h users = (v : List ℕ) → is_kept h.users v ≡ true → users (user_offset h v) ≡ Some v

-- the instructions say what was meant, and each text that they name is there
arg_told : (h : Built) (users : ℕ → Option (List ℕ)) (a : ArgValue) → AreRead h users → text_is_kept h a ≡ true → told users (arg_named (user_offset h) a) ≡ arg_meant a
arg_told h users arg.None read kept = refl
arg_told h users (arg.Num n) read kept = refl
arg_told h users (arg.Target t) read kept = refl
arg_told h users (arg.Targets ts) read kept = refl
arg_told h users (arg.Token t) read kept = refl
arg_told h users (arg.User units) read kept = ap (λ (o : Option (List ℕ)). text (units_of (unwrap_or o []))) (read (unit_bytes units) kept) ∙ ap (λ us. text us) (units_again units)
arg_told h users (arg.Raw bytes) read kept = refl

arg_there : (h : Built) (users : ℕ → Option (List ℕ)) (a : ArgValue) → AreRead h users → text_is_kept h a ≡ true → text_is_there users (arg_named (user_offset h) a) ≡ true
arg_there h users arg.None read kept = refl
arg_there h users (arg.Num n) read kept = refl
arg_there h users (arg.Target t) read kept = refl
arg_there h users (arg.Targets ts) read kept = refl
arg_there h users (arg.Token t) read kept = refl
arg_there h users (arg.User units) read kept = ap is_some (read (unit_bytes units) kept)
arg_there h users (arg.Raw bytes) read kept = refl

pub all_told : (h : Built) (users : ℕ → Option (List ℕ)) (at : ℕ) (code : List InstrValue) → AreRead h users → list_all (λ (i : InstrValue). text_is_kept h i.arg) code ≡ true
    → map (instruction_told users) (placed_named (user_offset h) at code) ≡ placed at code
unfolding placed_named placed
all_told h users at [] read kept = refl
all_told h users at (i ∷ code) read kept =
    let a = and_parts (text_is_kept h i.arg) (list_all (λ (j : InstrValue). text_is_kept h j.arg) code) kept in
    let next : ℕ = at + instruction_size (instr_meant i) in
    ap (λ (x : Argument (List ℕ)). let j : Instruction (List ℕ) = record { op = i.op; arg = x } in (at, j) ∷ map (instruction_told users) (placed_named (user_offset h) next code)) (arg_told h users i.arg read a.0)
    ∙ ap (λ xs. (at, instr_meant i) ∷ xs) (all_told h users next code read a.1)

pub all_there : (h : Built) (users : ℕ → Option (List ℕ)) (at : ℕ) (code : List InstrValue) → AreRead h users → list_all (λ (i : InstrValue). text_is_kept h i.arg) code ≡ true
    → list_all (λ (x : ℕ × Instruction ℕ). text_is_there users x.1.arg) (placed_named (user_offset h) at code) ≡ true
unfolding placed_named
all_there h users at [] read kept = refl
all_there h users at (i ∷ code) read kept =
    let a = and_parts (text_is_kept h i.arg) (list_all (λ (j : InstrValue). text_is_kept h j.arg) code) kept in
    and_from _ _ (arg_there h users i.arg read a.0) (all_there h users (at + instruction_size (instr_meant i)) code read a.1)

-- instructions begin before the end of the code
begin_low : (at : ℕ) (code : List InstrValue) (t : ℕ) → begins_at (placed at code) t ≡ true → t ≤ at + length_of_code code
unfolding placed length_of_code
begin_low at [] t h = absurd cc
begin_low at (i ∷ code) t h = by (at == t) refl h (begin_low (at + instruction_size (instr_meant i)) code t)
  where
    by : (b : Bool) → (at == t) ≡ b → (b || begins_at (placed (at + instruction_size (instr_meant i)) code) t) ≡ true
        → (begins_at (placed (at + instruction_size (instr_meant i)) code) t ≡ true → t ≤ at + instruction_size (instr_meant i) + length_of_code code) → t ≤ at + (instruction_size (instr_meant i) + length_of_code code)
    by true is g more = let same : at ≡ t = grind (arith, nat_tests, is) in omega (arith, same)
    by false is g more = omega (arith, more g)

-- so sound instructions name what fits its bytes
same_table : (a b : ℕ) → (a == b) ≡ true → a < 0x100 → b < 0x100
same_table a b h low = grind (arith, nat_tests, h)

any_low : (tables : List ℕ) (n : ℕ) → list_all (λ t. nat_lt t 0x100) tables ≡ true → list_any (λ t. t == n) tables ≡ true → n < 0x100
any_low [] n low h = absurd cc
any_low (t ∷ tables) n low h =
    let a = and_parts (nat_lt t 0x100) (list_all (λ t. nat_lt t 0x100) tables) low in
    by (t == n) refl a.0 h (any_low tables n a.1)
  where
    by : (b : Bool) → (t == n) ≡ b → nat_lt t 0x100 ≡ true → (b || list_any (λ t. t == n) tables) ≡ true → (list_any (λ t. t == n) tables ≡ true → n < 0x100) → n < 0x100
    by true is few g more = same_table t n is (grind (arith, nat_tests, few))
    by false is few g more = more g

-- no table has more than 2^24 - 1 rows
abbrev pub AreFew : (ℕ → ℕ) → Type 0
AreFew count = (table : ℕ) → count table < 2 ^ 24

lesser : (row most : ℕ) → nat_le row most ≡ true → most < 2 ^ 24 → row < 2 ^ 24
lesser row most h few = grind (arith, nat_tests, h)

below : (n limit : ℕ) → n < limit → nat_lt n limit ≡ true
below n limit low = grind (arith, nat_tests)

tables_named : List ℕ
tables_named = type_ref ∷ type_def ∷ field ∷ method_def ∷ member_ref ∷ stand_alone_sig ∷ type_spec ∷ method_spec ∷ []

token_small : (count : ℕ → ℕ) (t : Token) → AreFew count → is_named count t ≡ true → token_is_small t ≡ true
unfolding is_named tables_named
token_small count t few h =
    let a = and_parts (may_name t.table && nat_le 1 t.row) (nat_le t.row (count t.table)) h in
    let b = and_parts (may_name t.table) (nat_le 1 t.row) a.0 in
    let table : t.table < 0x100 = any_low tables_named t.table refl b.0 in
    let row : t.row < 0x1000000 = lesser t.row (count t.table) a.1 (few t.table) in
    and_from _ _ (below t.table 0x100 table) (below t.row 0x1000000 row)

targets_low : (begins : ℕ → Bool) (ts : List ℕ) → ((t : ℕ) → begins t ≡ true → t < 2 ^ 32) → list_all begins ts ≡ true → list_all (λ t. nat_lt t (2 ^ 32)) ts ≡ true
targets_low begins [] low h = refl
targets_low begins (t ∷ ts) low h =
    let a = and_parts (begins t) (list_all begins ts) h in
    and_from _ _ (below t (2 ^ 32) (low t a.0)) (targets_low begins ts low a.1)

-- texts that are kept have their offsets below 2^24
abbrev pub AreLow : Built → Type 0
AreLow h = (v : List ℕ) → is_kept h.users v ≡ true → user_offset h v < 2 ^ 24

arg_small : (h : Built) (count : ℕ → ℕ) (begins : ℕ → Bool) (o : Operand) (a : ArgValue) → AreFew count → AreLow h → ((t : ℕ) → begins t ≡ true → t < 2 ^ 32) → text_is_kept h a ≡ true
    → argument_is_sound count begins o (arg_meant a) ≡ true → arg_is_small (user_offset h) a ≡ true
arg_small h count begins o arg.None few offsets low kept sound = refl
arg_small h count begins o (arg.Num n) few offsets low kept sound = refl
arg_small h count begins o (arg.Target t) few offsets low kept sound = below t (2 ^ 32) (low t sound)
arg_small h count begins o (arg.Targets ts) few offsets low kept sound = targets_low begins ts low sound
arg_small h count begins o (arg.Token t) few offsets low kept sound = token_small count t few (and_parts (not (is_user o)) (is_named count t) sound).1
arg_small h count begins o (arg.User units) few offsets low kept sound = below (user_offset h (unit_bytes units)) 0x1000000 (offsets (unit_bytes units) kept)
arg_small h count begins o (arg.Raw bytes) few offsets low kept sound = refl

all_small : (h : Built) (count : ℕ → ℕ) (begins : ℕ → Bool) (at : ℕ) (code : List InstrValue) → AreFew count → AreLow h → ((t : ℕ) → begins t ≡ true → t < 2 ^ 32) → list_all (λ (i : InstrValue). text_is_kept h i.arg) code ≡ true
    → list_all (instruction_is_sound count begins) (placed at code) ≡ true → are_small (user_offset h) code ≡ true
unfolding instruction_is_sound placed
all_small h count begins at [] few offsets low kept sound = refl
all_small h count begins at (i ∷ code) few offsets low kept sound =
    let next : ℕ = at + instruction_size (instr_meant i) in
    let a = and_parts (text_is_kept h i.arg) (list_all (λ (j : InstrValue). text_is_kept h j.arg) code) kept in
    let b = and_parts (argument_is_sound count begins i.op.operand (arg_meant i.arg)) (list_all (instruction_is_sound count begins) (placed next code)) sound in
    and_from _ _ (arg_small h count begins i.op.operand i.arg few offsets low a.0 b.0) (all_small h count begins next code few offsets low a.1 b.1)

pub body_small : (h : Built) (count : ℕ → ℕ) (b : BodyValue) → AreFew count → AreLow h → list_all (λ (i : InstrValue). text_is_kept h i.arg) b.code ≡ true → length_of_code b.code < 2 ^ 32
    → body_is_sound count (body_stated b) ≡ true → are_small (user_offset h) b.code ≡ true
unfolding body_is_sound body_stated
body_small h count b few offsets kept size sound =
    let begins : ℕ → Bool = begins_at (placed 0 b.code) in
    let low : (t : ℕ) → begins t ≡ true → t < 2 ^ 32 = λ t e. omega (arith, begin_low 0 b.code t e, size) in
    let d = and_parts (are_whole (length_of_code b.code) 0 (placed 0 b.code) && list_all (instruction_is_sound count begins) (placed 0 b.code) && list_all (handler_is_sound count begins (length_of_code b.code)) (map handler_meant b.clauses)) (locals_are_good count (nil_or b.locals)) sound in
    let e = and_parts (are_whole (length_of_code b.code) 0 (placed 0 b.code) && list_all (instruction_is_sound count begins) (placed 0 b.code)) (list_all (handler_is_sound count begins (length_of_code b.code)) (map handler_meant b.clauses)) d.0 in
    let f = and_parts (are_whole (length_of_code b.code) 0 (placed 0 b.code)) (list_all (instruction_is_sound count begins) (placed 0 b.code)) e.0 in
    all_small h count begins 0 b.code few offsets low kept f.1

-- and its local signature is one of the rows
local_low : (count : ℕ → ℕ) (t : Token) (b : Bool) → AreFew count → (t.row == 0) ≡ b → ((if b then nil else t).row == 0 || (if b then nil else t).table == 0x11 && nat_le (if b then nil else t).row (count 0x11)) ≡ true → t.row < 2 ^ 24
local_low count t true few is h = grind (arith, nat_tests, is)
local_low count t false few is h = lesser t.row (count 0x11) (and_parts (t.table == 0x11) (nat_le t.row (count 0x11)) (rw is at h)).1 (few 0x11)

pub locals_low : (count : ℕ → ℕ) (b : BodyValue) → AreFew count → body_is_sound count (body_stated b) ≡ true → b.locals.row < 2 ^ 24
unfolding body_is_sound body_stated locals_are_good
locals_low count b few sound = local_low count b.locals (b.locals.row == 0) few refl (and_parts _ (locals_are_good count (nil_or b.locals)) sound).1
