-- A body that can be assembled is read from its bytes as it was stated.
use Rattle.std.proofs.Common.{◌≡◌, ℕ, ◌+◌, ◌*◌, ◌<◌, ◌^◌, Bool, true, false, List, [], ◌∷◌, ◌++◌, length, map, Some, refl, sym, ap, ◌∙◌, arith}
use Rattle.std.specs.Prelude.{nat_lt, nat_le, not, is_some, ◌&&◌, ◌==◌}
use Rattle.std.specs.List.{list_all}
use Rattle.std.proofs.lemmas.Bool.{and_parts, and_from}
use Rattle.std.proofs.lemmas.Bool.Decides.{nat_tests}
use Rattle.std.proofs.lemmas.List.{append-nil}
use Rattle.std.proofs.lemmas.List.Folds.{list_all-append}
use Rattle.enc_assembly.specs.Assembly.{arg_is_small, are_small, text_is_kept, arg_named, placed_named, code_bytes, AssembledIsRead}
use Rattle.enc_base.specs.Numbers.{padded}
use Rattle.enc_base.specs.declared.token.Token.{Token}
use Rattle.enc_edit_list.specs.Form.{instr_fits, body_fits}
use Rattle.enc_edit_list.specs.Reach.{branches_reach}
use Rattle.enc_edit_list.specs.Sizes.{arg_meant, instr_meant, length_of_code, placed}
use Rattle.enc_edit_list.specs.declared.body.ArgValue.{ArgValue}
use Rattle.enc_edit_list.specs.declared.body.ArgValue.TheVariants as arg
use Rattle.enc_edit_list.specs.declared.body.BodyValue.{BodyValue}
use Rattle.enc_edit_list.specs.declared.body.InstrValue.{InstrValue}
use Rattle.enc_il.specs.Written.{clause_fits, with_body, place_for, is_tiny, code_again, IsWritable, BodyIsRead, ClausesAreRead}
use Rattle.enc_meta.specs.Built.{Built, AreWithinLimits, is_kept, unit_bytes, user_offset}
use Rattle.enc_meta.specs.BuiltLaws.{IsGood}
use Rattle.enc_opcodes.specs.Body.{Code, body_at, body_of, told, instruction_told, text_is_there, texts_are_there, is_named, is_user, may_name, nil_or}
use Rattle.enc_opcodes.specs.Sound.{instruction_size, argument_is_sound, instruction_is_sound, begins_at, are_whole, body_is_sound}
use Rattle.enc_opcodes.specs.Body.{locals_are_good}
use Rattle.enc_opcodes.specs.declared.op.Operand.{Operand}
use Rattle.enc_opcodes.proofs.Sounds.{good_local, sound_locals}
use Rattle.enc_rewriter.proofs.CodeCopied.{units_again}
use Rattle.enc_rewriter.proofs.KeptValues.{user_told, user_low}
use Rattle.enc_rewriter.specs.Copied.{names_text}
use Rattle.enc_rewriter.specs.Values.{text_named, texts_named, no_starts}
use Rattle.enc_rules.specs.Edited.{body_stated}
use Rattle.enc_memory_module.specs.Encoded.{code_for, texts_of, IsSoundBody, CanBeEncoded}
use Rattle.enc_memory_module.specs.Standing.{argument_is_held, code_is_held, body_assembles, Stands}
use Rattle.enc_memory_module.proofs.Gathering.{named_by, named_in, named_placed}

-- a user text that the heaps have is named by three bytes, and read there
record Tells (h : Built) : Type 0 where
  low : (v : List ℕ) → is_kept h.users v ≡ true → user_offset h v < 2 ^ 24
  there : (v : List ℕ) → is_kept h.users v ≡ true → texts_of h (user_offset h v) ≡ Some v

tells : (h : Built) → IsGood h → AreWithinLimits h → h.starts ≡ no_starts → Tells h
tells h good within none = record { low = λ v kept. user_low h v within none kept; there = λ v kept. user_told h v good none kept }

first_kept : (b : Bool) → (b && true) ≡ true → b ≡ true
first_kept true h = refl
first_kept false h = absurd cc

low_row : (row few : ℕ) → few < 2 ^ 24 → nat_le row few ≡ true → nat_lt row 0x1000000 ≡ true
low_row row few lt h = grind (arith, nat_tests)

low_offset : (n : ℕ) → n < 2 ^ 24 → nat_lt n 0x1000000 ≡ true
low_offset n lt = grind (arith, nat_tests)

-- what is named has a row of three bytes
low_token : (count : ℕ → ℕ) (t : Token) → ((t : ℕ) → count t < 2 ^ 24) → is_named count t ≡ true → nat_lt t.row 0x1000000 ≡ true
unfolding is_named
low_token count t few named =
    low_row t.row (count t.table) (few t.table) (and_parts (may_name t.table && nat_le 1 t.row) (nat_le t.row (count t.table)) named).1

-- the numbers of an argument fit their bytes
arg_small : (h : Built) (count : ℕ → ℕ) (begins : ℕ → Bool) (o : Operand) (a : ArgValue) → Tells h → ((t : ℕ) → count t < 2 ^ 24) → argument_is_held a ≡ true → argument_is_sound count begins o (arg_meant a) ≡ true
    → list_all (is_kept h.users) (text_named (arg_meant a)) ≡ true → arg_is_small (user_offset h) a ≡ true
arg_small h count begins o arg.None tells few held sound kept = refl
arg_small h count begins o (arg.Num n) tells few held sound kept = refl
arg_small h count begins o (arg.Target t) tells few held sound kept = held
arg_small h count begins o (arg.Targets ts) tells few held sound kept = held
arg_small h count begins o (arg.Token t) tells few held sound kept =
    and_from (nat_lt t.table 0x100) (nat_lt t.row 0x1000000) held (low_token count t few (and_parts (not (is_user o)) (is_named count t) sound).1)
arg_small h count begins o (arg.User units) tells few held sound kept =
    low_offset (user_offset h (unit_bytes units)) (tells.low (unit_bytes units) (first_kept (is_kept h.users (unit_bytes units)) kept))
arg_small h count begins o (arg.Raw bytes) tells few held sound kept = refl

arg_kept : (h : Built) (a : ArgValue) → list_all (is_kept h.users) (text_named (arg_meant a)) ≡ true → text_is_kept h a ≡ true
arg_kept h arg.None kept = refl
arg_kept h (arg.Num n) kept = refl
arg_kept h (arg.Target t) kept = refl
arg_kept h (arg.Targets ts) kept = refl
arg_kept h (arg.Token t) kept = refl
arg_kept h (arg.User units) kept = first_kept (is_kept h.users (unit_bytes units)) kept
arg_kept h (arg.Raw bytes) kept = refl

-- and it is told as it was stated
arg_told : (h : Built) (a : ArgValue) → Tells h → list_all (is_kept h.users) (text_named (arg_meant a)) ≡ true → told (texts_of h) (arg_named (user_offset h) a) ≡ arg_meant a
arg_told h arg.None tells kept = refl
arg_told h (arg.Num n) tells kept = refl
arg_told h (arg.Target t) tells kept = refl
arg_told h (arg.Targets ts) tells kept = refl
arg_told h (arg.Token t) tells kept = refl
arg_told h (arg.User units) tells kept =
    let there = tells.there (unit_bytes units) (first_kept (is_kept h.users (unit_bytes units)) kept) in
    rw (there, units_again units) refl
arg_told h (arg.Raw bytes) tells kept = refl

-- and its user text is there
arg_there : (h : Built) (a : ArgValue) → Tells h → list_all (is_kept h.users) (text_named (arg_meant a)) ≡ true
    → text_is_there (texts_of h) (arg_named (user_offset h) a) ≡ true
arg_there h arg.None tells kept = refl
arg_there h (arg.Num n) tells kept = refl
arg_there h (arg.Target t) tells kept = refl
arg_there h (arg.Targets ts) tells kept = refl
arg_there h (arg.Token t) tells kept = refl
arg_there h (arg.User units) tells kept = ap is_some (tells.there (unit_bytes units) (first_kept (is_kept h.users (unit_bytes units)) kept))
arg_there h (arg.Raw bytes) tells kept = refl

-- the user texts of the first instruction and of the others
parts_kept : (q : List ℕ → Bool) (i : InstrValue) (code : List InstrValue) → list_all q (named_in (i ∷ code)) ≡ true → (list_all q (named_by i) ≡ true) × (list_all q (named_in code) ≡ true)
parts_kept q i code kept =
    let p = and_parts (list_all q (named_by i)) (list_all q (named_in code)) (sym (list_all-append q (named_by i) (named_in code)) ∙ kept) in
    (p.0, p.1)

code_small : (h : Built) (count : ℕ → ℕ) (begins : ℕ → Bool) (at : ℕ) (code : List InstrValue) → Tells h → ((t : ℕ) → count t < 2 ^ 24) → code_is_held code ≡ true
    → list_all (instruction_is_sound count begins) (placed at code) ≡ true → list_all (is_kept h.users) (named_in code) ≡ true → are_small (user_offset h) code ≡ true
unfolding placed instruction_is_sound
code_small h count begins at [] tells few held sound kept = refl
code_small h count begins at (i ∷ code) tells few held sound kept =
    let two = parts_kept (is_kept h.users) i code kept in
    let own = and_parts (argument_is_held i.arg) (code_is_held code) held in
    let good = and_parts (argument_is_sound count begins i.op.operand (arg_meant i.arg)) (list_all (instruction_is_sound count begins) (placed (at + instruction_size (instr_meant i)) code)) sound in
    and_from (arg_is_small (user_offset h) i.arg) (are_small (user_offset h) code)
    (arg_small h count begins i.op.operand i.arg tells few own.0 good.0 two.0)
    (code_small h count begins (at + instruction_size (instr_meant i)) code tells few own.1 good.1 two.1)

code_kept : (h : Built) (code : List InstrValue) → list_all (is_kept h.users) (named_in code) ≡ true → list_all (λ (i : InstrValue). text_is_kept h i.arg) code ≡ true
code_kept h [] kept = refl
code_kept h (i ∷ code) kept =
    let two = parts_kept (is_kept h.users) i code kept in
    and_from (text_is_kept h i.arg) _ (arg_kept h i.arg two.0) (code_kept h code two.1)

code_told : (h : Built) (at : ℕ) (code : List InstrValue) → Tells h → list_all (is_kept h.users) (named_in code) ≡ true → map (instruction_told (texts_of h)) (placed_named (user_offset h) at code) ≡ placed at code
unfolding placed placed_named
code_told h at [] tells kept = refl
code_told h at (i ∷ code) tells kept =
    let two = parts_kept (is_kept h.users) i code kept in
    rw (arg_told h i.arg tells two.0, code_told h (at + instruction_size (instr_meant i)) code tells two.1) refl

code_there : (h : Built) (at : ℕ) (code : List InstrValue) → Tells h → list_all (is_kept h.users) (named_in code) ≡ true
    → list_all (names_text (texts_of h)) (placed_named (user_offset h) at code) ≡ true
unfolding placed_named
code_there h at [] tells kept = refl
code_there h at (i ∷ code) tells kept =
    let two = parts_kept (is_kept h.users) i code kept in
    and_from (text_is_there (texts_of h) (arg_named (user_offset h) i.arg)) _ (arg_there h i.arg tells two.0)
    (code_there h (at + instruction_size (instr_meant i)) code tells two.1)

-- what is known of a body that stands
pub record Known (b : BodyValue) : Type 0 where
  pub fits : list_all instr_fits b.code ≡ true
  pub reach : branches_reach 0 b.code ≡ true
  pub room : length_of_code b.code + 64 + 28 * length b.clauses < 2 ^ 32
  pub code : code_is_held b.code ≡ true
  pub clauses : list_all clause_fits b.clauses ≡ true

pub below_of : (a b : ℕ) → nat_lt a b ≡ true → a < b
below_of a b h = grind (arith, nat_tests, h)

pub known : (b : BodyValue) → Stands b → Known b
unfolding body_assembles body_fits
known b stands =
    let a = and_parts (body_fits b && branches_reach 0 b.code) _ stands.assembles in
    let f = and_parts (body_fits b) (branches_reach 0 b.code) a.0 in
    let h = and_parts _ (list_all clause_fits b.clauses) stands.held in
    record {
      fits = (and_parts (list_all instr_fits b.code) _ f.0).0;
      reach = f.1;
      room = below_of _ _ a.1;
      code = (and_parts _ (code_is_held b.code) h.0).1;
      clauses = h.1;
    }

-- its instructions are sound, and its user texts there
sound_code : (count : ℕ → ℕ) (b : BodyValue) → body_is_sound count (body_stated b) ≡ true → list_all (instruction_is_sound count (begins_at (placed 0 b.code))) (placed 0 b.code) ≡ true
unfolding body_is_sound body_stated
sound_code count b sound =
    let a = and_parts _ (locals_are_good count (nil_or b.locals)) sound in
    let d = and_parts (are_whole (length_of_code b.code) 0 (placed 0 b.code) && list_all (instruction_is_sound count (begins_at (placed 0 b.code))) (placed 0 b.code)) _ a.0 in
    (and_parts (are_whole (length_of_code b.code) 0 (placed 0 b.code)) _ d.0).1

kept_named : (h : Built) (b : BodyValue) → list_all (is_kept h.users) (texts_named (body_stated b).code) ≡ true → list_all (is_kept h.users) (named_in b.code) ≡ true
unfolding body_stated
kept_named h b kept = ap (list_all (is_kept h.users)) (sym (named_placed 0 b.code)) ∙ kept

pub small : (h : Built) (b : BodyValue) → IsGood h → AreWithinLimits h → h.starts ≡ no_starts → Stands b → CanBeEncoded h (body_stated b) → are_small (user_offset h) b.code ≡ true
small h b good within none stands can =
    code_small h can.body.count (begins_at (placed 0 b.code)) 0 b.code (tells h good within none) can.body.few (known b stands).code (sound_code can.body.count b can.body.sound) (kept_named h b can.kept)

pub kept : (h : Built) (b : BodyValue) → CanBeEncoded h (body_stated b) → list_all (λ (i : InstrValue). text_is_kept h i.arg) b.code ≡ true
kept h b can = code_kept h b.code (kept_named h b can.kept)

-- its local signature has a row of three bytes
low_local : (count : ℕ → ℕ) (t : Token) (b : Bool) → (t.row == 0) ≡ b → ((t : ℕ) → count t < 2 ^ 24) → locals_are_good count (nil_or t) ≡ true → t.row < 2 ^ 24
low_local count t true is few good = let e : t.row ≡ 0 = grind (arith, nat_tests, is) in omega (arith, e)
low_local count t false is few good =
    let own : nil_or t ≡ t = rw is refl in
    let p = good_local count t (rw own at good) is in
    omega (arith, p.2, few 0x11)

locals_good : (count : ℕ → ℕ) (b : BodyValue) → body_is_sound count (body_stated b) ≡ true → locals_are_good count (nil_or b.locals) ≡ true
unfolding body_stated
locals_good count b sound = sound_locals count (body_stated b) sound

pub low_locals : (b : BodyValue) → IsSoundBody (body_stated b) → b.locals.row < 2 ^ 24
low_locals b body = low_local body.count b.locals (b.locals.row == 0) refl body.few (locals_good body.count b body.sound)

-- how many bytes its code has
pub code_length : AssembledIsRead → (h : Built) (b : BodyValue) → IsGood h → AreWithinLimits h → h.starts ≡ no_starts → Stands b → CanBeEncoded h (body_stated b) → length (code_bytes (user_offset h) 0 b.code) ≡ length_of_code b.code
code_length read h b good within none stands can =
    let k = known b stands in
    (read (user_offset h) b.code k.fits k.reach (small h b good within none stands can) (omega (arith, k.room))).2

-- it is read as it was stated
pub again : AssembledIsRead → ClausesAreRead → (h : Built) (b : BodyValue) → IsGood h → AreWithinLimits h → h.starts ≡ no_starts → Stands b → CanBeEncoded h (body_stated b)
    → body_of (texts_of h) (code_again (code_for b (code_bytes (user_offset h) 0 b.code)) b.clauses) ≡ body_stated b
unfolding body_of body_stated
again read clauses h b good within none stands can =
    let k = known b stands in
    let r = read (user_offset h) b.code k.fits k.reach (small h b good within none stands can) (omega (arith, k.room)) in
    rw (r.2, r.0, code_told h 0 b.code (tells h good within none) (kept_named h b can.kept), clauses b.clauses k.clauses) refl

-- and each user text that its code names is there
pub texts_there : AssembledIsRead → (h : Built) (b : BodyValue) → IsGood h → AreWithinLimits h → h.starts ≡ no_starts → Stands b
    → CanBeEncoded h (body_stated b) → texts_are_there (texts_of h) (code_bytes (user_offset h) 0 b.code) ≡ true
unfolding texts_are_there
texts_there read h b good within none stands can =
    let k = known b stands in
    let r = read (user_offset h) b.code k.fits k.reach (small h b good within none stands can) (omega (arith, k.room)) in
    ap (list_all (names_text (texts_of h))) r.0 ∙ code_there h 0 b.code (tells h good within none) (kept_named h b can.kept)

-- a body that is written alone begins with its bytes
place_none : (c : Code) (clauses : _) (b : Bool) → is_tiny c clauses ≡ b → place_for 0 c clauses ≡ 0
unfolding place_for padded
place_none c clauses true is = rw is refl
place_none c clauses false is = rw is refl

pub written_read : BodyIsRead → (c : Code) (clauses : _) (out : List ℕ) → IsWritable c clauses → out ≡ with_body [] c clauses → body_at out 0 0 ≡ Some (code_again c clauses)
written_read read c clauses out can is =
    let first = place_none c clauses (is_tiny c clauses) refl in
    let whole : with_body [] c clauses ++ [] ≡ out = append-nil (with_body [] c clauses) ∙ sym is in
    rw (first, whole) at (read [] [] c clauses 0 can refl)
