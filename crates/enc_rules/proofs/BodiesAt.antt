-- The body of an edit, by marks and by sums up to the limit.
use Rattle.std.proofs.Common.{◌≡◌, ℕ, ◌+◌, ◌*◌, ◌<◌, Bool, true, false, List, [], ◌∷◌, length, take, get_or, map, Option, Some, refl, sym, ap, ◌∙◌, arith, eq-eqb, lit<, subst}
use Rattle.std.specs.Prelude.{◌^◌, ◌&&◌, ◌||◌, not, min, sum_by, nat_le, nat_lt}
use Rattle.std.specs.List.{list_all}
use Rattle.std.proofs.lemmas.Bool.Decides.{nat_tests}
use Rattle.std.proofs.lemmas.Bool.{and_from}
use Rattle.enc_base.specs.declared.token.Token.{Token}
use Rattle.enc_schema.specs.Schema.{columns_in}
use Rattle.enc_opcodes.specs.Body.{handler_meant, locals_are_good, nil_or}
use Rattle.enc_opcodes.specs.Sound.{are_whole, begins_at, instruction_size, instruction_is_sound, handler_is_sound, body_is_sound}
use Rattle.enc_opcodes.specs.declared.code.Clause.{Clause}
use Rattle.enc_plain.specs.Cell.{numbers, kind_in}
use Rattle.enc_plain.specs.Chain.{Chain}
use Rattle.enc_plain.specs.Rows.{Rows}
use Rattle.enc_edit_list.specs.Sizes.{instr_meant, length_of_code, placed}
use Rattle.enc_edit_list.specs.declared.body.BodyValue.{BodyValue}
use Rattle.enc_edit_list.specs.declared.body.InstrValue.{InstrValue}
use Rattle.enc_edit_list.specs.declared.edit.Edit.{Edit}
use Rattle.enc_edit_list.specs.declared.edit.EditList.{EditList}
use Rattle.enc_rules.specs.Edited.{body_stated, rows_edited}
use Rattle.enc_rules.specs.Listed.{count_after, rows_listed, body_given}
use Rattle.enc_rules.specs.Marked.{is_marked, value_is_sound, clause_is_sound, body_breaks}
use Rattle.enc_edit_list.specs.Reach.{branches_reach}
use Rattle.enc_rules.specs.Rules.{room_of, room_of_edit, gives_body, is_il, given_stands, body_is_missing_or_stands, body_is_broken}
use Rattle.enc_rules.specs.Sums.{most_room}
use Rattle.enc_rules.proofs.EditAt.{judged_at}

pub flags_kind : (t : ℕ) → t ≡ 0x06 → kind_in t 1 ≡ Some numbers
unfolding columns_in
flags_kind t e = rw e refl

-- instructions that stand one behind the other are whole
stand_whole : (size at : ℕ) (code : List InstrValue) → size ≡ at + length_of_code code → are_whole size at (placed at code) ≡ true
unfolding are_whole length_of_code placed
stand_whole size at [] e = eq-eqb at size (omega arith)
stand_whole size at (i ∷ rest) e = and_from _ _ (eq-eqb at at refl) (stand_whole size (at + instruction_size (instr_meant i)) rest (omega arith))

-- each is judged without its place
sound_anywhere : (count : ℕ → ℕ) (begins : ℕ → Bool) (at : ℕ) (code : List InstrValue) → list_all (instruction_is_sound count begins) (placed at code) ≡ list_all (value_is_sound count begins) code
unfolding instruction_is_sound placed
sound_anywhere count begins at [] = refl
sound_anywhere count begins at (i ∷ rest) = ap (λ b. value_is_sound count begins i && b) (sound_anywhere count begins (at + instruction_size (instr_meant i)) rest)

sound_clauses : (count : ℕ → ℕ) (begins : ℕ → Bool) (size : ℕ) (clauses : List Clause) → list_all (handler_is_sound count begins size) (map handler_meant clauses) ≡ list_all (clause_is_sound count begins size) clauses
sound_clauses count begins size [] = refl
sound_clauses count begins size (c ∷ rest) = ap (λ b. clause_is_sound count begins size c && b) (sound_clauses count begins size rest)

-- two functions with the same values are one
same_functions : {A B : Type 0} (f g : A → B) → ((a : A) → f a ≡ g a) → f ≡ g
same_functions f g h i a = h a i

-- a body by the marks of its code
whole_from_front : (code : List InstrValue) → are_whole (length_of_code code) 0 (placed 0 code) ≡ true
whole_from_front code = stand_whole (length_of_code code) 0 code (omega arith)

stands_plain : (count : ℕ → ℕ) (b : BodyValue) (size : ℕ) → length_of_code b.code ≡ size
    → (list_all (value_is_sound count (begins_at (placed 0 b.code))) b.code && list_all (clause_is_sound count (begins_at (placed 0 b.code)) size) b.clauses && locals_are_good count (nil_or b.locals) && branches_reach 0 b.code) ≡ given_stands count b
unfolding given_stands body_is_sound body_stated
stands_plain count b size long =
    let begins : ℕ → Bool = begins_at (placed 0 b.code) in
    let clauses = list_all (clause_is_sound count begins size) b.clauses in
    let locals = locals_are_good count (nil_or b.locals) in
    let reach = branches_reach 0 b.code in
    let code = list_all (instruction_is_sound count begins) (placed 0 b.code) in
    let handlers = list_all (handler_is_sound count begins (length_of_code b.code)) (map handler_meant b.clauses) in
    ap (λ x. x && clauses && locals && reach) (sym (sound_anywhere count begins 0 b.code))
    ∙ ap (λ x. code && x && locals && reach) (ap (λ n. list_all (clause_is_sound count begins n) b.clauses) (sym long) ∙ sym (sound_clauses count begins (length_of_code b.code) b.clauses))
    ∙ ap (λ x. x && code && handlers && locals && reach) (sym (whole_from_front b.code))

pub stands_marked : (count : ℕ → ℕ) (b : BodyValue) (marks : List Bool) (size : ℕ) → length_of_code b.code ≡ size → ((t : ℕ) → is_marked marks t ≡ begins_at (placed 0 b.code) t)
    → (list_all (value_is_sound count (is_marked marks)) b.code && list_all (clause_is_sound count (is_marked marks) size) b.clauses && locals_are_good count (nil_or b.locals) && branches_reach 0 b.code) ≡ given_stands count b
stands_marked count b marks size long marked =
    ap (λ (f : ℕ → Bool). list_all (value_is_sound count f) b.code && list_all (clause_is_sound count f size) b.clauses && locals_are_good count (nil_or b.locals) && branches_reach 0 b.code)
    (same_functions (is_marked marks) (begins_at (placed 0 b.code)) marked)
    ∙ stands_plain count b size long

-- an edit's body, where the code's room is known
judged_by : (has il stands past good : Bool) → has ≡ true → il ≡ true → past ≡ false → good ≡ stands → not good ≡ (has && (not il || not stands || past))
judged_by has il stands past good a b d e = rw (a, b, d, e) (or_none (not stands))
  where
    or_none : (b : Bool) → b ≡ (b || false)
    or_none true = refl
    or_none false = refl

some_room : (n m : ℕ) → nat_lt 0 (n + 64 + 28 * m) ≡ true
some_room n m = grind (arith, nat_tests)

not_past : (n m : ℕ) → m < n → nat_le n m ≡ false
not_past n m low = grind (arith, nat_tests)

pub body_judged : (count : ℕ → ℕ) (rows : Rows) (room : ℕ) (e : Edit) (t : Token) (b : BodyValue) (good : Bool) → Some b ≡ body_given e → is_il rows t ≡ true → room < 2 ^ 32 → good ≡ given_stands count b → not good ≡ body_breaks count rows room e t
body_judged count rows room e t b good is il low stands =
    let Told : Option BodyValue → Type 0 = λ o. not good ≡ (nat_lt 0 (room_of o) && (not (is_il rows t) || not (body_is_missing_or_stands count o) || nat_le (2 ^ 32) room)) in
    subst Told is (judged_by _ (is_il rows t) (given_stands count b) (nat_le (2 ^ 32) room) good (some_room (length_of_code b.code) (length b.clauses)) il (not_past (2 ^ 32) room low) stands)

-- the edit at a place
limit_alike : (limit m n : ℕ) → limit < most_room → m ≡ min most_room n → nat_le limit m ≡ nat_le limit n
limit_alike limit m n low is = grind (arith, nat_tests)

pub body_at : (c : Chain) (l : EditList) (edits : List Edit) (rows : List Token) (k : ℕ) (e : Edit) (d : Token) (sum : ℕ) → edits ≡ l.edits → rows ≡ rows_edited c.plain l.edits → k < length edits → e ≡ get_or edits k e
    → sum ≡ min most_room (sum_by room_of_edit (take (k + 1) edits)) → body_is_broken c l k ≡ body_breaks (count_after c l.edits) (rows_listed c l.edits) sum e (get_or rows k d)
unfolding body_is_broken
body_at c l edits rows k e d sum are is low there summed =
    let room = sum_by room_of_edit (take (k + 1) l.edits) in
    let past : nat_le (2 ^ 32) sum ≡ nat_le (2 ^ 32) room = limit_alike (2 ^ 32) sum room (lit< tt) (rw are at summed) in
    let t = get_or rows k d in
    judged_at (body_breaks (count_after c l.edits) (rows_listed c l.edits) room) c l edits rows k e d are is low there
    ∙ ap (λ b. gives_body e && (not (is_il (rows_listed c l.edits) t) || not (body_is_missing_or_stands (count_after c l.edits) (body_given e)) || b)) (sym past)
