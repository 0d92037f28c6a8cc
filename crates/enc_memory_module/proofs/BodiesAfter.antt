-- The bodies of methods are sound after edits: those that were there, and those that edits give.
use Rattle.std.proofs.Common.{◌≡◌, ℕ, ◌+◌, ◌*◌, ◌%◌, ◌^◌, ◌≤◌, Bool, true, false, List, length, take, Some, refl, sym, ap, ◌∙◌, arith}
use Rattle.std.specs.Prelude.{◌==◌, ◌&&◌, ◌||◌, not, nat_lt, nat_le, slice_get, sum_by, if◌then◌else◌}
use Rattle.std.proofs.lemmas.Bool.{and_parts}
use Rattle.std.proofs.lemmas.Bool.Decides.{nat_tests}
use Rattle.enc_base.specs.Token.{nil}
use Rattle.enc_base.specs.declared.token.Token.{Token}
use Rattle.enc_opcodes.specs.Body.{Body, nil_or, begins_locals, locals_are_good}
use Rattle.enc_opcodes.specs.Sound.{body_is_sound}
use Rattle.enc_opcodes.proofs.Sounds.{Grow, good_local, sound_kept, sound_locals}
use Rattle.enc_plain.specs.Cell.{is_body}
use Rattle.enc_plain.specs.Chain.{Chain}
use Rattle.enc_plain.specs.Module.{Module, has_row, cells_of}
use Rattle.enc_plain.specs.Rows.{Rows, number_at, bytes_at}
use Rattle.enc_plain.specs.Sound.{row_count, locals_are_sound, method_is_sound, HasTables}
use Rattle.enc_plain.proofs.KindsOf.{row_bounds}
use Rattle.enc_plain.proofs.NilLocals.{nil_sound, sound_begins, sound_nil}
use Rattle.enc_delta.specs.Changes.{are_locals}
use Rattle.enc_edit_list.specs.declared.body.BodyValue.{BodyValue}
use Rattle.enc_edit_list.specs.declared.edit.Edit.{Edit}
use Rattle.enc_edit_list.specs.declared.edit.EditList.{EditList}
use Rattle.enc_edit_list.specs.Reach.{branches_reach}
use Rattle.enc_edit_list.specs.Sizes.{length_of_code}
use Rattle.enc_rules.specs.Edited.{rows_edited, body_stated, edited}
use Rattle.enc_rules.specs.Listed.{count_after, rows_listed, body_given}
use Rattle.enc_rules.specs.Rules.{given_stands, room_of_edit, is_il, body_is_broken, locals_are_bad}
use Rattle.enc_memory_module.proofs.Unbroken.{BreakNothing}
use Rattle.enc_memory_module.proofs.Agreed.{numbers_agree, bytes_agree, numbers_stay, bytes_stay}
use Rattle.enc_memory_module.proofs.CellCases.{GivesBody}
use Rattle.enc_memory_module.proofs.Grown.{count_is, rows_grow}

all_three : (a b c : Bool) → a ≡ true → b ≡ true → c ≡ true → (a && b && c) ≡ true
all_three a b c e f g = rw (e, f, g) refl

-- only the first column of a method is a body
not_first : (b : Bool) → (b && false) ≡ false
not_first true = refl
not_first false = refl

pub no_body : (table i : ℕ) → (i == 0) ≡ false → is_body table i ≡ false
no_body table i h = rw h (not_first (table == 6))

alone_no_body : (table : ℕ) → table ≡ 0x11 → is_body table 0 ≡ false
alone_no_body table h = rw h refl

-- a local signature that began as one of locals still does
begins_by : (a : Bool) (x y : List ℕ) → (a || begins_locals x) ≡ true → (a ≡ false → x ≡ y) → (a || begins_locals y) ≡ true
begins_by true x y h keeps = refl
begins_by false x y h keeps = rw (← keeps refl) h

old_locals : (c : Chain) (l : EditList) (t : Token) → HasTables c.plain → BreakNothing c l → locals_are_good (row_count c.plain) t ≡ true → locals_are_sound c.plain t ≡ true → locals_are_sound (edited c.plain l.edits) t ≡ true
old_locals c l t has none good sound =
    nil_sound (edited c.plain l.edits) t (sound_nil c.plain t sound) (begins_by (t.row == 0) (bytes_at (cells_of c.plain) t 0) (bytes_at (cells_of (edited c.plain l.edits)) t 0) (sound_begins c.plain t sound) (λ some.
    let p = good_local (row_count c.plain) t good some in
    sym (bytes_stay c l t 0 has none (alone_no_body t.table p.0) (rw p.0 p.2))))

rows_more : (c : Chain) (l : EditList) → HasTables c.plain → BreakNothing c l → Grow (row_count c.plain) (row_count (edited c.plain l.edits))
rows_more c l has none = record { each = λ t h. rows_grow c l t has none }

-- a body that was there
pub old_body : (c : Chain) (l : EditList) (u : Token) (b : Body) → HasTables c.plain → BreakNothing c l → has_row c.plain u ≡ true → method_is_sound c.plain u b ≡ true → method_is_sound (edited c.plain l.edits) u b ≡ true
unfolding method_is_sound
old_body c l u b has none there h =
    let a = and_parts (number_at (cells_of c.plain) u 1 % 4 == 0 && body_is_sound (row_count c.plain) b) (locals_are_sound c.plain b.locals) h in
    let d = and_parts (number_at (cells_of c.plain) u 1 % 4 == 0) (body_is_sound (row_count c.plain) b) a.0 in
    let flags = numbers_stay c l u 1 has none (no_body u.table 1 refl) (row_bounds c.plain u there).1 in
    all_three _ _ _ (ap (λ n. n % 4 == 0) flags ∙ d.0) (sound_kept (row_count c.plain) (row_count (edited c.plain l.edits)) b (rows_more c l has none) d.1) (old_locals c l b.locals has none (sound_locals (row_count c.plain) b d.1) a.1)

-- what the rules say of a body that an edit gives
record Given (c : Chain) (l : EditList) (u : Token) (b : BodyValue) : Type 0 where
  il : (number_at (rows_listed c l.edits) u 1 % 4 == 0) ≡ true
  stands : body_is_sound (count_after c l.edits) (body_stated b) ≡ true
  locals : are_locals (rows_listed c l.edits) b.locals ≡ true

some_room : (code clauses : ℕ) → nat_lt 0 (code + 64 + clauses) ≡ true
some_room code clauses = grind (arith, nat_tests)

unbroken : (gives il stands long : Bool) → gives ≡ true → (gives && (not il || not stands || long)) ≡ false → (il ≡ true) × (stands ≡ true)
unbroken true true true long is h = (refl, refl)
unbroken true true false long is h = absurd cc
unbroken true false stands long is h = absurd cc
unbroken false il stands long is h = absurd cc

rules_of : (c : Chain) (l : EditList) (u : Token) (k : ℕ) (e : Edit) (b : BodyValue) → BreakNothing c l → slice_get l.edits k ≡ Some e → slice_get (rows_edited c.plain l.edits) k ≡ Some u → body_given e ≡ Some b → (is_il (rows_listed c l.edits) u ≡ true) × (given_stands (count_after c l.edits) b ≡ true)
unfolding body_is_broken
rules_of c l u k e b none there row is =
    let rule = rw (there, row) at (none.bodies k) in
    let said = rw is at rule in
    unbroken (nat_lt 0 (length_of_code b.code + 64 + 28 * length b.clauses)) (is_il (rows_listed c l.edits) u) (given_stands (count_after c l.edits) b) (nat_le (2 ^ 32) (sum_by room_of_edit (take (k + 1) l.edits))) (some_room (length_of_code b.code) (28 * length b.clauses)) said

sound_of : (count : ℕ → ℕ) (b : BodyValue) → given_stands count b ≡ true → body_is_sound count (body_stated b) ≡ true
unfolding given_stands
sound_of count b h = (and_parts (body_is_sound count (body_stated b)) (branches_reach 0 b.code) h).0

denied : (b : Bool) → not b ≡ false → b ≡ true
denied true h = refl
denied false h = absurd cc

locals_of : (c : Chain) (l : EditList) (u : Token) (k : ℕ) (e : Edit) (b : BodyValue) → BreakNothing c l → slice_get l.edits k ≡ Some e → slice_get (rows_edited c.plain l.edits) k ≡ Some u → body_given e ≡ Some b → are_locals (rows_listed c l.edits) b.locals ≡ true
unfolding locals_are_bad
locals_of c l u k e b none there row is =
    let rule = rw (there, row) at (none.locals k) in
    denied (are_locals (rows_listed c l.edits) b.locals) (rw is at rule)

rules : (c : Chain) (l : EditList) (u : Token) (b : BodyValue) → BreakNothing c l → GivesBody c l u (Some b) → Given c l u b
rules c l u b none w =
    let two = rules_of c l u w.at w.edit b none w.there w.row w.given in
    record {
      il = (and_parts (u.table == 6) (number_at (rows_listed c l.edits) u 1 % 4 == 0) two.0).1;
      stands = sound_of (count_after c l.edits) b two.1;
      locals = locals_of c l u w.at w.edit b none w.there w.row w.given;
    }

-- its local signature begins as one of locals
twice_by : (t : Token) (b : Bool) → (t.row == 0) ≡ b → nil_or (if b then nil else t) ≡ (if b then nil else t)
twice_by t true is = refl
twice_by t false is = rw is refl

begins : (table : ℕ) (x y : List ℕ) → (table == 0x11 && begins_locals x) ≡ true → (table ≡ 0x11 → x ≡ y) → begins_locals y ≡ true
begins table x y h keeps =
    let a = and_parts (table == 0x11) (begins_locals x) h in
    let is : table ≡ 0x11 = grind (arith, nat_tests) in
    rw (← keeps is) a.1

locals_by : (m : Module) (rows : Rows) (t : Token) (b : Bool) → (t.row == 0) ≡ b → (b || t.table == 0x11 && begins_locals (bytes_at rows t 0)) ≡ true → (t.table ≡ 0x11 → bytes_at rows t 0 ≡ bytes_at (cells_of m) t 0) → ((if b then nil else t).row == 0 || begins_locals (bytes_at (cells_of m) (if b then nil else t) 0)) ≡ true
locals_by m rows t true is h keeps = refl
locals_by m rows t false is h keeps = rw is (begins t.table (bytes_at rows t 0) (bytes_at (cells_of m) t 0) h keeps)

given_locals : (c : Chain) (l : EditList) (t : Token) → HasTables c.plain → BreakNothing c l → are_locals (rows_listed c l.edits) t ≡ true → locals_are_sound (edited c.plain l.edits) (nil_or t) ≡ true
given_locals c l t has none h =
    nil_sound (edited c.plain l.edits) (nil_or t) (twice_by t (t.row == 0) refl) (locals_by (edited c.plain l.edits) (rows_listed c l.edits) t (t.row == 0) refl h (λ is. sym (bytes_agree c l t 0 has none (alone_no_body t.table is))))

rows_told : (c : Chain) (l : EditList) → HasTables c.plain → BreakNothing c l → Grow (count_after c l.edits) (row_count (edited c.plain l.edits))
rows_told c l has none = record { each = λ t h. same (count_after c l.edits t) (row_count (edited c.plain l.edits) t) (count_is c l t has none) }
  where
    same : (a b : ℕ) → b ≡ a → a ≤ b
    same a b h = omega (arith, h)

-- a body that an edit gives
pub given_body : (c : Chain) (l : EditList) (u : Token) (b : BodyValue) → HasTables c.plain → BreakNothing c l → GivesBody c l u (Some b) → method_is_sound (edited c.plain l.edits) u (body_stated b) ≡ true
unfolding method_is_sound body_stated
given_body c l u b has none w =
    let r = rules c l u b none w in
    let flags = numbers_agree c l u 1 has none (no_body u.table 1 refl) in
    all_three _ _ _ (ap (λ n. n % 4 == 0) flags ∙ r.il) (sound_kept (count_after c l.edits) (row_count (edited c.plain l.edits)) (body_stated b) (rows_told c l has none) r.stands) (given_locals c l b.locals has none r.locals)
