-- EncLog, edit by edit.
use Rattle.std.proofs.Common.{◌≡◌, ℕ, zero, suc, ◌+◌, ◌-◌, ◌<◌, ◌≤◌, Bool, true, false, List, [], ◌∷◌, ◌++◌, length, map, take, Some, refl, sym, ap, ◌∙◌, inl, inr, arith, append_assoc}
use Rattle.std.specs.Prelude.{◌^◌, ◌&&◌, ◌==◌, not, nat_lt, nat_le, filter, slice_get, if◌then◌else◌}
use Rattle.std.specs.List.{list_all}
use Rattle.std.proofs.lemmas.Bool.{and_parts, or_parts, lt-ltb, ltb-false, not-false}
use Rattle.std.proofs.lemmas.Bool.Decides.{nat_tests}
use Rattle.std.proofs.lemmas.List.{append-nil, length-append, length-map, map-append}
use Rattle.std.proofs.lemmas.Option.{slice_get_cases}
use Rattle.enc_base.specs.declared.token.Token.{Token}
use Rattle.enc_schema.specs.Children.{is_child_table, owner_table}
use Rattle.enc_schema.specs.Schema.{columns_in}
use Rattle.enc_base.specs.Tables.{enc_log}
use Rattle.enc_plain.specs.Chain.{Chain}
use Rattle.enc_plain.specs.Module.{Module}
use Rattle.enc_delta.specs.declared.log_entry.LogEntry.{LogEntry}
use Rattle.enc_edit_list.specs.declared.edit.Edit.{Edit}
use Rattle.enc_edit_list.specs.declared.edit.Edit.TheVariants.{Add, Body as Replace}
use Rattle.enc_edit_list.specs.declared.edit.EditList.{EditList}
use Rattle.enc_rules.specs.Edited.{row_edited, rows_edited}
use Rattle.enc_rules.specs.Listed.{count_after}
use Rattle.enc_rules.specs.Rules.{there_are_too_many, has_owner, is_row_of, owner_breaks}
use Rattle.enc_rules.proofs.RowsEdited.{row_there, take_next, owner_is}
use Rattle.enc_list_delta.specs.Delta.{adds_reference, entries_for, entries_if, entries_behind, log_written}
use Rattle.enc_list_delta.specs.Holds.{MayFollow, entry_numbers}
use Rattle.enc_list_delta.proofs.TokensUnbroken.{other_rules, nothing_breaks, counts_fit}
use Rattle.enc_list_delta.proofs.TokensAbout.{stands_after, edit_about}
use Rattle.enc_list_delta.proofs.LogRulesEdits.{own_entry, owner_entry}
use Rattle.enc_writer.specs.LogWriting.{is_asked, entries_logged, entries_upto, entries_given, entries_at, has_number}

-- EncLog has two columns
pub log_columns : nat_lt 0 (length (columns_in enc_log)) ≡ true
unfolding columns_in
log_columns = refl

pub log_width : length (columns_in enc_log) ≡ 2
unfolding columns_in
log_width = refl

-- the entries of an edit whose row has no owner, and of one whose row has one
body_entries : (method : Token) (code : _) (points : _) (row : Token) → entries_for (Replace method code points) row ≡ own_entry row ∷ []
unfolding entries_for
body_entries method code points row = refl

unowned_entries : (table : ℕ) (owner : Token) (cells : _) (code : _) (points : _) (row : Token) → is_child_table table ≡ false → entries_for (Add table owner cells code points) row ≡ own_entry row ∷ []
unfolding entries_for
unowned_entries table owner cells code points row is = rw is refl

owned_entries : (table : ℕ) (owner : Token) (cells : _) (code : _) (points : _) (row : Token) → is_child_table table ≡ true
    → entries_for (Add table owner cells code points) row ≡ owner_entry owner row.table ∷ own_entry row ∷ []
unfolding entries_for
owned_entries table owner cells code points row is = rw is refl

-- their tokens have numbers
token_low : (count : ℕ → ℕ) (table : ℕ) (t : Token) → ((k : ℕ) → count k < 2 ^ 24) → is_row_of count table t ≡ true → nat_lt t.row 0x1000000 ≡ true
token_low count table t few there =
    let low = (and_parts (t.table == table && nat_le 1 t.row) (nat_le t.row (count table)) there).1 in
    let most = few table in
    grind (arith, nat_tests, low, most)

add_numbers : (count : ℕ → ℕ) (table : ℕ) (owner : Token) (cells : _) (code : _) (points : _) (row : Token) (b : Bool) → is_child_table table ≡ b → ((k : ℕ) → count k < 2 ^ 24) → nat_lt row.row 0x1000000 ≡ true
    → owner_breaks count (Add table owner cells code points) ≡ false → list_all has_number (entries_for (Add table owner cells code points) row) ≡ true
add_numbers count table owner cells code points row true is few low fits =
    let there = not-false (is_row_of count (owner_table table) owner) (rw is at fits) in
    rw (owned_entries table owner cells code points row is, token_low count (owner_table table) owner few there, low) refl
add_numbers count table owner cells code points row false is few low fits =
    rw (unowned_entries table owner cells code points row is, low) refl

edit_numbers : (count : ℕ → ℕ) (e : Edit) (row : Token) → ((k : ℕ) → count k < 2 ^ 24) → nat_lt row.row 0x1000000 ≡ true → owner_breaks count e ≡ false → list_all has_number (entries_for e row) ≡ true
edit_numbers count (Add table owner cells code points) row few low fits = add_numbers count table owner cells code points row (is_child_table table) refl few low fits
edit_numbers count (Replace method code points) row few low fits = rw (body_entries method code points row, low) refl

pub have_numbers : (c : Chain) (l : EditList) (k : ℕ) (e : Edit) (row : Token) → MayFollow c l → slice_get l.edits k ≡ Some e → slice_get (rows_edited c.plain l.edits) k ≡ Some row
    → list_all has_number (entries_for e row) ≡ true
have_numbers c l k e row may at there =
    let none = nothing_breaks c l may in
    let few = counts_fit c l may in
    let owner : owner_breaks (count_after c l.edits) e ≡ false = sym (owner_is c l k e at) ∙ none.owners k in
    let s = stands_after c l row none (edit_about c.plain l.edits k row there) in
    let most = few row.table in
    let high = s.high in
    edit_numbers (count_after c l.edits) e row few (lt-ltb row.row 0x1000000 (omega (arith, most, high))) owner

-- the entries of one edit more
entries_more : (asks : Edit → Bool) (m : Module) (before edits : List Edit) (e : Edit) → entries_behind asks m before (edits ++ e ∷ []) ≡ entries_behind asks m before edits ++ entries_if (asks e) (entries_for e (row_edited m (before ++ edits) e))
unfolding entries_behind
entries_more asks m before [] e = append-nil _ ∙ ap (λ es. entries_if (asks e) (entries_for e (row_edited m es e))) (sym (append-nil before))
entries_more asks m before (x ∷ edits) e =
    let first = entries_if (asks x) (entries_for x (row_edited m before x)) in
    let rest = entries_behind asks m (before ++ x ∷ []) edits in
    ap (λ more. first ++ more) (entries_more asks m (before ++ x ∷ []) edits e)
    ∙ sym (append_assoc first rest (entries_if (asks e) (entries_for e (row_edited m ((before ++ x ∷ []) ++ edits) e))))
    ∙ ap (λ es. (first ++ rest) ++ entries_if (asks e) (entries_for e (row_edited m es e))) (append_assoc before (x ∷ []) edits)

given_is : (references : Bool) (c : Chain) (l : EditList) (k : ℕ) (e : Edit) (row : Token) → slice_get l.edits k ≡ Some e → slice_get (rows_edited c.plain l.edits) k ≡ Some row → entries_at references c l k ≡ entries_if (is_asked references e) (entries_for e row)
given_is references c l k e row at there = ap (λ o. entries_given references o (slice_get (rows_edited c.plain l.edits) k)) at ∙ ap (entries_given references (Some e)) there

upto_more : (references : Bool) (c : Chain) (l : EditList) (k : ℕ) → k < length l.edits → entries_upto references c l (k + 1) ≡ entries_upto references c l k ++ entries_at references c l k
upto_more references c l k low = elim (slice_get_cases l.edits k).1 [
  | inl there ↦
      let e = there.0 in
      ap (entries_behind (is_asked references) c.plain []) (take_next l.edits k e there.2)
      ∙ entries_more (is_asked references) c.plain [] (take k l.edits) e
      ∙ ap (λ es. entries_upto references c l k ++ es) (sym (given_is references c l k e (row_edited c.plain (take k l.edits) e) there.2 (row_there c.plain l.edits k e there.2)))
  | inr past ↦ absurd (omega (arith, low, past.0))
]

-- those of fewer edits are no more, so one edit more stays within all
front_few : (asks : Edit → Bool) (m : Module) (before edits : List Edit) (n : ℕ) → length (entries_behind asks m before (take n edits)) ≤ length (entries_behind asks m before edits)
unfolding entries_behind
front_few asks m before [] zero = omega arith
front_few asks m before [] (suc n) = omega arith
front_few asks m before (e ∷ edits) zero = omega arith
front_few asks m before (e ∷ edits) (suc n) =
    let first = entries_if (asks e) (entries_for e (row_edited m before e)) in
    let rest = front_few asks m (before ++ e ∷ []) edits n in
    let less = length-append first (entries_behind asks m (before ++ e ∷ []) (take n edits)) in
    let all = length-append first (entries_behind asks m (before ++ e ∷ []) edits) in
    omega (arith, rest, less, all)

upto_few : (references : Bool) (c : Chain) (l : EditList) (k : ℕ) → k < length l.edits → length (entries_upto references c l k) + length (entries_at references c l k) ≤ length (entries_logged references c l)
upto_few references c l k low =
    let few = front_few (is_asked references) c.plain [] l.edits (k + 1) in
    let more = ap length (upto_more references c l k low) ∙ length-append (entries_upto references c l k) (entries_at references c l k) in
    omega (arith, few, more)

-- an edit has one entry, and one more where its row has an owner
one_or_two : (e : Edit) (row : Token) (b : Bool) → has_owner e ≡ b → length (entries_for e row) ≡ (if b then 2 else 1)
one_or_two (Add table owner cells code points) row true is = ap length (owned_entries table owner cells code points row is)
one_or_two (Add table owner cells code points) row false is = ap length (unowned_entries table owner cells code points row is)
one_or_two (Replace method code points) row true is = absurd cc
one_or_two (Replace method code points) row false is = ap length (body_entries method code points row)

-- so all have as many as there are edits and edits whose rows have owners
split_length : (b : Bool) (es : List LogEntry) (xs ys : List LogEntry) → length (entries_if b es ++ xs) + length (entries_if (not b) es ++ ys) ≡ length es + (length xs + length ys)
split_length true es xs ys = let one = length-append es xs in omega (arith, one)
split_length false es xs ys = let one = length-append es ys in omega (arith, one)

owner_length : (b : Bool) (e : Edit) (edits : List Edit) (n : ℕ) → n ≡ (if b then 2 else 1) → has_owner e ≡ b → n + (length edits + length (filter has_owner edits)) ≡ length (e ∷ edits) + length (filter has_owner (e ∷ edits))
owner_length true e edits n is own = rw own (omega (arith, is))
owner_length false e edits n is own = rw own (omega (arith, is))

entries_counted : (m : Module) (before edits : List Edit) → length (entries_behind (is_asked true) m before edits) + length (entries_behind (is_asked false) m before edits) ≡ length edits + length (filter has_owner edits)
unfolding entries_behind
entries_counted m before [] = refl
entries_counted m before (e ∷ edits) =
    let es = entries_for e (row_edited m before e) in
    let xs = entries_behind (is_asked true) m (before ++ e ∷ []) edits in
    let ys = entries_behind (is_asked false) m (before ++ e ∷ []) edits in
    split_length (adds_reference e) es xs ys
    ∙ ap (λ n. length es + n) (entries_counted m (before ++ e ∷ []) edits)
    ∙ owner_length (has_owner e) e edits (length es) (one_or_two e (row_edited m before e) (has_owner e) refl) refl

-- which are fewer than a table may have
log_few : (c : Chain) (l : EditList) → MayFollow c l → length (entries_logged true c l) + length (entries_logged false c l) < 2 ^ 24 - 1
unfolding there_are_too_many
log_few c l may =
    let many = nat_lt 0xFFFFFE (length l.edits + length (filter has_owner l.edits)) in
    let few = ltb-false 0xFFFFFE (length l.edits + length (filter has_owner l.edits)) (or_parts _ many (other_rules c l may).few).1 in
    let all = entries_counted c.plain [] l.edits in
    omega (arith, few, all)

-- entries behind others: none, and those of one edit more, which have room
joined : (old so_far new : List (List ℕ)) (xs ys : List LogEntry) → so_far ≡ old ++ map entry_numbers xs → new ≡ so_far ++ map entry_numbers ys → new ≡ old ++ map entry_numbers (xs ++ ys)
joined old so_far new xs ys before after =
    after
    ∙ ap (λ rows. rows ++ map entry_numbers ys) before
    ∙ append_assoc old (map entry_numbers xs) (map entry_numbers ys)
    ∙ ap (λ rows. old ++ rows) (sym (map-append entry_numbers xs ys))

joined_length : (old new : List (List ℕ)) (xs : List LogEntry) → new ≡ old ++ map entry_numbers xs → length new ≡ length old + length xs
joined_length old new xs is = ap length is ∙ length-append old (map entry_numbers xs) ∙ ap (λ n. length old + n) (length-map xs entry_numbers)

pub none_logged : (references : Bool) (c : Chain) (l : EditList) (rows : List (List ℕ)) → rows ≡ rows ++ map entry_numbers (entries_upto references c l 0)
unfolding entries_behind
none_logged references c l rows = sym (append-nil rows)

pub edit_logged : (references : Bool) (c : Chain) (l : EditList) (k : ℕ) (old so_far new : List (List ℕ)) → k < length l.edits → so_far ≡ old ++ map entry_numbers (entries_upto references c l k)
    → new ≡ so_far ++ map entry_numbers (entries_at references c l k) → new ≡ old ++ map entry_numbers (entries_upto references c l (k + 1))
edit_logged references c l k old so_far new low before after =
    joined old so_far new (entries_upto references c l k) (entries_at references c l k) before after
    ∙ ap (λ es. old ++ map entry_numbers es) (sym (upto_more references c l k low))

pub edit_has_room : (references : Bool) (c : Chain) (l : EditList) (k : ℕ) (old so_far : List (List ℕ)) → k < length l.edits → so_far ≡ old ++ map entry_numbers (entries_upto references c l k)
    → length old + length (entries_logged references c l) < 2 ^ 24 - 1 → length so_far + length (entries_at references c l k) < 2 ^ 24
edit_has_room references c l k old so_far low before room =
    let many = joined_length old so_far (entries_upto references c l k) before in
    let few = upto_few references c l k low in
    omega (arith, many, few, room)

-- the log of all edits has room, and is that which is written
pub references_have_room : (c : Chain) (l : EditList) (old : List (List ℕ)) → MayFollow c l → old ≡ [] → length old + length (entries_logged true c l) < 2 ^ 24 - 1
references_have_room c l old may none =
    let empty = ap length none in
    omega (arith, empty, log_few c l may)

pub others_have_room : (c : Chain) (l : EditList) (old new : List (List ℕ)) → MayFollow c l → old ≡ [] → new ≡ old ++ map entry_numbers (entries_logged true c l) → length new + length (entries_logged false c l) < 2 ^ 24 - 1
others_have_room c l old new may none is =
    let empty = ap length none in
    let many = joined_length old new (entries_logged true c l) is in
    omega (arith, empty, many, log_few c l may)

pub all_logged : (c : Chain) (l : EditList) (old so_far new : List (List ℕ)) → old ≡ [] → so_far ≡ old ++ map entry_numbers (entries_logged true c l) → new ≡ so_far ++ map entry_numbers (entries_logged false c l)
    → new ≡ map entry_numbers (log_written c.plain l.edits)
unfolding log_written
all_logged c l old so_far new none first rest =
    joined old so_far new (entries_logged true c l) (entries_logged false c l) first rest ∙ ap (λ rows. rows ++ map entry_numbers (entries_logged true c l ++ entries_logged false c l)) none
