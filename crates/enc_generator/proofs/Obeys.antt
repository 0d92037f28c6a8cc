-- Acts break no rule on rows, bodies and points.
use Rattle.std.proofs.Common.{◌≡◌, ℕ, zero, suc, ◌+◌, ◌-◌, ◌*◌, ◌<◌, ◌≤◌, ◌^◌, Bool, true, false, List, [], ◌∷◌, ◌++◌, length, take, Option, Some, None, refl, sym, ap, ◌∙◌, arith, ◌⊎◌, inl, inr, length-append}
use Rattle.std.specs.Prelude.{slice_get, ◌==◌, ◌||◌, ◌&&◌, nat_le, not, option_map, sum_by, bytes_eq}
use Rattle.std.specs.List.{list_any}
use Rattle.std.proofs.lemmas.Bool.{false≢true, cases_eq}
use Rattle.std.proofs.lemmas.Bool.Decides.{nat_tests}
use Rattle.std.proofs.lemmas.Slice.Eq.{bytes_eq-Decides}
use Rattle.enc_base.specs.Token.{is_token}
use Rattle.enc_base.specs.declared.token.Token.{Token}
use Rattle.enc_schema.specs.Children.{is_child_table}
use Rattle.enc_schema.specs.Schema.{columns_in}
use Rattle.enc_base.specs.Tables.{type_def, method_def}
use Rattle.enc_sigs.specs.Grammar.{sig_in, front_in, method_in, calling_in, byte_in, is_calling, generics_in, parts_in, type_in, elem_in, form_of, formed_in, params}
use Rattle.enc_base.specs.Readers.{number_in}
use Rattle.enc_opcodes.specs.Body.{locals_are_good}
use Rattle.enc_opcodes.specs.Sound.{are_whole, instruction_size, instruction_is_sound, handler_is_sound, body_is_sound}
use Rattle.enc_plain.specs.Apply.{Attached}
use Rattle.enc_plain.specs.Chain.{Chain, rows_before}
use Rattle.enc_plain.specs.Module.{Module}
use Rattle.enc_plain.specs.Rows.{Rows, number_at, bytes_at}
use Rattle.enc_plain.specs.Signatures.{signature_column, kind_in_table, is_signature}
use Rattle.enc_delta.specs.Changes.{is_out_of_layout, has_no_slot, is_member, asked_of}
use Rattle.enc_delta.specs.Rules.{is_insert}
use Rattle.enc_delta.specs.Twins.{is_twin, members, has_twin}
use Rattle.enc_edit_list.specs.declared.edit.Cell.{Cell as CellValue}
use Rattle.enc_edit_list.specs.declared.edit.Edit.{Edit}
use Rattle.enc_edit_list.specs.declared.edit.EditList.{EditList}
use Rattle.enc_edit_list.specs.Added.{rows_added}
use Rattle.enc_edit_list.specs.Form.{edit_fits, stated_columns}
use Rattle.enc_edit_list.specs.Reach.{branches_reach}
use Rattle.enc_edit_list.specs.Sizes.{length_of_code, placed}
use Rattle.enc_rules.specs.Edited.{body_stated, row_edited, rows_edited, attached_in}
use Rattle.enc_rules.specs.Listed.{count_after, rows_listed, body_given, edit_of}
use Rattle.enc_rules.specs.Rules.{of_child, row_is_edited_twice, owner_is_missing, owner_breaks, table_is_closed, table_breaks, token_is_missing, token_breaks, cells_break, body_is_broken, given_stands, is_il, room_of_edit, gives_body, body_is_missing_or_stands, field_is_out_of_layout, method_has_no_slot, member_has_twin, signature_is_bad, new_signature_breaks, locals_are_bad, locals_break, points_are_bad, has_points}
use Rattle.enc_rules.proofs.RowsEdited.{at_edit_is, row_behind}
use Rattle.enc_rules.proofs.RowsListed.{number_new, bytes_new}
use Rattle.enc_generator.specs.Generated.{named_row, adds_plain_row, adds_method, body_loading}
use Rattle.enc_generator.proofs.NamesApart.{Apart, Each}
use Rattle.enc_generator.proofs.Acts.{Act, plain_row, method, code, edit_of_act, edits_of_acts, new_names, Once, IsGoodAct}
use Rattle.enc_generator.proofs.ActsAdded.{IsNoMethod, all_many, edit_there, act_there, rank_rises, name_placed, none_pass, among_front, sum_few, loading_size}
use Rattle.enc_generator.proofs.Ready.{HasMethods, Knows, listed_name, listed_il, not_listed, new_row}

-- a row without an owner that breaks no rule, by the numbers of rows
pub record IsPlainRow (count : ℕ → ℕ) (table : ℕ) (cells : List CellValue) : Type 0 where
  pub other : (table == method_def) ≡ false
  pub alone : is_child_table table ≡ false
  pub allowed : table_breaks (adds_plain_row table cells) ≡ false
  pub tokens : cells_break count (stated_columns table) cells ≡ false
  pub unsigned : signature_column table ≡ None
  pub form : edit_fits (adds_plain_row table cells) ≡ true

-- what acts have that break no rule
pub record Obeys (c : Chain) (names : List (List ℕ)) (acts : List Act) : Type 0 where
  pub methods : HasMethods c.plain names
  pub types : 2 ≤ count_after c (edits_of_acts acts) type_def
  pub good : Each (IsGoodAct (IsPlainRow (count_after c (edits_of_acts acts))) (length names)) acts
  pub apart : Apart (names ++ new_names acts)
  pub once : Once acts
  pub short : length acts ≤ 2 ^ 20

no_method : (plain : ℕ → List CellValue → Type 0) (n : ℕ) (a : Act) → ((table : ℕ) (cells : List CellValue) → plain table cells → (table == method_def) ≡ false) → IsGoodAct plain n a → IsNoMethod a
no_method plain n (plain_row table cells) other good = other table cells good
no_method plain n (method name k) other good = tt
no_method plain n (code r k) other good = tt

pub knows_of : (c : Chain) (names : List (List ℕ)) (acts : List Act) → Obeys c names acts → Knows c names acts
knows_of c names acts obeys = record {
  methods = obeys.methods;
  others = λ i a h. no_method (IsPlainRow (count_after c (edits_of_acts acts))) (length names) a (λ table cells p. p.other) (obeys.good i a h);
}

-- the list with the edits of acts
abbrev pub listed_as : EditList → List Act → EditList
listed_as l acts = record { enc_id = l.enc_id; edits = edits_of_acts acts; documents = l.documents }

-- E6
not_token : (u t : Token) → (u.table ≡ t.table → u.row ≡ t.row → ⊥) → is_token u t ≡ false
not_token u t other = by (u.table == t.table) (u.row == t.row) refl refl
  where
    equal : (a b : ℕ) → (a == b) ≡ true → a ≡ b
    equal a b h = grind (arith, nat_tests, h)

    by : (a b : Bool) → (u.table == t.table) ≡ a → (u.row == t.row) ≡ b → (u.table == t.table && u.row == t.row) ≡ false
    by false b p q = rw p refl
    by true false p q = rw (p, q) refl
    by true true p q = absurd (other (equal u.table t.table p) (equal u.row t.row q))

two_rows : (c : Chain) (names : List (List ℕ)) (acts : List Act) (j k : ℕ) (a b : Act) → Obeys c names acts → j < k → slice_get acts j ≡ Some a → slice_get acts k ≡ Some b
    → (row_edited c.plain (take j (edits_of_acts acts)) (edit_of_act a)).table ≡ (row_edited c.plain (take k (edits_of_acts acts)) (edit_of_act b)).table
    → (row_edited c.plain (take j (edits_of_acts acts)) (edit_of_act a)).row ≡ (row_edited c.plain (take k (edits_of_acts acts)) (edit_of_act b)).row → ⊥
two_rows c names acts j k (plain_row t x) (plain_row u y) obeys low p q tables rows =
    let rises = rank_rises (edits_of_acts acts) j k t (edit_of_act (plain_row t x)) low (edit_there acts j (plain_row t x) p) (same t) in
    let rows_of = rw (← tables) at rows in
    omega (arith, rises, rows_of)
  where
    same : (n : ℕ) → (n == n) ≡ true
    same n = grind (arith, nat_tests)
two_rows c names acts j k (plain_row t x) (method n m) obeys low p q tables rows =
    let other = (obeys.good j (plain_row t x) p).other in
    absurd (false≢true (rw tables at (sym other)))
two_rows c names acts j k (plain_row t x) (code r m) obeys low p q tables rows =
    let other = (obeys.good j (plain_row t x) p).other in
    absurd (false≢true (rw tables at (sym other)))
two_rows c names acts j k (method n m) (plain_row t x) obeys low p q tables rows =
    let other = (obeys.good k (plain_row t x) q).other in
    absurd (false≢true (rw (← tables) at (sym other)))
two_rows c names acts j k (method n m) (method o l) obeys low p q tables rows =
    let rises = rank_rises (edits_of_acts acts) j k method_def (edit_of_act (method n m)) low (edit_there acts j (method n m) p) refl in
    omega (arith, rises, rows)
two_rows c names acts j k (method n m) (code r l) obeys low p q tables rows =
    let count = obeys.methods.count in
    let good = (obeys.good k (code r l) q).1 in
    omega (arith, rows, count, good)
two_rows c names acts j k (code r m) (plain_row t x) obeys low p q tables rows =
    let other = (obeys.good k (plain_row t x) q).other in
    absurd (false≢true (rw (← tables) at (sym other)))
two_rows c names acts j k (code r m) (method o l) obeys low p q tables rows =
    let count = obeys.methods.count in
    let good = (obeys.good j (code r m) p).1 in
    omega (arith, rows, count, good)
two_rows c names acts j k (code r m) (code s l) obeys low p q tables rows = obeys.once j k s m l low (rw rows at p) q

row_by : (m : Module) (before : List Edit) (o : Option Edit) (u : Token) → option_map (row_edited m before) o ≡ Some u → (e : Edit) × (o ≡ Some e) × (row_edited m before e ≡ u)
row_by m before None u h = absurd cc
row_by m before (Some e) u h = (e, refl, cc)

pub never_twice : (c : Chain) (l : EditList) (names : List (List ℕ)) (acts : List Act) (k : ℕ) (a : Act) → Obeys c names acts → slice_get acts k ≡ Some a → row_is_edited_twice c (listed_as l acts) k ≡ false
unfolding row_is_edited_twice
never_twice c l names acts k a obeys there =
    let t = row_edited c.plain (take k (edits_of_acts acts)) (edit_of_act a) in
    at_edit_is (λ e t. list_any (λ u. is_token u t) (take k (rows_edited c.plain (edits_of_acts acts)))) c (listed_as l acts) k (edit_of_act a) (edit_there acts k a there)
    ∙ none_pass (λ u. is_token u t) (take k (rows_edited c.plain (edits_of_acts acts))) (λ j u h.
    let w = among_front (rows_edited c.plain (edits_of_acts acts)) k j u h in
    let e = row_by c.plain (take j (edits_of_acts acts)) (slice_get (edits_of_acts acts) j) u (sym (row_behind c.plain [] (edits_of_acts acts) j) ∙ w.0) in
    let b = act_there acts j e.0 e.1 in
    not_token u t (λ tables rows.
    let is : row_edited c.plain (take j (edits_of_acts acts)) (edit_of_act b.0) ≡ u = ap (row_edited c.plain (take j (edits_of_acts acts))) b.2 ∙ e.2 in
    two_rows c names acts j k b.0 a obeys w.1 b.1 there (rw is tables) (rw is rows)))

-- E10
is_true : (a b : ℕ) → a ≤ b → nat_le a b ≡ true
is_true a b h = grind (arith, nat_tests, h)

owners_there : (count : ℕ → ℕ) (n : ℕ) (a : Act) → 2 ≤ count type_def → IsGoodAct (IsPlainRow count) n a → owner_breaks count (edit_of_act a) ≡ false
owners_there count n (plain_row table cells) types good = rw good.alone refl
owners_there count n (method name k) types good = rw (is_true 2 (count type_def) types) refl
owners_there count n (code r k) types good = refl

pub owner_there : (c : Chain) (l : EditList) (names : List (List ℕ)) (acts : List Act) (k : ℕ) (a : Act) → Obeys c names acts → slice_get acts k ≡ Some a → owner_is_missing c (listed_as l acts) k ≡ false
unfolding owner_is_missing
owner_there c l names acts k a obeys there =
    at_edit_is (λ e t. owner_breaks (count_after c (edits_of_acts acts)) e) c (listed_as l acts) k (edit_of_act a) (edit_there acts k a there)
    ∙ owners_there (count_after c (edits_of_acts acts)) (length names) a obeys.types (obeys.good k a there)

-- E12
tables_allowed : (count : ℕ → ℕ) (n : ℕ) (a : Act) → IsGoodAct (IsPlainRow count) n a → table_breaks (edit_of_act a) ≡ false
tables_allowed count n (plain_row table cells) good = good.allowed
tables_allowed count n (method name k) good = refl
tables_allowed count n (code r k) good = refl

pub table_allowed : (c : Chain) (l : EditList) (names : List (List ℕ)) (acts : List Act) (k : ℕ) (a : Act) → Obeys c names acts → slice_get acts k ≡ Some a → table_is_closed c (listed_as l acts) k ≡ false
unfolding table_is_closed
table_allowed c l names acts k a obeys there =
    at_edit_is (λ e t. table_breaks e) c (listed_as l acts) k (edit_of_act a) (edit_there acts k a there)
    ∙ tables_allowed (count_after c (edits_of_acts acts)) (length names) a (obeys.good k a there)

-- E13
tokens_there : (count : ℕ → ℕ) (n : ℕ) (a : Act) → n ≤ count method_def → IsGoodAct (IsPlainRow count) n a → token_breaks count (edit_of_act a) ≡ false
unfolding cells_break stated_columns columns_in
tokens_there count n (plain_row table cells) few good = good.tokens
tokens_there count n (method name k) few good = refl
tokens_there count n (code r k) few good = rw (is_true 1 r (omega (arith, good.0)), is_true r (count method_def) (omega (arith, good.1, few))) refl

count_more : (c : Chain) (edits : List Edit) (t : ℕ) → rows_before c t ≤ count_after c edits t
unfolding count_after
count_more c edits t = omega arith

pub token_there : (c : Chain) (l : EditList) (names : List (List ℕ)) (acts : List Act) (k : ℕ) (a : Act) → Obeys c names acts → slice_get acts k ≡ Some a → token_is_missing c (listed_as l acts) k ≡ false
unfolding token_is_missing
token_there c l names acts k a obeys there =
    let more = count_more c (edits_of_acts acts) method_def in
    let count = obeys.methods.count in
    at_edit_is (λ e t. token_breaks (count_after c (edits_of_acts acts)) e) c (listed_as l acts) k (edit_of_act a) (edit_there acts k a there)
    ∙ tokens_there (count_after c (edits_of_acts acts)) (length names) a (omega (arith, more, count)) (obeys.good k a there)

-- E16
loading_stands : (count : ℕ → ℕ) (n : ℕ) → given_stands count (body_loading n) ≡ true
unfolding given_stands body_is_sound locals_are_good body_stated are_whole instruction_is_sound instruction_size handler_is_sound branches_reach length_of_code placed
loading_stands count n = refl

room_few : (a : Act) → room_of_edit (edit_of_act a) ≤ 70
room_few (plain_row table cells) = omega arith
room_few (method name n) = let size = loading_size n in omega (arith, size)
room_few (code r n) = let size = loading_size n in omega (arith, size)

all_room : (acts : List Act) (k : ℕ) → length acts ≤ 2 ^ 20 → nat_le (2 ^ 32) (sum_by room_of_edit (take (k + 1) (edits_of_acts acts))) ≡ false
all_room acts k few =
    let sum = sum_few room_of_edit 70 (take (k + 1) (edits_of_acts acts)) (λ j e h.
    let w = among_front (edits_of_acts acts) (k + 1) j e h in
    let b = act_there acts j e w.0 in
    rw (← b.2) (room_few b.0)) in
    let front = taken (k + 1) (edits_of_acts acts) in
    let all = all_many acts in
    low (sum_by room_of_edit (take (k + 1) (edits_of_acts acts))) (length (take (k + 1) (edits_of_acts acts))) sum (omega (arith, front, all, few))
  where
    taken : (n : ℕ) (xs : List Edit) → length (take n xs) ≤ length xs
    taken zero xs = omega arith
    taken (suc n) [] = omega arith
    taken (suc n) (x ∷ xs) = let w = taken n xs in omega (arith, w)

    low : (s n : ℕ) → s ≤ 70 * n → n ≤ 2 ^ 20 → nat_le (2 ^ 32) s ≡ false
    low s n p q = grind (arith, nat_tests, p, q)

body_rule : (gives il stands long : Bool) → (gives ≡ true → (il ≡ true) × (stands ≡ true)) → long ≡ false → (gives && (not il || not stands || long)) ≡ false
body_rule false il stands long h g = refl
body_rule true il stands long h g = let w = h refl in rw (w.0, w.1, g) refl

-- the row of a method is one of IL code
il_at : (rows : Rows) (r : ℕ) → number_at rows (named_row method_def r) 1 ≡ 0 → is_il rows (named_row method_def r) ≡ true
il_at rows r h = rw h refl

pub at_name : (names : List (List ℕ)) (r : ℕ) → r < length names → (x : List ℕ) × (slice_get names r ≡ Some x)
at_name [] r low = absurd (omega arith)
at_name (x ∷ names) zero low = (x, refl)
at_name (x ∷ names) (suc r) low = at_name names r (omega (arith, low))

in_front : (xs ys : List (List ℕ)) (r : ℕ) (x : List ℕ) → slice_get xs r ≡ Some x → slice_get (xs ++ ys) r ≡ Some x
in_front [] ys r x h = absurd cc
in_front (y ∷ xs) ys zero x h = h
in_front (y ∷ xs) ys (suc r) x h = in_front xs ys r x h

behind : (xs ys : List (List ℕ)) (j : ℕ) (x : List ℕ) → slice_get ys j ≡ Some x → slice_get (xs ++ ys) (length xs + j) ≡ Some x
behind [] ys j x h = let e : 0 + j ≡ j = omega arith in rw e h
behind (y ∷ xs) ys j x h = let e : suc (length xs) + j ≡ suc (length xs + j) = omega arith in rw e (behind xs ys j x h)

-- where the method that an act adds stands among all
abbrev place : List (List ℕ) → List Act → ℕ → ℕ
place names acts k = length names + rows_added (take k (edits_of_acts acts)) method_def

placed_name : (c : Chain) (names : List (List ℕ)) (acts : List Act) (k : ℕ) (name : List ℕ) (n : ℕ) → Knows c names acts → slice_get acts k ≡ Some (method name n) → slice_get (names ++ new_names acts) (place names acts k) ≡ Some name
placed_name c names acts k name n knows there = behind names (new_names acts) (rows_added (take k (edits_of_acts acts)) method_def) name (name_placed acts k name n knows.others there)

own_row : (c : Chain) (names : List (List ℕ)) (acts : List Act) (k : ℕ) (name : List ℕ) (n : ℕ) → Knows c names acts → row_edited c.plain (take k (edits_of_acts acts)) (adds_method name n) ≡ named_row method_def (place names acts k + 1)
own_row c names acts k name n knows = ap (λ m. named_row method_def (m + rows_added (take k (edits_of_acts acts)) method_def + 1)) knows.methods.count

bodies_stand : (c : Chain) (names : List (List ℕ)) (acts : List Act) (k : ℕ) (a : Act) → Obeys c names acts → slice_get acts k ≡ Some a
    → gives_body (edit_of_act a) ≡ true → (is_il (rows_listed c (edits_of_acts acts)) (row_edited c.plain (take k (edits_of_acts acts)) (edit_of_act a)) ≡ true) × (body_is_missing_or_stands (count_after c (edits_of_acts acts)) (body_given (edit_of_act a)) ≡ true)
bodies_stand c names acts k (plain_row table cells) obeys there gives = absurd cc
bodies_stand c names acts k (method name n) obeys there gives =
    let knows = knows_of c names acts obeys in
    (rw (own_row c names acts k name n knows) (il_at (rows_listed c (edits_of_acts acts)) (place names acts k + 1) (listed_il c names acts (place names acts k) name knows (placed_name c names acts k name n knows there))), loading_stands (count_after c (edits_of_acts acts)) n)
bodies_stand c names acts k (code r n) obeys there gives =
    let knows = knows_of c names acts obeys in
    let good = obeys.good k (code r n) there in
    let x = at_name names (r - 1) (omega (arith, good.0, good.1)) in
    let e : r - 1 + 1 ≡ r = omega (arith, good.0) in
    (il_at (rows_listed c (edits_of_acts acts)) r (rw e at (listed_il c names acts (r - 1) x.0 knows (in_front names (new_names acts) (r - 1) x.0 x.1))), loading_stands (count_after c (edits_of_acts acts)) n)

pub body_stands : (c : Chain) (l : EditList) (names : List (List ℕ)) (acts : List Act) (k : ℕ) (a : Act) → Obeys c names acts → slice_get acts k ≡ Some a → body_is_broken c (listed_as l acts) k ≡ false
unfolding body_is_broken
body_stands c l names acts k a obeys there =
    at_edit_is _ c (listed_as l acts) k (edit_of_act a) (edit_there acts k a there)
    ∙ body_rule (gives_body (edit_of_act a)) (is_il (rows_listed c (edits_of_acts acts)) (row_edited c.plain (take k (edits_of_acts acts)) (edit_of_act a))) (body_is_missing_or_stands (count_after c (edits_of_acts acts)) (body_given (edit_of_act a))) (nat_le (2 ^ 32) (sum_by room_of_edit (take (k + 1) (edits_of_acts acts))))
    (bodies_stand c names acts k a obeys there) (all_room acts k obeys.short)

-- E18, E19 and E20: a rule on children asks only of the methods that are added
abbrev child_at : List (List ℕ) → List Act → ℕ → Attached
child_at names acts k = record { owner = named_row type_def 2; child = named_row method_def (place names acts k + 1) }

children : (rule : Attached → Bool) (c : Chain) (names : List (List ℕ)) (acts : List Act) (k : ℕ) (a : Act) → Obeys c names acts → slice_get acts k ≡ Some a
    → ((name : List ℕ) (n : ℕ) → a ≡ method name n → rule (child_at names acts k) ≡ false) → of_child rule (edit_of_act a) (row_edited c.plain (take k (edits_of_acts acts)) (edit_of_act a)) ≡ false
children rule c names acts k (plain_row table cells) obeys there passes = rw (obeys.good k (plain_row table cells) there).alone refl
children rule c names acts k (method name n) obeys there passes = rw (own_row c names acts k name n (knows_of c names acts obeys), passes name n refl) refl
children rule c names acts k (code r n) obeys there passes = refl

no_field : (c : Chain) (rows : Rows) (o : Token) (r : ℕ) → is_out_of_layout c rows (record { owner = o; child = named_row method_def r }) ≡ false
unfolding is_out_of_layout
no_field c rows o r = refl

pub in_layout : (c : Chain) (l : EditList) (names : List (List ℕ)) (acts : List Act) (k : ℕ) (a : Act) → Obeys c names acts → slice_get acts k ≡ Some a → field_is_out_of_layout c (listed_as l acts) k ≡ false
unfolding field_is_out_of_layout
in_layout c l names acts k a obeys there =
    at_edit_is (of_child (is_out_of_layout c (rows_listed c (edits_of_acts acts)))) c (listed_as l acts) k (edit_of_act a) (edit_there acts k a there)
    ∙ children (is_out_of_layout c (rows_listed c (edits_of_acts acts))) c names acts k a obeys there (λ name n is. no_field c (rows_listed c (edits_of_acts acts)) (named_row type_def 2) (place names acts k + 1))

-- the edit that adds the method of an act
its_edit : (c : Chain) (names : List (List ℕ)) (acts : List Act) (k : ℕ) (name : List ℕ) (n : ℕ) → Knows c names acts → slice_get acts k ≡ Some (method name n) → (m : ℕ) × (edit_of c (edits_of_acts acts) (named_row method_def (place names acts k + 1)) ≡ Some (adds_method name m))
its_edit c names acts k name n knows there = new_row c names acts (rows_added (take k (edits_of_acts acts)) method_def) name knows (name_placed acts k name n knows.others there)

its_flags : (c : Chain) (names : List (List ℕ)) (acts : List Act) (k : ℕ) (name : List ℕ) (n : ℕ) → Knows c names acts → slice_get acts k ≡ Some (method name n) → number_at (rows_listed c (edits_of_acts acts)) (named_row method_def (place names acts k + 1)) 2 ≡ 0x16
its_flags c names acts k name n knows there =
    let w = its_edit c names acts k name n knows there in
    number_new c (edits_of_acts acts) (named_row method_def (place names acts k + 1)) 2 (adds_method name w.0) w.1

not_virtual : (a e : Bool) → (a && false && e) ≡ false
not_virtual true e = refl
not_virtual false e = refl

no_slot_needed : (c : Chain) (rows : Rows) (r : ℕ) → number_at rows (named_row method_def r) 2 ≡ 0x16 → has_no_slot c rows (record { owner = named_row type_def 2; child = named_row method_def r }) ≡ false
unfolding has_no_slot
no_slot_needed c rows r flags = rw flags (not_virtual (not (is_insert c (named_row type_def 2))) _)

pub has_slot : (c : Chain) (l : EditList) (names : List (List ℕ)) (acts : List Act) (k : ℕ) (a : Act) → Obeys c names acts → slice_get acts k ≡ Some a → method_has_no_slot c (listed_as l acts) k ≡ false
unfolding method_has_no_slot
has_slot c l names acts k a obeys there =
    at_edit_is (of_child (has_no_slot c (rows_listed c (edits_of_acts acts)))) c (listed_as l acts) k (edit_of_act a) (edit_there acts k a there)
    ∙ children (has_no_slot c (rows_listed c (edits_of_acts acts))) c names acts k a obeys there (λ name n is.
    no_slot_needed c (rows_listed c (edits_of_acts acts)) (place names acts k + 1) (its_flags c names acts k name n (knows_of c names acts obeys) (there ∙ ap (λ x. Some x) is)))

-- a row that isn't there is no member
absent : (rows : Rows) (r : ℕ) → rows (named_row method_def r) ≡ None → is_member rows (named_row method_def r) ≡ false
unfolding is_member number_at
absent rows r none = rw none refl

-- other bytes
differs : (xs ys : List ℕ) → (xs ≡ ys → ⊥) → bytes_eq xs ys ≡ false
differs xs ys other = by (bytes_eq xs ys) refl
  where
    by : (b : Bool) → bytes_eq xs ys ≡ b → b ≡ false
    by false is = refl
    by true is = absurd (other ((bytes_eq-Decides xs ys).0 is))

twin_test : (a b e f : Bool) → (a ≡ false) ⊎ ((b ≡ false) ⊎ (e ≡ false)) → (a && b && e && f) ≡ false
twin_test a b e f (inl h) = rw h refl
twin_test true b e f (inr (inl h)) = rw h refl
twin_test false b e f (inr (inl h)) = refl
twin_test true true e f (inr (inr h)) = rw h refl
twin_test true false e f (inr (inr h)) = refl
twin_test false b e f (inr (inr h)) = refl

-- a method of another row has another name, or isn't there
abbrev Away : Rows → ℕ → ℕ → Type 0
Away rows p r = (not (p == r) ≡ false) ⊎ ((is_member rows (named_row method_def r) ≡ false) ⊎ (bytes_eq (bytes_at rows (named_row method_def p) 3) (bytes_at rows (named_row method_def r) 3) ≡ false))

same_not : (a b : ℕ) → a ≡ b → not (a == b) ≡ false
same_not a b e = let f : (a == b) ≡ true = grind (arith, nat_tests, e) in rw f refl

away_by : (c : Chain) (names : List (List ℕ)) (acts : List Act) (p i : ℕ) (name : List ℕ) (o : Option (List ℕ)) → Knows c names acts → Apart (names ++ new_names acts) → slice_get (names ++ new_names acts) p ≡ Some name → slice_get (names ++ new_names acts) i ≡ o
    → Away (rows_listed c (edits_of_acts acts)) (p + 1) (i + 1)
away_by c names acts p i name None knows apart at none =
    let high = past_of (names ++ new_names acts) i none in
    let both = length-append names (new_names acts) in
    inr (inl (absent (rows_listed c (edits_of_acts acts)) (i + 1) (not_listed c names acts (i + 1) knows (inr (omega (arith, high, both))))))
  where
    past_of : (xs : List (List ℕ)) (k : ℕ) → slice_get xs k ≡ None → length xs ≤ k
    past_of [] k h = omega arith
    past_of (x ∷ xs) zero h = absurd cc
    past_of (x ∷ xs) (suc k) h = let w = past_of xs k h in omega (arith, w)
away_by c names acts p i name (Some x) knows apart at there = elim (cases_eq p i) [
  | inl e ↦ inl (same_not (p + 1) (i + 1) (omega (arith, e)))
  | inr other ↦
      let own = listed_name c names acts p name knows at in
      let its = listed_name c names acts i x knows there in
      inr (inr (rw (own, its) (differs name x (λ e. other (apart p i name at (there ∙ ap (λ y. Some y) (sym e)))))))
]

away : (c : Chain) (names : List (List ℕ)) (acts : List Act) (p r : ℕ) (name : List ℕ) → Knows c names acts → Apart (names ++ new_names acts) → slice_get (names ++ new_names acts) p ≡ Some name
    → Away (rows_listed c (edits_of_acts acts)) (p + 1) r
away c names acts p zero name knows apart at = inr (inl (absent (rows_listed c (edits_of_acts acts)) 0 (not_listed c names acts 0 knows (inl refl))))
away c names acts p (suc i) name knows apart at =
    let e : i + 1 ≡ suc i = omega arith in
    rw e at (away_by c names acts p i name (slice_get (names ++ new_names acts) i) knows apart at refl)

no_twin : (c : Chain) (names : List (List ℕ)) (acts : List Act) (p r : ℕ) (name : List ℕ) → Knows c names acts → Apart (names ++ new_names acts) → slice_get (names ++ new_names acts) p ≡ Some name
    → is_twin (asked_of (rows_listed c (edits_of_acts acts))) (named_row method_def (p + 1)) (named_row method_def r) ≡ false
no_twin c names acts p r name knows apart at = twin_test (not (p + 1 == r)) _ _ _ (away c names acts p r name knows apart at)

second_none : (a b : Bool) → b ≡ false → (a && b) ≡ false
second_none true b h = h
second_none false b h = refl

no_twins : (c : Chain) (names : List (List ℕ)) (acts : List Act) (k : ℕ) (name : List ℕ) (n : ℕ) (pairs : List Attached) → Obeys c names acts → slice_get acts k ≡ Some (method name n)
    → has_twin (asked_of (rows_listed c (edits_of_acts acts))) c.plain pairs (child_at names acts k) ≡ false
unfolding has_twin
no_twins c names acts k name n pairs obeys there =
    let knows = knows_of c names acts obeys in
    second_none _ _ (none_pass _ (members c.plain pairs (named_row type_def 2) method_def) (λ i r h. no_twin c names acts (place names acts k) r name knows obeys.apart (placed_name c names acts k name n knows there)))

pub twinless : (c : Chain) (l : EditList) (names : List (List ℕ)) (acts : List Act) (k : ℕ) (a : Act) → Obeys c names acts → slice_get acts k ≡ Some a → member_has_twin c (listed_as l acts) k ≡ false
unfolding member_has_twin
twinless c l names acts k a obeys there =
    at_edit_is _ c (listed_as l acts) k (edit_of_act a) (edit_there acts k a there)
    ∙ children (has_twin (asked_of (rows_listed c (edits_of_acts acts))) c.plain (attached_in c.plain (edits_of_acts acts))) c names acts k a obeys there (λ name n is.
    no_twins c names acts k name n (attached_in c.plain (edits_of_acts acts)) obeys (there ∙ ap (λ x. Some x) is))

-- E21
its_signature : (c : Chain) (names : List (List ℕ)) (acts : List Act) (k : ℕ) (name : List ℕ) (n : ℕ) → Knows c names acts → slice_get acts k ≡ Some (method name n) → bytes_at (rows_listed c (edits_of_acts acts)) (named_row method_def (place names acts k + 1)) 4 ≡ 0 ∷ 0 ∷ 8 ∷ []
its_signature c names acts k name n knows there =
    let w = its_edit c names acts k name n knows there in
    bytes_new c (edits_of_acts acts) (named_row method_def (place names acts k + 1)) 4 (adds_method name w.0) w.1

signature_good : (count : ℕ → ℕ) → is_signature count method_def (0 ∷ 0 ∷ 8 ∷ []) ≡ true
unfolding is_signature kind_in_table sig_in front_in method_in calling_in byte_in is_calling generics_in parts_in number_in type_in elem_in form_of formed_in params
signature_good count = refl

signatures_good : (c : Chain) (names : List (List ℕ)) (acts : List Act) (k : ℕ) (a : Act) → Obeys c names acts → slice_get acts k ≡ Some a
    → new_signature_breaks (count_after c (edits_of_acts acts)) (rows_listed c (edits_of_acts acts)) (edit_of_act a) (row_edited c.plain (take k (edits_of_acts acts)) (edit_of_act a)) ≡ false
unfolding signature_column
signatures_good c names acts k (plain_row table cells) obeys there = rw (obeys.good k (plain_row table cells) there).unsigned refl
signatures_good c names acts k (method name n) obeys there =
    let knows = knows_of c names acts obeys in
    rw (own_row c names acts k name n knows, its_signature c names acts k name n knows there, signature_good (count_after c (edits_of_acts acts))) refl
signatures_good c names acts k (code r n) obeys there = refl

pub signature_stands : (c : Chain) (l : EditList) (names : List (List ℕ)) (acts : List Act) (k : ℕ) (a : Act) → Obeys c names acts → slice_get acts k ≡ Some a → signature_is_bad c (listed_as l acts) k ≡ false
unfolding signature_is_bad
signature_stands c l names acts k a obeys there =
    at_edit_is (new_signature_breaks (count_after c (edits_of_acts acts)) (rows_listed c (edits_of_acts acts))) c (listed_as l acts) k (edit_of_act a) (edit_there acts k a there)
    ∙ signatures_good c names acts k a obeys there

-- E23 and E22
no_locals : (rows : Rows) (a : Act) → locals_break rows (body_given (edit_of_act a)) ≡ false
no_locals rows (plain_row table cells) = refl
no_locals rows (method name n) = refl
no_locals rows (code r n) = refl

pub locals_stand : (c : Chain) (l : EditList) (acts : List Act) (k : ℕ) (a : Act) → slice_get acts k ≡ Some a → locals_are_bad c (listed_as l acts) k ≡ false
unfolding locals_are_bad
locals_stand c l acts k a there =
    at_edit_is (λ e t. locals_break (rows_listed c (edits_of_acts acts)) (body_given e)) c (listed_as l acts) k (edit_of_act a) (edit_there acts k a there)
    ∙ no_locals (rows_listed c (edits_of_acts acts)) a

no_points : (a : Act) → has_points (edit_of_act a) ≡ false
no_points (plain_row table cells) = refl
no_points (method name n) = refl
no_points (code r n) = refl

first_none_of : (a b : Bool) → a ≡ false → (a && b) ≡ false
first_none_of a b h = rw h refl

pub points_stand : (c : Chain) (l : EditList) (acts : List Act) (k : ℕ) (a : Act) → slice_get acts k ≡ Some a → points_are_bad c (listed_as l acts) k ≡ false
unfolding points_are_bad
points_stand c l acts k a there =
    at_edit_is _ c (listed_as l acts) k (edit_of_act a) (edit_there acts k a there)
    ∙ first_none_of (has_points (edit_of_act a)) _ (no_points a)
