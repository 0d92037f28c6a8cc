-- The rows by which a list is judged and those of the edited module say the same, but which body a method has.
use Rattle.std.proofs.Common.{◌≡◌, ℕ, zero, suc, ◌<◌, ◌≤◌, Bool, true, false, List, [], ◌∷◌, take, Option, Some, None, refl, sym, ap, ◌∙◌, subst}
use Rattle.std.specs.Prelude.{◌||◌, ◌&&◌, ◌==◌, is_some, bytes_eq, unwrap_or, option_map, option_and_then, slice_get, if◌then◌else◌}
use Rattle.enc_base.specs.Token.{is_token}
use Rattle.enc_base.specs.declared.token.Token.{Token}
use Rattle.enc_opcodes.specs.Body.{Body}
use Rattle.enc_plain.specs.Alike.{are_rows, type_refs_alike, assembly_refs_alike, module_refs_alike, refs_alike, blobs_alike, type_specs_alike, tokens_alike, signatures_alike}
use Rattle.enc_plain.specs.Cell.{Cell, number, text, blob, guid, refer, body, field, bodies, cell_kind, kind_in}
use Rattle.enc_plain.specs.Chain.{Chain}
use Rattle.enc_plain.specs.Module.{cells_of}
use Rattle.enc_plain.specs.Rows.{Rows, number_at, bytes_at, token_at}
use Rattle.enc_plain.specs.Sound.{IsSound, row_count}
use Rattle.enc_plain.proofs.KindsOf.{row_there}
use Rattle.enc_plain.specs.ValueType.{is_value_type}
use Rattle.enc_delta.specs.Changes.{is_out_of_layout, has_no_slot, name_column, is_member, same_signature, asked_of}
use Rattle.enc_agg.proofs.Viewing.{has_is}
use Rattle.enc_edit_list.specs.declared.edit.Edit.{Edit}
use Rattle.enc_edit_list.specs.declared.edit.Edit.TheVariants.{Add, Body as Replace}
use Rattle.enc_edit_list.specs.declared.edit.EditList.{EditList}
use Rattle.enc_rules.specs.Edited.{body_stated, row_edited, rows_edited, cells_edited, cells_with, edited}
use Rattle.enc_rules.specs.Listed.{edit_of, rows_listed}
use Rattle.enc_rules.proofs.RowsEdited.{row_there as row_there_is}
use Rattle.enc_memory_module.proofs.Agreed.{found_added, not_added, none_of}
use Rattle.enc_memory_module.proofs.CellCases.{cell_of_cells}
use Rattle.enc_memory_module.proofs.Changed.{edit_found}
use Rattle.enc_memory_module.proofs.Landed.{lands}
use Rattle.enc_memory_module.proofs.Unbroken.{BreakNothing}
use Rattle.enc_list_delta.specs.Delta.{is_edited, cells_written}
use Rattle.enc_list_delta.specs.Holds.{MayFollow}
use Rattle.enc_list_delta.proofs.CellsRead.{edited_row, kept_row, given, not_given}
use Rattle.enc_list_delta.proofs.SameRows.{same_function}

-- two rows are the same, or differ in the body that stands first
pub data SameButBody (x y : Option (List Cell)) : Type 0 where
  same : x ≡ y → SameButBody x y
  other : (a b : Option Body) (rest : List Cell) → x ≡ Some (body a ∷ rest) → y ≡ Some (body b ∷ rest) → SameButBody x y

some_same : {A : Type 0} (a b : A) → Some a ≡ Some b → a ≡ b
some_same a b h = cc

-- a method's first cell is its body
first_body : (cells : List Cell) → option_map cell_kind (slice_get cells 0) ≡ Some bodies → (b : Option Body) × (rest : List Cell) × (cells ≡ body b ∷ rest)
first_body [] h = absurd cc
first_body (body b ∷ rest) h = (b, rest, refl)
first_body (number n ∷ rest) h = absurd cc
first_body (text v ∷ rest) h = absurd cc
first_body (blob v ∷ rest) h = absurd cc
first_body (guid v ∷ rest) h = absurd cc
first_body (refer t ∷ rest) h = absurd cc
first_body (field v ∷ rest) h = absurd cc

some_of : {A : Type 0} (o : Option A) → is_some o ≡ true → (x : A) × (o ≡ Some x)
some_of (Some x) h = (x, refl)
some_of None h = absurd cc

method_kind : (t : ℕ) → t ≡ 6 → kind_in t 0 ≡ Some bodies
method_kind t is = rw is refl

old_method : (c : Chain) (u : Token) → IsSound c.plain → u.table ≡ 6 → 0 < u.row → u.row ≤ row_count c.plain u.table → (b : Option Body) × (rest : List Cell) × (cells_of c.plain u ≡ Some (body b ∷ rest))
old_method c u sound table low high =
    let there = row_there c.plain u low high in
    let cells = some_of (cells_of c.plain u) (sym (has_is c.plain u) ∙ there) in
    let kind : option_map cell_kind (slice_get cells.0 0) ≡ Some bodies =
    ap (λ (o : Option (List Cell)). option_map cell_kind (option_and_then (λ (xs : List Cell). slice_get xs 0) o)) (sym cells.1) ∙ ap (option_map cell_kind) (sym (cell_of_cells c.plain u 0)) ∙ sound.kinds.kinds u 0 bodies there (method_kind u.table table) in
    let first = first_body cells.0 kind in
    (first.0, first.1, cells.1 ∙ ap (λ (xs : List Cell). Some xs) first.2)

old_rows : (c : Chain) (l : EditList) (u : Token) → edit_of c l.edits u ≡ None → rows_listed c l.edits u ≡ cells_of c.plain u
unfolding rows_listed
old_rows c l u none = rw none refl

new_rows : (c : Chain) (l : EditList) (u : Token) (table : ℕ) (owner : Token) (cells : _) (code : _) (points : _) → edit_of c l.edits u ≡ Some (Add table owner cells code points) → rows_listed c l.edits u ≡ Some (cells_edited c.plain (Add table owner cells code points))
unfolding rows_listed
new_rows c l u table owner cells code points is = rw is refl

pub same_rows : (c : Chain) (l : EditList) (u : Token) → MayFollow c l → BreakNothing c l → SameButBody (cells_of (edited c.plain l.edits) u) (rows_listed c l.edits u)
same_rows c l u may none = by_about (is_edited c.plain l.edits u) refl
  where
    by_edit : (k : ℕ) (e : Edit) → slice_get l.edits k ≡ Some e → slice_get (rows_edited c.plain l.edits) k ≡ Some u → row_edited c.plain (take k l.edits) e ≡ u
        → cells_of (edited c.plain l.edits) u ≡ Some (cells_edited c.plain e) → SameButBody (cells_of (edited c.plain l.edits) u) (rows_listed c l.edits u)
    by_edit k (Add table owner cells code points) there row own is =
        same (is ∙ sym (new_rows c l u table owner cells code points (found_added c l k table owner cells code points u there row)))
    by_edit k (Replace method code points) there row own is =
        let land = lands c l k (Replace method code points) u none there row (sym own) in
        let table : u.table ≡ 6 = ap (λ (t : Token). t.table) (sym own) ∙ land.0 in
        let low : 0 < u.row = subst (λ (t : Token). 0 < t.row) own land.1 in
        let high : u.row ≤ row_count c.plain u.table = subst (λ t. t.row ≤ row_count c.plain t.table) own (rw land.0 land.2) in
        let old = old_method c u may.sound table low high in
        let cells : cells_of c.plain method ≡ Some (body old.0 ∷ old.1) = ap (cells_of c.plain) own ∙ old.2 in
        other (Some (body_stated code)) old.0 old.1 (is ∙ ap (λ (o : Option (List Cell)). Some (cells_with (body_stated code) (unwrap_or o []))) cells)
        (old_rows c l u (not_added c l.edits u high) ∙ old.2)

    by_about : (b : Bool) → is_edited c.plain l.edits u ≡ b → SameButBody (cells_of (edited c.plain l.edits) u) (rows_listed c l.edits u)
    by_about false about = same (kept_row c l u may none about ∙ sym (old_rows c l u (none_of c l u (edit_of c l.edits u) refl (not_given c.plain l.edits u about))))
    by_about true about =
        let w = edit_found c.plain [] l.edits u (cells_written c.plain l.edits u) (given c.plain l.edits u about) in
        by_edit w.at w.edit w.there w.row (some_same _ _ (sym (row_there_is c.plain l.edits w.at w.edit w.there) ∙ w.row)) (edited_row c l u may none about ∙ ap (λ (xs : List Cell). Some xs) w.gives)

-- which tokens name rows
abbrev are_there : Rows → Token → Bool
are_there x u = is_some (x u)

-- so all that is asked of them is the same
pub record AreSeenAlike (x y : Rows) : Type 0 where
  pub numbers : number_at x ≡ number_at y
  pub bytes : bytes_at x ≡ bytes_at y
  pub tokens : token_at x ≡ token_at y
  pub there : are_there x ≡ are_there y

same_two : {A B D : Type 0} (f g : A → B → D) → ((a : A) (b : B) → f a b ≡ g a b) → f ≡ g
same_two f g each = λ i a b. each a b i

one_number : (x y : Rows) (u : Token) (i : ℕ) → SameButBody (x u) (y u) → number_at x u i ≡ number_at y u i
unfolding number_at
one_number x y u i (same e) = rw e refl
one_number x y u zero (other a b rest e f) = rw (e, f) refl
one_number x y u (suc i) (other a b rest e f) = rw (e, f) refl

one_bytes : (x y : Rows) (u : Token) (i : ℕ) → SameButBody (x u) (y u) → bytes_at x u i ≡ bytes_at y u i
unfolding bytes_at
one_bytes x y u i (same e) = rw e refl
one_bytes x y u zero (other a b rest e f) = rw (e, f) refl
one_bytes x y u (suc i) (other a b rest e f) = rw (e, f) refl

one_token : (x y : Rows) (u : Token) (i : ℕ) → SameButBody (x u) (y u) → token_at x u i ≡ token_at y u i
unfolding token_at
one_token x y u i (same e) = rw e refl
one_token x y u zero (other a b rest e f) = rw (e, f) refl
one_token x y u (suc i) (other a b rest e f) = rw (e, f) refl

one_there : (x y : Rows) (u : Token) → SameButBody (x u) (y u) → is_some (x u) ≡ is_some (y u)
one_there x y u (same e) = rw e refl
one_there x y u (other a b rest e f) = rw (e, f) refl

seen_alike : (x y : Rows) → ((u : Token) → SameButBody (x u) (y u)) → AreSeenAlike x y
seen_alike x y each = record {
  numbers = same_two (number_at x) (number_at y) (λ u i. one_number x y u i (each u));
  bytes = same_two (bytes_at x) (bytes_at y) (λ u i. one_bytes x y u i (each u));
  tokens = same_two (token_at x) (token_at y) (λ u i. one_token x y u i (each u));
  there = same_function (are_there x) (are_there y) (λ u. one_there x y u (each u));
}

-- references, tokens and signatures are alike by the ones where they are by the others
refs_same : (x y : Rows) (depth : ℕ) → AreSeenAlike x y → refs_alike x depth ≡ refs_alike y depth
unfolding refs_alike type_refs_alike assembly_refs_alike module_refs_alike are_rows
refs_same x y zero seen = refl
refs_same x y (suc depth) seen =
    let less = refs_same x y depth seen in
    let n = seen.numbers in
    let b = seen.bytes in
    let t = seen.tokens in
    let h = seen.there in
    λ i p q. is_token p q
    || ((p.table == 1 && q.table == 1 && h i p && h i q) && bytes_eq (b i p 1) (b i q 1) && bytes_eq (b i p 2) (b i q 2) && less i (t i p 0) (t i q 0))
    || ((p.table == 0x23 && q.table == 0x23 && h i p && h i q)
    && n i p 0 == n i q 0 && n i p 1 == n i q 1 && n i p 2 == n i q 2 && n i p 3 == n i q 3 && n i p 4 == n i q 4
    && bytes_eq (b i p 5) (b i q 5) && bytes_eq (b i p 6) (b i q 6) && bytes_eq (b i p 7) (b i q 7) && bytes_eq (b i p 8) (b i q 8))
    || ((p.table == 0x1A && q.table == 0x1A && h i p && h i q) && bytes_eq (b i p 0) (b i q 0))

pub tokens_same : (x y : Rows) → AreSeenAlike x y → tokens_alike x ≡ tokens_alike y
unfolding tokens_alike type_specs_alike are_rows
tokens_same x y seen =
    let refs = refs_same x y 100 seen in
    let inner = refs_same x y 99 seen in
    let b = seen.bytes in
    let h = seen.there in
    λ i p q. refs i p q || ((p.table == 0x1B && q.table == 0x1B && h i p && h i q) && blobs_alike (inner i) 0x1B (b i p 0) (b i q 0))

pub signatures_same : (x y : Rows) → AreSeenAlike x y → signatures_alike x ≡ signatures_alike y
unfolding signatures_alike
signatures_same x y seen =
    let inner = refs_same x y 99 seen in
    let tokens = tokens_same x y seen in
    λ i table p q. blobs_alike (if table == 0x1B then inner i else tokens i) table p q

-- so new fields and methods are judged alike, and so are members
pub layout_same : (c : Chain) (x y : Rows) → AreSeenAlike x y → is_out_of_layout c x ≡ is_out_of_layout c y
unfolding is_out_of_layout is_value_type
layout_same c x y seen = same_function (is_out_of_layout c x) (is_out_of_layout c y) (λ a. rw (seen.numbers, seen.bytes, seen.tokens) refl)

pub slots_same : (c : Chain) (x y : Rows) → AreSeenAlike x y → has_no_slot c x ≡ has_no_slot c y
unfolding has_no_slot
slots_same c x y seen = same_function (has_no_slot c x) (has_no_slot c y) (λ a. rw (seen.numbers) refl)

members_same : (x y : Rows) → AreSeenAlike x y → is_member x ≡ is_member y
unfolding is_member
members_same x y seen = same_function (is_member x) (is_member y) (λ t. rw (seen.numbers) refl)

signed_same : (x y : Rows) → AreSeenAlike x y → same_signature x ≡ same_signature y
unfolding same_signature
signed_same x y seen = same_two (same_signature x) (same_signature y) (λ t u. rw (seen.bytes, signatures_same x y seen) refl)

pub asked_same : (x y : Rows) → AreSeenAlike x y → asked_of x ≡ asked_of y
asked_same x y seen =
    let members = members_same x y seen in
    let signed = signed_same x y seen in
    let b = seen.bytes in
    λ i. record { counts = members i; name = λ t. b i t (name_column t.table); alike = signed i }

-- the rows by which a list is judged, and those after it
pub listed_seen : (c : Chain) (l : EditList) → MayFollow c l → BreakNothing c l → AreSeenAlike (cells_of (edited c.plain l.edits)) (rows_listed c l.edits)
listed_seen c l may none = seen_alike (cells_of (edited c.plain l.edits)) (rows_listed c l.edits) (λ u. same_rows c l u may none)
