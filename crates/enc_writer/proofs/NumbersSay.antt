-- The numbers of a row that edits are about say the cells that the edits give it, and fit.
use Rattle.std.proofs.Common.{◌≡◌, ℕ, ◌<◌, Bool, true, false, List, [], Option, Some, None, refl, sym, ap, ◌∙◌, subst, ◌⊎◌, inl, inr, arith}
use Rattle.std.specs.Prelude.{◌^◌, ◌||◌, ◌==◌, nat_lt, not, map, option_map, option_and_then, slice_get}
use Rattle.std.specs.List.{list_any, list_all}
use Rattle.std.specs.BTreeMap.{BTreeMap, get}
use Rattle.std.specs.Ordering.{nat_cmp}
use Rattle.std.proofs.lemmas.Bool.{false≢true}
use Rattle.std.proofs.lemmas.Bool.Decides.{nat_tests}
use Rattle.enc_base.specs.declared.token.Token.{Token}
use Rattle.enc_meta.specs.Heaps.{Counted}
use Rattle.enc_meta.specs.Joined.{joined_text, joined_blob, joined_user}
use Rattle.enc_opcodes.specs.Body.{Body}
use Rattle.enc_plain.specs.Bodies.{body_loaded, code_loaded}
use Rattle.enc_plain.specs.Cell.{Cell, number, text, blob, refer, body, numbers, bodies, is_body, is_field, kind_of, kind_in}
use Rattle.enc_plain.specs.Chain.{Chain}
use Rattle.enc_plain.specs.Reading.{Reading, cell_read, cell_with, within, index_token}
use Rattle.enc_plain.specs.Rows.{number_at, bytes_at, token_at}
use Rattle.enc_plain.specs.Sound.{is_reference}
use Rattle.enc_plain.proofs.Columns.{number_for}
use Rattle.enc_delta.specs.Delta.{loaded_code}
use Rattle.enc_delta.specs.Rules.{may_change}
use Rattle.enc_rows.specs.Sums.{below}
use Rattle.enc_rows.proofs.Listed.{get_below}
use Rattle.enc_schema.specs.Coding.{decoded, named}
use Rattle.enc_schema.specs.Schema.{schema, list_at, columns_in, column_in}
use Rattle.enc_schema.specs.declared.column.Coding.{Coding}
use Rattle.enc_schema.specs.declared.column.Column.{Column}
use Rattle.enc_schema.specs.declared.column.Column.TheVariants.{Num8, Num16, Num32, Text, Guid, Blob, Index, Coded, Run}
use Rattle.enc_rewriter.proofs.Gathers.{body_column, field_column}
use Rattle.enc_rewriter.proofs.RefersTo.{index_kind, coded_kind, index_says, coded_says}
use Rattle.enc_rewriter.proofs.Says.{text_kind, blob_kind, number_kind}
use Rattle.enc_edit_list.specs.declared.edit.EditList.{EditList}
use Rattle.enc_rules.specs.Listed.{rows_listed, count_after}
use Rattle.enc_list_delta.specs.Delta.{is_edited, cells_written}
use Rattle.enc_list_delta.specs.Holds.{MayFollow, reading_with, SaysCell, PlacesBody}
use Rattle.enc_list_delta.proofs.TokensAbout.{stands_after}
use Rattle.enc_list_delta.proofs.TokensWritten.{one_of}
use Rattle.enc_list_delta.proofs.TokensUnbroken.{nothing_breaks}
use Rattle.enc_writer.specs.Writing.{MethodsPlaced, method_token}
use Rattle.enc_writer.specs.RowsWriting.{joined_with, SaysPlain, SaysNumber}
use Rattle.enc_writer.proofs.RowsStated.{after, stated_at, IsStated, is_stated, number_stated, text_stated, blob_stated, token_stated, body_there, stated_sound}

-- what a number says that is no run's
says_cell : (r : Reading) (u : Token) (i : ℕ) (column : Column) (x : ℕ) (cell : Option Cell) → ((child : ℕ) → column ≡ Run child → ⊥) → cell_with r u i column x ≡ cell → SaysCell r u i column x cell
says_cell r u i (Run child) x cell other h = absurd (other child refl)
says_cell r u i Num8 x cell other h = h
says_cell r u i Num16 x cell other h = h
says_cell r u i Num32 x cell other h = h
says_cell r u i Text x cell other h = h
says_cell r u i Guid x cell other h = h
says_cell r u i Blob x cell other h = h
says_cell r u i (Index t) x cell other h = h
says_cell r u i (Coded k) x cell other h = h

-- only columns of four bytes are places
not_place : (is : ℕ → ℕ → Bool) (t i : ℕ) (c : Column) → (is t i ≡ true → c ≡ Num32) → (c ≡ Num32 → ⊥) → is t i ≡ false
not_place is t i c place other = by (is t i) refl
  where
    by : (b : Bool) → is t i ≡ b → is t i ≡ false
    by true e = absurd (other (place e))
    by false e = e

plain_read : (r : Reading) (u : Token) (i : ℕ) (c : Column) (x : ℕ) → is_body u.table i ≡ false → is_field u.table i ≡ false → cell_with r u i c x ≡ cell_read r c x
unfolding cell_with
plain_read r u i c x b f = rw (b, f) refl

other_read : (r : Reading) (u : Token) (i : ℕ) (c : Column) (x : ℕ) → column_in u.table i ≡ Some c → (c ≡ Num32 → ⊥) → cell_with r u i c x ≡ cell_read r c x
other_read r u i c x at other =
    plain_read r u i c x (not_place is_body u.table i c (λ e. body_column u.table i c at e) other) (not_place is_field u.table i c (λ e. field_column u.table i c at e) other)

no_run : (c : Column) → kind_of c ≡ Some numbers → (child : ℕ) → c ≡ Run child → ⊥
no_run c kind child e = let k : kind_of (Run child) ≡ Some numbers = rw e at kind in absurd cc

pub number_says : (c : Chain) (l : EditList) (u : Token) (i : ℕ) (column : Column) (x : ℕ) → MayFollow c l → is_edited c.plain l.edits u ≡ true → column_in u.table i ≡ Some column → kind_of column ≡ Some numbers
    → is_body u.table i ≡ false → is_field u.table i ≡ false → x ≡ number_at (rows_listed c l.edits) u i → SaysPlain c l u i column x
number_says c l u i column x may about at kind b f is =
    let s = is_stated c l u may about in
    let cell = number_stated c l u i s (number_kind u.table i column at kind b f) ∙ ap (λ n. Some (number n)) (sym is) in
    record {
      says = λ il. says_cell (reading_with c l (joined_with c l) il) u i column x (stated_at c l u i) (no_run column kind)
          (plain_read (reading_with c l (joined_with c l) il) u i column x b f ∙ number_for (reading_with c l (joined_with c l) il) column x kind ∙ sym cell);
      fit = stated_sound c l u i column (number x) s at cell;
    }

low_fits : (x : ℕ) → x < 2 ^ 32 → nat_lt x (2 ^ 32) ≡ true
low_fits x low = grind (arith, nat_tests, low)

pub text_says : (c : Chain) (l : EditList) (u : Token) (i : ℕ) (x : ℕ) → MayFollow c l → is_edited c.plain l.edits u ≡ true → column_in u.table i ≡ Some Text → x < 2 ^ 32
    → joined_text (joined_with c l) x ≡ Some (bytes_at (rows_listed c l.edits) u i) → SaysPlain c l u i Text x
unfolding cell_read
text_says c l u i x may about at low is =
    let s = is_stated c l u may about in
    record {
      says = λ il. other_read (reading_with c l (joined_with c l) il) u i Text x at (λ e. absurd cc) ∙ ap (option_map text) is ∙ sym (text_stated c l u i s (text_kind u.table i at));
      fit = low_fits x low;
    }

pub blob_says : (c : Chain) (l : EditList) (u : Token) (i : ℕ) (x : ℕ) → MayFollow c l → is_edited c.plain l.edits u ≡ true → column_in u.table i ≡ Some Blob → x < 2 ^ 32
    → joined_blob (joined_with c l) x ≡ Some (bytes_at (rows_listed c l.edits) u i) → SaysPlain c l u i Blob x
unfolding cell_read
blob_says c l u i x may about at low is =
    let s = is_stated c l u may about in
    record {
      says = λ il. other_read (reading_with c l (joined_with c l) il) u i Blob x at (λ e. absurd cc) ∙ ap (option_map blob) is ∙ sym (blob_stated c l u i s (blob_kind u.table i at));
      fit = low_fits x low;
    }

-- a text has no zero
pub text_clean : (c : Chain) (l : EditList) (u : Token) (i : ℕ) → MayFollow c l → is_edited c.plain l.edits u ≡ true → column_in u.table i ≡ Some Text
    → not (list_any (λ b. b == 0) (bytes_at (rows_listed c l.edits) u i)) ≡ true
text_clean c l u i may about at = let s = is_stated c l u may about in stated_sound c l u i Text (text (bytes_at (rows_listed c l.edits) u i)) s at (text_stated c l u i s (text_kind u.table i at))

no_heaps : Counted
no_heaps = record { strings = []; users = []; blobs = []; guids = [] }

index_read : (c : Chain) (l : EditList) (u : Token) (table : ℕ) (t : Token) → IsStated c l u → is_reference (after c l) (Index table) t ≡ true
    → option_map refer (within (count_after c l.edits) (index_token table t.row)) ≡ Some (refer t)
unfolding cell_read
index_read c l u table t s sound = ap (λ f. option_map refer (within f (index_token table t.row))) (sym s.counts) ∙ index_says (after c l) no_heaps table t sound

coded_read : (c : Chain) (l : EditList) (u : Token) (k : Coding) (t : Token) (x : ℕ) → IsStated c l u → is_reference (after c l) (Coded k) t ≡ true → decoded k x ≡ Some (named t)
    → option_map refer (option_and_then (within (count_after c l.edits)) (decoded k x)) ≡ Some (refer t)
unfolding cell_read
coded_read c l u k t x s sound is = ap (λ f. option_map refer (option_and_then (within f) (decoded k x))) (sym s.counts) ∙ coded_says (after c l) no_heaps k t x sound is

pub index_number_says : (c : Chain) (l : EditList) (u : Token) (i table : ℕ) (t : Token) → MayFollow c l → is_edited c.plain l.edits u ≡ true → column_in u.table i ≡ Some (Index table) → t.row < 2 ^ 32
    → t ≡ token_at (rows_listed c l.edits) u i → SaysPlain c l u i (Index table) t.row
unfolding cell_read
index_number_says c l u i table t may about at low is =
    let s = is_stated c l u may about in
    let cell : stated_at c l u i ≡ Some (refer t) = token_stated c l u i s (index_kind u.table i table at) ∙ ap (λ v. Some (refer v)) (sym is) in
    let sound = stated_sound c l u i (Index table) (refer t) s at cell in
    record {
      says = λ il. other_read (reading_with c l (joined_with c l) il) u i (Index table) t.row at (λ e. absurd cc) ∙ index_read c l u table t s sound ∙ sym cell;
      fit = low_fits t.row low;
    }

pub coded_stated : (c : Chain) (l : EditList) (u : Token) (i : ℕ) (k : Coding) (t : Token) → MayFollow c l → is_edited c.plain l.edits u ≡ true → column_in u.table i ≡ Some (Coded k)
    → t ≡ token_at (rows_listed c l.edits) u i → (stated_at c l u i ≡ Some (refer t)) × (is_reference (after c l) (Coded k) t ≡ true)
coded_stated c l u i k t may about at is =
    let s = is_stated c l u may about in
    let cell : stated_at c l u i ≡ Some (refer t) = token_stated c l u i s (coded_kind u.table i k at) ∙ ap (λ v. Some (refer v)) (sym is) in
    (cell, stated_sound c l u i (Coded k) (refer t) s at cell)

pub coded_number_says : (c : Chain) (l : EditList) (u : Token) (i : ℕ) (k : Coding) (t : Token) (x : ℕ) → MayFollow c l → is_edited c.plain l.edits u ≡ true → column_in u.table i ≡ Some (Coded k) → x < 2 ^ 32
    → stated_at c l u i ≡ Some (refer t) → is_reference (after c l) (Coded k) t ≡ true → decoded k x ≡ Some (named t) → SaysPlain c l u i (Coded k) x
unfolding cell_read
coded_number_says c l u i k t x may about at low cell sound is =
    let s = is_stated c l u may about in
    record {
      says = λ il. other_read (reading_with c l (joined_with c l) il) u i (Coded k) x at (λ e. absurd cc) ∙ coded_read c l u k t x s sound is ∙ sym cell;
      fit = low_fits x low;
    }

-- no delta has rows with the bytes of a field, or with a GUID but its Module row
pub no_field : (c : Chain) (l : EditList) (u : Token) (i : ℕ) → MayFollow c l → is_edited c.plain l.edits u ≡ true → is_field u.table i ≡ false
no_field c l u i may about =
    let s = stands_after c l u (nothing_breaks c l may) about in
    by (is_field u.table i) refl s.may
  where
    by : (b : Bool) → is_field u.table i ≡ b → may_change u.table ≡ true → is_field u.table i ≡ false
    by false e free = e
    by true e free = let t : u.table ≡ 0x1D = grind (arith, nat_tests, e) in let h : may_change 0x1D ≡ true = subst (λ k. may_change k ≡ true) t free in absurd cc

abbrev is_guid : Column → Bool
is_guid Guid = true
is_guid _ = false

-- all others have no column of GUIDs
abbrev has_no_guid : ℕ → Bool
has_no_guid table = table == 0 || not (may_change table) || list_all (λ (d : Column). not (is_guid d)) (list_at schema table)

no_guids : list_all has_no_guid (map (λ k. k) (below 0x2D)) ≡ true
unfolding below
no_guids = refl

pub no_guid : (c : Chain) (l : EditList) (u : Token) (i : ℕ) → MayFollow c l → is_edited c.plain l.edits u ≡ true → column_in u.table i ≡ Some Guid → ⊥
unfolding columns_in
no_guid c l u i may about at =
    let s = stands_after c l u (nothing_breaks c l may) about in
    let h : has_no_guid u.table ≡ true = one_of has_no_guid (map (λ k. k) (below 0x2D)) u.table u.table no_guids (get_below (λ k. k) 0x2D u.table s.small) in
    let none : list_all (λ (d : Column). not (is_guid d)) (list_at schema u.table) ≡ true = rw (s.module_, s.may) at h in
    let bad : not (is_guid Guid) ≡ true = one_of (λ (d : Column). not (is_guid d)) (list_at schema u.table) i Guid none at in
    absurd cc

-- the number of a body's column is its place
loaded_none : (il : List ℕ) (users : ℕ → Option (List ℕ)) (x : ℕ) → x ≡ 0 → body_loaded (loaded_code il) users x ≡ None
unfolding body_loaded code_loaded
loaded_none il users x is = rw is refl

body_meant : (count : ℕ → ℕ) (users : ℕ → Option (List ℕ)) (il : List ℕ) (x : ℕ) (b : Option Body) → PlacesBody count users il x (Some (body b)) → body_loaded (loaded_code il) users x ≡ b
body_meant count users il x (Some b) says = says.meant
body_meant count users il x None says = loaded_none il users x says

body_kind : (t i : ℕ) → is_body t i ≡ true → kind_in t i ≡ Some bodies
body_kind t i is = rw is refl

body_read : (r : Reading) (u : Token) (i : ℕ) (c : Column) (x : ℕ) → is_body u.table i ≡ true → cell_with r u i c x ≡ Some (body (r.code x))
unfolding cell_with
body_read r u i c x is = rw is refl

pub body_number_says : (c : Chain) (l : EditList) (il : List ℕ) (u : Token) (i : ℕ) (column : Column) (x : ℕ) → MayFollow c l → is_edited c.plain l.edits u ≡ true → column_in u.table i ≡ Some column
    → is_body u.table i ≡ true → x < 2 ^ 32 → PlacesBody (count_after c l.edits) (joined_user (joined_with c l)) il x (stated_at c l u i) → SaysNumber c l il u i column x
body_number_says c l il u i column x may about at is low places =
    let s = is_stated c l u may about in
    let cell = body_there c l u i s (body_kind u.table i is) in
    let wide : column ≡ Num32 = body_column u.table i column at is in
    let meant = body_meant (count_after c l.edits) (joined_user (joined_with c l)) il x cell.0 (subst (λ o. PlacesBody (count_after c l.edits) (joined_user (joined_with c l)) il x o) cell.1 places) in
    let read : cell_with (reading_with c l (joined_with c l) il) u i Num32 x ≡ stated_at c l u i =
    body_read (reading_with c l (joined_with c l) il) u i Num32 x is ∙ ap (λ (b : Option Body). Some (body b)) meant ∙ sym cell.1 in
    record {
      says = rw wide read;
      body = λ e. places;
      fit = rw wide (low_fits x low);
    }

pub no_body : (t i : ℕ) → ((t ≡ 6) × (i ≡ 0 → ⊥)) ⊎ (t ≡ 6 → ⊥) → is_body t i ≡ false
no_body t i (inl both) = let e : (i == 0) ≡ false = grind (arith, nat_tests, both.1) in rw (both.0, e) refl
no_body t i (inr none) = let e : (t == 6) ≡ false = grind (arith, nat_tests, none) in rw e refl

pub plain_says : (c : Chain) (l : EditList) (il : List ℕ) (u : Token) (i : ℕ) (column : Column) (x : ℕ) → is_body u.table i ≡ false → SaysPlain c l u i column x → SaysNumber c l il u i column x
plain_says c l il u i column x none says = record { says = says.says il; body = λ is. absurd (false≢true (sym none ∙ is)); fit = says.fit }

-- an edited method has its place in the code
pub place_found : (c : Chain) (l : EditList) (heaps : List Counted) (il : List ℕ) (methods : BTreeMap ℕ ℕ) (u : Token) → MethodsPlaced c l heaps il methods → u.table ≡ 6
    → is_edited c.plain l.edits u ≡ true → (place : ℕ) × (get nat_cmp methods u.row ≡ Some place)
place_found c l heaps il methods u placed table about = by (get nat_cmp methods u.row) refl
  where
    by : (o : Option ℕ) → get nat_cmp methods u.row ≡ o → (place : ℕ) × (get nat_cmp methods u.row ≡ Some place)
    by (Some place) is = (place, is)
    by None is =
        let same : method_token u.row ≡ u = ap (λ t. record { table = t; row = u.row }) (sym table) in
        let not_about : is_edited c.plain l.edits u ≡ false = ap (is_edited c.plain l.edits) (sym same) ∙ placed.others u.row is in
        absurd (false≢true (sym not_about ∙ about))

pub place_says : (c : Chain) (l : EditList) (il : List ℕ) (methods : BTreeMap ℕ ℕ) (u : Token) (i x : ℕ) → MethodsPlaced c l (joined_with c l) il methods → u.table ≡ 6 → i ≡ 0
    → get nat_cmp methods u.row ≡ Some x → PlacesBody (count_after c l.edits) (joined_user (joined_with c l)) il x (stated_at c l u i)
place_says c l il methods u i x placed table first is =
    let same : method_token u.row ≡ u = ap (λ t. record { table = t; row = u.row }) (sym table) in
    subst (λ k. PlacesBody (count_after c l.edits) (joined_user (joined_with c l)) il x (stated_at c l u k)) (sym first)
    (subst (λ t. PlacesBody (count_after c l.edits) (joined_user (joined_with c l)) il x (slice_get (cells_written c.plain l.edits t) 0)) same (placed.placed u.row x is))
