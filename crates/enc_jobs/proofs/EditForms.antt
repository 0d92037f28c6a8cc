-- Edits that are read are of the form.
use Rattle.std.proofs.Common.{◌≡◌, ℕ, ◌<◌, arith, List, [], ◌∷◌, inl, inr, Option, Some, None, Result, Ok, Err, Bool, true, false, ◌&&◌, Ordering, Less, Equal, Greater, refl, sym, ◌∙◌}
use Rattle.std.specs.Prelude.{◌%◌, nat_lt, option_map, MatchOption, IfOk, ok_or, option_and_then, if◌then◌else◌, slice_get, bytes_eq, codes, is_some, ◌==◌}
use Rattle.std.specs.List.{list_all}
use Rattle.std.specs.Ordering.{nat_cmp, match_ordering}
use Rattle.std.specs.Cmp.Lexicographic.{slice_cmp}
use Rattle.std.proofs.lemmas.Bool.{and_parts, false≢true, and_from}
use Rattle.std.proofs.lemmas.Map.Lookups.{exact_bytes}
use Rattle.serde_json.specs.Data.{Data, null, boolean, number, string, array, object, Members, no_members, member}
use Rattle.serde_json.specs.Find.{get, get_member, as_str}
use Rattle.std.proofs.lemmas.Bool.Decides.{nat_tests}
use Rattle.enc_base.specs.Token.{nil, is_token, token_of}
use Rattle.enc_base.specs.declared.token.Token.{Token}
use Rattle.enc_base.proofs.First.{first_means}
use Rattle.enc_schema.specs.Names.{table_name_in}
use Rattle.enc_schema.specs.Children.{is_child_table}
use Rattle.enc_base.specs.Tables.{method_def}
use Rattle.enc_schema.proofs.TableNames as tables
use Rattle.enc_seqpoints.specs.declared.point.Point.{Point}
use Rattle.enc_opcodes.specs.Laws.{NamedAreFound}
use Rattle.enc_edit_list.specs.declared.body.BodyValue.{BodyValue}
use Rattle.enc_edit_list.specs.declared.edit.Cell.{Cell as CellValue}
use Rattle.enc_edit_list.specs.declared.edit.Edit.{Edit}
use Rattle.enc_edit_list.specs.declared.edit.Edit.TheVariants.{Add, Body}
use Rattle.enc_edit_list.specs.declared.edit.EditList.{EditList}
use Rattle.enc_edit_list.specs.Form.{is_known_table, stated_columns, cells_fit, owner_fits, code_fits, body_fits, edit_fits, list_fits}
use Rattle.enc_jobs.specs.declared.fault.JobFault.{JobFault}
use Rattle.enc_jobs.specs.declared.fault.JobFault.TheVariants.{J1}
use Rattle.enc_jobs.specs.Outcome.{GivesList}
use Rattle.enc_jobs.specs.declared.list.Head.{Head}
use Rattle.enc_opcodes.specs.Instruction.{◌>>=◌}
use Rattle.enc_jobs.specs.Json.{elements_of, keys_in, is_one_of, has_only, token_said, token_number_said}
use Rattle.enc_jobs.specs.Points.{at_said, hidden_said, shown_said, point_said, points_from, points_said}
use Rattle.enc_jobs.specs.Body.{method_said, method_said_if}
use Rattle.enc_jobs.specs.Cell.{cells_said}
use Rattle.enc_jobs.specs.Lists.{next_number, with_numbered, read_in_turn}
use Rattle.enc_jobs.specs.Edits.{has_this_name, table_named, add_keys, owner_said, add_to_said, add_said, replace_said, edit_of_kind, edit_said, head_said, with_head, with_items, list_said, json_value, list_of_value, edits_said}
use Rattle.enc_jobs.specs.Laws.{SaidFits}
use Rattle.enc_jobs.proofs.Inverse.{map_some, then_some, if_some, either_some}
use Rattle.enc_jobs.proofs.CellForms.{cells_have}
use Rattle.enc_jobs.proofs.CodeForms.{method_has}

-- a key whose value is there is one of the keys
key_by : (o : Ordering) (p : List ℕ → Bool) (k l : List ℕ) (e x : Data) (rest : Option Data) → slice_cmp nat_cmp k l ≡ o → p l ≡ true → (rest ≡ Some x → p k ≡ true) → match_ordering o rest (Some e) rest ≡ Some x → p k ≡ true
key_by Less p k l e x rest is here later h = later h
key_by Equal p k l e x rest is here later h = let q : k ≡ l = exact_bytes k l is in rw q here
key_by Greater p k l e x rest is here later h = later h

key_known : (ms : Members) (p : List ℕ → Bool) (k : List ℕ) (x : Data) → list_all p (keys_in ms) ≡ true → get_member k ms ≡ Some x → p k ≡ true
key_known no_members p k x all h = absurd (cc)
key_known (member l e ms) p k x all h =
    let a = and_parts (p l) (list_all p (keys_in ms)) all in
    key_by (slice_cmp nat_cmp k l) p k l e x (get_member k ms) refl a.0 (key_known ms p k x a.1) h

known_key : (names : List (List ℕ)) (d : Data) (k : List ℕ) (x : Data) → has_only names d ≡ true → get k d ≡ Some x → is_one_of names k ≡ true
unfolding has_only
known_key names null k x only h = absurd (cc)
known_key names (boolean b) k x only h = absurd (cc)
known_key names (number n) k x only h = absurd (cc)
known_key names (string s) k x only h = absurd (cc)
known_key names (array ds) k x only h = absurd (cc)
known_key names (object ms) k x only h = key_known ms (is_one_of names) k x only h

-- only an edit that adds a MethodDef has code
code_by : (b c : Bool) → is_one_of (if b then codes "do" ∷ codes "table" ∷ codes "cells" ∷ codes "owner" ∷ codes "code" ∷ codes "points" ∷ [] else (if c then codes "do" ∷ codes "table" ∷ codes "cells" ∷ codes "owner" ∷ [] else codes "do" ∷ codes "table" ∷ codes "cells" ∷ [])) (codes "code") ≡ true → b ≡ true
code_by true c h = refl
code_by false true h = absurd (cc)
code_by false false h = absurd (cc)

code_key : (table : ℕ) → is_one_of (add_keys table) (codes "code") ≡ true → (table == method_def) ≡ true
unfolding add_keys
code_key table h = code_by (table == method_def) (is_child_table table) h

-- no index names an instruction where there is none
at_nothing : (d : Data) (n : ℕ) → at_said [] d ≡ Some n → false ≡ true
unfolding at_said
at_nothing d n h = let w = then_some _ (slice_get []) n h in absurd (cc (w.2))

no_point : (document : ℕ) (d : Data) (p : Point) → point_said [] document d ≡ Some p → false ≡ true
unfolding point_said hidden_said shown_said
no_point document d p h =
    elim (either_some (is_some (get (codes "hidden") d)) _ _ p h) [
      | inl a ↦ let w = if_some (has_only (codes "at" ∷ codes "hidden" ∷ []) d) _ p a in let o = then_some (at_said [] d) _ p w.1 in at_nothing d o.0 o.1
      | inr a ↦ let w = if_some (has_only (codes "at" ∷ codes "document" ∷ codes "from" ∷ codes "to" ∷ []) d) _ p a in let o = then_some (at_said [] d) _ p w.1 in at_nothing d o.0 o.1
    ]

no_points : (ds : List Data) (ps : List Point) → points_from [] 1 ds ≡ Some ps → ps ≡ []
unfolding points_from
no_points [] ps h = cc
no_points (d ∷ ds) ps h = let w = then_some (point_said [] 1 d) _ ps h in absurd (false≢true (no_point 1 d w.0 w.1))

pub no_points_if : (o : Option Data) (ps : List Point) → points_said [] o ≡ Some ps → ps ≡ []
unfolding points_said
no_points_if None ps h = cc
no_points_if (Some d) ps h = let w = then_some (elements_of d) (points_from [] 1) ps h in no_points w.0 ps w.2

code_has : NamedAreFound → (table : ℕ) (code points : Option Data) (m : Option BodyValue × List Point) → ((x : Data) → code ≡ Some x → (table == method_def) ≡ true) → method_said_if code points ≡ Some m → code_fits table m.0 m.1 ≡ true
unfolding method_said_if
code_has known table None points m only h =
    let w = map_some _ (points_said [] points) m h in
    let e : w.0 ≡ [] = no_points_if points w.0 w.1 in
    rw (← w.2) (rw e refl)
code_has known table (Some code) points m only h =
    let w = map_some _ (method_said code points) m h in
    rw (← w.2) (and_from (table == method_def) (body_fits w.0.body) (only code refl) (method_has known code points w.0 w.1))

-- the row of a token is below 2^24
small_row : (o : Option ℕ) (t : Token) → option_map token_of o ≡ Some t → nat_lt t.row 0x1000000 ≡ true
small_row None t h = absurd cc
small_row (Some n) t h =
    let e : token_of n ≡ t = cc in
    let small : n % 0x1000000 < 0x1000000 = omega arith in
    rw (← e) (grind (arith, nat_tests, small))

said_small : (o : Option Data) (t : Token) → (o >>= token_said) ≡ Some t → nat_lt t.row 0x1000000 ≡ true
unfolding token_said
said_small None t h = absurd cc
said_small (Some d) t h = small_row (token_number_said d) t h

-- an owner only where there is one
owner_by : (b : Bool) (o : Option Token) (t : Token) → (o ≡ Some t → nat_lt t.row 0x1000000 ≡ true) → (if b then o else Some nil) ≡ Some t → (if b then nat_lt t.row 0x1000000 else is_token t nil) ≡ true
owner_by true o t small h = small h
owner_by false o t small h = let e : nil ≡ t = cc in rw (← e) refl

owner_has : (table : ℕ) (d : Data) (t : Token) → owner_said table d ≡ Some t → owner_fits table t ≡ true
unfolding owner_said
owner_has table d t h = owner_by (is_child_table table) (get (codes "owner") d >>= token_said) t (λ e. said_small (get (codes "owner") d) t e) h

all_four : (a b c d : Bool) → a ≡ true → b ≡ true → c ≡ true → d ≡ true → (a && b && c && d) ≡ true
all_four a b c d p q r s = rw (p, q, r, s) refl

add_fits : (table : ℕ) (owner : Token) (cells : List CellValue) (code : Option BodyValue) (points : List Point) → is_known_table table ≡ true → owner_fits table owner ≡ true → cells_fit (stated_columns table) cells ≡ true → code_fits table code points ≡ true → edit_fits (Add table owner cells code points) ≡ true
unfolding edit_fits
add_fits table owner cells code points p q r s = all_four (is_known_table table) (owner_fits table owner) (cells_fit (stated_columns table) cells) (code_fits table code points) p q r s

add_has : NamedAreFound → (d : Data) (table : ℕ) (e : Edit) → is_known_table table ≡ true → add_to_said d table ≡ Some e → edit_fits e ≡ true
unfolding add_to_said
add_has known d table e there h =
    let w = if_some (has_only (add_keys table) d) _ e h in
    let owner = then_some (owner_said table d) _ e w.1 in
    let items = then_some (option_and_then elements_of (get (codes "cells") d)) _ e owner.2 in
    let cells = then_some (cells_said (stated_columns table) items.0) _ e items.2 in
    let m = then_some (method_said_if (get (codes "code") d) (get (codes "points") d)) _ e cells.2 in
    let q : Add table owner.0 cells.0 m.0.0 m.0.1 ≡ e = cc in
    let only = λ (x : Data) (is : get (codes "code") d ≡ Some x). code_key table (known_key (add_keys table) d (codes "code") x w.0 is) in
    rw (← q) (add_fits table owner.0 cells.0 m.0.0 m.0.1 there (owner_has table d owner.0 owner.1) (cells_have (stated_columns table) items.0 cells.0 cells.1) (code_has known table (get (codes "code") d) (get (codes "points") d) m.0 only m.1))

-- a table with a name is one
name_is : (name : List ℕ) (o : Option (List ℕ)) → has_this_name name o ≡ true → is_some o ≡ true
name_is name None h = absurd (cc)
name_is name (Some known) h = refl

table_by : (name : List ℕ) (found : Option ℕ) (t : ℕ) → MatchOption found ((k : ℕ) → k < 56 → (if has_this_name name (table_name_in k) then Some k else None) ≡ None) (λ x. (k : ℕ) × (k < 56) × ((if has_this_name name (table_name_in k) then Some k else None) ≡ Some x) × ((j : ℕ) → j < k → (if has_this_name name (table_name_in j) then Some j else None) ≡ None)) → found ≡ Some t → is_known_table t ≡ true
table_by name None t m h = absurd (cc)
table_by name (Some x) t m h =
    let w = if_some (has_this_name name (table_name_in m.0)) (Some m.0) x m.2 in
    let e : m.0 ≡ t = cc in
    rw (← e) (sym (tables.table_named m.0) ∙ name_is name (table_name_in m.0) w.0)

table_is : (name : List ℕ) (t : ℕ) → table_named name ≡ Some t → is_known_table t ≡ true
unfolding table_named
table_is name t h = table_by name _ t (first_means (λ t. if has_this_name name (table_name_in t) then Some t else None) 56) h

replace_has : NamedAreFound → (d : Data) (e : Edit) → replace_said d ≡ Some e → edit_fits e ≡ true
unfolding replace_said edit_fits
replace_has known d e h =
    let w = if_some (has_only (codes "do" ∷ codes "method" ∷ codes "code" ∷ codes "points" ∷ []) d) _ e h in
    let method = then_some (option_and_then token_said (get (codes "method") d)) _ e w.1 in
    let code = then_some (get (codes "code") d) _ e method.2 in
    let m = then_some (method_said code.0 (get (codes "points") d)) _ e code.2 in
    let q : Body method.0 m.0.body m.0.points ≡ e = cc in
    rw (← q) (method_has known code.0 (get (codes "points") d) m.0 m.1)

added_has : NamedAreFound → (d : Data) (e : Edit) → add_said d ≡ Some e → edit_fits e ≡ true
unfolding add_said
added_has known d e h =
    let table = then_some (option_and_then table_named (option_and_then as_str (get (codes "table") d))) (add_to_said d) e h in
    let name = then_some (option_and_then as_str (get (codes "table") d)) table_named table.0 table.1 in
    add_has known d table.0 e (table_is name.0 table.0 name.2) table.2

kind_has : NamedAreFound → (d : Data) (kind : List ℕ) (e : Edit) → edit_of_kind d kind ≡ Some e → edit_fits e ≡ true
kind_has known d kind e h =
    elim (either_some (bytes_eq kind (codes "add")) _ _ e h) [
      | inl w ↦ added_has known d e w
      | inr w ↦ replace_has known d e ((if_some (bytes_eq kind (codes "body")) _ e w).1)
    ]

edit_has : NamedAreFound → (d : Data) (e : Edit) → edit_said d ≡ Some e → edit_fits e ≡ true
unfolding edit_said
edit_has known d e h =
    let kind = then_some (option_and_then as_str (get (codes "do") d)) (edit_of_kind d) e h in
    kind_has known d kind.0 e kind.2

-- what each edit that is read has, all edits of a list have
edit_by : (q : Edit → Bool) (n : ℕ) (o : Option Edit) (r : Result (List Edit) JobFault) (es : List Edit) → ((e : Edit) → o ≡ Some e → q e ≡ true) → ((rest : List Edit) → r ≡ Ok rest → list_all q rest ≡ true) → with_numbered n o r ≡ Ok es → list_all q es ≡ true
edit_by q n None r es first later h = absurd (cc)
edit_by q n (Some e) (Ok rest) es first later h = let is : e ∷ rest ≡ es = cc in rw (← is) (and_from (q e) (list_all q rest) (first e refl) (later rest refl))
edit_by q n (Some e) (Err fault) es first later h = absurd (cc)

edits_have : (q : Edit → Bool) → ((d : Data) (e : Edit) → edit_said d ≡ Some e → q e ≡ true) → (n : ℕ) (ds : List Data) (es : List Edit) → read_in_turn edit_said n ds ≡ Ok es → list_all q es ≡ true
unfolding read_in_turn
edits_have q each n [] es h = let is : [] ≡ es = cc in rw (← is) refl
edits_have q each n (d ∷ ds) es h = edit_by q n (edit_said d) (read_in_turn edit_said (next_number n) ds) es (each d) (λ rest is. edits_have q each (next_number n) ds rest is) h

head_by : (q : Edit → Bool) → ((d : Data) (e : Edit) → edit_said d ≡ Some e → q e ≡ true) → (head : Head) (items : List Data) (r : Result (List Edit) JobFault) (list : EditList) → read_in_turn edit_said 1 items ≡ r → with_head head r ≡ Ok list → list_all q list.edits ≡ true
head_by q each head items (Ok edits) list is h =
    let same : record { enc_id = head.enc_id; edits = edits; documents = head.documents } ≡ list = cc in
    rw (← same) (edits_have q each 1 items edits is)
head_by q each head items (Err fault) list is h = absurd (cc)

items_by : (q : Edit → Bool) → ((d : Data) (e : Edit) → edit_said d ≡ Some e → q e ≡ true) → (head : Option Head) (items : Option (List Data)) (list : EditList) → with_items head items ≡ Ok list → list_all q list.edits ≡ true
items_by q each (Some head) (Some items) list h = head_by q each head items (read_in_turn edit_said 1 items) list refl h
items_by q each (Some head) None list h = absurd (cc)
items_by q each None (Some items) list h = absurd (cc)
items_by q each None None list h = absurd (cc)

value_by : (q : Edit → Bool) → ((d : Data) (e : Edit) → edit_said d ≡ Some e → q e ≡ true) → (o : Option Data) (list : EditList) → list_of_value o ≡ Ok list → list_all q list.edits ≡ true
unfolding list_said
value_by q each None list h = absurd (cc)
value_by q each (Some d) list h = items_by q each (head_said d) (option_and_then elements_of (get (codes "edits") d)) list h

pub said_have : (q : Edit → Bool) → ((d : Data) (e : Edit) → edit_said d ≡ Some e → q e ≡ true) → (text : List ℕ) (list : EditList) → edits_said text ≡ Ok list → list_all q list.edits ≡ true
unfolding edits_said
said_have q each text list h = value_by q each (json_value text) list h

pub said_fits : NamedAreFound → SaidFits
unfolding list_fits
said_fits known text list h = said_have edit_fits (edit_has known) text list h

ok_is : (o : Option Data) (d : Data) → ok_or o J1 ≡ Ok d → o ≡ Some d
ok_is None d h = absurd (cc)
ok_is (Some x) d h = cc

-- the list that is read of a value is the one that its text says
pub of_text : (text : List ℕ) (d : Data) → ok_or (json_value text) J1 ≡ Ok d → edits_said text ≡ list_said d
unfolding edits_said
of_text text d h = let e : json_value text ≡ Some d = ok_is (json_value text) d h in rw e refl

-- what is read is of the form
pub given_fits : SaidFits → (text : List ℕ) (r : Result EditList JobFault) → GivesList r (edits_said text) → IfOk r (λ l. list_fits l ≡ true)
given_fits law text (Ok list) h = law text list h
given_fits law text (Err fault) h = tt
