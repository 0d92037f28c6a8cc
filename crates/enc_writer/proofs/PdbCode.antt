-- The code that a delta has of a method whose body an edit gives: that of the edit.
use Rattle.std.proofs.Common.{◌≡◌, ℕ, ◌+◌, true, List, length, Option, Some, None, refl, sym, ap, subst, ◌∙◌}
use Rattle.std.specs.Prelude.{option_map, unwrap_or, is_some, slice_get}
use Rattle.enc_base.specs.Token.{nth_row}
use Rattle.enc_base.specs.declared.token.Token.{Token}
use Rattle.enc_meta.specs.BuiltLaws.{heaps_joined}
use Rattle.enc_meta.specs.Joined.{joined_user}
use Rattle.enc_meta.specs.Regions.{Region}
use Rattle.enc_opcodes.specs.Body.{Code, Body, body_of}
use Rattle.enc_plain.specs.Bodies.{code_loaded, body_loaded}
use Rattle.enc_plain.specs.Cell.{body}
use Rattle.enc_plain.specs.Chain.{Chain}
use Rattle.enc_rows.specs.Source.{Source, raw_in}
use Rattle.enc_delta.specs.Delta.{loaded_code, listed, place_in}
use Rattle.enc_delta.specs.Rows.{own_row}
use Rattle.enc_edit_list.specs.declared.body.BodyValue.{BodyValue}
use Rattle.enc_edit_list.specs.declared.edit.Edit.{Edit}
use Rattle.enc_edit_list.specs.declared.edit.EditList.{EditList}
use Rattle.enc_edit_list.specs.Sizes.{length_of_code}
use Rattle.enc_rules.specs.Edited.{body_stated, rows_edited}
use Rattle.enc_rules.specs.Listed.{body_given}
use Rattle.enc_pdb_writer.specs.Laws.{size_given}
use Rattle.enc_checker.specs.Check.{new_code, code_size}
use Rattle.enc_list_delta.specs.Delta.{is_edited, tokens_written, cells_written}
use Rattle.enc_list_delta.specs.Holds.{MayFollow, SaysDelta, heaps_written}
use Rattle.enc_list_delta.proofs.BodyRules.{IsMethod, BodyCase, has, lacks, body_case}
use Rattle.enc_list_delta.proofs.Placed.{placed}
use Rattle.enc_list_delta.proofs.TokensAbout.{edit_about}
use Rattle.enc_writer.proofs.BodiesPlaced.{first_cell}

-- a method that edits are about is one that the delta lists
pub edited_method : (c : Chain) (l : EditList) (s : Source) (u : Token) → MayFollow c l → SaysDelta c l s → is_edited c.plain l.edits u ≡ true → u.table ≡ 6 → (n : ℕ) × IsMethod c l s n u
edited_method c l s u may says about table =
    let w = (placed c l s may says).there u about in
    (w.0, record { table = table; about = about; there = subst (λ t. slice_get (tokens_written c l.edits t) w.0 ≡ Some u) table w.1; placed = w.2 })

-- its code stands where its row says
own_is : (s : Source) (n : ℕ) (u : Token) → u.table ≡ 6 → place_in (listed s) u ≡ Some (n + 1) → own_row s u ≡ nth_row 6 n
own_is s n u table at = ap (λ (o : Option ℕ). record { table = u.table; row = unwrap_or o 0 }) at ∙ ap (λ t. record { table = t; row = n + 1 }) table

code_is : (c : Chain) (l : EditList) (s : Source) (n : ℕ) (u : Token) → (says : SaysDelta c l s) → IsMethod c l s n u → new_code s u ≡ code_loaded (loaded_code says.code.0) (raw_in s (nth_row 6 n) 0)
code_is c l s n u says is =
    ap (λ (r : Token). code_loaded s.loaded (raw_in s r 0)) (own_is s n u is.table is.placed)
    ∙ ap (λ (regions : List Region). code_loaded regions (raw_in s (nth_row 6 n) 0)) says.code.1

-- the code is that of a body that is given, and there is none without one
abbrev pub IsCodeOf : Option BodyValue → Option Code → Type 0
IsCodeOf None code = code ≡ None
IsCodeOf (Some b) code = (k : Code) × (code ≡ Some k) × (length k.code ≡ length_of_code b.code)

none_at : (regions : List Region) → code_loaded regions 0 ≡ None
unfolding code_loaded
none_at regions = refl

code_means : (regions : List Region) (users : ℕ → Option (List ℕ)) (rva : ℕ) (b : BodyValue) → body_loaded regions users rva ≡ Some (body_stated b) → IsCodeOf (Some b) (code_loaded regions rva)
unfolding body_loaded body_of body_stated
code_means regions users rva b meant = by (code_loaded regions rva) meant
  where
    by : (o : Option Code) → option_map (body_of users) o ≡ Some (body_stated b) → IsCodeOf (Some b) o
    by None is = absurd cc
    by (Some k) is = let same : body_of users k ≡ body_stated b = cc in (k, refl, ap (λ (x : Body). x.size) same)

-- a method's cell is its body
body_same : (o : Option BodyValue) (b : Body) → Some (body (Some b)) ≡ Some (body (option_map body_stated o)) → (v : BodyValue) × (o ≡ Some v) × (b ≡ body_stated v)
body_same None b is = absurd cc
body_same (Some v) b is = (v, refl, cc)

-- the delta has the code of the edit that is about a method
pub code_of_edit : (c : Chain) (l : EditList) (s : Source) (k : ℕ) (e : Edit) (u : Token) → MayFollow c l → SaysDelta c l s → slice_get l.edits k ≡ Some e → slice_get (rows_edited c.plain l.edits) k ≡ Some u → u.table ≡ 6
    → IsCodeOf (body_given e) (new_code s u)
code_of_edit c l s k e u may says there row table =
    let is = edited_method c l s u may says (edit_about c.plain l.edits k u row) table in
    subst (IsCodeOf (body_given e)) (sym (code_is c l s is.0 u says is.1)) (by is.0 (body_given e) (first_cell c l k e u may there row table) (body_case c l s is.0 u says is.1))
  where
    by : (n : ℕ) (o : Option BodyValue) → slice_get (cells_written c.plain l.edits u) 0 ≡ Some (body (option_map body_stated o)) → BodyCase c l s n u says → IsCodeOf o (code_loaded (loaded_code says.code.0) (raw_in s (nth_row 6 n) 0))
    by n None cell (lacks zero_ never) = ap (code_loaded (loaded_code says.code.0)) zero_ ∙ none_at (loaded_code says.code.0)
    by n (Some v) cell (lacks zero_ never) = absurd (never (body_stated v) cell)
    by n o cell (has b here stands) =
        let w = body_same o b (sym here ∙ cell) in
        subst (λ (o : Option BodyValue). IsCodeOf o (code_loaded (loaded_code says.code.0) (raw_in s (nth_row 6 n) 0))) (sym w.1)
        (code_means (loaded_code says.code.0) (joined_user (heaps_joined c.heaps (heaps_written c l))) (raw_in s (nth_row 6 n) 0) w.0 (stands.meant ∙ ap (λ (x : Body). Some x) w.2))

-- so its size is that of the edit's code, and it is there where the edit gives one
pub size_is : (o : Option BodyValue) (code : Option Code) → IsCodeOf o code → code_size code ≡ size_given o
size_is None code is = ap code_size is
size_is (Some b) code is = ap code_size is.1 ∙ is.2

pub is_there : (o : Option BodyValue) (code : Option Code) → IsCodeOf o code → is_some code ≡ is_some o
is_there None code is = ap is_some is
is_there (Some b) code is = ap is_some is.1
