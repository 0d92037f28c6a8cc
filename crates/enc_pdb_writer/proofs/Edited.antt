-- With the PDB of a delta that says an edit list the plain PDB is that of the edits made directly.
use Rattle.std.proofs.Common.{◌≡◌, ℕ, Bool, true, false, List, Option, Some, None, refl, sym, ap, ◌∙◌}
use Rattle.std.specs.Prelude.{position, is_some, option_map, if◌then◌else◌}
use Rattle.std.specs.List.{list_any}
use Rattle.enc_base.specs.Token.{nth_row, is_token}
use Rattle.enc_base.specs.declared.token.Token.{Token}
use Rattle.enc_rows.specs.Source.{Source}
use Rattle.enc_base.specs.Tables as tables
use Rattle.enc_plain.specs.Debug.{MethodDebug, unknown}
use Rattle.enc_edit_list.specs.declared.edit.Edit.{Edit}
use Rattle.enc_edit_list.specs.declared.edit.EditList.{EditList}
use Rattle.enc_edit_list.specs.declared.edit.DocumentValue.{DocumentValue}
use Rattle.enc_rules.specs.Rules.{has_points}
use Rattle.enc_ppdb.specs.Fault.{named_tokens}
use Rattle.enc_ppdb.specs.PdbChain.{row_in_file, debug_at, debug_or, pdb_changed, has_changed}
use Rattle.enc_ppdb.specs.Points.{names_method, row_for}
use Rattle.enc_ppdb.proofs.Positions.{position_any}
use Rattle.enc_pdb_writer.specs.Laws.{PdbsAreEdited}
use Rattle.enc_pdb_writer.specs.Stated.{debug_stated, edit_giving, debug_or_kept, pdb_edited}
use Rattle.enc_pdb_writer.specs.Written.{SaysEdits, gives_points}
use Rattle.enc_pdb_writer.proofs.Lists.{first_passes}
use Rattle.enc_pdb_writer.proofs.Told.{named_is}

-- an edit without points says nothing
stated_none : (documents : List DocumentValue) (e : Edit) → has_points e ≡ false → debug_stated documents e ≡ unknown
unfolding debug_stated
stated_none documents e none = rw none refl

-- a method of which the PDB has no row: no edit gives it a body, or one without points
without_row : (documents : List DocumentValue) (o : Option Edit) (before : MethodDebug) → gives_points o ≡ false → (if is_some o then unknown else before) ≡ debug_or_kept documents o before
without_row documents None before none = refl
without_row documents (Some e) before none = sym (stated_none documents e none)

-- one of which it has: an edit gives it a body with points
with_row : (l : EditList) (o : Option Edit) (known before : MethodDebug) → gives_points o ≡ true → ((e : Edit) → o ≡ Some e → known ≡ debug_stated l.documents e) → known ≡ debug_or_kept l.documents o before
with_row l None known before some says = absurd cc
with_row l (Some e) known before some says = says e refl

-- what a delta says of a method, by its place in EncMap
said_at : Source → MethodDebug → Option ℕ → MethodDebug
unfolding debug_at
said_at s before None = before
said_at s before (Some k) = debug_at (Some (s, nth_row tables.method_debug_information k))

said_is : (s : Source) (o : Option ℕ) (before : MethodDebug) → debug_or (row_in_file s (option_map (nth_row tables.method_debug_information) o)) before ≡ said_at s before o
unfolding said_at
said_is s None before = refl
said_is s (Some k) before = refl

by_place : (l : EditList) (methods : List Token) (bytes : List ℕ) (says : SaysEdits l methods bytes) (method : Token) (before : MethodDebug) (changed : Bool) (o : Option ℕ) → position (names_method method) (named_tokens says.source) ≡ o
    → changed ≡ is_some (edit_giving methods l.edits method) → said_at says.source (if changed then unknown else before) o ≡ debug_or_kept l.documents (edit_giving methods l.edits method) before
unfolding said_at
by_place l methods bytes says method before changed None e is =
    let none : gives_points (edit_giving methods l.edits method) ≡ false = sym (says.named method) ∙ sym (position_any (names_method method) (named_tokens says.source)) ∙ ap is_some e in
    ap (λ (b : Bool). if b then unknown else before) is ∙ without_row l.documents (edit_giving methods l.edits method) before none
by_place l methods bytes says method before changed (Some k) e is =
    let some : gives_points (edit_giving methods l.edits method) ≡ true = sym (says.named method) ∙ sym (position_any (names_method method) (named_tokens says.source)) ∙ ap is_some e in
    let at = first_passes (names_method method) (named_tokens says.source) k e in
    with_row l (edit_giving methods l.edits method) (debug_at (Some (says.source, nth_row tables.method_debug_information k))) before some
    (λ d given. says.says k (at.element) d (at.here) (ap (edit_giving methods l.edits) (named_is method (at.element) (at.passes)) ∙ given))

pub pdbs_are_edited : PdbsAreEdited
unfolding pdb_changed pdb_edited row_for
pdbs_are_edited l methods changed bytes says before method is =
    let o = position (names_method method) (named_tokens says.source) in
    said_is says.source o (has_changed changed method (before method))
    ∙ by_place l methods bytes says method (before method) (list_any (is_token method) changed) o refl is
