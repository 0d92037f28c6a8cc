-- The files that hold what a list states are accepted, and stand for it.
use Rattle.std.proofs.Common.{◌≡◌, ℕ, Bool, true, false, List, [], ◌∷◌, ◌++◌, Option, Some, None, refl, sym, ap, subst, ◌∙◌}
use Rattle.std.specs.Prelude.{Ok, slice_get}
use Rattle.std.specs.List.{list_any}
use Rattle.enc_base.specs.Token.{is_token, nth_row}
use Rattle.enc_base.specs.declared.token.Token.{Token}
use Rattle.enc_emit.specs.Written.{root_built}
use Rattle.enc_emit.proofs.Read.{counted_root_is_read}
use Rattle.enc_meta.specs.Built.{heaps_built}
use Rattle.enc_meta.specs.Root.{root_of}
use Rattle.enc_plain.specs.Chain.{Chain}
use Rattle.enc_rows.specs.Source.{Source}
use Rattle.enc_rows.specs.Written.{heap_bits, stream_of}
use Rattle.enc_plain.specs.Debug.{MethodDebug}
use Rattle.enc_schema.specs.Columns as columns
use Rattle.enc_base.specs.Tables as tables
use Rattle.enc_delta.specs.Delta.{delta_of, listed}
use Rattle.enc_agg.specs.Extend.{extended}
use Rattle.enc_edit_list.specs.declared.edit.Edit.{Edit}
use Rattle.enc_edit_list.specs.declared.edit.EditList.{EditList}
use Rattle.enc_rules.specs.Edited.{rows_edited}
use Rattle.enc_memory_module.proofs.Unbroken.{BreakNothing}
use Rattle.enc_ppdb.specs.Fault.{named_tokens}
use Rattle.enc_ppdb.specs.Points.{names_method}
use Rattle.enc_ppdb.specs.PdbChain.{debug_at}
use Rattle.enc_ppdb.specs.Written.{IsNilOverSeveral, document_told}
use Rattle.enc_pdb_writer.specs.Stated.{edit_giving}
use Rattle.enc_pdb_writer.specs.Written.{gives_points, method_named, SaysEdits}
use Rattle.enc_pdb_writer.proofs.Lists.{some_by_one}
use Rattle.enc_pdb_writer.proofs.Told.{names_itself}
use Rattle.enc_checker.proofs.AcceptedFiles.{accepted_files}
use Rattle.enc_list_delta.specs.Delta.{is_edited, map_written}
use Rattle.enc_list_delta.specs.Holds.{MayFollow, SaysDelta, heaps_written}
use Rattle.enc_list_delta.proofs.LogRulesSets.{map_lists, map_only}
use Rattle.enc_list_delta.proofs.ModuleRules.{guid_is}
use Rattle.enc_list_delta.proofs.Tokens.{listed_is}
use Rattle.enc_list_delta.proofs.TokensUnbroken.{nothing_breaks}
use Rattle.enc_list_delta.specs.Laws.{DeltasAreRead, DeltasFollow, DeltasMean, metadata_written}
use Rattle.enc_writer.specs.Files.{FilesStand}
use Rattle.enc_writer.specs.Stands.{HasDeltaForm}
use Rattle.enc_writer.specs.Writing.{IsMetadata}
use Rattle.enc_writer.specs.PdbFollows.{PdbsFollow, PdbsOfListsMean}

-- the rows that are listed
lists_so : (c : Chain) (l : EditList) (s : Source) → MayFollow c l → SaysDelta c l s → (u : Token) → list_any (λ t. is_token t u) (listed s) ≡ list_any (λ t. is_token t u) (rows_edited c.plain l.edits)
unfolding is_edited
lists_so c l s may says u = by (list_any (λ t. is_token t u) (rows_edited c.plain l.edits)) (list_any (λ t. is_token t u) (map_written c l.edits)) refl refl
  where
    none : BreakNothing c l
    none = nothing_breaks c l may

    by : (about any : Bool) → list_any (λ t. is_token t u) (rows_edited c.plain l.edits) ≡ about → list_any (λ t. is_token t u) (map_written c l.edits) ≡ any
        → list_any (λ t. is_token t u) (listed s) ≡ list_any (λ t. is_token t u) (rows_edited c.plain l.edits)
    by true any e f = ap (λ ts. list_any (λ t. is_token t u) ts) (listed_is c l s may says) ∙ map_lists c l u none e ∙ sym e
    by false true e f = absurd (let g : is_edited c.plain l.edits u ≡ true = map_only c l u f in let h : true ≡ false = sym g ∙ e in cc)
    by false false e f = ap (λ ts. list_any (λ t. is_token t u) ts) (listed_is c l s may says) ∙ f ∙ sym e

-- the EncIds of the chain with the delta
ids_so : (c : Chain) (l : EditList) (s : Source) → SaysDelta c l s → (extended c s).ids ≡ c.ids ++ l.enc_id ∷ []
unfolding extended
ids_so c l s says = ap (λ g. c.ids ++ g ∷ []) (guid_is c l s columns.module_enc_id l.enc_id says says.single.enc_id)

some_given : (o : Option Edit) → gives_points o ≡ true → (e : Edit) × (o ≡ Some e)
some_given None gives = absurd cc
some_given (Some e) gives = (e, refl)

-- each row of the PDB is of an edit with points
row_of_edit : (l : EditList) (methods : List Token) (bytes : List ℕ) (p : SaysEdits l methods bytes) (k : ℕ) (t : Token) → slice_get (named_tokens p.source) k ≡ Some t
    → (e : Edit) × (edit_giving methods l.edits (method_named t) ≡ Some e)
row_of_edit l methods bytes p k t at = some_given (edit_giving methods l.edits (method_named t)) (sym (p.named (method_named t)) ∙ some_by_one (names_method (method_named t)) (named_tokens p.source) k t at (names_itself t))

several_so : (l : EditList) (methods : List Token) (bytes : List ℕ) (p : SaysEdits l methods bytes) (k : ℕ) (t : Token) → slice_get (named_tokens p.source) k ≡ Some t
    → IsNilOverSeveral (debug_at (Some (p.source, nth_row tables.method_debug_information k))).points (document_told p.source k)
several_so l methods bytes p k t at =
    let e = row_of_edit l methods bytes p k t at in
    subst (λ (d : MethodDebug). IsNilOverSeveral d.points (document_told p.source k)) (sym (p.says k t e.0 at e.1)) (p.several k t e.0 at e.1)

-- the metadata has the form of a delta
form_so : (c : Chain) (l : EditList) (il bytes : List ℕ) → IsMetadata c l il bytes → HasDeltaForm bytes
unfolding metadata_written root_built
form_so c l il bytes is =
    let stream = stream_of is.rows true (heap_bits is.rows) in
    let r = counted_root_is_read true true stream (heaps_built (heaps_written c l)) is.size in
    (r.0, (ap root_of is.root ∙ r.1, (r.2.form, r.2.wide)))

pub files_stand : DeltasAreRead → DeltasFollow → DeltasMean → PdbsFollow → PdbsOfListsMean → FilesStand
files_stand are_read follow mean placed debug c l d may within files =
    let r = are_read c l d.il files.meta.rows may files.meta.held files.meta.size in
    let read : delta_of d.meta d.il ≡ Ok r.0 = ap (λ bytes. delta_of bytes d.il) files.meta.root ∙ r.1 in
    let follows = follow c l r.0 may r.2 in
    record {
      rules = may.rules;
      stands = record {
        source = r.0;
        symbols = files.points.source;
        stands = accepted_files c (delta_of d.meta d.il) r.0 files.points.source d.pdb read follows files.points.read (placed c l r.0 d.pdb may r.2 files.points within);
        means = mean c l r.0 may r.2;
        debug = λ before method. debug c l r.0 d.pdb may r.2 files.points before method;
        enc_id = ids_so c l r.0 r.2;
        lists = lists_so c l r.0 may r.2;
        several = several_so l (rows_edited c.plain l.edits) d.pdb files.points;
      };
      form = form_so c l d.il d.meta files.meta;
      read = read;
      says = r.2;
      points = files.points;
    }
