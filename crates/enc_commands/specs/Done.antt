-- What a command may print and save: its answer, or why it does nothing.
use Rattle.std.specs.Prelude.{◌≡◌, ℕ, List, [], ◌∷◌, ◌++◌, drop, length, Some, Ok, Err, if◌then◌else◌}
use Rattle.enc_base.specs.declared.token.Token.{Token}
use Rattle.enc_plain.specs.declared.place.RowPlace.{RowPlace}
use Rattle.enc_plain.specs.Module.{Module, has_row}
use Rattle.enc_plain.specs.Debug.{PlainPdb}
use Rattle.enc_plain.specs.Sound.{row_count}
use Rattle.enc_base.specs.Tables as tables
use Rattle.enc_agg.specs.Extend.{chain_with}
use Rattle.enc_agg.specs.Place.{place_of}
use Rattle.enc_ppdb.specs.Pdb.{entry_told}
use Rattle.enc_ppdb.specs.PdbChain.{pdb_with}
use Rattle.enc_ppdb.specs.Written.{MeansPdb}
use Rattle.enc_compact.specs.Moved.{module_moved, pdb_moved, moves_listed}
use Rattle.enc_rewriter.specs.Rewritten.{MeansModule, IsPlainImage}
use Rattle.enc_merge.specs.Merges.{StandsForBoth}
use Rattle.enc_rows.specs.Source.{Source}
use Rattle.enc_script.specs.Run.{IsRunText}
use Rattle.enc_emit.specs.declared.delta_bytes.DeltaBytes.{DeltaBytes}
use Rattle.enc_writer.specs.Stands.{StandsFor}
use Rattle.enc_text.specs.Text.{refused_line}
use Rattle.enc_text.specs.RowText.{row_text_of}
use Rattle.enc_commands.specs.declared.plan.Outcome.{Outcome}
use Rattle.enc_commands.specs.declared.plan.Outcome.TheVariants.{Accepted, Refused, Usage, Missing}
use Rattle.enc_command_line.specs.Lines.{limit_line, missing_line, absent_line, accepted_line, saved_line, moved_lines, unlisted_line, broken_line, deep_line, usage_line}
use Rattle.enc_command_line.specs.Listing.{listing_of}
use Rattle.enc_generator.specs.Generated.{generated_base, generated_lists, edited_by}
use Rattle.enc_command_line.specs.Case.{case_line}
use Rattle.enc_commands.specs.Generating.{AreFilesOfCase}
use Rattle.enc_commands.specs.Verdict.{Stop, no_command, absent_file, refused_file, past_limit, no_list, broken_list, deep_chain, dll, meta, il, pdb, Followed, plain_of, debug_after, Edited, Done, shows, lists, counts, applies, compacts, merges, writes, runs, generates, Verdict}

-- the token's row, or that the module lacks it
unfoldable pub row_or_absent : Module → PlainPdb → RowPlace → Token → List ℕ
row_or_absent m debug place token = if has_row m token then row_text_of m debug place token else absent_line token

unfoldable pub shown : Token → Followed → List ℕ
shown token f = row_or_absent (chain_with f.base f.deltas).plain (pdb_with f.debug f.debugs)
    (place_of f.deltas token) token

unfoldable pub listed_as : Followed → List ℕ
listed_as f = listing_of f.base f.deltas

-- how many deltas are accepted: all
unfoldable pub counted_as : Followed → List ℕ
counted_as f = accepted_line (length f.deltas)

-- what may be printed of what is done
abbrev pub IsOutput : Done → List ℕ → Type 0
IsOutput (shows token f) output = output ≡ shown token f
IsOutput (lists f) output = output ≡ listed_as f
IsOutput (counts f) output = output ≡ counted_as f
IsOutput (applies out f) output = output ≡ saved_line (dll out ∷ pdb out ∷ [])
IsOutput (compacts out f) output =
    output ≡ saved_line (dll out ∷ pdb out ∷ []) ++ moved_lines (moves_listed (plain_of f))
IsOutput (merges out f) output = output ≡ saved_line (meta out ∷ il out ∷ pdb out ∷ [])
IsOutput (writes out e) output = output ≡ saved_line (meta out ∷ il out ∷ pdb out ∷ [])
IsOutput (runs handed f deltas script) output = IsRunText deltas handed f script output
IsOutput (generates start count out) output =
    output ≡ case_line start.digits count.digits (edited_by generated_base (generated_lists start.value count.value))

-- the files that say a module and its plain PDB: bytes that mean the one, and bytes that mean the other and tell the
-- module's entry point
pub record AreFilesOf (out : List ℕ) (m : Module) (debug : PlainPdb) (saves : List (List ℕ × List ℕ)) : Type 0 where
  pub image : List ℕ
  pub symbols : List ℕ
  pub saved : saves ≡ (dll out, image) ∷ (pdb out, symbols) ∷ []
  pub module_is : MeansModule m image
  pub debug_is : MeansPdb debug (row_count m tables.method_def) symbols
  pub entry_is : entry_told symbols ≡ Some m.entry

-- the same in the order of an ordinary module, whose table stream is `#~` and which has no rows in Ptr tables
pub record AreFilesOfOrdinary (out : List ℕ) (m : Module) (debug : PlainPdb)
    (saves : List (List ℕ × List ℕ)) : Type 0 where
  pub files : AreFilesOf out (module_moved m) (pdb_moved m debug) saves
  pub plain : IsPlainImage files.image

-- the files of a delta that stand for an edit list after a base with its deltas: they are accepted, and make the edits
pub record AreFilesOfList (out : List ℕ) (e : Edited) (saves : List (List ℕ × List ℕ)) : Type 0 where
  pub files : DeltaBytes
  pub saved : saves ≡ (meta out, files.meta) ∷ (il out, files.il) ∷ (pdb out, files.pdb) ∷ []
  pub stand : StandsFor (chain_with e.followed.base e.followed.deltas) e.list files

-- the files of one delta that stands for the last two of those that follow a base: it is accepted after the others, and
-- with it they make the same module and plain PDB
pub record AreFilesOfMerged (out : List ℕ) (f : Followed) (saves : List (List ℕ × List ℕ)) : Type 0 where
  pub files : DeltaBytes
  pub saved : saves ≡ (meta out, files.meta) ∷ (il out, files.il) ∷ (pdb out, files.pdb) ∷ []
  pub second : Source
  pub first : Source
  pub older : List Source
  pub deltas : f.deltas ≡ second ∷ first ∷ older
  pub stand : StandsForBoth (chain_with f.base older) first second (pdb_with f.debug (drop 2 f.debugs))
      (debug_after f) files

-- what may be saved of it, in order, each a name and its bytes: `apply`, `compact`, `merge`, `write` and `gen` alone
-- save
abbrev pub IsSaves : Done → List (List ℕ × List ℕ) → Type 0
IsSaves (applies out f) saves = AreFilesOf out (plain_of f) (debug_after f) saves
IsSaves (compacts out f) saves = AreFilesOfOrdinary out (plain_of f) (debug_after f) saves
IsSaves (merges out f) saves = AreFilesOfMerged out f saves
IsSaves (writes out e) saves = AreFilesOfList out e saves
IsSaves (generates start count out) saves = AreFilesOfCase out (generated_lists start.value count.value) saves
IsSaves done saves = saves ≡ []

-- the line of a stop
abbrev pub stop_line : Stop → List ℕ
stop_line no_command = usage_line
stop_line (absent_file name) = missing_line name
stop_line (refused_file name e) = refused_line name e
stop_line (past_limit name l) = limit_line name l
stop_line (no_list name fault) = unlisted_line name fault
stop_line (broken_list name rule edit) = broken_line name rule edit
stop_line (deep_chain name token) = deep_line name token

-- what may be printed of a verdict: an output of what is done, or the line of the stop
abbrev pub IsAnswer : Verdict → List ℕ → Type 0
IsAnswer (Ok done) output = IsOutput done output
IsAnswer (Err stop) output = output ≡ stop_line stop

-- what may be saved of it; a stop saves nothing
abbrev pub AreSaves : Verdict → List (List ℕ × List ℕ) → Type 0
AreSaves (Ok done) saves = IsSaves done saves
AreSaves (Err stop) saves = saves ≡ []

abbrev pub outcome_of_stop : Stop → Outcome
outcome_of_stop no_command = Usage
outcome_of_stop (absent_file name) = Missing
outcome_of_stop (refused_file name e) = Refused
outcome_of_stop (past_limit name l) = Refused
outcome_of_stop (no_list name fault) = Refused
outcome_of_stop (broken_list name rule edit) = Refused
outcome_of_stop (deep_chain name token) = Refused

abbrev pub outcome_of : Verdict → Outcome
outcome_of (Ok done) = Accepted
outcome_of (Err stop) = outcome_of_stop stop
