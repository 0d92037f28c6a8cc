-- What a command comes to over the files that are told: nothing here knows how the program works.
use Rattle.std.specs.Prelude.{ℕ, ◌+◌, Bool, true, false, List, [], ◌∷◌, ◌++◌, length, map, Option, Some, None, Result, Ok, Err, nat_lt, bytes_eq, if◌then◌else◌, codes}
use Rattle.std.specs.List.{list_any}
use Rattle.std.specs.FinMap.{get}
use Rattle.enc_outside.specs.Outside.{Files}
use Rattle.enc_base.specs.declared.token.Token.{Token}
use Rattle.enc_base.specs.declared.refusal.Refusal.{Refusal}
use Rattle.enc_rows.specs.Source.{Source}
use Rattle.enc_base.specs.Tables as tables
use Rattle.enc_base.specs.declared.refusal.StreamName.TheVariants as stream
use Rattle.enc_plain.specs.Module.{rows_in}
use Rattle.enc_rewriter.specs.Limits.{Passed, too_large, too_heavy, rewrite_limit}
use Rattle.enc_image.specs.Base.{base_of, chain_of_base}
use Rattle.enc_delta.specs.Delta.{delta_of}
use Rattle.enc_ppdb.specs.Fault.{pdb_of}
use Rattle.enc_checker.specs.Check.{judged}
pub use Rattle.enc_saves.specs.Names.{dll, meta, il, pdb}
pub use Rattle.enc_checker.specs.Followed.{Followed, followed_by, plain_of, debug_after, is_of_pdb}
use Rattle.enc_agg.specs.Extend.{chain_with}
use Rattle.enc_edit_list.specs.declared.edit.EditList.{EditList}
use Rattle.enc_jobs.specs.declared.fault.JobFault.{JobFault}
use Rattle.enc_jobs.specs.Edits.{edits_said}
use Rattle.enc_jobs.specs.Scripts.{script_said}
use Rattle.enc_jobs.specs.declared.command.Command.{Command}
use Rattle.enc_compact.specs.Moved.{module_moved, pdb_moved}
use Rattle.enc_jobs.specs.declared.command.Command.TheVariants.{Apply}
use Rattle.enc_reference_depth.specs.Depth.{first_deep}
use Rattle.enc_merge.specs.Merges.{weight_of_both}
use Rattle.enc_plain.specs.Debug.{PlainPdb}
use Rattle.enc_ppdb.specs.Written.{most_pdb_weight}
use Rattle.enc_watch.specs.Audience.{Watching}
use Rattle.enc_script.specs.Run.{NamedFiles}
use Rattle.enc_rules.specs.First.{first_edit}
use Rattle.enc_command_line.specs.declared.limits.Limit.{Limit}
use Rattle.enc_command_line.specs.declared.limits.Limit.TheVariants as limit
use Rattle.enc_command_line.specs.Words.{Numeral, Job, show, list, check, apply, compact, merge, write, run, gen, job_of}

-- why a command does nothing: the words are none; a file that must be there is absent; a file is refused, by a rule or
-- by its length, or as an edit list or a script: it isn't one, or one of its edits breaks a rule; or the last delta
-- isn't merged with the one before it, as a reference lies too deep in others
pub data Stop : Type 0 where
  no_command : Stop
  absent_file : List ℕ → Stop
  refused_file : List ℕ → Refusal → Stop
  past_limit : List ℕ → Limit → Stop
  no_list : List ℕ → JobFault → Stop
  broken_list : List ℕ → ℕ → ℕ → Stop
  deep_chain : List ℕ → Token → Stop

-- one thing after the other, up to the first stop
infixl 10 ◌>>=◌
abbrev pub ◌>>=◌ : {A B : Type 0} → Result A Stop → (A → Result B Stop) → Result B Stop
(Ok a) >>= f = f a
(Err s) >>= f = Err s

-- the most bytes of a file, and of all files that are loaded
abbrev pub file_limit : ℕ
file_limit = 67108864

abbrev pub total_limit : ℕ
total_limit = 536870912

-- a file is not too long, with those loaded before it, which had so many bytes
unfoldable pub kept_whole : List ℕ → ℕ → List ℕ → Result (List ℕ) Stop
kept_whole name before bytes =
    if nat_lt file_limit (length bytes) then Err (past_limit name limit.Length)
    else if nat_lt total_limit (before + length bytes) then Err (past_limit name limit.Total)
    else Ok bytes

-- and it is there
abbrev pub taken : List ℕ → ℕ → Option (List ℕ) → Result (List ℕ) Stop
taken name before None = Err (absent_file name)
taken name before (Some bytes) = kept_whole name before bytes

unfoldable pub load_one : Files → List ℕ → ℕ → Result (List ℕ) Stop
load_one files name before = taken name before (get files name)

-- a file that may be absent
abbrev pub kept_if_there : List ℕ → ℕ → Option (List ℕ) → Result (Option (List ℕ)) Stop
kept_if_there name before None = Ok None
kept_if_there name before (Some bytes) = do
  b ← kept_whole name before bytes
  Ok (Some b)

unfoldable pub load_optional : Files → List ℕ → ℕ → Result (Option (List ℕ)) Stop
load_optional files name before = kept_if_there name before (get files name)

-- how many bytes it has
abbrev pub optional_size : Option (List ℕ) → ℕ
optional_size None = 0
optional_size (Some bytes) = length bytes

-- the files of a base
pub record BaseFiles : Type 0 where
  pub bytes : List ℕ
  pub debug : Option (List ℕ)

unfoldable pub load_base : Files → List ℕ → ℕ → Result BaseFiles Stop
load_base files base before = do
  bytes ← load_one files (dll base) before
  debug ← load_optional files (pdb base) (before + length bytes)
  Ok (record { bytes = bytes; debug = debug })

-- how many bytes they have
abbrev pub base_size : BaseFiles → ℕ
base_size f = length f.bytes + optional_size f.debug

-- the files of a delta, with the names of its metadata's and its PDB's
pub record DeltaFiles : Type 0 where
  pub name : List ℕ
  pub debug_name : List ℕ
  pub metadata : List ℕ
  pub code : List ℕ
  pub debug : Option (List ℕ)

unfoldable pub load_delta : Files → List ℕ → ℕ → Result DeltaFiles Stop
load_delta files delta before = do
  metadata ← load_one files (meta delta) before
  code ← load_one files (il delta) (before + length metadata)
  debug ← load_optional files (pdb delta) (before + length metadata + length code)
  Ok (record { name = meta delta; debug_name = pdb delta; metadata = metadata; code = code; debug = debug })

-- how many bytes they have
abbrev pub files_size : DeltaFiles → ℕ
files_size f = length f.metadata + length f.code + optional_size f.debug

-- all files are loaded before one is judged
unfoldable pub load_deltas : Files → List (List ℕ) → ℕ → Result (List DeltaFiles) Stop
load_deltas files [] before = Ok []
load_deltas files (delta ∷ deltas) before = do
  f ← load_delta files delta before
  fs ← load_deltas files deltas (before + files_size f)
  Ok (f ∷ fs)

-- a refusal, of the file with this name
abbrev pub in_file : {A : Type 0} → List ℕ → Result A Refusal → Result A Stop
in_file name (Ok a) = Ok a
in_file name (Err e) = Err (refused_file name e)

-- the file of a delta that is refused: its PDB, or its metadata
abbrev pub refused_name : List ℕ → List ℕ → Refusal → List ℕ
refused_name name debug_name e = if is_of_pdb e.code then debug_name else name

abbrev pub in_delta : {A : Type 0} → DeltaFiles → Result A Refusal → Result A Stop
in_delta f (Ok a) = Ok a
in_delta f (Err e) = Err (refused_file (refused_name f.name f.debug_name e) e)

-- the deltas judged in order, each after those before it
unfoldable pub judge_deltas : Followed → List DeltaFiles → Result Followed Stop
judge_deltas f [] = Ok f
judge_deltas f (x ∷ xs) = do
  a ← in_delta x (judged (chain_with f.base f.deltas) (delta_of x.metadata x.code) x.debug)
  judge_deltas (followed_by f a) xs

-- the PDB of a base, read with as many methods as the base has; it may be absent
abbrev pub there : Result Source Refusal → Result (Option Source) Refusal
there (Ok p) = Ok (Some p)
there (Err e) = Err e

unfoldable pub base_pdb : Source → Option (List ℕ) → Result (Option Source) Refusal
base_pdb b None = Ok None
base_pdb b (Some bytes) = there (pdb_of bytes (length (rows_in (chain_of_base b).plain tables.method_def)))

unfoldable pub judge_all : List ℕ → BaseFiles → List DeltaFiles → Result Followed Stop
judge_all base f fs = do
  b ← in_file (dll base) (base_of f.bytes)
  p ← in_file (pdb base) (base_pdb b f.debug)
  judge_deltas (record { base = b; deltas = []; debug = p; debugs = [] }) fs

-- a base alone
unfoldable pub judge_base : List ℕ → BaseFiles → Result Followed Stop
judge_base base f = do
  b ← in_file (dll base) (base_of f.bytes)
  p ← in_file (pdb base) (base_pdb b f.debug)
  Ok (record { base = b; deltas = []; debug = p; debugs = [] })

-- the files loaded, the base first, and then judged, the base first
unfoldable pub accept : Files → List ℕ → List (List ℕ) → Result Followed Stop
accept files base deltas = do
  f ← load_base files base 0
  fs ← load_deltas files deltas (base_size f)
  judge_all base f fs

-- the limit that is passed, as it is told
abbrev pub limit_told : Passed → Limit
limit_told (too_large heap) = limit.Heap heap
limit_told too_heavy = limit.Image

-- the file that would pass it: the PDB, or the module
abbrev pub file_past : List ℕ → Limit → List ℕ
file_past out (limit.Heap stream.Pdb) = pdb out
file_past out l = dll out

-- what is written passes no limit
abbrev pub unless_past : List ℕ → Followed → Option Passed → Result Followed Stop
unless_past out f None = Ok f
unless_past out f (Some passed) = Err (past_limit (file_past out (limit_told passed)) (limit_told passed))

unfoldable pub can_be_written : List ℕ → Followed → Result Followed Stop
can_be_written out f = unless_past out f (rewrite_limit (plain_of f) (debug_after f))

-- the same of the module whose rows have the order of an ordinary one, and of its PDB
unfoldable pub can_be_compacted : List ℕ → Followed → Result Followed Stop
can_be_compacted out f = unless_past out f
    (rewrite_limit (module_moved (plain_of f)) (pdb_moved (plain_of f) (debug_after f)))

-- what a plain PDB weighs that has what is known of the methods of the last two deltas
abbrev pub weight_by : Source → List Source → PlainPdb → ℕ
weight_by base (b ∷ a ∷ older) p = weight_of_both (chain_with base older) a b p
weight_by base deltas p = 0

unfoldable pub weight_of_last : Followed → ℕ
weight_of_last f = weight_by f.base f.deltas (debug_after f)

-- the PDB of one delta in the place of the last two isn't too long, and in the module no reference lies too deep in
-- others
abbrev pub unless_heavy : List ℕ → Followed → Bool → Result Followed Stop
unless_heavy out f false = Ok f
unless_heavy out f true = Err (past_limit (pdb out) (limit.Heap stream.Pdb))

abbrev pub unless_deep : List ℕ → Followed → Option Token → Result Followed Stop
unless_deep name f None = Ok f
unless_deep name f (Some t) = Err (deep_chain name t)

unfoldable pub can_be_merged : List ℕ → List ℕ → Followed → Result Followed Stop
can_be_merged name out f = do
  g ← unless_heavy out f (nat_lt most_pdb_weight (weight_of_last f))
  unless_deep name g (first_deep (plain_of g))

-- a base with its deltas, and an edit list to follow them
pub record Edited : Type 0 where
  pub followed : Followed
  pub list : EditList

-- the edit list or the script that a file says
abbrev pub list_in_file : {A : Type 0} → List ℕ → Result A JobFault → Result A Stop
list_in_file name (Ok l) = Ok l
list_in_file name (Err fault) = Err (no_list name fault)

-- it breaks no rule after them
abbrev pub unless_list_broken : List ℕ → Edited → Option (ℕ × ℕ) → Result Edited Stop
unless_list_broken name e None = Ok e
unless_list_broken name e (Some broken) = Err (broken_list name broken.0 broken.1)

abbrev pub judge_edits : List ℕ → Edited → Result Edited Stop
judge_edits name e = unless_list_broken name e (first_edit (chain_with e.followed.base e.followed.deltas) e.list)

-- a base with its deltas, and the text of an edit list to follow them, or of a script
pub record WithText : Type 0 where
  pub followed : Followed
  pub text : List ℕ

-- the files loaded, the text behind the base and before the deltas, and then the base and the deltas judged
unfoldable pub accept_text : Files → List ℕ → List ℕ → List (List ℕ) → Result WithText Stop
accept_text files base edits deltas = do
  f ← load_base files base 0
  text ← load_one files edits (base_size f)
  fs ← load_deltas files deltas (base_size f + length text)
  g ← judge_all base f fs
  Ok (record { followed = g; text = text })

-- what an accepted command does with them: it shows a token's row, lists them, counts the deltas, saves the one module
-- that has all edits, as it is or in the order of an ordinary one, one delta that stands for the last two, or the delta
-- of an edit list; it runs a script over a base, with the watchers that are handed in and the deltas that the script
-- names; or it saves a generated case
pub data Done : Type 0 where
  shows : Token → Followed → Done
  lists : Followed → Done
  counts : Followed → Done
  applies : List ℕ → Followed → Done
  compacts : List ℕ → Followed → Done
  merges : List ℕ → Followed → Done
  writes : List ℕ → Edited → Done
  runs : List Watching → Followed → List NamedFiles → List Command → Done
  generates : Numeral → Numeral → List ℕ → Done

-- what a command comes to: what it does, or why it does nothing
abbrev pub Verdict : Type 0
Verdict = Result Done Stop

-- `show BASE TOKEN DELTA..`
abbrev pub show_on : Files → List ℕ → Token → List (List ℕ) → Verdict
show_on files base token deltas = do
  f ← accept files base deltas
  Ok (shows token f)

-- `list BASE DELTA..`
abbrev pub list_on : Files → List ℕ → List (List ℕ) → Verdict
list_on files base deltas = do
  f ← accept files base deltas
  Ok (lists f)

-- `check BASE DELTA..`
abbrev pub check_on : Files → List ℕ → List (List ℕ) → Verdict
check_on files base deltas = do
  f ← accept files base deltas
  Ok (counts f)

-- what is written of accepted files
abbrev pub rewrite_on : List ℕ → Followed → Verdict
rewrite_on out f = do
  g ← can_be_written out f
  Ok (applies out g)

-- `apply BASE OUT DELTA..`
abbrev pub apply_on : Files → List ℕ → List ℕ → List (List ℕ) → Verdict
apply_on files base out deltas = do
  f ← accept files base deltas
  rewrite_on out f

-- what is written of accepted files in the order of an ordinary module
abbrev pub compacted_on : List ℕ → Followed → Verdict
compacted_on out f = do
  g ← can_be_compacted out f
  Ok (compacts out g)

-- `compact BASE OUT DELTA..`
abbrev pub compact_on : Files → List ℕ → List ℕ → List (List ℕ) → Verdict
compact_on files base out deltas = do
  f ← accept files base deltas
  compacted_on out f

-- the last of some words
abbrev pub last_word : List (List ℕ) → List ℕ
last_word [] = []
last_word (x ∷ []) = x
last_word (x ∷ y ∷ words) = last_word (y ∷ words)

-- the last two of accepted deltas merged
abbrev pub merged_on : List ℕ → List ℕ → Followed → Verdict
merged_on name out f = do
  g ← can_be_merged name out f
  Ok (merges out g)

-- `merge BASE OUT DELTA DELTA ..`
abbrev pub merge_on : Files → List ℕ → List ℕ → List (List ℕ) → Verdict
merge_on files base out deltas = do
  f ← accept files base deltas
  merged_on (meta (last_word deltas)) out f

-- an edit list that breaks no rule after a base with its deltas
abbrev pub edits_on : List ℕ → List ℕ → Edited → Verdict
edits_on name out e = do
  f ← judge_edits name e
  Ok (writes out f)

-- the text of an edit list read, and judged last
abbrev pub text_on : List ℕ → List ℕ → WithText → Verdict
text_on name out t = do
  l ← list_in_file name (edits_said t.text)
  edits_on name out (record { followed = t.followed; list = l })

-- `write BASE EDITS OUT DELTA..`
abbrev pub write_on : Files → List ℕ → List ℕ → List ℕ → List (List ℕ) → Verdict
write_on files base edits out deltas = do
  t ← accept_text files base edits deltas
  text_on edits out t

-- the names of the deltas that a script applies, each once, in the order in which they come first, behind those that
-- came before
abbrev pub with_name : List (List ℕ) → List ℕ → List (List ℕ)
with_name names name = if list_any (bytes_eq name) names then names else names ++ name ∷ []

unfoldable pub deltas_named : List (List ℕ) → List Command → List (List ℕ)
deltas_named names [] = names
deltas_named names (Apply name ∷ commands) = deltas_named (with_name names name) commands
deltas_named names (_ ∷ commands) = deltas_named names commands

-- a delta's files, as a run finds them
abbrev pub as_named : DeltaFiles → NamedFiles
as_named f = record {
  metadata_name = f.name;
  debug_name = f.debug_name;
  files = record { metadata = f.metadata; code = f.code; debug = f.debug };
}

unfoldable pub load_named : Files → List Command → ℕ → Result (List NamedFiles) Stop
load_named files commands before = do
  fs ← load_deltas files (deltas_named [] commands) before
  Ok (map as_named fs)

-- `run BASE SCRIPT`: the base and the script are loaded and judged, and then each delta that the script names is
-- loaded once
unfoldable pub run_on : List Watching → Files → List ℕ → List ℕ → Verdict
run_on handed files base script = do
  f ← load_base files base 0
  text ← load_one files script (base_size f)
  g ← judge_base base f
  commands ← list_in_file script (script_said text)
  deltas ← load_named files commands (base_size f + length text)
  Ok (runs handed g deltas commands)

abbrev pub verdict_on : List Watching → Files → Option Job → Verdict
verdict_on handed files (Some (show base token deltas)) = show_on files base token deltas
verdict_on handed files (Some (list base deltas)) = list_on files base deltas
verdict_on handed files (Some (check base deltas)) = check_on files base deltas
verdict_on handed files (Some (apply base out deltas)) = apply_on files base out deltas
verdict_on handed files (Some (compact base out deltas)) = compact_on files base out deltas
verdict_on handed files (Some (merge base out deltas)) = merge_on files base out deltas
verdict_on handed files (Some (write base edits out deltas)) = write_on files base edits out deltas
verdict_on handed files (Some (run base script)) = run_on handed files base script
verdict_on handed files (Some (gen start count out)) = Ok (generates start count out)
verdict_on handed files None = Err no_command

-- what the words come to over these files, with the watchers that are handed in
abbrev pub verdict_of : List Watching → List (List ℕ) → Files → Verdict
verdict_of handed words files = verdict_on handed files (job_of words)
