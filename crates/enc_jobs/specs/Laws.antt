-- What every list that is read has.
use Rattle.std.specs.Prelude.{◌≡◌, ℕ, ◌≤◌, ◌==◌, List, Bool, true, Some, Ok, length}
use Rattle.std.specs.List.{list_all, list_any}
use Rattle.serde_json.specs.Data.{Data}
use Rattle.enc_edit_list.specs.declared.body.ArgValue.{ArgValue}
use Rattle.enc_edit_list.specs.declared.body.ArgValue.TheVariants as arg
use Rattle.enc_edit_list.specs.declared.body.InstrValue.{InstrValue}
use Rattle.enc_edit_list.specs.declared.edit.EditList.{EditList}
use Rattle.enc_edit_list.specs.Form.{list_fits}
use Rattle.enc_pdb_writer.specs.Stated.{points_lie_within}
use Rattle.enc_jobs.specs.declared.code.InstrCode.{InstrCode}
use Rattle.enc_jobs.specs.declared.command.Command.{Command}
use Rattle.enc_jobs.specs.declared.command.Command.TheVariants.{Apply}
use Rattle.enc_jobs.specs.Code.{offsets_of, code_said}
use Rattle.enc_jobs.specs.Edits.{edits_said}
use Rattle.enc_jobs.specs.Scripts.{most_commands, is_name, script_said}

-- a list that a text says is of the form
abbrev pub SaidFits : Type 0
SaidFits = (text : List ℕ) (list : EditList) → edits_said text ≡ Ok list → list_fits list ≡ true

-- each sequence point of a list that a text says stands in the code of its body
abbrev pub PointsLie : Type 0
PointsLie = (text : List ℕ) (list : EditList) → edits_said text ≡ Ok list → list_all points_lie_within list.edits ≡ true

-- the instructions that are read stand where their targets were looked for
abbrev pub StandsAsRead : Type 0
StandsAsRead = (d : Data) (c : InstrCode) → code_said d ≡ Some c → offsets_of c.instrs ≡ Some c.offsets

-- one of the instructions begins there
abbrev pub begins_one : List ℕ → ℕ → Bool
begins_one starts t = list_any (λ s. s == t) starts

-- each target of an argument is where one of them begins
abbrev pub targets_begin : List ℕ → ArgValue → Bool
targets_begin starts (arg.Target t) = begins_one starts t
targets_begin starts (arg.Targets ts) = list_all (begins_one starts) ts
targets_begin starts _ = true

-- and so it is of each instruction that is read
abbrev pub TargetsBegin : Type 0
TargetsBegin = (d : Data) (c : InstrCode) → code_said d ≡ Some c
    → list_all (λ (i : InstrValue). targets_begin c.offsets.starts i.arg) c.instrs ≡ true

-- the name by which a command says a delta is one
abbrev pub names_a_delta : Command → Bool
names_a_delta (Apply name) = is_name name
names_a_delta _ = true

-- a script that a text says isn't too long, and each name of a delta in it is one
abbrev pub ScriptIsShort : Type 0
ScriptIsShort = (text : List ℕ) (commands : List Command) → script_said text ≡ Ok commands
    → length commands ≤ most_commands

abbrev pub ScriptNamesDeltas : Type 0
ScriptNamesDeltas = (text : List ℕ) (commands : List Command) → script_said text ≡ Ok commands
    → list_all names_a_delta commands ≡ true
