-- What a newest body of a sound module is good for.
use Rattle.std.specs.Prelude.{◌≡◌, ℕ, true, List, Option, Some}
use Rattle.enc_base.specs.declared.token.Token.{Token}
use Rattle.enc_opcodes.specs.Body.{is_instruction_start}
use Rattle.enc_opcodes.specs.Instruction.{instructions_of}
use Rattle.enc_plain.specs.Module.{Module}
use Rattle.enc_plain.specs.Sound.{IsSound}
use Rattle.enc_base.specs.Tables.{method_def}
use Rattle.enc_plain.specs.Debug.{PlainPdb}
use Rattle.enc_versions.specs.StandFor.{AreVersionsOf}
use Rattle.enc_versions.specs.Version.{Version, newest_of}
use Rattle.enc_vm.specs.CallsSeen.{AreBodiesOf}
use Rattle.enc_vm.specs.Moves.{IsBeginIn}

-- a frame may be moved to each instruction of the newest body of a method
abbrev pub NewestMayBeMovedTo : Type 0
NewestMayBeMovedTo =
    (users : ℕ → Option (List ℕ)) (m : Module) (methods : List (Option Version)) (t : Token) (v : Version) (offset : ℕ)
    → IsSound m
    → AreBodiesOf users m methods → t.table ≡ method_def → newest_of methods t ≡ Some v
    → is_instruction_start (instructions_of v.code.code) offset ≡ true
    → IsBeginIn v offset

-- newest bodies of a module stand for it with some PDB
abbrev pub StandWithSomePdb : Type 0
StandWithSomePdb =
    (users : ℕ → Option (List ℕ)) (m : Module) (methods : List (Option Version)) → AreBodiesOf users m methods
    → (debug : PlainPdb) × AreVersionsOf users m debug methods
