-- The codes that methods of a sound module have now are sound.
use Rattle.std.proofs.Common.{◌≡◌, ℕ, true, ◌&&◌, List, Option, Some, None, refl, inl, inr, subst, is_some, ◌%◌, ◌==◌, option_map}
use Rattle.std.proofs.lemmas.Bool.{and_parts}
use Rattle.enc_base.specs.declared.token.Token.{Token}
use Rattle.enc_machine_types.specs.Members.{call_shape, run_body, if_runs, runs_body, method_body, body_of_cell}
use Rattle.enc_opcodes.specs.Body.{Body, body_of}
use Rattle.enc_opcodes.specs.Sound.{body_is_sound}
use Rattle.enc_plain.proofs.Columns.{part_cases}
use Rattle.enc_plain.specs.Cell.{Cell, number, text, blob, guid, refer, body, field}
use Rattle.enc_plain.specs.Debug.{PlainPdb}
use Rattle.enc_plain.specs.Module.{Module, has_row, cell_of, cells_of}
use Rattle.enc_plain.specs.Rows.{number_at}
use Rattle.enc_plain.specs.Sound.{IsSound, row_count, method_is_sound, locals_are_sound}
use Rattle.enc_schema.specs.Columns as columns
use Rattle.enc_schema.specs.Schema.{column_in}
use Rattle.enc_schema.specs.declared.column.Column.{Column}
use Rattle.enc_versions.specs.StandFor.{lines_known, AreVersionsOf}
use Rattle.enc_versions.specs.Version.{Version}
use Rattle.enc_vm.proofs.CallsPlaced.{AreSoundNow}
use Rattle.enc_vm.proofs.NowMeant.{no_cell_of, no_row_cell}
use Rattle.enc_vm.proofs.Placed.{AfterSome, either_way}
use Rattle.enc_vm.proofs.StepsMeant.{worlds_agree}
use Rattle.enc_frames.specs.Machine.{PlainCode, code_meant, plain_world, version_world}
use Rattle.enc_vm.specs.Placed.{IsSoundCode}

-- the body of a sound method
body_sound : (m : Module) (method : Token) (b : Body) → method_is_sound m method b ≡ true → IsSoundCode b
unfolding method_is_sound
body_sound m method b h =
    let first = and_parts (number_at (cells_of m) method columns.method_def_impl_flags % 4 == 0 && body_is_sound (row_count m) b) (locals_are_sound m b.locals) h in
    (row_count m, (and_parts (number_at (cells_of m) method columns.method_def_impl_flags % 4 == 0) (body_is_sound (row_count m) b) first.0).1)

-- the body in a cell of a sound module
cell_sound : (m : Module) (t : Token) (c : Cell) → IsSound m → cell_of m t 0 ≡ Some c → AfterSome IsSoundCode (body_of_cell (Some c))
cell_sound m t (number n) sound is = tt
cell_sound m t (text x) sound is = tt
cell_sound m t (blob x) sound is = tt
cell_sound m t (guid x) sound is = tt
cell_sound m t (refer x) sound is = tt
cell_sound m t (field x) sound is = tt
cell_sound m t (body None) sound is = tt
cell_sound m t (body (Some b)) sound is =
    elim (part_cases (has_row m t)) [
      | inr other ↦ let e = no_row_cell m t other in absurd cc
      | inl row ↦ by_column (column_in t.table 0) row refl
    ]
  where
    by_column : (o : Option Column) → has_row m t ≡ true → column_in t.table 0 ≡ o → IsSoundCode b
    by_column None row column = let e = no_cell_of m t sound.kinds column in absurd cc
    by_column (Some k) row column = body_sound m t b (sound.cells.each t 0 k (body (Some b)) row column is)

pub method_sound : (m : Module) (t : Token) (o : Option Cell) → IsSound m → cell_of m t 0 ≡ o → AfterSome IsSoundCode (body_of_cell o)
method_sound m t None sound is = tt
method_sound m t (Some c) sound is = cell_sound m t c sound is

runs_sound : (m : Module) (o : Option Body) → AfterSome IsSoundCode o → AfterSome IsSoundCode (if_runs m o)
runs_sound m None h = tt
runs_sound m (Some b) h = either_way (AfterSome IsSoundCode) (runs_body m b) (Some b) None h tt

run_sound : (m : Module) (t : Token) → IsSound m → AfterSome IsSoundCode (run_body m t)
unfolding run_body
run_sound m t sound =
    either_way (AfterSome IsSoundCode) (is_some (call_shape m t)) (if_runs m (method_body m t)) None
    (runs_sound m (method_body m t) (method_sound m t (cell_of m t 0) sound refl)) tt

code_sound : (m : Module) (debug : PlainPdb) (t : Token) (o : Option Body) → AfterSome IsSoundCode o
    → AfterSome (λ (c : PlainCode). IsSoundCode c.body) (option_map (λ (b : Body). record { body = b; points = (lines_known (debug t)).points }) o)
code_sound m debug t None h = tt
code_sound m debug t (Some b) h = h

-- in the plain machine
pub plain_now : (m : Module) (debug : PlainPdb) → IsSound m → AreSoundNow (plain_world m debug)
unfolding plain_world
plain_now m debug sound = λ t. code_sound m debug t (run_body m t) (run_sound m t sound)

version_sound : (users : ℕ → Option (List ℕ)) (o : Option Version) → AfterSome (λ (c : PlainCode). IsSoundCode c.body) (option_map (code_meant users) o)
    → AfterSome (λ (v : Version). IsSoundCode (body_of users v.code)) o
version_sound users None h = tt
version_sound users (Some v) h = h

-- and in the program's
pub version_now : (users : ℕ → Option (List ℕ)) (m : Module) (debug : PlainPdb) (methods : List (Option Version)) → IsSound m → AreVersionsOf users m debug methods
    → AreSoundNow (version_world users m methods)
unfolding version_world plain_world
version_now users m debug methods sound are = λ t.
    version_sound users ((version_world users m methods).now t)
    (subst (AfterSome (λ (c : PlainCode). IsSoundCode c.body)) ((worlds_agree users m debug methods sound are).now t) (plain_now m debug sound t))
