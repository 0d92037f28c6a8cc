-- Cells that are read fit their columns.
use Rattle.std.proofs.Common.{◌≡◌, ℕ, ◌+◌, List, [], ◌∷◌, Some, true, refl, arith}
use Rattle.std.specs.Prelude.{option_map, nat_le, nat_lt, ◌==◌}
use Rattle.std.specs.List.{list_any}
use Rattle.std.proofs.lemmas.Bool.Decides.{nat_tests}
use Rattle.std.proofs.lemmas.Bool.{and_from}
use Rattle.serde_json.specs.Data.{Data}
use Rattle.serde_json.specs.Find.{as_str, as_number, as_u64}
use Rattle.enc_schema.specs.declared.column.Column.{Column}
use Rattle.enc_schema.specs.declared.column.Column.TheVariants.{Num8, Num16, Num32, Text, Guid, Blob, Index, Coded, Run}
use Rattle.enc_edit_list.specs.declared.edit.Cell.{Cell as CellValue}
use Rattle.enc_edit_list.specs.declared.edit.Cell.TheVariants as cell
use Rattle.enc_edit_list.specs.Form.{cell_fits, cells_fit}
use Rattle.enc_jobs.specs.Json.{number_said, hex_said, token_said, guid_said}
use Rattle.enc_jobs.specs.Cell.{text_cell_said, cell_said, cells_said}
use Rattle.enc_jobs.proofs.Inverse.{map_some, then_some, if_some, unless_some, first_some}

-- a number is within its bound
pub number_within : (most : ℕ) (d : Data) (n : ℕ) → number_said most d ≡ Some n → nat_lt n (most + 1) ≡ true
unfolding number_said
number_within most d n h =
    let kept = then_some (as_number d) _ n h in
    let whole = then_some (as_u64 kept.0) _ n kept.2 in
    let few = if_some (nat_le whole.0 most) (Some whole.0) n whole.2 in
    let e : whole.0 ≡ n = cc in
    let f = rw e at few.0 in
    grind (arith, nat_tests)

number_cell : (most : ℕ) (d : Data) (v : CellValue) → option_map cell.Num (number_said most d) ≡ Some v → (n : ℕ) × (cell.Num n ≡ v) × (nat_lt n (most + 1) ≡ true)
number_cell most d v h =
    let w = map_some cell.Num (number_said most d) v h in
    (w.0, w.2, number_within most d w.0 w.1)

pub cell_has : (c : Column) (d : Data) (v : CellValue) → cell_said c d ≡ Some v → cell_fits c v ≡ true
unfolding cell_said text_cell_said
cell_has Num8 d v h = let w = number_cell 0xFF d v h in rw (← w.1) w.2
cell_has Num16 d v h = let w = number_cell 0xFFFF d v h in rw (← w.1) w.2
cell_has Num32 d v h = let w = number_cell 0xFFFFFFFF d v h in rw (← w.1) w.2
cell_has Text d v h =
    let t = then_some (as_str d) _ v h in
    let w = unless_some (list_any (λ b. b == 0) t.0) (Some (cell.Text t.0)) v t.2 in
    let e : cell.Text t.0 ≡ v = cc in
    rw (← e) (rw w.0 refl)
cell_has Guid d v h = let w = map_some cell.Guid (guid_said d) v h in rw (← w.2) refl
cell_has Blob d v h = let w = map_some cell.Blob (hex_said d) v h in rw (← w.2) refl
cell_has (Index table) d v h = let w = map_some cell.Refer (token_said d) v h in rw (← w.2) refl
cell_has (Coded kind) d v h = let w = map_some cell.Refer (token_said d) v h in rw (← w.2) refl
cell_has (Run table) d v h = absurd (cc)

pub cells_have : (columns : List Column) (ds : List Data) (vs : List CellValue) → cells_said columns ds ≡ Some vs → cells_fit columns vs ≡ true
unfolding cells_said cells_fit
cells_have [] [] vs h = let e : [] ≡ vs = cc in rw (← e) refl
cells_have [] (d ∷ ds) vs h = absurd (cc)
cells_have (c ∷ columns) [] vs h = absurd (cc)
cells_have (c ∷ columns) (d ∷ ds) vs h =
    let w = first_some (cell_said c d) (cells_said columns ds) vs h in
    rw (← w.4) (and_from (cell_fits c w.0) (cells_fit columns w.1) (cell_has c d w.0 w.2) (cells_have columns ds w.1 w.3))
