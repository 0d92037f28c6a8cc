-- The cells of an added row, part by part, and numbers as wide as they are held.
use Rattle.std.proofs.Common.{◌≡◌, ℕ, suc, ◌<◌, ◌^◌, Bool, true, false, List, [], ◌∷◌, ◌++◌, map, get_or, Option, refl, arith}
use Rattle.std.specs.Prelude.{nat_lt, ◌&&◌, ◌==◌}
use Rattle.std.specs.List.{list_all}
use Rattle.std.proofs.lemmas.Bool.Decides.{nat_tests}
use Rattle.std.proofs.lemmas.Bool.{and_from}
use Rattle.enc_edit_list.specs.declared.body.BodyValue.{BodyValue}
use Rattle.enc_edit_list.specs.declared.edit.Cell.{Cell as CellValue}
use Rattle.enc_rules.specs.Edited.{cell_stated, cells_stated}
use Rattle.enc_memory_module.specs.Standing.{is_any_offset}
use Rattle.enc_memory_module.specs.Stated.{front_stated}

pub below : (b n : ℕ) → b < n → nat_lt b n ≡ true
below b n few = grind (arith, nat_tests)

pub all_offsets : (xs : List ℕ) → ((i : ℕ) → get_or xs i 0 < 2 ^ 32) → list_all is_any_offset xs ≡ true
all_offsets [] each = refl
all_offsets (x ∷ xs) each = and_from (is_any_offset x) _ (below x (2 ^ 32) (each 0)) (all_offsets xs (λ i. each (suc i)))

by_table : (table : ℕ) (values : List CellValue) (code : Option BodyValue) (a b : Bool) → (table == 6) ≡ a → (table == 0x1D) ≡ b → front_stated table code ++ map cell_stated values ≡ cells_stated table values code
unfolding cells_stated
by_table table values code true b is other = rw is refl
by_table table values code false true is other = rw (is, other) refl
by_table table values code false false is other = rw (is, other) refl

pub stated_all : (table : ℕ) (values : List CellValue) (code : Option BodyValue) → front_stated table code ++ map cell_stated values ≡ cells_stated table values code
stated_all table values code = by_table table values code (table == 6) (table == 0x1D) refl refl
