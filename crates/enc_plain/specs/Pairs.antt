-- For the contracts of what remembers alike tokens: pairs of TypeRefs and of TypeSpecs that are alike in the
-- signatures of a table.
use Rattle.std.specs.Prelude.{ℕ, Bool, ◌/◌, ◌%◌, ◌^◌}
use Rattle.enc_base.specs.Passed.{AllPass}
use Rattle.enc_plain.specs.declared.pairs.Pairs.{Pairs}
use Rattle.enc_plain.specs.Alike.{alike_in_table}
use Rattle.enc_plain.specs.Rows.{Rows}
use Rattle.enc_base.specs.Tables as tables

-- the pair of rows of a table that a number stands for is alike in the signatures of another
abbrev pub is_alike_pair : Rows → ℕ → ℕ → ℕ → Bool
is_alike_pair rows table named n =
    alike_in_table rows table (record { table = named; row = n / 2 ^ 32 }) (record { table = named; row = n % 2 ^ 32 })

-- each pair is alike
abbrev pub AreAlikePairs : Rows → Pairs → Type 0
AreAlikePairs rows known = AllPass (is_alike_pair rows known.table tables.type_ref) known.numbers
    × AllPass (is_alike_pair rows known.table tables.type_spec) known.specs
