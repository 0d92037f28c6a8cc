-- What holds of a module whose rows have the order of an ordinary one.
use Rattle.std.specs.Prelude.{◌≡◌, ℕ, true}
use Rattle.enc_plain.specs.Debug.{PlainPdb}
use Rattle.enc_plain.specs.Module.{Module}
use Rattle.enc_plain.specs.Sound.{IsSound, row_count, all_kids}
use Rattle.enc_plain.specs.SoundDebug.{IsSoundPdb, KnowsWithin}
use Rattle.enc_row_order.specs.Orders.{standing_rows}
use Rattle.enc_schema.specs.Children.{is_child_table}
use Rattle.enc_base.specs.Tables as tables
use Rattle.enc_compact.specs.Moved.{module_moved, pdb_moved}

-- a sound module stays sound
abbrev pub MovedIsSound : Type 0
MovedIsSound = (m : Module) → IsSound m → IsSound (module_moved m)

-- so does its plain PDB, which knows of the same number of methods
abbrev pub MovedPdbIsSound : Type 0
MovedPdbIsSound = (m : Module) (p : PlainPdb) → IsSoundPdb p → IsSoundPdb (pdb_moved m p)

abbrev pub MovedKnowsWithin : Type 0
MovedKnowsWithin = (m : Module) (p : PlainPdb) → IsSound m → KnowsWithin p (row_count m tables.method_def)
    → KnowsWithin (pdb_moved m p) (row_count (module_moved m) tables.method_def)

-- the children of all owners, by owner and attachment, are the rows in order
abbrev pub MovedStandsInOrder : Type 0
MovedStandsInOrder = (m : Module) (child : ℕ) → IsSound m → is_child_table child ≡ true
    → all_kids (module_moved m) child ≡ standing_rows (module_moved m) child
