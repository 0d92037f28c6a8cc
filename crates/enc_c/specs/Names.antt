-- Types and members by their names, and user texts by their offsets, as they are asked for.
use Rattle.std.specs.Prelude.{ℕ, Bool, ◌&&◌, ◌||◌, ◌==◌, List, Option, Some, None, Result, Ok, Err, if◌then◌else◌}
use Rattle.enc_base.specs.declared.token.Token.{Token}
use Rattle.enc_lookup.specs.Members.{members_named}
use Rattle.enc_lookup.specs.Types.{type_named}
use Rattle.enc_plain.specs.Module.{Module}
use Rattle.enc_schema.specs.Children.{is_child_table, owner_table}
use Rattle.enc_base.specs.Tables as tables
use Rattle.enc_c.specs.Cells.{of_row}
use Rattle.enc_c.specs.declared.status.Status.{Status}
use Rattle.enc_c.specs.declared.status.Status.TheVariants.{Absent, Unlike}

-- a thing that is there
abbrev pub told_if_there : {A : Type 0} → Option A → Result A Status
told_if_there (Some x) = Ok x
told_if_there None = Err Absent

-- the type with these names, nested in another, or in none where that is nil
unfoldable pub asked_type : Module → Token → List ℕ → List ℕ → Result Token Status
asked_type m enclosing namespace name = told_if_there (type_named m enclosing namespace name)

-- rows of the first table have children in the second, or are types, which have Event and Property by way of maps
abbrev pub may_have : ℕ → ℕ → Bool
may_have owners table =
    is_child_table table && (owners == owner_table table
    || (owners == tables.type_def && (table == tables.event || table == tables.property)))

-- the rows of a child table with a name that belong to a row, in order of attachment
unfoldable pub asked_members : Module → Token → ℕ → List ℕ → Result (List ℕ) Status
asked_members m owner table name =
    of_row m owner (if may_have owner.table table then Ok (members_named m owner table name) else Err Unlike)

-- the bytes of the units of the user text at an offset
unfoldable pub asked_user : (ℕ → Option (List ℕ)) → ℕ → Result (List ℕ) Status
asked_user users offset = told_if_there (users offset)
