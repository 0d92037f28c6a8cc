-- The owner and the children of a row, as they are asked for.
use Rattle.std.specs.Prelude.{◌≡◌, ◌⊎◌, ℕ, ◌==◌, ◌&&◌, List, Option, Some, None, Result, Ok, Err, Vec, if◌then◌else◌}
use Rattle.std.specs.declared.alloc.Global.{Global}
use Rattle.enc_base.specs.declared.token.Token.{Token}
use Rattle.enc_schema.specs.Children.{is_child_table, owner_table}
use Rattle.enc_plain.specs.Module.{Module, owner_of, kids_of}
use Rattle.enc_c.specs.declared.status.Status.{Status}
use Rattle.enc_c.specs.declared.status.Status.TheVariants.{Memory, Unlike}
use Rattle.enc_c.specs.Cells.{of_row}

abbrev pub owner_told : Option Token → Result Token Status
owner_told (Some owner) = Ok owner
owner_told None = Err Unlike

-- the owner of a row of a child table
unfoldable pub asked_owner : Module → Token → Result Token Status
asked_owner m t = of_row m t (if is_child_table t.table then owner_told (owner_of m t) else Err Unlike)

-- the rows of a row's children in a child table of its table
unfoldable pub asked_kids : Module → Token → ℕ → Result (List ℕ) Status
asked_kids m t table = of_row m t (if is_child_table table && t.table == owner_table table then Ok (kids_of m t table)
    else Err Unlike)

-- an answer, or that there is no memory for it
abbrev pub OrMemory : {A : Type 0} → Result A Status → Result A Status → Type 0
OrMemory answer said = (answer ≡ said) ⊎ (answer ≡ Err Memory)

-- items in a list of their own
abbrev pub items_listed : {A : Type 0} → Result (Vec A Global) Status → Result (List A) Status
items_listed (Ok v) = Ok v.items
items_listed (Err s) = Err s
