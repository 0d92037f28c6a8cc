-- What an edit list says.
use Rattle.std.specs.Prelude.{ℕ, ◌+◌, ◌-◌, ◌^◌, ◌==◌, min, Bool, false, if◌then◌else◌, List, [], ◌∷◌, bytes_eq, codes}
use Rattle.std.specs.Prelude.{Option, Some, None, Result, Ok, Err}
use Rattle.std.specs.Str.{is_utf8}
use Rattle.serde_json.specs.Data.{Data}
use Rattle.serde_json.specs.Find.{get, as_str}
use Rattle.serde_json.specs.Read.{read}
use Rattle.enc_base.specs.Token.{nil}
use Rattle.enc_base.specs.Order.{first_below}
use Rattle.enc_base.specs.declared.token.Token.{Token}
use Rattle.enc_schema.specs.Children.{is_child_table}
use Rattle.enc_schema.specs.Names.{table_name_in}
use Rattle.enc_base.specs.Tables.{method_def}
use Rattle.enc_opcodes.specs.Instruction.{◌>>=◌}
use Rattle.enc_edit_list.specs.declared.edit.Edit.{Edit}
use Rattle.enc_edit_list.specs.declared.edit.Edit.TheVariants.{Add, Body}
use Rattle.enc_edit_list.specs.declared.edit.EditList.{EditList}
use Rattle.enc_edit_list.specs.declared.edit.DocumentValue.{DocumentValue}
use Rattle.enc_edit_list.specs.Form.{stated_columns}
use Rattle.enc_jobs.specs.declared.fault.JobFault.{JobFault}
use Rattle.enc_jobs.specs.declared.fault.JobFault.TheVariants.{J1, J2}
use Rattle.enc_jobs.specs.declared.list.Head.{Head}
use Rattle.enc_jobs.specs.Json.{at_key_or, elements_of, has_only, token_said, guid_said}
use Rattle.enc_jobs.specs.Lists.{every, read_in_turn}
use Rattle.enc_jobs.specs.Cell.{cells_said}
use Rattle.enc_jobs.specs.Body.{method_said, method_said_if}

-- a table has the name
abbrev pub has_this_name : List ℕ → Option (List ℕ) → Bool
has_this_name name None = false
has_this_name name (Some known) = bytes_eq known name

-- the table with a name
unfoldable pub table_named : List ℕ → Option ℕ
table_named name = first_below (λ t. if has_this_name name (table_name_in t) then Some t else None) 56

-- the keys of an edit that adds a row to a table
unfoldable pub add_keys : ℕ → List (List ℕ)
add_keys table =
    if table == method_def then codes "do" ∷ codes "table" ∷ codes "cells" ∷ codes "owner" ∷ codes "code"
    ∷ codes "points" ∷ []
    else if is_child_table table then codes "do" ∷ codes "table" ∷ codes "cells" ∷ codes "owner" ∷ []
    else codes "do" ∷ codes "table" ∷ codes "cells" ∷ []

-- a row of a child table has an owner
unfoldable pub owner_said : ℕ → Data → Option Token
owner_said table d = if is_child_table table then get (codes "owner") d >>= token_said else Some nil

-- an edit that adds a row to this table
unfoldable pub add_to_said : Data → ℕ → Option Edit
add_to_said d table = if has_only (add_keys table) d then (do
  owner ← owner_said table d
  items ← get (codes "cells") d >>= elements_of
  cells ← cells_said (stated_columns table) items
  m ← method_said_if (get (codes "code") d) (get (codes "points") d)
  Some (Add table owner cells m.0 m.1)) else None

-- an edit that adds a row to the table with a name
unfoldable pub add_said : Data → Option Edit
add_said d = ((get (codes "table") d >>= as_str) >>= table_named) >>= add_to_said d

-- an edit that replaces a body
unfoldable pub replace_said : Data → Option Edit
replace_said d = if has_only (codes "do" ∷ codes "method" ∷ codes "code" ∷ codes "points" ∷ []) d then (do
  method ← get (codes "method") d >>= token_said
  code ← get (codes "code") d
  m ← method_said code (get (codes "points") d)
  Some (Body method m.body m.points)) else None

-- an edit of one of the two kinds
abbrev pub edit_of_kind : Data → List ℕ → Option Edit
edit_of_kind d kind = if bytes_eq kind (codes "add") then add_said d else if bytes_eq kind (codes "body")
    then replace_said d else None

-- an edit, its kind by its name
unfoldable pub edit_said : Data → Option Edit
edit_said d = (get (codes "do") d >>= as_str) >>= edit_of_kind d

-- a document, with its source
unfoldable pub document_said : Data → Option DocumentValue
document_said d = if has_only (codes "name" ∷ codes "language" ∷ codes "source" ∷ []) d then (do
  name ← get (codes "name") d >>= as_str
  language ← get (codes "language") d >>= guid_said
  source ← get (codes "source") d >>= as_str
  Some (record { name = name; language = language; source = source })) else None

-- the documents of a list
unfoldable pub documents_said : Data → Option (List DocumentValue)
documents_said d = elements_of d >>= every document_said

-- what a list says but for its edits
unfoldable pub head_said : Data → Option Head
head_said d = if has_only (codes "encId" ∷ codes "edits" ∷ codes "documents" ∷ []) d then (do
  id ← get (codes "encId") d >>= guid_said
  documents ← at_key_or [] documents_said (get (codes "documents") d)
  Some (record { enc_id = id; documents = documents })) else None

-- the whole, where all edits are
abbrev pub with_head : Head → Result (List Edit) JobFault → Result EditList JobFault
with_head head (Ok edits) = Ok (record { enc_id = head.enc_id; edits = edits; documents = head.documents })
with_head head (Err fault) = Err fault

-- 0 where the whole isn't of the form
abbrev pub with_items : Option Head → Option (List Data) → Result EditList JobFault
with_items (Some head) (Some items) = with_head head (read_in_turn edit_said 1 items)
with_items _ _ = Err (J2 0)

-- the whole is judged before any edit
unfoldable pub list_said : Data → Result EditList JobFault
list_said d = with_items (head_said d) (get (codes "edits") d >>= elements_of)

-- the value of a text, where it is JSON
unfoldable pub json_value : List ℕ → Option Data
json_value text = if is_utf8 text then read text else None

-- a text that has no value is no JSON
abbrev pub list_of_value : Option Data → Result EditList JobFault
list_of_value None = Err J1
list_of_value (Some d) = list_said d

-- the edit list that a text says
unfoldable pub edits_said : List ℕ → Result EditList JobFault
edits_said text = list_of_value (json_value text)
