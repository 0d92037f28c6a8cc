-- Values by token: a finite map, as the list of its entries in the order of tokens.
use Rattle.std.specs.Prelude.{List, Option}
use Rattle.std.specs.Map.{lookup}
use Rattle.std.specs.BTreeMap.{insert_entry, is_at}
use Rattle.std.specs.Ordering.{nat_cmp, ordering_then}
use Rattle.std.specs.declared.cmp.Ordering.{Ordering}
use Rattle.enc_base.specs.declared.token.Token.{Token}
use Rattle.enc_objects.specs.declared.value.Value.{Value}

-- tokens go by table, then by row
abbrev pub token_ordering : Token → Token → Ordering
token_ordering a b = ordering_then (nat_cmp a.table b.table) (nat_cmp a.row b.row)

abbrev pub Entries : Type 0
Entries = List (Token × Value)

-- the value set for a token
abbrev pub value_for : Token → Entries → Option Value
value_for token entries = lookup (is_at (token_ordering token)) entries

-- the entries with a value set for a token
abbrev pub put_value : Token → Value → Entries → Entries
put_value token value entries = insert_entry token_ordering entries token value
