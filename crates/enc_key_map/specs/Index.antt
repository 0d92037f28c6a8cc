-- The values of an index.
use Rattle.std.specs.Prelude.{List, [], ◌∷◌, Option, Some, None, if◌then◌else◌}
use Rattle.enc_key_map.specs.declared.key.Key.{Key}
use Rattle.enc_key_map.specs.declared.index.Index.{Index}
use Rattle.enc_key_map.specs.declared.index.KeyEntry.{KeyEntry}
use Rattle.enc_key_map.specs.Key.{is_key, digits_of}
use Rattle.enc_key_map.specs.Tree.{at}

-- the value of a key
abbrev pub value_at : {V : Type 0} → Index V → Key → Option V
value_at x key = at x.tree key (digits_of key)

-- the key and the value of an entry
abbrev pub entry_key : {V : Type 0} → KeyEntry V → Key
entry_key e = e.fork.value.key

abbrev pub value_of : {V : Type 0} → KeyEntry V → V
value_of e = e.fork.value.value

-- the first of two values that is there
abbrev pub either : {V : Type 0} → Option V → Option V → Option V
either (Some v) o = Some v
either None o = o

-- the value that an entry gives a key, and the last that some entries give it
abbrev pub latest_one : {V : Type 0} → KeyEntry V → Key → Option V
latest_one e key = if is_key (entry_key e) key then Some (value_of e) else None

abbrev pub latest : {V : Type 0} → List (KeyEntry V) → Key → Option V
latest [] key = None
latest (e ∷ es) key = either (latest es key) (latest_one e key)
