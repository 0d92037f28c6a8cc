-- For the contracts of private functions: values that wait to be put into an index, the first of each key, where the
-- index has none.
use Rattle.std.specs.Prelude.{List, [], ◌∷◌, Option, Some, None}
use Rattle.enc_base.specs.Order.{or_else}
use Rattle.enc_key_map.specs.declared.index.KeyEntry.{KeyEntry}
use Rattle.enc_key_map.specs.declared.key.Key.{Key}
use Rattle.enc_key_map.specs.Index.{latest_one}

-- the first value that some entries give a key
abbrev pub earliest : {V : Type 0} → List (KeyEntry V) → Key → Option V
earliest [] key = None
earliest (e ∷ es) key = or_else (latest_one e key) (earliest es key)

-- what is new, where nothing was there
abbrev pub where_none : {V : Type 0} → Option V → Option V → Option V
where_none (Some v) new = None
where_none None new = new
