-- The value of a text by what reading it gives.
use Rattle.std.proofs.Common.{◌≡◌, ℕ, List, Bool, true, false, Some, None, refl}
use Rattle.std.specs.Prelude.{IsUtf8, if◌then◌else◌}
use Rattle.std.specs.Str.{is_utf8}
use Rattle.std.proofs.lemmas.Str.{IsUtf8-from_is_utf8, is_utf8-from_IsUtf8}
use Rattle.serde_json.specs.Data.{Data}
use Rattle.serde_json.specs.Read.{read}
use Rattle.enc_jobs.specs.Edits.{json_value}

pub value_is : (t : List ℕ) (d : Data) → IsUtf8 t → read t ≡ Some d → json_value t ≡ Some d
unfolding json_value
value_is t d utf8 is = rw (is_utf8-from_IsUtf8 t utf8) is

none_by : (b : Bool) (t : List ℕ) → is_utf8 t ≡ b → (IsUtf8 t → read t ≡ None) → (if b then read t else None) ≡ None
none_by true t e h = h (IsUtf8-from_is_utf8 t e)
none_by false t e h = refl

pub value_none : (t : List ℕ) → (IsUtf8 t → read t ≡ None) → json_value t ≡ None
unfolding json_value
value_none t h = none_by (is_utf8 t) t refl h

pub ruleset text_values = (value_is, value_none)
