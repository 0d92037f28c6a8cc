-- The values of one heap, and how the form of its values writes them.
use Rattle.std.specs.Prelude.{◌≡◌, ℕ, ◌+◌, ◌*◌, ◌%◌, ◌^◌, ◌≤◌, max, Bool, true, not, ◌&&◌, List, [], ◌∷◌, length, map, IsTrue, nat_lt, ◌==◌}
use Rattle.std.specs.List.{list_any, list_all}
use Rattle.std.specs.Map.{keys_of}
use Rattle.enc_base.specs.declared.refusal.StreamName.{StreamName}
use Rattle.enc_base.specs.declared.refusal.StreamName.TheVariants.{Strings, Users, Blobs}
use Rattle.enc_base.specs.Numbers.{is_empty}
use Rattle.enc_meta.specs.Built.{text_bytes, user_bytes, blob_bytes, joined_end, with_value, offset_in, passes, with_entry}
use Rattle.enc_meta.specs.declared.heap_form.HeapForm.{HeapForm}
use Rattle.enc_meta.specs.declared.heap_form.HeapForm.TheVariants.{Text, User, Blob}

-- a value's bytes in a heap of this form
abbrev pub encoded : HeapForm → List ℕ → List ℕ
encoded Text = text_bytes
encoded User = user_bytes
encoded Blob = blob_bytes

-- how long the joined heap may be
abbrev pub limit_of : HeapForm → ℕ
limit_of Text = 2 ^ 29
limit_of User = 2 ^ 24
limit_of Blob = 2 ^ 29

abbrev pub stream_name_of : HeapForm → StreamName
stream_name_of Text = Strings
stream_name_of User = Users
stream_name_of Blob = Blobs

-- a value may be asked for: a text has no zero, and units are of two bytes
abbrev pub is_fit : HeapForm → List ℕ → Bool
is_fit Text v = not (list_any (λ c. c == 0) v)
is_fit User v = length v % 2 == 0
is_fit Blob v = true

-- and it isn't empty where it is a text, and its length can be spelled
abbrev pub value_is_good : HeapForm → List ℕ → Bool
value_is_good Text v = not (is_empty v) && not (list_any (λ c. c == 0) v)
value_is_good User v = length v % 2 == 0 && nat_lt (length v + 1) (2 ^ 29)
value_is_good Blob v = nat_lt (length v) (2 ^ 29)

-- where a heap begins in the joined one, and its values in the order of their first use
pub record Pooled : Type 0 where
  pub form : HeapForm
  pub start : ℕ
  pub values : List (List ℕ)

-- the pool with one more value, where that takes a place of its own
abbrev pub with_pooled : Pooled → List ℕ → Pooled
with_pooled p v = record { form = p.form; start = p.start; values = with_value p.values v }

-- a value's offset, and whether the joined heap passes its limit with it
abbrev pub pooled_offset : Pooled → List ℕ → ℕ
pooled_offset p v = offset_in (encoded p.form) p.start p.values v

abbrev pub pooled_passes : Pooled → List ℕ → Bool
pooled_passes p v = passes (encoded p.form) (limit_of p.form) p.start p.values v

-- each value's place is behind those before it
abbrev pub ArePlaced : {K : Type 0} → (K → List ℕ) → (List ℕ → List ℕ) → ℕ → List (K × ℕ) → Type 0
ArePlaced seen encode at [] = Unit {0}
ArePlaced seen encode at (e ∷ rest) = (e.1 ≡ at) × ArePlaced seen encode (at + length (encode (seen e.0))) rest

-- the places and the end are those of the values, of which all are good, and the joined heap is within its limit
pub record IsTied {K : Type 0} (seen : K → List ℕ) (form : HeapForm)
    (start end : ℕ) (entries : List (K × ℕ)) : Type 0 where
  pub placed : ArePlaced seen (encoded form) (start + 1) entries
  pub ends : end ≡ joined_end (encoded form) start (map seen (keys_of entries))
  pub within : end ≤ max (limit_of form) (start + 1)
  pub good : IsTrue (list_all (value_is_good form) (map seen (keys_of entries)))

-- behind how many entries the GUIDs come, and the GUIDs in the order of their first use
pub record Listed : Type 0 where
  pub start : ℕ
  pub guids : List (List ℕ)

-- the GUIDs with one more, where it takes an entry
abbrev pub with_listed : Listed → List ℕ → Listed
with_listed l g = record { start = l.start; guids = with_entry l.guids g }

-- each GUID has sixteen bytes, and the joined heap is within its limit
pub record IsListed (start : ℕ) (guids : List (List ℕ)) : Type 0 where
  pub good : IsTrue (list_all (λ (g : List ℕ). length g == 16) guids)
  pub within : 16 * (start + length guids) ≤ max (2 ^ 29) (16 * start)

-- the pools of the three heaps of bytes
pub record HaveForms (t u b : Pooled) : Type 0 where
  pub texts : t.form ≡ Text
  pub users : u.form ≡ User
  pub blobs : b.form ≡ Blob
