-- The delta of an edit list is read as it was written, breaks no rule, and makes the module with all edits made
-- directly.
use Rattle.std.specs.Prelude.{◌≡◌, ℕ, ◌<◌, ◌^◌, true, List, None, Ok}
use Rattle.enc_emit.specs.Written.{root_built, built_size}
use Rattle.enc_emit.specs.declared.root_form.RootForm.TheVariants.{Delta}
use Rattle.enc_plain.specs.Chain.{Chain}
use Rattle.enc_rows.specs.Source.{Source}
use Rattle.enc_delta.specs.Delta.{delta_of}
use Rattle.enc_delta.specs.Judged.{Rule, first_meta}
use Rattle.enc_agg.specs.Extend.{extended}
use Rattle.enc_edit_list.specs.declared.edit.EditList.{EditList}
use Rattle.enc_rules.specs.Edited.{edited}
use Rattle.enc_list_delta.specs.Holds.{MayFollow, heaps_written, HoldDelta, SaysDelta}

-- the bytes of a delta's metadata: the root of a delta
unfoldable pub metadata_written : Chain → EditList → List (List (List ℕ)) → List ℕ
metadata_written c l rows = root_built (record { heaps = heaps_written c l; rows = rows }) Delta

-- parts that hold what a list states are read as a delta that says it
abbrev pub DeltasAreRead : Type 0
DeltasAreRead = (c : Chain) (l : EditList) (il : List ℕ) (rows : List (List (List ℕ))) → MayFollow c l
    → HoldDelta c l il rows
    → built_size (record { heaps = heaps_written c l; rows = rows }) true < 2 ^ 32
    → (s : Source) × (delta_of (metadata_written c l rows) il ≡ Ok s) × SaysDelta c l s

-- a delta that says what a list states doesn't break this rule
abbrev pub KeepsTo : Rule → Type 0
KeepsTo rule = (c : Chain) (l : EditList) (s : Source) → MayFollow c l → SaysDelta c l s → rule c s ≡ None

-- nor any other rule of its metadata
abbrev pub DeltasFollow : Type 0
DeltasFollow = (c : Chain) (l : EditList) (s : Source) → MayFollow c l → SaysDelta c l s → first_meta c s ≡ None

-- and makes the module with all edits made directly
abbrev pub DeltasMean : Type 0
DeltasMean = (c : Chain) (l : EditList) (s : Source) → MayFollow c l → SaysDelta c l s
    → (extended c s).plain ≡ edited c.plain l.edits
