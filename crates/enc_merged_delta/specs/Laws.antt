-- A delta that says what two say together follows their chain, and makes the module that they make.
use Rattle.std.specs.Prelude.{◌≡◌, ◌∷◌, ◌++◌, [], None}
use Rattle.enc_base.specs.declared.token.Token.{Token}
use Rattle.enc_rows.specs.Source.{Source}
use Rattle.enc_plain.specs.Chain.{Chain}
use Rattle.enc_plain.specs.Module.{cells_of}
use Rattle.enc_schema.specs.Columns as columns
use Rattle.enc_delta.specs.Judged.{Rule, first_meta}
use Rattle.enc_delta.specs.Pairs.{attached_of}
use Rattle.enc_delta.specs.Rows.{rows_after}
use Rattle.enc_delta.specs.Rules.{own_guid}
use Rattle.enc_agg.specs.Extend.{extended}
use Rattle.enc_merged_delta.specs.Merged.{MayMerge, SaysMerged, after_both}

-- the merged delta doesn't break this rule
abbrev pub KeepsMerged : Rule → Type 0
KeepsMerged rule = (c : Chain) (a b s : Source) → MayMerge c a b → SaysMerged c a b s → rule c s ≡ None

-- nor any other of its metadata
abbrev pub MergedFollows : Type 0
MergedFollows = (c : Chain) (a b s : Source) → MayMerge c a b → SaysMerged c a b s → first_meta c s ≡ None

-- the rows by which its updates and members are judged are those of the module after both
abbrev pub RowsAreOfBoth : Type 0
RowsAreOfBoth = (c : Chain) (a b s : Source) (u : Token) → MayMerge c a b → SaysMerged c a b s
    → rows_after c s u ≡ cells_of (after_both c a b).plain u

-- its new children are those of the first and then those of the second
abbrev pub PairsAreOfBoth : Type 0
PairsAreOfBoth = (c : Chain) (a b s : Source) → MayMerge c a b → SaysMerged c a b s
    → attached_of s ≡ attached_of a ++ attached_of b

-- it makes the module that the two make, and its EncId is the second's
abbrev pub MergedMeans : Type 0
MergedMeans = (c : Chain) (a b s : Source) → MayMerge c a b → SaysMerged c a b s
    → (extended c s).plain ≡ (after_both c a b).plain

abbrev pub MergedIsNamed : Type 0
MergedIsNamed = (c : Chain) (a b s : Source) → MayMerge c a b → SaysMerged c a b s
    → (extended c s).ids ≡ c.ids ++ own_guid (extended c a) b columns.module_enc_id ∷ []
