-- For the contracts of what remembers likeness.
use Rattle.std.specs.Prelude.{ℕ, List, Option, bytes_eq}
use Rattle.enc_plain.specs.Alike.{signatures_alike}
use Rattle.enc_plain.specs.declared.known.KnownAlike.{KnownAlike}
use Rattle.enc_plain.specs.declared.known.Specs.{Specs}
use Rattle.enc_plain.specs.Namesakes.{AreNamesakes}
use Rattle.enc_plain.specs.Pairs.{AreAlikePairs}
use Rattle.enc_plain.specs.Places.{AreRelatedPlaces}
use Rattle.enc_plain.specs.Rows.{Rows}
use Rattle.enc_base.specs.Tables as tables

-- signatures of TypeSpecs are alike
abbrev pub AreKnownSpecs : Rows → (ℕ → Option (List ℕ)) → Specs → Type 0
AreKnownSpecs rows stored known = AreRelatedPlaces (signatures_alike rows tables.type_spec) stored known.places

-- all that is known is so
abbrev pub AreKnownAlike : Rows → (ℕ → Option (List ℕ)) → KnownAlike → Type 0
AreKnownAlike rows stored known =
    AreNamesakes rows known.names
    × AreKnownSpecs rows stored known.specs
    × AreAlikePairs rows known.pairs
    × AreRelatedPlaces (signatures_alike rows known.pairs.table) stored known.signatures
    × AreRelatedPlaces bytes_eq stored known.equal
