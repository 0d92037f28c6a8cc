-- Which file knows a method: the newest that has a row of it, unless a newer delta changes the method and has none.
use Rattle.std.specs.Prelude.{◌≡◌, Bool, true, false, List, [], ◌∷◌, Option, Some, None, refl, if◌then◌else◌}
use Rattle.std.specs.List.{list_any}
use Rattle.enc_base.specs.Token.{is_token}
use Rattle.enc_base.specs.declared.token.Token.{Token}
use Rattle.enc_plain.specs.Debug.{MethodDebug, unknown, debug_of}
use Rattle.enc_rows.specs.Source.{Source}
use Rattle.enc_ppdb.specs.PdbChain.{DebugDelta, base_row, delta_row, points_at, documents_at, debug_at, debug_or, pdb_begun, pdb_changed, pdb_with}

-- a delta's row, nothing where the method has a new body and no row, and else where it was before
abbrev pub known_or : Option (Source × Token) → Bool → Option (Source × Token) → Option (Source × Token)
known_or (Some place) changed before = Some place
known_or None true before = None
known_or None false before = before

-- where the newest file that knows a method has it
unfoldable pub known_at : Option Source → List DebugDelta → Token → Option (Source × Token)
known_at base [] method = base_row base method
known_at base (d ∷ older) method =
    known_or (delta_row d.pdb method) (list_any (is_token method) d.changed) (known_at base older method)

nothing_known : debug_at None ≡ unknown
unfolding debug_at debug_of points_at
nothing_known = refl

knows_or : (place : Option (Source × Token)) (changed : Bool) (before : Option (Source × Token)) (known : MethodDebug)
    → debug_at before ≡ known
    → debug_at (known_or place changed before) ≡ debug_or place (if changed then unknown else known)
knows_or (Some place) changed before known e = refl
knows_or None true before known e = nothing_known
knows_or None false before known e = e

by_place : (base : Option Source) (deltas : List DebugDelta) (method : Token)
    → debug_at (known_at base deltas method) ≡ pdb_with base deltas method
unfolding known_at pdb_begun pdb_changed pdb_with
by_place base [] method = refl
by_place base (d ∷ older) method =
    knows_or (delta_row d.pdb method) (list_any (is_token method) d.changed) (known_at base older method)
    (pdb_with base older method)
    (by_place base older method)

-- what it says there is what is known of the method
pub knows : (base : Option Source) (deltas : List DebugDelta) (method : Token)
    → debug_of (documents_at (known_at base deltas method)) (points_at (known_at base deltas method))
    ≡ pdb_with base deltas method
unfolding debug_at
knows base deltas method = by_place base deltas method
