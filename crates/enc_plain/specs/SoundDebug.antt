-- Sound plain PDBs: what every plain PDB is that files or edits give (Portable PDB v1.0).
use Rattle.std.specs.Prelude.{◌≡◌, ℕ, ◌<◌, ◌^◌, Bool, true, false, ◌&&◌, ◌==◌, List, map, is_some, is_ok, nat_le}
use Rattle.std.specs.List.{list_all}
use Rattle.enc_base.specs.declared.token.Token.{Token}
use Rattle.enc_plain.specs.Debug.{PlainPoint, MethodDebug, PlainPdb, unknown}
use Rattle.enc_base.specs.Tables as tables
use Rattle.enc_seqpoints.specs.declared.point.Point.{Point}
use Rattle.enc_seqpoints.specs.Spelling.{blob_of}

-- a point, with a row for its document
abbrev pub numbered : ℕ → PlainPoint → Point
numbered row p = record { offset = p.offset; document = row; lines = p.lines }

-- the points can be spelled, whatever rows their documents get (Sequence Points Blob)
unfoldable pub can_be_spelled : List PlainPoint → Bool
can_be_spelled points = is_ok (blob_of 0 0 (map (numbered 1) points))

-- each has its document
unfoldable pub have_documents : List PlainPoint → Bool
have_documents points = list_all (λ (p : PlainPoint). is_some p.document) points

-- a method's points can be spelled, each with its document, and so can its local signature row
pub record IsSoundDebug (d : MethodDebug) : Type 0 where
  pub locals : d.locals < 2 ^ 29
  pub spelled : can_be_spelled d.points ≡ true
  pub documents : have_documents d.points ≡ true

pub record IsSoundPdb (p : PlainPdb) : Type 0 where
  pub each : (method : Token) → IsSoundDebug (p method)

-- the token is one of so many methods
unfoldable pub is_method_of : ℕ → Token → Bool
is_method_of methods token = token.table == tables.method_def && (nat_le 1 token.row && nat_le token.row methods)

-- nothing is known of any other token
pub record KnowsWithin (p : PlainPdb) (methods : ℕ) : Type 0 where
  pub each : (token : Token) → is_method_of methods token ≡ false → p token ≡ unknown
