-- What newest bodies stand for: the bodies of a module and the points of a PDB.
use Rattle.std.specs.Prelude.{◌≡◌, ℕ, ◌≤◌, List, length, map, Option, Some, option_map, IfSome, IsTrue}
use Rattle.enc_base.specs.declared.token.Token.{Token}
use Rattle.enc_opcodes.specs.Body.{body_of, texts_are_there}
use Rattle.enc_plain.specs.Cell.{body}
use Rattle.enc_plain.specs.Debug.{PlainPdb, PlainPoint, MethodDebug}
use Rattle.enc_plain.specs.Module.{Module, rows_in, has_row, cell_of}
use Rattle.enc_base.specs.Tables.{method_def}
use Rattle.enc_seqpoints.specs.Grammar.{MethodPoints}
use Rattle.enc_seqpoints.specs.declared.point.Point.{Point}
use Rattle.enc_versions.specs.Version.{Version, newest_of}

-- a method's points apart from their documents: its local signature row, and of each point its offset, and its lines
-- and columns, None where it is hidden
pub record MethodLines : Type 0 where
  pub locals : ℕ
  pub points : List (ℕ × Option (ℕ × ℕ × ℕ × ℕ))

-- those that stand in a file
abbrev pub lines_read : MethodPoints → MethodLines
lines_read m = record { locals = m.locals; points = map (λ (p : Point). (p.offset, p.lines)) m.points }

-- those of a plain PDB
abbrev pub lines_known : MethodDebug → MethodLines
lines_known m = record { locals = m.locals; points = map (λ (p : PlainPoint). (p.offset, p.lines)) m.points }

-- a version stands for a method: it is there where the method has a body, means that body with these user texts,
-- each of which is there, and has the points
-- of the PDB
pub record IsVersionOf (users : ℕ → Option (List ℕ)) (m : Module) (pdb : PlainPdb) (method : Token)
    (version : Option Version) : Type 0 where
  pub means : cell_of m method 0 ≡ Some (body (option_map (λ (v : Version). body_of users v.code) version))
  pub texts : IfSome version (λ (v : Version). IsTrue (texts_are_there users v.code.code))
  pub lines : IfSome version (λ (v : Version). lines_read v.points ≡ lines_known (pdb method))

-- newest bodies stand for a module and its PDB: the one of each method stands for it, and there is none past the
-- last method
pub record AreVersionsOf (users : ℕ → Option (List ℕ)) (m : Module) (pdb : PlainPdb)
    (methods : List (Option Version)) : Type 0 where
  pub within : length methods ≤ length (rows_in m method_def)
  pub each : (method : Token) → method.table ≡ method_def → IsTrue (has_row m method)
      → IsVersionOf users m pdb method (newest_of methods method)
