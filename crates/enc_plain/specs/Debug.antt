-- The plain PDB: for each method its local signature and its sequence points, each with its document (Portable PDB
-- v1.0).
use Rattle.std.specs.Prelude.{ℕ, List, [], map, Option}
use Rattle.enc_base.specs.declared.token.Token.{Token}
use Rattle.enc_seqpoints.specs.declared.point.Point.{Point}
use Rattle.enc_seqpoints.specs.Grammar.{MethodPoints}

-- a document by its value: its name, its hash algorithm, its hash and its language (Document Table)
pub record Document : Type 0 where
  pub name : List ℕ
  pub algorithm : List ℕ
  pub hash : List ℕ
  pub language : List ℕ

-- a point: its offset in the code, its document, and its start line, start column, end line and end column, or that
-- it is hidden
pub record PlainPoint : Type 0 where
  pub offset : ℕ
  pub document : Option Document
  pub lines : Option (ℕ × ℕ × ℕ × ℕ)

-- what is known of a method: its local signature row, and its points in order
pub record MethodDebug : Type 0 where
  pub locals : ℕ
  pub points : List PlainPoint

-- a plain PDB: what is known of each method
abbrev pub PlainPdb : Type 0
PlainPdb = Token → MethodDebug

-- nothing is known
abbrev pub unknown : MethodDebug
unknown = record { locals = 0; points = [] }

-- a point of a file, with the document that its number has there
abbrev pub plain_point : (ℕ → Option Document) → Point → PlainPoint
plain_point documents p = record { offset = p.offset; document = documents p.document; lines = p.lines }

-- the points of a file, with the documents that their numbers have there
unfoldable pub debug_of : (ℕ → Option Document) → MethodPoints → MethodDebug
debug_of documents m = record { locals = m.locals; points = map (plain_point documents) m.points }
