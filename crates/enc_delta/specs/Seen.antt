-- What the parts of the program stand for.
use Rattle.std.specs.Prelude.{◌≡◌, ◌↔◌, ℕ, ◌<◌, Bool, IsTrue, List, Result, Ok, Err}
use Rattle.enc_base.specs.Numbers.{AreBytes}
use Rattle.enc_base.specs.declared.refusal.Refusal.{Refusal}
use Rattle.enc_base.specs.declared.refusal.ReadFault.{ReadFault}
use Rattle.enc_base.specs.declared.refusal.ReadFault.TheVariants.{Memory, Refused}
use Rattle.enc_base.specs.Token.{number_of}
use Rattle.enc_meta.specs.Root.{root_of}
use Rattle.enc_meta.specs.Heaps.{part, ends_of}
use Rattle.enc_rows.specs.Layout.{IsWithin, rows_of}
use Rattle.enc_rows.specs.Source.{Source}
use Rattle.enc_delta.specs.declared.open.Opened.{Opened}
use Rattle.enc_delta.specs.Delta.{delta_source, delta_of, map_token}
use Rattle.enc_delta.specs.Starts.{AreTableStarts}
use Rattle.enc_base.specs.Tables as tables

-- a root and its tables with the file's bytes
abbrev pub opened_delta : List ℕ → List ℕ → Result Opened Refusal → Result Source Refusal
opened_delta bytes il (Ok o) = Ok (delta_source bytes il o.root o.tables)
opened_delta bytes il (Err e) = Err e

-- the root, the ends of its texts and the tables were read from these bytes
pub record IsDeltaOpened (bytes : List ℕ) (o : Opened) : Type 0 where
  pub root : root_of bytes ≡ Ok o.root
  pub ends : o.ends ≡ ends_of bytes o.root
  pub span : o.tables.span ≡ o.root.tables
  pub within : IsWithin (part bytes o.tables.span) o.tables

-- each token of EncMap has a greater number than those before it
abbrev pub IsRising : Source → Type 0
IsRising s = (i j : ℕ) → i < j → j < rows_of s.layout tables.enc_map
    → number_of (map_token s i) < number_of (map_token s j)

-- it was read from the bytes of two files
pub record WasRead (s : Source) : Type 0 where
  pub metadata : List ℕ
  pub il : List ℕ
  pub bytes : AreBytes metadata
  pub code : AreBytes il
  pub read : delta_of metadata il ≡ Ok s

-- the root and the tables of a delta, whether its map rises, and where its tables begin then
pub record IsRead (bytes il : List ℕ) (o : Opened) (rises : Bool) (starts : List ℕ) : Type 0 where
  pub file : AreBytes bytes
  pub code : AreBytes il
  pub read : delta_of bytes il ≡ Ok (delta_source bytes il o.root o.tables)
  pub opened : IsDeltaOpened bytes o
  pub rising : IsTrue rises ↔ IsRising (delta_source bytes il o.root o.tables)
  pub begin : IsTrue rises → AreTableStarts (delta_source bytes il o.root o.tables) starts

-- what was read is the delta; what was refused is refused by the first rule; want of memory tells nothing
abbrev pub ReadsDelta : Result Source ReadFault → Result Source Refusal → Type 0
ReadsDelta (Ok s) delta = delta ≡ Ok s
ReadsDelta (Err (Refused e)) delta = delta ≡ Err e
ReadsDelta (Err Memory) delta = Unit {0}
