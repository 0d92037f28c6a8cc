-- What the parts of the program stand for.
use Rattle.std.specs.Prelude.{◌≡◌, ℕ, List, None, Result, Ok, Err}
use Rattle.enc_base.specs.Numbers.{AreBytes}
use Rattle.enc_base.specs.declared.refusal.Refusal.{Refusal}
use Rattle.enc_base.specs.declared.refusal.ReadFault.{ReadFault}
use Rattle.enc_base.specs.declared.refusal.ReadFault.TheVariants.{Memory, Refused}
use Rattle.enc_meta.specs.Root.{root_of}
use Rattle.enc_meta.specs.Heaps.{part, ends_of}
use Rattle.enc_meta.specs.declared.ends.TextEnds.{TextEnds}
use Rattle.enc_rows.specs.Layout.{IsWithin}
use Rattle.enc_image.specs.declared.judge.Cells.{Cells}
use Rattle.enc_image.specs.declared.open.Opened.{Opened}
use Rattle.enc_pe.specs.Container.{container_of}
use Rattle.enc_pe.specs.Sections.{sections_of}
use Rattle.enc_pe.specs.declared.section.Section.{Section}
use Rattle.enc_image.specs.Base.{metadata_of, source_from, cells_fault, base_of}
use Rattle.enc_rows.specs.Source.{Source}

abbrev pub source_seen : Cells → Source
source_seen c = record {
  stream = part c.bytes.now c.tables.now.span;
  layout = c.tables.now;
  heaps = c.heaps;
  loaded = c.loaded;
  resources = part c.file.now c.container.resources;
  entry = c.container.entry;
  bare = c.container.bare;
}

-- a container, its root and its tables with the file's bytes
abbrev pub opened_source : List ℕ → Result Opened Refusal → Result Source Refusal
opened_source bytes (Ok o) = Ok (source_from bytes o.container o.root o.tables)
opened_source bytes (Err e) = Err e

-- the container, the root and the tables were read from these bytes
pub record IsOpened (bytes : List ℕ) (o : Opened) : Type 0 where
  pub container : container_of bytes ≡ Ok o.container
  pub root : root_of (metadata_of bytes o.container) ≡ Ok o.root
  pub span : o.tables.span ≡ o.root.tables
  pub within : IsWithin (part (metadata_of bytes o.container) o.tables.span) o.tables

-- what was read is the base; what was refused is refused by the first rule; want of memory tells nothing
abbrev pub ReadsBase : Result Source ReadFault → Result Source Refusal → Type 0
ReadsBase (Ok s) base = base ≡ Ok s
ReadsBase (Err (Refused e)) base = base ≡ Err e
ReadsBase (Err Memory) base = Unit {0}

-- the parts of an image's file were read from its bytes, as the ends of its texts and its sections were; each of its
-- cells is good, and so the file
-- is the base
pub record IsImage (bytes : List ℕ) (o : Opened) (ends : TextEnds) (list : List Section) : Type 0 where
  pub file : AreBytes bytes
  pub read : base_of bytes ≡ Ok (source_from bytes o.container o.root o.tables)
  pub opened : IsOpened bytes o
  pub texts : ends ≡ ends_of (metadata_of bytes o.container) o.root
  pub sections : list ≡ sections_of bytes o.container.sections
  pub cells : cells_fault (source_from bytes o.container o.root o.tables) ≡ None
