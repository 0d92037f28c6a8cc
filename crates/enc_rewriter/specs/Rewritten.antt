-- The image of a module that is written from scratch, and that it means the module.
use Rattle.std.specs.Prelude.{◌≡◌, ℕ, ◌%◌, ◌<◌, ◌≤◌, ◌^◌, Bool, true, false, List, [], ◌∷◌, length, Ok, if◌then◌else◌}
use Rattle.std.specs.List.{list_all}
use Rattle.enc_emit.specs.Written.{root_built, built_size}
use Rattle.enc_emit.specs.declared.root_form.RootForm.{RootForm}
use Rattle.enc_emit.specs.declared.root_form.RootForm.TheVariants as form
use Rattle.enc_image.specs.Base.{metadata_of, base_of, module_in}
use Rattle.enc_meta.specs.Built.{Built, heaps_built}
use Rattle.enc_meta.specs.BuiltLaws.{IsGood}
use Rattle.enc_meta.specs.Heaps.{user_at}
use Rattle.enc_meta.specs.Root.{root_of}
use Rattle.enc_meta.specs.declared.root.Root.{Root}
use Rattle.enc_pe.specs.Container.{container_of}
use Rattle.enc_pe.specs.Written.{image_written, image_size, most_bytes}
use Rattle.enc_pe.specs.declared.container.Container.{Container}
use Rattle.enc_plain.specs.Debug.{PlainPdb}
use Rattle.enc_plain.specs.Module.{Module}
use Rattle.enc_plain.specs.Sound.{IsSound, row_count, all_kids}
use Rattle.enc_rows.specs.Layout.{rows_of}
use Rattle.enc_rows.specs.Source.{Source, raw_in}
use Rattle.enc_rows.specs.Written.{AreRows}
use Rattle.enc_base.specs.Token.{nth_row}
use Rattle.enc_schema.specs.Children.{is_child_table, ptr_of}
use Rattle.enc_schema.specs.Columns as columns
use Rattle.enc_base.specs.Tables as tables
use Rattle.enc_rewriter.specs.Values.{no_starts, heaps_for}
use Rattle.enc_rewriter.specs.Numbers.{HoldRows, needs_jtd, is_in_row_order}
use Rattle.enc_ppdb.specs.Written.{WritesPdb}
use Rattle.enc_rewriter.specs.Weight.{module_weight}
use Rattle.enc_rewriter.specs.Placed.{Placed, IsPlaced}

-- the parts of an image hold a module: its heaps are good and stand behind no others, bodies and fields are placed,
-- and the rows say the module's
pub record HoldModule (m : Module) (h : Built) (p : Placed) (rows : List (List (List ℕ))) : Type 0 where
  pub begins : h.starts ≡ no_starts
  pub good : IsGood h
  pub numbers : AreRows rows
  pub placed : IsPlaced m (user_at (heaps_built h).users) p
  pub said : HoldRows m (heaps_built h) p rows

-- the form of its root: all indices are wide where a run asks for it
abbrev pub root_form : Module → RootForm
root_form m = if needs_jtd m then form.WideModule else form.Module

-- the root of these parts
abbrev pub root_of_parts : Module → Built → List (List (List ℕ)) → List ℕ
root_of_parts m h rows = root_built (record { heaps = h; rows = rows }) (root_form m)

-- the image
unfoldable pub image_of_parts : Module → Built → Placed → List (List (List ℕ)) → List ℕ
image_of_parts m h p rows = image_written (root_of_parts m h rows) p.code m.resources m.entry

-- its root is shorter than 2^32 bytes, the image has at most 2^31, and the entry is a number of four bytes
pub record FitsImage (m : Module) (h : Built) (p : Placed) (rows : List (List (List ℕ))) : Type 0 where
  pub root : built_size (record { heaps = h; rows = rows }) (needs_jtd m) < 2 ^ 32
  pub image : image_size (root_of_parts m h rows) p.code m.resources ≤ most_bytes
  pub entry : m.entry < 2 ^ 32

-- the bytes are those of a base that isn't refused and whose plain module is this one; the initial bytes of its
-- fields stand at multiples of eight
pub record MeansModule (m : Module) (bytes : List ℕ) : Type 0 where
  pub source : Source
  pub read : base_of bytes ≡ Ok source
  pub means : module_in source ≡ m
  pub aligned : (n : ℕ) → n < row_count m tables.field_rva
      → raw_in source (nth_row tables.field_rva n) columns.field_rva_rva % 8 ≡ 0

-- the children of all owners, by owner and attachment, are the rows in order, in each child table
unfoldable pub stands_in_order : Module → Bool
stands_in_order m =
    list_all (λ child. is_in_row_order (all_kids m child))
    (tables.field ∷ tables.method_def ∷ tables.param ∷ tables.event ∷ tables.property ∷ [])

-- the bytes are those of an image whose table stream is `#~`, and no Ptr table has rows in it
pub record IsPlainImage (bytes : List ℕ) : Type 0 where
  pub container : Container
  pub root : Root
  pub source : Source
  pub contained : container_of bytes ≡ Ok container
  pub rooted : root_of (metadata_of bytes container) ≡ Ok root
  pub compressed : root.uncompressed ≡ false
  pub read : base_of bytes ≡ Ok source
  pub ptrs : (child : ℕ) → is_child_table child ≡ true → rows_of source.layout (ptr_of child) ≡ 0

-- what is written of a module and a plain PDB: an image that means the module, is no longer than its weight, and has
-- neither `#-` nor Ptr rows where its
-- children stand in order, and a PDB that means the plain PDB and tells the module's entry point
pub record RewritesTo (m : Module) (p : PlainPdb) (image pdb : List ℕ) : Type 0 where
  pub image_is : MeansModule m image
  pub light : length image ≤ module_weight m (heaps_for m)
  pub plain : stands_in_order m ≡ true → IsPlainImage image
  pub pdb_is : WritesPdb p (row_count m tables.method_def) m.entry pdb

-- an image whose parts hold a sound module means it
abbrev pub ImagesMean : Type 0
ImagesMean = (m : Module) (h : Built) (p : Placed) (rows : List (List (List ℕ))) → IsSound m → HoldModule m h p rows
    → FitsImage m h p rows
    → MeansModule m (image_of_parts m h p rows)
