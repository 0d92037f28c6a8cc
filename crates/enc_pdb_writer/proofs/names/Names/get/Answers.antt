use Rattle.std.proofs.Common.{List, ◌∙◌, sym, ap}
use Rattle.std.specs.Prelude.{ℕ, slice_get}
use Rattle.enc_meta.specs.Heaps.{Counted, heaps_of}
use Rattle.enc_pdb_writer.specs.Names.{names_kept, has_name, kept_name_at}
use Rattle.enc_pdb_writer.proofs.Lists.{one_of_all}
use Rattle.enc_pdb_writer.proofs.NamesKept.{name_here, no_name}
use Rattle.enc_pdb_writer.proofs.names.Names.get.Goals as goal

pub returns : goal.returns
unfolding names_kept kept_name_at
returns c =
    let offsets = c.self.inside.offsets.items in
    let blobs = (heaps_of c.self.inside.bytes.items c.self.inside.root).blobs in
    let at = ap (λ (xs : List ℕ). slice_get xs c.args.i) (sym c.deref.ensures.value) ∙ sym c.offset_at.ensures ∙ c.in-Some.is in
    let heaps = c.of.ensures.heaps ∙ ap (λ (bytes : List ℕ). heaps_of bytes c.self.inside.root) c.deref-2.ensures.value in
    c.at.ensures ∙ ap (λ (k : Counted). kept_name_at k.blobs c.in-Some.offset) heaps
    ∙ name_here blobs offsets c.args.i c.in-Some.offset (one_of_all (has_name blobs) offsets c.args.i c.in-Some.offset c.self.invariant.names at) at
    ∙ ap (λ (names : List (List ℕ)). slice_get names c.args.i) c.self.view_is

pub returns-in-None : goal.returns-in-None
unfolding names_kept
returns-in-None c =
    let offsets = c.self.inside.offsets.items in
    let blobs = (heaps_of c.self.inside.bytes.items c.self.inside.root).blobs in
    no_name blobs offsets c.args.i (ap (λ (xs : List ℕ). slice_get xs c.args.i) (sym c.deref.ensures.value) ∙ sym c.offset_at.ensures ∙ c.in-None.is)
    ∙ ap (λ (names : List (List ℕ)). slice_get names c.args.i) c.self.view_is
