use Rattle.std.proofs.Common.{◌∙◌, sym, ap, map}
use Rattle.std.specs.List.{list_all}
use Rattle.enc_meta.specs.Built.{Built}
use Rattle.enc_meta.specs.Heaps.{Counted}
use Rattle.enc_meta.specs.Root.{root_of}
use Rattle.enc_pdb_writer.specs.Names.{name_stated, has_name, name_kept, names_kept}
use Rattle.enc_pdb_writer.proofs.NamesKept.{none_small, all_named, names_are}
use Rattle.enc_pdb_writer.proofs.names.Names.of.Goals as goal

pub add_names-requires-clause-none : goal.add_names-requires-clause-none
add_names-requires-clause-none c = rw c.in_ok-heaps.ensures none_small

pub name_root-requires : goal.name_root-requires
name_root-requires c = c.in_ok-offsets.ensures.grown.starts ∙ ap (λ (h : Built). h.starts) c.in_ok-heaps.ensures

pub invariant_of-result : goal.invariant_of-result
invariant_of-result c =
    let h = c.add_names.new.heaps in
    let offsets = c.in_ok-offsets.offsets.items in
    let here = ap root_of (sym c.deref.ensures.value) ∙ sym c.read_root.ensures.root ∙ c.in-Ok.is in
    let starts = c.in_ok-offsets.ensures.grown.starts ∙ ap (λ (k : Built). k.starts) c.in_ok-heaps.ensures in
    record {
      reads = here;
      names = ap (λ (k : Counted). list_all (has_name k.blobs) offsets) (c.in_ok-bytes.ensures.heaps c.in-Ok.root here)
          ∙ all_named h (map name_stated c.args.documents.now) offsets c.written_laws.ensures.back c.laws.ensures.good starts c.in_ok-offsets.ensures.few c.in_ok-offsets.ensures.said;
    }

pub returns : goal.returns
unfolding names_kept
returns c =
    let h = c.add_names.new.heaps in
    let offsets = c.in_ok-offsets.offsets.items in
    let here = ap root_of (sym c.deref.ensures.value) ∙ sym c.read_root.ensures.root ∙ c.in-Ok.is in
    let starts = c.in_ok-offsets.ensures.grown.starts ∙ ap (λ (k : Built). k.starts) c.in_ok-heaps.ensures in
    ap (λ (k : Counted). map (name_kept k.blobs) offsets) (c.in_ok-bytes.ensures.heaps c.in-Ok.root here)
    ∙ names_are h (map name_stated c.args.documents.now) offsets c.written_laws.ensures.back c.laws.ensures.good starts c.in_ok-offsets.ensures.few c.in_ok-offsets.ensures.said
