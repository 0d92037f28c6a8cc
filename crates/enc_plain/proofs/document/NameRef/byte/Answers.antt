use Rattle.std.proofs.Common.{◌≡◌, ℕ, List, Option, Some, None, arith, ap, length, sym, ◌∙◌}
use Rattle.std.specs.Prelude.{slice_get, slice_index}
use Rattle.enc_plain.proofs.NameParts.{name_of_blob, parts_of_blob, name_has_one}
use Rattle.enc_plain.proofs.NamePlaces.{get_within}
use Rattle.enc_plain.proofs.document.NameRef.byte.Goals as goal

pub parts_byte-requires : goal.parts_byte-requires
parts_byte-requires c = parts_of_blob c.self.inside.heaps.blobs c.self.inside.blob.now c.in-len1-up.len_at_least c.self.invariant.0

pub unreachable-requires : goal.unreachable-requires
unreachable-requires c = let h = name_has_one c.self.inside.heaps.blobs c.self.inside.blob.now c.self.invariant.0 in omega (arith, h, c.in_default.len_below)

pub unreachable-requires-in-None : goal.unreachable-requires-in-None
unreachable-requires-in-None c =
    let h = name_of_blob c.self.inside.heaps.blobs c.self.inside.blob.now c.in-len1-up.len_at_least c.self.invariant.0 in
    let f : None ≡ Some (slice_index c.args.self.now c.args.i) = sym c.in-None.is ∙ c.parts_byte.ensures ∙ ap (λ (l : List ℕ). slice_get l c.args.i) (sym h ∙ c.self.view_is) ∙ get_within c.args.self.now c.args.i c.requires in
    cc

pub returns : goal.returns
returns c =
    let h = name_of_blob c.self.inside.heaps.blobs c.self.inside.blob.now c.in-len1-up.len_at_least c.self.invariant.0 in
    let f : Some c.in-Some.byte ≡ Some (slice_index c.args.self.now c.args.i) = sym c.in-Some.is ∙ c.parts_byte.ensures ∙ ap (λ (l : List ℕ). slice_get l c.args.i) (sym h ∙ c.self.view_is) ∙ get_within c.args.self.now c.args.i c.requires in
    cc
