use Rattle.std.proofs.Common.{arith, ap, length}
use Rattle.enc_plain.proofs.NameParts.{name_of_blob, parts_of_blob, name_has_one}
use Rattle.enc_plain.proofs.document.NameRef.len.Goals as goal

pub parts_len-requires-clause-some : goal.parts_len-requires-clause-some
parts_len-requires-clause-some c = parts_of_blob c.self.inside.heaps.blobs c.self.inside.blob.now c.in-len1-up.len_at_least c.self.invariant.0

pub unreachable-requires : goal.unreachable-requires
unreachable-requires c = let h = name_has_one c.self.inside.heaps.blobs c.self.inside.blob.now c.self.invariant.0 in omega (arith, h, c.in-empty.len_below)

pub returns : goal.returns
returns c = let h = name_of_blob c.self.inside.heaps.blobs c.self.inside.blob.now c.in-len1-up.len_at_least c.self.invariant.0 in rw (← c.self.view_is) (rw h c.parts_len.ensures)
