use Rattle.std.proofs.Common.{◌≡◌, ◌+◌, ap, length, map, take, get_or, arith}
use Rattle.enc_ppdb.proofs.HeapsGrown.{grown_twice}
use Rattle.enc_pdb_writer.specs.Names.{name_stated}
use Rattle.enc_pdb_writer.proofs.NamesKept.{names_more, rooms_more, said_more, said_as}
use Rattle.enc_pdb_writer.proofs.names.add_names.Goals as goal

pub loop-i-preserved : goal.loop-i-preserved
loop-i-preserved c =
    let ds = c.args.documents.now in
    let d = get_or ds c.loop-i.i c.index-documents-i.result in
    let h = c.loop-i.heaps in
    let k = c.add_name.new.heaps in
    let says = said_as k c.as_slice.result.now d.name c.in_ok-offset.offset c.as_slice.ensures c.in_ok-offset.ensures.said in
    let few : length c.as_slice.result.now ≡ length d.name = ap length c.as_slice.ensures in
    record {
      grown = grown_twice c.args.heaps.now h k c.loop-i.invariant.grown c.in_ok-offset.ensures.grown;
      said = said_more h k (map name_stated (take c.loop-i.i ds)) (map name_stated (take (c.loop-i.i + 1) ds)) d.name c.loop-i.offsets.items c.push.new.self.items c.in_ok-offset.offset
          (names_more ds c.loop-i.i c.index-documents-i.result c.loop-i-test.true) c.in_ok-push.ensures.items c.in_ok-offset.ensures.grown c.loop-i.invariant.said says;
      size = omega (arith, c.in_ok-offset.ensures.size, c.loop-i.invariant.size, few, rooms_more ds c.loop-i.i c.index-documents-i.result c.loop-i-test.true);
    }
