use Rattle.std.proofs.Common.{refl}
use Rattle.std.proofs.lemmas.Option.{slice_get_read}
use Rattle.enc_commands.proofs.Drawn.{drawn_fits, drawn_lies, drawn_obeys_of}
use Rattle.enc_commands.proofs.commands.generate.add_list.Goals as goal

pub write_delta-requires-clause-form : goal.write_delta-requires-clause-form
write_delta-requires-clause-form c =
    drawn_fits c.args.lists.now c.args.k c.index-as_slice-k.result c.requires.at.drawn c.generated_laws.ensures.fit (slice_get_read c.args.lists.now _ c.args.k c.index-as_slice-k.result refl c.requires.at.there (rw c.as_slice.ensures at c.index-as_slice-k.is))

pub write_delta-requires-clause-points : goal.write_delta-requires-clause-points
write_delta-requires-clause-points c =
    drawn_lies c.args.lists.now c.args.k c.index-as_slice-k.result c.requires.at.drawn c.generated_laws.ensures.points (slice_get_read c.args.lists.now _ c.args.k c.index-as_slice-k.result refl c.requires.at.there (rw c.as_slice.ensures at c.index-as_slice-k.is))

pub add_delta-requires-clause-stand : goal.add_delta-requires-clause-stand
add_delta-requires-clause-stand c =
    (c.index-as_slice-k.result, slice_get_read c.args.lists.now _ c.args.k c.index-as_slice-k.result refl c.requires.at.there (rw c.as_slice.ensures at c.index-as_slice-k.is), rw c.rows.ensures at c.in-Ok.ensures)

pub unreachable-requires : goal.unreachable-requires
unreachable-requires c =
    drawn_obeys_of c.args.lists.now c.args.k c.index-as_slice-k.result c.args.series.now.held.rows c.rows.result.now c.in-Err-Broken.field-0 _ _ c.rows.ensures c.requires.at.drawn c.case_laws.ensures.obeys (slice_get_read c.args.lists.now _ c.args.k c.index-as_slice-k.result refl c.requires.at.there (rw c.as_slice.ensures at c.index-as_slice-k.is)) c.requires.at.series.drawn
    c.in-Err-Broken.field-0-is c.in-Err-Broken.ensures
