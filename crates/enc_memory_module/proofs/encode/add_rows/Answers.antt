use Rattle.std.proofs.Common.{length, Err, refl}
use Rattle.std.proofs.lemmas.Option.{slice_get_read}
use Rattle.enc_memory_module.specs.Encoded.{users_of_row}
use Rattle.enc_memory_module.proofs.Gathering.{next_item, past_item, all_items}
use Rattle.enc_memory_module.proofs.encode.add_rows.Goals as goal

pub returns-in-Err-clause-past : goal.returns-in-Err-clause-past
returns-in-Err-clause-past c =
    let there = slice_get_read c.args.rows.now (length c.args.rows.now) c.loop-k.k c.index-rows-k.result refl c.loop-k-test.true c.index-rows-k.is in
    past_item users_of_row c.args.rows.now c.loop-k.k c.index-rows-k.result c.loop-k.heaps _ (Err c.in-Err.fault) there c.loop-k.invariant c.in-Err.ensures.past

pub loop-k-preserved : goal.loop-k-preserved
loop-k-preserved c =
    let there = slice_get_read c.args.rows.now (length c.args.rows.now) c.loop-k.k c.index-rows-k.result refl c.loop-k-test.true c.index-rows-k.is in
    next_item users_of_row c.args.rows.now c.loop-k.k c.index-rows-k.result c.loop-k.heaps c.add_row.new.heaps _ there c.loop-k.invariant c.in-Ok.ensures.filled

pub returns-clause-filled : goal.returns-clause-filled
returns-clause-filled c = all_items users_of_row c.args.rows.now c.loop-k.k c.loop-k.heaps _ c.loop-k-test.false c.loop-k.invariant
