use Rattle.std.proofs.Common.{◌<◌, length, map, refl, sym, ap, ◌∙◌, arith}
use Rattle.std.proofs.lemmas.List.{take_all}
use Rattle.std.proofs.lemmas.Option.{slice_get_read, slice_get-get_or}
use Rattle.enc_delta.specs.Members.{pair_seen}
use Rattle.enc_rules.proofs.RowsEdited.{attached_none, attached_next, rows_all}
use Rattle.enc_rules.proofs.RowsFew.{are_pairs}
use Rattle.enc_rules.proofs.rows.pairs_of.Goals as goal

pub loop-k-init : goal.loop-k-init
loop-k-init g c = ap (map pair_seen) c.new-pairs.ensures.items ∙ sym (attached_none (g.C.ChainView.chain c.args.chain.now).plain)

pub bounds-rows-k : goal.bounds-rows-k
bounds-rows-k g c = omega (arith, ap length c.requires.rows, rows_all (g.C.ChainView.chain c.args.chain.now).plain c.args.edits.now)

pub loop-k-preserved : goal.loop-k-preserved
loop-k-preserved g c =
    let m = (g.C.ChainView.chain c.args.chain.now).plain in
    let there = slice_get_read c.args.edits.now (length c.args.edits.now) c.loop-k.k c.index-edits-k.result refl c.loop-k-test.true c.index-edits-k.is in
    let low : c.loop-k.k < length c.args.rows.now = omega (arith, ap length c.requires.rows, rows_all m c.args.edits.now) in
    let here = slice_get-get_or c.args.rows.now c.loop-k.k (record { table = 0; row = 0 }) low in
    attached_next m c.args.edits.now c.loop-k.k c.index-edits-k.result c.args.rows.now _ (map pair_seen c.loop-k.pairs.items) _ c.loop-k.invariant there c.requires.rows here c.in_ok-push_pair.ensures

pub returns-clause-few : goal.returns-clause-few
returns-clause-few g c = are_pairs (g.C.ChainView.chain c.args.chain.now) c.args.edits.now c.loop-k.pairs.items c.requires.form c.requires.few (rw (take_all c.loop-k.k c.args.edits.now c.loop-k-test.false) at c.loop-k.invariant)
