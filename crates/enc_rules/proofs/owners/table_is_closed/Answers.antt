use Rattle.std.proofs.Common.{◌≡◌, ◌<◌, ◌≤◌, length, Some, refl, sym, ◌∙◌}
use Rattle.std.specs.Prelude.{slice_get}
use Rattle.std.proofs.lemmas.Option.{slice_get_read}
use Rattle.enc_rules.specs.Rules.{table_is_closed}
use Rattle.enc_rules.proofs.FirstSuch.{such_none, such_more, such_found, such_end}
use Rattle.enc_rules.proofs.RowsEdited.{table_is}
use Rattle.enc_rules.proofs.owners.table_is_closed.Goals as goal

pub loop-k-init : goal.loop-k-init
loop-k-init g c = such_none (table_is_closed c.args.context.now.chain c.args.context.now.list)

pub returns-then-table_breaks-clause-first : goal.returns-then-table_breaks-clause-first
returns-then-table_breaks-clause-first g c =
    let chain = c.args.context.now.chain in
    let list = c.args.context.now.list in
    let there : slice_get list.edits c.loop-k.k ≡ Some c.index-edits-k.result = rw c.edits-edits.ensures.edits at (slice_get_read c.edits-edits.result.now _ c.loop-k.k c.index-edits-k.result refl c.loop-k-test.true c.index-edits-k.is) in
    let low : c.loop-k.k < length list.edits = rw c.edits-edits.ensures.edits at c.loop-k-test.true in
    such_found (table_is_closed chain list) (length list.edits) c.loop-k.k low c.loop-k.invariant (table_is chain list c.loop-k.k c.index-edits-k.result there ∙ sym c.table_breaks.ensures ∙ c.if-table_breaks.true)

pub loop-k-preserved : goal.loop-k-preserved
loop-k-preserved g c =
    let chain = c.args.context.now.chain in
    let list = c.args.context.now.list in
    let there : slice_get list.edits c.loop-k.k ≡ Some c.index-edits-k.result = rw c.edits-edits.ensures.edits at (slice_get_read c.edits-edits.result.now _ c.loop-k.k c.index-edits-k.result refl c.loop-k-test.true c.index-edits-k.is) in
    such_more (table_is_closed chain list) c.loop-k.k c.loop-k.invariant (table_is chain list c.loop-k.k c.index-edits-k.result there ∙ sym c.table_breaks.ensures ∙ c.if-table_breaks.false)

pub returns-clause-first : goal.returns-clause-first
returns-clause-first g c =
    let list = c.args.context.now.list in
    let low : c.loop-k.k ≤ length list.edits = rw c.edits-edits.ensures.edits at c.loop-k.auto.k-end in
    let high : length list.edits ≤ c.loop-k.k = rw c.edits-edits.ensures.edits at c.loop-k-test.false in
    such_end (table_is_closed c.args.context.now.chain list) (length list.edits) c.loop-k.k low high c.loop-k.invariant
