use Rattle.std.proofs.Common.{◌≡◌, ◌<◌, ◌≤◌, length, Some, refl, sym, ◌∙◌}
use Rattle.std.specs.Prelude.{slice_get}
use Rattle.std.proofs.lemmas.Option.{slice_get_read}
use Rattle.enc_rules.specs.Rules.{owner_is_missing}
use Rattle.enc_rules.proofs.FirstSuch.{such_none, such_more, such_found, such_end}
use Rattle.enc_rules.proofs.RowsEdited.{owner_is}
use Rattle.enc_rules.proofs.owners.owner_is_missing.Goals as goal

pub loop-k-init : goal.loop-k-init
loop-k-init g c = such_none (owner_is_missing c.args.context.now.chain c.args.context.now.list)

pub returns-then-owner_breaks-clause-first : goal.returns-then-owner_breaks-clause-first
returns-then-owner_breaks-clause-first g c =
    let chain = c.args.context.now.chain in
    let list = c.args.context.now.list in
    let there : slice_get list.edits c.loop-k.k ≡ Some c.index-edits-k.result = rw c.edits-edits.ensures.edits at (slice_get_read c.edits-edits.result.now _ c.loop-k.k c.index-edits-k.result refl c.loop-k-test.true c.index-edits-k.is) in
    let low : c.loop-k.k < length list.edits = rw c.edits-edits.ensures.edits at c.loop-k-test.true in
    such_found (owner_is_missing chain list) (length list.edits) c.loop-k.k low c.loop-k.invariant (owner_is chain list c.loop-k.k c.index-edits-k.result there ∙ sym c.owner_breaks.ensures ∙ c.if-owner_breaks.true)

pub loop-k-preserved : goal.loop-k-preserved
loop-k-preserved g c =
    let chain = c.args.context.now.chain in
    let list = c.args.context.now.list in
    let there : slice_get list.edits c.loop-k.k ≡ Some c.index-edits-k.result = rw c.edits-edits.ensures.edits at (slice_get_read c.edits-edits.result.now _ c.loop-k.k c.index-edits-k.result refl c.loop-k-test.true c.index-edits-k.is) in
    such_more (owner_is_missing chain list) c.loop-k.k c.loop-k.invariant (owner_is chain list c.loop-k.k c.index-edits-k.result there ∙ sym c.owner_breaks.ensures ∙ c.if-owner_breaks.false)

pub returns-clause-first : goal.returns-clause-first
returns-clause-first g c =
    let list = c.args.context.now.list in
    let low : c.loop-k.k ≤ length list.edits = rw c.edits-edits.ensures.edits at c.loop-k.auto.k-end in
    let high : length list.edits ≤ c.loop-k.k = rw c.edits-edits.ensures.edits at c.loop-k-test.false in
    such_end (owner_is_missing c.args.context.now.chain list) (length list.edits) c.loop-k.k low high c.loop-k.invariant
