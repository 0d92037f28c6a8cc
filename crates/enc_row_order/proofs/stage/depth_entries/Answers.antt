use Rattle.std.proofs.Common.{◌≡◌, arith}
use Rattle.std.specs.Prelude.{length}
use Rattle.enc_row_order.proofs.Staged.{no_front, more_front, all_front}
use Rattle.enc_row_order.proofs.stage.depth_entries.Goals as goal

pub loop-i-init : goal.loop-i-init
loop-i-init c = no_front c.args.depths.now _ c.in_ok-entries.ensures.items

pub loop-i-preserved : goal.loop-i-preserved
loop-i-preserved c = more_front c.args.depths.now c.loop-i.i c.loop-i.entries.items _ _ c.loop-i.invariant c.from.ensures c.in_ok-push.ensures.items

pub returns : goal.returns
returns c =
    let all : c.loop-i.i ≡ length c.args.depths.now = omega (arith, c.loop-i-test.false, c.loop-i.auto.i-end) in
    all_front c.args.depths.now c.loop-i.i c.loop-i.entries.items all c.loop-i.invariant
