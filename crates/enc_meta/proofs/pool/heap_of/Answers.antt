use Rattle.std.proofs.Common.{rules}
use Rattle.enc_meta.specs.Built.{heap_bytes}
use Rattle.enc_meta.specs.Pools.{encoded, value_is_good}
use Rattle.enc_meta.proofs.Places.{at_each, heap_more}
use Rattle.enc_meta.proofs.pool.heap_of.Goals as goal

pub push-requires-in-loop-value : goal.push-requires-in-loop-value
push-requires-in-loop-value c =
    rw (c.deref.ensures.value, c.value-item.is) (at_each (λ v. v.items) (value_is_good c.args.form) c.args.values.now c.loop-value.value-index c.value-item.result c.loop-value-test.true c.requires)

pub loop-value-init : goal.loop-value-init
unfolding heap_bytes
loop-value-init c = search rules

pub loop-value-preserved : goal.loop-value-preserved
loop-value-preserved c =
    let more = heap_more (λ v. v.items) (encoded c.args.form) c.args.values.now c.loop-value.value-index c.value-item.result c.loop-value-test.true in
    rw (more, ← c.value-item.is, ← c.deref.ensures.value, ← c.loop-value.invariant) c.in_ok-push-2.ensures
