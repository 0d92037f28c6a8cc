use Rattle.std.proofs.Common.{Bor, List, ℕ, Err}
use Rattle.enc_meta.proofs.Places.{at_each}
use Rattle.enc_rewriter.specs.Distinct.{may_be_listed}
use Rattle.enc_rewriter.proofs.Copying.{copied_more, copied_past, all_copied}
use Rattle.enc_rewriter.proofs.distinct.copy_all.Goals as goal

pub copy_one-requires : goal.copy_one-requires
copy_one-requires c = at_each (λ (v : Bor (List ℕ)). v.now) (may_be_listed c.args.pass) c.args.values.now c.loop-value.value-index _ c.loop-value-test.true c.requires

pub returns-in-Err-clause-past : goal.returns-in-Err-clause-past
returns-in-Err-clause-past c =
    copied_past (Err c.in-Err.fault) c.args.pass c.args.heaps.now c.loop-value.heaps c.args.values.now c.loop-value.value-index _ c.loop-value-test.true c.loop-value.invariant c.in-Err.ensures.past

pub loop-value-preserved : goal.loop-value-preserved
loop-value-preserved c =
    copied_more c.args.pass c.args.heaps.now c.loop-value.heaps c.copy_one.new.heaps c.args.values.now c.loop-value.value-index _ c.loop-value-test.true c.loop-value.invariant c.in-Ok.ensures.filled

pub returns-clause-filled : goal.returns-clause-filled
returns-clause-filled c = all_copied c.args.pass c.args.heaps.now c.loop-value.heaps c.args.values.now c.loop-value.value-index c.loop-value-test.false c.loop-value.invariant
