use Rattle.std.proofs.Common.{length, Err, refl, sym, ap, ◌∙◌}
use Rattle.std.proofs.lemmas.Option.{slice_get_read}
use Rattle.enc_rewriter.specs.Values.{with_all}
use Rattle.enc_rewriter.specs.declared.pass.Pass.TheVariants.{Users}
use Rattle.enc_memory_module.proofs.Gathering.{named_by, named_placed, next_item, past_item, all_items}
use Rattle.enc_memory_module.proofs.encode.add_code.Goals as goal

pub returns-in-Err-clause-past : goal.returns-in-Err-clause-past
returns-in-Err-clause-past c =
    let there = slice_get_read c.args.code.now (length c.args.code.now) c.loop-k.k c.index-code-k.result refl c.loop-k-test.true c.index-code-k.is in
    rw (named_placed 0 c.args.code.now) (past_item named_by c.args.code.now c.loop-k.k c.index-code-k.result c.loop-k.heaps _ (Err c.in-Err.fault) there c.loop-k.invariant c.in-Err.ensures.past)

pub loop-k-preserved : goal.loop-k-preserved
loop-k-preserved c =
    let there = slice_get_read c.args.code.now (length c.args.code.now) c.loop-k.k c.index-code-k.result refl c.loop-k-test.true c.index-code-k.is in
    next_item named_by c.args.code.now c.loop-k.k c.index-code-k.result c.loop-k.heaps c.add_argument.new.heaps _ there c.loop-k.invariant c.in-Ok.ensures.filled

pub returns-clause-filled : goal.returns-clause-filled
returns-clause-filled c = all_items named_by c.args.code.now c.loop-k.k c.loop-k.heaps _ c.loop-k-test.false (c.loop-k.invariant ∙ ap (with_all Users c.args.heaps.now) (sym (named_placed 0 c.args.code.now)))
