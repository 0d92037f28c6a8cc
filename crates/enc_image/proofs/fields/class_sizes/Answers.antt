use Rattle.std.proofs.Common.{◌≡◌, length, ap, ◌∙◌, arith}
use Rattle.std.proofs.lemmas.List.{length-replicate}
use Rattle.enc_rows.specs.Layout.{rows_of}
use Rattle.enc_image.specs.Base.{size_of_class}
use Rattle.enc_image.proofs.Sizes.{only_none, size_none, size_more}
use Rattle.enc_image.proofs.fields.class_sizes.Goals as goal

pub loop-r-init : goal.loop-r-init
loop-r-init c =
    let none = c.in_ok-sizes.ensures.items_if_clones_equal (only_none _ (λ x same. same)) in
    record {
      many = ap length none ∙ length-replicate _ _ ∙ omega (arith, c.count.ensures.count);
      each = λ t there. size_none _ _ t _ none there;
    }

pub loop-r-preserved : goal.loop-r-preserved
loop-r-preserved c = record {
  many = c.keep_first.ensures.length ∙ c.loop-r.invariant.many;
  each = λ t there. size_more _ t c.loop-r.r _ _ _ _ c.number_in.ensures c.number_in-in-loop-r.ensures (c.loop-r.invariant.each t (omega (arith, there, c.keep_first.ensures.length))) (c.keep_first.ensures.each t (omega (arith, there, c.keep_first.ensures.length)));
}

pub returns-clause-each : goal.returns-clause-each
unfolding size_of_class
returns-clause-each c =
    let end : rows_of c.args.cells.now.tables.now 0x0F ≡ c.loop-r.r = omega (arith, c.loop-r-test.false, c.loop-r.auto.r-end, c.count-r-end.ensures.count) in
    λ t there. rw end (c.loop-r.invariant.each t there)
