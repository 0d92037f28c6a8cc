use Rattle.std.proofs.Common.{take, drop, ap, ◌∙◌, arith}
use Rattle.enc_il.proofs.SectionsWritten.{step_more}
use Rattle.enc_il.proofs.write.push_sections.Goals as goal

pub loop-rest-preserved : goal.loop-rest-preserved
loop-rest-preserved c =
    let most = c.most_clauses-most.ensures.most in
    let split = c.split_at.ensures in
    record {
      some = omega (arith, split.back_len, c.loop-rest-test.true);
      written = step_more c.loop-rest.rest.now _ _ _ _ _ (omega (arith, most, c.loop-rest-test.true)) (split.front ∙ ap (λ n. take n c.loop-rest.rest.now) most) (split.back ∙ ap (λ n. drop n c.loop-rest.rest.now) most) c.loop-rest.invariant.written c.in_ok-push_section.ensures;
    }
