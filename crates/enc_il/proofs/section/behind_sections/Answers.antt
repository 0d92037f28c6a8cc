use Rattle.std.proofs.Common.{◌∙◌, sym, arith}
use Rattle.enc_il.proofs.Sections.{behind_none, behind_last, behind_more}
use Rattle.enc_il.proofs.section.behind_sections.Goals as goal

pub returns-then-not-section-clause-behind : goal.returns-then-not-section-clause-behind
returns-then-not-section-clause-behind c =
    let last = behind_last _ _ (sym c.in-Some.ensures.section) c.if-not-section.true in
    sym (c.loop-section.invariant.same ∙ last)

pub loop-section-preserved : goal.loop-section-preserved
loop-section-preserved c =
    let more = behind_more _ _ (sym c.in-Some.ensures.section) c.if-not-section.false in
    record { same = c.loop-section.invariant.same ∙ more; within = omega (arith, c.loop-section.invariant.within, c.in-Some.ensures.shorter) }

pub returns-clause-behind : goal.returns-clause-behind
returns-clause-behind c = sym (c.loop-section.invariant.same ∙ behind_none _ (sym c.in_default.ensures.section))
