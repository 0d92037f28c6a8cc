use Rattle.std.proofs.Common.{ℕ, List, sym, ◌∙◌, length}
use Rattle.std.specs.Prelude.{min}
use Rattle.enc_opcodes.specs.Clause.{Section, clauses_of}
use Rattle.enc_il.specs.Seen.{section_seen}
use Rattle.enc_il.proofs.Sections.{whole_more}
use Rattle.enc_rewriter.specs.Weight.{most_weight}
use Rattle.enc_rewriter.proofs.ClausesKnown.{never_none}
use Rattle.enc_rewriter.proofs.Weights.{last_counted, section_counted}
use Rattle.enc_rewriter.proofs.weight.clauses_in_sections.Goals as goal

pub returns-then-not-section : goal.returns-then-not-section
returns-then-not-section c =
    let x : Section × List ℕ = section_seen (c.in-Some.section, c.in-Some.behind) in
    last_counted c.loop-section.rest.now x c.loop-section.sum c.capped-sum.result (min most_weight (length (clauses_of c.args.sections.now))) (sym c.in-Some.ensures.section) c.if-not-section.true c.loop-section.invariant.0 c.capped-sum.ensures.capped

pub loop-section-preserved : goal.loop-section-preserved
loop-section-preserved c =
    let x : Section × List ℕ = section_seen (c.in-Some.section, c.in-Some.behind) in (
      section_counted c.loop-section.rest.now x c.loop-section.sum c.capped-sum.result (min most_weight (length (clauses_of c.args.sections.now))) (sym c.in-Some.ensures.section) c.if-not-section.false c.loop-section.invariant.2 c.loop-section.invariant.0 c.capped-sum.ensures.capped,
      c.capped-sum.ensures.most,
      sym (whole_more c.loop-section.rest.now x (sym c.in-Some.ensures.section) c.if-not-section.false) ∙ c.loop-section.invariant.2,
    )

pub returns : goal.returns
returns c = absurd (never_none c.loop-section.rest.now (sym c.in_default.ensures.section) c.loop-section.invariant.2)
