use Rattle.std.proofs.Common.{ℕ, List, sym, ◌∙◌}
use Rattle.enc_opcodes.specs.Clause.{Section}
use Rattle.enc_il.specs.Seen.{section_seen}
use Rattle.enc_il.proofs.Sections.{whole_more}
use Rattle.enc_text.proofs.BodyLists.{never_none}
use Rattle.enc_c.proofs.ClauseLists.{section_last, section_more}
use Rattle.enc_c.proofs.clauses.push_sections.Goals as goal

pub returns-then-not-section : goal.returns-then-not-section
returns-then-not-section c =
    section_last c.loop-section.rest.now (section_seen (c.in-Some.section, c.in-Some.behind)) _ _ _ (sym c.in-Some.ensures.section)
    c.if-not-section.true c.in_ok-push_section.ensures c.loop-section.invariant.same

pub loop-section-preserved : goal.loop-section-preserved
loop-section-preserved c =
    let x : Section × List ℕ = section_seen (c.in-Some.section, c.in-Some.behind) in
    record {
      same = section_more c.loop-section.rest.now x _ _ _ (sym c.in-Some.ensures.section) c.if-not-section.false c.loop-section.invariant.whole
          c.in_ok-push_section.ensures c.loop-section.invariant.same;
      whole = sym (whole_more c.loop-section.rest.now x (sym c.in-Some.ensures.section) c.if-not-section.false) ∙ c.loop-section.invariant.whole;
    }

pub returns : goal.returns
returns c = absurd (never_none c.loop-section.rest.now (sym c.in_default.ensures.section) c.loop-section.invariant.whole)
