use Rattle.std.proofs.Common.{ℕ, List, sym, ◌∙◌}
use Rattle.enc_opcodes.specs.Clause.{Section}
use Rattle.enc_il.specs.Seen.{section_seen}
use Rattle.enc_il.proofs.Sections.{whole_more}
use Rattle.enc_machine_types.specs.Filters.{filters}
use Rattle.enc_machine_types.proofs.FilterClauses.{section_filters, last_section, section_passes, never_none}
use Rattle.enc_machine_types.proofs.runs.filters_in_sections.Goals as goal

pub returns-then-filters_in : goal.returns-then-filters_in
returns-then-filters_in c =
    sym (section_filters filters c.loop-section.rest.now (section_seen (c.in-Some.section, c.in-Some.behind)) (sym c.in-Some.ensures.section) c.loop-section.invariant.whole (sym c.if-filters_in.ensures))
    ∙ c.loop-section.invariant.same

pub returns-then-not-section : goal.returns-then-not-section
returns-then-not-section c =
    c.if-filters_in.ensures
    ∙ sym (last_section filters c.loop-section.rest.now (section_seen (c.in-Some.section, c.in-Some.behind)) (sym c.in-Some.ensures.section) c.if-not-section.true)
    ∙ c.loop-section.invariant.same

pub loop-section-preserved : goal.loop-section-preserved
loop-section-preserved c =
    let x : Section × List ℕ = section_seen (c.in-Some.section, c.in-Some.behind) in
    record {
      same = sym (section_passes filters c.loop-section.rest.now x (sym c.in-Some.ensures.section) c.if-not-section.false c.loop-section.invariant.whole (sym c.if-filters_in.ensures)) ∙ c.loop-section.invariant.same;
      whole = sym (whole_more c.loop-section.rest.now x (sym c.in-Some.ensures.section) c.if-not-section.false) ∙ c.loop-section.invariant.whole;
    }

pub returns : goal.returns
returns c = absurd (never_none c.loop-section.rest.now (sym c.in_default.ensures.section) c.loop-section.invariant.whole)
