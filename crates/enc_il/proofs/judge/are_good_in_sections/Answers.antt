use Rattle.std.proofs.Common.{ℕ, List, sym, ◌∙◌}
use Rattle.std.specs.Prelude.{slice_index}
use Rattle.enc_opcodes.specs.Body.{clause_is_good}
use Rattle.enc_opcodes.specs.Clause.{Section}
use Rattle.enc_il.specs.Judged.{mark_at}
use Rattle.enc_il.specs.Seen.{section_seen}
use Rattle.enc_il.proofs.Sections.{whole_more}
use Rattle.enc_il.proofs.Goods.{bad_section, last_section, good_section, never_none}
use Rattle.enc_il.proofs.judge.are_good_in_sections.Goals as goal

pub returns-then-not-are_good_in : goal.returns-then-not-are_good_in
returns-then-not-are_good_in c =
    sym (bad_section (clause_is_good (slice_index c.args.counts.now.rows) (mark_at c.args.marks.now) c.args.size) c.loop-section.rest.now (section_seen (c.in-Some.section, c.in-Some.behind)) (sym c.in-Some.ensures.section) c.loop-section.invariant.whole (sym c.if-not-are_good_in.ensures))
    ∙ c.loop-section.invariant.same

pub returns-then-not-section : goal.returns-then-not-section
returns-then-not-section c =
    c.if-not-are_good_in.ensures
    ∙ sym (last_section (clause_is_good (slice_index c.args.counts.now.rows) (mark_at c.args.marks.now) c.args.size) c.loop-section.rest.now (section_seen (c.in-Some.section, c.in-Some.behind)) (sym c.in-Some.ensures.section) c.if-not-section.true)
    ∙ c.loop-section.invariant.same

pub loop-section-preserved : goal.loop-section-preserved
loop-section-preserved c =
    let x : Section × List ℕ = section_seen (c.in-Some.section, c.in-Some.behind) in
    record {
      same = sym (good_section (clause_is_good (slice_index c.args.counts.now.rows) (mark_at c.args.marks.now) c.args.size) c.loop-section.rest.now x (sym c.in-Some.ensures.section) c.if-not-section.false c.loop-section.invariant.whole (sym c.if-not-are_good_in.ensures)) ∙ c.loop-section.invariant.same;
      whole = sym (whole_more c.loop-section.rest.now x (sym c.in-Some.ensures.section) c.if-not-section.false) ∙ c.loop-section.invariant.whole;
    }

pub returns : goal.returns
returns c = absurd (never_none c.loop-section.rest.now (sym c.in_default.ensures.section) c.loop-section.invariant.whole)
