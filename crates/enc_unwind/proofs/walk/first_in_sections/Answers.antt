use Rattle.std.proofs.Common.{ℕ, List, sym, ◌∙◌, arith}
use Rattle.enc_il.specs.Seen.{section_seen}
use Rattle.enc_il.proofs.Sections.{all_none, whole_more}
use Rattle.enc_opcodes.specs.Clause.{Section}
use Rattle.enc_unwind.proofs.Counted.{section_counted}
use Rattle.enc_unwind.proofs.Found.{section_last, section_passed, section_found, nothing_found}
use Rattle.enc_unwind.proofs.walk.first_in_sections.Goals as goal

pub first_in-found-requires : goal.first_in-found-requires
first_in-found-requires g c =
    let x : Section × List ℕ = section_seen (c.in-Some.section, c.in-Some.behind) in
    omega (arith, section_counted c.loop-section.rest.now x (sym c.in-Some.ensures.section), c.loop-section.invariant.few, c.requires.few)

pub returns-then-is_some : goal.returns-then-is_some
returns-then-is_some g c =
    let x : Section × List ℕ = section_seen (c.in-Some.section, c.in-Some.behind) in
    section_found (g.T.ClauseTest.test c.args.test.now) c.loop-section.first c.loop-section.rest.now x c.first_in-found.result _ (sym c.in-Some.ensures.section) c.loop-section.invariant.whole c.first_in-found.ensures
    (sym c.is_some.ensures ∙ c.if-is_some.true) c.loop-section.invariant.same

pub returns-then-not-section : goal.returns-then-not-section
returns-then-not-section g c =
    let x : Section × List ℕ = section_seen (c.in-Some.section, c.in-Some.behind) in
    section_last (g.T.ClauseTest.test c.args.test.now) c.loop-section.first c.loop-section.rest.now x c.first_in-found.result _ (sym c.in-Some.ensures.section) c.if-not-section.true c.first_in-found.ensures
    (sym c.is_some.ensures ∙ c.if-is_some.false) c.loop-section.invariant.same

pub overflow_add-first : goal.overflow_add-first
overflow_add-first g c =
    let x : Section × List ℕ = section_seen (c.in-Some.section, c.in-Some.behind) in
    omega (arith, section_counted c.loop-section.rest.now x (sym c.in-Some.ensures.section), c.loop-section.invariant.few, c.requires.few)

pub loop-section-preserved : goal.loop-section-preserved
loop-section-preserved g c =
    let x : Section × List ℕ = section_seen (c.in-Some.section, c.in-Some.behind) in
    let is = sym c.in-Some.ensures.section in
    record {
      same = section_passed (g.T.ClauseTest.test c.args.test.now) c.loop-section.first c.loop-section.rest.now x c.first_in-found.result _ is c.if-not-section.false c.loop-section.invariant.whole c.first_in-found.ensures
          (sym c.is_some.ensures ∙ c.if-is_some.false) c.loop-section.invariant.same;
      whole = sym (whole_more c.loop-section.rest.now x is c.if-not-section.false) ∙ c.loop-section.invariant.whole;
      few = omega (arith, section_counted c.loop-section.rest.now x is, c.loop-section.invariant.few);
    }

pub returns : goal.returns
returns g c =
    sym (nothing_found (g.T.ClauseTest.test c.args.test.now) c.loop-section.first c.loop-section.rest.now (all_none c.loop-section.rest.now (sym c.in_default.ensures.section)))
    ∙ c.loop-section.invariant.same
