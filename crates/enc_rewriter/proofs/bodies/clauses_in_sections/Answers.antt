use Rattle.std.proofs.Common.{ℕ, List, map, sym, ◌∙◌}
use Rattle.enc_opcodes.specs.Clause.{Section, clauses_of}
use Rattle.enc_il.specs.Seen.{section_seen}
use Rattle.enc_il.proofs.Sections.{whole_more}
use Rattle.enc_rewriter.specs.Standing.{known_as}
use Rattle.enc_rewriter.proofs.ClausesKnown.{last_known, section_known, never_none}
use Rattle.enc_rewriter.proofs.bodies.clauses_in_sections.Goals as goal

pub returns-then-not-section-clause-all : goal.returns-then-not-section-clause-all
returns-then-not-section-clause-all c =
    let x : Section × List ℕ = section_seen (c.in-Some.section, c.in-Some.behind) in
    last_known c.loop-section.rest.now x c.loop-section.all.items c.push_clauses.new.all.items (map known_as (clauses_of c.args.sections.now)) (sym c.in-Some.ensures.section) c.if-not-section.true c.loop-section.invariant.0 c.in-Ok.ensures.all

pub loop-section-preserved : goal.loop-section-preserved
loop-section-preserved c =
    let x : Section × List ℕ = section_seen (c.in-Some.section, c.in-Some.behind) in (
      section_known c.loop-section.rest.now x c.loop-section.all.items c.push_clauses.new.all.items (map known_as (clauses_of c.args.sections.now)) (sym c.in-Some.ensures.section) c.if-not-section.false c.loop-section.invariant.2 c.loop-section.invariant.0 c.in-Ok.ensures.all,
      c.in-Ok.ensures.fit,
      sym (whole_more c.loop-section.rest.now x (sym c.in-Some.ensures.section) c.if-not-section.false) ∙ c.loop-section.invariant.2,
    )

pub returns : goal.returns
returns c = absurd (never_none c.loop-section.rest.now (sym c.in_default.ensures.section) c.loop-section.invariant.2)
