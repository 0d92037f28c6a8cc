use Rattle.std.proofs.Common.{◌∙◌, sym, ap}
use Rattle.std.specs.Prelude.{slice_get}
use Rattle.enc_il.proofs.Sections.{clause_here, clause_past, clause_behind, clauses_none, all_none, whole_more}
use Rattle.enc_il.proofs.clauses.clause_in_sections.Goals as goal

pub returns-then-left-section : goal.returns-then-left-section
returns-then-left-section c =
    let here = clause_here _ _ c.loop-section.left (sym c.in-Some.ensures.section) c.loop-section.invariant.whole c.if-left-section.true in
    c.nth.ensures ∙ sym (c.loop-section.invariant.same ∙ here)

pub returns-then-not-section : goal.returns-then-not-section
returns-then-not-section c =
    let past = clause_past _ _ c.loop-section.left (sym c.in-Some.ensures.section) c.if-not-section.true c.if-left-section.false in
    sym (c.loop-section.invariant.same ∙ past)

pub loop-section-preserved : goal.loop-section-preserved
loop-section-preserved c =
    let is = sym c.in-Some.ensures.section in
    let same = clause_behind _ _ c.loop-section.left is c.if-not-section.false c.loop-section.invariant.whole c.if-left-section.false in
    let whole = whole_more _ _ is c.if-not-section.false in
    record { same = c.loop-section.invariant.same ∙ same; whole = sym whole ∙ c.loop-section.invariant.whole }

pub returns : goal.returns
returns c =
    let none = clauses_none _ (all_none _ (sym c.in_default.ensures.section)) in
    sym (c.loop-section.invariant.same ∙ ap (λ xs. slice_get xs c.loop-section.left) none)
