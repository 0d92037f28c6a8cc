use Rattle.std.proofs.Common.{◌≡◌, ℕ, ◌++◌, List, length, take, sym, ap, subst, ◌∙◌, arith}
use Rattle.std.proofs.lemmas.List.{append_assoc}
use Rattle.enc_base.proofs.SmallNumbers.{bytes_each}
use Rattle.enc_il.specs.Seen.{section_seen}
use Rattle.enc_opcodes.specs.Clause.{Section}
use Rattle.enc_token_map.specs.Copied.{clauses_moved, AreMoved}
use Rattle.enc_token_map.proofs.CodeMoved.{if_ok}
use Rattle.enc_token_map.proofs.SectionsMoved.{AreMovedUpTo, front_moved, front_of, none_moved, one_more, last_moved, rest_moved, fewer_left}
use Rattle.enc_token_map.proofs.sections.moved_sections.Goals as goal

pub loop-section-init : goal.loop-section-init
loop-section-init g c =
    let f = g.M.Moves.to c.args.moves.now in
    let sections = c.args.sections.now in
    subst (λ xs. AreMovedUpTo f sections xs sections) (sym c.new-out.ensures.items) (none_moved f sections (bytes_each sections c.bytes_law.ensures))

pub loop-section-smaller : goal.loop-section-smaller
loop-section-smaller g c = fewer_left c.loop-section.rest.now (section_seen (c.in-Some.section, c.in-Some.behind)) c.in-Some.ensures.section

pub push_section-requires-clause-head : goal.push_section-requires-clause-head
push_section-requires-clause-head g c =
    let front = front_of c.loop-section.rest.now (section_seen (c.in-Some.section, c.in-Some.behind)) (sym c.in-Some.ensures.section) in
    omega (arith, front.size)

pub push_section-requires-clause-whole : goal.push_section-requires-clause-whole
push_section-requires-clause-whole g c =
    (front_of c.loop-section.rest.now (section_seen (c.in-Some.section, c.in-Some.behind)) (sym c.in-Some.ensures.section)).whole

pub loop-section-preserved : goal.loop-section-preserved
loop-section-preserved g c =
    let f = g.M.Moves.to c.args.moves.now in
    let sections = c.args.sections.now in
    let before = c.loop-section.out.items in
    let left = c.loop-section.rest.now in
    let x : Section × List ℕ = section_seen (c.in-Some.section, c.in-Some.behind) in
    let put : c.push_section.new.out.items ≡ before ++ front_moved f left x.0 = c.in-Ok.ensures
    ∙ append_assoc before (take 4 left) (clauses_moved f x.0.fat x.0.count x.0.clauses) in
    subst (λ xs. AreMovedUpTo f sections xs x.1) (sym put)
    (one_more f sections before left x (g.met.M.Moves.stays c.args.moves.now) (g.met.M.Moves.low c.args.moves.now) (sym c.in-Some.ensures.section)
    c.if-not-section.false c.loop-section.invariant)

pub returns-then-not-section : goal.returns-then-not-section
returns-then-not-section g c =
    let f = g.M.Moves.to c.args.moves.now in
    let sections = c.args.sections.now in
    let before = c.loop-section.out.items in
    let left = c.loop-section.rest.now in
    let x : Section × List ℕ = section_seen (c.in-Some.section, c.in-Some.behind) in
    let put : c.push_section.new.out.items ≡ before ++ front_moved f left x.0 = c.in-Ok.ensures
    ∙ append_assoc before (take 4 left) (clauses_moved f x.0.fat x.0.count x.0.clauses) in
    let all = last_moved f sections before left x (g.met.M.Moves.stays c.args.moves.now) (g.met.M.Moves.low c.args.moves.now) (sym c.in-Some.ensures.section)
    c.if-not-section.true c.loop-section.invariant in
    let same = ap (λ xs. xs ++ x.1) (sym put) in
    record {
      moved = if_ok c.with_rest.result (λ v. v.items ≡ c.push_section.new.out.items ++ x.1) (λ v. AreMoved f sections v.items)
          (λ v e. subst (λ xs. AreMoved f sections xs) (same ∙ sym e) all.0) c.with_rest.ensures;
      size = if_ok c.with_rest.result (λ v. v.items ≡ c.push_section.new.out.items ++ x.1) (λ v. length v.items ≡ length sections)
          (λ v e. subst (λ (xs : List ℕ). length xs ≡ length sections) (same ∙ sym e) all.1) c.with_rest.ensures;
    }

pub returns : goal.returns
returns g c =
    let f = g.M.Moves.to c.args.moves.now in
    let sections = c.args.sections.now in
    let before = c.loop-section.out.items in
    let left = c.loop-section.rest.now in
    let all = rest_moved f sections before left c.in_default.ensures.section c.loop-section.invariant in
    record {
      moved = if_ok c.with_rest-2.result (λ v. v.items ≡ before ++ left) (λ v. AreMoved f sections v.items)
          (λ v e. subst (λ xs. AreMoved f sections xs) (sym e) all.0) c.with_rest-2.ensures;
      size = if_ok c.with_rest-2.result (λ v. v.items ≡ before ++ left) (λ v. length v.items ≡ length sections)
          (λ v e. subst (λ (xs : List ℕ). length xs ≡ length sections) (sym e) all.1) c.with_rest-2.ensures;
    }
