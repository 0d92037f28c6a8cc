use Rattle.std.proofs.Common.{◌≡◌, ◌+◌, ◌-◌, ◌*◌, ◌++◌, suc, length, drop, sym, ap, subst, ◌∙◌, arith}
use Rattle.enc_opcodes.specs.Clause.{clause_size}
use Rattle.enc_token_map.specs.Copied.{clauses_moved}
use Rattle.enc_token_map.proofs.ClausesMoved.{more_put, none_put, left_size, one_there}
use Rattle.enc_token_map.proofs.sections.push_clauses.Goals as goal

pub push_clause-requires : goal.push_clause-requires
push_clause-requires g c =
    let s = c.args.section.now in
    one_there s.fat (s.count - c.loop-i.i) c.loop-i.rest.now (omega (arith, c.loop-i-test.true)) c.loop-i.invariant.1

pub loop-i-preserved : goal.loop-i-preserved
loop-i-preserved g c =
    let f = g.M.Moves.to c.args.moves.now in
    let s = c.args.section.now in
    let rest = c.loop-i.rest.now in
    let m = s.count - (c.loop-i.i + 1) in
    let all = c.args.out.now.items ++ clauses_moved f s.fat s.count s.clauses.now in
    let is : s.count - c.loop-i.i ≡ suc m = omega (arith, c.loop-i-test.true) in
    let left : drop (clause_size s.fat) rest ≡ c.rest_at-rest.result.now = sym (c.rest_at-rest.ensures ∙ ap (λ n. drop n rest) c.clause_size.ensures.size) in (
      subst (λ xs. c.push_clause.new.out.items ++ clauses_moved f s.fat m xs ≡ all) left
          (subst (λ xs. xs ++ clauses_moved f s.fat m (drop (clause_size s.fat) rest) ≡ all) (sym c.in-Ok.ensures)
          (more_put f s.fat (s.count - c.loop-i.i) m rest c.loop-i.out.items all is c.loop-i.invariant.0)),
      subst (λ xs. length xs ≡ clause_size s.fat * m) left (left_size s.fat (s.count - c.loop-i.i) m rest is c.loop-i.invariant.1),
    )

pub returns : goal.returns
returns g c =
    let f = g.M.Moves.to c.args.moves.now in
    let s = c.args.section.now in
    none_put f s.fat (s.count - c.loop-i.i) c.loop-i.rest.now c.loop-i.out.items (c.args.out.now.items ++ clauses_moved f s.fat s.count s.clauses.now)
    (omega (arith, c.loop-i-test.false)) c.loop-i.invariant.0
