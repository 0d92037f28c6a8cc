use Rattle.std.proofs.Common.{◌≡◌, ◌+◌, ◌-◌, ◌++◌, ◌∷◌, [], map, drop, ap, ◌∙◌, arith}
use Rattle.enc_opcodes.specs.Clause.{clauses_in}
use Rattle.enc_rewriter.specs.Standing.{known_as}
use Rattle.enc_rewriter.proofs.ClausesKnown.{one_fits, more_known, none_known}
use Rattle.enc_rewriter.proofs.bodies.push_clauses.Goals as goal

pub loop-i-preserved : goal.loop-i-preserved
loop-i-preserved c =
    let s = c.args.section.now in
    let first = c.args.all.now.items ++ map known_as (clauses_in s.fat s.count s.clauses.now) in
    let clause : c.known.result ≡ known_as c.clause_front.result = c.known.ensures.known in
    let pushed : c.push.new.self.items ≡ c.loop-i.all.items ++ c.known.result ∷ [] = c.in_ok-push.ensures.items in
    let rest : c.rest_at-rest.result.now ≡ drop c.clause_size.result c.loop-i.rest.now = c.rest_at-rest.ensures in (
      ap (λ xs. c.push.new.self.items ++ map known_as (clauses_in s.fat (s.count - (c.loop-i.i + 1)) xs)) (rest ∙ ap (λ n. drop n c.loop-i.rest.now) c.clause_size.ensures.size)
          ∙ more_known s.fat (s.count - c.loop-i.i) (s.count - (c.loop-i.i + 1)) c.loop-i.rest.now c.loop-i.all.items c.push.new.self.items first
          (omega (arith, c.loop-i-test.true)) c.loop-i.invariant.0 (pushed ∙ ap (λ x. c.loop-i.all.items ++ x ∷ []) (clause ∙ ap known_as c.clause_front.ensures)),
      one_fits c.loop-i.all.items c.push.new.self.items c.known.result c.loop-i.invariant.1 c.known.ensures.fits pushed,
    )

pub returns-clause-all : goal.returns-clause-all
returns-clause-all c =
    let s = c.args.section.now in
    none_known s.fat (s.count - c.loop-i.i) c.loop-i.rest.now c.loop-i.all.items (c.args.all.now.items ++ map known_as (clauses_in s.fat s.count s.clauses.now)) (omega (arith, c.loop-i-test.false)) c.loop-i.invariant.0
