use Rattle.std.proofs.Common.{sym, ◌∙◌, arith}
use Rattle.std.proofs.lemmas.Bool.Decides.{nat_tests}
use Rattle.enc_delta.specs.Delta.{map_in}
use Rattle.enc_delta.proofs.Placing.{place_start, place_module, place_table, place_row, place_found, place_end}
use Rattle.enc_delta.proofs.delta.Delta.place_by_scan.Goals as goal
use Rattle.enc_delta.proofs.delta.Delta.place_by_scan.Goals.{then-is_module-via-then-is_module, then-is_module-via-else-is_module+then-listed-token}

pub loop-i-init : goal.loop-i-init
loop-i-init c = (place_start c.args.self.now c.args.token, omega arith)

pub loop-i-preserved-then-is_module : goal.loop-i-preserved-then-is_module
loop-i-preserved-then-is_module c =
    elim c.then-is_module.branch [
      | then-is_module-via-then-is_module w ↦ (place_module c.loop-i.before c.loop-i.i (map_in c.args.self.now) c.token-listed.result c.args.token _ c.token-listed.ensures.token (sym c.is_module.ensures ∙ w.if-is_module.true) c.loop-i.invariant.0, omega (arith, c.loop-i.invariant.1))
      | then-is_module-via-else-is_module+then-listed-token w ↦ (place_table c.loop-i.before c.loop-i.i (map_in c.args.self.now) c.token-listed.result c.args.token _ c.token-listed.ensures.token (sym c.is_module.ensures ∙ w.if-is_module.false) (grind (arith, nat_tests, w.if-listed-token.true)) c.loop-i.invariant.0, omega (arith, c.loop-i.invariant.1))
    ]

pub returns-then-listed-token-2 : goal.returns-then-listed-token-2
returns-then-listed-token-2 c = place_found c.loop-i.before c.loop-i.i (map_in c.args.self.now) c.token-listed.result c.args.token _ c.token-listed.ensures.token (sym c.is_module.ensures ∙ c.if-is_module.false) (grind (arith, nat_tests, c.if-listed-token.false)) (grind (arith, nat_tests, c.if-listed-token-2.true)) c.loop-i.invariant.0

pub loop-i-preserved : goal.loop-i-preserved
loop-i-preserved c = (place_row c.loop-i.before c.loop-i.i (map_in c.args.self.now) c.token-listed.result c.args.token _ c.token-listed.ensures.token (sym c.is_module.ensures ∙ c.if-is_module.false) (grind (arith, nat_tests, c.if-listed-token.false)) (grind (arith, nat_tests, c.if-listed-token-2.false)) c.loop-i.invariant.0, omega (arith, c.loop-i.invariant.1))

pub returns : goal.returns
returns c = place_end c.loop-i.before c.loop-i.i c.args.self.now c.args.token _ (omega (arith, c.map_len-i-end.ensures.count, c.loop-i-test.false)) c.loop-i.invariant.0
