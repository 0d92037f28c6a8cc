use Rattle.std.proofs.Common.{length, refl, sym, ap, ◌∙◌, arith}
use Rattle.std.specs.Prelude.{not, nat_lt}
use Rattle.std.proofs.lemmas.Bool.Decides.{nat_tests}
use Rattle.enc_base.specs.declared.token.Token.{Token}
use Rattle.enc_delta.specs.Delta.{is_module, map_token}
use Rattle.enc_delta.proofs.Listed.{tokens_none, more_kept, more_left, more_rows, more_few}
use Rattle.enc_delta.proofs.delta.Delta.tokens_counted.Goals as goal
use Rattle.enc_delta.proofs.delta.Delta.tokens_counted.Goals.{then-not-is_module+in_ok-push, else-not-is_module}

pub loop-i-init : goal.loop-i-init
loop-i-init g c = record {
  items = rw c.new-tokens.ensures.items (sym (tokens_none _ _));
  rows = rw c.new-tokens.ensures.items refl;
  tables = rw c.new-tokens.ensures.items refl;
  few = rw c.new-tokens.ensures.items (omega arith);
  steps = omega arith;
}

pub loop-i-preserved : goal.loop-i-preserved
loop-i-preserved g c = elim c.if-not-is_module.branch [
  | then-not-is_module+in_ok-push w ↦
      let kept = more_kept (λ t. not (is_module t)) (λ (t : Token). nat_lt t.row 0x1000000) (map_token c.args.self.now) c.loop-i.i c.loop-i.tokens.items c.if-not-is_module.tokens.items c.map-token.result c.loop-i.invariant.items c.loop-i.invariant.rows c.map-token.ensures.at (ap not (sym c.is_module.ensures ∙ w.if-not-is_module.true)) (grind (arith, nat_tests, c.map-token.ensures.row)) (rw w.tokens-is w.in_ok-push.ensures.items) in
      record {
        items = kept.0;
        rows = kept.1;
        tables = more_rows (λ (t : Token). nat_lt t.table 0x100) c.loop-i.tokens.items c.if-not-is_module.tokens.items c.map-token.result c.loop-i.invariant.tables (grind (arith, nat_tests, c.map-token.ensures.table)) (rw w.tokens-is w.in_ok-push.ensures.items);
        few = omega (arith, more_few (length c.loop-i.tokens.items) c.loop-i.tokens.items c.if-not-is_module.tokens.items c.map-token.result refl (rw w.tokens-is w.in_ok-push.ensures.items), c.loop-i.invariant.few);
        steps = omega (arith, c.map-token.ensures.steps, c.loop-i.invariant.steps);
      }
  | else-not-is_module w ↦
      let left = more_left (λ t. not (is_module t)) (λ (t : Token). nat_lt t.row 0x1000000) (map_token c.args.self.now) c.loop-i.i c.loop-i.tokens.items c.if-not-is_module.tokens.items c.map-token.result c.loop-i.invariant.items c.loop-i.invariant.rows c.map-token.ensures.at (ap not (sym c.is_module.ensures ∙ w.if-not-is_module.false)) (ap (λ v. v.items) w.tokens-is) in
      record {
        items = left.0;
        rows = left.1;
        tables = rw w.tokens-is c.loop-i.invariant.tables;
        few = rw w.tokens-is (omega (arith, c.loop-i.invariant.few));
        steps = omega (arith, c.map-token.ensures.steps, c.loop-i.invariant.steps);
      }
]
