use Rattle.std.proofs.Common.{◌-◌, sym, ap, ◌∙◌, take, drop, length}
use Rattle.std.specs.Prelude.{flat_map}
use Rattle.enc_meta.specs.Built.{Built}
use Rattle.enc_edit_list.specs.declared.body.InstrValue.{InstrValue}
use Rattle.enc_rules.specs.Rules.{passes_limits, with_users, users_in_argument}
use Rattle.enc_rules.proofs.Filling.{fills_later, filled_front, filled_none, passes_users, users_append, users_none}
use Rattle.enc_rules.proofs.heaps.add_arguments.Goals as goal

pub returns-in-Err : goal.returns-in-Err
returns-in-Err c =
    fills_later c.in-Err.fault c.add_argument.new.heaps c.add_argument.new.heaps (with_users c.loop-rest.heaps (users_in_argument c.instr-item.result.arg)) (with_users c.args.heaps.now (flat_map (λ (i : InstrValue). users_in_argument i.arg) c.args.code.now))
    (λ p. sym (ap passes_limits (c.loop-rest.invariant)) ∙ ap passes_limits (filled_front with_users users_append (λ (i : InstrValue). users_in_argument i.arg) c.loop-rest.heaps c.loop-rest.rest.now c.instr-item.result c.in-len1-up.len_at_least c.instr-item.is) ∙ passes_users (with_users c.loop-rest.heaps (users_in_argument c.instr-item.result.arg)) (flat_map (λ (i : InstrValue). users_in_argument i.arg) (take (length c.loop-rest.rest.now - 1) (drop 1 c.loop-rest.rest.now))) p)
    c.in-Err.ensures

pub loop-rest-preserved : goal.loop-rest-preserved
loop-rest-preserved c = ap (λ (h : Built). with_users h (flat_map (λ (i : InstrValue). users_in_argument i.arg) (take (length c.loop-rest.rest.now - 1) (drop 1 c.loop-rest.rest.now)))) c.in-Ok.ensures ∙ sym (filled_front with_users users_append (λ (i : InstrValue). users_in_argument i.arg) c.loop-rest.heaps c.loop-rest.rest.now c.instr-item.result c.in-len1-up.len_at_least c.instr-item.is) ∙ c.loop-rest.invariant

pub returns : goal.returns
returns c = sym (filled_none with_users users_none (λ (i : InstrValue). users_in_argument i.arg) c.loop-rest.heaps c.loop-rest.rest.now c.in_default.len_below) ∙ c.loop-rest.invariant
