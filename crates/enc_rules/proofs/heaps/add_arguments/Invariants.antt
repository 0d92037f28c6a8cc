use Rattle.std.proofs.Common.{◌≡◌, length}
use Rattle.std.specs.Prelude.{flat_map}
use Rattle.enc_edit_list.specs.declared.body.InstrValue.{InstrValue}
use Rattle.enc_rules.specs.Rules.{with_users, users_in_argument}
use Rattle.enc_rules.proofs.heaps.add_arguments.Given as goal

abbrev pub invariant-loop-rest : goal.invariant-loop-rest
invariant-loop-rest l = with_users l.heaps (flat_map (λ (i : InstrValue). users_in_argument i.arg) l.rest) ≡ with_users l.initial.heaps (flat_map (λ (i : InstrValue). users_in_argument i.arg) l.fn.code)

abbrev pub decreases-loop-rest : goal.decreases-loop-rest
decreases-loop-rest l = length l.rest
