use Rattle.std.proofs.Common.{◌+◌, arith, ap, ◌∙◌}
use Rattle.enc_generator.specs.Generated.{methods_added, list_of_turns}
use Rattle.enc_generator.proofs.Turning.{lists_more, lists_end}
use Rattle.enc_generator.proofs.lists.make_lists.Goals as goal

pub list_of_turns-requires-clause-short : goal.list_of_turns-requires-clause-short
list_of_turns-requires-clause-short c = rw c.as_slice.ensures (omega (arith, c.in_ok-turns.ensures.short))

pub methods_added-requires : goal.methods_added-requires
methods_added-requires c = rw c.as_slice-in-loop-list.ensures (omega (arith, c.in_ok-turns.ensures.short))

pub overflow_add-methods : goal.overflow_add-methods
overflow_add-methods c =
    let few = rw c.as_slice-in-loop-list.ensures at c.methods_added.ensures.few in
    omega (arith, few, c.in_ok-turns.ensures.short, c.loop-list.invariant.few, c.loop-list-test.true, c.requires.few)

pub loop-list-preserved : goal.loop-list-preserved
loop-list-preserved c =
    let few = rw c.as_slice-in-loop-list.ensures at c.methods_added.ensures.few in
    let added = c.methods_added.ensures.added ∙ ap methods_added c.as_slice-in-loop-list.ensures in
    let made = c.in_ok-list_of_turns.ensures ∙ ap (list_of_turns (c.loop-list.list + 1)) c.as_slice.ensures in
    record {
      lists = rw c.in_ok-push.ensures.ok
          (lists_more c.loop-list.list c.args.count c.loop-list.methods (c.loop-list.methods + c.methods_added.result) c.loop-list.state c.in_ok-turns.field-0.state c.loop-list.lists _
          c.in_ok-list_of_turns.field-0 c.in_ok-turns.field-0.turns c.loop-list-test.true c.in_ok-turns.ensures.turns made (ap (λ n. c.loop-list.methods + n) added) c.in_ok-turns.ensures.state c.loop-list.invariant.lists);
      some = omega (arith, c.loop-list.invariant.some);
      few = omega (arith, few, c.in_ok-turns.ensures.short, c.loop-list.invariant.few);
    }

pub returns : goal.returns
returns c = lists_end c.loop-list.list c.args.count c.loop-list.methods c.loop-list.state c.loop-list.lists _ (omega (arith, c.loop-list-test.false)) c.loop-list.invariant.lists
