use Rattle.std.proofs.Common.{rules, ◌≡◌, true, false, length, ◌==◌}
use Rattle.enc_remap.proofs.Rules.{asked_of, empty_stack, stack_first, then_rules, then_running}
use Rattle.enc_remap.proofs.goal.frame_goal.Goals as goal

pub returns-then-not-is_empty-clause-err : goal.returns-then-not-is_empty-clause-err
returns-then-not-is_empty-clause-err g c =
    let x = asked_of (g.V.ModuleView.users c.args.view.now) c.args.versions.now.methods (g.V.ModuleView.meaning c.args.view.now) c.args.pairs.now c.args.frame.now in
    let shown : (length c.stack.result.now == 0) ≡ false = search rules in
    let is = empty_stack c.stack.result.now c.args.frame.now.stack false c.stack.ensures shown in
    stack_first c.args.frame.now x is

pub returns-in-Err-clause-err : goal.returns-in-Err-clause-err
returns-in-Err-clause-err g c =
    let x = asked_of (g.V.ModuleView.users c.args.view.now) c.args.versions.now.methods (g.V.ModuleView.meaning c.args.view.now) c.args.pairs.now c.args.frame.now in
    let shown : (length c.stack.result.now == 0) ≡ true = search rules in
    let is = empty_stack c.stack.result.now c.args.frame.now.stack true c.stack.ensures shown in
    then_rules c.args.frame.now x c.in-Err.number is c.in-Err.ensures.err

pub returns-then-is_handling-clause-err : goal.returns-then-is_handling-clause-err
returns-then-is_handling-clause-err g c =
    let x = asked_of (g.V.ModuleView.users c.args.view.now) c.args.versions.now.methods (g.V.ModuleView.meaning c.args.view.now) c.args.pairs.now c.args.frame.now in
    let shown : (length c.stack.result.now == 0) ≡ true = search rules in
    let is = empty_stack c.stack.result.now c.args.frame.now.stack true c.stack.ensures shown in
    let runs : (length c.args.frame.now.running == 0) ≡ false = search rules in
    then_running c.args.frame.now x is c.in-Ok.ensures.ok.may runs
