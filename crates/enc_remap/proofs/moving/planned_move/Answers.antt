use Rattle.std.proofs.Common.{rules, ◌≡◌, Some, true, false, refl, ◌∙◌}
use Rattle.enc_vm.specs.Looks.{innermost_in}
use Rattle.enc_vm.specs.Step.{task_at}
use Rattle.enc_remap.specs.Seen.{goes_on, version_codes}
use Rattle.enc_remap.proofs.Planned.{plan_moves, plan_refuses, plan_begins, plan_texts}
use Rattle.enc_remap.proofs.Rules.{not_going}
use Rattle.enc_remap.proofs.moving.planned_move.Goals as goal

pub returns-then-not-goes_on-clause-refused : goal.returns-then-not-goes_on-clause-refused
returns-then-not-goes_on-clause-refused g c =
    let still : goes_on (task_at c.args.machine.now c.args.task) ≡ false = search rules in
    not_going (version_codes (g.V.ModuleView.users c.args.view.now) c.args.versions.now.methods) (g.V.ModuleView.meaning c.args.view.now) c.args.task
    c.args.pairs.now c.args.machine.now still

pub returns-in-Err-clause-refused : goal.returns-in-Err-clause-refused
returns-in-Err-clause-refused g c =
    let on : goes_on (task_at c.args.machine.now c.args.task) ≡ true = search rules in
    let is : innermost_in c.args.machine.now c.args.task ≡ Some c.in-Some.frame = search rules in
    plan_refuses (g.V.ModuleView.users c.args.view.now) c.args.versions.now.methods (g.V.ModuleView.meaning c.args.view.now) c.args.task c.args.pairs.now
    c.args.machine.now c.in-Some.frame c.in-Err.number on is c.in-Err.ensures.err

pub returns-in-Ok-clause-moved : goal.returns-in-Ok-clause-moved
returns-in-Ok-clause-moved g c =
    let on : goes_on (task_at c.args.machine.now c.args.task) ≡ true = search rules in
    let is : innermost_in c.args.machine.now c.args.task ≡ Some c.in-Some.frame = search rules in
    plan_moves (g.V.ModuleView.users c.args.view.now) c.args.versions.now.methods (g.V.ModuleView.meaning c.args.view.now) c.args.task c.args.pairs.now
    c.args.machine.now c.in-Some.frame c.in-Ok.goal.code.now.value c.in-Ok.goal.to c.in-Ok.goal.kinds on is c.in-Ok.ensures.stack c.in-Ok.ensures.running
    c.in-Ok.ensures.ok
    ∙ rw (c.method.ensures.method, c.offset.ensures) refl

pub returns-in-Ok-clause-begins : goal.returns-in-Ok-clause-begins
returns-in-Ok-clause-begins g c =
    plan_begins (g.V.ModuleView.users c.args.view.now) (g.V.ModuleView.meaning c.args.view.now) c.args.versions.now.methods c.args.pairs.now c.in-Some.frame
    c.in-Ok.goal.code.now.value c.in-Ok.goal.to c.in-Ok.goal.kinds c.requires.sound c.requires.versions (search rules) c.in-Ok.ensures.ok

pub returns-in-Ok-clause-texts : goal.returns-in-Ok-clause-texts
returns-in-Ok-clause-texts g c =
    plan_texts (g.V.ModuleView.users c.args.view.now) (g.V.ModuleView.meaning c.args.view.now) c.args.versions.now.methods c.args.pairs.now c.in-Some.frame
    c.in-Ok.goal.code.now.value c.in-Ok.goal.to c.in-Ok.goal.kinds c.requires.versions (search rules) c.in-Ok.ensures.ok
