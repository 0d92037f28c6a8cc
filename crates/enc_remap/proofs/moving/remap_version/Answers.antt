use Rattle.std.proofs.Common.{rules, ◌≡◌, IsTrue, subst, sym}
use Rattle.enc_versions.specs.Version.{Version}
use Rattle.enc_vm.proofs.Moved.{moved_texts}
use Rattle.enc_vm.specs.Moves.{IsBeginIn}
use Rattle.enc_vm.specs.Texts.{machine_texts, version_texts}
use Rattle.enc_remap.proofs.moving.remap_version.Goals as goal

pub move_top-requires-clause-begins : goal.move_top-requires-clause-begins
move_top-requires-clause-begins g c =
    let same : c.in_ok-code.code.value ≡ c.in-Ok.plan.goal.code.now.value = search rules in
    subst (λ (v : Version). IsBeginIn v c.in-Ok.plan.goal.to) (sym same) c.in-Ok.ensures.begins

pub returns-clause-texts : goal.returns-clause-texts
returns-clause-texts g c =
    let same : c.in_ok-code.code.value ≡ c.in-Ok.plan.goal.code.now.value = search rules in
    λ h. subst (λ (s : _). IsTrue (machine_texts (g.V.ModuleView.users c.args.view.now) s)) (sym c.in_ok-move_top.ensures.ok)
    (moved_texts (g.V.ModuleView.users c.args.view.now) c.args.task c.in_ok-code.code.value c.in-Ok.plan.goal.to c.as_slice.result.now c.args.machine.now
    (subst (λ (v : Version). IsTrue (version_texts (g.V.ModuleView.users c.args.view.now) v)) (sym same) c.in-Ok.ensures.texts) h)
