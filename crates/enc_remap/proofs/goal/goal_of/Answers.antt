use Rattle.std.proofs.Common.{rules, ◌≡◌, Some, None, true, false}
use Rattle.std.specs.Prelude.{is_some}
use Rattle.enc_machine_types.specs.Members.{run_body}
use Rattle.enc_remap.specs.Remap.{kinds_behind, led_from}
use Rattle.enc_unwind.specs.Search.{handlers_of, is_handled}
use Rattle.enc_versions.specs.Stops.{is_at_point, is_stop_in}
use Rattle.enc_versions.specs.Version.{newest_of}
use Rattle.enc_remap.proofs.Rules.{is_third, is_fourth, is_fifth_none, is_fifth, is_sixth_run, is_sixth_kinds, is_seventh, is_goal, kinds_in}
use Rattle.enc_remap.proofs.goal.goal_of.Goals as goal

pub returns-then-not-is_at_point-clause-err : goal.returns-then-not-is_at_point-clause-err
returns-then-not-is_at_point-clause-err g c =
    let users = g.V.ModuleView.users c.args.view.now in
    let m = g.V.ModuleView.meaning c.args.view.now in
    let is_at : is_at_point c.args.frame.now.code.points.points c.args.frame.now.offset ≡ false = search rules in
    is_third users c.args.versions.now.methods m c.args.pairs.now c.args.frame.now is_at

pub returns-in_default-clause-err : goal.returns-in_default-clause-err
returns-in_default-clause-err g c =
    let users = g.V.ModuleView.users c.args.view.now in
    let m = g.V.ModuleView.meaning c.args.view.now in
    let is_at : is_at_point c.args.frame.now.code.points.points c.args.frame.now.offset ≡ true = search rules in
    let is_led : led_from c.args.frame.now.offset c.args.pairs.now ≡ None = search rules in
    is_fourth users c.args.versions.now.methods m c.args.pairs.now c.args.frame.now is_at is_led

pub returns-in_default-newest-clause-err : goal.returns-in_default-newest-clause-err
returns-in_default-newest-clause-err g c =
    let users = g.V.ModuleView.users c.args.view.now in
    let m = g.V.ModuleView.meaning c.args.view.now in
    let is_at : is_at_point c.args.frame.now.code.points.points c.args.frame.now.offset ≡ true = search rules in
    let is_led : led_from c.args.frame.now.offset c.args.pairs.now ≡ Some c.in-Some.to = search rules in
    let is_new : newest_of c.args.versions.now.methods c.args.frame.now.method ≡ None = search rules in
    is_fifth_none users c.args.versions.now.methods m c.args.pairs.now c.args.frame.now c.in-Some.to is_at is_led is_new

pub returns-then-not-is_stop-clause-err : goal.returns-then-not-is_stop-clause-err
returns-then-not-is_stop-clause-err g c =
    let users = g.V.ModuleView.users c.args.view.now in
    let m = g.V.ModuleView.meaning c.args.view.now in
    let is_at : is_at_point c.args.frame.now.code.points.points c.args.frame.now.offset ≡ true = search rules in
    let is_led : led_from c.args.frame.now.offset c.args.pairs.now ≡ Some c.in-Some.to = search rules in
    let is_new : newest_of c.args.versions.now.methods c.args.frame.now.method ≡ Some c.in-Some-newest.code.now.value = search rules in
    let is_stop : is_stop_in c.in-Some-newest.code.now.value.code c.in-Some-newest.code.now.value.points.points c.in-Some.to ≡ false = search rules in
    is_fifth users c.args.versions.now.methods m c.args.pairs.now c.args.frame.now c.in-Some.to c.in-Some-newest.code.now.value is_at is_led is_new is_stop

pub returns-then-not-runs-clause-err : goal.returns-then-not-runs-clause-err
returns-then-not-runs-clause-err g c =
    let users = g.V.ModuleView.users c.args.view.now in
    let m = g.V.ModuleView.meaning c.args.view.now in
    let is_at : is_at_point c.args.frame.now.code.points.points c.args.frame.now.offset ≡ true = search rules in
    let is_led : led_from c.args.frame.now.offset c.args.pairs.now ≡ Some c.in-Some.to = search rules in
    let is_new : newest_of c.args.versions.now.methods c.args.frame.now.method ≡ Some c.in-Some-newest.code.now.value = search rules in
    let is_stop : is_stop_in c.in-Some-newest.code.now.value.code c.in-Some-newest.code.now.value.points.points c.in-Some.to ≡ true = search rules in
    let is_run : is_some (run_body m c.args.frame.now.method) ≡ false = search rules in
    is_sixth_run users c.args.versions.now.methods m c.args.pairs.now c.args.frame.now c.in-Some.to c.in-Some-newest.code.now.value is_at is_led is_new is_stop is_run

pub returns-in_default-kinds_behind-clause-err : goal.returns-in_default-kinds_behind-clause-err
returns-in_default-kinds_behind-clause-err g c =
    let users = g.V.ModuleView.users c.args.view.now in
    let m = g.V.ModuleView.meaning c.args.view.now in
    let is_at : is_at_point c.args.frame.now.code.points.points c.args.frame.now.offset ≡ true = search rules in
    let is_led : led_from c.args.frame.now.offset c.args.pairs.now ≡ Some c.in-Some.to = search rules in
    let is_new : newest_of c.args.versions.now.methods c.args.frame.now.method ≡ Some c.in-Some-newest.code.now.value = search rules in
    let is_stop : is_stop_in c.in-Some-newest.code.now.value.code c.in-Some-newest.code.now.value.points.points c.in-Some.to ≡ true = search rules in
    let is_run : is_some (run_body m c.args.frame.now.method) ≡ true = search rules in
    let is_kinds : kinds_behind (kinds_in m c.args.frame.now.code) (kinds_in m c.in-Some-newest.code.now.value) ≡ None = search rules in
    is_sixth_kinds users c.args.versions.now.methods m c.args.pairs.now c.args.frame.now c.in-Some.to c.in-Some-newest.code.now.value is_at is_led is_new is_stop is_run is_kinds

pub returns-then-is_handled-clause-err : goal.returns-then-is_handled-clause-err
returns-then-is_handled-clause-err g c =
    let users = g.V.ModuleView.users c.args.view.now in
    let m = g.V.ModuleView.meaning c.args.view.now in
    let is_at : is_at_point c.args.frame.now.code.points.points c.args.frame.now.offset ≡ true = search rules in
    let is_led : led_from c.args.frame.now.offset c.args.pairs.now ≡ Some c.in-Some.to = search rules in
    let is_new : newest_of c.args.versions.now.methods c.args.frame.now.method ≡ Some c.in-Some-newest.code.now.value = search rules in
    let is_stop : is_stop_in c.in-Some-newest.code.now.value.code c.in-Some-newest.code.now.value.points.points c.in-Some.to ≡ true = search rules in
    let is_run : is_some (run_body m c.args.frame.now.method) ≡ true = search rules in
    let is_kinds : kinds_behind (kinds_in m c.args.frame.now.code) (kinds_in m c.in-Some-newest.code.now.value) ≡ Some c.in-Some-kinds_behind.kinds = search rules in
    let is_han : is_handled c.in-Some.to (handlers_of c.in-Some-newest.code.now.value.code.sections) ≡ true = search rules in
    is_seventh users c.args.versions.now.methods m c.args.pairs.now c.args.frame.now c.in-Some.to c.in-Some-newest.code.now.value c.in-Some-kinds_behind.kinds is_at is_led is_new is_stop is_run is_kinds is_han

pub returns-clause-ok : goal.returns-clause-ok
returns-clause-ok g c =
    let users = g.V.ModuleView.users c.args.view.now in
    let m = g.V.ModuleView.meaning c.args.view.now in
    let is_at : is_at_point c.args.frame.now.code.points.points c.args.frame.now.offset ≡ true = search rules in
    let is_led : led_from c.args.frame.now.offset c.args.pairs.now ≡ Some c.in-Some.to = search rules in
    let is_new : newest_of c.args.versions.now.methods c.args.frame.now.method ≡ Some c.in-Some-newest.code.now.value = search rules in
    let is_stop : is_stop_in c.in-Some-newest.code.now.value.code c.in-Some-newest.code.now.value.points.points c.in-Some.to ≡ true = search rules in
    let is_run : is_some (run_body m c.args.frame.now.method) ≡ true = search rules in
    let is_kinds : kinds_behind (kinds_in m c.args.frame.now.code) (kinds_in m c.in-Some-newest.code.now.value) ≡ Some c.in-Some-kinds_behind.kinds = search rules in
    let is_han : is_handled c.in-Some.to (handlers_of c.in-Some-newest.code.now.value.code.sections) ≡ false = search rules in
    is_goal users c.args.versions.now.methods m c.args.pairs.now c.args.frame.now c.in-Some.to c.in-Some-newest.code.now.value c.in-Some-kinds_behind.kinds is_at is_led is_new is_stop is_run is_kinds is_han
