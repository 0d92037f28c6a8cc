use Rattle.std.proofs.Common.{rules, ◌≡◌, Some, None, true, false}
use Rattle.std.specs.Prelude.{is_some}
use Rattle.enc_machine_types.specs.Members.{run_body}
use Rattle.enc_opcodes.specs.Body.{code_seen}
use Rattle.enc_remap.specs.Asked.{version_seen}
use Rattle.enc_remap.specs.Remap.{kinds_behind, led_from}
use Rattle.enc_unwind.specs.Search.{handlers_of, is_handled}
use Rattle.enc_versions.specs.Stops.{is_at_point, is_stop_in}
use Rattle.enc_remap.proofs.Rules.{kinds_in}
use Rattle.enc_remap.proofs.StoredRules.{stored_third, stored_fourth, stored_none, stored_fifth, stored_not_run, stored_no_kinds, stored_seventh, stored_may}
use Rattle.enc_remap.proofs.asked.first_broken_of.Goals as goal

pub returns-then-not-is_at_point : goal.returns-then-not-is_at_point
returns-then-not-is_at_point g c texts =
    let users = g.V.ModuleView.users c.args.view.now in
    let m = g.V.ModuleView.meaning c.args.view.now in
    let is_at : is_at_point c.args.wish.now.old.points.points c.args.wish.now.at.offset ≡ false = search rules in
    stored_third texts users m c.args.wish.now.at c.args.wish.now.pairs.now c.args.wish.now.old c.args.newest.now is_at

pub returns-in_default : goal.returns-in_default
returns-in_default g c texts =
    let users = g.V.ModuleView.users c.args.view.now in
    let m = g.V.ModuleView.meaning c.args.view.now in
    let is_at : is_at_point c.args.wish.now.old.points.points c.args.wish.now.at.offset ≡ true = search rules in
    let is_led : led_from c.args.wish.now.at.offset c.args.wish.now.pairs.now ≡ None = search rules in
    stored_fourth texts users m c.args.wish.now.at c.args.wish.now.pairs.now c.args.wish.now.old c.args.newest.now is_at is_led

pub returns-in_default-newest : goal.returns-in_default-newest
returns-in_default-newest g c texts =
    let users = g.V.ModuleView.users c.args.view.now in
    let m = g.V.ModuleView.meaning c.args.view.now in
    let is_at : is_at_point c.args.wish.now.old.points.points c.args.wish.now.at.offset ≡ true = search rules in
    let is_led : led_from c.args.wish.now.at.offset c.args.wish.now.pairs.now ≡ Some c.in-Some.to = search rules in
    let is_new : c.args.newest.now ≡ None = search rules in
    stored_none texts users m c.args.wish.now.at c.args.wish.now.pairs.now c.args.wish.now.old c.args.newest.now c.in-Some.to is_at is_led is_new

pub returns-then-not-branch : goal.returns-then-not-branch
returns-then-not-branch g c texts =
    let users = g.V.ModuleView.users c.args.view.now in
    let m = g.V.ModuleView.meaning c.args.view.now in
    let is_at : is_at_point c.args.wish.now.old.points.points c.args.wish.now.at.offset ≡ true = search rules in
    let is_led : led_from c.args.wish.now.at.offset c.args.wish.now.pairs.now ≡ Some c.in-Some.to = search rules in
    let is_new : c.args.newest.now ≡ Some c.in-Some-newest.new = search rules in
    let is_there : is_stop_in (code_seen c.in-Some-newest.new.code) c.in-Some-newest.new.points.points c.in-Some.to ≡ false = search rules in
    stored_fifth texts users m c.args.wish.now.at c.args.wish.now.pairs.now c.args.wish.now.old c.in-Some-newest.new c.args.newest.now c.in-Some.to is_at is_led is_new is_there

pub returns-then-not-runs_code : goal.returns-then-not-runs_code
returns-then-not-runs_code g c texts =
    let users = g.V.ModuleView.users c.args.view.now in
    let m = g.V.ModuleView.meaning c.args.view.now in
    let is_at : is_at_point c.args.wish.now.old.points.points c.args.wish.now.at.offset ≡ true = search rules in
    let is_led : led_from c.args.wish.now.at.offset c.args.wish.now.pairs.now ≡ Some c.in-Some.to = search rules in
    let is_new : c.args.newest.now ≡ Some c.in-Some-newest.new = search rules in
    let is_there : is_stop_in (code_seen c.in-Some-newest.new.code) c.in-Some-newest.new.points.points c.in-Some.to ≡ true = search rules in
    let is_run : is_some (run_body m c.args.wish.now.at.method) ≡ false = search rules in
    stored_not_run texts users m c.args.wish.now.at c.args.wish.now.pairs.now c.args.wish.now.old c.in-Some-newest.new c.args.newest.now c.in-Some.to is_at is_led is_new is_there is_run

pub returns-in_default-kinds_behind : goal.returns-in_default-kinds_behind
returns-in_default-kinds_behind g c texts =
    let users = g.V.ModuleView.users c.args.view.now in
    let m = g.V.ModuleView.meaning c.args.view.now in
    let is_at : is_at_point c.args.wish.now.old.points.points c.args.wish.now.at.offset ≡ true = search rules in
    let is_led : led_from c.args.wish.now.at.offset c.args.wish.now.pairs.now ≡ Some c.in-Some.to = search rules in
    let is_new : c.args.newest.now ≡ Some c.in-Some-newest.new = search rules in
    let is_there : is_stop_in (code_seen c.in-Some-newest.new.code) c.in-Some-newest.new.points.points c.in-Some.to ≡ true = search rules in
    let is_run : is_some (run_body m c.args.wish.now.at.method) ≡ true = search rules in
    let is_kinds : kinds_behind (kinds_in m (version_seen c.args.wish.now.old)) (kinds_in m (version_seen c.in-Some-newest.new)) ≡ None = search rules in
    stored_no_kinds texts users m c.args.wish.now.at c.args.wish.now.pairs.now c.args.wish.now.old c.in-Some-newest.new c.args.newest.now c.in-Some.to is_at is_led is_new is_there is_run is_kinds

pub returns-then-is_handled : goal.returns-then-is_handled
returns-then-is_handled g c texts =
    let users = g.V.ModuleView.users c.args.view.now in
    let m = g.V.ModuleView.meaning c.args.view.now in
    let is_at : is_at_point c.args.wish.now.old.points.points c.args.wish.now.at.offset ≡ true = search rules in
    let is_led : led_from c.args.wish.now.at.offset c.args.wish.now.pairs.now ≡ Some c.in-Some.to = search rules in
    let is_new : c.args.newest.now ≡ Some c.in-Some-newest.new = search rules in
    let is_there : is_stop_in (code_seen c.in-Some-newest.new.code) c.in-Some-newest.new.points.points c.in-Some.to ≡ true = search rules in
    let is_run : is_some (run_body m c.args.wish.now.at.method) ≡ true = search rules in
    let is_kinds : kinds_behind (kinds_in m (version_seen c.args.wish.now.old)) (kinds_in m (version_seen c.in-Some-newest.new)) ≡ Some c.in-Some-kinds_behind._kinds = search rules in
    let is_han : is_handled c.in-Some.to (handlers_of c.in-Some-newest.new.code.sections.now) ≡ true = search rules in
    stored_seventh texts users m c.args.wish.now.at c.args.wish.now.pairs.now c.args.wish.now.old c.in-Some-newest.new c.args.newest.now c.in-Some.to c.in-Some-kinds_behind._kinds is_at is_led is_new is_there is_run is_kinds is_han

pub returns : goal.returns
returns g c texts =
    let users = g.V.ModuleView.users c.args.view.now in
    let m = g.V.ModuleView.meaning c.args.view.now in
    let is_at : is_at_point c.args.wish.now.old.points.points c.args.wish.now.at.offset ≡ true = search rules in
    let is_led : led_from c.args.wish.now.at.offset c.args.wish.now.pairs.now ≡ Some c.in-Some.to = search rules in
    let is_new : c.args.newest.now ≡ Some c.in-Some-newest.new = search rules in
    let is_there : is_stop_in (code_seen c.in-Some-newest.new.code) c.in-Some-newest.new.points.points c.in-Some.to ≡ true = search rules in
    let is_run : is_some (run_body m c.args.wish.now.at.method) ≡ true = search rules in
    let is_kinds : kinds_behind (kinds_in m (version_seen c.args.wish.now.old)) (kinds_in m (version_seen c.in-Some-newest.new)) ≡ Some c.in-Some-kinds_behind._kinds = search rules in
    let is_han : is_handled c.in-Some.to (handlers_of c.in-Some-newest.new.code.sections.now) ≡ false = search rules in
    stored_may texts users m c.args.wish.now.at c.args.wish.now.pairs.now c.args.wish.now.old c.in-Some-newest.new c.args.newest.now c.in-Some.to c.in-Some-kinds_behind._kinds is_at is_led is_new is_there is_run is_kinds is_han
