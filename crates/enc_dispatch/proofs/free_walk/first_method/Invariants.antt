use Rattle.std.proofs.Common.{◌≡◌, drop}
use Rattle.enc_plain.specs.Module.{kids_of}
use Rattle.enc_base.specs.Tables as tables
use Rattle.enc_dispatch.specs.Asked.{is_wanted}
use Rattle.enc_dispatch.proofs.WalkSteps.{first_of_rows}
use Rattle.enc_dispatch.proofs.free_walk.first_method.Given as goal

abbrev pub invariant-loop-i : goal.invariant-loop-i
invariant-loop-i g l =
    let m = g.V.ModuleView.meaning l.view in
    let test = is_wanted m l.wanted l.declared in
    let rows = kids_of m l.class tables.method_def in
    first_of_rows test (drop l.i rows) ≡ first_of_rows test rows
