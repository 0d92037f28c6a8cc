use Rattle.std.proofs.Common.{◌≡◌, ◌-◌, drop}
use Rattle.enc_plain.specs.Sound.{row_count}
use Rattle.enc_base.specs.Tables as tables
use Rattle.enc_plain.specs.ClassPath.{climb, path_of}
use Rattle.enc_dispatch.proofs.free_path.nth_class.Given as goal

abbrev pub invariant-loop : goal.invariant-loop
invariant-loop g l =
    let m = g.V.ModuleView.meaning l.view in
    drop l.counter (path_of m l.fn.class) ≡ climb m (row_count m tables.type_def - l.counter) l.at
