use Rattle.std.proofs.Common.{◌≡◌, length}
use Rattle.enc_plain.specs.Sound.{row_count}
use Rattle.enc_base.specs.Tables.{method_def}
use Rattle.enc_dispatch.proofs.OwnerClasses.{IsPut}
use Rattle.enc_dispatch.proofs.owners.all_owners.Given as goal

abbrev pub invariant-loop-n : goal.invariant-loop-n
invariant-loop-n g l = record {
  len : length l.owners.items ≡ row_count (g.V.ModuleView.meaning l.view) method_def;
  put : IsPut (g.V.ModuleView.meaning l.view) l.n l.owners.items;
}
