use Rattle.std.proofs.Common.{◌≡◌, true, take}
use Rattle.std.specs.List.{list_all}
use Rattle.enc_dispatch.specs.Keeps.{keeps}
use Rattle.enc_plain.specs.Known.{AreKnownAlike}
use Rattle.enc_plain.specs.Module.{cells_of}
use Rattle.enc_dispatch.proofs.keeps.all_keep.Given as goal

abbrev pub invariant-loop-row : goal.invariant-loop-row
invariant-loop-row g l =
    (list_all (keeps (g.V.ModuleView.meaning l.before) (g.W.ModuleView.meaning l.after)) (take l.row-index l.listed) ≡ true)
    × AreKnownAlike (cells_of (g.W.ModuleView.meaning l.after)) (g.W.ModuleView.stored l.after) l.known
