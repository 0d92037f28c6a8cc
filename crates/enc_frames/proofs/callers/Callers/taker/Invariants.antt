use Rattle.std.proofs.Common.{◌≡◌, ℕ, ◌≤◌, List, length, take, reverse}
use Rattle.std.specs.Prelude.{Option}
use Rattle.enc_versions.specs.Version.{Version}
use Rattle.enc_frames.specs.Handlers.{outer_taker}
use Rattle.enc_frames.specs.Machine.{version_world}
use Rattle.enc_frames.proofs.callers.Callers.taker.Given as goal

-- what is left decides, since no frame before took the object or ended the search
abbrev pub invariant-loop-left : goal.invariant-loop-left
invariant-loop-left g l = record {
  few : l.left ≤ length l.self-inside.items.items;
  rest : (users : ℕ → Option (List ℕ)) (methods : List (Option Version))
      → outer_taker (version_world users (g.V.ModuleView.meaning l.view) methods) l.thrown (reverse (take l.left l.self-inside.items.items))
      ≡ outer_taker (version_world users (g.V.ModuleView.meaning l.view) methods) l.thrown (reverse l.self-inside.items.items);
}

abbrev pub decreases-loop-left : goal.decreases-loop-left
decreases-loop-left g l = l.left
