use Rattle.std.proofs.Common.{◌≡◌, ℕ, ◌+◌, ◌<◌, ◌^◌, option_map}
use Rattle.enc_dispatch.specs.Asked.{left_of}
use Rattle.enc_plain.specs.ClassPath.{path_of}
use Rattle.enc_dispatch.specs.Walked.{place_on}
use Rattle.enc_dispatch.proofs.free_path.place_on_path.Given as goal

abbrev pub invariant-loop-rest : goal.invariant-loop-rest
invariant-loop-rest g l =
    let m = g.V.ModuleView.meaning l.view in
    (option_map (λ (k : ℕ). l.place + k) (place_on l.base (left_of m l.climb)) ≡ place_on l.base (path_of m l.fn.class))
    × (l.place + l.climb.left < 2 ^ 24)

abbrev pub decreases-loop-rest : goal.decreases-loop-rest
decreases-loop-rest g l = l.climb.left
