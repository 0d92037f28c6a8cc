use Rattle.std.proofs.Common.{◌≡◌, ℕ, ◌+◌, ◌≤◌, length, option_map}
use Rattle.enc_dispatch.specs.Walked.{left_in, path_in, place_on}
use Rattle.enc_dispatch.proofs.dispatch.Dispatch.place_on_path.Given as goal

abbrev pub invariant-loop-rest : goal.invariant-loop-rest
invariant-loop-rest l =
    (option_map (λ (k : ℕ). l.place + k) (place_on l.base (left_in l.self l.climb)) ≡ place_on l.base (path_in l.self l.fn.class))
    × (l.place + l.climb.left ≤ length l.self.classes)

abbrev pub decreases-loop-rest : goal.decreases-loop-rest
decreases-loop-rest l = l.climb.left
