-- The blob of a method, and its row.
use Rattle.std.proofs.Common.{◌≡◌, ℕ, List, [], ◌∷◌, length, Some, refl, arith}
use Rattle.enc_seqpoints.specs.declared.point.Point.{Point}
use Rattle.enc_seqpoints.specs.Grammar.{method_points, points_in}

empty : (points : List Point) → length points ≡ 0 → points ≡ []
empty [] h = refl
empty (p ∷ points) h = absurd (omega (arith, h))

-- no bytes say no locals and no points
pub nothing_said : (document locals : ℕ) (points : List Point) (bytes : List ℕ) → locals ≡ 0 → length points ≡ 0 → bytes ≡ [] → points_in document bytes ≡ Some (method_points locals points)
unfolding points_in
nothing_said document locals points bytes l p b = rw (b, l, empty points p) refl
