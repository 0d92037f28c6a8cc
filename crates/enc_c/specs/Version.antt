-- The number of a release.
use Rattle.std.specs.Prelude.{ℕ, ◌+◌, ◌*◌, ◌^◌}

-- the major number in the upper half, the minor one in the byte behind it, the patch in the lowest
abbrev pub release_number : ℕ → ℕ → ℕ → ℕ
release_number major minor patch = major * 2 ^ 16 + minor * 2 ^ 8 + patch
