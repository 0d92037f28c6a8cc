-- For the contracts of private functions: the first edit of several rules, of which each tells its own.
use Rattle.std.specs.Prelude.{ℕ, ◌+◌, Option, Some, None, nat_lt, if◌then◌else◌}

-- what is told so far, or the first place at which another rule is broken, where that is sooner; of one edit the
-- rule that is told first stays
abbrev pub sooner : Option (ℕ × ℕ) → ℕ → Option ℕ → Option (ℕ × ℕ)
sooner told rule None = told
sooner None rule (Some k) = Some (rule, k + 1)
sooner (Some t) rule (Some k) = if nat_lt (k + 1) t.1 then Some (rule, k + 1) else Some t
