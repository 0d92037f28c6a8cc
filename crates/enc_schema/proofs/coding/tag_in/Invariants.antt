use Rattle.std.proofs.Common.{◌≢◌, ℕ, ◌<◌, get_or, Some, None}
use Rattle.enc_schema.proofs.coding.tag_in.Given as goal

abbrev pub invariant-loop-tag : goal.invariant-loop-tag
invariant-loop-tag l = (k : ℕ) → k < l.tag → get_or l.tables k None ≢ Some l.table
