use Rattle.std.proofs.Common.{◌≡◌, ℕ, ◌<◌, false}
use Rattle.std.specs.Prelude.{◌==◌}
use Rattle.std.specs.List.{list_any}
use Rattle.enc_image.proofs.Kids.{kids_from}
use Rattle.enc_image.proofs.image.Image.first_owner.Given as goal

-- no owner so far has the child
abbrev pub invariant-loop-n : goal.invariant-loop-n
invariant-loop-n l = (k : ℕ) → k < l.n → list_any (λ (j : ℕ). j == l.fn.child.row) (kids_from l.self l.fn.child.table k) ≡ false
