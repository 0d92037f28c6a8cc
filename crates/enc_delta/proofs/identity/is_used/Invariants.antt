use Rattle.std.proofs.Common.{◌≡◌, ℕ, List, take, false}
use Rattle.std.specs.Prelude.{bytes_eq}
use Rattle.std.specs.List.{list_any}
use Rattle.enc_delta.proofs.identity.is_used.Given as goal

abbrev pub invariant-loop-g : goal.invariant-loop-g
invariant-loop-g g l = list_any (λ (x : List ℕ). bytes_eq x l.id) (take l.g (g.C.ChainView.chain l.chain).ids) ≡ false
