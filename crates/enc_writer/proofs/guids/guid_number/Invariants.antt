use Rattle.std.proofs.Common.{◌≡◌, ℕ, ◌<◌, Some}
use Rattle.enc_meta.specs.Joined.{joined_guid}
use Rattle.enc_writer.proofs.guids.guid_number.Given as goal

abbrev pub invariant-loop-k : goal.invariant-loop-k
invariant-loop-k g l = (m : ℕ) → m < l.k → joined_guid (g.C.ChainView.chain l.chain).heaps m ≡ Some l.guid → ⊥
