use Rattle.std.proofs.Common.{◌≡◌, ◌++◌, take}
use Rattle.std.specs.Prelude.{flat_map}
use Rattle.enc_meta.proofs.guids.with_all.Given as goal

abbrev pub invariant-loop-guid : goal.invariant-loop-guid
invariant-loop-guid l = l.out.items ≡ l.fn.out.items ++ flat_map (λ g. g) (take l.guid-index l.guids)
