use Rattle.std.proofs.Common.{subst}
use Rattle.std.specs.List.Sorted.{IsPermutation}
use Rattle.enc_dispatch.proofs.OwnerClasses.{owners_each}
use Rattle.enc_dispatch.proofs.owners.in_order.Goals as goal

pub returns : goal.returns
returns g c =
    owners_each (g.V.ModuleView.meaning c.args._view.now) c.args.read c.args.owners.now c.sort_unstable.new.self.items c.requires.sound c.requires.count c.requires.owners
    (subst (λ xs. IsPermutation xs c.sort_unstable.new.self.items) c.in_ok-sorted.ensures.items c.sort_unstable.ensures.permutation)
