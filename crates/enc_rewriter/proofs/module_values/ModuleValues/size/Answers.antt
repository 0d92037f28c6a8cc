use Rattle.std.proofs.Common.{arith}
use Rattle.enc_rewriter.proofs.Apart.{size_of_all, size_few}
use Rattle.enc_rewriter.proofs.module_values.ModuleValues.size.Goals as goal

pub overflow_add-result : goal.overflow_add-result
overflow_add-result c =
    omega (arith, size_few c.self.inside.texts c.self.inside.users c.self.inside.blobs c.self.inside.heaps c.self.invariant c.laws.ensures.within, c.size.ensures, c.bytes.ensures.few)

pub overflow_add-result-2 : goal.overflow_add-result-2
overflow_add-result-2 c =
    omega (arith, size_few c.self.inside.texts c.self.inside.users c.self.inside.blobs c.self.inside.heaps c.self.invariant c.laws.ensures.within, c.size.ensures, c.bytes.ensures.few, c.bytes-2.ensures.few)

pub overflow_add-result-3 : goal.overflow_add-result-3
overflow_add-result-3 c =
    omega (arith, size_few c.self.inside.texts c.self.inside.users c.self.inside.blobs c.self.inside.heaps c.self.invariant c.laws.ensures.within, c.size.ensures, c.bytes.ensures.few, c.bytes-2.ensures.few, c.bytes-3.ensures.few)

pub returns : goal.returns
returns c =
    rw (← c.self.view_is)
    (omega (arith, size_of_all c.self.inside.texts c.self.inside.users c.self.inside.blobs c.self.inside.heaps c.self.invariant, c.size.ensures, c.bytes.ensures.bytes, c.bytes-2.ensures.bytes, c.bytes-3.ensures.bytes))
