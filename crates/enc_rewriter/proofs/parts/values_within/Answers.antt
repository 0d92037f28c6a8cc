use Rattle.std.proofs.Common.{arith}
use Rattle.enc_rewriter.proofs.Passing.{heap_told, weight_told, none_told}
use Rattle.enc_rewriter.proofs.parts.values_within.Goals as goal

pub returns-in-Err-clause-tells : goal.returns-in-Err-clause-tells
returns-in-Err-clause-tells g c = heap_told (g.V.ModuleView.meaning c.args.view.now) c.in-Err.fault c.from.result c.from.ensures c.in-Err.ensures.tells

pub returns-then-branch-ge-MOST-clause-tells : goal.returns-then-branch-ge-MOST-clause-tells
returns-then-branch-ge-MOST-clause-tells g c =
    weight_told (g.V.ModuleView.meaning c.args.view.now) c.gather.new.heaps c.in_ok-module_weight.field-0 c.in-Ok.ensures.gathered c.in-Ok.ensures.tells c.in_ok-module_weight.ensures
    (omega (arith, c.if-branch-ge-MOST.true))

pub returns-clause-tells : goal.returns-clause-tells
returns-clause-tells g c =
    none_told (g.V.ModuleView.meaning c.args.view.now) c.gather.new.heaps c.in_ok-module_weight.field-0 c.in-Ok.ensures.gathered c.in-Ok.ensures.tells c.in_ok-module_weight.ensures
    (omega (arith, c.if-branch-ge-MOST.false))
