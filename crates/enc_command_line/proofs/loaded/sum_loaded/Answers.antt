use Rattle.std.proofs.Common.{rules, refl}
use Rattle.enc_command_line.proofs.Sums.{method_more, method_there, all_summed}
use Rattle.enc_command_line.proofs.loaded.sum_loaded.Goals as goal

pub loaded_in_method-sum-requires-clause-row : goal.loaded_in_method-sum-requires-clause-row
loaded_in_method-sum-requires-clause-row g c = method_there (g.V.ModuleView.meaning c.args.view.now) c.loop-n.n (search rules)

pub loop-n-preserved : goal.loop-n-preserved
loop-n-preserved g c = method_more (g.V.ModuleView.meaning c.args.view.now) c.loop-n.n c.loop-n.sum _ c.loaded_in_method-sum.result (search rules) c.loop-n.invariant c.loaded_in_method-sum.ensures refl

pub returns : goal.returns
returns g c = all_summed (g.V.ModuleView.meaning c.args.view.now) c.loop-n.n c.loop-n.sum (search rules) c.loop-n.invariant
