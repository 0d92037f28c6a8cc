use Rattle.std.proofs.Common.{ap}
use Rattle.enc_sigs.specs.Tree.{trees_of, forest_of}
use Rattle.enc_sigs.proofs.elem.Elem.kids.Goals as goal

pub returns-clause-list : goal.returns-clause-list
returns-clause-list c = rw (← c.self.view_is, trees_of) c.as_slice.ensures.value

pub returns-clause-forest : goal.returns-clause-forest
returns-clause-forest c = rw (← c.self.view_is) (ap forest_of c.as_slice.ensures.value)
