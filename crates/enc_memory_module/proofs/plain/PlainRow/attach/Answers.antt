use Rattle.std.proofs.Common.{◌≡◌, ◌++◌, ◌∷◌, [], ap, arith}
use Rattle.enc_schema.specs.Children.{run_index}
use Rattle.enc_plain.specs.Apply.{change_at}
use Rattle.enc_memory_module.proofs.PutInPlace.{change_past}
use Rattle.enc_memory_module.proofs.plain.PlainRow.attach.Goals as goal

pub returns-else-i-len : goal.returns-else-i-len
returns-else-i-len c =
    let n = c.run_index-i.ensures in
    let same : c.self.inside.kids.items ≡ change_at c.self.inside.kids.items (run_index c.args.child.table) (λ ks. ks ++ c.args.child.row ∷ []) = change_past c.self.inside.kids.items (run_index c.args.child.table) _ (omega (arith, n, c.self.inside.kids.ok.0)) in
    rw (← c.self.view_is) (ap (λ kids. record { cells = c.self.inside.cells.items; kids = kids }) same)
