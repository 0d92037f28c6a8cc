use Rattle.std.proofs.Common.{List, subst}
use Rattle.std.specs.List.Sorted.{IsPermutation}
use Rattle.enc_pdb_writer.specs.declared.edits.MethodEdit.{MethodEdit}
use Rattle.enc_pdb_writer.proofs.RowsRise.{rows_rise}
use Rattle.enc_pdb_writer.proofs.edits.by_rows.Goals as goal

pub returns : goal.returns
returns c =
    let same = subst (λ (xs : List MethodEdit). IsPermutation xs c.sorted.result.items) c.in_ok-placed.ensures c.sorted.ensures.same in
    record { rises = rows_rise c.args.methods.now c.args.edits.now c.sorted.result.items c.requires.form c.requires.methods same c.sorted.ensures.rises; same = same }
