use Rattle.std.proofs.Common.{◌≡◌, length, ap, arith}
use Rattle.enc_merge.specs.Merges.{methods_listed}
use Rattle.enc_merge.proofs.MethodsOfBoth.{methods_few}
use Rattle.enc_merge.proofs.pdb.weigh.Goals as goal

pub overflow_cast-methods : goal.overflow_cast-methods
overflow_cast-methods c =
    let x = c.args.last.now in
    let same : length c.args.methods.now ≡ length (methods_listed x.chain x.first x.second) = ap length c.requires in
    omega (arith, same, methods_few c.aggregate.result.now x c.aggregate.ensures)

pub pdb_parts-requires-clause-few : goal.pdb_parts-requires-clause-few
pdb_parts-requires-clause-few c =
    let x = c.args.last.now in
    let same : length c.args.methods.now ≡ length (methods_listed x.chain x.first x.second) = ap length c.requires in
    omega (arith, same, methods_few c.aggregate.result.now x c.aggregate.ensures)
