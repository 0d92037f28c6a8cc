use Rattle.std.proofs.Common.{◌∙◌, arith}
use Rattle.enc_image.specs.Base.{chain_of_base}
use Rattle.enc_agg.specs.Extend.{chain_with}
use Rattle.enc_agg.proofs.Histories.{counts_are, counted_rows, with_tables, rows_few}
use Rattle.enc_agg.proofs.added.count_in.Goals as goal

pub returns-in_default-clause-count : goal.returns-in_default-clause-count
unfolding chain_with chain_of_base
returns-in_default-clause-count c = rw c.in_default.ensures.parts c.count.ensures.count

pub returns-clause-count : goal.returns-clause-count
returns-clause-count c =
    let all = rw c.in-Some.ensures.parts at c.requires in
    rw c.in-Some.ensures.parts (c.count_of.ensures
    ∙ counted_rows _ _ c.args.table (with_tables c.args.image.now _) (λ k low. counts_are c.args.image.now _ _ k all low))

pub returns-clause-few : goal.returns-clause-few
returns-clause-few c =
    let all = rw c.in-Some.ensures.parts at c.requires in
    let count = c.count_of.ensures ∙ counted_rows _ _ c.args.table (with_tables c.args.image.now _) (λ k low. counts_are c.args.image.now _ _ k all low) in
    let few = rows_few c.args.image.now _ _ c.args.table c.sound.ensures.cells all in
    omega (arith, count, few)
