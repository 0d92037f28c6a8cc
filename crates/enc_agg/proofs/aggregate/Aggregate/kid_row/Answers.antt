use Rattle.std.proofs.Common.{refl, sym, ◌∙◌, arith}
use Rattle.enc_image.specs.Base.{module_in, chain_of_base}
use Rattle.enc_agg.specs.Extend.{chain_with}
use Rattle.enc_agg.proofs.RowsAndKids.{kids_row}
use Rattle.enc_agg.proofs.Directories.{kid_before, held_there}
use Rattle.enc_agg.proofs.aggregate.Aggregate.kid_row.Goals as goal

pub kid-requires-clause-row : goal.kid-requires-clause-row
unfolding chain_with chain_of_base
kid-requires-clause-row c = kids_row (module_in c.self.inside.image) c.args.owner c.args.table c.args.i _ refl c.requires.row (omega (arith, c.kids_of_image.ensures, c.if-i-kids_of_image.true))

pub kid-requires-clause-there : goal.kid-requires-clause-there
unfolding chain_with chain_of_base
kid-requires-clause-there c = omega (arith, c.kids_of_image.ensures, c.if-i-kids_of_image.true)

pub returns-then-i-kids_of_image : goal.returns-then-i-kids_of_image
returns-then-i-kids_of_image c =
    let deltas = c.self.invariant.deltas in
    rw (← c.self.view_is) (kid_before c.self.inside.image _ c.args.owner c.args.table c.args.i _ _ deltas.sound deltas.all c.requires.table c.kids_of_image.ensures c.if-i-kids_of_image.true c.kid.ensures.row)

pub unreachable-requires : goal.unreachable-requires
unreachable-requires c =
    let held = c.self.invariant.directory.kids c.args.owner c.args.table c.requires.table c.requires.owners in
    held_there _ _ _ _ c.args.i held (omega (arith, c.kids_of_image.ensures, c.if-i-kids_of_image.false)) (rw (← c.self.view_is) at c.requires.there) (sym c.kid-2.ensures ∙ c.in-None.is)
