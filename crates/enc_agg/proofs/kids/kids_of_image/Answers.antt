use Rattle.std.proofs.Common.{List, ℕ, length, sym, ap}
use Rattle.enc_image.specs.Base.{module_in, chain_of_base}
use Rattle.enc_agg.specs.Extend.{chain_with}
use Rattle.enc_agg.proofs.RowsAndKids.{has_old, kids_past}
use Rattle.enc_agg.proofs.kids.kids_of_image.Goals as goal

pub kids-requires-clause-row : goal.kids-requires-clause-row
kids-requires-clause-row c = has_old (module_in c.args.image.now) c.args.owner _ c.count.ensures.count c.requires.row c.if-owner-count.true

pub returns-then-owner-count : goal.returns-then-owner-count
unfolding chain_with chain_of_base
returns-then-owner-count c = c.kids.ensures

pub returns-else-owner-count : goal.returns-else-owner-count
unfolding chain_with chain_of_base
returns-else-owner-count c = sym (ap (λ (xs : List ℕ). length xs) (kids_past (module_in c.args.image.now) c.args.owner c.args.table _ c.count.ensures.count c.if-owner-count.false))
