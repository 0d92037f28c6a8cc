use Rattle.std.proofs.Common.{sym, ◌∙◌}
use Rattle.enc_image.specs.Base.{module_in, chain_of_base}
use Rattle.enc_agg.specs.Extend.{chain_with}
use Rattle.enc_agg.proofs.RowsAndKids.{has_old, kids_past}
use Rattle.enc_agg.proofs.kids.kid_rows_of_image.Goals as goal

pub returns-then-owner-count : goal.returns-then-owner-count
unfolding chain_with chain_of_base
returns-then-owner-count c = c.new.ensures.items ∙ sym (kids_past (module_in c.args.image.now) c.args.owner c.args.table _ c.count.ensures.count c.if-owner-count.true)

pub kid_rows-requires-clause-row : goal.kid_rows-requires-clause-row
kid_rows-requires-clause-row c = has_old (module_in c.args.image.now) c.args.owner _ c.count.ensures.count c.requires.row c.if-owner-count.false

pub returns : goal.returns
unfolding chain_with chain_of_base
returns c = c.kid_rows.ensures
