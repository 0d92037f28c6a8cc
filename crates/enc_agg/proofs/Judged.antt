-- The rows by which a delta is judged are those of the module after it.
use Rattle.std.proofs.Common.{◌≡◌, ℕ, Option, Some, None, refl, sym, ◌∙◌}
use Rattle.enc_base.specs.declared.token.Token.{Token}
use Rattle.enc_rows.specs.Source.{Source}
use Rattle.enc_plain.specs.Module.{cells_of}
use Rattle.enc_plain.specs.Chain.{Chain}
use Rattle.enc_delta.specs.Delta.{listed, place_in}
use Rattle.enc_delta.specs.Rows.{rows_after}
use Rattle.enc_delta.proofs.OwnRows.{own_is, old_is}
use Rattle.enc_agg.specs.Extend.{extended}
use Rattle.enc_agg.specs.Follows.{Lands}
use Rattle.enc_plain.specs.Sound.{HasTables}
use Rattle.enc_agg.specs.Laws.{RowsAreTheModules, MembersAreTheModules}
use Rattle.enc_agg.proofs.Children.{kids_after}
use Rattle.enc_agg.proofs.Fitting.{fits}
use Rattle.enc_agg.proofs.Viewing.{listed_cells, other_cells}

by_place : (c : Chain) (s : Source) (t : Token) (o : Option ℕ) → place_in (listed s) t ≡ o → HasTables c.plain → Lands c s → rows_after c s t ≡ cells_of (extended c s).plain t
by_place c s t (Some k) e tables follows = own_is c s t k e ∙ sym (listed_cells c s t k (fits c s tables follows) e)
by_place c s t None e tables follows = old_is c s t e ∙ sym (other_cells c s t (fits c s tables follows) e)

pub judged_rows : RowsAreTheModules
judged_rows c s t tables follows = by_place c s t (place_in (listed s) t) refl tables follows

pub judged_members : MembersAreTheModules
judged_members c s u table tables runs lands child = sym (kids_after c s tables lands runs u table child)
