use Rattle.std.proofs.Common.{length, refl, sym, ap, ◌∙◌}
use Rattle.enc_meta.specs.Heaps.{nil_guid}
use Rattle.enc_plain.specs.Module.{rows_in}
use Rattle.enc_schema.specs.Schema.{columns_in}
use Rattle.enc_delta.proofs.OneHeapMore.{mvid_none}
use Rattle.enc_delta.proofs.identity.mvid_of.Goals as goal

pub returns-then-count-eq0 : goal.returns-then-count-eq0
unfolding nil_guid
returns-then-count-eq0 g c = mvid_none (g.C.ChainView.chain c.args.chain.now) (ap (λ m. length (rows_in m 0)) (sym (g.met.C.ChainView.means c.args.chain.now)) ∙ sym c.count.ensures.count ∙ c.if-count-eq0.true)

pub guid-requires-clause-kind : goal.guid-requires-clause-kind
unfolding columns_in
guid-requires-clause-kind g c = refl
