use Rattle.std.proofs.Common.{ap, ◌∙◌, eqb}
use Rattle.std.proofs.lemmas.List.Filters.{dedup_is}
use Rattle.enc_delta.specs.Rules.{stands_in}
use Rattle.enc_delta.proofs.ListsSets.{set_rises, set_same}
use Rattle.enc_delta.proofs.lists.set_of.Goals as goal

pub returns-clause-rises : goal.returns-clause-rises
returns-clause-rises c = set_rises _ _ c.sort_unstable.ensures.sorted (dedup_is eqb _ _ c.dedup.ensures.filtered)

pub returns-clause-same : goal.returns-clause-same
returns-clause-same c = λ n. set_same _ _ _ c.sort_unstable.ensures.permutation (dedup_is eqb _ _ c.dedup.ensures.filtered) n ∙ ap (λ ns. stands_in ns n) c.in_ok-numbers.ensures
