use Rattle.std.proofs.Common.{sym, ap, ◌∙◌}
use Rattle.std.specs.List.{list_any}
use Rattle.std.proofs.lemmas.List.Sorted.{list_any-IsPermutation}
use Rattle.enc_delta.proofs.MembersBeside.{any_filter}
use Rattle.enc_delta.proofs.siblings.grouped.Goals as goal

pub returns : goal.returns
returns g c = λ f. sym (list_any-IsPermutation f _ _ c.sort_unstable_by_key.ensures.permutation) ∙ ap (list_any f) c.in_ok-kept.ensures ∙ any_filter _ f c.args.pairs.now
