use Rattle.std.proofs.Common.{◌≡◌, rules}
use Rattle.std.proofs.lemmas.Fn.{always_returns_same}
use Rattle.std.proofs.lemmas.List.Sorted.{IsNonDecreasingBy-from_sort_by_key}
use Rattle.enc_row_order.specs.Keyed.{sorted_key}
use Rattle.enc_row_order.proofs.OneOrder.{sorted_is}
use Rattle.enc_row_order.proofs.sorting.sorted.Goals as goal

pub returns : goal.returns
returns c =
    sorted_is sorted_key _ _ (IsNonDecreasingBy-from_sort_by_key sorted_key _ c.in_ok-sort_by_key.ensures.sorted (λ a r q k. search rules))
    (c.in_ok-sort_by_key.ensures.stable sorted_key (always_returns_same _ (λ a r. r ≡ sorted_key a.0.now) _ (λ a r q k. search rules)))
