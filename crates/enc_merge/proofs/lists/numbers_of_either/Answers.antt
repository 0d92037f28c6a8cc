use Rattle.std.proofs.Common.{◌≡◌, ◌++◌, map, ap, ◌∙◌, eqb}
use Rattle.std.proofs.lemmas.List.Filters.{dedup_is}
use Rattle.enc_base.specs.Token.{number_of}
use Rattle.enc_delta.specs.Delta.{listed}
use Rattle.enc_delta.proofs.ListsSets.{set_rises, set_same}
use Rattle.enc_merge.proofs.ListRows.{stands_in_both}
use Rattle.enc_merge.proofs.lists.numbers_of_either.Goals as goal

pub returns : goal.returns
returns c =
    let first = c.in_ok-push_numbers.ensures ∙ ap (λ ns. ns ++ map number_of (listed c.args.first.now)) c.new-numbers.ensures.items in
    let all : c.push_numbers-2.new.numbers.items ≡ map number_of (listed c.args.first.now) ++ map number_of (listed c.args.second.now) =
    c.in_ok-push_numbers-2.ensures ∙ ap (λ ns. ns ++ map number_of (listed c.args.second.now)) first in
    record {
      rises = set_rises _ _ c.sort_unstable.ensures.sorted (dedup_is eqb _ _ c.dedup.ensures.filtered);
      each = λ n. set_same _ _ _ c.sort_unstable.ensures.permutation (dedup_is eqb _ _ c.dedup.ensures.filtered) n
          ∙ stands_in_both (map number_of (listed c.args.first.now)) (map number_of (listed c.args.second.now)) c.push_numbers-2.new.numbers.items n all;
    }
