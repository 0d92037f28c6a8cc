use Rattle.std.proofs.Common.{◌≡◌, suc, length, ◌∙◌, arith}
use Rattle.enc_agg.specs.Directory.{row_key}
use Rattle.enc_agg.specs.Extend.{extended}
use Rattle.enc_agg.specs.Seen.{chain_of_all}
use Rattle.enc_agg.proofs.Histories.{ids_count}
use Rattle.enc_agg.proofs.Gained.{owned_alone, held_alone}
use Rattle.enc_agg.proofs.entries.brought_by.Goals as goal

pub listings-requires : goal.listings-requires
listings-requires g c =
    let many : c.generations.result ≡ suc (length c.args.aggregate.now.deltas) = omega (arith, c.generations.ensures.count, ids_count c.args.aggregate.now.base c.args.aggregate.now.deltas) in
    λ u. c.in_ok-places.ensures.same (row_key u) ∙ rw (c.requires.tokens, ← many) (c.in_ok-places.ensures.places u)

pub returns-clause-entries : goal.returns-clause-entries
returns-clause-entries g c = rw c.entries_with_own.ensures.entries (record {
  places = λ u. rw c.generations.ensures.count at (c.in_ok-places.ensures.places u);
  owners = c.in_ok-gained.ensures.owners;
  kids = c.in_ok-gained.ensures.kids;
})

pub returns-clause-own : goal.returns-clause-own
returns-clause-own g c = rw c.entries_with_own.ensures.own (record {
  places = λ u. c.in_ok-places.ensures.same (row_key u) ∙ rw c.generations.ensures.count at (c.in_ok-places.ensures.places u);
  owners = owned_alone (chain_of_all c.args.aggregate.now) (extended (chain_of_all c.args.aggregate.now) c.args.delta.now) _ _
      (λ u. c.in_ok-gained.ensures.same.owners (row_key u)) c.in_ok-gained.ensures.owners;
  kids = held_alone (chain_of_all c.args.aggregate.now) (extended (chain_of_all c.args.aggregate.now) c.args.delta.now) _ _ _ _
      c.in_ok-gained.ensures.same.counts c.in_ok-gained.ensures.same.kids c.in_ok-gained.ensures.kids;
})
