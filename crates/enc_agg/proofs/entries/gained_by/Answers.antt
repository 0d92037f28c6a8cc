use Rattle.std.proofs.Common.{◌≡◌, ap, map, take, get_or, ◌∙◌, arith}
use Rattle.std.proofs.lemmas.List.{take_all, length-map}
use Rattle.enc_delta.specs.Members.{pair_seen}
use Rattle.enc_delta.specs.Pairs.{attached_of}
use Rattle.enc_key_map.specs.Index.{latest}
use Rattle.enc_agg.specs.Seen.{chain_of_all}
use Rattle.enc_agg.specs.Directory.{kids_key, row_key}
use Rattle.enc_agg.proofs.Gained.{held_step, owner_snoc, last_owner, owners_known, kids_known, pair_owned, take_pair, others_known}
use Rattle.enc_agg.proofs.entries.gained_by.Goals as goal

pub count_so_far-others-requires-clause-row : goal.count_so_far-others-requires-clause-row
count_so_far-others-requires-clause-row c = (pair_owned (chain_of_all c.args.aggregate.now) c.args.delta.now c.args.pairs.now c.loop-k.k _ c.requires.follows.lands c.requires.pairs c.loop-k-test.true).low

pub count_so_far-others-requires-clause-table : goal.count_so_far-others-requires-clause-table
count_so_far-others-requires-clause-table c = (pair_owned (chain_of_all c.args.aggregate.now) c.args.delta.now c.args.pairs.now c.loop-k.k _ c.requires.follows.lands c.requires.pairs c.loop-k-test.true).child

pub count_so_far-others-requires-clause-owners : goal.count_so_far-others-requires-clause-owners
count_so_far-others-requires-clause-owners c = (pair_owned (chain_of_all c.args.aggregate.now) c.args.delta.now c.args.pairs.now c.loop-k.k _ c.requires.follows.lands c.requires.pairs c.loop-k-test.true).table

pub push-requires-clause-few : goal.push-requires-clause-few
push-requires-clause-few c =
    let inv = c.loop-k.invariant in
    let so_far = rw (inv.same.counts (kids_key _ _ 0)) at c.count_so_far-others.ensures in
    let few = others_known (chain_of_all c.args.aggregate.now) c.args.delta.now c.args.pairs.now c.loop-k.k _ c.count_so_far-others.result
    (latest c.loop-k.gained.counts.entries.items) (latest c.loop-k.gained.kids.entries.items) c.has_owners.ensures c.requires.follows c.requires.pairs
    c.loop-k-test.true inv.kids so_far in
    omega (arith, few)

pub loop-k-preserved : goal.loop-k-preserved
loop-k-preserved c =
    let inv = c.loop-k.invariant in
    let put = c.in_ok-push.ensures in
    let own = pair_owned (chain_of_all c.args.aggregate.now) c.args.delta.now c.args.pairs.now c.loop-k.k _ c.requires.follows.lands c.requires.pairs c.loop-k-test.true in
    let so_far = rw (inv.same.counts (kids_key _ _ 0)) at c.count_so_far-others.ensures in
    let more = take_pair c.args.pairs.now c.loop-k.k _ c.loop-k-test.true in
    (record {
      same = put.same;
      owners = λ u. rw more (owner_snoc (take c.loop-k.k (map pair_seen c.args.pairs.now)) (pair_seen (get_or c.args.pairs.now c.loop-k.k _)) u _ _ (put.owners (row_key u)) (inv.owners u));
      kids = λ u t there mine. rw more
          (held_step (chain_of_all c.args.aggregate.now) (take c.loop-k.k (map pair_seen c.args.pairs.now))
          (pair_seen (get_or c.args.pairs.now c.loop-k.k _)) c.count_so_far-others.result (latest c.loop-k.gained.counts.entries.items)
          (latest c.loop-k.gained.kids.entries.items) (latest c.push.new.self.counts.entries.items) (latest c.push.new.self.kids.entries.items) own.table
          own.child so_far put.counts put.kids inv.kids u t there mine);
    })

pub returns-clause-owners : goal.returns-clause-owners
returns-clause-owners c =
    let whole : take c.loop-k.k (map pair_seen c.args.pairs.now) ≡ attached_of c.args.delta.now = take_all c.loop-k.k (map pair_seen c.args.pairs.now) (omega (arith, c.loop-k-test.false, length-map c.args.pairs.now pair_seen)) ∙ c.requires.pairs in
    owners_known (chain_of_all c.args.aggregate.now) c.args.delta.now _ c.has_owners.ensures c.requires.follows.lands (λ u. c.loop-k.invariant.owners u ∙ ap (λ xs. last_owner xs u) whole)

pub returns-clause-kids : goal.returns-clause-kids
returns-clause-kids c =
    let whole : take c.loop-k.k (map pair_seen c.args.pairs.now) ≡ attached_of c.args.delta.now = take_all c.loop-k.k (map pair_seen c.args.pairs.now) (omega (arith, c.loop-k-test.false, length-map c.args.pairs.now pair_seen)) ∙ c.requires.pairs in
    kids_known (chain_of_all c.args.aggregate.now) c.args.delta.now (latest c.loop-k.gained.counts.entries.items)
    (latest c.loop-k.gained.kids.entries.items) c.has_owners.ensures c.requires.follows.lands
    (λ u t there mine. rw (← whole) (c.loop-k.invariant.kids u t there mine))
