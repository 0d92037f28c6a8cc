use Rattle.std.proofs.Common.{◌≡◌, ◌++◌, ◌∷◌, [], ◌+◌, take, arith, length}
use Rattle.std.proofs.lemmas.Grind.{common_steps}
use Rattle.enc_edit_list.proofs.Placing.{known_more}
use Rattle.enc_edit_list.proofs.added.placed.Goals as goal

pub loop-at-preserved : goal.loop-at-preserved
loop-at-preserved c =
    let same : take (c.loop-at.at + 1) c.args.edits.now ≡ take c.loop-at.at c.args.edits.now ++ c.index-edits-at.result ∷ [] = grind (arith, common_steps) in
    let size : length (take c.loop-at.at c.args.edits.now) ≡ c.loop-at.at = grind (arith, common_steps) in
    rw (c.in_ok-push.ensures.items) (known_more c.loop-at.places.items c.put_place.new.places.items c.loop-at.ranks.items c.args.edits.now c.loop-at.at c.rank_in.result c.index-edits-at.result c.loop-at.invariant same (c.rank_in.ensures (take c.loop-at.at c.args.edits.now) c.loop-at.invariant.placed) (c.in_ok-put_place.ensures (take c.loop-at.at c.args.edits.now) size c.loop-at.invariant.placed))
