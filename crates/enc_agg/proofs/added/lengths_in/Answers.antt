use Rattle.std.proofs.Common.{sym, ◌∙◌, arith}
use Rattle.enc_meta.proofs.JoinedLengths.{lengths_alone, lengths_more}
use Rattle.enc_agg.proofs.Histories.{last_added, heaps_with, heaps_alone, last_limited}
use Rattle.enc_agg.proofs.added.lengths_in.Goals as goal

pub longer-requires-clause-strings : goal.longer-requires-clause-strings
longer-requires-clause-strings c =
    let limit = last_limited c.args.image.now _ _ (rw c.in-Some.ensures.parts at c.requires) in
    rw c.heaps.ensures (omega (arith, limit.strings))

pub longer-requires-clause-users : goal.longer-requires-clause-users
longer-requires-clause-users c =
    let limit = last_limited c.args.image.now _ _ (rw c.in-Some.ensures.parts at c.requires) in
    rw c.heaps.ensures (omega (arith, limit.users))

pub longer-requires-clause-blobs : goal.longer-requires-clause-blobs
longer-requires-clause-blobs c =
    let limit = last_limited c.args.image.now _ _ (rw c.in-Some.ensures.parts at c.requires) in
    rw c.heaps.ensures (omega (arith, limit.blobs))

pub longer-requires-clause-guids : goal.longer-requires-clause-guids
longer-requires-clause-guids c =
    let limit = last_limited c.args.image.now _ _ (rw c.in-Some.ensures.parts at c.requires) in
    rw c.heaps.ensures (omega (arith, limit.guids))

pub returns-in-None : goal.returns-in-None
returns-in-None c = rw (c.in-None.ensures.parts, heaps_alone c.args.image.now) (c.lengths.ensures ∙ sym (lengths_alone c.args.image.now.heaps))

pub returns-in-Some : goal.returns-in-Some
returns-in-Some c =
    let last = last_added c.args.image.now _ _ (rw c.in-Some.ensures.parts at c.requires) in
    let with = rw c.heaps.ensures at c.longer.ensures in
    rw (c.in-Some.ensures.parts, heaps_with c.args.image.now _ _) (lengths_more _ _ _ _ last.0.before with.strings with.users with.blobs with.guids)
