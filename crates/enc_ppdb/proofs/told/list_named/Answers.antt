use Rattle.std.proofs.Common.{map, arith}
use Rattle.enc_ppdb.proofs.Tellers.{listed_more, none_listed, all_listed}
use Rattle.enc_ppdb.specs.Fault.{named_tokens}
use Rattle.enc_ppdb.specs.Told.{method_named_by, own_told}
use Rattle.enc_ppdb.proofs.told.list_named.Goals as goal

pub loop-k-init : goal.loop-k-init
loop-k-init c = λ ts those. none_listed c.args.places.now ts (map method_named_by (named_tokens c.args.pdb.now)) (own_told c.args.generation) c.args.listings.now those

pub loop-k-preserved : goal.loop-k-preserved
loop-k-preserved c = λ ts those. listed_more c.args.places.now ts _ (own_told c.args.generation) c.loop-k.k c.count.result c.method-method.result c.own_told-place.result
    c.loop-k.listings c.push.new.self c.method-method.ensures c.count.ensures c.own_told-place.ensures c.in_ok-push.ensures.counts c.in_ok-push.ensures.places
    (c.loop-k.invariant ts those)

pub returns : goal.returns
returns c = λ ts those. all_listed c.args.places.now ts c.args.pdb.now (own_told c.args.generation) c.loop-k.k c.loop-k.listings (omega (arith, c.loop-k-test.false, c.methods-k-end.ensures))
    (c.loop-k.invariant ts those)
