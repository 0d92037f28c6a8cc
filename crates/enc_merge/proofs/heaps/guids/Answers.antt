use Rattle.std.proofs.Common.{◌≡◌, sym, ◌∙◌, arith}
use Rattle.enc_meta.specs.Joined.{guid_entries}
use Rattle.enc_merge.proofs.Guids.{no_entries, entry_there, entry_more, many_entries, all_entries}
use Rattle.enc_merge.proofs.heaps.guids.Goals as goal

pub loop-k-init : goal.loop-k-init
loop-k-init g c = c.new-bytes.ensures.items ∙ no_entries (g.C.ChainView.chain c.args.chain.now).heaps

pub unreachable-requires : goal.unreachable-requires
unreachable-requires g c =
    let heaps = (g.C.ChainView.chain c.args.chain.now).heaps in
    let many = many_entries heaps c.lengths-k-end.result c.lengths-k-end.ensures in
    let low = c.loop-k-test.true in
    entry_there heaps c.loop-k.k (omega (arith, many, low)) (sym c.guid_at.ensures ∙ c.in-None.is)

pub loop-k-preserved : goal.loop-k-preserved
loop-k-preserved g c =
    entry_more (g.C.ChainView.chain c.args.chain.now).heaps c.loop-k.k c.loop-k.bytes.items c.extend_from_slice.new.self.items c.in-Some.guid c.loop-k.invariant
    (sym c.guid_at.ensures ∙ c.in-Some.is) c.in_ok-extend_from_slice-in-Some.ensures.items

pub returns : goal.returns
returns g c =
    let heaps = (g.C.ChainView.chain c.args.chain.now).heaps in
    let many = many_entries heaps c.lengths-k-end.result c.lengths-k-end.ensures in
    let past = c.loop-k-test.false in
    let end = c.loop-k.auto.k-end in
    let all : c.loop-k.k ≡ guid_entries heaps = omega (arith, many, past, end) in
    c.from_vec.ensures ∙ c.loop-k.invariant ∙ all_entries heaps c.loop-k.k all
