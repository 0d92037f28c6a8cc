use Rattle.std.proofs.Common.{◌≡◌, ◌+◌, ◌≤◌, length, sym, subst, ◌∙◌, arith}
use Rattle.std.proofs.lemmas.List.{drop_more}
use Rattle.enc_reference_depth.specs.Edges.{depth_in}
use Rattle.enc_reference_depth.proofs.NextDepths.{RoundAt, depth_fits, round_begins, round_ends, round_goes, written_back}
use Rattle.enc_reference_depth.proofs.depths.next_depths.Goals as goal

pub overflow_add-depth : goal.overflow_add-depth
overflow_add-depth c =
    let few : c.depth_in-depth.result ≤ 100 = depth_fits c.args.refs c.args.depths.now _ c.depth_in-depth.result c.requires.low c.depth_in-depth.ensures in
    omega (arith, few)

pub loop-i-init : goal.loop-i-init
loop-i-init c =
    round_begins c.args.edges.now (depth_in c.args.refs c.args.depths.now) (length c.args.depths.now) c.in_ok-next.next.items
    (c.in_ok-next.ensures.items_if_clones_equal (λ x same. same))

pub loop-i-preserved : goal.loop-i-preserved
loop-i-preserved c =
    let depth = depth_in c.args.refs c.args.depths.now in
    let old = c.loop-i.next.items in
    let now = c.deref_mut.result.now in
    let new = c.raise.new.depths in
    let at = subst (λ xs. RoundAt c.args.edges.now depth (length c.args.depths.now) xs c.loop-i.i) (sym c.deref_mut.ensures.value) c.loop-i.invariant in
    let goes = round_goes c.args.edges.now depth (length c.args.depths.now) now new c.loop-i.i _ (c.depth_in-depth.result + 1) at
    (drop_more c.args.edges.now c.loop-i.i _ c.loop-i-test.true) (omega (arith, c.depth_in-depth.ensures)) c.raise.ensures in
    let size : length new ≡ c.loop-i.next.len = c.raise.ensures.count ∙ c.deref_mut.ensures.len in
    subst (λ xs. RoundAt c.args.edges.now depth (length c.args.depths.now) xs (c.loop-i.i + 1)) (sym (written_back new old c.loop-i.next.len size)) goes

pub returns : goal.returns
returns c = round_ends c.args.edges.now c.args.refs c.args.depths.now c.loop-i.next.items c.loop-i.i c.loop-i.invariant c.loop-i-test.false
