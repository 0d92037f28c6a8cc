use Rattle.std.proofs.Common.{refl, ap, subst, ◌∙◌}
use Rattle.enc_plain.specs.Chain.{Chain}
use Rattle.enc_merged_delta.specs.Merged.{guids_joined}
use Rattle.enc_merge.specs.Writing.{AreLast, heaps_put}
use Rattle.enc_merge.proofs.LastTwo.{chain_is}
use Rattle.enc_merge.proofs.heaps.heaps_merged.Goals as goal

pub returns : goal.returns
unfolding heaps_put
returns c =
    let x = c.args.last.now in
    let are : AreLast c.last.inside.agg.now x = subst (AreLast c.last.inside.agg.now) c.last.view_is c.last.invariant in
    let guids = c.in_ok-guids.ensures ∙ ap (λ (d : Chain). guids_joined d.heaps) (chain_is c.last.inside.agg.now x are) in
    rw (c.in_ok-joined.ensures, c.in_ok-joined-2.ensures, c.in_ok-joined-3.ensures, guids) refl
