use Rattle.std.proofs.Common.{◌≡◌, ◌-◌, length, refl, ap, subst, arith}
use Rattle.enc_agg.proofs.Histories.{ids_count}
use Rattle.enc_merge.specs.Writing.{AreLast, Both}
use Rattle.enc_merge.proofs.NewestRows.{of_second, of_first}
use Rattle.enc_merge.proofs.rows.newest_row.Goals as goal

pub returns-then-place-generations : goal.returns-then-place-generations
returns-then-place-generations c =
    let h = c.last.inside.agg.now in
    let are : AreLast h c.args.last.now = subst (AreLast h) c.last.view_is c.last.invariant in
    let many : c.generations.result - 1 ≡ length h.deltas = omega (arith, ids_count h.base h.deltas, c.generations.ensures.count) in
    let last = c.if-place-generations.true in
    of_second h c.args.last.now c.args.token c.place-place.result _ are c.requires c.place-place.ensures (omega (arith, many, last)) (ap (λ (x : Both). x.second) c.last.view_is) refl c.shift.ensures

pub returns : goal.returns
returns c =
    let h = c.last.inside.agg.now in
    let are : AreLast h c.args.last.now = subst (AreLast h) c.last.view_is c.last.invariant in
    let many : c.generations.result - 1 ≡ length h.deltas = omega (arith, ids_count h.base h.deltas, c.generations.ensures.count) in
    let other = c.if-place-generations.false in
    of_first h c.args.last.now c.args.token c.place-place.result _ are c.requires c.place-place.ensures (λ e. other (omega (arith, many, e))) (ap (λ (x : Both). x.first) c.last.view_is) refl refl
