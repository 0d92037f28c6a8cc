use Rattle.std.proofs.Common.{◌≡◌, ◌==◌, List, Some, None, get_or, length, find, rules, of_calls, sym, refl, subst, ap, ◌∙◌, arith}
use Rattle.std.proofs.lemmas.Fn.{always_returns_same}
use Rattle.std.proofs.lemmas.Option.{slice_get_read}
use Rattle.std.specs.FinMap.{nat_cmp-IsAntisymmetric}
use Rattle.enc_seqpoints.specs.declared.point.Point.{Point}
use Rattle.enc_seqpoints.specs.Grammar.{MethodPoints}
use Rattle.enc_seqpoints.proofs.Rising.{found, not_found, searchable, none_there}
use Rattle.enc_seqpoints.proofs.points.Points.at.Goals as goal

pub returns-in-Ok : goal.returns-in-Ok
returns-in-Ok c =
    let items = c.self.inside.items.items in
    let at = c.in-Ok.ensures.position (λ (p : Point). p.offset) (always_returns_same _ _ _ (λ a r f k. search (rules, of_calls))) in
    let here = nat_cmp-IsAntisymmetric _ _ (at c.index.result.now) in
    let read : get_or c.deref.result.now c.in-Ok.i c.index.result.now ≡ c.index.result.now = ap (λ (ps : List Point). get_or ps c.in-Ok.i c.index.result.now) c.deref.ensures.value ∙ sym c.index.ensures in
    let there = found items c.args.offset c.in-Ok.i c.index.result.now c.self.invariant
    (slice_get_read items (length items) c.in-Ok.i c.index.result.now refl (omega (arith, c.in-Ok.ensures.bound, ap (λ (ps : List Point). length ps) c.deref.ensures.value)) c.index.ensures)
    (ap (λ (p : Point). p.offset) (sym read) ∙ here) in
    subst (λ (m : MethodPoints). Some c.index.result.now ≡ find (λ (p : Point). p.offset == c.args.offset) m.points) c.self.view_is there

pub returns-in-Err : goal.returns-in-Err
returns-in-Err c =
    let items = c.self.inside.items.items in
    let at = c.in-Err.ensures.position (λ (p : Point). p.offset) (always_returns_same _ _ _ (λ a r f k. search (rules, of_calls))) in
    let parted = at (rw c.deref.ensures.value (searchable items c.args.offset c.self.invariant)) in
    let there = not_found items c.args.offset (none_there items c.args.offset c.in-Err.field-0 (rw c.deref.ensures.value at parted)) in
    subst (λ (m : MethodPoints). None ≡ find (λ (p : Point). p.offset == c.args.offset) m.points) c.self.view_is there
