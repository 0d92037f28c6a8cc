use Rattle.std.proofs.Common.{◌≡◌, ℕ, ◌+◌, ◌++◌, ◌∷◌, [], List, length, sym, ap, subst, ◌∙◌, arith}
use Rattle.std.proofs.lemmas.List.{append_assoc, length-append}
use Rattle.enc_plain.specs.Sound.{row_count}
use Rattle.enc_rewriter.specs.Standing.{AreFieldsPlaced}
use Rattle.enc_rewriter.proofs.FieldsPlaced.{fields_still, one_field, fields_weigh}
use Rattle.enc_rewriter.proofs.fields.place_fields.Goals as goal

pub loop-n-preserved : goal.loop-n-preserved
loop-n-preserved g c =
    let m = g.V.ModuleView.meaning c.args.view.now in
    let n = c.loop-n.n in
    let rva = c.in-Ok.rva in
    let fields = c.loop-n.fields.items in
    let old = c.loop-n.out.items in
    let new = c.push_field.new.out.items in
    let grown = c.in-Ok.ensures.grows in
    let before = c.loop-n.invariant.3 in
    let pushed : c.push.new.self.items ≡ fields ++ rva ∷ [] = c.in_ok-push-in-Ok.ensures.items in
    let still : AreFieldsPlaced m new fields n = subst (λ xs. AreFieldsPlaced m xs fields n) (sym grown.1) (fields_still m old grown.0 fields n c.loop-n.invariant.1) in (
      omega (arith, ap (λ (xs : List ℕ). length xs) pushed, length-append fields (rva ∷ []), c.loop-n.invariant.0),
      subst (λ xs. AreFieldsPlaced m new xs (n + 1)) (sym pushed) (one_field m new fields n rva c.loop-n.invariant.0 still c.in-Ok.ensures.placed),
      omega (arith, c.loop-n.invariant.2, c.in-Ok.ensures.size),
      (before.0 ++ grown.0, grown.1 ∙ ap (λ xs. xs ++ grown.0) before.1 ∙ append_assoc c.args.out.now.items before.0 grown.0),
    )

pub returns-clause-size : goal.returns-clause-size
returns-clause-size g c =
    let m = g.V.ModuleView.meaning c.args.view.now in
    let count : c.count-n-end.result ≡ row_count m 0x1D = c.count-n-end.ensures.count in
    let all : c.loop-n.n ≡ row_count m 0x1D = omega (arith, count, c.loop-n-test.false, c.loop-n.auto.n-end) in
    omega (arith, fields_weigh m c.loop-n.n all, c.loop-n.invariant.2)

pub returns-clause-placed : goal.returns-clause-placed
returns-clause-placed g c =
    let m = g.V.ModuleView.meaning c.args.view.now in
    let count : c.count-n-end.result ≡ row_count m 0x1D = c.count-n-end.ensures.count in
    let all : c.loop-n.n ≡ row_count m 0x1D = omega (arith, count, c.loop-n-test.false, c.loop-n.auto.n-end) in
    subst (λ k. AreFieldsPlaced m c.loop-n.out.items c.loop-n.fields.items k) all c.loop-n.invariant.1
