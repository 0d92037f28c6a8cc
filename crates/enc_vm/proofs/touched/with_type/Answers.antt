use Rattle.std.proofs.Common.{◌≡◌, ◌++◌, List, rules, of_calls, sym, subst, ap, ◌∙◌}
use Rattle.std.proofs.lemmas.Fn.{always_returns_same}
use Rattle.std.specs.FinMap.{nat_cmp-IsAntisymmetric}
use Rattle.std.specs.Result.{IfOk}
use Rattle.enc_base.specs.declared.token.Token.{Token}
use Rattle.enc_vm.proofs.Types.{searchable, stays_at, comes_in_parted}
use Rattle.enc_vm.proofs.touched.with_type.Goals as goal

pub returns-in-Ok : goal.returns-in-Ok
returns-in-Ok c =
    let types = c.args.types.now in
    let at = c.in-Ok.ensures.position (λ (t : Token). t.row) (always_returns_same _ _ _ (λ a r f k. search (rules, of_calls))) in
    let here = nat_cmp-IsAntisymmetric _ _ (at c.args.token) in
    subst (λ (ts : List Token). IfOk c.joined.result (λ l. l.items ≡ ts))
    (ap (λ (ts : List Token). ts ++ types) c.new.ensures.items ∙ sym (stays_at c.in-Ok.field-0 types c.args.token c.requires.kind c.requires.order c.in-Ok.ensures.bound here))
    c.joined.ensures

pub returns-in-Err : goal.returns-in-Err
returns-in-Err c =
    let types = c.args.types.now in
    let at = c.in-Err.ensures.position (λ (t : Token). t.row) (always_returns_same _ _ _ (λ a r f k. search (rules, of_calls))) in
    let parted = at (searchable types c.args.token.row c.requires.order) in
    subst (λ (ts : List Token). IfOk c.with_at.result (λ l. l.items ≡ ts))
    (comes_in_parted types c.args.token c.in-Err.at c.requires.kind c.requires.order c.in-Err.ensures.bound parted)
    c.with_at.ensures
