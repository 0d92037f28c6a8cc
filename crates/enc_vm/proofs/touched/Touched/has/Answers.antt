use Rattle.std.proofs.Common.{◌≡◌, ◌==◌, List, false, get_or, length, rules, of_calls, sym, subst, ap, ◌∙◌, arith}
use Rattle.std.proofs.lemmas.Fn.{always_returns_same}
use Rattle.std.specs.FinMap.{nat_cmp-IsAntisymmetric}
use Rattle.std.specs.List.{list_any}
use Rattle.enc_base.specs.Token.{is_token}
use Rattle.enc_base.specs.declared.token.Token.{Token}
use Rattle.enc_base.specs.Tables as tables
use Rattle.enc_vm.proofs.Types.{found, not_found, searchable}
use Rattle.enc_vm.proofs.touched.Touched.has.Goals as goal

pub returns-in-Ok : goal.returns-in-Ok
returns-in-Ok c =
    let items = c.self.inside.items.items in
    let at = c.in-Ok.ensures.position (λ (t : Token). t.row) (always_returns_same _ _ _ (λ a r f k. search (rules, of_calls))) in
    let here = nat_cmp-IsAntisymmetric _ _ (at c.args.token) in
    subst (λ (ts : List Token). (c.args.token.table == tables.type_def) ≡ list_any (λ (t : Token). is_token t c.args.token) ts) c.self.view_is (sym (found items c.args.token c.in-Ok.field-0 c.args.token c.self.invariant
    (omega (arith, c.in-Ok.ensures.bound, ap (λ (ts : List Token). length ts) c.deref.ensures.value))
    (ap (λ (ts : List Token). (get_or ts c.in-Ok.field-0 c.args.token).row) (sym c.deref.ensures.value) ∙ here)))

pub returns-in-Err : goal.returns-in-Err
returns-in-Err c =
    let items = c.self.inside.items.items in
    let at = c.in-Err.ensures.position (λ (t : Token). t.row) (always_returns_same _ _ _ (λ a r f k. search (rules, of_calls))) in
    let parted = at (rw c.deref.ensures.value (searchable items c.args.token.row c.self.invariant)) in
    subst (λ (ts : List Token). false ≡ list_any (λ (t : Token). is_token t c.args.token) ts) c.self.view_is (sym (not_found items c.args.token c.in-Err.field-0 (rw c.deref.ensures.value at parted)))
