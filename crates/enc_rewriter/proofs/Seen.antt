-- The user texts of bodies that were seen are kept, and adding them again changes nothing.
use Rattle.std.proofs.Common.{◌≡◌, ℕ, true, List, [], ◌∷◌, Option, Some, refl, sym, ap, subst, ◌∙◌}
use Rattle.std.specs.List.{list_all}
use Rattle.std.specs.BTreeSet.{BTreeSet, contains, Updates}
use Rattle.std.specs.Ordering.{nat_cmp}
use Rattle.enc_base.specs.declared.token.Token.{Token}
use Rattle.enc_base.proofs.Passed.{one_passes}
use Rattle.enc_meta.specs.Built.{Built, is_kept}
use Rattle.enc_opcodes.specs.Body.{Body}
use Rattle.enc_plain.specs.Cell.{body}
use Rattle.enc_plain.specs.Module.{Module, cell_of}
use Rattle.enc_plain.proofs.Columns.{both_left, both_right}
use Rattle.enc_rewriter.specs.Standing.{are_kept_at, AreGathered}
use Rattle.enc_rewriter.specs.Values.{values_at, values_if, users_of_body, with_all}
use Rattle.enc_rewriter.specs.declared.pass.Pass.{Pass}
use Rattle.enc_rewriter.specs.declared.pass.Pass.TheVariants.{Users}
use Rattle.enc_rewriter.proofs.Gathered.{all_kept, all_stay}
use Rattle.enc_rewriter.proofs.KeptValues.{user_kept}

-- what is kept stays kept
pub seen_still : (places : ℕ → Option Body) (p : Pass) (h new : Built) (vs : List (List ℕ)) (seen : BTreeSet ℕ) → AreGathered places h seen → new ≡ with_all p h vs → AreGathered places new seen
seen_still places p h new vs seen all is n there = subst (λ (x : Built). are_kept_at places x n ≡ true) (sym is) (all_stay Users p h (users_of_body (places n)) vs (all n there))

-- values that are kept already
nothing_new : (h : Built) (vs : List (List ℕ)) → list_all (is_kept h.users) vs ≡ true → with_all Users h vs ≡ h
unfolding with_all
nothing_new h [] all = refl
nothing_new h (v ∷ vs) all =
    let one = user_kept h v (both_left (is_kept h.users v) (list_all (is_kept h.users) vs) all) in
    ap (λ (x : Built). with_all Users x vs) one.0 ∙ nothing_new h vs (both_right (is_kept h.users v) (list_all (is_kept h.users) vs) all)

values_are : (m : Module) (u : Token) (o : Option Body) → cell_of m u 0 ≡ Some (body o) → values_at Users m u 0 ≡ users_of_body o
unfolding values_at
values_are m u o is = ap (values_if Users) is

pub seen_before : (m : Module) (places : ℕ → Option Body) (h : Built) (seen : BTreeSet ℕ) (u : Token) (place : ℕ) → AreGathered places h seen → cell_of m u 0 ≡ Some (body (places place))
    → contains nat_cmp seen place ≡ true → h ≡ with_all Users h (values_at Users m u 0)
seen_before m places h seen u place all is there =
    sym (ap (with_all Users h) (values_are m u (places place) is) ∙ nothing_new h (users_of_body (places place)) (all place there))

-- one more place
pub one_seen : (m : Module) (places : ℕ → Option Body) (h new : Built) (old seen : BTreeSet ℕ) (u : Token) (place : ℕ) → AreGathered places h old → cell_of m u 0 ≡ Some (body (places place))
    → new ≡ with_all Users h (values_at Users m u 0) → Updates nat_cmp old seen place true → AreGathered places new seen
one_seen m places h new old seen u place all is added updates =
    let vs = users_of_body (places place) in
    let e : new ≡ with_all Users h vs = added ∙ ap (with_all Users h) (values_are m u (places place) is) in
    let here : are_kept_at places new place ≡ true = subst (λ (x : Built). are_kept_at places x place ≡ true) (sym e) (all_kept Users h vs) in
    one_passes (are_kept_at places new) old seen place (seen_still places Users h new vs old all e) here updates
