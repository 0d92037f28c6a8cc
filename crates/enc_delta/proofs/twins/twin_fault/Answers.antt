use Rattle.std.proofs.Common.{◌≡◌, List, length, true, refl, sym, ap, subst, ◌∙◌, arith}
use Rattle.std.specs.List.{list_any}
use Rattle.std.specs.List.Sorted.{IsNonDecreasingBy}
use Rattle.enc_delta.specs.declared.shared.Keyed.{Keyed}
use Rattle.enc_delta.specs.Members.{AreKeyed, AreSame, near_told, name_key, twin_key}
use Rattle.enc_delta.proofs.NearTwins.{named_keyed, told_keyed, same_keyed, twins_told}
use Rattle.enc_delta.proofs.Namesakes.{by_name, kept_told, named_same}
use Rattle.enc_delta.proofs.twins.twin_fault.Goals as goal

pub shared-requires : goal.shared-requires
shared-requires g c =
    let q = g.M.Members.asked c.args.members.now in
    let pairs = c.args.pairs.now in
    let kept = c.in_ok-kept.kept.items in
    let first : c.add_named.new.entries.items ≡ by_name q true pairs = c.in_ok-add_named.ensures.named ∙ rw c.new-new.ensures.items refl in
    let same = named_same q pairs kept _ _ _ _ first c.sorted-entries.ensures.same (rw c.deref-3.ensures.value at c.in_ok-add_named-2.ensures.named) c.sorted-named.ensures.same in
    let named = subst (λ (l : List Keyed). AreKeyed q (name_key q) l) (sym c.deref-5.ensures.value) (named_keyed q pairs kept c.sorted-named.result.items c.requires.rows same) in
    rw (c.in_ok-learn_shared.ensures) named

pub least_twin-requires-clause-keyed : goal.least_twin-requires-clause-keyed
least_twin-requires-clause-keyed g c =
    let q = g.M.Members.asked c.args.members.now in
    let keys = g.M.Members.keys c.args.members.now in
    let pairs = c.args.pairs.now in
    let kept = c.in_ok-kept.kept.items in
    let entries = c.deref-5.result.now in
    let first : c.add_named.new.entries.items ≡ by_name q true pairs = c.in_ok-add_named.ensures.named ∙ rw c.new-new.ensures.items refl in
    let same = named_same q pairs kept _ _ _ _ first c.sorted-entries.ensures.same (rw c.deref-3.ensures.value at c.in_ok-add_named-2.ensures.named) c.sorted-named.ensures.same in
    let named = subst (λ (l : List Keyed). AreKeyed q (name_key q) l) (sym c.deref-5.ensures.value) (named_keyed q pairs kept c.sorted-named.result.items c.requires.rows same) in
    let told = told_keyed q keys entries (length entries) (omega arith) named in
    let shared = rw (c.in_ok-learn_shared.ensures) at c.in_ok-shared.ensures in
    let near = subst (λ (l : List Keyed). AreKeyed q (twin_key q keys) l) (sym shared) told in
    rw (c.in_ok-learn_shared.ensures) (subst (λ (l : List Keyed). AreKeyed q (twin_key q keys) l) (sym c.deref-6.ensures.value) (same_keyed q (twin_key q keys) c.in_ok-shared.field-0.items c.sorted-told.result.items c.sorted-told.ensures.same near))

pub returns : goal.returns
returns g c =
    let q = g.M.Members.asked c.args.members.now in
    let keys = g.M.Members.keys c.args.members.now in
    let m = (g.C.ChainView.chain c.args.chain.now).plain in
    let pairs = c.args.pairs.now in
    let old = c.in_ok-old.old.items in
    let kept = c.in_ok-kept.kept.items in
    let entries = c.deref-5.result.now in
    let first : c.add_named.new.entries.items ≡ by_name q true pairs = c.in_ok-add_named.ensures.named ∙ rw c.new-new.ensures.items refl in
    let named = named_same q pairs kept _ _ _ _ first c.sorted-entries.ensures.same (rw c.deref-3.ensures.value at c.in_ok-add_named-2.ensures.named) c.sorted-named.ensures.same in
    let same : AreSame _ entries = λ f. ap (list_any f) c.deref-5.ensures.value ∙ named f in
    let of_owner = kept_told q m pairs old kept _ _ (g.met.M.Members.tables c.args.members.now) c.in_ok-old.ensures c.in_ok-add_named.ensures.children first c.sorted-entries.ensures.same (rw (c.deref.ensures.value, c.deref-2.ensures.value) at c.in_ok-kept.ensures) in
    let rising = subst (λ (l : List Keyed). IsNonDecreasingBy (λ (k : Keyed). k.key) l) (sym c.deref-5.ensures.value) c.sorted-named.ensures.sorted in
    let shared = rw (c.in_ok-learn_shared.ensures) at c.in_ok-shared.ensures in
    let again : AreSame (near_told q keys entries (length entries)) c.deref-6.result.now = λ f. ap (list_any f) c.deref-6.ensures.value ∙ c.sorted-told.ensures.same f ∙ ap (list_any f) shared in
    let least = rw (c.in_ok-learn_shared.ensures) at c.least_twin.ensures.twin in
    c.placed.ensures ∙ twins_told q keys m pairs kept entries c.deref-6.result.now c.least_twin.result c.requires.rows of_owner same rising again least
