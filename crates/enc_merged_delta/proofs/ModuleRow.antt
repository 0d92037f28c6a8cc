-- The Module row of the merged delta breaks no rule.
use Rattle.std.proofs.Common.{◌≡◌, ℕ, ◌+◌, true, false, List, [], ◌∷◌, ◌++◌, length, None, refl, sym, ap, ◌∙◌, arith}
use Rattle.std.specs.Prelude.{◌||◌, ◌==◌, bytes_eq}
use Rattle.std.specs.List.{list_any}
use Rattle.std.proofs.lemmas.Bool.{or_parts}
use Rattle.std.proofs.lemmas.Bool.Decides.{nat_tests}
use Rattle.std.proofs.lemmas.List.Folds.{list_any-append}
use Rattle.std.proofs.lemmas.Slice.Eq.{bytes_eq-Decides}
use Rattle.enc_base.specs.declared.refusal.Place.TheVariants as place
use Rattle.enc_meta.specs.Heaps.{nil_guid}
use Rattle.enc_plain.specs.Chain.{Chain, mvid_of, id_of}
use Rattle.enc_rows.specs.Source.{Source}
use Rattle.enc_schema.specs.Columns as columns
use Rattle.enc_delta.specs.Rules.{module_token, own_guid, other_module, not_next, other_base, id_taken}
use Rattle.enc_delta.proofs.Unbroken.{landed}
use Rattle.enc_agg.specs.Extend.{extended}
use Rattle.enc_merged_delta.specs.Laws.{KeepsMerged, MergedIsNamed}
use Rattle.enc_merged_delta.proofs.Silent.{unbroken_is}

-- E1
pub keeps_module : KeepsMerged other_module
unfolding other_module
keeps_module c a b s may says = rw (says.mvid, (bytes_eq-Decides (mvid_of c) (mvid_of c)).1 refl) refl

-- E2
pub keeps_next : KeepsMerged not_next
unfolding not_next
keeps_next c a b s may says =
    let same : (length c.ids + 1 == length c.ids + 1) ≡ true = grind (arith, nat_tests) in
    rw (says.generation, same) refl

-- E3
pub keeps_base : KeepsMerged other_base
unfolding other_base
keeps_base c a b s may says = rw (says.base, (bytes_eq-Decides (id_of c (length c.ids)) (id_of c (length c.ids))).1 refl) refl

-- the ids of a chain with a delta
ids_after : (c : Chain) (a : Source) → (extended c a).ids ≡ c.ids ++ own_guid c a columns.module_enc_id ∷ []
unfolding extended
ids_after c a = refl

second_is_free : (c : Chain) (a b : Source) → id_taken (extended c a) b ≡ None → (bytes_eq (own_guid (extended c a) b columns.module_enc_id) nil_guid || list_any (λ id. bytes_eq id (own_guid (extended c a) b columns.module_enc_id)) (extended c a).ids) ≡ false
unfolding id_taken
second_is_free c a b h = unbroken_is _ (place.Row module_token) h

free_before : (ids more all : List (List ℕ)) (id : List ℕ) → all ≡ ids ++ more → (bytes_eq id nil_guid || list_any (λ i. bytes_eq i id) all) ≡ false → (bytes_eq id nil_guid || list_any (λ i. bytes_eq i id) ids) ≡ false
free_before ids more all id e h =
    let two = or_parts (bytes_eq id nil_guid) _ h in
    let parts = or_parts (list_any (λ i. bytes_eq i id) ids) _ (sym (list_any-append (λ i. bytes_eq i id) ids more) ∙ ap (list_any (λ i. bytes_eq i id)) (sym e) ∙ two.1) in
    rw (two.0, parts.0) refl

-- E4
pub keeps_id : KeepsMerged id_taken
unfolding id_taken
keeps_id c a b s may says =
    let own = second_is_free c a b (landed (extended c a) b may.second.lands.early).id in
    let free = free_before c.ids _ (extended c a).ids (own_guid (extended c a) b columns.module_enc_id) (ids_after c a) own in
    rw (says.enc_id, free) refl

-- its EncId is the second's
pub is_named : MergedIsNamed
unfolding extended
is_named c a b s may says = ap (λ id. c.ids ++ id ∷ []) says.enc_id
