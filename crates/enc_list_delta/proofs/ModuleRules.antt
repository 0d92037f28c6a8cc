-- The Module row of a delta that says what a list states breaks no rule.
use Rattle.std.proofs.Common.{◌≡◌, ℕ, ◌+◌, true, false, List, [], ◌∷◌, ◌++◌, length, Option, Some, refl, ap, ◌∙◌, arith}
use Rattle.std.specs.Prelude.{◌||◌, ◌==◌, bytes_eq, unwrap_or}
use Rattle.std.specs.List.{list_any}
use Rattle.std.proofs.lemmas.Bool.Decides.{nat_tests}
use Rattle.enc_meta.specs.BuiltLaws.{heaps_joined}
use Rattle.enc_meta.specs.Heaps.{Counted, nil_guid}
use Rattle.enc_meta.specs.Joined.{joined_guid}
use Rattle.enc_plain.specs.Chain.{Chain, mvid_of, id_of}
use Rattle.enc_rows.specs.Source.{Source, raw_in}
use Rattle.enc_schema.specs.Columns as columns
use Rattle.enc_delta.specs.Rules.{module_token, heaps_after, own_guid, other_module, not_next, other_base, id_taken}
use Rattle.enc_edit_list.specs.declared.edit.EditList.{EditList}
use Rattle.enc_rules.specs.Rules.{id_is_taken}
use Rattle.enc_list_delta.specs.Holds.{MayFollow, heaps_written, SaysDelta}
use Rattle.enc_list_delta.specs.Laws.{KeepsTo}
use Rattle.enc_list_delta.proofs.TokensUnbroken.{other_rules}

-- the heaps after the delta
pub heaps_are : (c : Chain) (l : EditList) (s : Source) → SaysDelta c l s → heaps_after c s ≡ heaps_joined c.heaps (heaps_written c l)
heaps_are c l s says = ap (λ (h : Counted). c.heaps ++ h ∷ []) says.heaps

-- a GUID of the Module row by its column
pub guid_is : (c : Chain) (l : EditList) (s : Source) (i : ℕ) (g : List ℕ) → SaysDelta c l s → joined_guid (heaps_joined c.heaps (heaps_written c l)) (raw_in s module_token i) ≡ Some g → own_guid c s i ≡ g
unfolding own_guid
guid_is c l s i g says there = ap (λ (o : Option (List ℕ)). unwrap_or o nil_guid) (ap (λ (h : List Counted). joined_guid h (raw_in s module_token i)) (heaps_are c l s says) ∙ there)

pub same_bytes : (xs : List ℕ) → bytes_eq xs xs ≡ true
same_bytes [] = refl
same_bytes (x ∷ xs) = let same : (x == x) ≡ true = grind (arith, nat_tests) in rw (same, same_bytes xs) refl

pub keeps_module : KeepsTo other_module
unfolding other_module
keeps_module c l s may says = rw (guid_is c l s columns.module_mvid (mvid_of c) says says.single.mvid, same_bytes (mvid_of c)) refl

pub keeps_next : KeepsTo not_next
unfolding not_next
keeps_next c l s may says =
    let same : (length c.ids + 1 == length c.ids + 1) ≡ true = grind (arith, nat_tests) in
    rw (says.single.generation, same) refl

pub keeps_base : KeepsTo other_base
unfolding other_base
keeps_base c l s may says = rw (guid_is c l s columns.module_enc_base_id (id_of c (length c.ids)) says says.single.base, same_bytes (id_of c (length c.ids))) refl

pub is_free : (c : Chain) (l : EditList) → MayFollow c l → (bytes_eq l.enc_id nil_guid || list_any (λ id. bytes_eq id l.enc_id) c.ids) ≡ false
unfolding id_is_taken
is_free c l may = (other_rules c l may).id

pub keeps_id : KeepsTo id_taken
unfolding id_taken
keeps_id c l s may says = rw (guid_is c l s columns.module_enc_id l.enc_id says says.single.enc_id, is_free c l may) refl
