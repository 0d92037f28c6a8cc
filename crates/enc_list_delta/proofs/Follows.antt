-- A delta that says what a list states is read as one, and breaks no rule.
use Rattle.std.proofs.Common.{◌≡◌, ℕ, suc, ◌<◌, ◌≤◌, Bool, true, false, List, [], ◌∷◌, length, Some, refl, ap, ◌∙◌, arith}
use Rattle.std.specs.Prelude.{◌==◌, slice_get}
use Rattle.std.specs.List.{list_all}
use Rattle.std.proofs.lemmas.Bool.{and_from}
use Rattle.std.proofs.lemmas.Bool.Decides.{nat_tests}
use Rattle.enc_base.specs.declared.token.Token.{Token}
use Rattle.enc_plain.specs.Chain.{Chain}
use Rattle.enc_rows.specs.Written.{count_at, rows_at}
use Rattle.enc_delta.specs.Judged.{first_meta}
use Rattle.enc_edit_list.specs.Form.{list_fits}
use Rattle.enc_edit_list.specs.declared.edit.EditList.{EditList}
use Rattle.enc_rules.specs.Edited.{rows_edited}
use Rattle.enc_list_delta.specs.Delta.{tokens_written}
use Rattle.enc_list_delta.specs.Holds.{MayFollow, heaps_written, is_listed_table}
use Rattle.enc_list_delta.specs.Laws.{metadata_written, DeltasAreRead, DeltasFollow}
use Rattle.enc_list_delta.proofs.ReadBack.{delta_is_read}
use Rattle.enc_list_delta.proofs.WrittenSays.{is_low, as_many, delta_says}
use Rattle.enc_list_delta.proofs.TokensUnbroken.{nothing_breaks, counts_fit}
use Rattle.enc_list_delta.proofs.TokensAbout.{edit_about, stands_after}
use Rattle.enc_list_delta.proofs.Tokens.{past_empty}
use Rattle.enc_list_delta.proofs.ModuleRules.{keeps_module, keeps_next, keeps_base, keeps_id}
use Rattle.enc_list_delta.proofs.HeapRules.{keeps_heaps}
use Rattle.enc_list_delta.proofs.MapRules.{keeps_rising, keeps_even, keeps_order, keeps_open, keeps_few}
use Rattle.enc_list_delta.proofs.LogRulesSets.{keeps_sets}
use Rattle.enc_list_delta.proofs.LogRules.{keeps_entries, keeps_owners}
use Rattle.enc_list_delta.proofs.RowRules.{keeps_indices, keeps_offsets, keeps_updates, keeps_signatures}
use Rattle.enc_list_delta.proofs.BodyRules.{keeps_bodies, keeps_locals, keeps_all_bodies}
use Rattle.enc_list_delta.proofs.MemberRules.{keeps_layout, keeps_slots, keeps_twins}

-- each item of a list passes what all at its places pass
pub all_by_place : {A : Type 0} (p : A → Bool) (xs : List A) → ((k : ℕ) (x : A) → slice_get xs k ≡ Some x → p x ≡ true) → list_all p xs ≡ true
all_by_place p [] each = refl
all_by_place p (x ∷ xs) each = and_from _ _ (each 0 x refl) (all_by_place p xs (λ k y h. each (suc k) y h))

-- the rows that edits are about have low numbers
edits_low : (c : Chain) (l : EditList) → MayFollow c l → list_all is_low (rows_edited c.plain l.edits) ≡ true
edits_low c l may = all_by_place is_low (rows_edited c.plain l.edits) at
  where
    at : (k : ℕ) (u : Token) → slice_get (rows_edited c.plain l.edits) k ≡ Some u → is_low u ≡ true
    at k u h =
        let w = stands_after c l u (nothing_breaks c l may) (edit_about c.plain l.edits k u h) in
        let few = counts_fit c l may u.table in
        let low : u.row < 0x1000000 = omega (arith, few, w.high) in
        grind (arith, nat_tests, low)

past_module : (t : ℕ) → 0x2D ≤ t → is_listed_table t ≡ true
past_module t h =
    let a : (t == 0) ≡ false = grind (arith, nat_tests) in
    let b : (t == 0x1E) ≡ false = grind (arith, nat_tests) in
    let d : (t == 0x1F) ≡ false = grind (arith, nat_tests) in
    rw (a, b, d) refl

pub deltas_are_read : DeltasAreRead
unfolding metadata_written list_fits
deltas_are_read c l il rows may held small =
    let none = nothing_breaks c l may in
    let past : (t : ℕ) → 0x2D ≤ t → count_at rows t ≡ 0 = λ t h. as_many c l _ il (tokens_written c l.edits t) (rows_at rows t) (held.others t (past_module t h)) ∙ ap length (past_empty c l t none h) in
    let read = delta_is_read (heaps_written c l) rows il held.good held.numbers held.fit (ap length held.single.1) past small in
    (read.0, read.1, delta_says c l il rows read.0 may.form (counts_fit c l may) (edits_low c l may) (λ t h. past_empty c l t none (omega (arith, h))) read.2 held)

pub deltas_follow : DeltasFollow
unfolding first_meta
deltas_follow c l s may says =
    rw (
      keeps_module c l s may says,
      keeps_next c l s may says,
      keeps_base c l s may says,
      keeps_id c l s may says,
      keeps_heaps c l s may says,
      keeps_rising c l s may says,
      keeps_even c l s may says,
      keeps_order c l s may says,
      keeps_sets c l s may says,
      keeps_entries c l s may says,
      keeps_owners c l s may says,
      keeps_open c l s may says,
      keeps_indices c l s may says,
      keeps_offsets c l s may says,
      keeps_updates c l s may says,
      keeps_bodies c l s may says,
      keeps_all_bodies c l s may says,
      keeps_layout c l s may says,
      keeps_slots c l s may says,
      keeps_twins c l s may says,
      keeps_signatures c l s may says,
      keeps_locals c l s may says,
      keeps_few c l s may says,
    ) refl
