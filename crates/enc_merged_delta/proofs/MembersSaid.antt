-- The new members of the merged delta break no rule.
use Rattle.std.proofs.Common.{◌≡◌, ℕ, ◌≤◌, Bool, true, false, refl, sym, ap, ◌∙◌, inl, inr, arith, subst}
use Rattle.std.specs.Prelude.{◌⊎◌, ◌||◌, ◌&&◌, ◌==◌, not, nat_lt}
use Rattle.std.proofs.lemmas.Bool.Decides.{nat_tests}
use Rattle.enc_base.specs.declared.token.Token.{Token}
use Rattle.enc_base.specs.Numbers.{has_flag}
use Rattle.enc_schema.specs.Columns as columns
use Rattle.enc_base.specs.Tables as tables
use Rattle.enc_rows.specs.Source.{Source}
use Rattle.enc_plain.specs.Apply.{Attached}
use Rattle.enc_plain.specs.Chain.{Chain, rows_before}
use Rattle.enc_plain.specs.Module.{has_row, cells_of}
use Rattle.enc_plain.specs.Rows.{Rows, number_at}
use Rattle.enc_plain.specs.Sound.{HasTables}
use Rattle.enc_plain.specs.ValueType.{is_value_type}
use Rattle.enc_plain.proofs.KindsOf.{row_there}
use Rattle.enc_delta.specs.Delta.{listed}
use Rattle.enc_delta.specs.Pairs.{attached_of}
use Rattle.enc_delta.specs.Rules.{is_insert}
use Rattle.enc_delta.specs.Changes.{has_layout, is_out_of_layout, breaks_layout, field_out_of_layout, has_no_slot, breaks_slots, method_without_slot}
use Rattle.enc_delta.proofs.Unbroken.{unbroken}
use Rattle.enc_agg.specs.Extend.{extended}
use Rattle.enc_agg.specs.Follows.{Follows}
use Rattle.enc_reference_depth.proofs.Layouts.{layouts_last, slots_last}
use Rattle.enc_merged_delta.specs.Laws.{KeepsMerged}
use Rattle.enc_merged_delta.specs.Merged.{MayMerge, SaysMerged, after_both}
use Rattle.enc_merged_delta.proofs.Counts.{grows, rows_first, tables_after}
use Rattle.enc_merged_delta.proofs.KeptByBoth.{first_lasts, judged_all}
use Rattle.enc_merged_delta.proofs.LogPairs.{pairs_are}
use Rattle.enc_merged_delta.proofs.PairsSplit.{Has, in_either, pair_owned, no_child, silent_children}
use Rattle.enc_merged_delta.proofs.SameRows.{all_rows_are}

-- the pairs of both
pub pair_of_either : (c : Chain) (a b s : Source) (x : Attached) → MayMerge c a b → SaysMerged c a b s → Has (attached_of s) x → Has (attached_of a) x ⊎ Has (attached_of b) x
pair_of_either c a b s x may says h = in_either (attached_of a) (attached_of b) x (subst (λ ps. Has ps x) (pairs_are c a b s may says) h)

-- owner and child of a pair of the first are rows after it
owner_there : (c : Chain) (a b : Source) (x : Attached) → MayMerge c a b → Has (attached_of a) x → has_row (extended c a).plain x.owner ≡ true
owner_there c a b x may h =
    let o = pair_owned c a x may.first.lands h in
    row_there (extended c a).plain x.owner o.low (omega (arith, o.high, rows_first c a b may x.owner.table))

pub child_there : (c : Chain) (a b : Source) (x : Attached) → MayMerge c a b → Has (attached_of a) x → has_row (extended c a).plain x.child ≡ true
child_there c a b x may h =
    let o = pair_owned c a x may.first.lands h in
    row_there (extended c a).plain x.child (omega (arith, o.new)) (omega (arith, o.last, rows_first c a b may x.child.table))

-- what is an insert after the first is one before it
older : (c : Chain) (a b : Source) (u : Token) → MayMerge c a b → is_insert (extended c a) u ≡ true → is_insert c u ≡ true
unfolding is_insert
older c a b u may h =
    let more : rows_before c u.table ≤ rows_before (extended c a) u.table = omega (arith, rows_first c a b may u.table, grows c (listed a) u.table) in
    wider (rows_before c u.table) (rows_before (extended c a) u.table) u.row more h
  where
    wider : (n more row : ℕ) → n ≤ more → (row == 0 || nat_lt more row) ≡ true → (row == 0 || nat_lt n row) ≡ true
    wider n more row le h = grind (arith, nat_tests, le, h)

by_age : (p q new old d e : Bool) → (new ≡ true → old ≡ true) → (p && q && not new && d && e) ≡ false → (p && q && not old && d && e) ≡ false
by_age false q new old d e f h = refl
by_age true false new old d e f h = refl
by_age true true new true d e f h = refl
by_age true true false false d e f h = h
by_age true true true false d e f h = let g : false ≡ true = f refl in absurd cc

-- E18
layout_later : (c : Chain) (a b : Source) (rows : Rows) (x : Attached) → MayMerge c a b → is_out_of_layout (extended c a) rows x ≡ false → is_out_of_layout c rows x ≡ false
unfolding is_out_of_layout
layout_later c a b rows x may h =
    by_age (x.child.table == tables.field) (x.owner.table == tables.type_def) (is_insert (extended c a) x.owner) (is_insert c x.owner)
    (not (has_flag 0x10 (number_at rows x.child columns.field_flags))) (has_layout rows x.owner || is_value_type rows x.owner) (older c a b x.owner may) h

layout_kept : (c : Chain) (s : Source) (x : Attached) → HasTables c.plain → Follows c s → Has (attached_of s) x → is_out_of_layout c (cells_of (extended c s).plain) x ≡ false
unfolding field_out_of_layout
layout_kept c s x has f h =
    ap (λ rows. is_out_of_layout c rows x) (sym (judged_all c s has f.lands)) ∙ no_child (breaks_layout c s) (attached_of s) x (unbroken c s f.rules).layout h

pub keeps_layout : KeepsMerged field_out_of_layout
unfolding field_out_of_layout
keeps_layout c a b s may says = silent_children (breaks_layout c s) (attached_of s) (λ x h.
    ap (λ rows. is_out_of_layout c rows x) (all_rows_are c a b s may says) ∙ elim (pair_of_either c a b s x may says h) [
      | inl first ↦ layouts_last (extended c a).plain (after_both c a b).plain (first_lasts c a b may) c x (child_there c a b x may first) (owner_there c a b x may first)
          ∙ layout_kept c a x may.sound.owners.tables may.first first
      | inr second ↦ layout_later c a b (cells_of (after_both c a b).plain) x may (layout_kept (extended c a) b x (tables_after c a b may) may.second second)
    ])

-- E19
slots_later : (c : Chain) (a b : Source) (rows : Rows) (x : Attached) → MayMerge c a b → has_no_slot (extended c a) rows x ≡ false → has_no_slot c rows x ≡ false
unfolding has_no_slot
slots_later c a b rows x may h =
    by_age (x.child.table == tables.method_def) (x.owner.table == tables.type_def) (is_insert (extended c a) x.owner) (is_insert c x.owner)
    (has_flag 0x40 (number_at rows x.child columns.method_def_flags))
    (has_flag 0x20 (number_at rows x.owner columns.type_def_flags) || has_flag 0x400 (number_at rows x.child columns.method_def_flags)) (older c a b x.owner may) h

slots_kept : (c : Chain) (s : Source) (x : Attached) → HasTables c.plain → Follows c s → Has (attached_of s) x → has_no_slot c (cells_of (extended c s).plain) x ≡ false
unfolding method_without_slot
slots_kept c s x has f h =
    ap (λ rows. has_no_slot c rows x) (sym (judged_all c s has f.lands)) ∙ no_child (breaks_slots c s) (attached_of s) x (unbroken c s f.rules).slots h

pub keeps_slots : KeepsMerged method_without_slot
unfolding method_without_slot
keeps_slots c a b s may says = silent_children (breaks_slots c s) (attached_of s) (λ x h.
    ap (λ rows. has_no_slot c rows x) (all_rows_are c a b s may says) ∙ elim (pair_of_either c a b s x may says h) [
      | inl first ↦ slots_last (extended c a).plain (after_both c a b).plain (first_lasts c a b may) c x (child_there c a b x may first) (owner_there c a b x may first)
          ∙ slots_kept c a x may.sound.owners.tables may.first first
      | inr second ↦ slots_later c a b (cells_of (after_both c a b).plain) x may (slots_kept (extended c a) b x (tables_after c a b may) may.second second)
    ])
