-- The children that EncLog gives their owners are those of the edits, in their order.
use Rattle.std.proofs.Common.{◌≡◌, ℕ, Bool, true, false, List, [], ◌∷◌, ◌++◌, refl, sym, ap, ◌∙◌, append_assoc}
use Rattle.std.specs.Prelude.{not}
use Rattle.std.specs.List.{list_all}
use Rattle.std.proofs.lemmas.Bool.{not-false, and_from}
use Rattle.std.proofs.lemmas.List.Folds.{list_all-append}
use Rattle.enc_base.specs.declared.token.Token.{Token}
use Rattle.enc_rows.specs.Source.{Source}
use Rattle.enc_schema.specs.Children.{is_child_table}
use Rattle.enc_schema.proofs.ChildTables.{by_child}
use Rattle.enc_plain.specs.Apply.{Attached}
use Rattle.enc_plain.specs.Chain.{Chain}
use Rattle.enc_delta.specs.declared.log_entry.LogEntry.{LogEntry}
use Rattle.enc_delta.specs.Delta.{is_module}
use Rattle.enc_delta.specs.Pairs.{pairs_in, attached_of}
use Rattle.enc_delta.specs.Rules.{is_add, counts, counted}
use Rattle.enc_edit_list.specs.declared.edit.Edit.{Edit}
use Rattle.enc_edit_list.specs.declared.edit.EditList.{EditList}
use Rattle.enc_rules.specs.Edited.{row_edited, attached_by, attached_behind, attached_in}
use Rattle.enc_rules.specs.Listed.{count_after}
use Rattle.enc_memory_module.proofs.Unbroken.{BreakNothing}
use Rattle.enc_list_delta.specs.Delta.{add_code, entries_for, adds_reference, entries_if, entries_behind, log_written}
use Rattle.enc_list_delta.specs.Holds.{MayFollow, SaysDelta}
use Rattle.enc_list_delta.proofs.TokensUnbroken.{nothing_breaks}
use Rattle.enc_list_delta.proofs.TokensByTable.{all_kept}
use Rattle.enc_list_delta.proofs.LogRulesEdits.{own_entry, Entries, alone, paired, entries_are, is_logged, owner_counts, own_counts}

-- the entries of an edit count
edit_counts : (c : Chain) (l : EditList) (before : List Edit) (e : Edit) → is_module (row_edited c.plain before e) ≡ false → Entries c l before e (row_edited c.plain before e) → list_all counts (entries_for e (row_edited c.plain before e)) ≡ true
edit_counts c l before e row (alone a) = rw (a.entries, own_counts (row_edited c.plain before e) row) refl
edit_counts c l before e row (paired owner table p) = rw (p.entries, own_counts (row_edited c.plain before e) row, owner_counts (count_after c l.edits) owner table p.child p.there) refl

counts_if : (b : Bool) (es rest : List LogEntry) → list_all counts es ≡ true → list_all counts rest ≡ true → list_all counts (entries_if b es ++ rest) ≡ true
counts_if true es rest h k = list_all-append counts es rest ∙ and_from (list_all counts es) (list_all counts rest) h k
counts_if false es rest h k = k

all_count : (c : Chain) (l : EditList) (asks : Edit → Bool) (before rest : List Edit) → BreakNothing c l → l.edits ≡ before ++ rest → list_all counts (entries_behind asks c.plain before rest) ≡ true
unfolding entries_behind
all_count c l asks before [] none is = refl
all_count c l asks before (e ∷ rest) none is =
    let w = is_logged c l before rest e none is in
    counts_if (asks e) (entries_for e (row_edited c.plain before e)) _
    (edit_counts c l before e w.row (entries_are c l before e w.owner))
    (all_count c l asks (before ++ e ∷ []) rest none (is ∙ sym (append_assoc before (e ∷ []) rest)))

-- so all of the log counts
pub log_counts : (c : Chain) (l : EditList) → BreakNothing c l → counted (log_written c.plain l.edits) ≡ log_written c.plain l.edits
unfolding counted log_written
log_counts c l none =
    let refs = all_count c l adds_reference [] l.edits none refl in
    let others = all_count c l (λ e. not (adds_reference e)) [] l.edits none refl in
    all_kept counts _ (list_all-append counts (entries_behind adds_reference c.plain [] l.edits) _ ∙ and_from _ _ refs others)

-- the code that gives an owner a child of a table
pub code_adds : (table : ℕ) → is_child_table table ≡ true → is_add (add_code table) ≡ true
code_adds table child = by_child (λ k. is_add (add_code k) ≡ true) refl refl refl refl refl table child

-- an entry of code 0 begins no pair
own_pairs : (row : Token) (rest : List LogEntry) → pairs_in (own_entry row ∷ rest) ≡ pairs_in rest
own_pairs row [] = refl
own_pairs row (e ∷ rest) = refl

edit_pairs : (c : Chain) (l : EditList) (before : List Edit) (e : Edit) (row : Token) (rest : List LogEntry) → Entries c l before e row → pairs_in (entries_for e row ++ rest) ≡ attached_by e row ++ pairs_in rest
edit_pairs c l before e row rest (alone a) = rw (a.entries, a.gives) (own_pairs row rest)
edit_pairs c l before e row rest (paired owner table p) = rw (p.entries, p.gives, code_adds table p.child) (ap (λ ps. record { owner = owner; child = row } ∷ ps) (own_pairs row rest))

-- an edit that adds a reference gives no owner a child
no_child : (c : Chain) (l : EditList) (before : List Edit) (e : Edit) (row : Token) → adds_reference e ≡ true → Entries c l before e row → attached_by e row ≡ []
no_child c l before e row h (alone a) = a.gives
no_child c l before e row h (paired owner table p) = let f : true ≡ false = sym h ∙ p.other in absurd cc

pairs_if : (b : Bool) (es behind : List LogEntry) (own : List Attached) → (b ≡ true → pairs_in (es ++ behind) ≡ own ++ pairs_in behind) → (b ≡ false → own ≡ []) → pairs_in (entries_if b es ++ behind) ≡ own ++ pairs_in behind
pairs_if true es behind own h k = h refl
pairs_if false es behind own h k = rw (k refl) refl

-- the pairs of references: none
reference_pairs : (c : Chain) (l : EditList) (before rest : List Edit) (behind : List LogEntry) → BreakNothing c l → l.edits ≡ before ++ rest → pairs_in (entries_behind adds_reference c.plain before rest ++ behind) ≡ pairs_in behind
unfolding entries_behind
reference_pairs c l before [] behind none is = refl
reference_pairs c l before (e ∷ rest) behind none is =
    let row = row_edited c.plain before e in
    let w = entries_are c l before e (is_logged c l before rest e none is).owner in
    let more = reference_pairs c l (before ++ e ∷ []) rest behind none (is ∙ sym (append_assoc before (e ∷ []) rest)) in
    ap pairs_in (append_assoc (entries_if (adds_reference e) (entries_for e row)) (entries_behind adds_reference c.plain (before ++ e ∷ []) rest) behind)
    ∙ pairs_if (adds_reference e) (entries_for e row) _ [] (λ h. edit_pairs c l before e row _ w ∙ ap (λ ps. ps ++ pairs_in (entries_behind adds_reference c.plain (before ++ e ∷ []) rest ++ behind)) (no_child c l before e row h w)) (λ h. refl)
    ∙ more

-- and those of all other edits: each edit's own
other_pairs : (c : Chain) (l : EditList) (before rest : List Edit) → BreakNothing c l → l.edits ≡ before ++ rest → pairs_in (entries_behind (λ e. not (adds_reference e)) c.plain before rest) ≡ attached_behind c.plain before rest
unfolding entries_behind attached_behind
other_pairs c l before [] none is = refl
other_pairs c l before (e ∷ rest) none is =
    let row = row_edited c.plain before e in
    let w = entries_are c l before e (is_logged c l before rest e none is).owner in
    let more = other_pairs c l (before ++ e ∷ []) rest none (is ∙ sym (append_assoc before (e ∷ []) rest)) in
    pairs_if (not (adds_reference e)) (entries_for e row) _ (attached_by e row) (λ h. edit_pairs c l before e row _ w) (λ h. no_child c l before e row (not-false (adds_reference e) h) w)
    ∙ ap (λ ps. attached_by e row ++ ps) more

pub log_pairs : (c : Chain) (l : EditList) → BreakNothing c l → pairs_in (counted (log_written c.plain l.edits)) ≡ attached_in c.plain l.edits
unfolding log_written
log_pairs c l none = ap pairs_in (log_counts c l none) ∙ written c l none
  where
    written : (c : Chain) (l : EditList) → BreakNothing c l → pairs_in (log_written c.plain l.edits) ≡ attached_in c.plain l.edits
    written c l none = reference_pairs c l [] l.edits (entries_behind (λ e. not (adds_reference e)) c.plain [] l.edits) none refl ∙ other_pairs c l [] l.edits none refl

-- the pairs of the delta are those of the list
pub attached_written : (c : Chain) (l : EditList) (s : Source) → MayFollow c l → SaysDelta c l s → attached_of s ≡ attached_in c.plain l.edits
unfolding attached_of
attached_written c l s may says = rw says.log (log_pairs c l (nothing_breaks c l may))
