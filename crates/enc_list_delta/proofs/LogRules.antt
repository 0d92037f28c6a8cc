-- The rules on EncLog: each entry that gives an owner a child stands before the child's own, which is the next new row of its table, and each new child has one.
use Rattle.std.proofs.Common.{◌≡◌, ℕ, ◌≤◌, Bool, true, false, List, [], ◌∷◌, ◌++◌, None, refl, sym, ◌∙◌, arith, append_assoc}
use Rattle.std.specs.Prelude.{not}
use Rattle.std.proofs.lemmas.List.{append-nil}
use Rattle.enc_base.specs.declared.token.Token.{Token}
use Rattle.enc_rows.specs.Source.{Source}
use Rattle.enc_schema.specs.Children.{is_child_table}
use Rattle.enc_plain.specs.Chain.{Chain}
use Rattle.enc_delta.specs.declared.log_entry.LogEntry.{LogEntry}
use Rattle.enc_delta.specs.Delta.{is_module, listed}
use Rattle.enc_delta.specs.Judged.{bad_entry, unowned_child}
use Rattle.enc_delta.specs.Rules.{inserts, rows_with, child_table, adds, log_fault, child_fault_in, child_fault}
use Rattle.enc_delta.proofs.ListsChildren.{all_named}
use Rattle.enc_edit_list.specs.Added.{rows_added}
use Rattle.enc_edit_list.specs.declared.edit.Edit.{Edit}
use Rattle.enc_edit_list.specs.declared.edit.EditList.{EditList}
use Rattle.enc_rules.specs.Edited.{row_edited}
use Rattle.enc_rules.specs.Listed.{count_after}
use Rattle.enc_memory_module.proofs.Unbroken.{BreakNothing}
use Rattle.enc_memory_module.proofs.Landed.{no_rows}
use Rattle.enc_list_delta.specs.Delta.{add_code, entries_for, adds_reference, entries_if, entries_behind, log_written}
use Rattle.enc_list_delta.specs.Holds.{MayFollow, SaysDelta}
use Rattle.enc_list_delta.specs.Laws.{KeepsTo}
use Rattle.enc_list_delta.proofs.TokensUnbroken.{nothing_breaks}
use Rattle.enc_list_delta.proofs.TokensInserts.{listed_inserts, listed_rows}
use Rattle.enc_list_delta.proofs.LogRulesEdits.{Entries, entries_are, is_logged}
use Rattle.enc_list_delta.proofs.LogRulesGood.{Good, good_append, good_log, is_code, Counted, edit_good, reference_good}
use Rattle.enc_list_delta.proofs.LogRulesCounted.{no_more, edit_adds, reference_adds, reference_own}

-- entries of which none is a fault, behind which the log is counted
record Goes (c : Chain) (tokens : List Token) (before entries behind : List LogEntry) (edits : List Edit) : Type 0 where
  good : Good c tokens before entries behind
  counted : Counted (before ++ entries) edits

goes_none : (c : Chain) (tokens : List Token) (before behind : List LogEntry) (edits : List Edit) → Counted before edits → Goes c tokens before [] behind edits
goes_none c tokens before behind edits counted = record { good = tt; counted = rw (append-nil before) counted }

goes_append : (c : Chain) (tokens : List Token) (before xs ys behind : List LogEntry) (edits : List Edit) → Good c tokens before xs (ys ++ behind) → Goes c tokens (before ++ xs) ys behind edits → Goes c tokens before (xs ++ ys) behind edits
goes_append c tokens before xs ys behind edits first g = record {
  good = good_append c tokens before xs ys behind first g.good;
  counted = rw (← append_assoc before xs ys) g.counted;
}

-- the rows after the tokens are those after the list
abbrev RowsAfter : Chain → EditList → List Token → Type 0
RowsAfter c l tokens = (t : ℕ) → rows_with c tokens t ≡ count_after c l.edits t

-- the entries of references
references_by : (c : Chain) (l : EditList) (tokens : List Token) (before : List Edit) (entries xs behind : List LogEntry) (e : Edit) (b : Bool) → adds_reference e ≡ b → Entries c l before e (row_edited c.plain before e) → Counted entries [] → ((more : List LogEntry) → Counted more [] → Goes c tokens more xs behind []) → Goes c tokens entries (entries_if b (entries_for e (row_edited c.plain before e)) ++ xs) behind []
references_by c l tokens before entries xs behind e false is w counted rest = rest entries counted
references_by c l tokens before entries xs behind e true is w counted rest =
    let row = row_edited c.plain before e in
    goes_append c tokens entries (entries_for e row) xs behind []
    (reference_good c l tokens before entries (xs ++ behind) e row is w)
    (rest (entries ++ entries_for e row) (λ t child. reference_own c l before entries e row t child is w ∙ counted t child))

references_go : (c : Chain) (l : EditList) (tokens : List Token) (before rest : List Edit) (entries behind : List LogEntry) → BreakNothing c l → l.edits ≡ before ++ rest → Counted entries [] → Goes c tokens entries (entries_behind adds_reference c.plain before rest) behind []
unfolding entries_behind
references_go c l tokens before [] entries behind none is counted = goes_none c tokens entries behind [] counted
references_go c l tokens before (e ∷ rest) entries behind none is counted =
    references_by c l tokens before entries (entries_behind adds_reference c.plain (before ++ e ∷ []) rest) behind e (adds_reference e) refl (entries_are c l before e (is_logged c l before rest e none is).owner) counted
    (λ more h. references_go c l tokens (before ++ e ∷ []) rest more behind none (is ∙ sym (append_assoc before (e ∷ []) rest)) h)

-- and those of all other edits
others_by : (c : Chain) (l : EditList) (tokens : List Token) (before : List Edit) (entries xs behind : List LogEntry) (e : Edit) (b : Bool) → RowsAfter c l tokens → adds_reference e ≡ b → is_module (row_edited c.plain before e) ≡ false → Entries c l before e (row_edited c.plain before e) → Counted entries before → ((more : List LogEntry) → Counted more (before ++ e ∷ []) → Goes c tokens more xs behind l.edits) → Goes c tokens entries (entries_if (not b) (entries_for e (row_edited c.plain before e)) ++ xs) behind l.edits
others_by c l tokens before entries xs behind e true rows is other w counted more =
    more entries (λ t child. counted t child ∙ sym (no_more before e t (reference_adds c l before e (row_edited c.plain before e) t child is w)))
others_by c l tokens before entries xs behind e false rows is other w counted more =
    let row = row_edited c.plain before e in
    goes_append c tokens entries (entries_for e row) xs behind l.edits
    (edit_good c l tokens before entries (xs ++ behind) e row rows other counted w)
    (more (entries ++ entries_for e row) (edit_adds c l before entries e row counted w))

others_go : (c : Chain) (l : EditList) (tokens : List Token) (before rest : List Edit) (entries behind : List LogEntry) → BreakNothing c l → RowsAfter c l tokens → l.edits ≡ before ++ rest → Counted entries before → Goes c tokens entries (entries_behind (λ e. not (adds_reference e)) c.plain before rest) behind l.edits
unfolding entries_behind
others_go c l tokens before [] entries behind none rows is counted = goes_none c tokens entries behind l.edits (rw (is, append-nil before) counted)
others_go c l tokens before (e ∷ rest) entries behind none rows is counted =
    let w = is_logged c l before rest e none is in
    others_by c l tokens before entries (entries_behind (λ e. not (adds_reference e)) c.plain (before ++ e ∷ []) rest) behind e (adds_reference e) rows refl w.row (entries_are c l before e w.owner) counted
    (λ more h. others_go c l tokens (before ++ e ∷ []) rest more behind none rows (is ∙ sym (append_assoc before (e ∷ []) rest)) h)

none_counted : Counted [] []
none_counted t child = sym (no_rows t)

-- the whole log
log_goes : (c : Chain) (l : EditList) (tokens : List Token) → BreakNothing c l → RowsAfter c l tokens → Goes c tokens [] (log_written c.plain l.edits) [] l.edits
unfolding log_written
log_goes c l tokens none rows =
    let xs = entries_behind adds_reference c.plain [] l.edits in
    let ys = entries_behind (λ e. not (adds_reference e)) c.plain [] l.edits in
    let first = references_go c l tokens [] l.edits [] (ys ++ []) none refl none_counted in
    goes_append c tokens [] xs ys [] l.edits first.good (others_go c l tokens [] l.edits xs [] none rows refl first.counted)

log_unbroken : (c : Chain) (l : EditList) (tokens : List Token) → BreakNothing c l → RowsAfter c l tokens → log_fault c tokens (log_written c.plain l.edits) ≡ None
log_unbroken c l tokens none rows = good_log c tokens (log_written c.plain l.edits) (log_goes c l tokens none rows).good

-- E10
pub keeps_entries : KeepsTo bad_entry
unfolding bad_entry
keeps_entries c l s may says = rw says.log (log_unbroken c l (listed s) (nothing_breaks c l may) (listed_rows c l s may says))

-- each new row of a child table has one entry that gives it to an owner
all_owned : (c : Chain) (l : EditList) (tokens : List Token) (table : ℕ) → BreakNothing c l → RowsAfter c l tokens → ((t : ℕ) → inserts c tokens t ≡ rows_added l.edits t) → is_child_table table ≡ true → child_fault_in c tokens (log_written c.plain l.edits) table ≡ None
all_owned c l tokens table none rows new child =
    let code = is_code table child in
    let many = (log_goes c l tokens none rows).counted table child in
    let is = code.child in
    let few : inserts c tokens (child_table (add_code table)) ≤ adds (log_written c.plain l.edits) (add_code table) = rw (is, new table, many) (omega arith) in
    rw is at (sym (all_named c tokens (log_written c.plain l.edits) (add_code table) (log_unbroken c l tokens none rows) code.low code.high few))

-- E11
owned : (c : Chain) (l : EditList) (s : Source) → MayFollow c l → SaysDelta c l s → (table : ℕ) → is_child_table table ≡ true → child_fault_in c (listed s) (log_written c.plain l.edits) table ≡ None
owned c l s may says table child = all_owned c l (listed s) table (nothing_breaks c l may) (listed_rows c l s may says) (listed_inserts c l s may says) child

pub keeps_owners : KeepsTo unowned_child
unfolding unowned_child child_fault
keeps_owners c l s may says =
    let own = owned c l s may says in
    rw (says.log, own 0x04 refl, own 0x06 refl, own 0x08 refl, own 0x14 refl) (own 0x17 refl)
