-- Entries of EncLog of which none is a fault: those of one edit behind a log whose entries are counted.
use Rattle.std.proofs.Common.{◌≡◌, ℕ, ◌+◌, ◌<◌, ◌≤◌, Bool, true, false, List, [], ◌∷◌, ◌++◌, length, Some, None, refl, sym, ◌∙◌, inl, inr, arith, append_assoc}
use Rattle.std.specs.Prelude.{◌&&◌, ◌||◌, ◌==◌, not, nat_le, nat_lt, find}
use Rattle.std.proofs.lemmas.Bool.{cases_lt, eqb-true}
use Rattle.std.proofs.lemmas.Bool.Decides.{nat_tests}
use Rattle.std.proofs.lemmas.List.{append-nil, length-append}
use Rattle.enc_base.specs.declared.refusal.Place.{Place}
use Rattle.enc_base.specs.declared.refusal.Place.TheVariants as place
use Rattle.enc_base.specs.declared.token.Token.{Token}
use Rattle.enc_schema.specs.Children.{is_child_table, owner_table}
use Rattle.enc_schema.proofs.ChildTables.{by_child}
use Rattle.enc_plain.specs.Chain.{Chain, rows_before}
use Rattle.enc_delta.specs.declared.log_entry.LogEntry.{LogEntry}
use Rattle.enc_delta.specs.Delta.{is_module}
use Rattle.enc_delta.specs.Rules.{broken, rows_with, parent_table, child_table, is_add, has_parent, adds, counts, follows, log_fault_of, log_fault_at, log_fault}
use Rattle.enc_delta.proofs.ListsChildren.{at_seam}
use Rattle.enc_edit_list.specs.Added.{rows_added}
use Rattle.enc_edit_list.specs.declared.edit.Edit.{Edit}
use Rattle.enc_edit_list.specs.declared.edit.EditList.{EditList}
use Rattle.enc_rules.specs.Listed.{count_after}
use Rattle.enc_rules.specs.Rules.{is_row_of}
use Rattle.enc_list_delta.specs.Delta.{add_code, entries_for, adds_reference}
use Rattle.enc_list_delta.proofs.TokensInserts.{all_silent}
use Rattle.enc_list_delta.proofs.LogRulesEdits.{own_entry, owner_entry, IsPaired, Entries, alone, paired, own_counts}

-- entries behind others and before others of which none is a fault
abbrev pub Good : Chain → List Token → List LogEntry → List LogEntry → List LogEntry → Type 0
Good c tokens before [] behind = Unit {0}
Good c tokens before (e ∷ es) behind = ((k : ℕ) → log_fault_of c tokens before (es ++ behind) k e ≡ None) × Good c tokens (before ++ e ∷ []) es behind

pub good_append : (c : Chain) (tokens : List Token) (before xs ys behind : List LogEntry) → Good c tokens before xs (ys ++ behind) → Good c tokens (before ++ xs) ys behind → Good c tokens before (xs ++ ys) behind
good_append c tokens before [] ys behind h g = rw append-nil at g
good_append c tokens before (x ∷ xs) ys behind h g =
    (λ k. rw (append_assoc xs ys behind) (h.0 k), good_append c tokens (before ++ x ∷ []) xs ys behind h.1 (rw (append_assoc before (x ∷ []) xs) g))

good_at : (c : Chain) (tokens : List Token) (before es : List LogEntry) → Good c tokens before es [] → (k : ℕ) → length before ≤ k → k < length (before ++ es) → log_fault_at c tokens (before ++ es) k ≡ None
good_at c tokens before [] good k low high = let e = length-append before [] in absurd (omega (arith, e, low, high))
good_at c tokens before (e ∷ es) good k low high = elim (cases_lt (length before) k) [
  | inl past ↦
      let n = length-append before (e ∷ []) in
      rw (← append_assoc before (e ∷ []) es) (good_at c tokens (before ++ e ∷ []) es good.1 k (omega (arith, n, past)) (rw (append_assoc before (e ∷ []) es) high))
  | inr here ↦
      let is : k ≡ length before = omega (arith, here, low) in
      let first : log_fault_of c tokens before es (length before) e ≡ None = rw append-nil at (good.0 (length before)) in
      rw is (at_seam c tokens before e es ∙ first)
]

pub good_log : (c : Chain) (tokens : List Token) (log : List LogEntry) → Good c tokens [] log [] → log_fault c tokens log ≡ None
unfolding log_fault
good_log c tokens log good = all_silent (log_fault_at c tokens log) (length log) (λ k low. good_at c tokens [] log good k (omega arith) low)

-- an entry of code 0 is no fault
plain : (p : Place) (a : Bool) → broken (a && false) p ≡ None
plain p true = refl
plain p false = refl

own_good : (c : Chain) (tokens : List Token) (before behind : List LogEntry) (k : ℕ) (row : Token) → log_fault_of c tokens before behind k (own_entry row) ≡ None
unfolding log_fault_of
own_good c tokens before behind k row = plain (place.Log (k + 1)) (counts (own_entry row))

-- nor is one whose parent is there and whose child follows
paired_good : (p : Place) (a b d : Bool) → broken (a && (false || b && not (true && true))) p ≡ None
paired_good p true true d = refl
paired_good p true false d = refl
paired_good p false b d = refl

-- of the code of a child table
pub record IsCode (table : ℕ) : Type 0 where
  pub few : nat_lt 5 (add_code table) ≡ false
  pub low : 1 ≤ add_code table
  pub high : add_code table ≤ 5
  pub parent : parent_table (add_code table) ≡ owner_table table
  pub child : child_table (add_code table) ≡ table

pub is_code : (table : ℕ) → is_child_table table ≡ true → IsCode table
is_code table child = by_child IsCode (record { few = refl; low = omega arith; high = omega arith; parent = refl; child = refl }) (record { few = refl; low = omega arith; high = omega arith; parent = refl; child = refl }) (record { few = refl; low = omega arith; high = omega arith; parent = refl; child = refl }) (record { few = refl; low = omega arith; high = omega arith; parent = refl; child = refl }) (record { few = refl; low = omega arith; high = omega arith; parent = refl; child = refl }) table child

pub codes_apart : (t table : ℕ) → is_child_table t ≡ true → is_child_table table ≡ true → (add_code table == add_code t) ≡ (table == t)
codes_apart t table child own = by_child (λ k. (add_code table == add_code k) ≡ (table == k))
    (by_child (λ j. (add_code j == add_code 0x04) ≡ (j == 0x04)) refl refl refl refl refl table own)
    (by_child (λ j. (add_code j == add_code 0x06) ≡ (j == 0x06)) refl refl refl refl refl table own)
    (by_child (λ j. (add_code j == add_code 0x08) ≡ (j == 0x08)) refl refl refl refl refl table own)
    (by_child (λ j. (add_code j == add_code 0x14) ≡ (j == 0x14)) refl refl refl refl refl table own)
    (by_child (λ j. (add_code j == add_code 0x17) ≡ (j == 0x17)) refl refl refl refl refl table own) t child

-- what is known of the log so far: of each child table as many entries give a child as edits add rows
abbrev pub Counted : List LogEntry → List Edit → Type 0
Counted before edits = (t : ℕ) → is_child_table t ≡ true → adds before (add_code t) ≡ rows_added edits t

-- the parent is a row of its table
rows_by : (count : ℕ → ℕ) (a b row : ℕ) → (a == b && nat_le 1 row && nat_le row (count b)) ≡ true → (a == b && nat_le 1 row && nat_le row (count a)) ≡ true
rows_by count a b row h = let e : a ≡ b = eqb-true a b (first (a == b) _ _ h) in rw e (rw e at h)
  where
    first : (x y z : Bool) → (x && y && z) ≡ true → x ≡ true
    first true y z g = refl
    first false y z g = absurd cc

parent_there : (c : Chain) (l : EditList) (tokens : List Token) (owner : Token) (table : ℕ) → ((t : ℕ) → rows_with c tokens t ≡ count_after c l.edits t) → is_child_table table ≡ true → is_row_of (count_after c l.edits) (owner_table table) owner ≡ true → has_parent c tokens (owner_entry owner table) ≡ true
unfolding has_parent
parent_there c l tokens owner table rows child there = rw ((is_code table child).parent, rows owner.table) (rows_by (count_after c l.edits) owner.table (owner_table table) owner.row there)

-- the child's own entry follows, and is the next new row of its table
child_follows : (c : Chain) (l : EditList) (before : List Edit) (entries : List LogEntry) (e : Edit) (row owner : Token) (table : ℕ) → IsPaired c l before e row owner table → Counted entries before → follows c entries (add_code table) (Some (own_entry row)) ≡ true
unfolding follows
child_follows c l before entries e row owner table p counted =
    let own : (row.table == table) ≡ true = rw p.own (grind (arith, nat_tests)) in
    let n = counted table p.child in
    let number : (row.row == rows_before c table + adds entries (add_code table) + 1) ≡ true = rw (n, p.number) (grind (arith, nat_tests)) in
    rw ((is_code table p.child).child, own, number) refl

-- the entries of an edit are no fault
pub edit_good : (c : Chain) (l : EditList) (tokens : List Token) (before : List Edit) (entries behind : List LogEntry) (e : Edit) (row : Token) → ((t : ℕ) → rows_with c tokens t ≡ count_after c l.edits t) → is_module row ≡ false → Counted entries before → Entries c l before e row → Good c tokens entries (entries_for e row) behind
unfolding log_fault_of
edit_good c l tokens before entries behind e row rows other counted (alone a) = rw a.entries (λ k. own_good c tokens entries behind k row, tt)
edit_good c l tokens before entries behind e row rows other counted (paired owner table p) =
    let parent = parent_there c l tokens owner table rows p.child p.there in
    let child = child_follows c l before entries e row owner table p counted in
    let first : find counts (own_entry row ∷ behind) ≡ Some (own_entry row) = rw (own_counts row other) refl in
    rw p.entries (λ k. rw ((is_code table p.child).few, first, parent, child) (paired_good (place.Log (k + 1)) (counts (owner_entry owner table)) (is_add (add_code table)) true), (λ k. own_good c tokens (entries ++ owner_entry owner table ∷ []) behind k row, tt))

-- an edit that adds a reference has but its row's entry
pub reference_good : (c : Chain) (l : EditList) (tokens : List Token) (before : List Edit) (entries behind : List LogEntry) (e : Edit) (row : Token) → adds_reference e ≡ true → Entries c l before e row → Good c tokens entries (entries_for e row) behind
reference_good c l tokens before entries behind e row h (alone a) = rw a.entries (λ k. own_good c tokens entries behind k row, tt)
reference_good c l tokens before entries behind e row h (paired owner table p) = let f : true ≡ false = sym h ∙ p.other in absurd cc
