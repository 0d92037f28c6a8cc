-- How many entries of EncLog give an owner a child of a table: as many as edits add rows to it.
use Rattle.std.proofs.Common.{◌≡◌, ℕ, ◌+◌, Bool, true, false, List, [], ◌∷◌, ◌++◌, cond, refl, sym, ◌∙◌, arith, append_assoc}
use Rattle.std.specs.Prelude.{◌&&◌, ◌==◌, if◌then◌else◌}
use Rattle.std.proofs.lemmas.Bool.Decides.{nat_tests}
use Rattle.enc_base.specs.declared.token.Token.{Token}
use Rattle.enc_schema.specs.Children.{is_child_table}
use Rattle.enc_plain.specs.Chain.{Chain}
use Rattle.enc_delta.specs.declared.log_entry.LogEntry.{LogEntry}
use Rattle.enc_delta.specs.Rules.{adds, counts}
use Rattle.enc_delta.proofs.ListsChildren.{adds_push}
use Rattle.enc_edit_list.specs.Added.{adds_to, rows_added}
use Rattle.enc_edit_list.specs.declared.edit.Edit.{Edit}
use Rattle.enc_edit_list.specs.declared.edit.EditList.{EditList}
use Rattle.enc_rules.specs.Listed.{count_after}
use Rattle.enc_memory_module.proofs.Split.{added_more}
use Rattle.enc_list_delta.specs.Delta.{add_code, entries_for, adds_reference}
use Rattle.enc_list_delta.proofs.LogRulesEdits.{own_entry, owner_entry, Entries, alone, paired, owner_counts}
use Rattle.enc_list_delta.proofs.LogRulesGood.{is_code, codes_apart, Counted}

-- one edit more, with its entries
none_here : (n : ℕ) (a : Bool) → n + cond (a && false) 1 0 ≡ n
none_here n true = omega arith
none_here n false = omega arith

own_adds : (entries : List LogEntry) (row : Token) (t : ℕ) → is_child_table t ≡ true → adds (entries ++ own_entry row ∷ []) (add_code t) ≡ adds entries (add_code t)
own_adds entries row t child =
    let low = (is_code t child).low in
    let other : (0 == add_code t) ≡ false = grind (arith, nat_tests, low) in
    adds_push entries (own_entry row) (add_code t) ∙ (rw other (none_here (adds entries (add_code t)) (counts (own_entry row))))

owner_adds : (entries : List LogEntry) (owner : Token) (table t : ℕ) → counts (owner_entry owner table) ≡ true → is_child_table t ≡ true → is_child_table table ≡ true → adds (entries ++ owner_entry owner table ∷ []) (add_code t) ≡ adds entries (add_code t) + cond (table == t) 1 0
owner_adds entries owner table t count child own =
    adds_push entries (owner_entry owner table) (add_code t) ∙ (rw (count, codes_apart t table child own) refl)

same_sum : (n m : ℕ) (b : Bool) → n ≡ m → n + cond b 1 0 ≡ m + (if b then 1 else 0)
same_sum n m true e = rw e refl
same_sum n m false e = rw e refl

pub no_more : (before : List Edit) (e : Edit) (t : ℕ) → adds_to t e ≡ false → rows_added (before ++ e ∷ []) t ≡ rows_added before t
no_more before e t h = added_more before e t ∙ (rw h (omega arith))

pub edit_adds : (c : Chain) (l : EditList) (before : List Edit) (entries : List LogEntry) (e : Edit) (row : Token) → Counted entries before → Entries c l before e row → Counted (entries ++ entries_for e row) (before ++ e ∷ [])
edit_adds c l before entries e row counted (alone a) = λ t child.
    rw (a.entries, no_more before e t (a.adds t child)) (own_adds entries row t child ∙ counted t child)
edit_adds c l before entries e row counted (paired owner table p) = λ t child.
    let one = owner_adds entries owner table t (owner_counts (count_after c l.edits) owner table p.child p.there) child p.child in
    let more : rows_added (before ++ e ∷ []) t ≡ rows_added before t + (if table == t then 1 else 0) = added_more before e t ∙ (rw (p.adds t) refl) in
    rw (p.entries, more, ← append_assoc entries (owner_entry owner table ∷ []) (own_entry row ∷ []))
    (own_adds (entries ++ owner_entry owner table ∷ []) row t child ∙ one ∙ same_sum (adds entries (add_code t)) (rows_added before t) (table == t) (counted t child))

-- and one that adds a reference, which gives no owner a child
pub reference_adds : (c : Chain) (l : EditList) (before : List Edit) (e : Edit) (row : Token) (t : ℕ) → is_child_table t ≡ true → adds_reference e ≡ true → Entries c l before e row → adds_to t e ≡ false
reference_adds c l before e row t child h (alone a) = a.adds t child
reference_adds c l before e row t child h (paired owner table p) = let f : true ≡ false = sym h ∙ p.other in absurd cc

pub reference_own : (c : Chain) (l : EditList) (before : List Edit) (entries : List LogEntry) (e : Edit) (row : Token) (t : ℕ) → is_child_table t ≡ true → adds_reference e ≡ true → Entries c l before e row → adds (entries ++ entries_for e row) (add_code t) ≡ adds entries (add_code t)
reference_own c l before entries e row t child h (alone a) = rw a.entries (own_adds entries row t child)
reference_own c l before entries e row t child h (paired owner table p) = let f : true ≡ false = sym h ∙ p.other in absurd cc
