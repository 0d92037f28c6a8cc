-- Each row of a child table is the child of one owner after edits.
use Rattle.std.proofs.Common.{◌≡◌, ℕ, zero, suc, ◌+◌, ◌<◌, ◌≤◌, Bool, true, false, cond, List, [], ◌∷◌, ◌++◌, length, Some, refl, sym, ap, ◌∙◌, inl, inr, arith, append_assoc}
use Rattle.std.specs.Prelude.{slice_get, ◌==◌, ◌&&◌, not, nat_lt, nat_le, count_by, if◌then◌else◌}
use Rattle.std.proofs.lemmas.Bool.{cases_lt, cases_eq}
use Rattle.std.proofs.lemmas.Bool.Decides.{nat_tests}
use Rattle.std.proofs.lemmas.List.{append-nil}
use Rattle.enc_base.specs.declared.token.Token.{Token}
use Rattle.enc_schema.specs.Children.{is_child_table, owner_table}
use Rattle.enc_schema.proofs.ChildTables.{by_child}
use Rattle.enc_plain.specs.Apply.{Attached, change_row, with_child, attach, attach_all, apply}
use Rattle.enc_plain.specs.Chain.{Chain}
use Rattle.enc_plain.specs.Fits.{Attaches, AllAttach, HasRuns}
use Rattle.enc_plain.specs.Module.{Module}
use Rattle.enc_plain.specs.Sound.{row_count, all_kids, HasTables, IsOwned, HasOwners}
use Rattle.enc_plain.proofs.Applied.{runs_applied}
use Rattle.enc_plain.proofs.AttachedTo.{change_length, count_attached, runs_attached}
use Rattle.enc_plain.proofs.KindsOf.{row_there as row_is}
use Rattle.enc_plain.proofs.Owned.{count_cons, count_append}
use Rattle.enc_agg.proofs.Owned.{all_applied, attached_count}
use Rattle.enc_edit_list.specs.declared.edit.Edit.{Edit}
use Rattle.enc_edit_list.specs.declared.edit.Edit.TheVariants.{Add, Body as Replace}
use Rattle.enc_edit_list.specs.declared.edit.EditList.{EditList}
use Rattle.enc_edit_list.specs.Added.{adds_to, rows_added}
use Rattle.enc_rules.specs.Edited.{row_edited, rows_edited, attached_by, attached_behind, attached_in, changes_behind, edited}
use Rattle.enc_rules.specs.Listed.{count_after}
use Rattle.enc_rules.specs.Rules.{is_row_of, owner_breaks, owner_is_missing}
use Rattle.enc_rules.proofs.RowsFew.{added_both}
use Rattle.enc_memory_module.proofs.Unbroken.{BreakNothing}
use Rattle.enc_memory_module.proofs.Split.{seam, row_there as edit_row, added_more}
use Rattle.enc_memory_module.proofs.Landed.{no_rows}
use Rattle.enc_memory_module.proofs.Changed.{all_fit, counts_after, tables_after}
use Rattle.enc_memory_module.proofs.Grown.{count_is, rows_grow}

-- no table more and none less
attach_tables : (pairs : List Attached) (m : Module) → length (attach_all m pairs).tables ≡ length m.tables
unfolding attach_all attach
attach_tables [] m = refl
attach_tables (a ∷ pairs) m = attach_tables pairs (attach m a) ∙ change_length m.tables a.owner.table (λ rows. change_row rows a.owner.row (with_child a.child))

has_tables : (c : Chain) (l : EditList) → HasTables c.plain → BreakNothing c l → HasTables (edited c.plain l.edits)
unfolding edited
has_tables c l has none = record { all = attach_tables (attached_in c.plain l.edits) (apply c.plain (changes_behind c.plain [] l.edits)) ∙ tables_after c l has none }

has_runs : (c : Chain) (l : EditList) → HasTables c.plain → BreakNothing c l → HasRuns c.plain → HasRuns (edited c.plain l.edits)
unfolding edited
has_runs c l has none runs = runs_attached (attached_in c.plain l.edits) (apply c.plain (changes_behind c.plain [] l.edits)) (runs_applied (changes_behind c.plain [] l.edits) c.plain (all_fit c l has none) runs)

-- the owner that an edit states is a row after edits
owner_by : (c : Chain) (l : EditList) (k : ℕ) (e : Edit) (u : Token) → BreakNothing c l → slice_get l.edits k ≡ Some e → slice_get (rows_edited c.plain l.edits) k ≡ Some u → owner_breaks (count_after c l.edits) e ≡ false
unfolding owner_is_missing
owner_by c l k e u none there row = rw (there, row) at (none.owners k)

owner_unbroken : (c : Chain) (l : EditList) (before rest : List Edit) (e : Edit) → l.edits ≡ before ++ e ∷ rest → BreakNothing c l → owner_breaks (count_after c l.edits) e ≡ false
owner_unbroken c l before rest e is none = owner_by c l (length before) e (row_edited c.plain before e) none (rw is (seam before rest e)) (rw is (edit_row c.plain before rest e))

three : (a b d : Bool) → (a && b && d) ≡ true → (a ≡ true) × (b ≡ true) × (d ≡ true)
three true true d h = (refl, refl, h)
three true false d h = absurd cc
three false b d h = absurd cc

owned : (a b : Bool) → a ≡ true → (a && not b) ≡ false → b ≡ true
owned true true h e = refl
owned true false h e = absurd cc
owned false b h e = absurd cc

-- the tables of owners are a module's
small_owner : (t : ℕ) → is_child_table t ≡ true → owner_table t < 0x2D
small_owner t there =
    let small = by_child (λ k. nat_lt (owner_table k) 0x2D ≡ true) refl refl refl refl refl t there in
    grind (arith, nat_tests, small)

-- as many rows as after edits
abbrev IsCounted : Chain → EditList → Module → Type 0
IsCounted c l m = (t : ℕ) → row_count m t ≡ count_after c l.edits t

attaches : (c : Chain) (l : EditList) (m : Module) (table : ℕ) (owner child : Token) → child.table ≡ table → length m.tables ≡ 0x2D → IsCounted c l m → is_child_table table ≡ true → is_row_of (count_after c l.edits) (owner_table table) owner ≡ true → Attaches m (record { owner = owner; child = child })
attaches c l m table owner child is tables counts there row =
    let p = three (owner.table == owner_table table) (nat_le 1 owner.row) (nat_le owner.row (count_after c l.edits (owner_table table))) row in
    let own : owner.table ≡ owner_table table = grind (arith, nat_tests, p.0) in
    let low : 0 < owner.row = grind (arith, nat_tests, p.1) in
    let high : owner.row ≤ count_after c l.edits (owner_table table) = grind (arith, nat_tests, p.2) in
    let n : row_count m owner.table ≡ count_after c l.edits (owner_table table) = counts owner.table ∙ ap (λ t. count_after c l.edits t) own in
    let small = small_owner table there in
    record {
      table = own ∙ ap owner_table (sym is);
      child = ap is_child_table is ∙ there;
      row = row_is m owner low (omega (arith, high, n));
      tables = omega (arith, own, small, tables);
    }

attached_counted : (c : Chain) (l : EditList) (m : Module) (a : Attached) → IsCounted c l m → IsCounted c l (attach m a)
unfolding attach_all
attached_counted c l m a counts = λ t. count_attached (a ∷ []) m t ∙ counts t

one_attached : (m : Module) (a : Attached) → length (attach m a).tables ≡ length m.tables
unfolding attach
one_attached m a = change_length m.tables a.owner.table (λ rows. change_row rows a.owner.row (with_child a.child))

-- so each child can be attached
abbrev Rest : Chain → EditList → List Attached → Type 0
Rest c l pairs = (m : Module) → length m.tables ≡ 0x2D → IsCounted c l m → AllAttach m pairs

attach_by : (c : Chain) (l : EditList) (m : Module) (table : ℕ) (owner child : Token) (pairs : List Attached) (b : Bool) → is_child_table table ≡ b → child.table ≡ table → length m.tables ≡ 0x2D → IsCounted c l m → (b && not (is_row_of (count_after c l.edits) (owner_table table) owner)) ≡ false → Rest c l pairs → AllAttach m ((if b then record { owner = owner; child = child } ∷ [] else []) ++ pairs)
unfolding AllAttach
attach_by c l m table owner child pairs true there is tables counts unbroken rest =
    let a : Attached = record { owner = owner; child = child } in
    (attaches c l m table owner child is tables counts there (owned true _ refl unbroken), rest (attach m a) (one_attached m a ∙ tables) (attached_counted c l m a counts))
attach_by c l m table owner child pairs false there is tables counts unbroken rest = rest m tables counts

attach_edit : (c : Chain) (l : EditList) (m : Module) (before : List Edit) (e : Edit) (pairs : List Attached) → length m.tables ≡ 0x2D → IsCounted c l m → owner_breaks (count_after c l.edits) e ≡ false → Rest c l pairs → AllAttach m (attached_by e (row_edited c.plain before e) ++ pairs)
attach_edit c l m before (Add table owner cells code points) pairs tables counts unbroken rest =
    attach_by c l m table owner (row_edited c.plain before (Add table owner cells code points)) pairs (is_child_table table) refl refl tables counts unbroken rest
attach_edit c l m before (Replace method code points) pairs tables counts unbroken rest = rest m tables counts

all_attach : (c : Chain) (l : EditList) (m : Module) (before rest : List Edit) → BreakNothing c l → l.edits ≡ before ++ rest → length m.tables ≡ 0x2D → IsCounted c l m → AllAttach m (attached_behind c.plain before rest)
unfolding AllAttach attached_behind
all_attach c l m before [] none is tables counts = tt
all_attach c l m before (e ∷ rest) none is tables counts =
    attach_edit c l m before e (attached_behind c.plain (before ++ e ∷ []) rest) tables counts (owner_unbroken c l before rest e is none) (λ q t n. all_attach c l q (before ++ e ∷ []) rest none (is ∙ sym (append_assoc before (e ∷ []) rest)) t n)

applied_counted : (c : Chain) (l : EditList) → HasTables c.plain → BreakNothing c l → IsCounted c l (apply c.plain (changes_behind c.plain [] l.edits))
unfolding edited
applied_counted c l has none = λ t. sym (count_attached (attached_in c.plain l.edits) (apply c.plain (changes_behind c.plain [] l.edits)) t) ∙ count_is c l t has none

-- the child is this row
abbrev attaches_row : ℕ → ℕ → Attached → Bool
attaches_row table row a = (a.child.table == table) && (a.child.row == row)

-- an edit attaches its row once where it adds to the table
one_pair : (t row : ℕ) (a : Attached) → count_by (attaches_row t row) (a ∷ []) ≡ cond (attaches_row t row a) 1 0
one_pair t row a = count_cons (attaches_row t row) a [] ∙ omega arith

pair_by : (t row table next : ℕ) (owner : Token) (b d : Bool) → is_child_table t ≡ true → is_child_table table ≡ b → (table == t) ≡ d → count_by (attaches_row t row) (if b then record { owner = owner; child = record { table = table; row = next } } ∷ [] else []) ≡ cond (d && (next == row)) 1 0
pair_by t row table next owner true d there child is =
    one_pair t row (record { owner = owner; child = record { table = table; row = next } }) ∙ ap (λ x. cond (x && (next == row)) 1 0) is
pair_by t row table next owner false false there child is = refl
pair_by t row table next owner false true there child is =
    let same : table ≡ t = grind (arith, nat_tests, is) in
    let f : true ≡ false = sym there ∙ ap is_child_table (sym same) ∙ child in
    absurd cc

abbrev next_row : Module → List Edit → ℕ → ℕ
next_row m before t = row_count m t + rows_added before t + 1

at_table : (m : Module) (before : List Edit) (table t row : ℕ) (d : Bool) → (table == t) ≡ d → cond (d && (next_row m before table == row)) 1 0 ≡ cond {A = ℕ} (d && (next_row m before t == row)) 1 0
at_table m before table t row false is = refl
at_table m before table t row true is = let same : table ≡ t = grind (arith, nat_tests, is) in rw same refl

edit_pairs : (m : Module) (before : List Edit) (e : Edit) (t row : ℕ) → is_child_table t ≡ true → count_by (attaches_row t row) (attached_by e (row_edited m before e)) ≡ cond (adds_to t e && (next_row m before t == row)) 1 0
edit_pairs m before (Add table owner cells code points) t row there =
    pair_by t row table (row_count m table + rows_added before table + 1) owner (is_child_table table) (table == t) there refl refl ∙ at_table m before table t row (table == t) refl
edit_pairs m before (Replace method code points) t row there = refl

-- one row more among those behind
more_rows : (d : Bool) (n row last : ℕ) → (d ≡ true → n + 1 ≤ last) → cond (d && (n + 1 == row)) 1 0 + cond (nat_lt (n + cond d 1 0) row && nat_le row last) 1 0 ≡ cond (nat_lt n row && nat_le row last) 1 0
more_rows false n row last within = let e : n + 0 ≡ n = omega arith in rw e (omega arith)
more_rows true n row last within =
    let room = within refl in
    elim (cases_eq (n + 1) row) [
      | inl is ↦
          let a : (n + 1 == row) ≡ true = grind (arith, nat_tests) in
          let b : nat_lt (n + 1) row ≡ false = grind (arith, nat_tests) in
          let f : nat_lt n row ≡ true = grind (arith, nat_tests) in
          let g : nat_le row last ≡ true = grind (arith, nat_tests) in
          rw (a, b, f, g) refl
      | inr other ↦
          let a : (n + 1 == row) ≡ false = grind (arith, nat_tests) in
          let b : nat_lt (n + 1) row ≡ nat_lt n row = grind (arith, nat_tests) in
          rw (a, b) (omega arith)
    ]

first_most : (m : Module) (before rest : List Edit) (e : Edit) (t : ℕ) → adds_to t e ≡ true → row_count m t + rows_added before t + 1 ≤ row_count m t + rows_added (before ++ e ∷ rest) t
first_most m before rest e t adds =
    let one : rows_added (before ++ e ∷ []) t ≡ rows_added before t + 1 = added_more before e t ∙ (rw adds refl) in
    let all : rows_added ((before ++ e ∷ []) ++ rest) t ≡ rows_added (before ++ e ∷ []) t + rows_added rest t = added_both (before ++ e ∷ []) rest t in
    let same : rows_added ((before ++ e ∷ []) ++ rest) t ≡ rows_added (before ++ e ∷ rest) t = ap (λ xs. rows_added xs t) (append_assoc before (e ∷ []) rest) in
    omega (arith, one, all, same)

none_between : (n row : ℕ) → (nat_lt n row && nat_le row n) ≡ false
none_between n row = grind (arith, nat_tests)

-- how often edits attach a row: once where one of them adds it
pairs_count : (m : Module) (before rest : List Edit) (t row : ℕ) → is_child_table t ≡ true → count_by (attaches_row t row) (attached_behind m before rest) ≡ cond (nat_lt (row_count m t + rows_added before t) row && nat_le row (row_count m t + rows_added (before ++ rest) t)) 1 0
unfolding attached_behind
pairs_count m before [] t row there = rw (append-nil before, none_between (row_count m t + rows_added before t) row) refl
pairs_count m before (e ∷ rest) t row there =
    let last = row_count m t + rows_added (before ++ e ∷ rest) t in
    let ends : row_count m t + rows_added ((before ++ e ∷ []) ++ rest) t ≡ last = ap (λ xs. row_count m t + rows_added xs t) (append_assoc before (e ∷ []) rest) in
    let one : rows_added (before ++ e ∷ []) t ≡ rows_added before t + cond (adds_to t e) 1 0 = added_more before e t in
    let begins : row_count m t + rows_added (before ++ e ∷ []) t ≡ row_count m t + rows_added before t + cond (adds_to t e) 1 0 = omega (arith, one) in
    let more = pairs_count m (before ++ e ∷ []) rest t row there in
    let said : count_by (attaches_row t row) (attached_behind m (before ++ e ∷ []) rest) ≡ cond (nat_lt (row_count m t + rows_added before t + cond (adds_to t e) 1 0) row && nat_le row last) 1 0 = more ∙ ap (λ n. cond (nat_lt n row && nat_le row (row_count m t + rows_added ((before ++ e ∷ []) ++ rest) t)) 1 0) begins ∙ ap (λ n. cond (nat_lt (row_count m t + rows_added before t + cond (adds_to t e) 1 0) row && nat_le row n) 1 0) ends in
    count_append (attaches_row t row) (attached_by e (row_edited m before e)) (attached_behind m (before ++ e ∷ []) rest)
    ∙ ap (λ n. n + count_by (attaches_row t row) (attached_behind m (before ++ e ∷ []) rest)) (edit_pairs m before e t row there)
    ∙ ap (λ n. cond (adds_to t e && (row_count m t + rows_added before t + 1 == row)) 1 0 + n) said
    ∙ more_rows (adds_to t e) (row_count m t + rows_added before t) row last (λ adds. first_most m before rest e t adds)

-- the rows that were there and those that are new are all
total : (row n last : ℕ) → n ≤ last → cond (nat_le 1 row && nat_le row n) 1 0 + cond (nat_lt n row && nat_le row last) 1 0 ≡ cond (nat_le 1 row && nat_le row last) 1 0
total zero n last le = let a : nat_lt n 0 ≡ false = grind (arith, nat_tests) in rw a refl
total (suc r) n last le =
    let some : nat_le 1 (suc r) ≡ true = grind (arith, nat_tests) in
    elim (cases_lt n (suc r)) [
      | inl past ↦
          let a : nat_le (suc r) n ≡ false = grind (arith, nat_tests) in
          let b : nat_lt n (suc r) ≡ true = grind (arith, nat_tests) in
          rw (some, a, b) (omega arith)
      | inr low ↦
          let a : nat_le (suc r) n ≡ true = grind (arith, nat_tests) in
          let b : nat_lt n (suc r) ≡ false = grind (arith, nat_tests) in
          let d : nat_le (suc r) last ≡ true = grind (arith, nat_tests) in
          rw (some, a, b, d) refl
    ]

all_after : (c : Chain) (l : EditList) → HasTables c.plain → BreakNothing c l → HasRuns c.plain → (t row : ℕ) → is_child_table t ≡ true → count_by (λ k. k == row) (all_kids (edited c.plain l.edits) t) ≡ count_by (λ k. k == row) (all_kids c.plain t) + count_by (attaches_row t row) (attached_in c.plain l.edits)
unfolding edited
all_after c l has none runs t row there =
    let fit = all_fit c l has none in
    attached_count (attached_in c.plain l.edits) (apply c.plain (changes_behind c.plain [] l.edits)) (λ k. k == row) t (all_attach c l (apply c.plain (changes_behind c.plain [] l.edits)) [] l.edits none refl (tables_after c l has none) (applied_counted c l has none)) (runs_applied (changes_behind c.plain [] l.edits) c.plain fit runs) there
    ∙ ap (λ xs. count_by (λ k. k == row) xs + count_by (attaches_row t row) (attached_in c.plain l.edits)) (all_applied (changes_behind c.plain [] l.edits) c.plain t fit)

new_pairs : (c : Chain) (l : EditList) (t row : ℕ) → HasTables c.plain → BreakNothing c l → is_child_table t ≡ true → count_by (attaches_row t row) (attached_in c.plain l.edits) ≡ cond (nat_lt (row_count c.plain t) row && nat_le row (row_count (edited c.plain l.edits) t)) 1 0
new_pairs c l t row has none there =
    let zero_added = no_rows t in
    let begins : row_count c.plain t + rows_added [] t ≡ row_count c.plain t = omega (arith, zero_added) in
    let ends : row_count (edited c.plain l.edits) t ≡ row_count c.plain t + rows_added l.edits t = counts_after c l t has none in
    pairs_count c.plain [] l.edits t row there
    ∙ ap (λ n. cond (nat_lt n row && nat_le row (row_count c.plain t + rows_added l.edits t)) 1 0) begins
    ∙ ap (λ n. cond (nat_lt (row_count c.plain t) row && nat_le row n) 1 0) (sym ends)

once_after : (c : Chain) (l : EditList) → HasTables c.plain → BreakNothing c l → HasRuns c.plain → IsOwned c.plain → (t row : ℕ) → is_child_table t ≡ true → count_by (λ k. k == row) (all_kids (edited c.plain l.edits) t) ≡ cond (nat_le 1 row && nat_le row (row_count (edited c.plain l.edits) t)) 1 0
once_after c l has none runs before t row there =
    all_after c l has none runs t row there
    ∙ ap (λ n. n + count_by (attaches_row t row) (attached_in c.plain l.edits)) (before.once t row there)
    ∙ ap (λ n. cond (nat_le 1 row && nat_le row (row_count c.plain t)) 1 0 + n) (new_pairs c l t row has none there)
    ∙ total row (row_count c.plain t) (row_count (edited c.plain l.edits) t) (rows_grow c l t has none)

-- so after edits each row has lists of children, and each child row stands once in one of them
pub owners_after : (c : Chain) (l : EditList) → BreakNothing c l → HasOwners c.plain → HasOwners (edited c.plain l.edits)
owners_after c l none before = record {
  tables = has_tables c l before.tables none;
  runs = has_runs c l before.tables none before.runs;
  owned = record { once = once_after c l before.tables none before.runs before.owned };
}
