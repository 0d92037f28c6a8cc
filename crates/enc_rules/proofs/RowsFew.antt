-- No table has too many rows after an edit list, and so neither have the rows that it adds.
use Rattle.std.proofs.Common.{◌≡◌, ℕ, zero, suc, ◌+◌, ◌<◌, ◌≤◌, Bool, true, false, List, [], ◌∷◌, ◌++◌, length, map, take, Option, Some, refl, sym, ap, ◌∙◌, arith, length-append, append_assoc}
use Rattle.std.specs.Prelude.{◌==◌, ◌&&◌, ◌||◌, ◌^◌, nat_lt, filter, slice_get, if◌then◌else◌}
use Rattle.std.specs.List.{list_any, list_all}
use Rattle.std.proofs.lemmas.Bool.Decides.{nat_tests}
use Rattle.std.proofs.lemmas.List.Elements.{filter-append}
use Rattle.std.proofs.lemmas.List.Folds.{list_all-append}
use Rattle.std.proofs.lemmas.Bool.{and_parts}
use Rattle.enc_base.specs.declared.token.Token.{Token}
use Rattle.enc_schema.specs.Children.{is_child_table}
use Rattle.enc_rows.specs.Sums.{below}
use Rattle.enc_rows.proofs.Below.{any_true}
use Rattle.enc_rows.proofs.Rows.{table_there}
use Rattle.enc_plain.specs.Apply.{Attached}
use Rattle.enc_plain.specs.Chain.{Chain, rows_before}
use Rattle.enc_plain.specs.Module.{Module}
use Rattle.enc_plain.specs.Sound.{row_count}
use Rattle.enc_delta.specs.declared.pairs.Pair.{Pair}
use Rattle.enc_delta.specs.Members.{ArePairs, pair_seen}
use Rattle.enc_seqpoints.specs.declared.point.Point.{Point}
use Rattle.enc_edit_list.specs.declared.body.BodyValue.{BodyValue}
use Rattle.enc_edit_list.specs.declared.edit.Cell.{Cell as CellValue}
use Rattle.enc_edit_list.specs.declared.edit.Edit.{Edit}
use Rattle.enc_edit_list.specs.declared.edit.Edit.TheVariants.{Add, Body as Replace}
use Rattle.enc_edit_list.specs.declared.edit.EditList.{EditList}
use Rattle.enc_edit_list.specs.Form.{edit_fits, list_fits, is_known_table, owner_fits, cells_fit, stated_columns, code_fits}
use Rattle.enc_edit_list.specs.Added.{adds_to, adding, rows_added}
use Rattle.enc_rules.specs.Edited.{row_edited, attached_by, attached_behind, attached_in}
use Rattle.enc_rules.specs.Listed.{count_after}
use Rattle.enc_rules.specs.Rules.{there_are_too_many, has_owner}

-- more rows are added by more edits
pub added_both : (xs ys : List Edit) (t : ℕ) → rows_added (xs ++ ys) t ≡ rows_added xs t + rows_added ys t
unfolding rows_added adding
added_both xs ys t = ap length (filter-append (adds_to t) xs ys) ∙ length-append (filter (adds_to t) xs) (filter (adds_to t) ys)

one_by : (b : Bool) (e : Edit) (xs : List Edit) → b ≡ true → 1 ≤ length (if b then e ∷ xs else xs)
one_by true e xs is = omega arith
one_by false e xs is = absurd cc

eq_self : (n : ℕ) → (n == n) ≡ true
eq_self n = grind (arith, nat_tests)

pub added_first : (table : ℕ) (owner : Token) (cells : List CellValue) (code : Option BodyValue) (points : List Point) (edits : List Edit)
    → 1 ≤ rows_added (Add table owner cells code points ∷ edits) table
unfolding rows_added adding
added_first table owner cells code points edits = one_by (table == table) (Add table owner cells code points) (filter (adds_to table) edits) (eq_self table)

-- edits are those before a place and those from it on
front : (xs : List Edit) (k : ℕ) (e : Edit) → slice_get xs k ≡ Some e → (ys : List Edit) × (xs ≡ take k xs ++ e ∷ ys)
front [] k e there = absurd cc
front (x ∷ xs) zero e there = let is : x ≡ e = cc in (xs, ap (λ y. y ∷ xs) is)
front (x ∷ xs) (suc k) e there = let w = front xs k e there in (w.0, ap (λ ys. x ∷ ys) w.1)

-- the row that an edit adds is one of those after
pub new_within : (m : Module) (edits : List Edit) (k table : ℕ) (owner : Token) (cells : List CellValue) (code : Option BodyValue) (points : List Point)
    → slice_get edits k ≡ Some (Add table owner cells code points) → rows_added (take k edits) table + 1 ≤ rows_added edits table
new_within m edits k table owner cells code points there =
    let w = front edits k (Add table owner cells code points) there in
    let both : rows_added edits table ≡ rows_added (take k edits) table + rows_added (Add table owner cells code points ∷ w.0) table =
    ap (λ es. rows_added es table) w.1 ∙ added_both (take k edits) (Add table owner cells code points ∷ w.0) table in
    omega (arith, both, added_first table owner cells code points w.0)

pub rank_few : (c : Chain) (edits : List Edit) (k rank table : ℕ) (owner : Token) (cells : List CellValue) (code : Option BodyValue) (points : List Point)
    → slice_get edits k ≡ Some (Add table owner cells code points) → rank ≡ rows_added (take k edits) table → ((t : ℕ) → count_after c edits t < 2 ^ 24) → rows_before c table + rank + 1 < 2 ^ 24
unfolding count_after
rank_few c edits k rank table owner cells code points there is few = omega (arith, is, few table, new_within c.plain edits k table owner cells code points there)

-- no table has too many rows where that rule isn't broken
or_parts : (a b c : Bool) → (a || b || c) ≡ false → (b ≡ false) × (c ≡ false)
or_parts false false false h = (refl, refl)
or_parts true b c h = absurd cc
or_parts false true c h = absurd cc
or_parts false false true h = absurd cc

too_many : (c : Chain) (l : EditList) → there_are_too_many c l ≡ false → (list_any (λ table. nat_lt 0xFFFFFF (count_after c l.edits table)) (below 64) ≡ false) × (nat_lt 0xFFFFFE (length l.edits + length (filter has_owner l.edits)) ≡ false)
unfolding there_are_too_many
too_many c l few = or_parts (nat_lt 65535 (length c.ids + 1)) (list_any (λ table. nat_lt 0xFFFFFF (count_after c l.edits table)) (below 64)) (nat_lt 0xFFFFFE (length l.edits + length (filter has_owner l.edits))) few

not_less : (a b : ℕ) → nat_lt a b ≡ false → b ≤ a
not_less a b h = grind (arith, nat_tests)

low_by : (p : ℕ → Bool) (t n : ℕ) (b : Bool) → p t ≡ b → t < n → list_any p (below n) ≡ false → p t ≡ false
low_by p t n true is low none = absurd (let e = any_true p t n low is in cc)
low_by p t n false is low none = is

low_few : (c : Chain) (l : EditList) (t : ℕ) → there_are_too_many c l ≡ false → t < 64 → count_after c l.edits t < 2 ^ 24
low_few c l t few low =
    let test = low_by (λ table. nat_lt 0xFFFFFF (count_after c l.edits table)) t 64 (nat_lt 0xFFFFFF (count_after c l.edits t)) refl low (too_many c l few).0 in
    let here = not_less 0xFFFFFF (count_after c l.edits t) test in
    omega (arith, here)

pub edits_short : (c : Chain) (l : EditList) → there_are_too_many c l ≡ false → length l.edits < 2 ^ 24
edits_short c l few =
    let here = not_less 0xFFFFFE (length l.edits + length (filter has_owner l.edits)) (too_many c l few).1 in
    omega (arith, here)

four_parts : (a b c d : Bool) → (a && b && c && d) ≡ true → (a ≡ true) × (b ≡ true)
four_parts true true c d h = (refl, refl)
four_parts false b c d h = absurd cc
four_parts true false c d h = absurd cc

-- what an edit of the form adds is a row of a table, with an owner that fits
parts_fit : (table : ℕ) (owner : Token) (cells : List CellValue) (code : Option BodyValue) (points : List Point)
    → edit_fits (Add table owner cells code points) ≡ true → (is_known_table table ≡ true) × (owner_fits table owner ≡ true)
unfolding edit_fits
parts_fit table owner cells code points fits = four_parts (is_known_table table) (owner_fits table owner) (cells_fit (stated_columns table) cells) (code_fits table code points) fits

other : (table t : ℕ) → table < 56 → 64 ≤ t → (table == t) ≡ false
other table t low high = grind (arith, nat_tests)

fits_low : (t : ℕ) (e : Edit) → edit_fits e ≡ true → 64 ≤ t → adds_to t e ≡ false
fits_low t (Add table owner cells code points) fits high = other table t (table_there table (parts_fit table owner cells code points fits).0) high
fits_low t (Replace method code points) fits high = refl

none_added : (edits : List Edit) (t : ℕ) → list_all edit_fits edits ≡ true → 64 ≤ t → filter (adds_to t) edits ≡ []
none_added [] t fits high = refl
none_added (e ∷ edits) t fits high =
    let parts = and_parts (edit_fits e) (list_all edit_fits edits) fits in
    rw (fits_low t e parts.0 high) (none_added edits t parts.1 high)

high_few : (c : Chain) (l : EditList) (t : ℕ) → list_fits l ≡ true → 64 ≤ t → row_count c.plain t < 2 ^ 24 → count_after c l.edits t < 2 ^ 24
unfolding count_after rows_added adding list_fits
high_few c l t fits high few = rw (none_added l.edits t fits high) (omega (arith, few))

by_place : (c : Chain) (l : EditList) (t : ℕ) (b : Bool) → nat_lt t 64 ≡ b → list_fits l ≡ true → there_are_too_many c l ≡ false → row_count c.plain t < 2 ^ 24 → count_after c l.edits t < 2 ^ 24
by_place c l t true is fits few rows = low_few c l t few (is_less t 64 is)
  where
    is_less : (a b : ℕ) → nat_lt a b ≡ true → a < b
    is_less a b h = grind (arith, nat_tests)
by_place c l t false is fits few rows = high_few c l t fits (not_less t 64 is) rows

pub rows_few : (c : Chain) (l : EditList) → list_fits l ≡ true → there_are_too_many c l ≡ false → ((t : ℕ) → row_count c.plain t < 2 ^ 24) → (t : ℕ) → count_after c l.edits t < 2 ^ 24
rows_few c l fits few rows t = by_place c l t (nat_lt t 64) refl fits few (rows t)

-- the owners that are stated and the rows that are added are tokens
abbrev pub is_few : Attached → Bool
is_few a = nat_lt a.owner.row 0x1000000 && nat_lt a.child.row 0x1000000

pub pairs_seen : (pairs : List Pair) → list_all is_few (map pair_seen pairs) ≡ list_all (λ (k : Pair). nat_lt k.owner.row 0x1000000 && nat_lt k.child.row 0x1000000) pairs
pairs_seen [] = refl
pairs_seen (p ∷ pairs) = ap (λ b. (nat_lt p.owner.row 0x1000000 && nat_lt p.child.row 0x1000000) && b) (pairs_seen pairs)

owner_few : (table : ℕ) (owner child : Token) (b : Bool) → is_child_table table ≡ b → owner_fits table owner ≡ true → child.row < 2 ^ 24
    → list_all is_few (if b then record { owner = owner; child = child } ∷ [] else []) ≡ true
owner_few table owner child true is fits low =
    let o : nat_lt owner.row 0x1000000 ≡ true = rw is at fits in
    let r : nat_lt child.row 0x1000000 ≡ true = grind (arith, nat_tests) in
    rw (o, r) refl
owner_few table owner child false is fits low = refl

one_few : (m : Module) (before : List Edit) (e : Edit) (edits : List Edit) → edit_fits e ≡ true → ((t : ℕ) → row_count m t + rows_added (before ++ e ∷ edits) t < 2 ^ 24)
    → list_all is_few (attached_by e (row_edited m before e)) ≡ true
one_few m before (Add table owner cells code points) edits fits few =
    let parts = parts_fit table owner cells code points fits in
    let both = added_both before (Add table owner cells code points ∷ edits) table in
    let first = added_first table owner cells code points edits in
    let low : row_count m table + rows_added before table + 1 < 2 ^ 24 = omega (arith, few table, both, first) in
    owner_few table owner (record { table = table; row = row_count m table + rows_added before table + 1 }) (is_child_table table) refl parts.1 low
one_few m before (Replace method code points) edits fits few = refl

attached_few : (m : Module) (before edits : List Edit) → list_all edit_fits edits ≡ true → ((t : ℕ) → row_count m t + rows_added (before ++ edits) t < 2 ^ 24)
    → list_all is_few (attached_behind m before edits) ≡ true
unfolding attached_behind
attached_few m before [] fits few = refl
attached_few m before (e ∷ edits) fits few =
    let parts = and_parts (edit_fits e) (list_all edit_fits edits) fits in
    let here = one_few m before e edits parts.0 few in
    let later = attached_few m (before ++ e ∷ []) edits parts.1 (λ t. rw (append_assoc before (e ∷ []) edits) (few t)) in
    list_all-append is_few (attached_by e (row_edited m before e)) (attached_behind m (before ++ e ∷ []) edits) ∙ rw (here, later) refl

pub are_pairs : (c : Chain) (edits : List Edit) (pairs : List Pair) → list_all edit_fits edits ≡ true → ((t : ℕ) → count_after c edits t < 2 ^ 24)
    → map pair_seen pairs ≡ attached_in c.plain edits → ArePairs pairs
unfolding count_after
are_pairs c edits pairs fits few is = sym (pairs_seen pairs) ∙ ap (list_all is_few) is ∙ attached_few c.plain [] edits fits few
