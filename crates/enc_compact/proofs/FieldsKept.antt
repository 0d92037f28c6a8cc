-- What tells the size of a field tells the same where rows go to other places.
use Rattle.std.proofs.Common.{◌≡◌, ℕ, zero, suc, ◌+◌, ◌/◌, ◌%◌, ◌<◌, Bool, true, false, List, [], ◌∷◌, drop, length, Option, Some, None, refl, sym, ap, ◌∙◌, cond, inl, inr, arith}
use Rattle.std.specs.Prelude.{◌==◌, ◌&&◌, ◌||◌, not, nat_lt, slice_get, filter, option_map, option_and_then, if◌then◌else◌}
use Rattle.std.proofs.Math.Nat.{mod-lt}
use Rattle.std.proofs.lemmas.Bool.{cases_lt, or_cases, and_parts}
use Rattle.std.proofs.lemmas.Bool.Decides.{nat_tests}
use Rattle.enc_base.specs.Numbers.{compressed}
use Rattle.enc_base.specs.Order.{or_else, first_below}
use Rattle.enc_base.specs.Readers.{number_in}
use Rattle.enc_base.specs.Token.{nil, nth_row, is_token}
use Rattle.enc_base.specs.declared.token.Token.{Token}
use Rattle.enc_base.proofs.First.{first_none}
use Rattle.enc_rows.specs.Sums.{below}
use Rattle.enc_rows.proofs.Listed.{get_below, get_past}
use Rattle.enc_schema.specs.declared.column.Coding.TheVariants.{TypeDefOrRef}
use Rattle.enc_schema.specs.declared.column.Column.TheVariants.{Index}
use Rattle.enc_schema.specs.Coding.{tables_of, tag_bits, table_with, decoded}
use Rattle.enc_schema.specs.Schema.{columns_in, column_in}
use Rattle.enc_sigs.specs.Grammar.{table_of, token_named, is_coded, is_counted, token_in, sig_in, NamesTables}
use Rattle.enc_sigs.specs.Spelling.{sig_bytes}
use Rattle.enc_sigs.specs.declared.kind.SigKind.TheVariants as kind
use Rattle.enc_sigs.proofs.Named.{counted_names}
use Rattle.enc_plain.specs.Cell.{Cell, number, text, blob, guid, refer, body, field, references, kind_in, cell_kind}
use Rattle.enc_plain.specs.Extent.{size_of_kind, class_of, class_in, extent_in}
use Rattle.enc_plain.specs.declared.extent.Extent.{Extent}
use Rattle.enc_plain.specs.declared.extent.Extent.TheVariants.{Bytes, Class}
use Rattle.enc_plain.specs.Module.{Module, has_row, cells_of, cell_of}
use Rattle.enc_plain.specs.Rows.{number_at, bytes_at, token_at}
use Rattle.enc_plain.specs.Signatures.{signature_column, kind_in_table}
use Rattle.enc_plain.specs.Sound.{row_count, is_reference, class_size_at, class_size, size_of, extent_of, is_size, field_is_sound, HasTables, HasCounts, HasKinds, HasCells, HasSignatures}
use Rattle.enc_plain.proofs.Applied.{same_is}
use Rattle.enc_plain.proofs.CellsOf.{blob_there, token_there}
use Rattle.enc_plain.proofs.ColumnKinds.{field_signature}
use Rattle.enc_row_order.specs.Orders.{Orders, place_in_order, moved_by, standing_rows}
use Rattle.enc_compact.specs.Moved.{AreOrders, KeepLayouts, is_layout_of, holds_signatures, module_with}
use Rattle.enc_sigs.specs.Moved.{sig_moved, FieldFrontMoves, MovedFieldFront}
use Rattle.enc_compact.proofs.KindsKept.{blob_at}
use Rattle.enc_compact.proofs.Places.{is_order, new_at, new_some, same_moved, listed_many}
use Rattle.enc_compact.proofs.Rows.{count_moved, number_moved, token_moved, signature_there}
use Rattle.enc_compact.proofs.SignaturesKept.{goes_to, sig_read, signature_is}

-- the first of a list that answers
first_some : {X A : Type 0} → (X → Option A) → List X → Option A
first_some g [] = None
first_some g (x ∷ xs) = or_else (g x) (first_some g xs)

or_assoc : {A : Type 0} (a b c : Option A) → or_else (or_else a b) c ≡ or_else a (or_else b c)
or_assoc None b c = refl
or_assoc (Some x) b c = refl

or_none : {A : Type 0} (a : Option A) → a ≡ or_else a None
or_none None = refl
or_none (Some x) = refl

front : {A : Type 0} (rule : ℕ → Option A) (n : ℕ) → first_below rule (suc n) ≡ or_else (rule 0) (first_below (λ k. rule (suc k)) n)
unfolding first_below
front rule zero = or_none (rule 0)
front rule (suc n) =
    ap (λ o. or_else o (rule (suc n))) (front rule n)
    ∙ or_assoc (rule 0) (first_below (λ k. rule (suc k)) n) (rule (suc n))

-- is the first below their number, where these are its places
first_list : {X A : Type 0} (rule : ℕ → Option A) (g : X → Option A) (xs : List X) → ((k : ℕ) (x : X) → slice_get xs k ≡ Some x → rule k ≡ g x)
    → first_below rule (length xs) ≡ first_some g xs
unfolding first_some
first_list rule g [] h = first_none rule
first_list rule g (x ∷ xs) h =
    front rule (length xs)
    ∙ ap (λ o. or_else o (first_below (λ k. rule (suc k)) (length xs))) (h 0 x refl)
    ∙ ap (or_else (g x)) (first_list (λ k. rule (suc k)) g xs (λ k y e. h (suc k) y e))

-- only those that pass a test can answer
first_filtered : {X A : Type 0} (p : X → Bool) (v : X → A) (xs : List X)
    → first_some (λ x. if p x then Some (v x) else None) xs ≡ first_some (λ x. Some (v x)) (filter p xs)
unfolding first_some
first_filtered p v [] = refl
first_filtered {X} {A} p v (x ∷ xs) = by_test (p x) (first_filtered p v xs)
  where
    by_test : (b : Bool) → first_some (λ y. if p y then Some (v y) else None) xs ≡ first_some (λ y. Some (v y)) (filter p xs)
        → or_else (if b then Some (v x) else None) (first_some (λ y. if p y then Some (v y) else None) xs)
        ≡ first_some (λ y. Some (v y)) (cond b (x ∷ filter p xs) (filter p xs))
    by_test true rest = refl
    by_test false rest = rest

-- what a row of ClassLayout says of a type
layout_says : Module → ℕ → ℕ → Option ℕ
layout_says m type row = if is_layout_of m type row then Some (number_at (cells_of m) (record { table = 0x0F; row = row }) 1) else None

listed_get : (m : Module) (t k x : ℕ) → slice_get (standing_rows m t) k ≡ Some x → x ≡ k + 1
unfolding standing_rows
listed_get m t k x e = elim (cases_lt k (row_count m t)) [
  | inl low ↦ same x (k + 1) (sym e ∙ get_below (λ n. n + 1) (row_count m t) k low)
  | inr past ↦ let none = sym (get_past (λ n. n + 1) (row_count m t) k past) ∙ e in absurd cc
]
  where
    same : (a b : ℕ) → Some a ≡ Some b → a ≡ b
    same a b e = cc

layout_at : (m : Module) (type k : ℕ) → class_size_at m type k ≡ layout_says m type (k + 1)
unfolding class_size_at layout_says
layout_at m type k = refl

old_size : (m : Module) (type : ℕ) → class_size m type ≡ first_some (layout_says m type) (standing_rows m 0x0F)
unfolding class_size
old_size m type =
    ap (first_below (class_size_at m type)) (sym (listed_many m 0x0F))
    ∙ first_list (class_size_at m type) (layout_says m type) (standing_rows m 0x0F)
    (λ k x e. layout_at m type k ∙ ap (layout_says m type) (sym (listed_get m 0x0F k x e)))

says_moved : (m : Module) (orders : Orders) (type x k : ℕ) → HasTables m → AreOrders m orders → slice_get (orders 0x0F) k ≡ Some x
    → class_size_at (module_with orders m) (place_in_order (orders 0x02) type) k ≡ layout_says m type x
unfolding class_size_at layout_says moved_by
says_moved m orders type x k has are e =
    let q : Module = module_with orders m in
    let row : Token = record { table = 0x0F; row = x } in
    let def : Token = record { table = 0x02; row = type } in
    let place : k + 1 ≡ place_in_order (orders 0x0F) x = sym (new_at (row_count m 0x0F) (orders 0x0F) k x (is_order m orders 0x0F are) e) in
    let at : nth_row 0x0F k ≡ moved_by orders row = ap (λ n. record { table = 0x0F; row = n }) place in
    let parent : is_token (token_at (cells_of q) (nth_row 0x0F k) 2) (moved_by orders def) ≡ is_token (token_at (cells_of m) row 2) def =
    ap (λ (t : Token). is_token (token_at (cells_of q) t 2) (moved_by orders def)) at
    ∙ ap (λ (t : Token). is_token t (moved_by orders def)) (token_moved m orders row 2 has are)
    ∙ same_moved m orders (token_at (cells_of m) row 2) def are in
    let size : number_at (cells_of q) (nth_row 0x0F k) 1 ≡ number_at (cells_of m) row 1 =
    ap (λ (t : Token). number_at (cells_of q) t 1) at ∙ number_moved m orders row 1 has are in
    ap (λ b. if b then Some (number_at (cells_of q) (nth_row 0x0F k) 1) else None) parent
    ∙ ap (λ n. if is_token (token_at (cells_of m) row 2) def then Some n else None) size

new_size : (m : Module) (orders : Orders) (type : ℕ) → HasTables m → AreOrders m orders
    → class_size (module_with orders m) (place_in_order (orders 0x02) type) ≡ first_some (layout_says m type) (orders 0x0F)
unfolding class_size
new_size m orders type has are =
    let q : Module = module_with orders m in
    ap (first_below (class_size_at q (place_in_order (orders 0x02) type))) (count_moved m orders 0x0F has are ∙ sym (is_order m orders 0x0F are).many)
    ∙ first_list (class_size_at q (place_in_order (orders 0x02) type)) (layout_says m type) (orders 0x0F) (λ k x e. says_moved m orders type x k has are e)

says_filtered : (m : Module) (type : ℕ) (rows : List ℕ)
    → first_some (layout_says m type) rows
    ≡ first_some (λ row. Some (number_at (cells_of m) (record { table = 0x0F; row = row }) 1)) (filter (is_layout_of m type) rows)
unfolding layout_says
says_filtered m type rows = first_filtered (is_layout_of m type) (λ row. number_at (cells_of m) (record { table = 0x0F; row = row }) 1) rows

-- the first layout of a type tells the same size
pub class_size_moved : (m : Module) (orders : Orders) (type : ℕ) → HasTables m → AreOrders m orders → KeepLayouts m orders
    → class_size (module_with orders m) (place_in_order (orders 0x02) type) ≡ class_size m type
class_size_moved m orders type has are keep =
    new_size m orders type has are
    ∙ says_filtered m type (orders 0x0F)
    ∙ ap (first_some (λ row. Some (number_at (cells_of m) (record { table = 0x0F; row = row }) 1))) (keep.each type)
    ∙ sym (says_filtered m type (standing_rows m 0x0F))
    ∙ sym (old_size m type)

-- the type that a token of a signature names
class_told : Token → Option Extent
class_told t = if t.row == 0 then None else if t.table == 0x02 then Some (Class t.row) else None

by_zero : (row : ℕ) (z : Bool) (tag : ℕ) → (row == 0) ≡ z → tag < 4 → (tag == 3) ≡ false
    → class_of (if z then Some nil else option_map (λ (t : ℕ). record { table = t; row = row }) (table_with TypeDefOrRef tag))
    ≡ (if z then None else if table_of tag == 0x02 then Some (Class row) else None)
unfolding table_with tables_of
by_zero row true tag is low apart = refl
by_zero row false zero is low apart = refl
by_zero row false (suc zero) is low apart = refl
by_zero row false (suc (suc zero)) is low apart = refl
by_zero row false (suc (suc (suc k))) is low apart = let three : k ≡ 0 = omega arith in absurd (third k three apart)
  where
    third : (k : ℕ) → k ≡ 0 → (suc (suc (suc k)) == 3) ≡ false → ⊥
    third k e h = let f = rw e at h in absurd cc

not_three : (n : ℕ) → not (n == 3) ≡ true → (n == 3) ≡ false
not_three n h = grind (arith, nat_tests)

class_is : (n : ℕ) → is_coded n ≡ true → class_of (decoded TypeDefOrRef n) ≡ class_told (token_named n)
unfolding decoded tag_bits class_told is_coded
class_is n coded = by_zero (n / 4) (n / 4 == 0) (n % 4) refl (mod-lt n (omega arith)) (not_three (n % 4) coded)

number_by : (bytes : List ℕ) (o : Option (ℕ × ℕ)) (p : ℕ × List ℕ)
    → option_and_then (λ (x : ℕ × ℕ). if nat_lt x.0 0x20000000 then Some (x.0, drop x.1 bytes) else None) o ≡ Some p
    → (size : ℕ) × (o ≡ Some (p.0, size))
number_by bytes None p h = absurd cc
number_by bytes (Some x) p h = by_test (nat_lt x.0 0x20000000) h
  where
    by_test : (t : Bool) → (if t then Some (x.0, drop x.1 bytes) else None) ≡ Some p → (size : ℕ) × (Some x ≡ Some (p.0, size))
    by_test true h =
        let e : (x.0, drop x.1 bytes) ≡ p = cc in
        let f : x.0 ≡ p.0 = ap (λ (q : ℕ × List ℕ). q.0) e in
        (x.1, ap (λ (n : ℕ). Some (n, x.1)) f)
    by_test false h = absurd cc

number_first : (bytes : List ℕ) (p : ℕ × List ℕ) → number_in bytes ≡ Some p → (size : ℕ) × (compressed bytes ≡ Some (p.0, size))
unfolding number_in
number_first bytes p h = number_by bytes (compressed bytes) p h

told_of : (bytes : List ℕ) (n size : ℕ) → compressed bytes ≡ Some (n, size) → is_coded n ≡ true → class_in bytes ≡ class_told (token_named n)
unfolding class_in
told_of bytes n size e coded = rw e (class_is n coded)

-- a token, with what stands behind it
abbrev read : Token → List ℕ → Option (Token × List ℕ)
read t rest = Some (t, rest)

token_by : (good : ℕ → Bool) (bytes : List ℕ) (o : Option (ℕ × List ℕ)) (t : Token) (behind : List ℕ) → NamesTables good → number_in bytes ≡ o
    → option_and_then {U = Token × List ℕ} (λ (p : ℕ × List ℕ). if good p.0 then Some (token_named p.0, p.1) else None) o ≡ Some (t, behind)
    → class_in bytes ≡ class_told t
token_by good bytes None t behind names is h = absurd cc
token_by good bytes (Some p) t behind names is h = by_test (good p.0) refl h
  where
    by_test : (c : Bool) → good p.0 ≡ c → (if c then read (token_named p.0) p.1 else None) ≡ Some (t, behind) → class_in bytes ≡ class_told t
    by_test true e h =
        let pair : (token_named p.0, p.1) ≡ (t, behind) = cc in
        let token : token_named p.0 ≡ t = ap (λ (q : Token × List ℕ). q.0) pair in
        let n = number_first bytes p is in
        told_of bytes p.0 n.0 n.1 (names p.0 e) ∙ ap class_told token
    by_test false e h = absurd cc

class_token : (good : ℕ → Bool) (bytes : List ℕ) (t : Token) (behind : List ℕ) → NamesTables good → token_in good bytes ≡ Some (t, behind)
    → class_in bytes ≡ class_told t
unfolding token_in
class_token good bytes t behind names h = token_by good bytes (number_in bytes) t behind names refl h

told_by : (m q : Module) (t : Token) (row : ℕ) (a b : Bool) → (t.table == 0x02) ≡ b → (t.table ≡ 0x02 → class_size q row ≡ class_size m t.row)
    → size_of q (if a then None else if b then Some (Class row) else None) ≡ size_of m (if a then None else if b then Some (Class t.row) else None)
told_by m q t row true b e same = refl
told_by m q t row false true e same = same (grind (arith, nat_tests))
told_by m q t row false false e same = refl

told_moved : (m : Module) (orders : Orders) (t : Token) → HasTables m → AreOrders m orders → KeepLayouts m orders
    → size_of (module_with orders m) (class_told (moved_by orders t)) ≡ size_of m (class_told t)
unfolding class_told moved_by
told_moved m orders t has are keep =
    let row : ℕ = place_in_order (orders t.table) t.row in
    ap (λ b. size_of (module_with orders m) (if b then None else if t.table == 0x02 then Some (Class row) else None))
    (new_some (row_count m t.table) (orders t.table) t.row (is_order m orders t.table are))
    ∙ told_by m (module_with orders m) t row (t.row == 0) (t.table == 0x02) refl (λ e.
    ap (λ n. class_size (module_with orders m) (place_in_order (orders n) t.row)) e ∙ class_size_moved m orders t.row has are keep)

extent_of_field : (bytes rest : List ℕ) (k : ℕ) → bytes ≡ 0x06 ∷ k ∷ rest
    → extent_in bytes ≡ (if k == 0x11 then class_in rest else option_map (λ n. Bytes n) (size_of_kind k))
unfolding extent_in
extent_of_field bytes rest k h = rw h refl

bytes_size : (m q : Module) (o : Option ℕ) → size_of q (option_map (λ n. Bytes n) o) ≡ size_of m (option_map (λ n. Bytes n) o)
bytes_size m q None = refl
bytes_size m q (Some n) = refl

front_size : (m q : Module) (k : ℕ) (rest behind : List ℕ) (b : Bool) → (k == 0x11) ≡ b → (k ≡ 0x11 → size_of q (class_in behind) ≡ size_of m (class_in rest))
    → size_of q (if b then class_in behind else option_map (λ n. Bytes n) (size_of_kind k))
    ≡ size_of m (if b then class_in rest else option_map (λ n. Bytes n) (size_of_kind k))
front_size m q k rest behind true e same = same (grind (arith, nat_tests))
front_size m q k rest behind false e same = bytes_size m q (size_of_kind k)

-- a field's signature with its tokens moved tells the same size
extent_moved : (m : Module) (orders : Orders) (count : ℕ → ℕ) (bytes moved : List ℕ) → HasTables m → AreOrders m orders → KeepLayouts m orders
    → FieldFrontMoves (moved_by orders) (is_counted count) (is_counted count) bytes moved
    → size_of (module_with orders m) (extent_in moved) ≡ size_of m (extent_in bytes)
extent_moved m orders count bytes moved has are keep x =
    let q : Module = module_with orders m in
    let old = x.before in
    let new = x.after in
    ap (size_of q) (extent_of_field moved new.rest x.element new.begins)
    ∙ front_size m q x.element old.rest new.rest (x.element == 0x11) refl (λ e.
    ap (size_of q) (class_token (is_counted count) new.rest (moved_by orders x.token) new.behind (counted_names count) (new.token e))
    ∙ told_moved m orders x.token has are keep
    ∙ ap (size_of m) (sym (class_token (is_counted count) old.rest x.token old.behind (counted_names count) (old.token e))))
    ∙ ap (size_of m) (sym (extent_of_field bytes old.rest x.element old.begins))

-- the field that a row of FieldRVA names
field_column : (t : Token) → t.table ≡ 0x04 → signature_column t.table ≡ Some 2
unfolding signature_column
field_column t e = rw e refl

is_column : (t : Token) → t.table ≡ 0x04 → holds_signatures t.table 2 ≡ true
unfolding signature_column
is_column t e = rw e refl

field_kind : (t : Token) (bytes : List ℕ) → t.table ≡ 0x04 → kind_in_table t.table bytes ≡ kind.Field
unfolding kind_in_table
field_kind t bytes e = rw e refl

field_extent : (m : Module) (orders : Orders) (t : Token) → MovedFieldFront → HasTables m → HasCounts m → HasKinds m → HasSignatures m → AreOrders m orders
    → KeepLayouts m orders
    → has_row m t ≡ true → t.table ≡ 0x04
    → size_of (module_with orders m) (extent_in (bytes_at (cells_of (module_with orders m)) (moved_by orders t) 2))
    ≡ size_of m (extent_in (bytes_at (cells_of m) t 2))
field_extent m orders t fronts has counts kinds signatures are keep there e =
    let f : Token → Token = moved_by orders in
    let q : Module = module_with orders m in
    let w = blob_at m t 2 kinds there (field_signature t.table e) in
    let s = sig_read (row_count m) t.table w.0 (rw (blob_there m t 2 w.0 w.1) (signatures.each t 2 there (field_column t e))) in
    let read : sig_in (is_counted (row_count m)) kind.Field w.0 ≡ Some s.0 = rw (field_kind t w.0 e) at s.1 in
    let moves = fronts f (is_counted (row_count m)) (is_counted (row_count m)) w.0 s.0 (λ n good. goes_to m orders n counts are good) read in
    let now : bytes_at (cells_of q) (f t) 2 ≡ sig_bytes (sig_moved f s.0) =
    signature_there m orders t 2 w.0 has are (is_column t e) w.1 ∙ signature_is f (row_count m) t.table w.0 s.0 s.1 in
    ap (λ bytes. size_of q (extent_in bytes)) now
    ∙ extent_moved m orders (row_count m) w.0 (sig_bytes (sig_moved f s.0)) has are keep moves
    ∙ ap (λ bytes. size_of m (extent_in bytes)) (blob_there m t 2 w.0 w.1)

refer_by : (o : Option Cell) → option_map cell_kind o ≡ Some references → (t : Token) × (o ≡ Some (refer t))
refer_by None e = absurd cc
refer_by (Some (number n)) e = absurd cc
refer_by (Some (text b)) e = absurd cc
refer_by (Some (blob b)) e = absurd cc
refer_by (Some (guid b)) e = absurd cc
refer_by (Some (refer t)) e = (t, refl)
refer_by (Some (body b)) e = absurd cc
refer_by (Some (field b)) e = absurd cc

rva_kind : (u : Token) → u.table ≡ 0x1D → kind_in u.table 1 ≡ Some references
unfolding columns_in
rva_kind u e = rw e refl

rva_column : (u : Token) → u.table ≡ 0x1D → column_in u.table 1 ≡ Some (Index 0x04)
unfolding columns_in
rva_column u e = rw e refl

reference_is : (m : Module) (t : Token) → is_reference m (Index 0x04) t ≡ true → (t.row == 0) ≡ false → (t.table ≡ 0x04) × (has_row m t ≡ true)
unfolding is_reference
reference_is m t h some = elim (or_cases (is_token t nil) (0x04 == t.table && has_row m t) h) [
  | inl none ↦ absurd (no_nil (same_is t nil none) some)
  | inr there ↦ let a = and_parts (0x04 == t.table) (has_row m t) there in (table_is t.table a.0, a.1)
]
  where
    no_nil : t ≡ nil → (t.row == 0) ≡ false → ⊥
    no_nil e h = let f = rw e at h in absurd cc

    table_is : (n : ℕ) → (0x04 == n) ≡ true → n ≡ 0x04
    table_is n h = grind (arith, nat_tests)

named_field : (m : Module) (u : Token) → HasKinds m → HasCells m → has_row m u ≡ true → u.table ≡ 0x1D
    → is_reference m (Index 0x04) (token_at (cells_of m) u 1) ≡ true
named_field m u kinds cells there e =
    let w = refer_by (cell_of m u 1) (kinds.kinds u 1 references there (rva_kind u e)) in
    let sound = cells.each u 1 (Index 0x04) (refer w.0) there (rva_column u e) w.1 in
    ap (is_reference m (Index 0x04)) (sym (token_there m u 1 w.0 w.1)) ∙ sound

size_by : (m q : Module) (b : Bool) (x y : Option Extent) → (b ≡ false → size_of q x ≡ size_of m y)
    → size_of q (if b then None else x) ≡ size_of m (if b then None else y)
size_by m q true x y same = refl
size_by m q false x y same = same refl

row_zero : (m : Module) (orders : Orders) (t : Token) → AreOrders m orders → ((moved_by orders t).row == 0) ≡ (t.row == 0)
unfolding moved_by
row_zero m orders t are = new_some (row_count m t.table) (orders t.table) t.row (is_order m orders t.table are)

-- what tells the size of a field tells the same of a moved row
pub size_moved : (m : Module) (orders : Orders) (u : Token) → MovedFieldFront → HasTables m → HasCounts m → HasKinds m → HasCells m → HasSignatures m
    → AreOrders m orders
    → KeepLayouts m orders → has_row m u ≡ true → u.table ≡ 0x1D
    → size_of (module_with orders m) (extent_of (module_with orders m) (moved_by orders u)) ≡ size_of m (extent_of m u)
unfolding extent_of
size_moved m orders u fronts has counts kinds cells signatures are keep there e =
    let q : Module = module_with orders m in
    let t : Token = token_at (cells_of m) u 1 in
    ap (λ (v : Token). size_of q (if v.row == 0 then None else extent_in (bytes_at (cells_of q) v 2))) (token_moved m orders u 1 has are)
    ∙ ap (λ b. size_of q (if b then None else extent_in (bytes_at (cells_of q) (moved_by orders t) 2))) (row_zero m orders t are)
    ∙ size_by m q (t.row == 0) (extent_in (bytes_at (cells_of q) (moved_by orders t) 2)) (extent_in (bytes_at (cells_of m) t 2)) (λ some.
    let is = reference_is m t (named_field m u kinds cells there e) some in
    field_extent m orders t fronts has counts kinds signatures are keep is.1 is.0)

pub field_kept : (m : Module) (orders : Orders) (u : Token) (bytes : List ℕ) → MovedFieldFront → HasTables m → HasCounts m → HasKinds m → HasCells m
    → HasSignatures m
    → AreOrders m orders → KeepLayouts m orders → has_row m u ≡ true → u.table ≡ 0x1D → field_is_sound m u bytes ≡ true
    → field_is_sound (module_with orders m) (moved_by orders u) bytes ≡ true
unfolding field_is_sound
field_kept m orders u bytes fronts has counts kinds cells signatures are keep there e h =
    ap (λ o. length bytes == 0 || is_size (length bytes) o) (size_moved m orders u fronts has counts kinds cells signatures are keep there e) ∙ h
