-- The rows of methods rise, since no two edits give one method its body.
use Rattle.std.proofs.Common.{◌≡◌, ℕ, suc, ◌+◌, ◌<◌, Bool, true, false, List, [], ◌∷◌, ◌++◌, length, map, Some, None, eqb, refl, sym, ap, ◌∙◌, arith}
use Rattle.std.specs.Prelude.{◌==◌, ◌&&◌, nat_lt, slice_get, if◌then◌else◌}
use Rattle.std.specs.List.{AllByRecursion, IsDistinct, list_all}
use Rattle.std.specs.List.Sorted.{IsPermutation, IsNonDecreasing, IsNonDecreasingBy, IsStrictlyIncreasing}
use Rattle.std.proofs.lemmas.Bool.{and_parts}
use Rattle.std.proofs.lemmas.Bool.Decides.{nat_tests}
use Rattle.std.proofs.lemmas.List.{get_or-map, length-map}
use Rattle.std.proofs.lemmas.List.Sorted.{IsPermutation-map}
use Rattle.std.proofs.lemmas.Map.Keys.{IsDistinct-cons, IsDistinct-IsPermutation, IsStrictlyIncreasing-from_distinct}
use Rattle.enc_base.specs.declared.token.Token.{Token}
use Rattle.enc_edit_list.specs.declared.body.BodyValue.{BodyValue}
use Rattle.enc_edit_list.specs.declared.edit.Edit.{Edit}
use Rattle.enc_edit_list.specs.declared.edit.Edit.TheVariants.{Add, Body as Replace}
use Rattle.enc_edit_list.specs.Form.{is_known_table, owner_fits, cells_fit, stated_columns, edit_fits}
use Rattle.enc_rules.specs.Rules.{room_of, gives_body, has_points}
use Rattle.enc_pdb_writer.specs.Stated.{AreMethods}
use Rattle.enc_pdb_writer.specs.declared.edits.MethodEdit.{MethodEdit}
use Rattle.enc_pdb_writer.specs.Listed.{placed_edit, placed_from, row_placed}
use Rattle.enc_pdb_writer.proofs.Lists.{one_of_all}

-- an edit with points gives a body
some_room : (b : BodyValue) → nat_lt 0 (room_of (Some b)) ≡ true
some_room b = grind (arith, nat_tests)

no_points : {X : Type 0} (points : List X) → (length points == 0) ≡ true → nat_lt 0 (length points) ≡ true → ⊥
no_points points none some = grind (arith, nat_tests, none, some)

and_last : (a b c d : Bool) → (a && b && c && d) ≡ true → d ≡ true
and_last a b c d all = (and_parts (a && b && c) d all).1

pub gives_by_points : (e : Edit) → edit_fits e ≡ true → has_points e ≡ true → gives_body e ≡ true
unfolding edit_fits
gives_by_points (Add table owner cells (Some b) points) fits some = some_room b
gives_by_points (Add table owner cells None points) fits some = absurd (no_points points (and_last (is_known_table table) (owner_fits table owner) (cells_fit (stated_columns table) cells) (length points == 0) fits) some)
gives_by_points (Replace method b points) fits some = some_room b

-- two edits with points are of methods with different rows
record Apart (methods : List Token) (edits : List Edit) : Type 0 where
  apart : (i k : ℕ) (d e : Edit) (t u : Token) → i < k → slice_get edits i ≡ Some d → slice_get edits k ≡ Some e → has_points d ≡ true → has_points e ≡ true → slice_get methods i ≡ Some t → slice_get methods k ≡ Some u → t.row ≡ u.row → ⊥

same_token : (t u : Token) (table : ℕ) → t.table ≡ table → u.table ≡ table → t.row ≡ u.row → u ≡ t
same_token t u table a b c =
    let tables : u.table ≡ t.table = b ∙ sym a in
    let first : record { table = u.table; row = u.row } ≡ record { table = t.table; row = t.row } = rw (tables, c) refl in
    first

are_apart : (methods : List Token) (edits : List Edit) → list_all edit_fits edits ≡ true → AreMethods methods edits → Apart methods edits
are_apart methods edits fit are = record {
  apart = λ i k d e t u lt a b p q m n same.
      let x = are.each i d t a m p in
      let y = are.each k e u b n q in
      are.once i k d e t lt a b (gives_by_points d (one_of_all edit_fits edits i d fit a) p) (gives_by_points e (one_of_all edit_fits edits k e fit b) q) m
      (n ∙ ap (λ (v : Token). Some v) (same_token t u 0x06 x.0 y.0 same));
}

apart_rest : (t : Token) (methods : List Token) (e : Edit) (edits : List Edit) → Apart (t ∷ methods) (e ∷ edits) → Apart methods edits
apart_rest t methods e edits are = record { apart = λ i k d f u v lt a b p q m n same. are.apart (suc i) (suc k) d f u v (omega (arith, lt)) a b p q m n same }

-- a row that no edit behind it has
rows_with : (row : ℕ) (n : ℕ) (t : Token) (e : Edit) (rest : List MethodEdit) (b : Bool) → has_points e ≡ b → (has_points e ≡ true → eqb row t.row ≡ false) → AllByRecursion (λ y. eqb row y ≡ false) (map row_placed rest)
    → AllByRecursion (λ y. eqb row y ≡ false) (map row_placed ((if b then record { row = t.row; place = n } ∷ [] else []) ++ rest))
rows_with row n t e rest true is here later = (here is, later)
rows_with row n t e rest false is here later = later

differs : (row other : ℕ) → (row ≡ other → ⊥) → eqb row other ≡ false
differs row other not = grind (arith, nat_tests, not)

row_absent : (row n : ℕ) (methods : List Token) (edits : List Edit) → ((k : ℕ) (e : Edit) (u : Token) → slice_get edits k ≡ Some e → has_points e ≡ true → slice_get methods k ≡ Some u → row ≡ u.row → ⊥)
    → AllByRecursion (λ y. eqb row y ≡ false) (map row_placed (placed_from n methods edits))
unfolding placed_from placed_edit
row_absent row n [] edits none = tt
row_absent row n (t ∷ methods) [] none = tt
row_absent row n (t ∷ methods) (e ∷ edits) none =
    rows_with row n t e (placed_from (n + 1) methods edits) (has_points e) refl (λ some. differs row t.row (none 0 e t refl some refl))
    (row_absent row (n + 1) methods edits (λ k f u a p m. none (suc k) f u a p m))

distinct_with : (n : ℕ) (t : Token) (e : Edit) (rest : List MethodEdit) (b : Bool) → has_points e ≡ b → (has_points e ≡ true → AllByRecursion (λ y. eqb t.row y ≡ false) (map row_placed rest)) → IsDistinct eqb (map row_placed rest)
    → IsDistinct eqb (map row_placed ((if b then record { row = t.row; place = n } ∷ [] else []) ++ rest))
distinct_with n t e rest true is here later = IsDistinct-cons eqb t.row (map row_placed rest) (here is) later
distinct_with n t e rest false is here later = later

none_distinct : IsDistinct eqb []
unfolding IsDistinct
none_distinct = tt

distinct : (n : ℕ) (methods : List Token) (edits : List Edit) → Apart methods edits → IsDistinct eqb (map row_placed (placed_from n methods edits))
unfolding placed_from placed_edit
distinct n [] edits are = none_distinct
distinct n (t ∷ methods) [] are = none_distinct
distinct n (t ∷ methods) (e ∷ edits) are =
    distinct_with n t e (placed_from (n + 1) methods edits) (has_points e) refl
    (λ some. row_absent t.row (n + 1) methods edits (λ k f u a p m same. are.apart 0 (suc k) e f t u (omega arith) refl a some p refl m same))
    (distinct (n + 1) methods edits (apart_rest t methods e edits are))

flips : (x y : ℕ) → eqb x y ≡ eqb y x
flips x y = grind (arith, nat_tests)

rows_low : (placed : List MethodEdit) → IsNonDecreasingBy row_placed placed → IsNonDecreasing (map row_placed placed)
rows_low placed up i j d le lt =
    let none : MethodEdit = record { row = 0; place = 0 } in
    let low : j < length placed = omega (arith, lt, length-map placed row_placed) in
    rw (get_or-map row_placed placed i none d (omega (arith, le, low)), get_or-map row_placed placed j none d low) (up i j none le low)

-- sorted rows rise
pub rows_rise : (methods : List Token) (edits : List Edit) (placed : List MethodEdit) → list_all edit_fits edits ≡ true → AreMethods methods edits → IsPermutation (placed_from 0 methods edits) placed → IsNonDecreasingBy row_placed placed → IsStrictlyIncreasing (map row_placed placed)
rows_rise methods edits placed fit are same up =
    IsStrictlyIncreasing-from_distinct (map row_placed placed) (rows_low placed up)
    (IsDistinct-IsPermutation eqb flips (map row_placed (placed_from 0 methods edits)) (map row_placed placed) (IsPermutation-map row_placed (placed_from 0 methods edits) placed same) (distinct 0 methods edits (are_apart methods edits fit are)))
