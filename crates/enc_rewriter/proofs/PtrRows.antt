-- The tables that are no part of a module, and the rows of Ptr tables.
use Rattle.std.proofs.Common.{◌≡◌, ℕ, zero, suc, ◌≤◌, Bool, true, false, List, [], ◌∷◌, Some, refl, sym, ap, ◌∙◌, subst, inl, inr, arith}
use Rattle.std.specs.Prelude.{◌==◌, slice_get}
use Rattle.std.proofs.lemmas.Bool.{cases_eq}
use Rattle.std.proofs.lemmas.Bool.Decides.{nat_tests}
use Rattle.enc_meta.specs.Heaps.{Counted}
use Rattle.enc_plain.specs.Module.{Module}
use Rattle.enc_plain.specs.Sound.{row_count, all_kids, is_part, IsSound}
use Rattle.enc_rows.specs.Written.{rows_at}
use Rattle.enc_schema.proofs.ChildTables.{by_child}
use Rattle.enc_schema.specs.Children.{is_child_table, ptr_of}
use Rattle.enc_schema.specs.Schema.{columns_in}
use Rattle.enc_base.specs.Tables as tables
use Rattle.enc_schema.specs.declared.column.Column.TheVariants.{Index}
use Rattle.enc_rewriter.specs.Numbers.{is_in_row_order, rows_of_one, ptr_rows, HoldRows}
use Rattle.enc_rewriter.specs.Placed.{Placed}
use Rattle.enc_rewriter.proofs.KidsCounted.{kid_bounds}

a_part : (t : ℕ) → ¬ (t ≡ 0x03) → ¬ (t ≡ 0x05) → ¬ (t ≡ 0x07) → ¬ (t ≡ 0x13) → ¬ (t ≡ 0x16) → ¬ (t ≡ 0x1E) → ¬ (t ≡ 0x1F) → is_part t ≡ true
a_part t a b c d e f g =
    let e1 : (0x03 == t) ≡ false = grind (arith, nat_tests) in
    let e2 : (0x05 == t) ≡ false = grind (arith, nat_tests) in
    let e3 : (0x07 == t) ≡ false = grind (arith, nat_tests) in
    let e4 : (0x13 == t) ≡ false = grind (arith, nat_tests) in
    let e5 : (0x16 == t) ≡ false = grind (arith, nat_tests) in
    let e6 : (0x1E == t) ≡ false = grind (arith, nat_tests) in
    let e7 : (0x1F == t) ≡ false = grind (arith, nat_tests) in
    rw (e1, e2, e3, e4, e5, e6, e7) refl

pub both_ways : (b : Bool) → b ≡ true → b ≡ false → ⊥
both_ways true e f = absurd cc
both_ways false e f = absurd cc

-- what holds of all Ptr tables, of EncLog and of EncMap holds of each table that is no part of a module
pub by_other : (P : ℕ → Type 0) → ((child : ℕ) → is_child_table child ≡ true → P (ptr_of child)) → P tables.enc_log → P tables.enc_map → (t : ℕ) → is_part t ≡ false → P t
by_other P ptrs log map t other = elim (cases_eq t 0x03) [
  | inl e ↦ subst P (sym e) (ptrs 0x04 refl)
  | inr a ↦ elim (cases_eq t 0x05) [
    | inl e ↦ subst P (sym e) (ptrs 0x06 refl)
    | inr b ↦ elim (cases_eq t 0x07) [
      | inl e ↦ subst P (sym e) (ptrs 0x08 refl)
      | inr c ↦ elim (cases_eq t 0x13) [
        | inl e ↦ subst P (sym e) (ptrs 0x14 refl)
        | inr d ↦ elim (cases_eq t 0x16) [
          | inl e ↦ subst P (sym e) (ptrs 0x17 refl)
          | inr f ↦ elim (cases_eq t 0x1E) [
            | inl e ↦ subst P (sym e) log
            | inr g ↦ elim (cases_eq t 0x1F) [
              | inl e ↦ subst P (sym e) map
              | inr k ↦ absurd (both_ways (is_part t) (a_part t a b c d f g k) other)
            ]
          ]
        ]
      ]
    ]
  ]
]

-- the columns of a Ptr table
pub ptr_columns_are : (child : ℕ) → is_child_table child ≡ true → columns_in (ptr_of child) ≡ Index child ∷ []
unfolding columns_in
ptr_columns_are child is = by_child (λ k. columns_in (ptr_of k) ≡ Index k ∷ []) refl refl refl refl refl child is

-- a row of a Ptr table has one number, a row of its child table
pub record IsPtrRow (m : Module) (child : ℕ) (cells : List ℕ) : Type 0 where
  pub row : ℕ
  pub is : cells ≡ row ∷ []
  pub high : row ≤ row_count m child

one_got : (m : Module) (child : ℕ) (kids : List ℕ) (n : ℕ) (cells : List ℕ) → ((k x : ℕ) → slice_get kids k ≡ Some x → x ≤ row_count m child)
    → slice_get (rows_of_one kids) n ≡ Some cells → IsPtrRow m child cells
unfolding rows_of_one
one_got m child [] n cells each e = absurd cc
one_got m child (k ∷ kids) zero cells each e = let is : k ∷ [] ≡ cells = cc in record { row = k; is = sym is; high = each 0 k refl }
one_got m child (k ∷ kids) (suc n) cells each e = one_got m child kids n cells (λ j x get. each (suc j) x get) e

ptr_row_by : (m : Module) (child n : ℕ) (cells : List ℕ) (ordered : Bool) → IsSound m → is_child_table child ≡ true → is_in_row_order (all_kids m child) ≡ ordered
    → slice_get (ptr_rows m child) n ≡ Some cells → IsPtrRow m child cells
unfolding ptr_rows
ptr_row_by m child n cells true sound is order e = let none = rw order at e in absurd cc
ptr_row_by m child n cells false sound is order e =
    one_got m child (all_kids m child) n cells (λ k x get. (kid_bounds m child k x sound.owners.owned is get).1) (rw order at e)

pub ptr_row : (m : Module) (h : Counted) (p : Placed) (rows : List (List (List ℕ))) (child n : ℕ) (cells : List ℕ) → IsSound m → HoldRows m h p rows → is_child_table child ≡ true
    → slice_get (rows_at rows (ptr_of child)) n ≡ Some cells → IsPtrRow m child cells
ptr_row m h p rows child n cells sound said is e =
    ptr_row_by m child n cells (is_in_row_order (all_kids m child)) sound is refl (sym (ap (λ (r : List (List ℕ)). slice_get r n) (said.ptrs child is)) ∙ e)
