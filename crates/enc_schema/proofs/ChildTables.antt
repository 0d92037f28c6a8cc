-- The child tables are those of the columns of runs.
use Rattle.std.proofs.Common.{◌≡◌, ℕ, ◌<◌, ◌≤◌, true, false, List, [], ◌∷◌, map, get_or, inl, inr, refl, sym, ◌∙◌, ap, arith}
use Rattle.std.specs.Prelude.{zero, suc, Some, ◌==◌, flat_map}
use Rattle.std.specs.List.{range_with_len}
use Rattle.std.proofs.lemmas.List.FromFn.{get_or-map-range_with_len}
use Rattle.std.proofs.lemmas.Bool.{cases_eq, cases_lt}
use Rattle.std.proofs.lemmas.Bool.Decides.{nat_tests}
use Rattle.std.proofs.lemmas.Option.{slice_get_past}
use Rattle.enc_schema.specs.declared.column.Column.{Column}
use Rattle.enc_schema.specs.declared.column.Column.TheVariants.{Run}
use Rattle.enc_schema.specs.Schema.{list_at, schema, columns_in, column_in}
use Rattle.enc_schema.specs.Children.{is_child_table, owner_table, run_column, runs_in}
use Rattle.enc_schema.specs.Laws.{child_in}

true_is_not : true ≡ false → ⊥
true_is_not h = cc

no_child : (t : ℕ) → (t == 0x04) ≡ false → (t == 0x06) ≡ false → (t == 0x08) ≡ false → (t == 0x14) ≡ false → (t == 0x17) ≡ false → is_child_table t ≡ true → true ≡ false
no_child t a b c d e h = sym (rw (a, b, c, d, e) at h)

-- what holds of the five child tables holds of each child table
pub by_child : (P : ℕ → Type 0) → P 0x04 → P 0x06 → P 0x08 → P 0x14 → P 0x17 → (t : ℕ) → is_child_table t ≡ true → P t
by_child P a b c d e t child = elim (cases_eq t 0x04) [
  | inl h ↦ rw h a
  | inr n1 ↦ elim (cases_eq t 0x06) [
    | inl h ↦ rw h b
    | inr n2 ↦ elim (cases_eq t 0x08) [
      | inl h ↦ rw h c
      | inr n3 ↦ elim (cases_eq t 0x14) [
        | inl h ↦ rw h d
        | inr n4 ↦ elim (cases_eq t 0x17) [
          | inl h ↦ rw h e
          | inr n5 ↦
              let e1 : (t == 0x04) ≡ false = grind (arith, nat_tests) in
              let e2 : (t == 0x06) ≡ false = grind (arith, nat_tests) in
              let e3 : (t == 0x08) ≡ false = grind (arith, nat_tests) in
              let e4 : (t == 0x14) ≡ false = grind (arith, nat_tests) in
              let e5 : (t == 0x17) ≡ false = grind (arith, nat_tests) in
              absurd (true_is_not (no_child t e1 e2 e3 e4 e5 child))
        ]
      ]
    ]
  ]
]

-- the column of its runs in its owners' table
pub run_column_is : (child : ℕ) → is_child_table child ≡ true → column_in (owner_table child) (run_column child) ≡ Some (Run child)
unfolding columns_in
run_column_is child there = by_child (λ k. column_in (owner_table k) (run_column k) ≡ Some (Run k)) refl refl refl refl refl child there

runs_at : (lists : List (List Column)) (t : ℕ) → flat_map child_in (list_at lists t) ≡ get_or (map (λ (l : List Column). flat_map child_in l) lists) t []
runs_at [] t = refl
runs_at (x ∷ xs) zero = refl
runs_at (x ∷ xs) (suc t) = runs_at xs t

all_runs : map (λ (l : List Column). flat_map child_in l) schema ≡ map runs_in (range_with_len 0 56)
all_runs = refl

none_past : (t : ℕ) → 56 ≤ t → runs_in t ≡ []
none_past t h =
    let e1 : (t == 0x02) ≡ false = grind (arith, nat_tests) in
    let e2 : (t == 0x06) ≡ false = grind (arith, nat_tests) in
    let e3 : (t == 0x12) ≡ false = grind (arith, nat_tests) in
    let e4 : (t == 0x15) ≡ false = grind (arith, nat_tests) in
    rw (e1, e2, e3, e4) refl

past_end : (t : ℕ) → 56 ≤ t → flat_map child_in (columns_in t) ≡ []
unfolding columns_in
past_end t h = rw (slice_get_past schema t h) refl

before_end : (t : ℕ) → t < 56 → flat_map child_in (columns_in t) ≡ runs_in t
unfolding columns_in
before_end t h = runs_at schema t ∙ ap (λ (l : List (List ℕ)). get_or l t []) all_runs ∙ get_or-map-range_with_len runs_in 0 56 t t [] h (omega arith)

-- the child tables are those of the columns of runs, in order
pub runs_are : (t : ℕ) → runs_in t ≡ flat_map child_in (columns_in t)
runs_are t =
    elim (cases_lt t 56) [
      | inl h ↦ sym (before_end t h)
      | inr h ↦ none_past t h ∙ sym (past_end t h)
    ]
