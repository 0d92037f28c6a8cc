-- When a list of acts may be applied to a module with methods of these names.
use Rattle.std.proofs.Common.{◌≡◌, ℕ, zero, suc, ◌+◌, ◌-◌, ◌<◌, ◌≤◌, true, false, List, ◌++◌, length, Some, None, refl, ◌∙◌, arith, ◌⊎◌, inl, inr}
use Rattle.std.specs.Prelude.{slice_get, nat_lt}
use Rattle.std.proofs.lemmas.Bool.Decides.{nat_tests}
use Rattle.std.proofs.lemmas.Option.{slice_get_within, slice_get_past}
use Rattle.enc_base.specs.Tables.{method_def}
use Rattle.enc_plain.specs.Chain.{Chain, rows_before}
use Rattle.enc_plain.specs.Module.{Module, rows_in, row_of, cells_of}
use Rattle.enc_plain.specs.Rows.{number_at, bytes_at}
use Rattle.enc_plain.specs.Sound.{row_count}
use Rattle.enc_edit_list.specs.declared.edit.Edit.{Edit}
use Rattle.enc_edit_list.specs.Added.{adding, rows_added}
use Rattle.enc_rules.specs.Listed.{edit_of, rows_listed}
use Rattle.enc_rules.proofs.RowsListed.{number_new, bytes_new, number_old, bytes_old}
use Rattle.enc_generator.specs.Generated.{named_row, adds_method}
use Rattle.enc_generator.proofs.NamesApart.{Each, in_either}
use Rattle.enc_generator.proofs.Acts.{Act, edits_of_acts, new_names}
use Rattle.enc_generator.proofs.ActsAdded.{IsNoMethod, names_added, named_added}

-- what the methods of a module say, by their rows
pub record HasMethods (m : Module) (names : List (List ℕ)) : Type 0 where
  pub count : row_count m method_def ≡ length names
  pub named : (r : ℕ) (name : List ℕ) → slice_get names r ≡ Some name → bytes_at (cells_of m) (named_row method_def (r + 1)) 3 ≡ name
  pub il : (r : ℕ) → r < length names → number_at (cells_of m) (named_row method_def (r + 1)) 1 ≡ 0

-- what is known of acts behind such a module: rows of methods are added by methods alone
pub record Knows (c : Chain) (names : List (List ℕ)) (acts : List Act) : Type 0 where
  pub methods : HasMethods c.plain names
  pub others : Each IsNoMethod acts

-- a row that was there is added by none
old_row : (c : Chain) (edits : List Edit) (r : ℕ) → r < rows_before c method_def → edit_of c edits (named_row method_def (r + 1)) ≡ None
unfolding edit_of
old_row c edits r low =
    let here : nat_lt (rows_before c method_def) (r + 1) ≡ false = grind (arith, nat_tests, low) in
    rw here refl

-- a new one is added by the edit with its name
pub new_row : (c : Chain) (names : List (List ℕ)) (acts : List Act) (j : ℕ) (name : List ℕ) → Knows c names acts → slice_get (new_names acts) j ≡ Some name → (n : ℕ) × (edit_of c (edits_of_acts acts) (named_row method_def (length names + j + 1)) ≡ Some (adds_method name n))
unfolding edit_of
new_row c names acts j name knows h =
    let w = named_added acts j name knows.others h in
    let count : rows_before c method_def ≡ length names = knows.methods.count in
    let past : nat_lt (rows_before c method_def) (length names + j + 1) ≡ true = grind (arith, nat_tests, count) in
    let n : length names + j + 1 - rows_before c method_def - 1 ≡ j = omega (arith, count) in
    (w.0, rw (past, n) w.1)

-- each method has its name after the acts
pub listed_name : (c : Chain) (names : List (List ℕ)) (acts : List Act) (r : ℕ) (name : List ℕ) → Knows c names acts → slice_get (names ++ new_names acts) r ≡ Some name → bytes_at (rows_listed c (edits_of_acts acts)) (named_row method_def (r + 1)) 3 ≡ name
listed_name c names acts r name knows h = elim (in_either names (new_names acts) r name h) [
  | inl a ↦
      let low = slice_get_within names r name a in
      let count = knows.methods.count in
      bytes_old c (edits_of_acts acts) (named_row method_def (r + 1)) 3 (old_row c (edits_of_acts acts) r (omega (arith, low, count))) ∙ knows.methods.named r name a
  | inr b ↦
      let w = new_row c names acts b.0 name knows b.2 in
      let at : r + 1 ≡ length names + b.0 + 1 = omega (arith, b.1) in
      rw at (bytes_new c (edits_of_acts acts) (named_row method_def (length names + b.0 + 1)) 3 (adds_method name w.0) w.1)
]

-- and IL code
pub listed_il : (c : Chain) (names : List (List ℕ)) (acts : List Act) (r : ℕ) (name : List ℕ) → Knows c names acts → slice_get (names ++ new_names acts) r ≡ Some name → number_at (rows_listed c (edits_of_acts acts)) (named_row method_def (r + 1)) 1 ≡ 0
listed_il c names acts r name knows h = elim (in_either names (new_names acts) r name h) [
  | inl a ↦
      let low = slice_get_within names r name a in
      let count = knows.methods.count in
      number_old c (edits_of_acts acts) (named_row method_def (r + 1)) 1 (old_row c (edits_of_acts acts) r (omega (arith, low, count))) ∙ knows.methods.il r low
  | inr b ↦
      let w = new_row c names acts b.0 name knows b.2 in
      let at : r + 1 ≡ length names + b.0 + 1 = omega (arith, b.1) in
      rw at (number_new c (edits_of_acts acts) (named_row method_def (length names + b.0 + 1)) 1 (adds_method name w.0) w.1)
]

-- no other row is there
no_cells : (m : Module) (r : ℕ) → (r ≡ 0) ⊎ (row_count m method_def < r) → cells_of m (named_row method_def r) ≡ None
unfolding row_of
no_cells m zero h = refl
no_cells m (suc r) (inl h) = absurd (omega (arith, h))
no_cells m (suc r) (inr h) = rw (slice_get_past (rows_in m method_def) r (omega (arith, h))) refl

past_added : (edits : List Edit) (i : ℕ) → rows_added edits method_def ≤ i → slice_get (adding edits method_def) i ≡ None
unfolding rows_added
past_added edits i high = slice_get_past (adding edits method_def) i high

no_edit : (c : Chain) (names : List (List ℕ)) (acts : List Act) (r : ℕ) → Knows c names acts → (r ≡ 0) ⊎ (length names + length (new_names acts) < r) → edit_of c (edits_of_acts acts) (named_row method_def r) ≡ None
unfolding edit_of
no_edit c names acts r knows (inl h) =
    let here : nat_lt (rows_before c method_def) r ≡ false = grind (arith, nat_tests, h) in
    rw here refl
no_edit c names acts r knows (inr h) =
    let count = knows.methods.count in
    let many = names_added acts knows.others in
    let here : nat_lt (rows_before c method_def) r ≡ true = grind (arith, nat_tests, h, count) in
    rw here (past_added (edits_of_acts acts) (r - rows_before c method_def - 1) (omega (arith, h, count, many)))

pub not_listed : (c : Chain) (names : List (List ℕ)) (acts : List Act) (r : ℕ) → Knows c names acts → (r ≡ 0) ⊎ (length names + length (new_names acts) < r) → rows_listed c (edits_of_acts acts) (named_row method_def r) ≡ None
unfolding rows_listed
not_listed c names acts r knows h = rw (no_edit c names acts r knows h) (no_cells c.plain r (fewer h))
  where
    fewer : (r ≡ 0) ⊎ (length names + length (new_names acts) < r) → (r ≡ 0) ⊎ (row_count c.plain method_def < r)
    fewer (inl h) = inl h
    fewer (inr h) = let count = knows.methods.count in inr (omega (arith, h, count))
