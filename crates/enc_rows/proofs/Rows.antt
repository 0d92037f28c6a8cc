-- The rows of a stream's tables, where a table or a row is added.
use Rattle.std.proofs.Common.{◌≡◌, ℕ, zero, suc, ◌-◌, ◌^◌, ◌<◌, ◌≤◌, Bool, true, false, inl, inr, List, [], ◌∷◌, ◌++◌, length, set, get_or, refl, sym, ap, ◌∙◌, arith, length-append}
use Rattle.std.specs.Prelude.{◌==◌, nat_lt, if◌then◌else◌, IsTrue}
use Rattle.std.specs.List.{list_all}
use Rattle.std.proofs.lemmas.Bool.{cases_lt, eq-eqb, and_from}
use Rattle.std.proofs.lemmas.Bool.Decides.{nat_tests}
use Rattle.std.proofs.lemmas.Option.{slice_get_past, unwrap_or-slice_get}
use Rattle.std.proofs.lemmas.List.{get_or_read}
use Rattle.std.proofs.lemmas.List.Folds.{list_all-append}
use Rattle.enc_schema.specs.Schema.{schema, columns_in, list_at}
use Rattle.enc_rows.specs.Written.{rows_at, count_at, has_cells, is_word, AreRows}

-- a table changed
pub list_at_set : {A : Type 0} (xs : List (List A)) (t k : ℕ) (ys : List A) → t < length xs → list_at (set xs t ys) k ≡ (if k == t then ys else list_at xs k)
list_at_set [] t k ys h = absurd (omega arith)
list_at_set (x ∷ xs) zero zero ys h = refl
list_at_set (x ∷ xs) zero (suc k) ys h = let e : (suc k == 0) ≡ false = grind (arith, nat_tests) in rw e refl
list_at_set (x ∷ xs) (suc t) zero ys h = let e : (0 == suc t) ≡ false = grind (arith, nat_tests) in rw e refl
list_at_set (x ∷ xs) (suc t) (suc k) ys h =
    let e : (suc k == suc t) ≡ (k == t) = grind (arith, nat_tests) in
    rw e (list_at_set xs t k ys (omega arith))

-- past the schema no table has columns
columns_past : (t : ℕ) → 56 ≤ t → length (columns_in t) ≡ 0
unfolding columns_in
columns_past t h = rw (slice_get_past schema t h) refl

-- so a table that has columns is one of the schema's
pub table_there : (t : ℕ) → IsTrue (nat_lt 0 (length (columns_in t))) → t < 56
table_there t some = elim (cases_lt t 56) [
  | inl h ↦ h
  | inr h ↦
      let none = columns_past t h in
      let many : 0 < length (columns_in t) = grind (arith, nat_tests) in
      absurd (omega arith)
]

-- a row behind the others, if this is its table
row_added : (p : List ℕ → Bool) (here : Bool) (xs : List (List ℕ)) (row : List ℕ) → IsTrue (list_all p xs) → (here ≡ true → p row ≡ true) → IsTrue (list_all p (if here then xs ++ row ∷ [] else xs))
row_added p true xs row all one = list_all-append p xs (row ∷ []) ∙ and_from _ _ all (and_from _ _ (one refl) refl)
row_added p false xs row all one = all

-- and it is one more
count_added : (here : Bool) (xs : List (List ℕ)) (row : List ℕ) (n : ℕ) → length xs < n → (here ≡ true → length xs < n - 1) → length (if here then xs ++ row ∷ [] else xs) < n
count_added true xs row n few room = let r : length xs < n - 1 = room refl in omega (arith, length-append xs (row ∷ []))
count_added false xs row n few room = few

-- what holds of a number holds of the same number
along : (k t : ℕ) (P : ℕ → Type 0) → P t → (k == t) ≡ true → P k
along k t P h same = let e : k ≡ t = grind (arith, nat_tests) in rw e h

-- numbers of four bytes, one by one
is_word_of : (n : ℕ) → n < 2 ^ 32 → is_word n ≡ true
unfolding is_word
is_word_of n h = grind (arith, nat_tests)

all_words : (xs : List ℕ) → ((i : ℕ) → get_or xs i 0 < 2 ^ 32) → list_all is_word xs ≡ true
all_words [] small = refl
all_words (x ∷ xs) small = and_from _ _ (is_word_of x (small 0)) (all_words xs (λ i. small (suc i)))

-- one row more keeps the facts of the rows
pub more_rows : (a b : List (List (List ℕ))) (t : ℕ) (row : List ℕ) → AreRows a → length b ≤ 64 → length row ≡ length (columns_in t) → ((i : ℕ) → get_or row i 0 < 2 ^ 32) → count_at a t < 2 ^ 24 - 1 → ((k : ℕ) → rows_at b k ≡ (if k == t then rows_at a k ++ row ∷ [] else rows_at a k)) → AreRows b
more_rows a b t row rows len cells small room same = record {
  tables = len;
  few = λ k. rw (same k) (count_added (k == t) (rows_at a k) row (2 ^ 24) (rows.few k) (along k t (λ i. count_at a i < 2 ^ 24 - 1) room));
  cells = λ k. rw (same k) (row_added (has_cells (columns_in k)) (k == t) (rows_at a k) row (rows.cells k) (along k t (λ i. has_cells (columns_in i) row ≡ true) (eq-eqb _ _ cells)));
  words = λ k. rw (same k) (row_added (list_all is_word) (k == t) (rows_at a k) row (rows.words k) (λ here. all_words row small));
}

-- two choices by one test
pick : (b : Bool) (x z y w : List (List ℕ)) → (b ≡ true → x ≡ z) → y ≡ w → (if b then x else y) ≡ (if b then z else w)
pick true x z y w e f = e refl
pick false x z y w e f = f

-- what the tables hold once a row was added to one of them, which may be new
pub changed_at : (old grown : List (List (List ℕ))) (t : ℕ) (here after : List (List ℕ)) (row : List ℕ) → t < length grown → ((k : ℕ) → rows_at grown k ≡ rows_at old k) → here ≡ get_or grown t here → after ≡ here ++ row ∷ [] → (k : ℕ) → rows_at (set grown t after) k ≡ (if k == t then rows_at old k ++ row ∷ [] else rows_at old k)
changed_at old grown t here after row there same is made k =
    let found : here ≡ rows_at old t = get_or_read grown t here there is [] ∙ sym (unwrap_or-slice_get grown t []) ∙ same t in
    let new : after ≡ rows_at old t ++ row ∷ [] = made ∙ ap (λ rows. rows ++ row ∷ []) found in
    list_at_set grown t k after there ∙ pick (k == t) after (rows_at old k ++ row ∷ []) (rows_at grown k) (rows_at old k) (along k t (λ i. after ≡ rows_at old i ++ row ∷ []) new) (same k)
