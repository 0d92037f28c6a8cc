-- The user texts of a module are those of its methods' bodies, and the bodies are sound.
use Rattle.std.proofs.Common.{◌≡◌, ℕ, zero, suc, ◌+◌, ◌-◌, ◌<◌, ◌≤◌, ◌^◌, Bool, true, false, List, [], ◌∷◌, length, Option, Some, None, refl, sym, ap, ◌∙◌, arith, inl, inr}
use Rattle.std.specs.Prelude.{slice_get, flat_map, nat_lt}
use Rattle.std.specs.List.{range_with_len}
use Rattle.std.proofs.lemmas.Bool.{and_parts, cases_eq}
use Rattle.std.proofs.lemmas.List.{append-nil}
use Rattle.std.proofs.lemmas.Option.{slice_get_within}
use Rattle.enc_base.specs.Token.{nth_row}
use Rattle.enc_base.specs.declared.token.Token.{Token}
use Rattle.enc_meta.specs.Built.{Built, with_value}
use Rattle.enc_opcodes.specs.Body.{Body}
use Rattle.enc_opcodes.specs.Sound.{body_is_sound}
use Rattle.enc_plain.specs.Cell.{Cell, number, text, blob, guid, refer, body, field, kind_in}
use Rattle.enc_plain.specs.Module.{Module, Row, rows_in, has_row, cell_of}
use Rattle.enc_plain.specs.Sound.{row_count, method_is_sound, IsSound}
use Rattle.enc_plain.proofs.KindsOf.{row_there}
use Rattle.enc_rewriter.proofs.Gathered.{starts_after}
use Rattle.enc_rewriter.proofs.Gathers.{body_kind, nothing_there}
use Rattle.enc_rewriter.specs.Values.{with_one, with_all, values_if, users_of_body, gathers, values_at, values_of_row, values_of_table, all_values, no_heaps, heaps_for, heap_size, passes_limit}
use Rattle.enc_rewriter.specs.declared.pass.Pass.TheVariants as pass
use Rattle.enc_rows.specs.Sums.{below}
use Rattle.enc_schema.specs.Schema.{columns_in, column_in}
use Rattle.enc_schema.specs.declared.column.Column.{Column}
use Rattle.enc_memory_module.specs.Plain.{body_in_cell}
use Rattle.enc_memory_module.specs.Encoded.{body_of_row, users_of_row, users_of_rows, IsSoundIf}
use Rattle.enc_memory_module.proofs.HeldBodies.{method_cell, said_of_row}

-- pieces of which none or one has anything
none_have : (f : ℕ → List (List ℕ)) (a n : ℕ) → ((i : ℕ) → a ≤ i → i < a + n → f i ≡ []) → flat_map f (range_with_len a n) ≡ []
none_have f a zero none = refl
none_have f a (suc n) none = rw (none a (omega arith) (omega arith), none_have f (a + 1) n (λ i low high. none i (omega arith) (omega (arith, high)))) refl

one_has : (f : ℕ → List (List ℕ)) (a n k : ℕ) → a ≤ k → k < a + n → ((i : ℕ) → a ≤ i → i < a + n → (i ≡ k → ⊥) → f i ≡ []) → flat_map f (range_with_len a n) ≡ f k
one_has f a zero k low high others = absurd (omega arith)
one_has f a (suc n) k low high others = elim (cases_eq k a) [
  | inl is ↦
      let rest = none_have f (a + 1) n (λ i l h. others i (omega arith) (omega (arith, h)) (λ e. omega (arith, e, is, l))) in
      rw (rest, is) (append-nil (f a))
  | inr other ↦
      let first = others a (omega arith) (omega arith) (λ e. other (sym e)) in
      rw first (one_has f (a + 1) n k (omega (arith, low, other)) (omega (arith, high)) (λ i l h not_it. others i (omega arith) (omega (arith, h)) not_it))
]

-- a column but the first of MethodDef has no user text
some_column : (t i : ℕ) → i < length (columns_in t) → (c : Column) × (column_in t i ≡ Some c)
some_column t i low = by (columns_in t) i low
  where
    by : (cs : List Column) (i : ℕ) → i < length cs → (c : Column) × (slice_get cs i ≡ Some c)
    by [] i low = absurd (omega arith)
    by (c ∷ cs) zero low = (c, refl)
    by (c ∷ cs) (suc i) low = by cs i (omega arith)

not_gathered : (t i : ℕ) (b : Bool) → gathers pass.Users (kind_in t i) ≡ b → ((t ≡ 6) × (i ≡ 0) → ⊥) → b ≡ false
not_gathered t i true is other = absurd (other (let p = body_kind t i is in (p.0, p.1)))
not_gathered t i false is other = refl

none_at : (m : Module) (u : Token) (i : ℕ) → IsSound m → has_row m u ≡ true → i < length (columns_in u.table) → ((u.table ≡ 6) × (i ≡ 0) → ⊥) → values_at pass.Users m u i ≡ []
none_at m u i sound there low other =
    let c = some_column u.table i low in
    nothing_there pass.Users m u i c.0 sound there c.1 (not_gathered u.table i (gathers pass.Users (kind_in u.table i)) refl other ∙ refl)

none_of_row : (m : Module) (u : Token) → IsSound m → has_row m u ≡ true → (u.table ≡ 6 → ⊥) → values_of_row pass.Users m u ≡ []
unfolding values_of_row below
none_of_row m u sound there other = none_have (values_at pass.Users m u) 0 (length (columns_in u.table)) (λ i low high. none_at m u i sound there (omega (arith, high)) (λ p. other p.0))

six_columns : 0 < length (columns_in 6)
unfolding columns_in
six_columns = omega arith

users_said : (o : Option Cell) → o ≡ Some (body (body_in_cell o)) → values_if pass.Users o ≡ users_of_body (body_in_cell o)
users_said None h = absurd cc
users_said (Some (number n)) h = absurd cc
users_said (Some (text b)) h = absurd cc
users_said (Some (blob b)) h = absurd cc
users_said (Some (guid b)) h = absurd cc
users_said (Some (refer t)) h = absurd cc
users_said (Some (body b)) h = refl
users_said (Some (field b)) h = absurd cc

-- that one has those of its body
of_method : (m : Module) (u : Token) → IsSound m → has_row m u ≡ true → u.table ≡ 6 → values_of_row pass.Users m u ≡ users_of_body (body_in_cell (cell_of m u 0))
unfolding values_of_row values_at below
of_method m u sound there is =
    one_has (values_at pass.Users m u) 0 (length (columns_in u.table)) 0 (omega arith) (let some = six_columns in rw is (omega (arith, some)))
    (λ i low high other. none_at m u i sound there (omega (arith, high)) (λ p. other p.1))
    ∙ users_said (cell_of m u 0) (method_cell m u sound there is)

-- the n-th row of a table is there
there_at : (m : Module) (t n : ℕ) → n < row_count m t → has_row m (nth_row t n) ≡ true
there_at m t n low = row_there m (nth_row t n) (omega arith) (omega (arith, low))

none_of_table : (m : Module) (t : ℕ) → IsSound m → (t ≡ 6 → ⊥) → values_of_table pass.Users m t ≡ []
unfolding values_of_table below
none_of_table m t sound other = none_have (λ n. values_of_row pass.Users m (nth_row t n)) 0 (row_count m t) (λ n low high. none_of_row m (nth_row t n) sound (there_at m t n (omega (arith, high))) other)

-- pieces by place are those of the items
by_items : (g : ℕ → List (List ℕ)) (rows : List Row) (a : ℕ) → ((n : ℕ) (r : Row) → slice_get rows n ≡ Some r → g (a + n) ≡ users_of_row r) → flat_map g (range_with_len a (length rows)) ≡ users_of_rows rows
by_items g [] a each = refl
by_items g (r ∷ rows) a each =
    let first : g a ≡ users_of_row r = let e : a + 0 ≡ a = omega arith in rw e at (each 0 r refl) in
    let rest = by_items g rows (a + 1) (λ n x there. let e : a + 1 + n ≡ a + suc n = omega arith in rw e (each (suc n) x there)) in
    rw (first, rest) refl

row_said : (m : Module) (n : ℕ) (r : Row) → slice_get (rows_in m 6) n ≡ Some r → body_in_cell (cell_of m (nth_row 6 n) 0) ≡ body_of_row r
row_said m n r there =
    let e : n + 1 - 1 ≡ n = omega arith in
    said_of_row m (nth_row 6 n) r refl (omega arith) (rw e there)

of_methods : (m : Module) → IsSound m → values_of_table pass.Users m 6 ≡ users_of_rows (rows_in m 6)
unfolding values_of_table below
of_methods m sound = by_items (λ n. values_of_row pass.Users m (nth_row 6 n)) (rows_in m 6) 0 (λ n r there.
    let low = slice_get_within (rows_in m 6) n r there in
    let e : 0 + n ≡ n = omega arith in
    rw e (of_method m (nth_row 6 n) sound (there_at m 6 n low) refl ∙ ap users_of_body (row_said m n r there)))

pub method_texts : (m : Module) → IsSound m → all_values pass.Users m ≡ users_of_rows (rows_in m 6)
unfolding all_values below
method_texts m sound =
    one_has (values_of_table pass.Users m) 0 64 6 (omega arith) (omega arith) (λ t low high other. none_of_table m t sound other)
    ∙ of_methods m sound

-- other heaps leave `#US` as it is
texts_leave : (h : Built) (vs : List (List ℕ)) → (with_all pass.Texts h vs).users ≡ h.users
unfolding with_all
texts_leave h [] = refl
texts_leave h (v ∷ vs) = texts_leave (with_one pass.Texts h v) vs

blobs_leave : (h : Built) (vs : List (List ℕ)) → (with_all pass.Blobs h vs).users ≡ h.users
unfolding with_all
blobs_leave h [] = refl
blobs_leave h (v ∷ vs) = blobs_leave (with_one pass.Blobs h v) vs

guids_leave : (h : Built) (vs : List (List ℕ)) → (with_all pass.Guids h vs).users ≡ h.users
unfolding with_all
guids_leave h [] = refl
guids_leave h (v ∷ vs) = guids_leave (with_one pass.Guids h v) vs

users_same : (g h : Built) (vs : List (List ℕ)) → g.users ≡ h.users → (with_all pass.Users g vs).users ≡ (with_all pass.Users h vs).users
unfolding with_all
users_same g h [] same = same
users_same g h (v ∷ vs) same = users_same (with_one pass.Users g v) (with_one pass.Users h v) vs (ap (λ us. with_value us v) same)

users_of : (m : Module) → (heaps_for m).users ≡ (with_all pass.Users no_heaps (all_values pass.Users m)).users
unfolding heaps_for
users_of m = guids_leave _ _ ∙ blobs_leave _ _ ∙ users_same (with_all pass.Texts no_heaps (all_values pass.Texts m)) no_heaps (all_values pass.Users m) (texts_leave no_heaps (all_values pass.Texts m))

starts_of : (m : Module) → (heaps_for m).starts ≡ (with_all pass.Users no_heaps (all_values pass.Users m)).starts
unfolding heaps_for
starts_of m =
    starts_after pass.Guids _ _ ∙ starts_after pass.Blobs _ _ ∙ starts_after pass.Users _ _ ∙ starts_after pass.Texts no_heaps (all_values pass.Texts m)
    ∙ sym (starts_after pass.Users no_heaps (all_values pass.Users m))

-- the user texts have room where the module's `#US` has
pub texts_have_room : (m : Module) → IsSound m → passes_limit pass.Users m ≡ false → nat_lt (2 ^ 24) (heap_size pass.Users (with_all pass.Users no_heaps (users_of_rows (rows_in m 6)))) ≡ false
unfolding passes_limit
texts_have_room m sound room =
    let same : heap_size pass.Users (heaps_for m) ≡ heap_size pass.Users (with_all pass.Users no_heaps (all_values pass.Users m)) = rw (users_of m, starts_of m) refl in
    ap (nat_lt (2 ^ 24)) (ap (λ vs. heap_size pass.Users (with_all pass.Users no_heaps vs)) (sym (method_texts m sound)) ∙ sym same) ∙ room

-- a method's body is sound
body_sound : (m : Module) (u : Token) (b : Body) → method_is_sound m u b ≡ true → body_is_sound (row_count m) b ≡ true
unfolding method_is_sound
body_sound m u b h = (and_parts _ (body_is_sound (row_count m) b) (and_parts _ _ h).0).1

sound_if : (m : Module) (u : Token) (o : Option Body) → IsSound m → ((b : Body) → o ≡ Some b → method_is_sound m u b ≡ true) → IsSoundIf o
sound_if m u None sound each = tt
sound_if m u (Some b) sound each = record { count = row_count m; few = sound.counts.few; sound = body_sound m u b (each b refl) }

pub bodies_sound : (m : Module) → IsSound m → (n : ℕ) (r : Row) → slice_get (rows_in m 6) n ≡ Some r → IsSoundIf (body_of_row r)
bodies_sound m sound n r there =
    let low = slice_get_within (rows_in m 6) n r there in
    let here = there_at m 6 n low in
    let c = some_column 6 0 six_columns in
    sound_if m (nth_row 6 n) (body_of_row r) sound (λ b is.
    sound.cells.each (nth_row 6 n) 0 c.0 (body (Some b)) here c.1 (method_cell m (nth_row 6 n) sound here refl ∙ ap (λ o. Some (body o)) (row_said m n r there ∙ is)))
