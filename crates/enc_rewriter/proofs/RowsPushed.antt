-- Rows that are written one behind the other.
use Rattle.std.proofs.Common.{◌≡◌, ℕ, zero, suc, ◌+◌, ◌-◌, ◌<◌, ◌≤◌, Bool, true, false, List, [], ◌∷◌, ◌++◌, length, Some, refl, sym, ap, ◌∙◌, arith, subst, inl, inr}
use Rattle.std.specs.Prelude.{◌^◌, ◌==◌, nat_lt, slice_get, if◌then◌else◌}
use Rattle.std.specs.List.{list_all}
use Rattle.std.proofs.lemmas.Bool.{cases_eq}
use Rattle.std.proofs.lemmas.Bool.Decides.{nat_tests}
use Rattle.std.proofs.lemmas.List.{length-append}
use Rattle.enc_base.specs.Token.{nth_row}
use Rattle.enc_base.specs.declared.token.Token.{Token}
use Rattle.enc_meta.specs.Heaps.{Counted}
use Rattle.enc_plain.specs.Module.{Module, has_row}
use Rattle.enc_plain.specs.Sound.{IsSound}
use Rattle.std.specs.List.{range_with_len}
use Rattle.enc_plain.proofs.Columns.{both_left, both_right}
use Rattle.enc_plain.proofs.KindsOf.{row_table, row_bounds}
use Rattle.enc_rows.specs.Written.{rows_at, count_at}
use Rattle.enc_schema.specs.declared.column.Column.{Column}
use Rattle.enc_schema.specs.Schema.{list_at, schema, columns_in, column_in}
use Rattle.enc_rewriter.specs.Numbers.{NumberSays, FrontSays, RowSays, RowsSay, TableSays, TablesSay, KeepOthers}
use Rattle.enc_rewriter.specs.Placed.{Placed}

pub none_says : (m : Module) (h : Counted) (p : Placed) (u : Token) → FrontSays m h p u 0 []
none_says m h p u = record { count = refl; each = λ i column x e f. absurd cc }

-- behind a list stands what was appended
last_get : {A : Type 0} (xs : List A) (y x : A) (i : ℕ) → slice_get (xs ++ y ∷ []) i ≡ Some x → ¬ (i ≡ length xs) → slice_get xs i ≡ Some x
last_get [] y x zero e other = absurd (other refl)
last_get [] y x (suc i) e other = absurd cc
last_get (z ∷ xs) y x zero e other = e
last_get (z ∷ xs) y x (suc i) e other = last_get xs y x i e (λ is. other (ap suc is))

last_here : {A : Type 0} (xs : List A) (y x : A) → slice_get (xs ++ y ∷ []) (length xs) ≡ Some x → y ≡ x
last_here [] y x e = cc
last_here (z ∷ xs) y x e = last_here xs y x e

same_column : (t i : ℕ) (c d : Column) → column_in t i ≡ Some c → column_in t i ≡ Some d → c ≡ d
same_column t i c d e f = let g = sym e ∙ f in cc

pub more_says : (m : Module) (h : Counted) (p : Placed) (u : Token) (i : ℕ) (cells new : List ℕ) (column : Column) (y : ℕ) → FrontSays m h p u i cells → column_in u.table i ≡ Some column
    → NumberSays m h p u i column y → new ≡ cells ++ y ∷ [] → FrontSays m h p u (i + 1) new
more_says m h p u i cells new column y so_far here says is =
    subst (λ xs. FrontSays m h p u (i + 1) xs) (sym is) (record {
      count = length-append cells (y ∷ []) ∙ ap (λ n. n + 1) so_far.count;
      each = λ j d x at get. elim (cases_eq j (length cells)) [
        | inl last ↦
            let k : j ≡ i = last ∙ so_far.count in
            let v : y ≡ x = last_here cells y x (subst (λ n. slice_get (cells ++ y ∷ []) n ≡ Some x) last get) in
            let c : column ≡ d = same_column u.table i column d here (subst (λ n. column_in u.table n ≡ Some d) k at) in
            subst (λ n. NumberSays m h p u n d x) (sym k) (subst (λ a. NumberSays m h p u i d a) v (subst (λ b. NumberSays m h p u i b y) c says))
        | inr before ↦ so_far.each j d x at (last_get cells y x j get before)
      ];
    })

-- every table of a module has columns
have_columns : list_all (λ (t : ℕ). nat_lt 0 (length (list_at schema t))) (range_with_len 0 45) ≡ true
have_columns = refl

in_range : (p : ℕ → Bool) (a n t : ℕ) → list_all p (range_with_len a n) ≡ true → a ≤ t → t < a + n → p t ≡ true
in_range p a zero t all low high = absurd (omega (arith, low, high))
in_range p a (suc n) t all low high =
    elim (cases_eq t a) [
      | inl e ↦ rw e (both_left (p a) _ all)
      | inr other ↦ in_range p (a + 1) n t (both_right (p a) _ all) (omega (arith, low, other)) (omega (arith, high))
    ]

pub some_columns : (m : Module) (u : Token) → IsSound m → has_row m u ≡ true → nat_lt 0 (length (columns_in u.table)) ≡ true
unfolding columns_in
some_columns m u sound there =
    let t = row_table m u sound.owners.tables sound.counts there in
    in_range (λ (k : ℕ). nat_lt 0 (length (list_at schema k))) 0 45 u.table have_columns (omega arith) (omega (arith, t.1))

pub no_row : (m : Module) (h : Counted) (p : Placed) (t : ℕ) (rows : List (List ℕ)) → rows ≡ [] → RowsSay m h p t 0 rows
no_row m h p t rows none = rw none (record { count = refl; each = λ n cells e. absurd cc })

rows_more : (m : Module) (h : Counted) (p : Placed) (t n : ℕ) (rows : List (List ℕ)) (cells : List ℕ) → RowsSay m h p t n rows → RowSays m h p (nth_row t n) cells
    → RowsSay m h p t (n + 1) (rows ++ cells ∷ [])
rows_more m h p t n rows cells so_far says = record {
  count = length-append rows (cells ∷ []) ∙ ap (λ k. k + 1) so_far.count;
  each = λ k x get. elim (cases_eq k (length rows)) [
    | inl last ↦
        let e : k ≡ n = last ∙ so_far.count in
        let v : cells ≡ x = last_here rows cells x (subst (λ j. slice_get (rows ++ cells ∷ []) j ≡ Some x) last get) in
        subst (λ j. RowSays m h p (nth_row t j) x) (sym e) (subst (λ xs. RowSays m h p (nth_row t n) xs) v says)
    | inr before ↦ so_far.each k x (last_get rows cells x k get before)
  ];
}

-- what a push of one row makes of the tables
abbrev pub Pushes : ℕ → List ℕ → List (List (List ℕ)) → List (List (List ℕ)) → Type 0
Pushes table cells old new = (k : ℕ) → rows_at new k ≡ (if k == table then rows_at old k ++ cells ∷ [] else rows_at old k)

same_is : (k : ℕ) → (k == k) ≡ true
same_is k = grind (arith, nat_tests)

other_is : (k t : ℕ) → ¬ (k ≡ t) → (k == t) ≡ false
other_is k t other = grind (arith, nat_tests, other)

pub here_pushed : (table : ℕ) (cells : List ℕ) (old new : List (List (List ℕ))) → Pushes table cells old new → rows_at new table ≡ rows_at old table ++ cells ∷ []
here_pushed table cells old new pushed = pushed table ∙ rw (same_is table) refl

pub one_row : (m : Module) (h : Counted) (p : Placed) (u : Token) (old new : List (List (List ℕ))) (cells : List ℕ) → 0 < u.row
    → RowsSay m h p u.table (u.row - 1) (rows_at old u.table) → RowSays m h p u cells → Pushes u.table cells old new → RowsSay m h p u.table u.row (rows_at new u.table)
one_row m h p u old new cells low so_far says pushed =
    let e : u.row - 1 + 1 ≡ u.row = omega (arith, low) in
    let at : rows_at new u.table ≡ rows_at old u.table ++ cells ∷ [] = pushed u.table ∙ rw (same_is u.table) refl in
    let row : nth_row u.table (u.row - 1) ≡ u = ap (λ n. record { table = u.table; row = n }) e in
    let next = rows_more m h p u.table (u.row - 1) (rows_at old u.table) cells so_far (subst (λ v. RowSays m h p v cells) (sym row) says) in
    subst (λ xs. RowsSay m h p u.table u.row xs) (sym at) (subst (λ n. RowsSay m h p u.table n (rows_at old u.table ++ cells ∷ [])) e next)

pub keep_others : (table : ℕ) (cells : List ℕ) (old new : List (List (List ℕ))) → Pushes table cells old new → KeepOthers table old new
keep_others table cells old new pushed k other = pushed k ∙ rw (other_is k table other) refl

pub no_others : (table : ℕ) (rows : List (List (List ℕ))) → KeepOthers table rows rows
no_others table rows k other = refl

pub others_more : (table : ℕ) (first old new : List (List (List ℕ))) → KeepOthers table first old → KeepOthers table old new → KeepOthers table first new
others_more table first old new before after k other = after k other ∙ before k other

-- a table without rows of a module
pub no_table : (m : Module) (h : Counted) (p : Placed) (rows : List (List (List ℕ))) → rows ≡ [] → TablesSay m h p 0 rows
no_table m h p rows none = rw none (record { below = λ t low. absurd (omega (arith, low)); behind = λ t high. refl })

pub one_table : (m : Module) (h : Counted) (p : Placed) (table : ℕ) (old new : List (List (List ℕ))) → TablesSay m h p table old → TableSays m h p table (rows_at new table)
    → KeepOthers table old new → TablesSay m h p (table + 1) new
one_table m h p table old new so_far says others = record {
  below = λ t low. elim (cases_eq t table) [
    | inl e ↦ subst (λ k. TableSays m h p k (rows_at new k)) (sym e) says
    | inr other ↦ subst (λ xs. TableSays m h p t xs) (sym (others t other)) (so_far.below t (omega (arith, low, other)))
  ];
  behind = λ t high. others t (λ e. absurd (omega (arith, high, e))) ∙ so_far.behind t (omega (arith, high));
}

pub few_before : (m : Module) (h : Counted) (p : Placed) (u : Token) (rows : List (List (List ℕ))) → IsSound m → has_row m u ≡ true
    → RowsSay m h p u.table (u.row - 1) (rows_at rows u.table) → count_at rows u.table < 2 ^ 24 - 1
few_before m h p u rows sound there so_far =
    let row = row_bounds m u there in
    let few = sound.counts.few u.table in
    omega (arith, row.0, row.1, few, so_far.count)

pub ruleset rows_pushed_steps = (keep_others, others_more, no_others)

pub ruleset push_row_steps = (some_columns, one_row, few_before, keep_others)
