-- What a row of an edited module is.
use Rattle.std.proofs.Common.{◌≡◌, ℕ, zero, suc, ◌+◌, ◌-◌, ◌<◌, ◌≤◌, Bool, true, false, List, [], ◌∷◌, length, map, Option, Some, None, refl, sym, ap, ◌∙◌, inl, inr, arith, subst}
use Rattle.std.specs.Prelude.{◌≢◌, slice_get, ◌||◌, if◌then◌else◌, option_map}
use Rattle.std.proofs.lemmas.Bool.Decides.{nat_tests}
use Rattle.std.proofs.lemmas.Bool.{cases_eq}
use Rattle.std.proofs.lemmas.List.{length-map}
use Rattle.enc_base.specs.declared.token.Token.{Token}
use Rattle.enc_base.specs.Order.{or_else}
use Rattle.enc_base.specs.Token.{is_token}
use Rattle.enc_schema.specs.Schema.{list_at}
use Rattle.enc_schema.specs.Children.{runs_in, run_index}
use Rattle.enc_plain.specs.Cell.{Cell}
use Rattle.enc_plain.specs.Module.{Module, Row, rows_in, row_at, row_of, cells_of, kids_with, kids_of}
use Rattle.enc_plain.specs.Apply.{Change, childless, put_row, put_at, change_at, put, apply}
use Rattle.enc_plain.specs.Fits.{cells_for, changes, FitsOne, Fits, HasRuns}

-- the cells that were put
pub put_same : (table : ℕ) (rows : List Row) (n : ℕ) (cells : List Cell) → n ≤ length rows → option_map (λ (r : Row). r.cells) (slice_get (put_row table rows n cells) n) ≡ Some cells
put_same table [] zero cells h = refl
put_same table [] (suc n) cells h = absurd (omega arith)
put_same table (r ∷ rows) zero cells h = refl
put_same table (r ∷ rows) (suc n) cells h = put_same table rows n cells (omega arith)

-- and every other row
pub put_other : (table : ℕ) (rows : List Row) (n k : ℕ) (cells : List Cell) → n ≤ length rows → k ≢ n → slice_get (put_row table rows n cells) k ≡ slice_get rows k
put_other table [] zero zero cells h e = absurd (e refl)
put_other table [] zero (suc k) cells h e = refl
put_other table [] (suc n) k cells h e = absurd (omega arith)
put_other table (r ∷ rows) zero zero cells h e = absurd (e refl)
put_other table (r ∷ rows) zero (suc k) cells h e = refl
put_other table (r ∷ rows) (suc n) zero cells h e = refl
put_other table (r ∷ rows) (suc n) (suc k) cells h e = put_other table rows n k cells (omega arith) (λ d. e (ap suc d))

-- the table that was changed
pub table_same : {A : Type 0} (tables : List (List A)) (t : ℕ) (f : List A → List A) → t < length tables → list_at (change_at tables t f) t ≡ f (list_at tables t)
table_same [] t f h = absurd (omega arith)
table_same (rows ∷ tables) zero f h = refl
table_same (rows ∷ tables) (suc t) f h = table_same tables t f (omega arith)

-- and every other
pub table_other : {A : Type 0} (tables : List (List A)) (t u : ℕ) (f : List A → List A) → u ≢ t → list_at (change_at tables t f) u ≡ list_at tables u
table_other [] t u f e = refl
table_other (rows ∷ tables) zero zero f e = absurd (e refl)
table_other (rows ∷ tables) zero (suc u) f e = refl
table_other (rows ∷ tables) (suc t) zero f e = refl
table_other (rows ∷ tables) (suc t) (suc u) f e = table_other tables t u f (λ d. e (ap suc d))

-- the n-th row from 1 is that at the place before
pub at_row : (rows : List Row) (row : ℕ) → 0 < row → row_at rows row ≡ slice_get rows (row - 1)
at_row rows zero h = absurd (omega arith)
at_row rows (suc n) h = let e : suc n - 1 ≡ n = omega arith in rw e refl

-- a row from 1 on is put at the place before
pub put_at_is : (table : ℕ) (rows : List Row) (row : ℕ) (cells : List Cell) → 0 < row → put_at table rows row cells ≡ put_row table rows (row - 1) cells
unfolding put_at
put_at_is table rows zero cells low = absurd (omega arith)
put_at_is table rows (suc n) cells low = let e : suc n - 1 ≡ n = omega arith in rw e refl

put_rows : (m : Module) (c : Change) (cs : List Change) → FitsOne m c cs → rows_in (put m c) c.token.table ≡ put_row c.token.table (rows_in m c.token.table) (c.token.row - 1) c.cells
unfolding put
put_rows m c cs fits = table_same m.tables c.token.table (λ rows. put_at c.token.table rows c.token.row c.cells) fits.table ∙ put_at_is c.token.table (rows_in m c.token.table) c.token.row c.cells fits.low

put_rows_other : (m : Module) (c : Change) (t : ℕ) → t ≢ c.token.table → rows_in (put m c) t ≡ rows_in m t
unfolding put
put_rows_other m c t d = table_other m.tables c.token.table t (λ rows. put_at c.token.table rows c.token.row c.cells) d

cells_put : (table : ℕ) (rows : List Row) (row : ℕ) (cells : List Cell) → 0 < row → row ≤ length rows + 1 → option_map (λ (r : Row). r.cells) (row_at (put_row table rows (row - 1) cells) row) ≡ Some cells
cells_put table rows row cells low high = rw (at_row (put_row table rows (row - 1) cells) row low) (put_same table rows (row - 1) cells (omega arith))

-- the cells of the changed token
pub put_is : (m : Module) (c : Change) (cs : List Change) → FitsOne m c cs → cells_of (put m c) c.token ≡ Some c.cells
unfolding row_of
put_is m c cs fits = rw (put_rows m c cs fits) (cells_put c.token.table (rows_in m c.token.table) c.token.row c.cells fits.low fits.high)

other_row : (table : ℕ) (rows : List Row) (n row : ℕ) (cells : List Cell) → n ≤ length rows + 1 → 0 < n → row ≢ n → row_at (put_row table rows (n - 1) cells) row ≡ row_at rows row
other_row table rows n zero cells h low e = refl
other_row table rows n (suc r) cells h low e = put_other table rows (n - 1) r cells (omega arith) (λ d. e (omega arith))

-- tokens of one table that aren't the same have other rows
pub not_same : (t u : Token) → is_token t u ≡ false → u.table ≡ t.table → u.row ≢ t.row
not_same t u h e = λ f. absurd (grind (arith, nat_tests))

row_keeps : (m : Module) (c : Change) (cs : List Change) (u : Token) → FitsOne m c cs → is_token c.token u ≡ false → row_of (put m c) u ≡ row_of m u
unfolding row_of
row_keeps m c cs u fits other =
    elim (cases_eq u.table c.token.table) [
      | inl e ↦ rw (e, put_rows m c cs fits) (other_row c.token.table (rows_in m c.token.table) c.token.row u.row c.cells fits.high fits.low (not_same c.token u other e))
      | inr d ↦ rw (put_rows_other m c u.table d) refl
    ]

-- the cells of every other token
pub put_keeps : (m : Module) (c : Change) (cs : List Change) (u : Token) → FitsOne m c cs → is_token c.token u ≡ false → cells_of (put m c) u ≡ cells_of m u
put_keeps m c cs u fits other = rw (row_keeps m c cs u fits other) refl

-- the same token is equal
pub same_is : (t u : Token) → is_token t u ≡ true → t ≡ u
same_is t u h =
    let a : t.table ≡ u.table = grind (arith, nat_tests) in
    let b : t.row ≡ u.row = grind (arith, nat_tests) in
    rw (a, b) refl

none_for_from : (same others : Bool) (o : Option (List Cell)) (cells : List Cell) → (same || others) ≡ false → (others ≡ false → o ≡ None) → (if same then Some cells else o) ≡ None
none_for_from true others o cells h f = absurd cc
none_for_from false others o cells h f = f h

none_for : (cs : List Change) (u : Token) → changes cs u ≡ false → cells_for cs u ≡ None
unfolding cells_for
none_for [] u h = refl
none_for (c ∷ cs) u h = none_for_from (is_token c.token u) (changes cs u) (cells_for cs u) c.cells h (none_for cs u)

applied_one : (m : Module) (c : Change) (cs : List Change) (u : Token) → FitsOne m c cs → (same : Bool) → is_token c.token u ≡ same → or_else (cells_for cs u) (cells_of (put m c) u) ≡ or_else (if same then Some c.cells else cells_for cs u) (cells_of m u)
applied_one m c cs u fits true e =
    let is : c.token ≡ u = same_is c.token u e in
    let fresh : cells_for cs u ≡ None = none_for cs u (rw is at fits.fresh) in
    let here : cells_of (put m c) u ≡ Some c.cells = rw (← is) (put_is m c cs fits) in
    rw (fresh, here) refl
applied_one m c cs u fits false e = rw (row_keeps m c cs u fits e) refl

-- the cells of an edited module's row are those that the changes give, and else the module's
pub applied : (cs : List Change) (m : Module) (u : Token) → Fits m cs → cells_of (apply m cs) u ≡ or_else (cells_for cs u) (cells_of m u)
unfolding apply cells_for Fits
applied [] m u h = refl
applied (c ∷ cs) m u h = applied cs (put m c) u h.1 ∙ applied_one m c cs u h.0 (is_token c.token u) refl

none_at : (runs : List ℕ) (i : ℕ) → list_at {A = ℕ} (map (λ (child : ℕ). []) runs) i ≡ []
none_at [] i = refl
none_at (x ∷ runs) zero = refl
none_at (x ∷ runs) (suc i) = none_at runs i

kids_put : (table : ℕ) (rows : List Row) (n k : ℕ) (cells : List Cell) (child : ℕ) → kids_with (slice_get (put_row table rows n cells) k) child ≡ kids_with (slice_get rows k) child
kids_put table [] zero zero cells child = none_at (runs_in table) (run_index child)
kids_put table [] zero (suc k) cells child = refl
kids_put table [] (suc n) k cells child = refl
kids_put table (r ∷ rows) zero zero cells child = refl
kids_put table (r ∷ rows) zero (suc k) cells child = refl
kids_put table (r ∷ rows) (suc n) zero cells child = refl
kids_put table (r ∷ rows) (suc n) (suc k) cells child = kids_put table rows n k cells child

kids_put_at : (table : ℕ) (rows : List Row) (n row : ℕ) (cells : List Cell) (child : ℕ) → kids_with (row_at (put_row table rows n cells) row) child ≡ kids_with (row_at rows row) child
kids_put_at table rows n zero cells child = refl
kids_put_at table rows n (suc r) cells child = kids_put table rows n r cells child

kids_kept : (m : Module) (c : Change) (cs : List Change) (u : Token) (child : ℕ) → FitsOne m c cs → kids_with (row_of (put m c) u) child ≡ kids_with (row_of m u) child
unfolding row_of
kids_kept m c cs u child fits =
    elim (cases_eq u.table c.token.table) [
      | inl e ↦ rw (e, put_rows m c cs fits) (kids_put_at c.token.table (rows_in m c.token.table) (c.token.row - 1) u.row c.cells child)
      | inr d ↦ rw (put_rows_other m c u.table d) refl
    ]

kids_put_of : (m : Module) (c : Change) (cs : List Change) (u : Token) (child : ℕ) → FitsOne m c cs → kids_of (put m c) u child ≡ kids_of m u child
unfolding kids_of
kids_put_of m c cs u child fits = rw (kids_kept m c cs u child fits) refl

-- changes keep children: a new row has none, and an absent row neither
pub kids_applied : (cs : List Change) (m : Module) (u : Token) (child : ℕ) → Fits m cs → kids_of (apply m cs) u child ≡ kids_of m u child
unfolding apply Fits
kids_applied [] m u child h = refl
kids_applied (c ∷ cs) m u child h = kids_applied cs (put m c) u child h.1 ∙ kids_put_of m c cs u child h.0

row_is : (a b : Row) → Some a ≡ Some b → a ≡ b
row_is a b e = cc

runs_row : (table : ℕ) (rows : List Row) (n k : ℕ) (cells : List Cell) (r : Row) → ((i : ℕ) (x : Row) → slice_get rows i ≡ Some x → length x.kids ≡ length (runs_in table)) → slice_get (put_row table rows n cells) k ≡ Some r → length r.kids ≡ length (runs_in table)
runs_row table [] zero zero cells r h e = rw (← row_is (childless table cells) r e) (length-map (runs_in table) (λ (child : ℕ). []))
runs_row table [] zero (suc k) cells r h e = absurd cc
runs_row table [] (suc n) k cells r h e = absurd cc
runs_row table (x ∷ rows) zero zero cells r h e = rw (← row_is (record { cells = cells; kids = x.kids }) r e) (h 0 x refl)
runs_row table (x ∷ rows) zero (suc k) cells r h e = h (suc k) r e
runs_row table (x ∷ rows) (suc n) zero cells r h e = h 0 r e
runs_row table (x ∷ rows) (suc n) (suc k) cells r h e = runs_row table rows n k cells r (λ i y f. h (suc i) y f) e

runs_here : (m : Module) (c : Change) (cs : List Change) → FitsOne m c cs → HasRuns m → (n : ℕ) (r : Row) → slice_get (rows_in (put m c) c.token.table) n ≡ Some r → length r.kids ≡ length (runs_in c.token.table)
runs_here m c cs fits runs n r e = runs_row c.token.table (rows_in m c.token.table) (c.token.row - 1) n c.cells r (runs.each c.token.table) (rw (put_rows m c cs fits) at e)

runs_at : (m : Module) (c : Change) (cs : List Change) → FitsOne m c cs → HasRuns m → (t n : ℕ) (r : Row) → slice_get (rows_in (put m c) t) n ≡ Some r → length r.kids ≡ length (runs_in t)
runs_at m c cs fits runs t n r e =
    elim (cases_eq t c.token.table) [
      | inl is ↦ subst (λ k. slice_get (rows_in (put m c) k) n ≡ Some r → length r.kids ≡ length (runs_in k)) (sym is) (runs_here m c cs fits runs n r) e
      | inr d ↦ runs.each t n r (rw (put_rows_other m c t d) at e)
    ]

-- a change keeps that every row has a list of children for each run
pub runs_put : (m : Module) (c : Change) (cs : List Change) → FitsOne m c cs → HasRuns m → HasRuns (put m c)
runs_put m c cs fits runs = record { each = runs_at m c cs fits runs }

-- and so do all changes
pub runs_applied : (cs : List Change) (m : Module) → Fits m cs → HasRuns m → HasRuns (apply m cs)
unfolding apply Fits
runs_applied [] m h runs = runs
runs_applied (c ∷ cs) m h runs = runs_applied cs (put m c) h.1 (runs_put m c cs h.0 runs)
