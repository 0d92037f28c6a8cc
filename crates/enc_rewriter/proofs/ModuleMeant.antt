-- The module that is read of an image that was written is the one it was written of.
use Rattle.std.proofs.Common.{◌≡◌, ℕ, zero, suc, ◌+◌, ◌<◌, ◌≤◌, Bool, true, false, List, [], ◌∷◌, length, map, Option, Some, refl, sym, ap, ◌∙◌, inl, inr, arith}
use Rattle.std.specs.Prelude.{◌==◌, option_and_then, unwrap_or, is_some, filter, slice_get, if◌then◌else◌}
use Rattle.std.proofs.lemmas.Bool.Decides.{nat_tests}
use Rattle.std.proofs.lemmas.List.{length-map}
use Rattle.std.proofs.lemmas.Option.{slice_get_within}
use Rattle.enc_base.specs.Token.{nth_row}
use Rattle.enc_image.specs.Base.{rows_from, cell_in, row_in, table_rows, module_in}
use Rattle.enc_meta.specs.Built.{Built}
use Rattle.enc_plain.specs.Cell.{Cell, number, Kind, bodies, fields, kind_of, is_body, is_field, cell_count}
use Rattle.enc_plain.specs.Module.{Module, Row, rows_in, row_at, row_of, cell_of, kids_at}
use Rattle.enc_plain.specs.Sound.{IsSound, is_part}
use Rattle.enc_plain.proofs.Columns.{part_cases}
use Rattle.enc_plain.proofs.KindsOf.{kind_there}
use Rattle.enc_rows.specs.Layout.{rows_of}
use Rattle.enc_rows.specs.Runs.{children_of}
use Rattle.enc_rows.specs.Source.{Source}
use Rattle.enc_rows.specs.Sums.{below}
use Rattle.enc_rows.proofs.Listed.{get_below, length_below}
use Rattle.enc_schema.specs.Children.{is_child_table, owner_table, run_column, run_index, runs_in}
use Rattle.enc_schema.specs.Schema.{columns_in, column_in}
use Rattle.enc_schema.specs.declared.column.Column.{Column}
use Rattle.enc_rewriter.specs.Placed.{Placed}
use Rattle.enc_rewriter.proofs.CellsMeant.{cell_meant}
use Rattle.enc_rewriter.proofs.Gathers.{body_column, field_column, row_there}
use Rattle.enc_rewriter.proofs.NumbersMeant.{IsRead, count_read}
use Rattle.enc_rewriter.proofs.RunStarts.{some_there}

-- the children of each owner are read from its runs
pub record KidsAreRead (m : Module) (s : Source) : Type 0 where
  pub each : (child n : ℕ) (r : Row) → is_child_table child ≡ true → slice_get (rows_in m (owner_table child)) n ≡ Some r
      → children_of (rows_from s) (owner_table child) (run_column child) child n ≡ kids_at r child

-- lists that are as long as each other and have the same at each place
same_some : {A : Type 0} (x y : A) → Some x ≡ Some y → x ≡ y
same_some x y h = cc

same_list : {A : Type 0} (xs ys : List A) → length xs ≡ length ys → ((i : ℕ) (y : A) → slice_get ys i ≡ Some y → slice_get xs i ≡ Some y) → xs ≡ ys
same_list [] [] len at = refl
same_list [] (y ∷ ys) len at = absurd (omega (arith, len))
same_list (x ∷ xs) [] len at = absurd (omega (arith, len))
same_list {A} (x ∷ xs) (y ∷ ys) len at =
    let e : x ≡ y = same_some x y (at 0 y refl) in
    ap (λ (z : A). z ∷ xs) e ∙ ap (λ (zs : List A). y ∷ zs) (same_list xs ys (omega (arith, len)) (λ i v h. at (suc i) v h))

mapped_at : {A B : Type 0} (f : A → B) (xs : List A) (i : ℕ) (x : A) → slice_get xs i ≡ Some x → slice_get (map f xs) i ≡ Some (f x)
mapped_at f [] i x h = absurd cc
mapped_at f (y ∷ ys) zero x h = let e : y ≡ x = same_some y x h in rw e refl
mapped_at f (y ∷ ys) (suc i) x h = mapped_at f ys i x h

-- each column before the runs has a cell
filter_few : (q : Column → Bool) (xs : List Column) → length (filter q xs) ≤ length xs
filter_few q [] = omega arith
filter_few q (x ∷ xs) = elim (part_cases (q x)) [
  | inl h ↦ rw h (omega (arith, filter_few q xs))
  | inr h ↦ rw h (omega (arith, filter_few q xs))
]

kind_by : (t i : ℕ) (c : Column) (k : Kind) (b f : Bool) → column_in t i ≡ Some c → is_body t i ≡ b → is_field t i ≡ f
    → (if b then Some bodies else if f then Some fields else option_and_then kind_of (column_in t i)) ≡ Some k → is_some (kind_of c) ≡ true
kind_by t i c k true f e is at kind = let n = body_column t i c e is in rw n refl
kind_by t i c k false true e is at kind = let n = field_column t i c e at in rw n refl
kind_by t i c k false false e is at kind = ap (λ (o : Option Column). is_some (option_and_then kind_of o)) (sym e) ∙ ap is_some kind

has_kind : (t i : ℕ) (c : Column) → column_in t i ≡ Some c → i < cell_count t → is_some (kind_of c) ≡ true
has_kind t i c e low = let k = kind_there t i c e low in kind_by t i c k.0 (is_body t i) (is_field t i) e refl refl k.1

-- the cells of a row
row_is : (m : Module) (t n : ℕ) (r : Row) → slice_get (rows_in m t) n ≡ Some r → row_of m (nth_row t n) ≡ Some r
unfolding row_of
row_is m t n r h = let e : n + 1 ≡ suc n = omega arith in ap (row_at (rows_in m t)) e ∙ h

cell_same : (m : Module) (h : Built) (p : Placed) (rows : List (List (List ℕ))) (s : Source) (t n i : ℕ) (r : Row) (c : Cell) → IsRead m h p rows s
    → slice_get (rows_in m t) n ≡ Some r → i < cell_count t → slice_get r.cells i ≡ Some c → unwrap_or (cell_in s (nth_row t n) i) (number 0) ≡ c
unfolding cell_of
cell_same m h p rows s t n i r c read there low is =
    let few = filter_few (λ (d : Column). is_some (kind_of d)) (columns_in t) in
    let column = some_there (columns_in t) i (omega (arith, low, few)) in
    let row = row_there m t n (slice_get_within (rows_in m t) n r there) in
    let meant = cell_meant m h p rows s (nth_row t n) i column.0 read row column.1 (has_kind t i column.0 column.1 low) in
    let held : cell_of m (nth_row t n) i ≡ Some c = ap (option_and_then (λ (x : Row). slice_get x.cells i)) (row_is m t n r there) ∙ is in
    ap (λ (o : Option Cell). unwrap_or o (number 0)) (meant ∙ held)

cells_same : (m : Module) (h : Built) (p : Placed) (rows : List (List (List ℕ))) (s : Source) (t n : ℕ) (r : Row) → IsRead m h p rows s
    → slice_get (rows_in m t) n ≡ Some r → map (λ (i : ℕ). unwrap_or (cell_in s (nth_row t n) i) (number 0)) (below (cell_count t)) ≡ r.cells
cells_same m h p rows s t n r read there =
    let f : ℕ → Cell = λ (i : ℕ). unwrap_or (cell_in s (nth_row t n) i) (number 0) in
    let many = read.sound.kinds.lengths t n r there in
    same_list (map f (below (cell_count t))) r.cells (length_below f (cell_count t) ∙ sym many) (λ i c is.
    let within = slice_get_within r.cells i c is in
    let low : i < cell_count t = omega (arith, within, many) in
    get_below f (cell_count t) i low ∙ ap (λ (x : Cell). Some x) (cell_same m h p rows s t n i r c read there low is))

-- the runs of a table by their places
abbrev IsRun : ℕ → ℕ → ℕ → Type 0
IsRun t i child = (is_child_table child ≡ true) × (owner_table child ≡ t) × (run_index child ≡ i)

one_run : (t k i child : ℕ) → IsRun t 0 k → slice_get (k ∷ []) i ≡ Some child → IsRun t i child
one_run t k zero child run h = let e : child ≡ k = sym (same_some k child h) in rw e run
one_run t k (suc i) child run h = absurd cc

two_runs : (i child : ℕ) → slice_get (0x04 ∷ 0x06 ∷ []) i ≡ Some child → IsRun 0x02 i child
two_runs zero child h = let e : child ≡ 0x04 = sym (same_some 0x04 child h) in rw e (refl, refl, refl)
two_runs (suc zero) child h = let e : child ≡ 0x06 = sym (same_some 0x06 child h) in rw e (refl, refl, refl)
two_runs (suc (suc i)) child h = absurd cc

runs_by : (t i child : ℕ) (a b c d : Bool) → (t == 0x02) ≡ a → (t == 0x06) ≡ b → (t == 0x12) ≡ c → (t == 0x15) ≡ d
    → slice_get (if a then 0x04 ∷ 0x06 ∷ [] else if b then 0x08 ∷ [] else if c then 0x14 ∷ [] else if d then 0x17 ∷ [] else []) i ≡ Some child → IsRun t i child
runs_by t i child true b c d ta tb tc td h = let e : t ≡ 0x02 = grind (arith, nat_tests) in rw e (two_runs i child h)
runs_by t i child false true c d ta tb tc td h = let e : t ≡ 0x06 = grind (arith, nat_tests) in rw e (one_run 0x06 0x08 i child (refl, refl, refl) h)
runs_by t i child false false true d ta tb tc td h = let e : t ≡ 0x12 = grind (arith, nat_tests) in rw e (one_run 0x12 0x14 i child (refl, refl, refl) h)
runs_by t i child false false false true ta tb tc td h = let e : t ≡ 0x15 = grind (arith, nat_tests) in rw e (one_run 0x15 0x17 i child (refl, refl, refl) h)
runs_by t i child false false false false ta tb tc td h = absurd cc

run_is : (t i child : ℕ) → slice_get (runs_in t) i ≡ Some child → IsRun t i child
run_is t i child h = runs_by t i child (t == 0x02) (t == 0x06) (t == 0x12) (t == 0x15) refl refl refl refl h

-- the children of a row
kids_by : (m : Module) (s : Source) (t n i child : ℕ) (r : Row) (ks : List ℕ) → KidsAreRead m s → IsRun t i child → slice_get (rows_in m t) n ≡ Some r → slice_get r.kids i ≡ Some ks
    → children_of (rows_from s) t (run_column child) child n ≡ ks
kids_by m s t n i child r ks kids run there is =
    let there_too : slice_get (rows_in m (owner_table child)) n ≡ Some r = ap (λ (k : ℕ). slice_get (rows_in m k) n) run.1 ∙ there in
    ap (λ (k : ℕ). children_of (rows_from s) k (run_column child) child n) (sym run.1)
    ∙ kids.each child n r run.0 there_too
    ∙ ap (λ (k : ℕ). unwrap_or (slice_get r.kids k) []) run.2
    ∙ ap (λ (o : Option (List ℕ)). unwrap_or o []) is

kids_same : (m : Module) (s : Source) (t n : ℕ) (r : Row) → IsSound m → KidsAreRead m s → slice_get (rows_in m t) n ≡ Some r
    → map (λ (child : ℕ). children_of (rows_from s) t (run_column child) child n) (runs_in t) ≡ r.kids
kids_same m s t n r sound kids there =
    let f : ℕ → List ℕ = λ (child : ℕ). children_of (rows_from s) t (run_column child) child n in
    let many = sound.owners.runs.each t n r there in
    same_list (map f (runs_in t)) r.kids (length-map (runs_in t) f ∙ sym many) (λ i ks is.
    let within = slice_get_within r.kids i ks is in
    let child = some_there (runs_in t) i (omega (arith, within, many)) in
    mapped_at f (runs_in t) i child.0 child.1 ∙ ap (λ (x : List ℕ). Some x) (kids_by m s t n i child.0 r ks kids (run_is t i child.0 child.1) there is))

-- so is each row, each table, and the module
abbrev row_with : List Cell → List (List ℕ) → Row
row_with cells kids = record { cells = cells; kids = kids }

row_same : (m : Module) (h : Built) (p : Placed) (rows : List (List (List ℕ))) (s : Source) (t n : ℕ) (r : Row) → IsRead m h p rows s → KidsAreRead m s
    → slice_get (rows_in m t) n ≡ Some r → row_in s t n ≡ r
row_same m h p rows s t n r read kids there =
    ap (λ (c : List Cell). row_with c (map (λ (child : ℕ). children_of (rows_from s) t (run_column child) child n) (runs_in t))) (cells_same m h p rows s t n r read there)
    ∙ ap (λ (k : List (List ℕ)). row_with r.cells k) (kids_same m s t n r read.sound kids there)

table_by : (m : Module) (h : Built) (p : Placed) (rows : List (List (List ℕ))) (s : Source) (t : ℕ) (part : Bool) → IsRead m h p rows s → KidsAreRead m s → t < 0x2D → is_part t ≡ part
    → (if part then map (row_in s t) (below (rows_of s.layout t)) else []) ≡ rows_in m t
table_by m h p rows s t false read kids low part = sym (read.sound.counts.absent t part)
table_by m h p rows s t true read kids low part =
    let many = count_read m h p rows s t read part low in
    same_list (map (row_in s t) (below (rows_of s.layout t))) (rows_in m t) (length_below (row_in s t) (rows_of s.layout t) ∙ many) (λ n r there.
    let within = slice_get_within (rows_in m t) n r there in
    get_below (row_in s t) (rows_of s.layout t) n (omega (arith, within, many)) ∙ ap (λ (x : Row). Some x) (row_same m h p rows s t n r read kids there))

tables_same : (m : Module) (h : Built) (p : Placed) (rows : List (List (List ℕ))) (s : Source) → IsRead m h p rows s → KidsAreRead m s
    → map (table_rows s) (below 0x2D) ≡ m.tables
tables_same m h p rows s read kids =
    let many = read.sound.owners.tables.all in
    same_list (map (table_rows s) (below 0x2D)) m.tables (length_below (table_rows s) 0x2D ∙ sym many) (λ t rs there.
    let within = slice_get_within m.tables t rs there in
    let low : t < 0x2D = omega (arith, within, many) in
    get_below (table_rows s) 0x2D t low
    ∙ ap (λ (x : List Row). Some x) (table_by m h p rows s t (is_part t) read kids low refl ∙ ap (λ (o : Option (List Row)). unwrap_or o []) there))

abbrev module_with : List (List Row) → List ℕ → ℕ → Module
module_with tables resources entry = record { tables = tables; resources = resources; entry = entry }

pub module_meant : (m : Module) (h : Built) (p : Placed) (rows : List (List (List ℕ))) (s : Source) → IsRead m h p rows s → KidsAreRead m s → module_in s ≡ m
unfolding module_in
module_meant m h p rows s read kids =
    ap (λ (x : List (List Row)). module_with x s.resources s.entry) (tables_same m h p rows s read kids)
    ∙ ap (λ (x : List ℕ). module_with m.tables x s.entry) read.read.resources
    ∙ ap (λ (x : ℕ). module_with m.tables m.resources x) read.read.entry
