-- What a module is to which children were attached.
use Rattle.std.proofs.Common.{◌≡◌, ℕ, zero, suc, ◌-◌, ◌<◌, ◌≤◌, Bool, true, false, List, [], ◌∷◌, ◌++◌, length, map, Some, refl, sym, ap, subst, ◌∙◌, inl, inr, arith, append_assoc}
use Rattle.std.specs.Prelude.{◌≢◌, slice_get, ◌==◌, ◌&&◌, if◌then◌else◌, option_map, filter}
use Rattle.std.proofs.lemmas.Bool.Decides.{nat_tests}
use Rattle.std.proofs.lemmas.Bool.{cases_eq, and_from}
use Rattle.std.proofs.lemmas.List.{append-nil}
use Rattle.std.proofs.lemmas.Option.{slice_get_within}
use Rattle.enc_base.specs.declared.token.Token.{Token}
use Rattle.enc_base.specs.Token.{is_token}
use Rattle.enc_schema.specs.Schema.{list_at}
use Rattle.enc_schema.specs.Children.{is_child_table, owner_table, run_index, runs_in}
use Rattle.enc_schema.proofs.ChildTables.{by_child}
use Rattle.enc_plain.specs.Module.{Module, Row, rows_in, row_at, row_of, has_row, cells_of, kids_at, kids_of}
use Rattle.enc_plain.specs.Apply.{change_at, change_row, Attached, with_child, attach, attach_all, gained}
use Rattle.enc_plain.specs.Fits.{Attaches, AllAttach, HasRuns}
use Rattle.enc_plain.proofs.Applied.{table_same, table_other, not_same, same_is}

-- the element that was changed
pub change_same : {A : Type 0} (xs : List A) (n : ℕ) (f : A → A) → slice_get (change_at xs n f) n ≡ option_map f (slice_get xs n)
change_same [] n f = refl
change_same (x ∷ xs) zero f = refl
change_same (x ∷ xs) (suc n) f = change_same xs n f

-- and every other
pub change_other : {A : Type 0} (xs : List A) (n k : ℕ) (f : A → A) → k ≢ n → slice_get (change_at xs n f) k ≡ slice_get xs k
change_other [] n k f e = refl
change_other (x ∷ xs) zero zero f e = absurd (e refl)
change_other (x ∷ xs) zero (suc k) f e = refl
change_other (x ∷ xs) (suc n) zero f e = refl
change_other (x ∷ xs) (suc n) (suc k) f e = change_other xs n k f (λ d. e (ap suc d))

-- no element more
pub change_length : {A : Type 0} (xs : List A) (n : ℕ) (f : A → A) → length (change_at xs n f) ≡ length xs
change_length [] n f = refl
change_length (x ∷ xs) zero f = refl
change_length (x ∷ xs) (suc n) f = ap suc (change_length xs n f)

-- a change that makes nothing of nothing also stands past the last list
table_any : {A : Type 0} (tables : List (List A)) (t : ℕ) (f : List A → List A) → f [] ≡ [] → list_at (change_at tables t f) t ≡ f (list_at tables t)
table_any [] t f h = sym h
table_any (rows ∷ tables) zero f h = refl
table_any (rows ∷ tables) (suc t) f h = table_any tables t f h

change_none : (row : ℕ) (f : Row → Row) → change_row [] row f ≡ []
unfolding change_row
change_none zero f = refl
change_none (suc n) f = refl

-- a row from 1 on is changed at the place before
pub change_row_is : (rows : List Row) (row : ℕ) (f : Row → Row) → 0 < row → change_row rows row f ≡ change_at rows (row - 1) f
unfolding change_row
change_row_is rows zero f low = absurd (omega arith)
change_row_is rows (suc n) f low = let e : suc n - 1 ≡ n = omega arith in rw e refl

attach_rows : (m : Module) (a : Attached) → rows_in (attach m a) a.owner.table ≡ change_row (rows_in m a.owner.table) a.owner.row (with_child a.child)
unfolding attach
attach_rows m a = table_any m.tables a.owner.table (λ rows. change_row rows a.owner.row (with_child a.child)) (change_none a.owner.row (with_child a.child))

attach_rows_other : (m : Module) (a : Attached) (t : ℕ) → t ≢ a.owner.table → rows_in (attach m a) t ≡ rows_in m t
unfolding attach
attach_rows_other m a t d = table_other m.tables a.owner.table t (λ rows. change_row rows a.owner.row (with_child a.child)) d

cells_changed : (rows : List Row) (n k : ℕ) (child : Token) → option_map (λ (r : Row). r.cells) (slice_get (change_at rows n (with_child child)) k) ≡ option_map (λ (r : Row). r.cells) (slice_get rows k)
cells_changed [] n k child = refl
cells_changed (r ∷ rows) zero zero child = refl
cells_changed (r ∷ rows) zero (suc k) child = refl
cells_changed (r ∷ rows) (suc n) zero child = refl
cells_changed (r ∷ rows) (suc n) (suc k) child = cells_changed rows n k child

cells_changed_at : (rows : List Row) (n row : ℕ) (child : Token) → option_map (λ (r : Row). r.cells) (row_at (change_row rows n (with_child child)) row) ≡ option_map (λ (r : Row). r.cells) (row_at rows row)
unfolding change_row
cells_changed_at rows zero row child = refl
cells_changed_at rows (suc n) zero child = refl
cells_changed_at rows (suc n) (suc r) child = cells_changed rows n r child

cells_attach : (m : Module) (a : Attached) (u : Token) → cells_of (attach m a) u ≡ cells_of m u
unfolding row_of
cells_attach m a u =
    elim (cases_eq u.table a.owner.table) [
      | inl e ↦ rw (e, attach_rows m a) (cells_changed_at (rows_in m a.owner.table) a.owner.row u.row a.child)
      | inr d ↦ rw (attach_rows_other m a u.table d) refl
    ]

-- attaching keeps all cells
pub cells_attached : (pairs : List Attached) (m : Module) (u : Token) → cells_of (attach_all m pairs) u ≡ cells_of m u
unfolding attach_all
cells_attached [] m u = refl
cells_attached (a ∷ pairs) m u = cells_attached pairs (attach m a) u ∙ cells_attach m a u

pub row_length : (rows : List Row) (row : ℕ) (f : Row → Row) → length (change_row rows row f) ≡ length rows
unfolding change_row
row_length rows zero f = refl
row_length rows (suc n) f = change_length rows n f

count_attach : (m : Module) (a : Attached) (t : ℕ) → length (rows_in (attach m a) t) ≡ length (rows_in m t)
count_attach m a t =
    elim (cases_eq t a.owner.table) [
      | inl e ↦ subst (λ k. length (rows_in (attach m a) k) ≡ length (rows_in m k)) (sym e) (ap (λ (l : List Row). length l) (attach_rows m a) ∙ row_length (rows_in m a.owner.table) a.owner.row (with_child a.child))
      | inr d ↦ ap (λ (l : List Row). length l) (attach_rows_other m a t d)
    ]

-- and adds no rows
pub count_attached : (pairs : List Attached) (m : Module) (t : ℕ) → length (rows_in (attach_all m pairs) t) ≡ length (rows_in m t)
unfolding attach_all
count_attached [] m t = refl
count_attached (a ∷ pairs) m t = count_attached pairs (attach m a) t ∙ count_attach m a t

row_is : (a b : Row) → Some a ≡ Some b → a ≡ b
row_is a b e = cc

runs_changed : (rows : List Row) (n k : ℕ) (child : Token) (many : ℕ) (r : Row) → ((i : ℕ) (x : Row) → slice_get rows i ≡ Some x → length x.kids ≡ many) → slice_get (change_at rows n (with_child child)) k ≡ Some r → length r.kids ≡ many
runs_changed [] n k child many r h e = absurd cc
runs_changed (x ∷ rows) zero zero child many r h e = rw (← row_is (with_child child x) r e) (change_length x.kids (run_index child.table) (λ ks. ks ++ child.row ∷ []) ∙ h 0 x refl)
runs_changed (x ∷ rows) zero (suc k) child many r h e = h (suc k) r e
runs_changed (x ∷ rows) (suc n) zero child many r h e = h 0 r e
runs_changed (x ∷ rows) (suc n) (suc k) child many r h e = runs_changed rows n k child many r (λ i y f. h (suc i) y f) e

runs_row : (rows : List Row) (row k : ℕ) (child : Token) (many : ℕ) (r : Row) → ((i : ℕ) (x : Row) → slice_get rows i ≡ Some x → length x.kids ≡ many) → slice_get (change_row rows row (with_child child)) k ≡ Some r → length r.kids ≡ many
unfolding change_row
runs_row rows zero k child many r h e = h k r e
runs_row rows (suc n) k child many r h e = runs_changed rows n k child many r h e

runs_here : (m : Module) (a : Attached) → HasRuns m → (n : ℕ) (r : Row) → slice_get (rows_in (attach m a) a.owner.table) n ≡ Some r → length r.kids ≡ length (runs_in a.owner.table)
runs_here m a runs n r e = runs_row (rows_in m a.owner.table) a.owner.row n a.child (length (runs_in a.owner.table)) r (runs.each a.owner.table) (rw (attach_rows m a) at e)

runs_at : (m : Module) (a : Attached) → HasRuns m → (t n : ℕ) (r : Row) → slice_get (rows_in (attach m a) t) n ≡ Some r → length r.kids ≡ length (runs_in t)
runs_at m a runs t n r e =
    elim (cases_eq t a.owner.table) [
      | inl is ↦ subst (λ k. slice_get (rows_in (attach m a) k) n ≡ Some r → length r.kids ≡ length (runs_in k)) (sym is) (runs_here m a runs n r) e
      | inr d ↦ runs.each t n r (rw (attach_rows_other m a t d) at e)
    ]

runs_attach : (m : Module) (a : Attached) → HasRuns m → HasRuns (attach m a)
runs_attach m a runs = record { each = runs_at m a runs }

-- attaching keeps that every row has a list of children for each run
pub runs_attached : (pairs : List Attached) (m : Module) → HasRuns m → HasRuns (attach_all m pairs)
unfolding attach_all
runs_attached [] m runs = runs
runs_attached (a ∷ pairs) m runs = runs_attached pairs (attach m a) (runs_attach m a runs)

-- a child table stands at its place among the runs of its owners
pub run_at : (child : ℕ) → is_child_table child ≡ true → slice_get (runs_in (owner_table child)) (run_index child) ≡ Some child
run_at child there = by_child (λ k. slice_get (runs_in (owner_table k)) (run_index k) ≡ Some k) refl refl refl refl refl child there

number_is : (a b : ℕ) → Some a ≡ Some b → a ≡ b
number_is a b e = cc

-- so child tables of one owners' table have different places
pub place_differs : (c d : ℕ) → is_child_table c ≡ true → is_child_table d ≡ true → owner_table c ≡ owner_table d → c ≢ d → run_index c ≢ run_index d
place_differs c d hc hd o e = λ f. e (number_is c d (sym (run_at c hc) ∙ ap (λ t. slice_get (runs_in t) (run_index c)) o ∙ ap (λ i. slice_get (runs_in (owner_table d)) i) f ∙ run_at d hd))

some_row : (m : Module) (u : Token) → has_row m u ≡ true → 0 < u.row
unfolding has_row
some_row m u h = grind (arith, nat_tests)

owner_row : (rows : List Row) (row : ℕ) (f : Row → Row) → 0 < row → row_at (change_row rows row f) row ≡ option_map f (row_at rows row)
unfolding change_row
owner_row rows zero f low = absurd (omega arith)
owner_row rows (suc n) f low = change_same rows n f

-- the owner's row has the child
attach_is : (m : Module) (a : Attached) → Attaches m a → row_of (attach m a) a.owner ≡ option_map (with_child a.child) (row_of m a.owner)
unfolding row_of
attach_is m a h = rw (attach_rows m a) (owner_row (rows_in m a.owner.table) a.owner.row (with_child a.child) (some_row m a.owner h.row))

other_row : (rows : List Row) (n row : ℕ) (f : Row → Row) → row ≢ n → row_at (change_row rows n f) row ≡ row_at rows row
unfolding change_row
other_row rows zero row f e = refl
other_row rows (suc n) zero f e = refl
other_row rows (suc n) (suc r) f e = change_other rows n r f (λ d. e (ap suc d))

-- every other row is the same
attach_keeps : (m : Module) (a : Attached) (u : Token) → Attaches m a → is_token a.owner u ≡ false → row_of (attach m a) u ≡ row_of m u
unfolding row_of
attach_keeps m a u h other =
    elim (cases_eq u.table a.owner.table) [
      | inl e ↦ rw (e, attach_rows m a) (other_row (rows_in m a.owner.table) a.owner.row u.row (with_child a.child) (not_same a.owner u other e))
      | inr d ↦ rw (attach_rows_other m a u.table d) refl
    ]

row_there : (rows : List Row) (row : ℕ) → 0 < row → row ≤ length rows → (r : Row) × (row_at rows row ≡ Some r)
row_there rows zero low high = absurd (omega arith)
row_there [] (suc n) low high = absurd (omega arith)
row_there (r ∷ rows) (suc zero) low high = (r, refl)
row_there (r ∷ rows) (suc (suc n)) low high = row_there rows (suc n) (omega arith) (omega arith)

has_there : (m : Module) (u : Token) → has_row m u ≡ true → (r : Row) × (row_of m u ≡ Some r)
unfolding has_row row_of
has_there m u h = row_there (rows_in m u.table) u.row (grind (arith, nat_tests)) (grind (arith, nat_tests))

slice_of : (rows : List Row) (row : ℕ) (r : Row) → row_at rows row ≡ Some r → slice_get rows (row - 1) ≡ Some r
slice_of rows zero r e = absurd cc
slice_of rows (suc n) r e = let f : suc n - 1 ≡ n = omega arith in rw f e

-- the row has a place for the child
place_there : (m : Module) (a : Attached) (r : Row) → Attaches m a → HasRuns m → row_of m a.owner ≡ Some r → run_index a.child.table < length r.kids
unfolding row_of
place_there m a r h runs e =
    let many : length r.kids ≡ length (runs_in a.owner.table) = runs.each a.owner.table (a.owner.row - 1) r (slice_of (rows_in m a.owner.table) a.owner.row r e) in
    let low : run_index a.child.table < length (runs_in (owner_table a.child.table)) = slice_get_within (runs_in (owner_table a.child.table)) (run_index a.child.table) a.child.table (run_at a.child.table h.child) in
    rw (many, h.table) low

-- one child more, or none
abbrev one_if : Bool → ℕ → List ℕ
one_if b row = if b then row ∷ [] else []

kids_same : (r : Row) (child : Token) → run_index child.table < length r.kids → kids_at (with_child child r) child.table ≡ kids_at r child.table ++ child.row ∷ []
kids_same r child h = table_same r.kids (run_index child.table) (λ ks. ks ++ child.row ∷ []) h

kids_other : (r : Row) (child : Token) (table : ℕ) → run_index table ≢ run_index child.table → kids_at (with_child child r) table ≡ kids_at r table
kids_other r child table e = table_other r.kids (run_index child.table) (run_index table) (λ ks. ks ++ child.row ∷ []) e

owned_kids : (owned : Bool) (old new : List ℕ) → (owned ≡ true → new ≡ old) → (if owned then new else []) ≡ (if owned then old else []) ++ []
owned_kids true old new h = h refl ∙ sym (append-nil old)
owned_kids false old new h = refl

owned_more : (owned : Bool) (old new more : List ℕ) → owned ≡ true → new ≡ old ++ more → (if owned then new else []) ≡ (if owned then old else []) ++ more
owned_more true old new more is h = h
owned_more false old new more is h = absurd cc

owner_is : (a b : ℕ) → (a == b) ≡ true → a ≡ b
owner_is a b h = grind (arith, nat_tests)

owner_is_not : (a b : ℕ) → (a == b) ≡ false → b ≢ a
owner_is_not a b h = λ e. absurd (grind (arith, nat_tests))

equals : (a b : ℕ) → a ≡ b → (a == b) ≡ true
equals a b h = grind (arith, nat_tests)

second : (a b : Bool) → (a && b) ≡ true → b ≡ true
second true b h = h
second false b h = absurd cc

-- the children of the owner
attach_owner : (m : Module) (a : Attached) (table : ℕ) (r : Row) → Attaches m a → HasRuns m → is_child_table table ≡ true → row_of m a.owner ≡ Some r → (same : Bool) → (a.child.table == table) ≡ same → kids_of (attach m a) a.owner table ≡ kids_of m a.owner table ++ one_if same a.child.row
unfolding kids_of
attach_owner m a table r h runs there e true s =
    let is : a.child.table ≡ table = owner_is a.child.table table s in
    rw (← is, attach_is m a h, e) (owned_more (is_child_table a.child.table && a.owner.table == owner_table a.child.table) (kids_at r a.child.table) (kids_at (with_child a.child r) a.child.table) (a.child.row ∷ []) (and_from (is_child_table a.child.table) (a.owner.table == owner_table a.child.table) h.child (equals a.owner.table (owner_table a.child.table) h.table)) (kids_same r a.child (place_there m a r h runs e)))
attach_owner m a table r h runs there e false s =
    rw (attach_is m a h, e) (owned_kids (is_child_table table && a.owner.table == owner_table table) (kids_at r table) (kids_at (with_child a.child r) table) (λ o. kids_other r a.child table (place_differs table a.child.table there h.child (sym (owner_is a.owner.table (owner_table table) (second (is_child_table table) (a.owner.table == owner_table table) o)) ∙ h.table) (owner_is_not a.child.table table s))))

nothing_more : (same child : Bool) (xs : List ℕ) (row : ℕ) → same ≡ false → xs ≡ xs ++ one_if (same && child) row
nothing_more true child xs row h = absurd cc
nothing_more false child xs row h = sym (append-nil xs)

just_child : (same child : Bool) → same ≡ true → (same && child) ≡ child
just_child true child h = refl
just_child false child h = absurd cc

kids_keep : (m : Module) (a : Attached) (u : Token) (table : ℕ) → Attaches m a → is_token a.owner u ≡ false → kids_of (attach m a) u table ≡ kids_of m u table
unfolding kids_of
kids_keep m a u table h e = rw (attach_keeps m a u h e) refl

-- the children of a token's row
attached_one : (m : Module) (a : Attached) (u : Token) (table : ℕ) → Attaches m a → HasRuns m → is_child_table table ≡ true → (same : Bool) → is_token a.owner u ≡ same → kids_of (attach m a) u table ≡ kids_of m u table ++ one_if (is_token a.owner u && a.child.table == table) a.child.row
attached_one m a u table h runs there false e = kids_keep m a u table h e ∙ nothing_more (is_token a.owner u) (a.child.table == table) (kids_of m u table) a.child.row e
attached_one m a u table h runs there true e =
    let is : a.owner ≡ u = same_is a.owner u e in
    let row = has_there m a.owner h.row in
    let all : kids_of (attach m a) u table ≡ kids_of m u table ++ one_if (a.child.table == table) a.child.row = subst (λ v. kids_of (attach m a) v table ≡ kids_of m v table ++ one_if (a.child.table == table) a.child.row) is (attach_owner m a table row.0 h runs there row.1 (a.child.table == table) refl) in
    all ∙ ap (λ b. kids_of m u table ++ one_if b a.child.row) (sym (just_child (is_token a.owner u) (a.child.table == table) e))

gained_more : (b : Bool) (a : Attached) (pairs : List Attached) → map (λ (p : Attached). p.child.row) (if b then a ∷ pairs else pairs) ≡ one_if b a.child.row ++ map (λ (p : Attached). p.child.row) pairs
gained_more true a pairs = refl
gained_more false a pairs = refl

gained_step : (a : Attached) (pairs : List Attached) (u : Token) (child : ℕ) → gained (a ∷ pairs) u child ≡ one_if (is_token a.owner u && a.child.table == child) a.child.row ++ gained pairs u child
gained_step a pairs u child = gained_more (is_token a.owner u && a.child.table == child) a (filter (λ (p : Attached). is_token p.owner u && p.child.table == child) pairs)

-- the children of a row are those that it had, and behind them those that it gained
pub attached_all : (pairs : List Attached) (m : Module) → AllAttach m pairs → HasRuns m → (u : Token) (child : ℕ) → is_child_table child ≡ true → kids_of (attach_all m pairs) u child ≡ kids_of m u child ++ gained pairs u child
unfolding attach_all AllAttach
attached_all [] m h runs u child there = sym (append-nil (kids_of m u child))
attached_all (a ∷ pairs) m h runs u child there =
    let one = attached_one m a u child h.0 runs there (is_token a.owner u) refl in
    let rest = attached_all pairs (attach m a) h.1 (runs_attach m a runs) u child there in
    rest ∙ ap (λ xs. xs ++ gained pairs u child) one ∙ append_assoc (kids_of m u child) (one_if (is_token a.owner u && a.child.table == child) a.child.row) (gained pairs u child) ∙ ap (λ xs. kids_of m u child ++ xs) (sym (gained_step a pairs u child))
