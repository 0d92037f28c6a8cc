-- How often a row is a child, and which row owns it.
use Rattle.std.proofs.Common.{◌≡◌, ℕ, zero, suc, ◌+◌, ◌-◌, ◌<◌, Bool, true, false, List, [], ◌∷◌, ◌++◌, length, map, Some, refl, sym, ap, ◌∙◌, inl, inr, cond, arith}
use Rattle.std.specs.Prelude.{◌≢◌, ◌==◌, ◌&&◌, slice_get, flat_map, count_by}
use Rattle.std.proofs.lemmas.Bool.{cases_eq}
use Rattle.std.proofs.lemmas.Bool.Decides.{nat_tests}
use Rattle.enc_base.specs.declared.token.Token.{Token}
use Rattle.enc_schema.specs.Schema.{list_at}
use Rattle.enc_schema.specs.Children.{is_child_table, owner_table, run_index, runs_in}
use Rattle.enc_plain.specs.Cell.{Cell}
use Rattle.enc_plain.specs.Module.{Module, Row, rows_in, has_row, kids_at}
use Rattle.enc_plain.specs.Apply.{Change, put_row, change_at, change_row, put, apply, Attached, with_child, attach, attach_all}
use Rattle.enc_plain.specs.Fits.{Fits, Attaches, AllAttach, HasRuns}
use Rattle.enc_plain.proofs.Applied.{table_same, table_other}
use Rattle.enc_plain.proofs.AttachedTo.{run_at, place_differs, runs_attached, change_row_is}
use Rattle.std.proofs.lemmas.Option.{slice_get_within}
use Rattle.enc_plain.specs.Sound.{all_kids}
use Rattle.enc_agg.proofs.Counting.{rows_same, rows_other}
use Rattle.enc_plain.proofs.Owned.{count_cons, count_append}

-- counting by tests that agree
pub count_same : {X : Type 0} (p q : X → Bool) (xs : List X) → ((x : X) → p x ≡ q x) → count_by p xs ≡ count_by q xs
count_same p q [] h = refl
count_same p q (x ∷ xs) h = count_cons p x xs ∙ rw (h x, count_same p q xs h) (sym (count_cons q x xs))

-- counting what a function makes
pub count_map : {X Y : Type 0} (p : Y → Bool) (f : X → Y) (xs : List X) → count_by p (map f xs) ≡ count_by (λ x. p (f x)) xs
count_map p f [] = refl
count_map p f (x ∷ xs) = count_cons p (f x) (map f xs) ∙ rw (count_map p f xs) (sym (count_cons (λ y. p (f y)) x xs))

none_at : (runs : List ℕ) (i : ℕ) → list_at {A = ℕ} (map (λ (child : ℕ). []) runs) i ≡ []
none_at [] i = refl
none_at (x ∷ runs) zero = refl
none_at (x ∷ runs) (suc i) = none_at runs i

kids_put : (table t : ℕ) (rows : List Row) (n : ℕ) (cells : List Cell) → flat_map (λ (r : Row). kids_at r t) (put_row table rows n cells) ≡ flat_map (λ (r : Row). kids_at r t) rows
kids_put table t [] zero cells = rw (none_at (runs_in table) (run_index t)) refl
kids_put table t [] (suc n) cells = refl
kids_put table t (r ∷ rows) zero cells = refl
kids_put table t (r ∷ rows) (suc n) cells = ap (λ ks. kids_at r t ++ ks) (kids_put table t rows n cells)

all_put : (m : Module) (ch : Change) (t : ℕ) → ch.token.table < length m.tables → 0 < ch.token.row → all_kids (put m ch) t ≡ all_kids m t
all_put m ch t h low =
    elim (cases_eq (owner_table t) ch.token.table) [
      | inl e ↦ rw (e, rows_same m ch h low) (kids_put ch.token.table t (rows_in m ch.token.table) (ch.token.row - 1) ch.cells)
      | inr d ↦ rw (rows_other m ch (owner_table t) d) refl
    ]

-- changes keep all children
pub all_applied : (chs : List Change) (m : Module) (t : ℕ) → Fits m chs → all_kids (apply m chs) t ≡ all_kids m t
unfolding apply Fits
all_applied [] m t h = refl
all_applied (ch ∷ chs) m t h = all_applied chs (put m ch) t h.1 ∙ all_put m ch t h.0.table h.0.low

moved : (a b d k : ℕ) → b ≡ d + k → a + b ≡ a + d + k
moved a b d k h = omega arith

swapped : (a b d k : ℕ) → a ≡ d + k → a + b ≡ d + b + k
swapped a b d k h = omega arith

abbrev kids_in : ℕ → List Row → List ℕ
kids_in t rows = flat_map (λ (r : Row). kids_at r t) rows

count_changed : (p : ℕ → Bool) (t : ℕ) (child : Token) (k : ℕ) (rows : List Row) (n : ℕ) → ((x : Row) → slice_get rows n ≡ Some x → count_by p (kids_at (with_child child x) t) ≡ count_by p (kids_at x t) + k) → n < length rows → count_by p (kids_in t (change_at rows n (with_child child))) ≡ count_by p (kids_in t rows) + k
count_changed p t child k [] n h lt = absurd (omega arith)
count_changed p t child k (r ∷ rows) zero h lt = count_append p (kids_at (with_child child r) t) (kids_in t rows) ∙ swapped _ _ _ k (h r refl) ∙ ap (λ n. n + k) (sym (count_append p (kids_at r t) (kids_in t rows)))
count_changed p t child k (r ∷ rows) (suc n) h lt = count_append p (kids_at r t) (kids_in t (change_at rows n (with_child child))) ∙ moved (count_by p (kids_at r t)) _ _ k (count_changed p t child k rows n h (omega arith)) ∙ ap (λ n. n + k) (sym (count_append p (kids_at r t) (kids_in t rows)))

one_more : (b : Bool) (n : ℕ) (x y : ℕ) → x ≡ y → n + cond b 1 0 ≡ n + cond ((x == y) && b) 1 0
one_more b n x y e = let s : (x == y) ≡ true = grind (arith, nat_tests) in rw s refl

no_more : (b : Bool) (n : ℕ) (x y : ℕ) → x ≢ y → n ≡ n + cond ((x == y) && b) 1 0
no_more b n x y e = let s : (x == y) ≡ false = grind (arith, nat_tests) in rw s (omega arith)

row_count : (p : ℕ → Bool) (child : Token) (t : ℕ) (x : Row) → is_child_table t ≡ true → is_child_table child.table ≡ true → owner_table t ≡ owner_table child.table → run_index child.table < length x.kids → count_by p (kids_at (with_child child x) t) ≡ count_by p (kids_at x t) + cond ((child.table == t) && p child.row) 1 0
row_count p child t x there here owners lt =
    elim (cases_eq child.table t) [
      | inl e ↦
          let same : kids_at (with_child child x) child.table ≡ kids_at x child.table ++ child.row ∷ [] = table_same x.kids (run_index child.table) (λ ks. ks ++ child.row ∷ []) lt in
          rw (← e, same) (count_append p (kids_at x child.table) (child.row ∷ []) ∙ ap (λ n. count_by p (kids_at x child.table) + n) (count_cons p child.row [] ∙ omega arith) ∙ one_more (p child.row) (count_by p (kids_at x child.table)) child.table child.table refl)
      | inr d ↦
          let other : kids_at (with_child child x) t ≡ kids_at x t = table_other x.kids (run_index child.table) (run_index t) (λ ks. ks ++ child.row ∷ []) (place_differs t child.table there here owners (λ e. d (sym e))) in
          rw other (no_more (p child.row) (count_by p (kids_at x t)) child.table t d)
    ]

attach_rows : (m : Module) (a : Attached) → a.owner.table < length m.tables → 0 < a.owner.row → rows_in (attach m a) a.owner.table ≡ change_at (rows_in m a.owner.table) (a.owner.row - 1) (with_child a.child)
unfolding attach
attach_rows m a h low = table_same m.tables a.owner.table (λ rows. change_row rows a.owner.row (with_child a.child)) h ∙ change_row_is (rows_in m a.owner.table) a.owner.row (with_child a.child) low

attach_rows_other : (m : Module) (a : Attached) (t : ℕ) → t ≢ a.owner.table → rows_in (attach m a) t ≡ rows_in m t
unfolding attach
attach_rows_other m a t d = table_other m.tables a.owner.table t (λ rows. change_row rows a.owner.row (with_child a.child)) d

row_within : (m : Module) (u : Token) → has_row m u ≡ true → u.row - 1 < length (rows_in m u.table)
unfolding has_row
row_within m u h = grind (arith, nat_tests)

row_low : (m : Module) (u : Token) → has_row m u ≡ true → 0 < u.row
unfolding has_row
row_low m u h = grind (arith, nat_tests)

run_room : (m : Module) (a : Attached) (x : Row) → Attaches m a → HasRuns m → slice_get (rows_in m a.owner.table) (a.owner.row - 1) ≡ Some x → run_index a.child.table < length x.kids
run_room m a x h runs e =
    let many : length x.kids ≡ length (runs_in a.owner.table) = runs.each a.owner.table (a.owner.row - 1) x e in
    let low : run_index a.child.table < length (runs_in (owner_table a.child.table)) = slice_get_within (runs_in (owner_table a.child.table)) (run_index a.child.table) a.child.table (run_at a.child.table h.child) in
    rw (many, h.table) low

attach_count : (m : Module) (a : Attached) (p : ℕ → Bool) (t : ℕ) → Attaches m a → HasRuns m → is_child_table t ≡ true → count_by p (all_kids (attach m a) t) ≡ count_by p (all_kids m t) + cond ((a.child.table == t) && p a.child.row) 1 0
attach_count m a p t h runs there =
    elim (cases_eq (owner_table t) a.owner.table) [
      | inl e ↦ rw (e, attach_rows m a h.tables (row_low m a.owner h.row)) (count_changed p t a.child (cond ((a.child.table == t) && p a.child.row) 1 0) (rows_in m a.owner.table) (a.owner.row - 1) (λ x at. row_count p a.child t x there h.child (e ∙ h.table) (run_room m a x h runs at)) (row_within m a.owner h.row))
      | inr d ↦ rw (attach_rows_other m a (owner_table t) d) (no_more (p a.child.row) (count_by p (all_kids m t)) a.child.table t (λ e. d (ap owner_table (sym e) ∙ sym h.table)))
    ]

runs_attach : (m : Module) (a : Attached) → HasRuns m → HasRuns (attach m a)
unfolding attach_all
runs_attach m a runs = runs_attached (a ∷ []) m runs

added : (x y z n k : ℕ) → x ≡ y + k → n ≡ x + z → n ≡ y + (k + z)
added x y z n k h e = omega arith

-- how often a row is a child after children were attached
pub attached_count : (pairs : List Attached) (m : Module) (p : ℕ → Bool) (t : ℕ) → AllAttach m pairs → HasRuns m → is_child_table t ≡ true → count_by p (all_kids (attach_all m pairs) t) ≡ count_by p (all_kids m t) + count_by (λ (a : Attached). (a.child.table == t) && p a.child.row) pairs
unfolding attach_all AllAttach
attached_count [] m p t h runs there = omega arith
attached_count (a ∷ pairs) m p t h runs there =
    added _ _ _ _ _ (attach_count m a p t h.0 runs there) (attached_count pairs (attach m a) p t h.1 (runs_attach m a runs) there) ∙ ap (λ n. count_by p (all_kids m t) + n) (sym (count_cons (λ (b : Attached). (b.child.table == t) && p b.child.row) a pairs))
