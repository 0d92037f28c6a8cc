-- Rows and tables that are changed in place are those that are defined.
use Rattle.std.proofs.Common.{◌≡◌, ℕ, zero, suc, ◌-◌, ◌<◌, ◌≤◌, List, [], ◌∷◌, ◌++◌, length, get_or, set, refl, ap, arith}
use Rattle.enc_base.specs.declared.token.Token.{Token}
use Rattle.enc_plain.specs.Apply.{childless, put_row, put_at, put, change_at, change_row, with_child, attach}
use Rattle.enc_plain.specs.Cell.{Cell}
use Rattle.enc_plain.specs.Module.{Row}
use Rattle.enc_memory_module.specs.Encoded.{with_tables}

-- an item that is there is changed, and past the last nothing is
pub set_is : {A : Type 0} (xs : List A) (n : ℕ) (f : A → A) (x d : A) → n < length xs → x ≡ f (get_or xs n d) → set xs n x ≡ change_at xs n f
set_is [] n f x d low is = absurd (omega arith)
set_is (y ∷ xs) zero f x d low is = ap (λ z. z ∷ xs) is
set_is (y ∷ xs) (suc n) f x d low is = ap (λ zs. y ∷ zs) (set_is xs n f x d (omega arith) is)

pub change_past : {A : Type 0} (xs : List A) (n : ℕ) (f : A → A) → length xs ≤ n → xs ≡ change_at xs n f
change_past [] n f high = refl
change_past (x ∷ xs) zero f high = absurd (omega arith)
change_past (x ∷ xs) (suc n) f high = ap (λ zs. x ∷ zs) (change_past xs n f (omega arith))

-- a row with other cells, one more at the end, and nothing past that
pub put_within : (table : ℕ) (rows : List Row) (n : ℕ) (cells : List Cell) (r d : Row) → n < length rows → r ≡ record { cells = cells; kids = (get_or rows n d).kids } → set rows n r ≡ put_row table rows n cells
put_within table [] n cells r d low is = absurd (omega arith)
put_within table (x ∷ rows) zero cells r d low is = ap (λ y. y ∷ rows) is
put_within table (x ∷ rows) (suc n) cells r d low is = ap (λ zs. x ∷ zs) (put_within table rows n cells r d (omega arith) is)

pub put_next : (table : ℕ) (rows : List Row) (n : ℕ) (cells : List Cell) (r : Row) → n ≡ length rows → r ≡ childless table cells → rows ++ r ∷ [] ≡ put_row table rows n cells
put_next table [] zero cells r end is = ap (λ y. y ∷ []) is
put_next table [] (suc n) cells r end is = absurd (omega arith)
put_next table (x ∷ rows) zero cells r end is = absurd (omega arith)
put_next table (x ∷ rows) (suc n) cells r end is = ap (λ zs. x ∷ zs) (put_next table rows n cells r (omega arith) is)

pub put_past : (table : ℕ) (rows : List Row) (n : ℕ) (cells : List Cell) → length rows < n → rows ≡ put_row table rows n cells
put_past table [] zero cells high = absurd (omega arith)
put_past table [] (suc n) cells high = refl
put_past table (x ∷ rows) zero cells high = absurd (omega arith)
put_past table (x ∷ rows) (suc n) cells high = ap (λ zs. x ∷ zs) (put_past table rows n cells (omega arith))

-- by the row's number
pub put_none : (table : ℕ) (rows : List Row) (n : ℕ) (cells : List Cell) → n ≡ 0 → rows ≡ put_at table rows n cells
unfolding put_at
put_none table rows n cells is = rw is refl

pub put_some : (table : ℕ) (rows : List Row) (n : ℕ) (cells : List Cell) → 0 < n → put_row table rows (n - 1) cells ≡ put_at table rows n cells
unfolding put_at
put_some table rows zero cells some = absurd (omega arith)
put_some table rows (suc n) cells some = let e : suc n - 1 ≡ n = omega arith in rw e refl

pub attached_within : (rows : List Row) (n : ℕ) (child : Token) (r d : Row) → 0 < n → n ≤ length rows → r ≡ with_child child (get_or rows (n - 1) d) → set rows (n - 1) r ≡ change_row rows n (with_child child)
unfolding change_row
attached_within rows zero child r d some low is = absurd (omega arith)
attached_within rows (suc n) child r d some low is =
    let e : suc n - 1 ≡ n = omega arith in
    rw e (set_is rows n (with_child child) r d (omega arith) (rw e at is))

pub attached_none : (rows : List Row) (n : ℕ) (child : Token) → n ≡ 0 → rows ≡ change_row rows n (with_child child)
unfolding change_row
attached_none rows n child is = rw is refl

pub attached_past : (rows : List Row) (n : ℕ) (child : Token) → length rows < n → rows ≡ change_row rows n (with_child child)
unfolding change_row
attached_past rows zero child high = absurd (omega arith)
attached_past rows (suc n) child high = change_past rows n (with_child child) (omega arith)

-- the tables of a module
pub put_table : (tables : List (List Row)) (row : Token) (cells : List Cell) (rows d : List Row) → row.table < length tables → rows ≡ put_at row.table (get_or tables row.table d) row.row cells
    → with_tables (set tables row.table rows) ≡ put (with_tables tables) (record { token = row; cells = cells })
unfolding put
put_table tables row cells rows d low is = ap with_tables (set_is tables row.table (λ rows. put_at row.table rows row.row cells) rows d low is)

pub put_no_table : (tables : List (List Row)) (row : Token) (cells : List Cell) → length tables ≤ row.table → with_tables tables ≡ put (with_tables tables) (record { token = row; cells = cells })
unfolding put
put_no_table tables row cells high = ap with_tables (change_past tables row.table (λ rows. put_at row.table rows row.row cells) high)

pub attach_table : (tables : List (List Row)) (owner child : Token) (rows d : List Row) → owner.table < length tables → rows ≡ change_row (get_or tables owner.table d) owner.row (with_child child)
    → with_tables (set tables owner.table rows) ≡ attach (with_tables tables) (record { owner = owner; child = child })
unfolding attach
attach_table tables owner child rows d low is = ap with_tables (set_is tables owner.table (λ rows. change_row rows owner.row (with_child child)) rows d low is)

pub attach_no_table : (tables : List (List Row)) (owner child : Token) → length tables ≤ owner.table → with_tables tables ≡ attach (with_tables tables) (record { owner = owner; child = child })
unfolding attach
attach_no_table tables owner child high = ap with_tables (change_past tables owner.table (λ rows. change_row rows owner.row (with_child child)) high)
