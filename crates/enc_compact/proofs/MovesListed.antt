-- The rows that move, one more at a time.
use Rattle.std.proofs.Common.{◌≡◌, ℕ, zero, suc, ◌+◌, List, [], ◌∷◌, ◌++◌, map, refl, sym, ap, ◌∙◌, append_assoc, arith}
use Rattle.std.specs.Prelude.{flat_map, if◌then◌else◌}
use Rattle.std.specs.List.{range_with_len}
use Rattle.enc_base.specs.Token.{is_token}
use Rattle.enc_base.specs.declared.token.Token.{Token}
use Rattle.enc_rows.specs.Sums.{below}
use Rattle.enc_plain.specs.Module.{Module}
use Rattle.enc_plain.specs.Sound.{row_count}
use Rattle.enc_compact.specs.Moved.{moves_of_row, moves_in, moves_listed}
use Rattle.enc_row_order.specs.Orders.{standing_rows, new_of}
use Rattle.enc_row_order.proofs.Rowed.{more_upto}

-- those of the first rows of a table
abbrev pub moves_upto : Module → ℕ → ℕ → List (Token × Token)
moves_upto m table n = flat_map (λ row. moves_of_row m (record { table = table; row = row })) (map (λ k. k + 1) (below n))

flat_last : {A B : Type 0} (f : A → List B) (xs : List A) (x : A) → flat_map f (xs ++ x ∷ []) ≡ flat_map f xs ++ f x
flat_last f [] x = none (f x)
  where
    none : {B : Type 0} (ys : List B) → ys ++ [] ≡ ys
    none [] = refl
    none (y ∷ ys) = ap (λ zs. y ∷ zs) (none ys)
flat_last {A} {B} f (y ∷ ys) x = ap (λ (zs : List B). f y ++ zs) (flat_last f ys x) ∙ sym (append_assoc (f y) (flat_map f ys) (f x))

pub none_move : (m : Module) (table : ℕ) → moves_upto m table 0 ≡ []
unfolding below
none_move m table = refl

pub more_moves : (m : Module) (table n : ℕ) → moves_upto m table (n + 1) ≡ moves_upto m table n ++ moves_of_row m (record { table = table; row = n + 1 })
more_moves m table n =
    ap (flat_map (λ row. moves_of_row m (record { table = table; row = row }))) (sym (more_upto n))
    ∙ flat_last (λ row. moves_of_row m (record { table = table; row = row })) (map (λ k. k + 1) (below n)) (n + 1)

pub all_moves : (m : Module) (table n : ℕ) → n ≡ row_count m table → moves_upto m table n ≡ moves_in m table
unfolding moves_in standing_rows
all_moves m table n e = ap (moves_upto m table) e

-- those of the first tables
abbrev pub tables_upto : Module → ℕ → List (Token × Token)
tables_upto m n = flat_map (moves_in m) (below n)

from_suc : (a n : ℕ) → range_with_len a (suc n) ≡ range_with_len a n ++ (a + n) ∷ []
from_suc a zero = let e : a + 0 ≡ a = omega arith in rw e refl
from_suc a (suc n) =
    let e : a + suc n ≡ a + 1 + n = omega arith in
    rw e (ap (λ xs. a ∷ xs) (from_suc (a + 1) n))

below_more : (n : ℕ) → below (n + 1) ≡ below n ++ n ∷ []
unfolding below
below_more n =
    let e : n + 1 ≡ suc n = omega arith in
    let z : 0 + n ≡ n = omega arith in
    ap (range_with_len 0) e ∙ from_suc 0 n ∙ ap (λ k. range_with_len 0 n ++ k ∷ []) z

pub no_tables : (m : Module) → tables_upto m 0 ≡ []
unfolding below
no_tables m = refl

pub more_tables : (m : Module) (n : ℕ) → tables_upto m (n + 1) ≡ tables_upto m n ++ moves_in m n
more_tables m n = ap (flat_map (moves_in m)) (below_more n) ∙ flat_last (moves_in m) (below n) n

pub all_tables : (m : Module) → tables_upto m 0x2D ≡ moves_listed m
unfolding moves_listed
all_tables m = refl

-- so a loop appends them
no_more : {A : Type 0} (xs : List A) → xs ++ [] ≡ xs
no_more [] = refl
no_more {A} (x ∷ xs) = ap (λ (ys : List A). x ∷ ys) (no_more xs)

pub rows_begin : (m : Module) (table : ℕ) (xs : List (Token × Token)) → xs ≡ xs ++ moves_upto m table 0
rows_begin m table xs = sym (ap (λ (ys : List (Token × Token)). xs ++ ys) (none_move m table) ∙ no_more xs)

pub one_row : (m : Module) (table n : ℕ) (xs ys new : List (Token × Token)) (u : Token) → ys ≡ xs ++ moves_upto m table n
    → u ≡ new_of m (record { table = table; row = n + 1 })
    → new ≡ ys ++ (if is_token u (record { table = table; row = n + 1 }) then [] else (record { table = table; row = n + 1 }, u) ∷ [])
    → new ≡ xs ++ moves_upto m table (n + 1)
one_row m table n xs ys new u before moved pushed =
    let t : Token = record { table = table; row = n + 1 } in
    pushed
    ∙ ap (λ (w : Token). ys ++ (if is_token w t then [] else (t, w) ∷ [])) moved
    ∙ ap (λ (zs : List (Token × Token)). zs ++ moves_of_row m t) before
    ∙ append_assoc xs (moves_upto m table n) (moves_of_row m t)
    ∙ ap (λ (zs : List (Token × Token)). xs ++ zs) (sym (more_moves m table n))

pub rows_end : (m : Module) (table n : ℕ) (xs ys : List (Token × Token)) → ys ≡ xs ++ moves_upto m table n → n ≡ row_count m table → ys ≡ xs ++ moves_in m table
rows_end m table n xs ys e all = e ∙ ap (λ (zs : List (Token × Token)). xs ++ zs) (all_moves m table n all)

pub one_table : (m : Module) (n : ℕ) (ys new : List (Token × Token)) → ys ≡ tables_upto m n → new ≡ ys ++ moves_in m n → new ≡ tables_upto m (n + 1)
one_table m n ys new before pushed = pushed ∙ ap (λ (zs : List (Token × Token)). zs ++ moves_in m n) before ∙ sym (more_tables m n)

pub tables_end : (m : Module) (n : ℕ) (ys : List (Token × Token)) → ys ≡ tables_upto m n → n ≡ 0x2D → ys ≡ moves_listed m
tables_end m n ys e all = e ∙ ap (tables_upto m) all ∙ all_tables m
