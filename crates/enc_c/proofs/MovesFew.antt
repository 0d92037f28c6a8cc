-- The tokens of rows that move have room in their numbers.
use Rattle.std.proofs.Common.{◌≡◌, ℕ, zero, suc, ◌+◌, ◌<◌, ◌≤◌, ◌^◌, Bool, true, false, List, [], ◌∷◌, ◌++◌, map, Some, refl, sym, ap, ◌∙◌, arith}
use Rattle.std.specs.Prelude.{flat_map, if◌then◌else◌}
use Rattle.std.specs.List.{list_all, range_with_len, slice_get}
use Rattle.std.proofs.lemmas.Bool.{and_from}
use Rattle.std.proofs.lemmas.Bool.Decides.{nat_tests}
use Rattle.std.proofs.lemmas.List.Folds.{list_all-append}
use Rattle.enc_base.specs.Token.{is_token}
use Rattle.enc_base.specs.declared.token.Token.{Token}
use Rattle.enc_rows.specs.Sums.{below}
use Rattle.enc_base.specs.Tables as tables
use Rattle.enc_plain.specs.Module.{Module}
use Rattle.enc_plain.specs.Sound.{IsSound, row_count}
use Rattle.enc_plain.proofs.Columns.{both_left, both_right}
use Rattle.enc_row_order.specs.Orders.{moved_by, new_order, standing_rows}
use Rattle.enc_compact.specs.Moved.{moves_in, moves_listed, moves_of_row}
use Rattle.enc_compact.proofs.MovesLow.{moved_few}
use Rattle.enc_compact.proofs.NewOrder.{new_order_are}
use Rattle.enc_c.specs.Moves.{is_told_move}

both_all : {A : Type 0} (p : A → Bool) (xs ys : List A) → list_all p xs ≡ true → list_all p ys ≡ true → list_all p (xs ++ ys) ≡ true
both_all p xs ys a b = list_all-append p xs ys ∙ and_from (list_all p xs) (list_all p ys) a b

one_by : (t u : Token) (b : Bool) → t.row < 2 ^ 24 → u.row < 2 ^ 24 → list_all is_told_move (if b then [] else (t, u) ∷ []) ≡ true
one_by t u true old new = refl
one_by t u false old new = grind (arith, nat_tests)

one_row : (m : Module) (t : Token) → IsSound m → t.row < 2 ^ 24 → list_all is_told_move (moves_of_row m t) ≡ true
one_row m t sound low = one_by t (moved_by (new_order m) t) (is_token (moved_by (new_order m) t) t) low (moved_few m (new_order m) t (new_order_are m sound) sound.counts low)

some_rows : (m : Module) (table a n : ℕ) → IsSound m → a + n ≤ row_count m table
    → list_all is_told_move (flat_map (λ row. moves_of_row m (record { table = table; row = row })) (map (λ i. i + 1) (range_with_len a n))) ≡ true
some_rows m table a zero sound le = refl
some_rows m table a (suc n) sound le =
    let few = sound.counts.few table in
    both_all is_told_move (moves_of_row m (record { table = table; row = a + 1 }))
    (flat_map (λ row. moves_of_row m (record { table = table; row = row })) (map (λ i. i + 1) (range_with_len (a + 1) n)))
    (one_row m (record { table = table; row = a + 1 }) sound (omega (arith, few, le))) (some_rows m table (a + 1) n sound (omega (arith, le)))

in_table : (m : Module) (table : ℕ) → IsSound m → list_all is_told_move (moves_in m table) ≡ true
unfolding moves_in standing_rows below
in_table m table sound = some_rows m table 0 (row_count m table) sound (omega arith)

in_tables : (m : Module) (list : List ℕ) → IsSound m → list_all is_told_move (flat_map (moves_in m) list) ≡ true
in_tables m [] sound = refl
in_tables m (t ∷ list) sound = both_all is_told_move (moves_in m t) (flat_map (moves_in m) list) (in_table m t sound) (in_tables m list sound)

pub moves_few : (m : Module) → IsSound m → list_all is_told_move (moves_listed m) ≡ true
unfolding moves_listed
moves_few m sound = in_tables m (below tables.table_count) sound

-- so has each of them
pub low_move : (moves : List (Token × Token)) (i : ℕ) (x : Token × Token) → list_all is_told_move moves ≡ true → slice_get moves i ≡ Some x → (x.0.row < 2 ^ 24) × (x.1.row < 2 ^ 24)
low_move [] i x all is = absurd cc
low_move (y ∷ moves) zero x all is =
    let e : y ≡ x = cc in
    let low : is_told_move x ≡ true = ap is_told_move (sym e) ∙ both_left (is_told_move y) (list_all is_told_move moves) all in
    (grind (arith, nat_tests), grind (arith, nat_tests))
low_move (y ∷ moves) (suc i) x all is = low_move moves i x (both_right (is_told_move y) (list_all is_told_move moves) all) is
