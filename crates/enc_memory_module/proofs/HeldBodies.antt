-- The body of a method as it is held, and as its cell has it.
use Rattle.std.proofs.Common.{◌≡◌, ℕ, zero, suc, ◌-◌, ◌<◌, ◌≤◌, true, List, [], ◌∷◌, length, map, Option, Some, None, refl, sym, ap, ◌∙◌, arith}
use Rattle.std.specs.Prelude.{slice_get, option_map, option_and_then, not, ◌==◌, IfSome, IsTrue}
use Rattle.std.proofs.lemmas.Bool.Decides.{nat_tests}
use Rattle.std.proofs.lemmas.List.{length-map}
use Rattle.std.proofs.lemmas.Option.{slice_get-map, slice_get_within}
use Rattle.enc_base.specs.declared.token.Token.{Token}
use Rattle.enc_meta.specs.Heaps.{user_at}
use Rattle.enc_opcodes.specs.declared.code.CodeRef.{CodeRef}
use Rattle.enc_opcodes.specs.Body.{Body, Code, body_of, code_seen, texts_are_there}
use Rattle.enc_plain.specs.Cell.{Cell, number, text, blob, guid, refer, body, field, cell_kind, bodies}
use Rattle.enc_plain.specs.Module.{Module, Row, rows_in, row_at, row_of, has_row, cell_of}
use Rattle.enc_plain.specs.Sound.{row_count, IsSound}
use Rattle.enc_plain.proofs.KindsOf.{row_bounds}
use Rattle.enc_memory_module.specs.Plain.{body_in_cell, body_at_row}
use Rattle.enc_memory_module.specs.Encoded.{body_of_row, bodies_meant, has_texts, HoldsCodes}

-- a cell of a body is that body
is_body : (o : Option Cell) → option_map cell_kind o ≡ Some bodies → o ≡ Some (body (body_in_cell o))
is_body None h = absurd cc
is_body (Some (number n)) h = absurd cc
is_body (Some (text b)) h = absurd cc
is_body (Some (blob b)) h = absurd cc
is_body (Some (guid b)) h = absurd cc
is_body (Some (refer t)) h = absurd cc
is_body (Some (body b)) h = refl
is_body (Some (field b)) h = absurd cc

-- the first cell of a method has a body, or says that there is none
pub method_cell : (m : Module) (u : Token) → IsSound m → has_row m u ≡ true → u.table ≡ 6 → cell_of m u 0 ≡ Some (body (body_in_cell (cell_of m u 0)))
method_cell m u sound there is = is_body (cell_of m u 0) (sound.kinds.kinds u 0 bodies there (rw is refl))

-- the row of a token that is there
row_at_least : (rows : List Row) (n : ℕ) → 0 < n → row_at rows n ≡ slice_get rows (n - 1)
row_at_least rows zero some = absurd (omega arith)
row_at_least rows (suc n) some = let e : suc n - 1 ≡ n = omega arith in rw e refl

first_of_row : (o : Option Row) → body_in_cell (option_and_then (λ (r : Row). slice_get r.cells 0) o) ≡ body_in_cell (option_and_then (λ (c : Cell). Some c) (option_and_then (λ (r : Row). slice_get r.cells 0) o))
first_of_row None = refl
first_of_row (Some r) = by (slice_get r.cells 0)
  where
    by : (c : Option Cell) → body_in_cell c ≡ body_in_cell (option_and_then (λ (c : Cell). Some c) c)
    by None = refl
    by (Some c) = refl

-- the body of the method of the n-th row
pub said_of_row : (m : Module) (u : Token) (r : Row) → u.table ≡ 6 → 0 < u.row → slice_get (rows_in m 6) (u.row - 1) ≡ Some r → body_in_cell (cell_of m u 0) ≡ body_of_row r
unfolding cell_of row_of
said_of_row m u r is some there =
    ap (λ o. body_in_cell (option_and_then (λ (r : Row). slice_get r.cells 0) o)) (ap (λ t. row_at (rows_in m t) u.row) is ∙ row_at_least (rows_in m 6) u.row some ∙ there)

some_same : {A : Type 0} (a b : A) → Some a ≡ Some b → a ≡ b
some_same a b h = cc

found : (rows : List Row) (n : ℕ) → n < length rows → (r : Row) × (slice_get rows n ≡ Some r)
found [] n low = absurd (omega arith)
found (r ∷ rows) zero low = (r, refl)
found (r ∷ rows) (suc n) low = found rows n (omega arith)

-- there are as many bodies as methods
pub as_many : (m : Module) (users : List ℕ) (codes : List (Option Code)) → HoldsCodes m users codes → length codes ≡ row_count m 6
as_many m users codes holds = sym (length-map codes (option_map (body_of (user_at users)))) ∙ ap length holds.bodies ∙ length-map (rows_in m 6) body_of_row

-- the body that is held for a method is that of its cell
pub held_stands : (m : Module) (users : List ℕ) (codes : List (Option Code)) (u : Token) (c : Option Code) → HoldsCodes m users codes → has_row m u ≡ true → u.table ≡ 6 → slice_get codes (u.row - 1) ≡ Some c
    → cell_of m u 0 ≡ Some (body (option_map (body_of (user_at users)) c))
held_stands m users codes u c holds there is held =
    let bounds = row_bounds m u there in
    let n = as_many m users codes holds in
    let low : u.row - 1 < length (rows_in m 6) = omega (arith, n, slice_get_within codes (u.row - 1) c held) in
    let r = found (rows_in m 6) (u.row - 1) low in
    let meant : slice_get (bodies_meant users codes) (u.row - 1) ≡ Some (option_map (body_of (user_at users)) c) = slice_get-map (option_map (body_of (user_at users))) codes (u.row - 1) ∙ ap (option_map (option_map (body_of (user_at users)))) held in
    let said : slice_get (map body_of_row (rows_in m 6)) (u.row - 1) ≡ Some (body_of_row r.0) = slice_get-map body_of_row (rows_in m 6) (u.row - 1) ∙ ap (option_map body_of_row) r.1 in
    let same : body_of_row r.0 ≡ option_map (body_of (user_at users)) c = some_same _ _ (sym said ∙ ap (λ bs. slice_get bs (u.row - 1)) (sym holds.bodies) ∙ meant) in
    method_cell m u holds.sound there is ∙ ap (λ b. Some (body b)) (said_of_row m u r.0 is bounds.0 r.1 ∙ same)

-- and each user text that its code names is there
pub texts_seen : (texts : ℕ → Option (List ℕ)) (o : Option CodeRef) (h : Option Code) → option_map code_seen o ≡ h → has_texts texts h ≡ true
    → IfSome o (λ c. IsTrue (texts_are_there texts c.code.now))
texts_seen texts None h is there = tt
texts_seen texts (Some c) h is there = rw (← is) at there

-- the body of a row's number
pub placed : (m : Module) (u : Token) (b : Option Body) → u.table ≡ 6 → cell_of m u 0 ≡ Some (body b) → body_at_row m u.row ≡ b
unfolding body_at_row
placed m u b is cell =
    let e : u ≡ record { table = 6; row = u.row } = rw (← is) refl in
    rw (← e) (ap body_in_cell cell)

-- there is one for each method
past_none : {A : Type 0} (xs : List A) (n : ℕ) → slice_get xs n ≡ None → length xs ≤ n
past_none [] n h = omega arith
past_none (x ∷ xs) zero h = absurd cc
past_none (x ∷ xs) (suc n) h = let e = past_none xs n h in omega (arith, e)

pub some_held : (m : Module) (users : List ℕ) (codes : List (Option Code)) (u : Token) → HoldsCodes m users codes → has_row m u ≡ true → u.table ≡ 6 → slice_get codes (u.row - 1) ≡ None → ⊥
some_held m users codes u holds there is none =
    let bounds = row_bounds m u there in
    let high : u.row ≤ row_count m 6 = rw is at bounds.1 in
    let n = as_many m users codes holds in
    let past = past_none codes (u.row - 1) none in
    omega (arith, n, past, high, bounds.0)

-- row 0 is no method
pub none_in : (m : Module) → body_at_row m 0 ≡ None
unfolding body_at_row cell_of row_of
none_in m = refl

pub not_none : (n : ℕ) → 0 < n → not (n == 0) ≡ true
not_none n some = grind (arith, nat_tests)
