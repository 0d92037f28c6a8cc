-- Sums modulo 2^64, one number after the other.
use Rattle.std.proofs.Common.{◌≡◌, ℕ, zero, suc, ◌+◌, ◌%◌, ◌^◌, ◌<◌, ◌≤◌, length, List, [], ◌∷◌, ◌++◌, map, take, Option, Some, None, refl, sym, ap, ◌∙◌, Bool, true, arith}
use Rattle.std.proofs.lemmas.List.{take_all}
use Rattle.std.proofs.lemmas.List.Sums.{sum_by-cons, sum_by-append}
use Rattle.std.specs.Prelude.{sum_by, slice_get, option_and_then, ◌==◌, if◌then◌else◌}
use Rattle.enc_opcodes.specs.Instruction.{Argument, nothing, number, target, targets, token, text, raw, Instruction, instr_in, rest_of, instructions_of}
use Rattle.enc_opcodes.specs.Body.{Code, body_of, told, instruction_told}
use Rattle.enc_plain.specs.Cell.{Cell, body}
use Rattle.enc_plain.specs.Module.{Module, Row, rows_in, row_at, has_row, row_of, cell_of}
use Rattle.enc_plain.proofs.KindsOf.{row_there}
use Rattle.enc_opcodes.proofs.Instructions.{rest_none, rest_more}
use Rattle.enc_command_line.specs.Case.{number_loaded, loaded_by, loaded_in_body, sum_loaded}

-- what the instructions from a place on load
abbrev pub loaded_from : List ℕ → ℕ → ℕ
loaded_from code at = sum_by (λ (x : ℕ × Instruction ℕ). loaded_by x.1) (rest_of code at)

-- a number added to a sum, and what is left without it
onto : (sum here left new all : ℕ) → new ≡ (sum + here) % 2 ^ 64 → all ≡ here + left → (new + left) % 2 ^ 64 ≡ (sum + all) % 2 ^ 64
onto sum here left new all more split = rw (more, split) (omega arith)

-- one instruction more
pub instruction_more : (code : List ℕ) (at n : ℕ) (i : Instruction ℕ) (sum new : ℕ) → Some (i, n) ≡ instr_in code at → new ≡ (sum + loaded_by i) % 2 ^ 64 → (new + loaded_from code n) % 2 ^ 64 ≡ (sum + loaded_from code at) % 2 ^ 64
instruction_more code at n i sum new is more = onto sum (loaded_by i) (loaded_from code n) new (loaded_from code at) more (ap (λ xs. sum_by (λ (x : ℕ × Instruction ℕ). loaded_by x.1) xs) (rest_more code at n i (sym is)) ∙ sum_by-cons (λ (x : ℕ × Instruction ℕ). loaded_by x.1) (at, i) (rest_of code n))

-- none is left
pub instruction_none : (code : List ℕ) (at : ℕ) → None ≡ instr_in code at → loaded_from code at ≡ 0
instruction_none code at is = rw (rest_none code at (sym is)) refl

take_more : {X : Type 0} (xs : List X) (i : ℕ) (x : X) → slice_get xs i ≡ Some x → take (i + 1) xs ≡ take i xs ++ x ∷ []
take_more [] i x h = absurd (cc)
take_more (y ∷ ys) zero x h = let e : y ≡ x = cc in ap (λ z. z ∷ []) e
take_more (y ∷ ys) (suc i) x h = let e : suc i + 1 ≡ suc (i + 1) = omega arith in rw e (ap (λ zs. y ∷ zs) (take_more ys i x h))

there_below : {X : Type 0} (xs : List X) (n : ℕ) → n < length xs → (x : X) × (slice_get xs n ≡ Some x)
there_below [] n low = absurd (omega arith)
there_below (x ∷ xs) zero low = (x, refl)
there_below (x ∷ xs) (suc n) low = there_below xs n (omega arith)

-- all is summed
pub summed : (sum left all : ℕ) → sum < 2 ^ 64 → left ≡ 0 → (sum + left) % 2 ^ 64 ≡ all % 2 ^ 64 → sum ≡ all % 2 ^ 64
summed sum left all fits none is = omega (arith, fits, none, is)

argument_told : (texts : ℕ → Option (List ℕ)) (b : Bool) (a : Argument ℕ) → (if b then number_loaded (told texts a) else 0) ≡ (if b then number_loaded a else 0)
argument_told texts b nothing = refl
argument_told texts b (number n) = refl
argument_told texts b (target t) = refl
argument_told texts b (targets ts) = refl
argument_told texts b (token t) = refl
argument_told texts b (text offset) = refl
argument_told texts b (raw bytes) = refl

-- an instruction whose texts stand for their offsets loads what it loads
loaded_told : (texts : ℕ → Option (List ℕ)) (x : ℕ × Instruction ℕ) → loaded_by (instruction_told texts x).1 ≡ loaded_by x.1
loaded_told texts x = argument_told texts (x.1.op.byte == 0x20) x.1.arg

all_told : (texts : ℕ → Option (List ℕ)) (xs : List (ℕ × Instruction ℕ)) → sum_by (λ (x : ℕ × Instruction (List ℕ)). loaded_by x.1) (map (instruction_told texts) xs) ≡ sum_by (λ (x : ℕ × Instruction ℕ). loaded_by x.1) xs
all_told texts [] = refl
all_told texts (x ∷ xs) =
    let f = λ (x : ℕ × Instruction ℕ). loaded_by x.1 in
    let g = λ (x : ℕ × Instruction (List ℕ)). loaded_by x.1 in
    let one = loaded_told texts x in
    let rest = all_told texts xs in
    let left = sum_by-cons g (instruction_told texts x) (map (instruction_told texts) xs) in
    let right = sum_by-cons f x xs in
    left ∙ ap (λ (n : ℕ). n + sum_by g (map (instruction_told texts) xs)) one ∙ ap (λ (n : ℕ). f x + n) rest ∙ sym right

-- so does a body of such instructions
pub body_loaded : (texts : ℕ → Option (List ℕ)) (b : Code) (o : Option Cell) → o ≡ Some (body (Some (body_of texts b))) → loaded_in_body o ≡ loaded_from b.code 0
unfolding body_of
body_loaded texts b o is = rw is (all_told texts (instructions_of b.code))

pub none_loaded : (o : Option Cell) → o ≡ Some (body None) → loaded_in_body o ≡ 0
none_loaded o is = rw is refl

-- what the methods of the first rows load
abbrev pub rows_loaded : List Row → ℕ
rows_loaded rows = sum_by (λ (r : Row). loaded_in_body (slice_get r.cells 0)) rows

row_more : (rows : List Row) (n : ℕ) (r : Row) → slice_get rows n ≡ Some r → rows_loaded (take (n + 1) rows) ≡ rows_loaded (take n rows) + loaded_in_body (slice_get r.cells 0)
row_more rows n r is =
    let f = λ (r : Row). loaded_in_body (slice_get r.cells 0) in
    let one = ap (sum_by f) (take_more rows n r is) ∙ sum_by-append f (take n rows) (r ∷ []) in
    let last = sum_by-cons f r [] in
    omega (arith, one, last)

-- a method's cell is that of its row
cell_is : (m : Module) (n : ℕ) (r : Row) → slice_get (rows_in m 6) n ≡ Some r → cell_of m (record { table = 6; row = n + 1 }) 0 ≡ slice_get r.cells 0
unfolding cell_of row_of
cell_is m n r there = by (n + 1) (omega arith)
  where
    by : (k : ℕ) → k ≡ suc n → option_and_then (λ (r : Row). slice_get r.cells 0) (row_at (rows_in m 6) k) ≡ slice_get r.cells 0
    by k e = rw (e, there) refl

pub method_more : (m : Module) (n sum new here : ℕ) → n < length (rows_in m 6) → sum ≡ rows_loaded (take n (rows_in m 6)) % 2 ^ 64 → here ≡ loaded_in_body (cell_of m (record { table = 6; row = n + 1 }) 0) % 2 ^ 64
    → new ≡ (sum + here) % 2 ^ 64 → new ≡ rows_loaded (take (n + 1) (rows_in m 6)) % 2 ^ 64
method_more m n sum new here low so is more =
    let w = there_below (rows_in m 6) n low in
    let next = row_more (rows_in m 6) n w.0 w.1 in
    let cell = ap loaded_in_body (cell_is m n w.0 w.1) in
    omega (arith, so, is, more, next, cell)

pub all_summed : (m : Module) (n sum : ℕ) → length (rows_in m 6) ≤ n → sum ≡ rows_loaded (take n (rows_in m 6)) % 2 ^ 64 → sum ≡ sum_loaded m
unfolding sum_loaded
all_summed m n sum all so = so ∙ ap (λ (rows : List Row). rows_loaded rows % 2 ^ 64) (take_all n (rows_in m 6) all)

pub method_there : (m : Module) (n : ℕ) → n < length (rows_in m 6) → has_row m (record { table = 6; row = n + 1 }) ≡ true
method_there m n low = row_there m (record { table = 6; row = n + 1 }) (omega arith) (omega (arith, low))
