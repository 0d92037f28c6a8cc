-- The methods of a chain and a delta: their rows, their tokens and their user texts.
use Rattle.std.proofs.Common.{◌≡◌, ◌≢◌, ℕ, zero, suc, ◌<◌, ◌≤◌, length, List, Bool, true, false, Option, Some, None, refl, ◌∙◌, arith}
use Rattle.std.specs.Prelude.{◌==◌, ◌%◌, ◌&&◌, nat_lt, nat_le, Result, Ok, Err, IfOk}
use Rattle.std.proofs.lemmas.Option.{slice_get_past}
use Rattle.std.proofs.lemmas.Bool.Decides.{nat_tests}
use Rattle.enc_base.specs.declared.token.Token.{Token}
use Rattle.std.proofs.lemmas.List.Sums.{count_by-le-length}
use Rattle.enc_opcodes.specs.Body.{Code, is_good, texts_are_there}
use Rattle.enc_opcodes.proofs.Bodies.{good_alike}
use Rattle.enc_meta.specs.Regions.{Region}
use Rattle.enc_plain.specs.Bodies.{code_is_good, code_loaded, body_is_good}
use Rattle.enc_plain.specs.Chain.{Chain}
use Rattle.enc_plain.specs.Module.{Row, Module, rows_in, row_at, row_of, has_row, cell_of}
use Rattle.enc_delta.specs.Rules.{is_insert, inserts, has_body}

no_row : (rows : List Row) (r : ℕ) → (nat_lt 0 r && nat_le r (length rows)) ≡ false → row_at rows r ≡ None
no_row rows zero h = refl
no_row rows (suc i) h = let past : length rows ≤ i = grind (arith, nat_tests) in slice_get_past rows i past

-- what isn't a row has no cells
no_cell : (m : Module) (t : Token) (i : ℕ) → has_row m t ≡ false → cell_of m t i ≡ None
unfolding has_row cell_of row_of
no_cell m t i h = rw (no_row (rows_in m t.table) t.row h) refl

pub no_body_before : (m : Module) (t : Token) → has_row m t ≡ false → false ≡ has_body (cell_of m t 0)
no_body_before m t h = rw (no_cell m t 0 h) refl

-- no more inserts than tokens
pub inserts_few : (c : Chain) (tokens : List Token) (table n : ℕ) → n ≡ inserts c tokens table → n ≤ length tokens
unfolding inserts
inserts_few c tokens table n is = omega (arith, is, count_by-le-length (λ (t : Token). t.table == table && is_insert c t) tokens)

-- a body with its texts is as good by some numbers of rows as by others that agree on the tables of metadata
pub whole_body : {E : Type 0} (f g : ℕ → ℕ) (texts : ℕ → Option (List ℕ)) (c : Code) (r : Result Bool E) → ((t : ℕ) → t < 64 → f t ≡ g t) → IfOk r (λ good. good ≡ (is_good f c && texts_are_there texts c.code)) → IfOk r (λ good. good ≡ code_is_good g texts (Some c))
whole_body f g texts c (Ok good) same h = h ∙ rw (good_alike f g c same) refl
whole_body f g texts c (Err e) same h = tt

-- a body that stands at a place is judged there
judged_at : (count : ℕ → ℕ) (texts : ℕ → Option (List ℕ)) (regions : List Region) (place flags : ℕ) (code : Code) → place ≢ 0 → (flags % 4 == 0) ≡ true → Some code ≡ code_loaded regions place → code_is_good count texts (Some code) ≡ body_is_good count texts regions place flags
unfolding body_is_good
judged_at count texts regions zero flags code some il at = absurd (some refl)
judged_at count texts regions (suc n) flags code some il at = rw (il, ← at) refl

pub judged_there : {E : Type 0} (count : ℕ → ℕ) (texts : ℕ → Option (List ℕ)) (regions : List Region) (place flags : ℕ) (code : Code) (r : Result Bool E) → place ≢ 0 → (flags % 4 == 0) ≡ true → Some code ≡ code_loaded regions place → IfOk r (λ good. good ≡ code_is_good count texts (Some code)) → IfOk r (λ good. good ≡ body_is_good count texts regions place flags)
judged_there count texts regions place flags code (Ok good) some il at h = h ∙ judged_at count texts regions place flags code some il at
judged_there count texts regions place flags code (Err e) some il at h = tt
