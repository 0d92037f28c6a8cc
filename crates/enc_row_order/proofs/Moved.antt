-- Where tokens go in an order that is listed table by table.
use Rattle.std.proofs.Common.{◌≡◌, ℕ, zero, suc, ◌<◌, ◌≤◌, List, [], ◌∷◌, length, get_or, refl, ap, sym, ◌∙◌, arith}
use Rattle.enc_base.specs.declared.token.Token.{Token}
use Rattle.enc_schema.specs.Schema.{list_at}
use Rattle.enc_row_order.specs.Orders.{moved_by, place_in_order, old_row, place_behind}

-- past the last table there is no list
pub past_all : {A : Type 0} (lists : List (List A)) (t : ℕ) → length lists ≤ t → list_at lists t ≡ []
past_all [] t past = refl
past_all (xs ∷ lists) zero past = absurd (omega (arith, past))
past_all (xs ∷ lists) (suc t) past = past_all lists t (omega (arith, past))

pub there_at : (lists : List (List ℕ)) (t : ℕ) (d : List ℕ) → t < length lists → get_or lists t d ≡ list_at lists t
there_at [] t d low = absurd (omega (arith, low))
there_at (xs ∷ lists) zero d low = refl
there_at (xs ∷ lists) (suc t) d low = there_at lists t d (omega (arith, low))

abbrev with_row : Token → ℕ → Token
with_row t row = record { table = t.table; row = row }

pub moves_none : (lists : List (List ℕ)) (t : Token) → length lists ≤ t.table → t ≡ moved_by (list_at lists) t
unfolding moved_by place_in_order place_behind
moves_none lists t past = ap (λ rows. with_row t (place_in_order rows t.row)) (sym (past_all lists t.table past))

pub moves_some : (lists : List (List ℕ)) (t : Token) (rows : List ℕ) (row : ℕ) → rows ≡ list_at lists t.table → row ≡ place_in_order rows t.row
    → record { table = t.table; row = row } ≡ moved_by (list_at lists) t
unfolding moved_by
moves_some lists t rows row there is = ap (with_row t) (is ∙ ap (λ xs. place_in_order xs t.row) there)

old_none : (row : ℕ) → row ≡ old_row [] row
unfolding old_row
old_none zero = refl
old_none (suc i) = refl

pub comes_none : (lists : List (List ℕ)) (t : Token) → length lists ≤ t.table → t ≡ record { table = t.table; row = old_row (list_at lists t.table) t.row }
comes_none lists t past = ap (with_row t) (old_none t.row ∙ ap (λ xs. old_row xs t.row) (sym (past_all lists t.table past)))
