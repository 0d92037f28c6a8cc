-- A row that isn't there has no children.
use Rattle.std.proofs.Common.{◌≡◌, ◌<◌, ◌≤◌, ℕ, zero, suc, true, false, List, [], length, None, ◌++◌, append-nil, refl, arith, sym}
use Rattle.std.specs.Prelude.{◌&&◌, ◌==◌, nat_lt, nat_le, slice_get, Bool, if◌then◌else◌}
use Rattle.std.proofs.lemmas.Option.{slice_get_past}
use Rattle.enc_base.specs.declared.token.Token.{Token}
use Rattle.enc_schema.specs.Children.{is_child_table, owner_table}
use Rattle.enc_lookup.specs.Members.{kids_named}
use Rattle.enc_plain.specs.Module.{Module, Row, has_row, kids_of, kids_with, row_of, row_at, rows_in}

past_end : (rows : List Row) (n : ℕ) → (nat_lt 0 (suc n) && nat_le (suc n) (length rows)) ≡ false → length rows ≤ n
past_end rows n e = grind arith

no_row : (rows : List Row) (n : ℕ) → (nat_lt 0 n && nat_le n (length rows)) ≡ false → row_at rows n ≡ None
no_row rows zero e = refl
no_row rows (suc n) e = slice_get_past rows n (omega (arith, past_end rows n e))

absent_row : (m : Module) (t : Token) → has_row m t ≡ false → row_of m t ≡ None
unfolding has_row row_of
absent_row m t e = no_row (rows_in m t.table) t.row e

either_none : (b : Bool) → (if◌then◌else◌ {A = List ℕ} b [] []) ≡ []
either_none true = refl
either_none false = refl

pub absent_kids : (m : Module) (t : Token) (table : ℕ) → has_row m t ≡ false → kids_of m t table ≡ []
unfolding kids_of
absent_kids m t table e = rw (absent_row m t e) (either_none (is_child_table table && t.table == owner_table table))

-- so none of them has a name
pub none_named : (m : Module) (table : ℕ) (name : List ℕ) (t : Token) (found : List ℕ) → has_row m t ≡ false → found ≡ found ++ kids_named m table name t
unfolding kids_named
none_named m table name t found e = rw (absent_kids m t table e) (sym (append-nil found))
