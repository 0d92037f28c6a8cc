-- The type that declares a method, asked of any token.
use Rattle.std.proofs.Common.{◌≡◌, ℕ, zero, suc, ◌+◌, Bool, true, false, List, [], ◌∷◌, Option, Some, None, option_map, slice_get, refl, sym, ap, ◌∙◌, arith}
use Rattle.std.specs.Prelude.{◌==◌, position, if◌then◌else◌}
use Rattle.std.specs.List.{list_any}
use Rattle.enc_base.specs.Token.{nth_row}
use Rattle.enc_base.specs.declared.token.Token.{Token}
use Rattle.enc_plain.specs.Module.{Module, Row, rows_in, row_of, has_row, has_kid, kids_at, kids_of, owner_of}
use Rattle.enc_plain.specs.Sound.{IsSound}
use Rattle.enc_plain.proofs.Owned.{position_cons}
use Rattle.enc_dispatch.specs.Walks.{method_at}
use Rattle.enc_dispatch.proofs.Kept.{kid_there}
use Rattle.enc_dispatch.proofs.Reached.{owner_class}
use Rattle.enc_dispatch.proofs.WalkSteps.{method_is}

pub owner_type : (m : Module) (method owner : Token) → method.table ≡ 0x06 → owner_of m method ≡ Some owner → owner.table ≡ 0x02
owner_type m method owner table e = owner_class m method.row owner (ap (owner_of m) (sym (method_is method table)) ∙ e)

-- the row at the place that is found passes
pub record IsFound (p : Row → Bool) (rows : List Row) (i : ℕ) : Type 0 where
  pub row : Row
  pub at : slice_get rows i ≡ Some row
  pub passes : p row ≡ true

found : (p : Row → Bool) (rows : List Row) (i : ℕ) → position p rows ≡ Some i → IsFound p rows i
found p [] i e = absurd cc
found p (r ∷ rows) i e = by_test (p r) (position p rows) refl (found p rows) (sym (position_cons p r rows) ∙ e)
  where
    later : (o : Option ℕ) (i : ℕ) → ((j : ℕ) → o ≡ Some j → IsFound p rows j) → option_map suc o ≡ Some i → IsFound p (r ∷ rows) i
    later None i rest e = absurd cc
    later (Some j) zero rest e = absurd cc
    later (Some j) (suc i) rest e = let f : j ≡ i = cc in let w = rest i (ap (λ k. Some k) f) in record { row = w.row; at = w.at; passes = w.passes }

    here : (i : ℕ) → p r ≡ true → Some 0 ≡ Some i → IsFound p (r ∷ rows) i
    here zero is e = record { row = r; at = refl; passes = is }
    here (suc i) is e = absurd cc

    by_test : (b : Bool) (o : Option ℕ) → p r ≡ b → ((j : ℕ) → o ≡ Some j → IsFound p rows j) → (if b then Some 0 else option_map suc o) ≡ Some i → IsFound p (r ∷ rows) i
    by_test true o is rest e = here i is e
    by_test false o is rest e = later o i rest e

kids_there : (m : Module) (i : ℕ) (r : Row) → slice_get (rows_in m 0x02) i ≡ Some r → kids_of m (nth_row 0x02 i) 0x06 ≡ kids_at r 0x06
unfolding kids_of row_of
kids_there m i r e = let next : i + 1 ≡ suc i = omega arith in rw (next, e) refl

owned_row : (m : Module) (row : ℕ) (o : Option ℕ) → IsSound m → position (has_kid (method_at row)) (rows_in m 0x02) ≡ o → has_row m (method_at row) ≡ false → option_map (nth_row 0x02) o ≡ None
owned_row m row None sound e absent = refl
owned_row m row (Some i) sound e absent =
    let w = found (has_kid (method_at row)) (rows_in m 0x02) i e in
    let has : list_any (λ (j : ℕ). j == row) (kids_of m (nth_row 0x02 i) 0x06) ≡ true = rw (kids_there m i w.row w.at) w.passes in
    let there : true ≡ false = sym (kid_there m (nth_row 0x02 i) row sound has) ∙ absent in
    absurd cc

row_unowned : (m : Module) (row : ℕ) → IsSound m → has_row m (method_at row) ≡ false → owner_of m (method_at row) ≡ None
unfolding owner_of
row_unowned m row sound absent = owned_row m row (position (has_kid (method_at row)) (rows_in m 0x02)) sound refl absent

-- what is no row has none
pub no_owner : (m : Module) (method : Token) → IsSound m → method.table ≡ 0x06 → has_row m method ≡ false → owner_of m method ≡ None
no_owner m method sound table absent =
    let is = method_is method table in
    ap (owner_of m) is ∙ row_unowned m method.row sound (ap (has_row m) (sym is) ∙ absent)

pub ruleset declaring_steps = (owner_type, no_owner)
