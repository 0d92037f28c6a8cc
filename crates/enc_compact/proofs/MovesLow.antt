-- An order moves tokens to rows that a token's number has room for.
use Rattle.std.proofs.Common.{◌≡◌, ℕ, ◌<◌, ◌≤◌, ◌^◌, false, refl, sym, ap, ◌∙◌, inl, inr, arith}
use Rattle.std.specs.Prelude.{not, ◌&&◌, nat_lt}
use Rattle.std.proofs.lemmas.Bool.{cases_lt}
use Rattle.std.proofs.lemmas.Bool.Decides.{nat_tests}
use Rattle.enc_base.specs.declared.token.Token.{Token}
use Rattle.enc_plain.specs.Module.{Module}
use Rattle.enc_plain.specs.Sound.{row_count, HasCounts}
use Rattle.enc_compact.specs.Moved.{AreOrders}
use Rattle.enc_compact.specs.Mover.{comes_past, moved_low}
use Rattle.enc_row_order.specs.Orders.{Orders, place_in_order, moved_by}
use Rattle.enc_compact.proofs.Places.{is_order, new_bounds, new_absent}

not_past : (a b : ℕ) → (a < 2 ^ 24 → b < 2 ^ 24) → (nat_lt a (2 ^ 24) && not (nat_lt b (2 ^ 24))) ≡ false
not_past a b h = elim (cases_lt a (2 ^ 24)) [
  | inl low ↦ let less : b < 2 ^ 24 = h low in grind (arith, nat_tests)
  | inr high ↦ grind (arith, nat_tests)
]

pub is_low : (orders : Orders) (t u : Token) → u ≡ moved_by orders t → (t.row < 2 ^ 24 → u.row < 2 ^ 24) → u ≡ moved_low orders t
unfolding moved_low
is_low orders t u e low =
    let no : comes_past t u ≡ false = not_past t.row u.row low in
    let there : comes_past t (moved_by orders t) ≡ false = ap (λ (v : Token). comes_past t v) (sym e) ∙ no in
    e ∙ rw there refl

row_low : (n : ℕ) (m : Module) (orders : Orders) (t : ℕ) (row : ℕ) → AreOrders m orders → n ≡ row_count m t → n < 2 ^ 24 → row < 2 ^ 24
    → place_in_order (orders t) row < 2 ^ 24
row_low n m orders t row are is few low = elim (cases_lt 0 row) [
  | inl some ↦ elim (cases_lt (row_count m t) row) [
    | inl past ↦ rw (new_absent (row_count m t) (orders t) row (is_order m orders t are) (λ l. past)) low
    | inr high ↦
        let b = new_bounds (row_count m t) (orders t) row (is_order m orders t are) (omega (arith, some)) high in
        omega (arith, b.1, is, few)
  ]
  | inr none ↦
      let out : 1 ≤ row → row_count m t < row = λ l. absurd (omega (arith, none, l)) in
      rw (new_absent (row_count m t) (orders t) row (is_order m orders t are) out) low
]

pub moved_few : (m : Module) (orders : Orders) (t : Token) → AreOrders m orders → HasCounts m → t.row < 2 ^ 24 → (moved_by orders t).row < 2 ^ 24
unfolding moved_by
moved_few m orders t are counts low = row_low (row_count m t.table) m orders t.table t.row are refl (counts.few t.table) low

-- so it moves each where the order says
pub same_low : (m : Module) (orders : Orders) → AreOrders m orders → HasCounts m → moved_low orders ≡ moved_by orders
same_low m orders are counts = λ i t. sym (is_low orders t (moved_by orders t) refl (λ low. moved_few m orders t are counts low)) i
