-- An order as what moves tokens, each to a row that a token's number has room for.
use Rattle.std.specs.Prelude.{◌≡◌, ℕ, ◌<◌, ◌^◌, Bool, true, false, not, ◌&&◌, nat_lt, cond, refl}
use Rattle.std.proofs.Common.{arith}
use Rattle.std.proofs.lemmas.Bool.Decides.{nat_tests}
use Rattle.enc_base.specs.declared.token.Token.{Token}
use Rattle.enc_row_order.specs.Orders.{Orders, moved_by}

-- a token of a row that its number has room for stays where it would come to one that it hasn't
abbrev pub comes_past : Token → Token → Bool
comes_past t u = nat_lt t.row (2 ^ 24) && not (nat_lt u.row (2 ^ 24))

unfoldable pub moved_low : Orders → Token → Token
moved_low orders t = cond (comes_past t (moved_by orders t)) t (moved_by orders t)

-- each token stays in its table
pub moved_stays : (orders : Orders) (t : Token) → (moved_low orders t).table ≡ t.table
unfolding moved_low moved_by
moved_stays orders t = by (comes_past t (moved_by orders t))
  where
    by : (b : Bool) → (cond b t (moved_by orders t)).table ≡ t.table
    by true = refl
    by false = refl

-- and is as low as it was
pub moved_is_low : (orders : Orders) (t : Token) → t.row < 2 ^ 24 → (moved_low orders t).row < 2 ^ 24
unfolding moved_low
moved_is_low orders t low = by (comes_past t (moved_by orders t)) refl
  where
    by : (b : Bool) → comes_past t (moved_by orders t) ≡ b → (cond b t (moved_by orders t)).row < 2 ^ 24
    by true e = low
    by false e = fits t.row (moved_by orders t).row low e
      where
        fits : (a b : ℕ) → a < 2 ^ 24 → (nat_lt a (2 ^ 24) && not (nat_lt b (2 ^ 24))) ≡ false → b < 2 ^ 24
        fits a b low e = grind (arith, nat_tests)
