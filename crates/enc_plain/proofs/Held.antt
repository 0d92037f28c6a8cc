-- What a plain module in memory finds.
use Rattle.std.proofs.Common.{◌≡◌, ℕ, zero, suc, ◌+◌, Bool, true, cond, List, [], ◌∷◌, drop, Option, Some, None, refl, sym}
use Rattle.std.specs.Prelude.{slice_get, option_map, is_some}
use Rattle.std.specs.List.{position_from}
use Rattle.enc_base.specs.declared.token.Token.{Token}
use Rattle.enc_plain.specs.Cell.{Kind, kind_in, cell_kind}
use Rattle.enc_plain.specs.Module.{Module, has_row, cell_of}
use Rattle.enc_plain.specs.Sound.{IsSound}

kind_from : (m : Module) (u : Token) (i : ℕ) → IsSound m → has_row m u ≡ true → (o : Option Kind) → kind_in u.table i ≡ o → is_some o ≡ true → o ≡ option_map cell_kind (cell_of m u i)
kind_from m u i sound row None e some = absurd cc
kind_from m u i sound row (Some k) e some = sym (sound.kinds.kinds u i k row e)

-- the cell of a column is of its kind
pub kind_is : (m : Module) (u : Token) (i : ℕ) → IsSound m → has_row m u ≡ true → is_some (kind_in u.table i) ≡ true → kind_in u.table i ≡ option_map cell_kind (cell_of m u i)
kind_is m u i sound row some = kind_from m u i sound row (kind_in u.table i) refl some

-- the search goes on behind an element
pub position_next : {X : Type 0} (p : X → Bool) (xs : List X) (i n : ℕ) (x : X) → slice_get xs n ≡ Some x → position_from p i (drop n xs) ≡ cond (p x) (Some i) (position_from p (i + 1) (drop (suc n) xs))
position_next p [] i n x e = absurd cc
position_next p (y ∷ xs) i zero x e = let is : y ≡ x = cc in rw is refl
position_next p (y ∷ xs) i (suc n) x e = position_next p xs i n x e
