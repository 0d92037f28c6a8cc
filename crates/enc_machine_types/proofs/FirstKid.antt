-- The first of a list that passes a test, looked for from the front.
use Rattle.std.proofs.Common.{◌≡◌, ℕ, zero, suc, ◌+◌, ◌≤◌, Bool, true, false, List, [], ◌∷◌, length, drop, Some, None, refl, sym, ap, arith}
use Rattle.std.specs.Prelude.{filter, slice_get}
use Rattle.enc_base.specs.declared.token.Token.{Token}
use Rattle.enc_machine_types.specs.Members.{method_of_row}

drop_at : (ks : List ℕ) (i k : ℕ) → slice_get ks i ≡ Some k → drop i ks ≡ k ∷ drop (i + 1) ks
drop_at [] i k e = absurd (cc)
drop_at (x ∷ xs) zero k e = let is : x ≡ k = cc in rw is refl
drop_at (x ∷ xs) (suc i) k e = let next : suc i + 1 ≡ suc (i + 1) = omega arith in rw next (drop_at xs i k e)

pub found : (p : ℕ → Bool) (ks : List ℕ) (i k : ℕ) → filter p (drop i ks) ≡ filter p ks → slice_get ks i ≡ Some k → p k ≡ true → slice_get (filter p ks) 0 ≡ Some k
found p ks i k same is passes = rw (← same, drop_at ks i k is, passes) refl

pub passed : (p : ℕ → Bool) (ks : List ℕ) (i k : ℕ) → filter p (drop i ks) ≡ filter p ks → slice_get ks i ≡ Some k → p k ≡ false → filter p (drop (i + 1) ks) ≡ filter p ks
passed p ks i k same is fails = let e = rw (drop_at ks i k is, fails) at same in e

none_behind : (ks : List ℕ) (i : ℕ) → length ks ≤ i → drop i ks ≡ []
none_behind [] zero h = refl
none_behind [] (suc i) h = refl
none_behind (x ∷ xs) zero h = absurd (omega arith)
none_behind (x ∷ xs) (suc i) h = none_behind xs i (omega arith)

pub none_found : (p : ℕ → Bool) (ks : List ℕ) (i : ℕ) → filter p (drop i ks) ≡ filter p ks → length ks ≤ i → slice_get (filter p ks) 0 ≡ None
none_found p ks i same past = rw (← same, none_behind ks i past) refl

-- the token of a method by its row
pub by_row : (t : Token) → t.table ≡ 0x06 → method_of_row t.row ≡ t
by_row t e = ap (λ (n : ℕ). let u : Token = record { table = n; row = t.row } in u) (sym e)
