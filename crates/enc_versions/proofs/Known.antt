-- The user texts that the newest bodies name are there.
use Rattle.std.proofs.Common.{◌≡◌, ℕ, zero, suc, ◌<◌, ◌≤◌, true, false, List, [], ◌∷◌, length, Option, Some, None, refl, arith}
use Rattle.std.specs.Prelude.{IsTrue, get_or, nat_lt, nat_le, ◌&&◌, ◌==◌, if◌then◌else◌}
use Rattle.std.proofs.lemmas.Bool.Decides.{nat_tests}
use Rattle.enc_base.specs.declared.token.Token.{Token}
use Rattle.enc_opcodes.specs.Body.{texts_are_there}
use Rattle.enc_plain.specs.Debug.{PlainPdb}
use Rattle.enc_plain.specs.Module.{Module, rows_in, has_row}
use Rattle.enc_base.specs.Tables.{method_def}
use Rattle.enc_versions.specs.StandFor.{IsVersionOf, AreVersionsOf}
use Rattle.enc_versions.specs.Version.{Version, version_at, newest_of}

some_below : (methods : List (Option Version)) (row : ℕ) (v : Version) → version_at methods row ≡ Some v → (0 < row) × (row ≤ length methods)
some_below methods zero v is = absurd cc
some_below methods (suc i) v is = let low = get_below methods i v is in (omega arith, omega (arith, low))
  where
    get_below : (xs : List (Option Version)) (i : ℕ) (v : Version) → get_or xs i None ≡ Some v → i < length xs
    get_below [] i v is = absurd cc
    get_below (x ∷ xs) zero v is = omega arith
    get_below (x ∷ xs) (suc i) v is = let low = get_below xs i v is in omega (arith, low)

row_there : (count row : ℕ) → 0 < row → row ≤ count → (nat_lt 0 row && nat_le row count) ≡ true
row_there count row low high = grind (arith, nat_tests, low, high)

is_table : (a b : ℕ) → (a == b) ≡ true → a ≡ b
is_table a b h = grind (arith, nat_tests)

texts_of : (users : ℕ → Option (List ℕ)) (m : Module) (pdb : PlainPdb) (method : Token) (o : Option Version) (v : Version) → IsVersionOf users m pdb method o → o ≡ Some v
    → texts_are_there users v.code.code ≡ true
texts_of users m pdb method None v is e = absurd cc
texts_of users m pdb method (Some w) v is e = let same : w ≡ v = cc in rw (← same) is.texts

pub newest_texts : (users : ℕ → Option (List ℕ)) (m : Module) (pdb : PlainPdb) (methods : List (Option Version)) (method : Token) (v : Version)
    → AreVersionsOf users m pdb methods → newest_of methods method ≡ Some v → texts_are_there users v.code.code ≡ true
unfolding newest_of has_row
newest_texts users m pdb methods method v are is = by_table (method.table == method_def) refl is
  where
    by_table : (b : _) → (method.table == method_def) ≡ b → (if b then version_at methods method.row else None) ≡ Some v → texts_are_there users v.code.code ≡ true
    by_table false e h = absurd cc
    by_table true e h =
        let table = is_table method.table method_def e in
        let low = some_below methods method.row v h in
        let within = are.within in
        let high : method.row ≤ length (rows_in m method.table) = rw table (omega (arith, within, low.1)) in
        let there : IsTrue (has_row m method) = row_there (length (rows_in m method.table)) method.row low.0 high in
        texts_of users m pdb method (newest_of methods method) v (are.each method table there) is
