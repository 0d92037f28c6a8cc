-- The targets of a `switch`, one by one.
use Rattle.std.proofs.Common.{◌≡◌, ℕ, zero, suc, ◌+◌, ◌*◌, ◌<◌, ◌≤◌, true, false, List, [], ◌∷◌, length, None, refl, ◌∙◌, ap, sym, lit<, arith}
use Rattle.std.specs.Prelude.{option_map, slice_get, nat_le}
use Rattle.std.specs.Int.{w32}
use Rattle.std.proofs.Math.Dec.{leb-suc-suc}
use Rattle.std.proofs.lemmas.Bool.Decides.{nat_tests}
use Rattle.enc_base.specs.Numbers.{little_endian_at}
use Rattle.enc_opcodes.specs.Instruction.{all_reached, reached}

holds : (a b : ℕ) → a ≤ b → nat_le a b ≡ true
holds a b h = grind (arith, nat_tests)

fails : (a b : ℕ) → b < a → nat_le a b ≡ false
fails a b h = grind (arith, nat_tests)

-- four bytes further on
further : (a b c d k m : ℕ) (rest : List ℕ) → m ≡ suc (suc (suc (suc k))) → little_endian_at w32 (a ∷ b ∷ c ∷ d ∷ rest) m ≡ little_endian_at w32 rest k
further a b c d k m rest e =
    let more : suc (suc (suc (suc k))) + 4 ≡ suc (suc (suc (suc (k + 4)))) = omega arith in
    rw (e, more, leb-suc-suc (suc (suc (suc (k + 4)))) _, leb-suc-suc (suc (suc (k + 4))) _, leb-suc-suc (suc (k + 4)) _, leb-suc-suc (k + 4) _) refl

-- none in fewer than four bytes
short : (bytes : List ℕ) (n : ℕ) → length bytes < 4 → little_endian_at w32 bytes (4 * n) ≡ None
short bytes n h = rw (fails (4 * n + 4) (length bytes) (omega (arith, h))) refl

-- the target at an index is by the distance there
pub reached_at : (end : ℕ) (distances : List ℕ) (n : ℕ) → slice_get (all_reached end distances) n ≡ option_map (reached end) (little_endian_at w32 distances (4 * n))
unfolding all_reached
reached_at end (a ∷ b ∷ c ∷ d ∷ rest) zero =
    rw (holds 4 (length (a ∷ b ∷ c ∷ d ∷ rest)) (omega arith)) refl
reached_at end (a ∷ b ∷ c ∷ d ∷ rest) (suc n) =
    let e : 4 * suc n ≡ suc (suc (suc (suc (4 * n)))) = omega arith in
    reached_at end rest n ∙ ap (option_map (reached end)) (sym (further a b c d (4 * n) (4 * suc n) rest e))
reached_at end (a ∷ b ∷ c ∷ []) n = ap (option_map (reached end)) (sym (short (a ∷ b ∷ c ∷ []) n (lit< tt)))
reached_at end (a ∷ b ∷ []) n = ap (option_map (reached end)) (sym (short (a ∷ b ∷ []) n (lit< tt)))
reached_at end (a ∷ []) n = ap (option_map (reached end)) (sym (short (a ∷ []) n (lit< tt)))
reached_at end [] n = ap (option_map (reached end)) (sym (short [] n (lit< tt)))
