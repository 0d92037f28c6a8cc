-- No spelling of a signed number is shorter than the one that is written.
use Rattle.std.proofs.Common.{◌≡◌, ℕ, ◌^◌, ◌<◌, ◌≤◌, [], ◌∷◌, length, sym, ap, ◌∙◌, arith, w32}
use Rattle.std.proofs.lemmas.Int.{of_z-to_z}
use Rattle.std.specs.Int.{cast_signed, cast_unsigned}
use Rattle.enc_base.specs.Numbers.{unrotated, signed_of, spelled_signed, SignedWrittenIsShortest}

-- the 32 bits are told by the number
same_bits : (a b : ℕ) → a < 2 ^ 32 → b < 2 ^ 32 → cast_signed w32 a ≡ cast_signed w32 b → a ≡ b
same_bits a b p q e = sym (of_z-to_z w32 a p) ∙ ap (cast_unsigned w32) e ∙ of_z-to_z w32 b q

of_one : (bits n : ℕ) → bits < 2 ^ 32 → n < 0x80 → signed_of 0x40 n ≡ cast_signed w32 bits → length (spelled_signed bits) ≤ 1
of_one bits n p q e =
    let same : unrotated 0x40 n ≡ bits = same_bits (unrotated 0x40 n) bits (grind (arith)) p e in
    grind (arith, same)

of_two : (bits n : ℕ) → bits < 2 ^ 32 → n < 0x4000 → signed_of 0x2000 n ≡ cast_signed w32 bits → length (spelled_signed bits) ≤ 2
of_two bits n p q e =
    let same : unrotated 0x2000 n ≡ bits = same_bits (unrotated 0x2000 n) bits (grind (arith)) p e in
    grind (arith, same)

of_four : (bits : ℕ) → length (spelled_signed bits) ≤ 4
of_four bits = grind (arith)

pub signed_shortest : SignedWrittenIsShortest
signed_shortest bits n (a ∷ []) fits p h e = of_one bits n p (grind (arith, h, fits)) e
signed_shortest bits n (a ∷ b ∷ []) fits p h e = of_two bits n p (grind (arith, h, fits)) e
signed_shortest bits n (a ∷ b ∷ c ∷ d ∷ []) fits p h e = of_four bits
signed_shortest bits n [] fits p h e = absurd h
signed_shortest bits n (a ∷ b ∷ c ∷ []) fits p h e = absurd h
signed_shortest bits n (a ∷ b ∷ c ∷ d ∷ x ∷ xs) fits p h e = absurd h
