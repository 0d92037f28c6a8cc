-- Rounds and words one behind the other: none, one more.
use Rattle.std.proofs.Common.{◌≡◌, ℕ, suc, ◌+◌, ◌*◌, List, refl, arith}
use Rattle.std.specs.Prelude.{bit_xor, drop}
use Rattle.std.specs.Int.{w64, from_le_bytes}
use Rattle.enc_sigs.specs.declared.mix.Mix.{Mix}
use Rattle.enc_sigs.specs.Mix.{round, rounds, mixed, mixed_words}

pub rounds_none : (key : ℕ) (mix : Mix) → mix ≡ rounds key mix 0
unfolding rounds
rounds_none key mix = refl

pub rounds_more : (key n : ℕ) (state mix : Mix) → state ≡ rounds key mix n → round state (bit_xor key n) ≡ rounds key mix (n + 1)
unfolding rounds
rounds_more key n state mix e = let more : n + 1 ≡ suc n = omega arith in rw (more, e) refl

pub words_none : (mix : Mix) (bytes : List ℕ) → mix ≡ mixed_words mix bytes 0
unfolding mixed_words
words_none mix bytes = refl

pub words_more : (mix state : Mix) (bytes : List ℕ) (n : ℕ) → state ≡ mixed_words mix bytes n → mixed state (from_le_bytes w64 (drop (8 * n) bytes)) ≡ mixed_words mix bytes (n + 1)
unfolding mixed_words
words_more mix state bytes n e = let more : n + 1 ≡ suc n = omega arith in rw (more, e) refl

pub ruleset words_steps = (words_none, words_more)
