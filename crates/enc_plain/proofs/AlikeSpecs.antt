-- Tokens that are alike as TypeSpecs, or not at all.
use Rattle.std.proofs.Common.{◌≡◌, ℕ, Bool, true, false, refl}
use Rattle.std.specs.Prelude.{◌||◌, ◌&&◌}
use Rattle.enc_base.specs.declared.token.Token.{Token}
use Rattle.enc_plain.specs.Rows.{Rows, bytes_at}
use Rattle.enc_plain.specs.Alike.{are_rows, refs_alike, tokens_alike, type_specs_alike, signatures_alike}

pub spec_tokens : (rows : Rows) (a b : Token) → refs_alike rows 100 a b ≡ false → are_rows rows 0x1B a b ≡ true → signatures_alike rows 0x1B (bytes_at rows a 0) (bytes_at rows b 0) ≡ tokens_alike rows a b
unfolding tokens_alike type_specs_alike signatures_alike
spec_tokens rows a b other there = rw (other, there) refl

pub other_tokens : (rows : Rows) (a b : Token) → refs_alike rows 100 a b ≡ false → are_rows rows 0x1B a b ≡ false → false ≡ tokens_alike rows a b
unfolding tokens_alike type_specs_alike
other_tokens rows a b other gone = rw (other, gone) refl

pub alike_tokens : (rows : Rows) (a b : Token) → refs_alike rows 100 a b ≡ true → true ≡ tokens_alike rows a b
unfolding tokens_alike
alike_tokens rows a b h = rw h refl

pub ruleset tokens_cases = (spec_tokens, other_tokens, alike_tokens)
