-- The characters of UTF-16 units, one behind the other.
use Rattle.std.proofs.Common.{◌≡◌, ℕ, ◌-◌, ◌<◌, ◌≤◌, Bool, true, false, cond, ◌&&◌, List, [], ◌∷◌, ◌++◌, map, length, get_or, take, drop}
use Rattle.std.proofs.Common.{Option, Some, None, encode_utf8, encode_utf8_all, refl, sym, ap, ◌∙◌, append-nil, arith}
use Rattle.std.specs.Prelude.{flat_map, unwrap_or, if◌then◌else◌}
use Rattle.std.specs.Char.Utf16.{is_high_surrogate, is_low_surrogate, surrogate_pair_char, lone_unit_char, utf16_chars}
use Rattle.std.proofs.Math.Seq.{take-length}
use Rattle.std.proofs.lemmas.Str.{length-encode, len_utf8_bounds}
use Rattle.enc_text.specs.Text.{escaped}
use Rattle.enc_text.specs.BodyText.{utf8_of}

-- the code of a pair, if any
abbrev pub pair_of : ℕ → ℕ → Option ℕ
pair_of high low = if is_high_surrogate high && is_low_surrogate low then Some (surrogate_pair_char high low) else None

chosen : (b : Bool) (p c : ℕ) (xs ys : List (Option ℕ)) → Some c ≡ cond b (Some p) None → cond b (Some p ∷ xs) ys ≡ Some c ∷ xs
chosen true p c xs ys is = ap (λ o. o ∷ xs) (sym is)
chosen false p c xs ys is = absurd (cc)

not_chosen : (b : Bool) (p : ℕ) (xs ys : List (Option ℕ)) → None ≡ cond b (Some p) None → cond b xs ys ≡ ys
not_chosen true p xs ys is = absurd (cc)
not_chosen false p xs ys is = refl

-- the text of units whose characters are these
abbrev spelt : List (Option ℕ) → List ℕ
spelt os = encode_utf8_all (map (λ o. unwrap_or o 0xFFFD) os)

-- a pair at the front
pub pair_first : (u v c : ℕ) (us : List ℕ) → Some c ≡ pair_of u v → utf8_of (u ∷ v ∷ us) ≡ encode_utf8 c ++ utf8_of us
unfolding utf8_of utf16_chars
pair_first u v c us is = ap spelt (chosen _ (surrogate_pair_char u v) c (utf16_chars us) (lone_unit_char u ∷ utf16_chars (v ∷ us)) is)

-- a unit in no pair at the front
pub lone_first : (u v c : ℕ) (us : List ℕ) → None ≡ pair_of u v → c ≡ unwrap_or (lone_unit_char u) 0xFFFD
    → utf8_of (u ∷ v ∷ us) ≡ encode_utf8 c ++ utf8_of (v ∷ us)
unfolding utf8_of utf16_chars
lone_first u v c us none is =
    ap spelt (not_chosen _ (surrogate_pair_char u v) (Some (surrogate_pair_char u v) ∷ utf16_chars us) _ none)
    ∙ ap (λ x. encode_utf8 x ++ utf8_of (v ∷ us)) (sym is)

-- the same of the first units of a list
pub pair_front : (xs : List ℕ) (c : ℕ) → 2 ≤ length xs → Some c ≡ pair_of (get_or xs 0 0) (get_or xs 1 0)
    → utf8_of xs ≡ encode_utf8 c ++ utf8_of (take (length xs - 2) (drop 2 xs))
pair_front [] c h is = absurd (omega arith)
pair_front (u ∷ []) c h is = absurd (omega arith)
pair_front (u ∷ v ∷ us) c h is = let e : length (u ∷ v ∷ us) - 2 ≡ length us = omega arith in rw (e, take-length us) (pair_first u v c us is)

pub lone_front : (xs : List ℕ) (c : ℕ) → 2 ≤ length xs → None ≡ pair_of (get_or xs 0 0) (get_or xs 1 0)
    → c ≡ unwrap_or (lone_unit_char (get_or xs 0 0)) 0xFFFD → utf8_of xs ≡ encode_utf8 c ++ utf8_of (take (length xs - 1) (drop 1 xs))
lone_front [] c h none is = absurd (omega arith)
lone_front (u ∷ []) c h none is = absurd (omega arith)
lone_front (u ∷ v ∷ us) c h none is =
    let e : length (u ∷ v ∷ us) - 1 ≡ length (v ∷ us) = omega arith in
    rw (e, take-length (v ∷ us)) (lone_first u v c us none is)

-- a unit alone
pub one_alone : (xs : List ℕ) (c : ℕ) → 1 ≤ length xs → length xs < 2 → c ≡ unwrap_or (lone_unit_char (get_or xs 0 0)) 0xFFFD
    → utf8_of xs ≡ encode_utf8 c ++ utf8_of []
unfolding utf8_of utf16_chars
one_alone [] c some few is = absurd (omega arith)
one_alone (u ∷ []) c some few is = ap (λ x. encode_utf8 x ++ []) (sym is)
one_alone (u ∷ v ∷ us) c some few is = absurd (omega arith)

-- the bytes of a character: three below 2 ^ 16, and never more than four
pub three_bytes : (c : ℕ) → c < 0x1_0000 → length (encode_utf8 c) ≤ 3
three_bytes c small = rw (length-encode c) (grind arith)

pub four_bytes : (c : ℕ) → length (encode_utf8 c) ≤ 4
four_bytes c = omega (arith, length-encode c, (len_utf8_bounds c).1)

-- no unit is left
pub characters_done : (now all : List ℕ) (rest : List ℕ) → length rest ≡ 0 → now ++ flat_map escaped (utf8_of rest) ≡ all → now ≡ all
unfolding utf8_of utf16_chars
characters_done now all [] none so = sym (append-nil now) ∙ so
characters_done now all (u ∷ us) none so = absurd (omega arith)
