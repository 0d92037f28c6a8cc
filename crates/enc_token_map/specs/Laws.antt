-- What a body keeps when its tokens are moved.
use Rattle.std.specs.Prelude.{◌≡◌, ℕ, true, List, [], ◌∷◌}
use Rattle.std.specs.List.{flat_map}
use Rattle.enc_base.specs.declared.token.Token.{Token}
use Rattle.enc_opcodes.specs.Body.{Body, is_named, locals_are_good}
use Rattle.enc_opcodes.specs.Instruction.{Argument, text, Instruction}
use Rattle.enc_opcodes.specs.Sound.{body_is_sound}
use Rattle.enc_token_map.specs.Body.{body_moved}

-- a sound body stays sound where tokens that are named go to such, and local signatures that are good too
abbrev pub MovedStaysSound : Type 0
MovedStaysSound = (f : Token → Token) (count : ℕ → ℕ) (b : Body)
    → ((t : Token) → is_named count t ≡ true → is_named count (f t) ≡ true)
    → ((t : Token) → locals_are_good count t ≡ true → locals_are_good count (f t) ≡ true) → body_is_sound count b ≡ true
    → body_is_sound count (body_moved f b) ≡ true

-- the user text that an argument names
abbrev pub text_of_argument : Argument (List ℕ) → List (List ℕ)
text_of_argument (text units) = units ∷ []
text_of_argument _ = []

-- those that a body names, in the order of its instructions
abbrev pub texts_in : Body → List (List ℕ)
texts_in b = flat_map (λ (x : ℕ × Instruction (List ℕ)). text_of_argument x.1.arg) b.code

-- they stay
abbrev pub MovedKeepsTexts : Type 0
MovedKeepsTexts = (f : Token → Token) (b : Body) → texts_in (body_moved f b) ≡ texts_in b
