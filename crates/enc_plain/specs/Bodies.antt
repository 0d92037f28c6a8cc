-- The body that a method's place stands for, and when it is good (ECMA-335 II.22.26, II.25.4).
use Rattle.std.specs.Prelude.{ℕ, zero, suc, ◌%◌, Bool, true, false, ◌&&◌, List, Option, Some, None, option_map, option_and_then, ◌==◌}
use Rattle.enc_meta.specs.Regions.{Region, rest_loaded}
use Rattle.enc_opcodes.specs.Body.{Code, Body, body_at, body_of, is_good, texts_are_there}

-- the parts of the body at an address: its bytes end with the first region that holds its first byte
abbrev pub code_there : List Region → ℕ → Option Code
code_there regions n = option_and_then (λ (bytes : List ℕ). body_at bytes 0 n) (rest_loaded regions n)

-- the parts of the body at a method's place, of which 0 is none
unfoldable pub code_loaded : List Region → ℕ → Option Code
code_loaded regions zero = None
code_loaded regions (suc n) = code_there regions (suc n)

-- the body at a place, with these user texts
unfoldable pub body_loaded : List Region → (ℕ → Option (List ℕ)) → ℕ → Option Body
body_loaded regions texts n = option_map (body_of texts) (code_loaded regions n)

-- a body is there and good, and so is each user text that it names
abbrev pub code_is_good : (ℕ → ℕ) → (ℕ → Option (List ℕ)) → Option Code → Bool
code_is_good count texts None = false
code_is_good count texts (Some c) = is_good count c && texts_are_there texts c.code

-- a method has no place for a body, or it is of IL code, which the low two bits of ImplFlags tell (II.23.1.11), and
-- its body is good
unfoldable pub body_is_good : (ℕ → ℕ) → (ℕ → Option (List ℕ)) → List Region → ℕ → ℕ → Bool
body_is_good count texts regions zero flags = true
body_is_good count texts regions (suc n) flags =
    flags % 4 == 0 && code_is_good count texts (code_loaded regions (suc n))
