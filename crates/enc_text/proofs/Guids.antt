-- The text of a GUID through the library's own steps.
use Rattle.std.proofs.Common.{◌≡◌, ℕ, List, ap, ◌∙◌}
use Rattle.uuid.specs.Text.{hyphenated_text, lower}
use Rattle.uuid.specs.Parts.{swap_fields}
use Rattle.enc_text.specs.Text.{guid_text}

-- the hyphenated text of the bytes with their fields swapped is the GUID's
pub guid_text_is : (shown fields bytes : List ℕ) → shown ≡ hyphenated_text lower fields → fields ≡ swap_fields bytes → shown ≡ guid_text bytes
unfolding guid_text
guid_text_is shown fields bytes h e = h ∙ ap (λ xs. hyphenated_text lower xs) e
