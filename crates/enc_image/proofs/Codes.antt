-- The body of a method by the parts that are read.
use Rattle.std.proofs.Common.{◌≡◌, ℕ, Option, Some, None, refl, sym, ap, ◌∙◌}
use Rattle.std.specs.Prelude.{option_map, IsTrue}
use Rattle.enc_base.specs.declared.token.Token.{Token}
use Rattle.enc_opcodes.specs.declared.code.CodeRef.{CodeRef}
use Rattle.enc_opcodes.specs.Body.{code_seen, body_of}
use Rattle.enc_rows.specs.Source.{Source, raw_in}
use Rattle.enc_plain.specs.Bodies.{code_loaded, body_loaded}
use Rattle.enc_plain.specs.Cell.{body}
use Rattle.enc_plain.specs.Module.{has_row, cell_of}
use Rattle.enc_image.specs.Base.{users_of, module_in}
use Rattle.enc_image.proofs.Rows.{body_cell}

mapped : {A B C : Type 0} (f : B → C) (g : A → B) (o : Option A) → option_map f (option_map g o) ≡ option_map (λ x. f (g x)) o
mapped f g None = refl
mapped f g (Some x) = refl

pub code_cell : (s : Source) (token : Token) (n : ℕ) (r : Option CodeRef) → IsTrue (has_row (module_in s) token) → token.table ≡ 0x06 → raw_in s token 0 ≡ n → option_map code_seen r ≡ code_loaded s.loaded n → cell_of (module_in s) token 0 ≡ Some (body (option_map (λ c. body_of (users_of s) (code_seen c)) r))
unfolding body_loaded
code_cell s token n r there table raw code =
    body_cell s token there table
    ∙ ap (λ k. Some (body (option_map (body_of (users_of s)) (code_loaded s.loaded k)))) raw
    ∙ ap (λ o. Some (body (option_map (body_of (users_of s)) o))) (sym code)
    ∙ ap (λ o. Some (body o)) (mapped (body_of (users_of s)) code_seen r)
