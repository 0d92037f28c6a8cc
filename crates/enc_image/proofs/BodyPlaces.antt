-- A body stands at each place but 0.
use Rattle.std.proofs.Common.{◌≡◌, ℕ, zero, suc, true, List, Option, Some, None, refl, sym, ◌∙◌, arith}
use Rattle.std.specs.Prelude.{◌==◌, ◌%◌, not, is_some, option_map, IsTrue}
use Rattle.std.proofs.lemmas.Bool.{and_parts}
use Rattle.std.proofs.lemmas.Bool.Decides.{nat_tests}
use Rattle.enc_base.specs.declared.token.Token.{Token}
use Rattle.enc_meta.specs.Regions.{Region}
use Rattle.enc_opcodes.specs.Body.{Code, body_of}
use Rattle.enc_rows.specs.Layout.{rows_of}
use Rattle.enc_rows.specs.Source.{Source, raw_in}
use Rattle.enc_plain.specs.Bodies.{code_there, code_loaded, body_loaded, code_is_good, body_is_good}
use Rattle.enc_plain.specs.Module.{has_row}
use Rattle.enc_image.specs.Base.{users_of, has_locals, cells_fault, module_in}
use Rattle.enc_image.proofs.SoundBodies.{judged}

good_stands : (count : ℕ → ℕ) (texts : ℕ → Option (List ℕ)) (o : Option Code) → code_is_good count texts o ≡ true → is_some o ≡ true
good_stands count texts None good = absurd cc
good_stands count texts (Some c) good = refl

later : (n : ℕ) → not (suc n == 0) ≡ true
later n = grind (arith, nat_tests)

-- where a place is good, its parts are there, unless it is 0
pub parts_stand : (count : ℕ → ℕ) (texts : ℕ → Option (List ℕ)) (regions : List Region) (n flags : ℕ) → body_is_good count texts regions n flags ≡ true → is_some (code_loaded regions n) ≡ not (n == 0)
unfolding body_is_good code_loaded
parts_stand count texts regions zero flags good = refl
parts_stand count texts regions (suc n) flags good = good_stands count texts (code_there regions (suc n)) (and_parts (flags % 4 == 0) _ good).1 ∙ sym (later n)

-- so it is with the methods of an image
pub image_parts : (s : Source) (u : Token) (n : ℕ) → cells_fault s ≡ None → IsTrue (has_row (module_in s) u) → u.table ≡ 0x06 → raw_in s u 0 ≡ n → is_some (code_loaded s.loaded n) ≡ not (n == 0)
image_parts s u n sound there table raw =
    let good = and_parts (body_is_good (rows_of s.layout) (users_of s) s.loaded (raw_in s u 0) (raw_in s u 1)) (has_locals s (code_loaded s.loaded (raw_in s u 0))) (judged s u sound there table) in
    rw raw at (parts_stand (rows_of s.layout) (users_of s) s.loaded (raw_in s u 0) (raw_in s u 1) good.0)

mapped : {A B : Type 0} (f : A → B) (o : Option A) → is_some (option_map f o) ≡ is_some o
mapped f None = refl
mapped f (Some x) = refl

-- and the body that parts mean is there where they are
pub loaded_stands : (regions : List Region) (texts : ℕ → Option (List ℕ)) (n : ℕ) → is_some (body_loaded regions texts n) ≡ is_some (code_loaded regions n)
unfolding body_loaded
loaded_stands regions texts n = mapped (body_of texts) (code_loaded regions n)
