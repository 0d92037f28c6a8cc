-- Some clause has an offset in its handler where a first one is found.
use Rattle.std.proofs.Common.{◌≡◌, ℕ, ◌+◌, Bool, true, false, ◌||◌, List, [], ◌∷◌, Option, Some, None, refl, ap, ◌∙◌}
use Rattle.std.specs.Prelude.{is_some, if◌then◌else◌}
use Rattle.std.specs.List.{list_any}
use Rattle.enc_opcodes.specs.Body.{Handler}
use Rattle.enc_unwind.specs.Search.{first_clause}
use Rattle.enc_unwind.specs.Walk.{first_from}
use Rattle.enc_unwind.proofs.Found.{first_walked}

one_handles : (b : Bool) (k : ℕ) (o : Option ℕ) → is_some (if b then Some k else o) ≡ (b || is_some o)
one_handles true k o = refl
one_handles false k o = refl

from_handles : (p : Handler → Bool) (k : ℕ) (clauses : List Handler) → is_some (first_from (λ (i : ℕ) (c : Handler). p c) k clauses) ≡ list_any p clauses
unfolding first_from
from_handles p k [] = refl
from_handles p k (c ∷ rest) =
    one_handles (p c) k (first_from (λ (i : ℕ) (d : Handler). p d) (k + 1) rest) ∙ ap (λ (b : Bool). p c || b) (from_handles p (k + 1) rest)

pub some_handles : (p : Handler → Bool) (clauses : List Handler) → is_some (first_clause (λ (i : ℕ) (c : Handler). p c) clauses) ≡ list_any p clauses
some_handles p clauses = ap is_some (first_walked (λ (i : ℕ) (c : Handler). p c) clauses) ∙ from_handles p 0 clauses
