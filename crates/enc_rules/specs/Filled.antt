-- For the contracts of private functions: heaps that are filled up to their limits.
use Rattle.std.specs.Prelude.{◌≡◌, ℕ, Bool, true, not, ◌==◌, List, Result, Ok, Err}
use Rattle.std.specs.List.{list_any, list_all}
use Rattle.enc_meta.specs.Built.{Built}
use Rattle.enc_meta.specs.declared.builder.BuildFault.{BuildFault}
use Rattle.enc_meta.specs.declared.builder.BuildFault.TheVariants.{Memory, TooLarge}
use Rattle.enc_rules.specs.Rules.{passes_limits}

-- the heaps have all that was to be added; where a heap is refused, they would pass a limit with it
abbrev pub Fills : Result (Unit {0}) BuildFault → Built → Built → Type 0
Fills (Ok _) new filled = new ≡ filled
Fills (Err Memory) new filled = Unit {0}
Fills (Err (TooLarge heap)) new filled = passes_limits filled ≡ true

-- no text has a zero
abbrev pub has_no_zero : List ℕ → Bool
has_no_zero t = not (list_any (λ c. c == 0) t)

abbrev pub have_no_zero : List (List ℕ) → Bool
have_no_zero texts = list_all has_no_zero texts
