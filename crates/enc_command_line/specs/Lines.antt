-- The lines of what isn't a row, a listing or a refusal by a rule.
use Rattle.std.specs.Prelude.{ℕ, List, [], ◌∷◌, ◌++◌, codes, decimal, flat_map}
use Rattle.enc_base.specs.declared.token.Token.{Token}
use Rattle.enc_text.specs.Text.{token_text, stream_text}
use Rattle.enc_jobs.specs.declared.fault.JobFault.{JobFault}
use Rattle.enc_jobs.specs.declared.fault.JobFault.TheVariants.{Memory, J1, J2, L3}
use Rattle.enc_command_line.specs.declared.limits.Limit.{Limit}
use Rattle.enc_command_line.specs.declared.limits.Limit.TheVariants as limit

abbrev pub limit_text : Limit → List ℕ
limit_text limit.Length = codes "L1 length"
limit_text limit.Total = codes "L2 total"
limit_text (limit.Heap heap) = codes "L4 " ++ stream_text heap
limit_text limit.Image = codes "L4 image"

-- the line of a file that is too long, with which all are, or that would be
unfoldable pub limit_line : List ℕ → Limit → List ℕ
limit_line name l = codes "refused " ++ name ++ 0x20 ∷ limit_text l ++ 0x0a ∷ []

-- the line of a file that isn't there
unfoldable pub missing_line : List ℕ → List ℕ
missing_line name = codes "missing " ++ name ++ 0x0a ∷ []

-- the line of a token that the module lacks
unfoldable pub absent_line : Token → List ℕ
absent_line token = codes "absent " ++ token_text token ++ 0x0a ∷ []

-- the line of so many deltas that are accepted
unfoldable pub accepted_line : ℕ → List ℕ
accepted_line count = codes "accepted " ++ decimal count ++ 0x0a ∷ []

-- names, each behind a space
unfoldable pub spaced : List (List ℕ) → List ℕ
spaced names = flat_map (λ name. 0x20 ∷ name) names

-- the line of files that are saved
unfoldable pub saved_line : List (List ℕ) → List ℕ
saved_line names = codes "saved" ++ spaced names ++ 0x0a ∷ []

-- the line of a row that moves, with its new token, and those of all
unfoldable pub moved_line : Token × Token → List ℕ
moved_line x = codes "moved " ++ token_text x.0 ++ 0x20 ∷ token_text x.1 ++ 0x0a ∷ []

unfoldable pub moved_lines : List (Token × Token) → List ℕ
moved_lines moves = flat_map moved_line moves

-- the number and the place of what isn't an edit list
abbrev pub fault_text : JobFault → List ℕ
fault_text J1 = codes "J1 json"
fault_text (J2 n) = codes "J2 " ++ decimal n
fault_text L3 = codes "L3 commands"
fault_text Memory = []

-- the line of a file that is no edit list
unfoldable pub unlisted_line : List ℕ → JobFault → List ℕ
unlisted_line name fault = codes "refused " ++ name ++ 0x20 ∷ fault_text fault ++ 0x0a ∷ []

-- the line of an edit list that breaks a rule, with the number of its edit
unfoldable pub broken_line : List ℕ → ℕ → ℕ → List ℕ
broken_line name rule edit = codes "refused " ++ name ++ codes " E" ++ decimal rule ++ 0x20 ∷ decimal edit ++ 0x0a ∷ []

-- the line of two deltas that aren't merged, as a reference lies too deep in others
unfoldable pub deep_line : List ℕ → Token → List ℕ
deep_line name token = codes "refused " ++ name ++ codes " G1 " ++ token_text token ++ 0x0a ∷ []

-- the line of words that are no command
unfoldable pub usage_line : List ℕ
usage_line = codes "usage: enc show list check apply write run gen compact merge" ++ 0x0a ∷ []
