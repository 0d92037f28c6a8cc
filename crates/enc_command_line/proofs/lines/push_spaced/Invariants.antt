use Rattle.std.proofs.Common.{◌≡◌, ◌++◌, List, ℕ, map, drop}
use Rattle.std.specs.Borrow.{Bor}
use Rattle.enc_command_line.specs.Lines.{spaced}
use Rattle.enc_command_line.proofs.lines.push_spaced.Given as goal

-- what is appended, and the names that are left
abbrev pub invariant-loop-name : goal.invariant-loop-name
invariant-loop-name l = l.out.items ++ spaced (drop l.name-index (map (λ (s : Bor (List ℕ)). s.now) l.names)) ≡ l.fn.out.items ++ spaced (map (λ (s : Bor (List ℕ)). s.now) l.fn.names)
