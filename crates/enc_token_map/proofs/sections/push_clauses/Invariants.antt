use Rattle.std.proofs.Common.{◌≡◌, ◌-◌, ◌*◌, ◌++◌, length}
use Rattle.enc_opcodes.specs.Clause.{clause_size}
use Rattle.enc_token_map.specs.Copied.{clauses_moved}
use Rattle.enc_token_map.proofs.sections.push_clauses.Given as goal

-- what was put and what is left are all, and what is left is whole
abbrev pub invariant-loop-i : goal.invariant-loop-i
invariant-loop-i g l =
    (l.out.items ++ clauses_moved (g.M.Moves.to l.moves) l.section.fat (l.section.count - l.i) l.rest ≡ l.fn.out.items ++ clauses_moved
    (g.M.Moves.to l.moves) l.section.fat l.section.count l.section.clauses.now)
    × (length l.rest ≡ clause_size l.section.fat * (l.section.count - l.i))
