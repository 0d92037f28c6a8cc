use Rattle.std.proofs.Common.{◌≡◌, ◌≤◌, length}
use Rattle.enc_il.specs.Seen.{behind_all}
use Rattle.enc_il.proofs.section.behind_sections.Given as goal

abbrev pub invariant-loop-section : goal.invariant-loop-section
invariant-loop-section l = record { same : behind_all l.bytes ≡ behind_all l.rest; within : length l.rest ≤ length l.bytes }

abbrev pub decreases-loop-section : goal.decreases-loop-section
decreases-loop-section l = length l.rest
