-- How many UTF-16 units a step may write.
use Rattle.std.specs.Prelude.{ℕ, ◌≤◌, List, length, IfSome}
use Rattle.enc_vm.specs.Turns.{MachineTurn, absent, idle, went}

-- a turn writes at most so many units
abbrev pub WritesAtMost : {C : Type 0} → ℕ → MachineTurn C → Type 0
WritesAtMost n absent = Unit {0}
WritesAtMost n idle = Unit {0}
WritesAtMost n (went how s line shown) = IfSome shown.wrote (λ (units : List ℕ). length units ≤ n)
