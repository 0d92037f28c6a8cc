-- What the searches find, and what a class catches.
use Rattle.std.specs.Prelude.{◌≡◌, ℕ, ◌<◌, Bool, true, false, ◌&&◌, List, Option, Some, None, MatchOption, slice_get}
use Rattle.enc_base.specs.declared.token.Token.{Token}
use Rattle.enc_opcodes.specs.Body.{Handler, finishing}
use Rattle.enc_plain.specs.ClassPath.{extends}
use Rattle.enc_plain.specs.Module.{Module}
use Rattle.enc_unwind.specs.Search.{protects, takes, catch_among, is_after, runs_on, next_among}
use Rattle.enc_unwind.specs.Thrown.{is_caught_by}
use Rattle.enc_unwind.specs.declared.thrown.Thrown.{Thrown}
use Rattle.enc_unwind.specs.declared.thrown.Thrown.TheVariants.{Class}
use Rattle.enc_unwind.specs.declared.way_out.WayOut.{WayOut}
use Rattle.enc_unwind.specs.declared.way_out.WayOut.TheVariants.{Leave}

-- a number is that of a clause that passes a test, with none before it that does; no number, no clause that passes
abbrev pub IsFirstPassing : (ℕ → Handler → Bool) → List Handler → Option ℕ → Type 0
IsFirstPassing test clauses answer = MatchOption answer
    ((k : ℕ) (c : Handler) → slice_get clauses k ≡ Some c → test k c ≡ false)
    (λ k. ((c : Handler) × (slice_get clauses k ≡ Some c) × (test k c ≡ true))
    × ((j : ℕ) (c : Handler) → j < k → slice_get clauses j ≡ Some c → test j c ≡ false))

-- the clause that catches is the first that protects the offset and takes the object
abbrev pub FirstCatches : Type 0
FirstCatches = (m : Module) (stack : ℕ) (clauses : List Handler) (offset : ℕ) (thrown : Thrown) → 0 < stack
    → IsFirstPassing (λ (k : ℕ) (c : Handler). protects c offset && takes m thrown c.kind) clauses
    (catch_among m stack clauses offset thrown)

-- without a value on the stack there is none
abbrev pub NoneCatchesUnheld : Type 0
NoneCatchesUnheld = (m : Module) (clauses : List Handler) (offset : ℕ) (thrown : Thrown)
    → catch_among m 0 clauses offset thrown ≡ None

-- the next clause is the first behind the last one tried that protects the offset and runs
abbrev pub FirstRuns : Type 0
FirstRuns = (clauses : List Handler) (past : Option ℕ) (offset : ℕ) (stop : WayOut)
    → IsFirstPassing (λ (k : ℕ) (c : Handler). is_after past k && protects c offset && runs_on stop k c) clauses
    (next_among clauses past offset stop)

-- what runs at a leave is a finally clause, so no fault clause, and doesn't protect where it goes
abbrev pub FinallyRunsAtLeave : Type 0
FinallyRunsAtLeave = (clauses : List Handler) (past : Option ℕ) (offset goal k : ℕ) (c : Handler)
    → next_among clauses past offset (Leave goal) ≡ Some k → slice_get clauses k ≡ Some c
    → (c.kind ≡ finishing) × (protects c goal ≡ false)

-- an object of a class is caught by its class and by each that the class extends
abbrev pub BasesCatch : Type 0
BasesCatch = (m : Module) (class base : Token) → extends m class base ≡ true → is_caught_by m (Class class) base ≡ true
