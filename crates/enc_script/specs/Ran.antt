-- For the contracts of private functions: what commands came to, as it is handed out.
use Rattle.std.specs.Prelude.{◌≡◌, ℕ, Bool, List, ◌++◌, codes}
use Rattle.enc_base.specs.declared.token.Token.{Token}
use Rattle.enc_text.specs.Text.{token_text}
use Rattle.enc_vm.specs.declared.ends.SpawnEnd.{SpawnEnd}
use Rattle.enc_vm.specs.declared.ends.SpawnEnd.TheVariants as spawned
use Rattle.enc_remap.specs.declared.remapped.Remapped.{Remapped}
use Rattle.enc_remap.specs.declared.remapped.Remapped.TheVariants as remapped
use Rattle.enc_session.specs.Lines.{task_line}
use Rattle.enc_session.specs.Session.{PlainSession}
use Rattle.enc_script.specs.Lines.{refused_spawn, remapped_line, remap_refused_line}
use Rattle.enc_script.specs.Run.{PlainRun, Ran, StepsMade}

-- the line of a spawn, by what it came to
abbrev pub spawn_end_line : Token → SpawnEnd → List ℕ
spawn_end_line method (spawned.Task n) = task_line n (codes "spawned " ++ token_text method)
spawn_end_line method spawned.Limit = refused_spawn method (codes "limit")
spawn_end_line method spawned.Method = refused_spawn method (codes "method")

-- the line of a remap, by what it came to
abbrev pub remapped_end_line : ℕ → Remapped → List ℕ
remapped_end_line task (remapped.Moved method from to) = remapped_line task method from to
remapped_end_line task (remapped.Refused number) = remap_refused_line task number

-- commands ran, and what they print was appended: of each hearing it is free only whether it found memory
pub record HasRan (commands : List Bool → PlainRun → Ran) (new old : PlainRun) (now before : List ℕ) : Type 0 where
  pub deaf : List Bool
  pub text : List ℕ
  pub appended : now ≡ before ++ text
  pub ran : (more : List Bool) → commands (deaf ++ more) old ≡ record { run = new; text = text; deaf = more }

-- and steps
pub record HaveStepped (steps : List Bool → PlainSession → StepsMade) (count : ℕ) (new old : PlainSession)
    (now before : List ℕ) : Type 0 where
  pub deaf : List Bool
  pub text : List ℕ
  pub appended : now ≡ before ++ text
  pub stepped : (more : List Bool)
      → steps (deaf ++ more) old ≡ record { count = count; passed = record { session = new; text = text; deaf = more } }
