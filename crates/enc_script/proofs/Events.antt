-- A command that makes one event, with its own line first.
use Rattle.std.proofs.Common.{◌≡◌, ℕ, Bool, List, [], ◌++◌, Ok, refl, sym, ap, ◌∙◌, append_assoc}
use Rattle.enc_base.specs.declared.token.Token.{Token}
use Rattle.enc_frames.specs.Machine.{PlainCode, MachineState}
use Rattle.enc_vm.specs.Step.{Spawning}
use Rattle.enc_vm.specs.Turns.{IsSpawn}
use Rattle.enc_vm.specs.declared.ends.SpawnEnd.{SpawnEnd}
use Rattle.enc_vm.specs.declared.ends.SpawnEnd.TheVariants as spawned
use Rattle.enc_remap.specs.Remap.{Remapping, moved, refused}
use Rattle.enc_remap.specs.declared.remapped.Remapped.{Remapped}
use Rattle.enc_watch.specs.Audience.{Watching}
use Rattle.enc_session.specs.Session.{PlainSession, Happened, HasPassed, remapped_as}
use Rattle.enc_script.specs.Lines.{spawn_line, remap_line}
use Rattle.enc_script.specs.Ran.{spawn_end_line, remapped_end_line, HasRan}
use Rattle.enc_script.specs.Run.{PlainRun, Ran, ran_with, says}

-- a run by its parts
run_is : (r : PlainRun) (s : PlainSession) (handed : List Watching) → r.session ≡ s → r.handed ≡ handed → record { session = s; handed = handed } ≡ r
run_is r s handed session left = rw (← session, ← left) refl

-- the line, and what the event printed, which stands in another text
pub event_ran : (event : List Bool → PlainSession → Happened) (command : List Bool → PlainRun → Ran) (line : List ℕ) (new old : PlainRun) (gone mid now before : List ℕ)
    → ((deaf : List Bool) → command deaf old ≡ ran_with line old.handed (event deaf old.session))
    → HasPassed event new.session old.session gone [] → new.handed ≡ old.handed
    → mid ≡ before ++ line → now ≡ mid ++ gone
    → HasRan command new old now before
event_ran event command line new old gone mid now before is passed left printed closes = record {
  deaf = passed.deaf;
  text = line ++ passed.text;
  appended =
      closes ∙ ap (λ (t : List ℕ). t ++ gone) printed ∙ append_assoc before line gone ∙ ap (λ (t : List ℕ). before ++ (line ++ t)) passed.appended;
  ran = λ more.
      is (passed.deaf ++ more) ∙ ap (ran_with line old.handed) (passed.passed more)
      ∙ ap (λ (r : PlainRun). ran_as r (line ++ passed.text) more) (run_is new new.session old.handed refl left);
}
  where
    ran_as : PlainRun → List ℕ → List Bool → Ran
    ran_as r text deaf = record { run = r; text = text; deaf = deaf }

-- a command that only says something
pub said : (command : List Bool → PlainRun → Ran) (line : List ℕ) (mid new old : PlainRun) (now before : List ℕ)
    → ((deaf : List Bool) → command deaf old ≡ says line deaf mid) → new ≡ mid → now ≡ before ++ line → HasRan command new old now before
said command line mid new old now before is same printed = record {
  deaf = [];
  text = line;
  appended = printed;
  ran = λ more. is more ∙ ap (λ (r : PlainRun). says line more r) (sym same);
}

-- the line of a spawn
pub spawn_said : (method : Token) (end : SpawnEnd) (new old : MachineState PlainCode) (s : Spawning PlainCode) → IsSpawn (Ok end) new old s
    → spawn_end_line method end ≡ spawn_line method s
spawn_said method (spawned.Task n) new old s is = ap (spawn_line method) (sym is)
spawn_said method spawned.Limit new old s is = ap (spawn_line method) (sym is.0)
spawn_said method spawned.Method new old s is = ap (spawn_line method) (sym is.0)

-- the line of a remap
line_of : (task : ℕ) (s : Remapping PlainCode) → remapped_end_line task (remapped_as s) ≡ remap_line task s
line_of task (moved method from to u) = refl
line_of task (refused number) = refl

pub remap_said : (task : ℕ) (r : Remapped) (s : Remapping PlainCode) → r ≡ remapped_as s → remapped_end_line task r ≡ remap_line task s
remap_said task r s is = ap (remapped_end_line task) is ∙ line_of task s
