-- A run: what is loaded and judged, up to where it stops.
use Rattle.std.proofs.Common.{◌≡◌, ℕ, ◌+◌, List, length, Option, Some, None, Result, Ok, Err}
use Rattle.std.specs.Prelude.{IfSome}
use Rattle.enc_jobs.specs.Scripts.{script_said}
use Rattle.enc_jobs.specs.declared.command.Command.{Command}
use Rattle.enc_outside.specs.Outside.{Files}
use Rattle.enc_script.specs.Run.{NamedFiles}
use Rattle.enc_watch.specs.Audience.{Watching}
use Rattle.enc_commands.proofs.Loading.{halt_is}
use Rattle.enc_commands.specs.Plans.{IsPlanOf}
use Rattle.enc_commands.specs.Stops.{OnPlan, IfPlan, StopsWith}
use Rattle.enc_commands.specs.Verdict.{BaseFiles, Followed, base_size, load_base, load_one, judge_base, list_in_file, load_named, run_on, runs}
use Rattle.enc_commands.specs.declared.plan.Plan.{Plan}
use Rattle.enc_commands.specs.declared.halt.Halt.{Halt}

-- a fact of the plan of a halt
pub if_gone : {A : Type 0} (o : Option A) (r : Result Plan Halt) (h : Halt) (P : A → Plan → Type 0) → r ≡ Err h → IfSome o (λ x. OnPlan h (P x)) → IfSome o (λ x. IfPlan r (P x))
if_gone (Some x) r h P gone fact = rw gone fact
if_gone None r h P gone fact = tt

-- a fact of told files from three
pub if_three : {A : Type 0} (o : Option A) (P Q R S : A → Type 0) → IfSome o P → IfSome o Q → IfSome o R → ((x : A) → P x → Q x → R x → S x) → IfSome o S
if_three (Some x) P Q R S p q r f = f x p q r
if_three None P Q R S p q r f = tt

-- it stops at the script
pub stops_at_script : (handed : List Watching) (files : Files) (base script : List ℕ) (f : BaseFiles) (text : List ℕ) (g : Followed) (h : Halt)
    → load_base files base 0 ≡ Ok f → load_one files script (base_size f) ≡ Ok text → judge_base base f ≡ Ok g
    → OnPlan h (StopsWith (list_in_file script (script_said text))) → OnPlan h (IsPlanOf (run_on handed files base script))
unfolding run_on
stops_at_script handed files base script f text g h one two three stops = rw (one, two, three) (halt_is h (list_in_file script (script_said text)) _ stops)

-- or where the deltas are loaded
pub stops_at_deltas : (handed : List Watching) (files : Files) (base script : List ℕ) (f : BaseFiles) (text : List ℕ) (g : Followed) (commands : List Command) (h : Halt)
    → load_base files base 0 ≡ Ok f → load_one files script (base_size f) ≡ Ok text → judge_base base f ≡ Ok g
    → list_in_file script (script_said text) ≡ Ok commands
    → OnPlan h (StopsWith (load_named files commands (base_size f + length text))) → OnPlan h (IsPlanOf (run_on handed files base script))
unfolding run_on
stops_at_deltas handed files base script f text g commands h one two three four stops =
    rw (one, two, three, four) (halt_is h (load_named files commands (base_size f + length text)) _ stops)

-- or all is there
pub run_is : (handed : List Watching) (files : Files) (base script : List ℕ) (f : BaseFiles) (text : List ℕ) (g : Followed) (commands : List Command) (deltas : List NamedFiles)
    → load_base files base 0 ≡ Ok f → load_one files script (base_size f) ≡ Ok text → judge_base base f ≡ Ok g
    → list_in_file script (script_said text) ≡ Ok commands → load_named files commands (base_size f + length text) ≡ Ok deltas
    → (plan : Plan) → IsPlanOf (Ok (runs handed g deltas commands)) plan → IsPlanOf (run_on handed files base script) plan
unfolding run_on
run_is handed files base script f text g commands deltas one two three four five plan is = rw (one, two, three, four, five) is
