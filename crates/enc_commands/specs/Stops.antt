-- For the contracts of private functions: what the program's stop, which is called a halt here, says of the stop
-- that is defined.
use Rattle.std.specs.Prelude.{◌≡◌, ◌≢◌, ℕ, List, [], Result, Ok, Err}
use Rattle.enc_base.specs.declared.refusal.ReadFault.{ReadFault}
use Rattle.enc_base.specs.declared.refusal.ReadFault.TheVariants as fault
use Rattle.enc_outside.specs.declared.store.LoadError.{LoadError}
use Rattle.enc_outside.specs.declared.store.LoadError.TheVariants as load
use Rattle.enc_commands.specs.declared.plan.Plan.{Plan}
use Rattle.enc_commands.specs.declared.plan.Outcome.TheVariants.{Usage}
use Rattle.enc_commands.specs.declared.halt.Halt.{Halt}
use Rattle.enc_commands.specs.declared.halt.Halt.TheVariants as halt
use Rattle.enc_rewriter.specs.declared.fault.RewriteFault.{RewriteFault}
use Rattle.enc_rewriter.specs.declared.fault.RewriteFault.TheVariants.{Memory, TooLarge, Image}
use Rattle.enc_jobs.specs.declared.fault.JobFault.{JobFault}
use Rattle.enc_jobs.specs.declared.fault.JobFault.TheVariants as job
use Rattle.enc_command_line.specs.declared.limits.Limit.TheVariants as limit
use Rattle.enc_commands.specs.Verdict.{Stop, refused_file, refused_name, past_limit, file_past, no_list}
use Rattle.enc_commands.specs.Plans.{IsPlanOf}

-- the halt of a failed load
abbrev pub halt_of : LoadError → Halt
halt_of load.Memory = halt.Memory
halt_of load.Failed = halt.Failed

-- a fact of a halt's plan; want of memory and a fault of the store have none
abbrev pub OnPlan : Halt → (Plan → Type 0) → Type 0
OnPlan (halt.Plan plan) P = P plan
OnPlan halt.Memory P = Unit {0}
OnPlan halt.Failed P = Unit {0}

-- a fact of the plan that is carried out, where there is one
abbrev pub IfPlan : Result Plan Halt → (Plan → Type 0) → Type 0
IfPlan (Ok plan) P = P plan
IfPlan (Err h) P = OnPlan h P

-- a plan that isn't the words' fault, and saves nothing
pub record IsQuiet (plan : Plan) : Type 0 where
  pub outcome : plan.outcome ≢ Usage
  pub saves : plan.saves.items ≡ []

-- the plan of the stop at which things ended
abbrev pub StopsWith : {A : Type 0} → Result A Stop → Plan → Type 0
StopsWith (Ok a) plan = ⊥
StopsWith (Err stop) plan = IsPlanOf (Err stop) plan

-- what was made is seen as what is defined, or it ended at the defined stop
abbrev pub Comes : {A B : Type 0} → (A → B) → Result A Halt → Result B Stop → Type 0
Comes view (Ok a) r = r ≡ Ok (view a)
Comes view (Err h) r = OnPlan h (StopsWith r)

abbrev pub StopsQuietly : {A : Type 0} → Result A Halt → Type 0
StopsQuietly (Ok a) = Unit {0}
StopsQuietly (Err h) = OnPlan h IsQuiet

-- what becomes of a file that isn't read: the stop of its refusal, or want of memory
abbrev pub IsUnread : List ℕ → ReadFault → Halt → Type 0
IsUnread name (fault.Refused e) h = OnPlan h (IsPlanOf (Err (refused_file name e)))
IsUnread name fault.Memory h = h ≡ halt.Memory

-- what becomes of a module that isn't written: the stop at the limit that it passes, or want of memory
abbrev pub IsUnwritten : List ℕ → RewriteFault → Halt → Type 0
IsUnwritten out (TooLarge heap) h =
    OnPlan h (IsPlanOf (Err (past_limit (file_past out (limit.Heap heap)) (limit.Heap heap))))
IsUnwritten out Image h = OnPlan h (IsPlanOf (Err (past_limit (file_past out limit.Image) limit.Image)))
IsUnwritten out Memory h = h ≡ halt.Memory

-- what becomes of a delta that isn't accepted: its PDB is refused, or its metadata; or want of memory
abbrev pub IsUnaccepted : List ℕ → List ℕ → ReadFault → Halt → Type 0
IsUnaccepted name debug_name (fault.Refused e) h =
    OnPlan h (IsPlanOf (Err (refused_file (refused_name name debug_name e) e)))
IsUnaccepted name debug_name fault.Memory h = h ≡ halt.Memory

-- what becomes of a text that isn't read as an edit list: the stop of its fault, or want of memory
abbrev pub IsUnlisted : List ℕ → JobFault → Halt → Type 0
IsUnlisted name job.Memory h = h ≡ halt.Memory
IsUnlisted name fault h = OnPlan h (IsPlanOf (Err (no_list name fault)))
