-- The plan of an edit list: the delta that is written, or the rule that it breaks.
use Rattle.std.proofs.Common.{◌≡◌, ℕ, List, [], ◌∷◌, Option, Some, None, Result, Ok, Err, sym, ap, subst}
use Rattle.enc_agg.specs.Extend.{chain_with}
use Rattle.enc_edit_list.specs.declared.edit.EditList.{EditList}
use Rattle.enc_jobs.specs.declared.fault.JobFault.{JobFault}
use Rattle.enc_jobs.specs.declared.fault.JobFault.TheVariants as job
use Rattle.enc_jobs.specs.Outcome.{GivesList}
use Rattle.enc_rules.specs.First.{first_edit}
use Rattle.enc_emit.specs.declared.delta_bytes.DeltaBytes.{DeltaBytes}
use Rattle.enc_writer.specs.Stands.{IsWrittenFor}
use Rattle.enc_command_line.specs.Lines.{saved_line}
use Rattle.enc_commands.specs.Plans.{saves_of, IsPlanOf}
use Rattle.enc_commands.specs.Stops.{OnPlan, StopsWith, IsUnlisted}
use Rattle.enc_commands.specs.Verdict.{◌>>=◌, meta, il, pdb, Edited, no_list, broken_list, list_in_file, unless_list_broken, writes, Verdict, edits_on}
use Rattle.enc_commands.specs.declared.plan.Plan.{Plan}
use Rattle.enc_commands.specs.declared.plan.Outcome.TheVariants.{Accepted}
use Rattle.enc_commands.specs.declared.halt.Halt.{Halt}

-- what comes of a list, by the first rule that it breaks
edits_by : (name out : List ℕ) (e : Edited) (o : Option (ℕ × ℕ)) → first_edit (chain_with e.followed.base e.followed.deltas) e.list ≡ o → edits_on name out e ≡ (unless_list_broken name e o >>= λ (f : Edited). Ok (writes out f))
edits_by name out e o is = ap (λ (x : Option (ℕ × ℕ)). unless_list_broken name e x >>= λ (f : Edited). Ok (writes out f)) is

pub plan_of_files : (name out : List ℕ) (e : Edited) (plan : Plan) (d : DeltaBytes) → IsWrittenFor (chain_with e.followed.base e.followed.deltas) e.list d
    → plan.outcome ≡ Accepted → plan.output.items ≡ saved_line (meta out ∷ il out ∷ pdb out ∷ []) → saves_of plan.saves.items ≡ (meta out, d.meta) ∷ (il out, d.il) ∷ (pdb out, d.pdb) ∷ [] → IsPlanOf (edits_on name out e) plan
plan_of_files name out e plan d stand done line saved =
    subst (λ (v : Verdict). IsPlanOf v plan) (sym (edits_by name out e None (stand.rules))) (record { outcome = done; output = line; saves = record { files = d; saved = saved; stand = stand.stands } })

pub plan_of_broken : (name out : List ℕ) (e : Edited) (rule edit : ℕ) (h : Halt) → first_edit (chain_with e.followed.base e.followed.deltas) e.list ≡ Some (rule, edit) → OnPlan h (IsPlanOf (Err (broken_list name rule edit)))
    → OnPlan h (IsPlanOf (edits_on name out e))
plan_of_broken name out e rule edit h is plan = subst (λ (v : Verdict). OnPlan h (IsPlanOf v)) (sym (edits_by name out e (Some (rule, edit)) is)) plan

-- a text that is no edit list
no_list_by : (name : List ℕ) (said : Result EditList JobFault) (fault : JobFault) (h : Halt) → said ≡ Err fault → OnPlan h (IsPlanOf (Err (no_list name fault))) → OnPlan h (StopsWith (list_in_file name said))
no_list_by name said fault h is plan = subst (λ (r : Result EditList JobFault). OnPlan h (StopsWith (list_in_file name r))) (sym is) plan

pub text_is_no_list : (name : List ℕ) (said : Result EditList JobFault) (fault : JobFault) (h : Halt) → GivesList (Err fault) said → IsUnlisted name fault h → OnPlan h (StopsWith (list_in_file name said))
text_is_no_list name said job.Memory h given is = rw is tt
text_is_no_list name said job.J1 h given is = no_list_by name said job.J1 h given is
text_is_no_list name said (job.J2 n) h given is = no_list_by name said (job.J2 n) h given is
text_is_no_list name said job.L3 h given is = no_list_by name said job.L3 h given is
