-- The plan of what is written of accepted files, and of what isn't.
use Rattle.std.proofs.Common.{◌≡◌, ℕ, List, [], ◌∷◌, Option, Some, None, Ok, Err, sym, ap, subst}
use Rattle.enc_rewriter.specs.Limits.{Passed, too_large, too_heavy, rewrite_limit, IsFault}
use Rattle.enc_rewriter.specs.Rewritten.{RewritesTo}
use Rattle.enc_rewriter.specs.declared.fault.RewriteFault.{RewriteFault}
use Rattle.enc_rewriter.specs.declared.fault.RewriteFault.TheVariants.{Memory, TooLarge, Image}
use Rattle.enc_command_line.specs.Lines.{saved_line}
use Rattle.enc_commands.specs.Plans.{saves_of, IsPlanOf}
use Rattle.enc_commands.specs.Stops.{OnPlan, IsUnwritten}
use Rattle.enc_commands.specs.Verdict.{◌>>=◌, dll, pdb, Followed, plain_of, debug_after, applies, Verdict, limit_told, file_past, past_limit, unless_past, rewrite_on}
use Rattle.enc_commands.specs.Verdict.{can_be_written}
use Rattle.enc_commands.specs.declared.plan.Plan.{Plan}
use Rattle.enc_commands.specs.declared.plan.Outcome.TheVariants.{Accepted}
use Rattle.enc_commands.specs.declared.halt.Halt.{Halt}

-- what is written, by the limit that is passed
write_by : (out : List ℕ) (f : Followed) (o : Option Passed) → rewrite_limit (plain_of f) (debug_after f) ≡ o → rewrite_on out f ≡ (unless_past out f o >>= λ (g : Followed). Ok (applies out g))
unfolding can_be_written
write_by out f o is = ap (λ (x : Option Passed). unless_past out f x >>= λ (g : Followed). Ok (applies out g)) is

pub plan_written : (out : List ℕ) (f : Followed) (plan : Plan) (image symbols : List ℕ) → rewrite_limit (plain_of f) (debug_after f) ≡ None → RewritesTo (plain_of f) (debug_after f) image symbols
    → plan.outcome ≡ Accepted → plan.output.items ≡ saved_line (dll out ∷ pdb out ∷ []) → saves_of plan.saves.items ≡ (dll out, image) ∷ (pdb out, symbols) ∷ [] → IsPlanOf (rewrite_on out f) plan
plan_written out f plan image symbols none written done line saved =
    subst (λ (v : Verdict). IsPlanOf v plan) (sym (write_by out f None none)) (record {
      outcome = done;
      output = line;
      saves = record { image = image; symbols = symbols; saved = saved; module_is = written.image_is; debug_is = written.pdb_is.means; entry_is = written.pdb_is.entry_is };
    })

past : (out : List ℕ) (f : Followed) (p : Passed) (h : Halt) → rewrite_limit (plain_of f) (debug_after f) ≡ Some p → OnPlan h (IsPlanOf (Err (past_limit (file_past out (limit_told p)) (limit_told p))))
    → OnPlan h (IsPlanOf (rewrite_on out f))
past out f p h is plan = subst (λ (v : Verdict). OnPlan h (IsPlanOf v)) (sym (write_by out f (Some p) is)) plan

pub plan_unwritten : (out : List ℕ) (f : Followed) (fault : RewriteFault) (h : Halt) → IsFault fault (rewrite_limit (plain_of f) (debug_after f)) → IsUnwritten out fault h → OnPlan h (IsPlanOf (rewrite_on out f))
plan_unwritten out f Memory h told is = rw is tt
plan_unwritten out f (TooLarge heap) h told is = past out f (too_large heap) h told is
plan_unwritten out f Image h told is = past out f too_heavy h told is
