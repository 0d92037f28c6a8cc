-- The plan of what is written of accepted files in the order of an ordinary module, and of what isn't.
use Rattle.std.proofs.Common.{◌≡◌, ℕ, true, List, [], ◌∷◌, ◌++◌, Option, Some, None, Ok, Err, sym, ap, subst}
use Rattle.enc_compact.specs.Laws.{MovedStandsInOrder}
use Rattle.enc_compact.specs.Moved.{module_moved, pdb_moved, moves_listed}
use Rattle.enc_compact.proofs.InOrder.{moved_in_order}
use Rattle.enc_plain.specs.Debug.{PlainPdb}
use Rattle.enc_plain.specs.Module.{Module}
use Rattle.enc_plain.specs.Sound.{IsSound}
use Rattle.enc_rewriter.specs.Limits.{Passed, too_large, too_heavy, rewrite_limit, IsFault}
use Rattle.enc_rewriter.specs.Rewritten.{RewritesTo, stands_in_order}
use Rattle.enc_rewriter.specs.declared.fault.RewriteFault.{RewriteFault}
use Rattle.enc_rewriter.specs.declared.fault.RewriteFault.TheVariants.{Memory, TooLarge, Image}
use Rattle.enc_command_line.specs.Lines.{saved_line, moved_lines}
use Rattle.enc_commands.specs.Plans.{saves_of, IsPlanOf}
use Rattle.enc_commands.specs.Stops.{OnPlan, IsUnwritten}
use Rattle.enc_commands.specs.Verdict.{◌>>=◌, dll, pdb, Followed, plain_of, debug_after, compacts, Verdict, limit_told, file_past, past_limit, unless_past, compacted_on}
use Rattle.enc_commands.specs.Verdict.{can_be_compacted}
use Rattle.enc_commands.specs.declared.plan.Plan.{Plan}
use Rattle.enc_commands.specs.declared.plan.Outcome.TheVariants.{Accepted}
use Rattle.enc_commands.specs.declared.halt.Halt.{Halt}

-- what is written, by the limit that is passed
abbrev limit_of : Followed → Option Passed
limit_of f = rewrite_limit (module_moved (plain_of f)) (pdb_moved (plain_of f) (debug_after f))

write_by : (out : List ℕ) (f : Followed) (o : Option Passed) → limit_of f ≡ o → compacted_on out f ≡ (unless_past out f o >>= λ (g : Followed). Ok (compacts out g))
unfolding can_be_compacted
write_by out f o is = ap (λ (x : Option Passed). unless_past out f x >>= λ (g : Followed). Ok (compacts out g)) is

plan_compacted : (out : List ℕ) (f : Followed) (plan : Plan) (image symbols : List ℕ) → stands_in_order (module_moved (plain_of f)) ≡ true → limit_of f ≡ None
    → RewritesTo (module_moved (plain_of f)) (pdb_moved (plain_of f) (debug_after f)) image symbols → plan.outcome ≡ Accepted
    → plan.output.items ≡ saved_line (dll out ∷ pdb out ∷ []) ++ moved_lines (moves_listed (plain_of f))
    → saves_of plan.saves.items ≡ (dll out, image) ∷ (pdb out, symbols) ∷ [] → IsPlanOf (compacted_on out f) plan
plan_compacted out f plan image symbols order none written done line saved =
    subst (λ (v : Verdict). IsPlanOf v plan) (sym (write_by out f None none)) (record {
      outcome = done;
      output = line;
      saves = record {
        files = record { image = image; symbols = symbols; saved = saved; module_is = written.image_is; debug_is = written.pdb_is.means; entry_is = written.pdb_is.entry_is };
        plain = written.plain order;
      };
    })

past : (out : List ℕ) (f : Followed) (p : Passed) (h : Halt) → limit_of f ≡ Some p → OnPlan h (IsPlanOf (Err (past_limit (file_past out (limit_told p)) (limit_told p))))
    → OnPlan h (IsPlanOf (compacted_on out f))
past out f p h is plan = subst (λ (v : Verdict). OnPlan h (IsPlanOf v)) (sym (write_by out f (Some p) is)) plan

plan_uncompacted : (out : List ℕ) (f : Followed) (fault : RewriteFault) (h : Halt) → IsFault fault (limit_of f) → IsUnwritten out fault h → OnPlan h (IsPlanOf (compacted_on out f))
plan_uncompacted out f Memory h told is = rw is tt
plan_uncompacted out f (TooLarge heap) h told is = past out f (too_large heap) h told is
plan_uncompacted out f Image h told is = past out f too_heavy h told is

-- the same of what is written of a module and a PDB that are these
pub plan_of_written : (out : List ℕ) (f : Followed) (plan : Plan) (image symbols : List ℕ) (m : Module) (p : PlainPdb) → MovedStandsInOrder → IsSound (plain_of f)
    → m ≡ module_moved (plain_of f) → p ≡ pdb_moved (plain_of f) (debug_after f) → rewrite_limit m p ≡ None → RewritesTo m p image symbols → plan.outcome ≡ Accepted
    → plan.output.items ≡ saved_line (dll out ∷ pdb out ∷ []) ++ moved_lines (moves_listed (plain_of f))
    → saves_of plan.saves.items ≡ (dll out, image) ∷ (pdb out, symbols) ∷ [] → IsPlanOf (compacted_on out f) plan
plan_of_written out f plan image symbols m p law sound module_is pdb_is none written =
    plan_compacted out f plan image symbols (moved_in_order law (plain_of f) sound)
    (subst (λ (n : Module). rewrite_limit n (pdb_moved (plain_of f) (debug_after f)) ≡ None) module_is (subst (λ (q : PlainPdb). rewrite_limit m q ≡ None) pdb_is none))
    (subst (λ (n : Module). RewritesTo n (pdb_moved (plain_of f) (debug_after f)) image symbols) module_is (subst (λ (q : PlainPdb). RewritesTo m q image symbols) pdb_is written))

pub plan_of_unwritten : (out : List ℕ) (f : Followed) (fault : RewriteFault) (h : Halt) (m : Module) (p : PlainPdb) → m ≡ module_moved (plain_of f) → p ≡ pdb_moved (plain_of f) (debug_after f)
    → IsFault fault (rewrite_limit m p) → IsUnwritten out fault h → OnPlan h (IsPlanOf (compacted_on out f))
plan_of_unwritten out f fault h m p module_is pdb_is tells =
    plan_uncompacted out f fault h
    (subst (λ (n : Module). IsFault fault (rewrite_limit n (pdb_moved (plain_of f) (debug_after f)))) module_is (subst (λ (q : PlainPdb). IsFault fault (rewrite_limit m q)) pdb_is tells))
