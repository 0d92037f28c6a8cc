-- The searches find the first clause that passes.
use Rattle.std.proofs.Common.{◌≡◌, ℕ, ◌<◌, Bool, true, false, ◌&&◌, List, length, Option, Some, None, refl, sym, ◌∙◌, subst, arith}
use Rattle.std.specs.Prelude.{option_and_then, slice_get, not, ◌==◌, if◌then◌else◌}
use Rattle.std.proofs.lemmas.Bool.Decides.{nat_tests}
use Rattle.std.proofs.lemmas.Option.{slice_get_within}
use Rattle.enc_base.specs.Order.{IsFirst}
use Rattle.enc_base.proofs.First.{first_means}
use Rattle.enc_opcodes.specs.Body.{Handler, HandlerKind, catching, filtering, finishing, faulting}
use Rattle.enc_unwind.specs.Laws.{IsFirstPassing, FirstCatches, NoneCatchesUnheld, FirstRuns, FinallyRunsAtLeave}
use Rattle.enc_unwind.specs.Search.{protects, answer_at, first_clause, takes, catch_among, is_finally, is_after, runs_on, next_among}
use Rattle.enc_unwind.specs.declared.way_out.WayOut.TheVariants.{Leave}

fails_of : (b : Bool) (k : ℕ) → (if b then Some k else None) ≡ None → b ≡ false
fails_of true k h = absurd cc
fails_of false k h = refl

passes_of : (b : Bool) (k x : ℕ) → (if b then Some k else None) ≡ Some x → (b ≡ true) × (k ≡ x)
passes_of true k x h = (refl, cc)
passes_of false k x h = absurd cc

-- a place that answers nothing has no clause that passes, one that answers has one
at_clause : (test : ℕ → Handler → Bool) (clauses : List Handler) (k : ℕ) (c : Handler) → slice_get clauses k ≡ Some c → answer_at test clauses k ≡ (if test k c then Some k else None)
at_clause test clauses k c is = rw is refl

silent_fails : (test : ℕ → Handler → Bool) (clauses : List Handler) (k : ℕ) (c : Handler) → slice_get clauses k ≡ Some c → answer_at test clauses k ≡ None → test k c ≡ false
silent_fails test clauses k c is none = fails_of (test k c) k (sym (at_clause test clauses k c is) ∙ none)

answering : (test : ℕ → Handler → Bool) (clauses : List Handler) (k x : ℕ) → answer_at test clauses k ≡ Some x → ((c : Handler) × (slice_get clauses k ≡ Some c) × (test k c ≡ true)) × (k ≡ x)
answering test clauses k x h = by_place (slice_get clauses k) refl h
  where
    by_place : (o : Option Handler) → slice_get clauses k ≡ o → option_and_then (λ (clause : Handler). if test k clause then Some k else None) o ≡ Some x → ((c : Handler) × (slice_get clauses k ≡ Some c) × (test k c ≡ true)) × (k ≡ x)
    by_place None e h = absurd cc
    by_place (Some c) e h = let p = passes_of (test k c) k x h in ((c, e, p.0), p.1)

by_answer : (test : ℕ → Handler → Bool) (clauses : List Handler) (o : Option ℕ) → IsFirst (answer_at test clauses) (length clauses) o → IsFirstPassing test clauses o
by_answer test clauses None h = λ k c is. silent_fails test clauses k c is (h k (slice_get_within clauses k c is))
by_answer test clauses (Some x) h =
    let a = answering test clauses h.0 x h.2 in
    subst (λ k. ((c : Handler) × (slice_get clauses k ≡ Some c) × (test k c ≡ true)) × ((j : ℕ) (c : Handler) → j < k → slice_get clauses j ≡ Some c → test j c ≡ false)) a.1
    (a.0, λ j c lt is. silent_fails test clauses j c is (h.3 j lt))

first_passing : (test : ℕ → Handler → Bool) (clauses : List Handler) → IsFirstPassing test clauses (first_clause test clauses)
unfolding first_clause
first_passing test clauses = by_answer test clauses (first_clause test clauses) (first_means (answer_at test clauses) (length clauses))

pub first_catches : FirstCatches
unfolding catch_among
first_catches m stack clauses offset thrown some =
    let e : (stack == 0) ≡ false = grind (arith, nat_tests) in
    rw e (first_passing (λ (k : ℕ) (c : Handler). protects c offset && takes m thrown c.kind) clauses)

pub none_catches_unheld : NoneCatchesUnheld
unfolding catch_among
none_catches_unheld m clauses offset thrown = refl

pub first_runs : FirstRuns
unfolding next_among
first_runs clauses past offset stop = first_passing _ clauses

-- what passes at a leave
finally_alone : (kind : HandlerKind) → is_finally kind ≡ true → kind ≡ finishing
finally_alone (catching class) h = absurd cc
finally_alone (filtering offset) h = absurd cc
finally_alone finishing h = refl
finally_alone faulting h = absurd cc

last_two : (a b p : Bool) → (a && (b && not p)) ≡ true → (b ≡ true) × (p ≡ false)
last_two true true false h = (refl, refl)
last_two true true true h = absurd cc
last_two true false p h = absurd cc
last_two false b p h = absurd cc

same_clause : (clauses : List Handler) (k : ℕ) (c d : Handler) → slice_get clauses k ≡ Some c → slice_get clauses k ≡ Some d → c ≡ d
same_clause clauses k c d is other = cc

at_leave : (past : Option ℕ) (k offset goal : ℕ) (c : Handler) → (is_after past k && protects c offset && runs_on (Leave goal) k c) ≡ true → (c.kind ≡ finishing) × (protects c goal ≡ false)
at_leave past k offset goal c h = let p = last_two (is_after past k && protects c offset) (is_finally c.kind) (protects c goal) h in (finally_alone c.kind p.0, p.1)

pub finally_runs_at_leave : FinallyRunsAtLeave
finally_runs_at_leave clauses past offset goal k c found is =
    let first = rw found at (first_runs clauses past offset (Leave goal)) in
    subst (λ (d : Handler). (d.kind ≡ finishing) × (protects d goal ≡ false)) (same_clause clauses k first.0.0 c first.0.1 is) (at_leave past k offset goal first.0.0 first.0.2)
