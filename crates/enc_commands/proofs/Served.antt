-- From a plan that is carried out to the answer.
use Rattle.std.proofs.Common.{◌≡◌, ℕ, ◌≤◌, true, List, [], Option, Some, None, Err, refl, ◌∙◌, ap, sym, subst, inl, inr, arith}
use Rattle.std.specs.Prelude.{◌⊎◌, IfSome, IsSome}
use Rattle.enc_outside.specs.Outside.{Files, IsTold, Rose}
use Rattle.enc_saves.specs.declared.save.Save.{Save}
use Rattle.enc_commands.specs.declared.plan.Outcome.{Outcome}
use Rattle.enc_commands.specs.declared.plan.Outcome.TheVariants.{Accepted, Refused, Usage, Missing}
use Rattle.enc_commands.specs.declared.ending.Ending.{Ending}
use Rattle.enc_commands.specs.declared.ending.Ending.TheVariants.{Whole, Memory, StoreFault, SinkFault}
use Rattle.enc_watch.specs.Audience.{Watching}
use Rattle.enc_command_line.specs.Words.{Job, job_of}
use Rattle.enc_commands.specs.declared.plan.Plan.{Plan}
use Rattle.enc_commands.specs.Verdict.{Verdict, no_command, verdict_of}
use Rattle.enc_commands.specs.Done.{IsAnswer, AreSaves, outcome_of}
use Rattle.enc_commands.specs.Ending.{after_saves, SavesAt, PrintsAt, IfWhole, number_of_ending, number_of_outcome}
use Rattle.enc_commands.specs.Plans.{IsPlanOf, saves_of}
use Rattle.enc_commands.specs.Answers.{answer_is_whole, status_of, IsPrinted, IsSaved, Leaves, LeavesAt, Prints, PrintsFor}
use Rattle.enc_commands.specs.Served.{Course, Serves, course}

pub if_some : {A : Type 0} (o : Option A) (P Q : A → Type 0) → IfSome o P → ((x : A) → P x → Q x) → IfSome o Q
if_some (Some x) P Q h f = f x h
if_some None P Q h f = h

pub leaves_at : (e : Ending) (verdict : Verdict) (saves : List (List ℕ × List ℕ)) (old new : Option Files) → AreSaves verdict saves → SavesAt e saves old new → LeavesAt e verdict old new
leaves_at (Whole o) verdict saves old new lawful h = (saves, lawful, h)
leaves_at Memory verdict saves old new lawful h = inr (saves, lawful, h)
leaves_at StoreFault verdict saves old new lawful h = inr (saves, lawful, h)
leaves_at SinkFault verdict saves old new lawful h = (saves, lawful, h)

pub prints_for : (e : Ending) (verdict : Verdict) (output : List ℕ) (old new : Option (List ℕ)) → IsAnswer verdict output → PrintsAt e output old new → PrintsFor e verdict old new
prints_for (Whole o) verdict output old new lawful h = (output, lawful, h)
prints_for Memory verdict output old new lawful h = h
prints_for StoreFault verdict output old new lawful h = h
prints_for SinkFault verdict output old new lawful h = (output, lawful, h)

nothing_saved : (saves : List Save) (old new : Option Files) → saves ≡ [] → new ≡ after_saves (saves_of saves) old → new ≡ old
unfolding after_saves
nothing_saved saves old new e h = rw e at h

-- a whole answer that isn't accepted has saved nothing
pub unchanged_by : (e : Ending) (saves : List Save) (o : Outcome) (old new : Option Files) → IfWhole e (λ x. x ≡ o) → (o ≡ Accepted) ⊎ (saves ≡ []) → SavesAt e (saves_of saves) old new → IfWhole e (λ x. (x ≡ Accepted) ⊎ (new ≡ old))
unchanged_by (Whole x) saves o old new is (inl done) h = inl (is ∙ done)
unchanged_by (Whole x) saves o old new is (inr none) h = inr (nothing_saved saves old new none h)
unchanged_by Memory saves o old new is w h = tt
unchanged_by StoreFault saves o old new is w h = tt
unchanged_by SinkFault saves o old new is w h = tt

-- where nothing is to be saved the store can't fail
pub asked_for : (j : Option Job) (e : Ending) (saves : List (List ℕ × List ℕ)) (old new : Option Files) → (j ≡ None → saves ≡ []) → SavesAt e saves old new → e ≡ StoreFault → IsSome j
asked_for (Some j) e saves old new none h is = refl
asked_for None StoreFault saves old new none h is = absurd ((rw (none refl) at h).1)
asked_for None (Whole o) saves old new none h is = cc
asked_for None Memory saves old new none h is = cc
asked_for None SinkFault saves old new none h is = cc

-- what an ending says of the words, the files and what was printed
pub record Ends (texts : List (List ℕ)) (watchers : List Watching) (e : Ending) (store : Course Files) (sink : Course (List ℕ)) : Type 0 where
  pub verdict : IfSome store.old (λ files. IfWhole e (λ o. o ≡ outcome_of (verdict_of watchers texts files)))
  pub printed : IfSome store.old (λ files. PrintsFor e (verdict_of watchers texts files) sink.old sink.new)
  pub left : IfSome store.old (λ files. LeavesAt e (verdict_of watchers texts files) store.old store.new)
  pub usage : job_of texts ≡ None → PrintsFor e (Err no_command) sink.old sink.new
  pub no_job : job_of texts ≡ None → IfWhole e (λ o. o ≡ Usage)
  pub said : e ≡ Whole Usage → job_of texts ≡ None
  pub unchanged : IfWhole e (λ o. (o ≡ Accepted) ⊎ (store.new ≡ store.old))
  pub memory : e ≡ Memory → sink.new ≡ sink.old
  pub nothing : e ≡ StoreFault → sink.new ≡ sink.old
  pub asked : e ≡ StoreFault → IsSome (job_of texts)
  pub store_told : IsTold (e ≡ StoreFault) store.faults_before store.faults_after
  pub sink_told : IsTold (e ≡ SinkFault) sink.faults_before sink.faults_after

-- which ending a status tells
is_two : (e : Ending) → number_of_ending e ≡ 2 → e ≡ Whole Usage
is_two (Whole Accepted) is = absurd cc
is_two (Whole Refused) is = absurd cc
is_two (Whole Usage) is = refl
is_two (Whole Missing) is = absurd cc
is_two Memory is = absurd cc
is_two StoreFault is = absurd cc
is_two SinkFault is = absurd cc

is_three : (e : Ending) → number_of_ending e ≡ 3 → e ≡ Memory
is_three (Whole Accepted) is = absurd cc
is_three (Whole Refused) is = absurd cc
is_three (Whole Usage) is = absurd cc
is_three (Whole Missing) is = absurd cc
is_three Memory is = refl
is_three StoreFault is = absurd cc
is_three SinkFault is = absurd cc

is_four : (e : Ending) → number_of_ending e ≡ 4 → e ≡ StoreFault
is_four (Whole Accepted) is = absurd cc
is_four (Whole Refused) is = absurd cc
is_four (Whole Usage) is = absurd cc
is_four (Whole Missing) is = absurd cc
is_four Memory is = absurd cc
is_four StoreFault is = refl
is_four SinkFault is = absurd cc

is_five : (e : Ending) → number_of_ending e ≡ 5 → e ≡ SinkFault
is_five (Whole Accepted) is = absurd cc
is_five (Whole Refused) is = absurd cc
is_five (Whole Usage) is = absurd cc
is_five (Whole Missing) is = absurd cc
is_five Memory is = absurd cc
is_five StoreFault is = absurd cc
is_five SinkFault is = refl

-- a fact of a whole ending, where the status is that of a whole answer
when_whole : (e : Ending) (P : Outcome → Type 0) (Q : ℕ → Type 0) → IfWhole e P → ((o : Outcome) → P o → Q (number_of_outcome o)) → answer_is_whole (number_of_ending e) ≡ true → Q (number_of_ending e)
when_whole (Whole o) P Q h f whole = f o h
when_whole Memory P Q h f whole = absurd cc
when_whole StoreFault P Q h f whole = absurd cc
when_whole SinkFault P Q h f whole = absurd cc

prints_whole : (e : Ending) (v : Verdict) (old new : Option (List ℕ)) → PrintsFor e v old new → answer_is_whole (number_of_ending e) ≡ true → IsPrinted v old new
prints_whole (Whole o) v old new h whole = h
prints_whole Memory v old new h whole = absurd cc
prints_whole StoreFault v old new h whole = absurd cc
prints_whole SinkFault v old new h whole = absurd cc

leaves_whole : (e : Ending) (v : Verdict) (old new : Option Files) → LeavesAt e v old new → answer_is_whole (number_of_ending e) ≡ true → IsSaved v old new
leaves_whole (Whole o) v old new h whole = h
leaves_whole Memory v old new h whole = absurd cc
leaves_whole StoreFault v old new h whole = absurd cc
leaves_whole SinkFault v old new h whole = absurd cc

prints : (e : Ending) (v : Verdict) (old new : Option (List ℕ)) → PrintsFor e v old new → Prints (number_of_ending e) v old new
prints e v old new h = record {
  whole = prints_whole e v old new h;
  memory = λ is. subst (λ (x : Ending). PrintsFor x v old new) (is_three e is) h;
  store = λ is. subst (λ (x : Ending). PrintsFor x v old new) (is_four e is) h;
  fault = λ is. subst (λ (x : Ending). PrintsFor x v old new) (is_five e is) h;
}

leaves : (e : Ending) (v : Verdict) (old new : Option Files) → LeavesAt e v old new → Leaves (number_of_ending e) v old new
leaves e v old new h = record {
  whole = leaves_whole e v old new h;
  fault = λ is. subst (λ (x : Ending). LeavesAt x v old new) (is_five e is) h;
  memory = λ is. subst (λ (x : Ending). LeavesAt x v old new) (is_three e is) h;
  store = λ is. subst (λ (x : Ending). LeavesAt x v old new) (is_four e is) h;
}

-- where neither the store nor the sink failed, the status is the verdict's, or memory ran out
completes : (e : Ending) (v : Verdict) (a b x y : ℕ) → IfWhole e (λ o. o ≡ outcome_of v) → IsTold (e ≡ StoreFault) a b → IsTold (e ≡ SinkFault) x y → ¬ Rose a b → ¬ Rose x y
    → (number_of_ending e ≡ status_of v) ⊎ (number_of_ending e ≡ 3)
completes (Whole o) v a b x y is store sink no_store no_sink = inl (ap number_of_outcome is)
completes Memory v a b x y is store sink no_store no_sink = inr refl
completes StoreFault v a b x y is store sink no_store no_sink = absurd (no_store (store.rose refl))
completes SinkFault v a b x y is store sink no_store no_sink = absurd (no_sink (sink.rose refl))

stands_by : {P Q R : Type 0} → (P → Q) → R ⊎ P → R ⊎ Q
stands_by f (inl r) = inl r
stands_by f (inr p) = inr (f p)

by_sum : {P Q R : Type 0} → (P → Q) → P ⊎ R → Q ⊎ R
by_sum f (inl p) = inl (f p)
by_sum f (inr r) = inr r

every_some : {A : Type 0} (o : Option A) (P : A → Type 0) → ((x : A) → P x) → IfSome o P
every_some (Some x) P f = f x
every_some None P f = tt

told_by : {P Q : Type 0} (a b : ℕ) → (P → Q) → (Q → P) → IsTold P a b → IsTold Q a b
told_by a b f g t = record { later = t.later; rose = λ q. t.rose (g q); stands = stands_by f t.stands }

within_six : (e : Ending) → number_of_ending e ≤ 6
within_six (Whole Accepted) = omega arith
within_six (Whole Refused) = omega arith
within_six (Whole Usage) = omega arith
within_six (Whole Missing) = omega arith
within_six Memory = omega arith
within_six StoreFault = omega arith
within_six SinkFault = omega arith

-- so it is what a call does, by its status
pub serves : (texts : List (List ℕ)) (watchers : List Watching) (e : Ending) (store : Course Files) (sink : Course (List ℕ)) → Ends texts watchers e store sink → Serves texts watchers (number_of_ending e) store sink
serves texts watchers e store sink h = record {
  known = within_six e;
  verdict = if_some store.old _ _ h.verdict (λ files is. when_whole e (λ o. o ≡ outcome_of (verdict_of watchers texts files)) (λ n. n ≡ status_of (verdict_of watchers texts files)) is (λ o. ap number_of_outcome));
  prints = if_some store.old _ _ h.printed (λ files. prints e (verdict_of watchers texts files) sink.old sink.new);
  files = if_some store.old _ _ h.left (λ files. leaves e (verdict_of watchers texts files) store.old store.new);
  complete = if_some store.old _ _ h.verdict (λ files is. completes e (verdict_of watchers texts files) _ _ _ _ is h.store_told h.sink_told);
  usage = λ none. prints e (Err no_command) sink.old sink.new (h.usage none);
  no_job = λ none. when_whole e (λ o. o ≡ Usage) (λ n. n ≡ 2) (h.no_job none) (λ o. ap number_of_outcome);
  words = λ is. h.said (is_two e is);
  unchanged = when_whole e (λ o. (o ≡ Accepted) ⊎ (store.new ≡ store.old)) (λ n. (n ≡ 0) ⊎ (store.new ≡ store.old)) h.unchanged
      (λ o. by_sum (ap number_of_outcome));
  memory = λ is. h.memory (is_three e is);
  nothing = λ is. h.nothing (is_four e is);
  asked = λ is. h.asked (is_four e is);
  store_fault = told_by _ _ (ap number_of_ending) (is_four e) h.store_told;
  sink_fault = told_by _ _ (ap number_of_ending) (is_five e) h.sink_told;
}

same_count : {P : Type 0} (a b : ℕ) → (P → ⊥) → (b ≡ a) ⊎ P → b ≡ a
same_count a b not (inl e) = e
same_count a b not (inr p) = absurd (not p)

-- a count of faults stands where none was told
pub stood : {P : Type 0} (a b : ℕ) → (P → ⊥) → IsTold P a b → b ≡ a
stood a b not t = same_count a b not t.stands

whole_is : (x y : Outcome) → Whole x ≡ Whole y → x ≡ y
whole_is x y e = cc

usage_said : (e : Ending) (o : Outcome) (N : Type 0) → IfWhole e (λ x. x ≡ o) → (o ≡ Usage → N) → e ≡ Whole Usage → N
usage_said (Whole x) o N is f e = f (sym is ∙ whole_is x Usage e)
usage_said Memory o N is f e = absurd cc
usage_said StoreFault o N is f e = absurd cc
usage_said SinkFault o N is f e = absurd cc

whole_map : (e : Ending) (P Q : Outcome → Type 0) → ((o : Outcome) → P o → Q o) → IfWhole e P → IfWhole e Q
whole_map (Whole o) P Q f h = f o h
whole_map Memory P Q f h = tt
whole_map StoreFault P Q f h = tt
whole_map SinkFault P Q f h = tt

-- a plan that is carried out
pub carried_out : (texts : List (List ℕ)) (watchers : List Watching) (plan : Plan) (e : Ending) (old new : Option Files) (before after : ℕ) (sink : Course (List ℕ))
    → IfSome old (λ files. IsPlanOf (verdict_of watchers texts files) plan) → (job_of texts ≡ None → IsPlanOf (Err no_command) plan)
    → (plan.outcome ≡ Usage → job_of texts ≡ None) → (plan.outcome ≡ Accepted) ⊎ (plan.saves.items ≡ [])
    → IsTold (e ≡ StoreFault) before after → IsTold (e ≡ SinkFault) sink.faults_before sink.faults_after → IfWhole e (λ o. o ≡ plan.outcome)
    → SavesAt e (saves_of plan.saves.items) old new → PrintsAt e plan.output.items sink.old sink.new
    → Serves texts watchers (number_of_ending e) (course old new before after) sink
carried_out texts watchers plan e old new before after sink planned usage said kept store out ending saved printed = serves texts watchers e (course old new before after) sink (record {
  verdict = if_some old _ _ planned (λ files p. whole_map e _ _ (λ o is. is ∙ p.outcome) ending);
  printed = if_some old _ _ planned (λ files p. prints_for e _ _ _ _ p.output printed);
  left = if_some old _ _ planned (λ files p. leaves_at e _ _ _ _ p.saves saved);
  usage = λ none. let p = usage none in prints_for e _ _ _ _ p.output printed;
  no_job = λ none. let p = usage none in whole_map e _ _ (λ o is. is ∙ p.outcome) ending;
  said = usage_said e plan.outcome (job_of texts ≡ None) ending said;
  unchanged = unchanged_by e plan.saves.items plan.outcome old new ending kept saved;
  memory = λ is. subst (λ (x : Ending). PrintsAt x plan.output.items sink.old sink.new) is printed;
  nothing = λ is. subst (λ (x : Ending). PrintsAt x plan.output.items sink.old sink.new) is printed;
  asked = asked_for (job_of texts) e (saves_of plan.saves.items) old new (λ none. (usage none).saves) saved;
  store_told = store;
  sink_told = out;
})

-- where memory ran out before there was a plan
pub out_of_memory : (texts : List (List ℕ)) (watchers : List Watching) (old new : Option Files) (before after : ℕ) (out : Option (List ℕ)) (faults : ℕ) → new ≡ old → after ≡ before
    → Serves texts watchers 3 (course old new before after) (course out out faults faults)
out_of_memory texts watchers old new before after out faults files stands = serves texts watchers Memory (course old new before after) (course out out faults faults) (record {
  verdict = every_some old _ (λ x. tt);
  printed = every_some old _ (λ x. refl);
  left = every_some old _ (λ x. inl files);
  usage = λ none. refl;
  no_job = λ none. tt;
  said = λ is. absurd cc;
  unchanged = tt;
  memory = λ is. refl;
  nothing = λ is. refl;
  asked = λ is. absurd cc;
  store_told = record { later = omega (arith, stands); rose = λ is. absurd cc; stands = inl stands };
  sink_told = record { later = omega arith; rose = λ is. absurd cc; stands = inl refl };
})

-- where the store failed before there was a plan
pub store_failed : (texts : List (List ℕ)) (watchers : List Watching) (old new : Option Files) (before after : ℕ) (out : Option (List ℕ)) (faults : ℕ) → new ≡ old → before ≤ after → Rose before after
    → IsSome (job_of texts) → Serves texts watchers 4 (course old new before after) (course out out faults faults)
store_failed texts watchers old new before after out faults files later rose asked = serves texts watchers StoreFault (course old new before after) (course out out faults faults) (record {
  verdict = every_some old _ (λ x. tt);
  printed = every_some old _ (λ x. refl);
  left = every_some old _ (λ x. inl files);
  usage = λ none. refl;
  no_job = λ none. tt;
  said = λ is. absurd cc;
  unchanged = tt;
  memory = λ is. refl;
  nothing = λ is. refl;
  asked = λ is. asked;
  store_told = record { later = later; rose = λ is. rose; stands = inr refl };
  sink_told = record { later = omega arith; rose = λ is. absurd cc; stands = inl refl };
})

-- a status by its number
pub as_number : (texts : List (List ℕ)) (watchers : List Watching) (n m : ℕ) (store : Course Files) (sink : Course (List ℕ)) → n ≡ m → Serves texts watchers m store sink → Serves texts watchers n store sink
as_number texts watchers n m store sink is h = subst (λ (k : ℕ). Serves texts watchers k store sink) (sym is) h
