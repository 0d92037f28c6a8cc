-- Steps of a task, one behind the other.
use Rattle.std.proofs.Common.{◌≡◌, ℕ, suc, ◌+◌, ◌-◌, ◌<◌, ◌≤◌, ◌⊎◌, inl, inr, Bool, List, [], ◌++◌, refl, sym, ap, ◌∙◌, append_assoc, append-nil, arith}
use Rattle.enc_objects.specs.declared.trap.Trap.{Trap}
use Rattle.enc_frames.specs.Machine.{PlainCode}
use Rattle.enc_vm.specs.Step.{ran, done, stopped}
use Rattle.enc_vm.specs.Turns.{MachineTurn, absent, idle, went, machine_turn}
use Rattle.enc_vm.specs.declared.ends.StepEnd.{StepEnd}
use Rattle.enc_vm.specs.declared.ends.StepEnd.TheVariants as end
use Rattle.enc_session.specs.Session.{PlainSession, Happened, world_of, step_passed, turn_end, HasPassed}
use Rattle.enc_script.specs.Ran.{HaveStepped}
use Rattle.enc_script.specs.Run.{StepsMade, steps_behind, steps_by, steps_of}

-- so many steps were made; whatever comes of those that are left, comes with them of all
abbrev pub IsRest : ℕ → ℕ → ℕ → PlainSession → PlainSession → List ℕ → List ℕ → Type 0
IsRest task count made first s mid before =
    (n : ℕ) (new : PlainSession) (now : List ℕ) → HaveStepped (steps_of task (count - made)) n new s now mid
    → HaveStepped (steps_of task count) (made + n) new first now before

pub rest_begins : (task count : ℕ) (s : PlainSession) (before : List ℕ) → IsRest task count 0 s s before before
rest_begins task count s before n new now are =
    let all : count - 0 ≡ count = omega arith in
    let same : 0 + n ≡ n = omega arith in
    rw same (rw all at are)

-- none are left
pub none_left : (task count made : ℕ) (first s : PlainSession) (mid before : List ℕ) → IsRest task count made first s mid before → count ≤ made
    → HaveStepped (steps_of task count) made s first mid before
unfolding steps_of
none_left task count made first s mid before rest over =
    let none : count - made ≡ 0 = omega arith in
    let same : made + 0 ≡ made = omega arith in
    rw same at (rest 0 s mid (rw none (record { deaf = []; text = []; appended = sym (append-nil mid); stepped = λ more. refl })))

one_less : (count made : ℕ) → made < count → count - made ≡ suc (count - (made + 1))
one_less count made h = omega arith

abbrev made_as : ℕ → PlainSession → List ℕ → List Bool → StepsMade
made_as count s text deaf = record { count = count; passed = record { session = s; text = text; deaf = deaf } }

-- the task goes on
ran_by : (said : MachineTurn PlainCode) (p : Happened) (more : StepsMade) → end.Ran ≡ turn_end said → steps_by said p more ≡ steps_behind p more
ran_by absent p more h = absurd cc
ran_by idle p more h = absurd cc
ran_by (went ran v line shown) p more h = refl
ran_by (went done v line shown) p more h = absurd cc
ran_by (went (stopped x) v line shown) p more h = absurd cc

one_more : (task n made : ℕ) (s u new : PlainSession) (now between mid : List ℕ)
    → end.Ran ≡ turn_end (machine_turn (world_of s.followed) task s.machine) → HasPassed (step_passed task) u s between mid
    → HaveStepped (steps_of task n) made new u now between → HaveStepped (steps_of task (suc n)) (made + 1) new s now mid
unfolding steps_of
one_more task n made s u new now between mid how one rest = record {
  deaf = one.deaf ++ rest.deaf;
  text = one.text ++ rest.text;
  appended = rest.appended ∙ ap (λ (t : List ℕ). t ++ rest.text) one.appended ∙ append_assoc mid one.text rest.text;
  stepped = λ more.
      ap whole (append_assoc one.deaf rest.deaf more)
      ∙ ran_by (machine_turn (world_of s.followed) task s.machine) (step_passed task (one.deaf ++ (rest.deaf ++ more)) s) _ how
      ∙ ap (λ (p : Happened). steps_behind p (steps_of task n p.deaf p.session)) (one.passed (rest.deaf ++ more))
      ∙ ap (steps_behind (record { session = u; text = one.text; deaf = rest.deaf ++ more })) (rest.stepped more);
}
  where
    whole : List Bool → StepsMade
    whole deaf =
        steps_by (machine_turn (world_of s.followed) task s.machine) (step_passed task deaf s) (steps_of task n (step_passed task deaf s).deaf (step_passed task deaf s).session)

-- the task ended
ended_by : (said : MachineTurn PlainCode) (p : Happened) (more : StepsMade) → end.Ended ≡ turn_end said → steps_by said p more ≡ record { count = 1; passed = p }
ended_by absent p more h = absurd cc
ended_by idle p more h = absurd cc
ended_by (went ran v line shown) p more h = absurd cc
ended_by (went done v line shown) p more h = refl
ended_by (went (stopped x) v line shown) p more h = absurd cc

-- it trapped, or there was no step
halted_by : (said : MachineTurn PlainCode) (p : Happened) (more : StepsMade) (how : StepEnd) → how ≡ turn_end said
    → ((trap : Trap) × (how ≡ end.Trapped trap)) ⊎ ((how ≡ end.Idle) ⊎ (how ≡ end.Absent)) → steps_by said p more ≡ record { count = 0; passed = p }
halted_by absent p more how h is = refl
halted_by idle p more how h is = refl
halted_by (went ran v line shown) p more how h (inl (trap, is)) = absurd cc
halted_by (went ran v line shown) p more how h (inr (inl is)) = absurd cc
halted_by (went ran v line shown) p more how h (inr (inr is)) = absurd cc
halted_by (went done v line shown) p more how h (inl (trap, is)) = absurd cc
halted_by (went done v line shown) p more how h (inr (inl is)) = absurd cc
halted_by (went done v line shown) p more how h (inr (inr is)) = absurd cc
halted_by (went (stopped x) v line shown) p more how h is = refl

last_one : (task n count : ℕ) (s u : PlainSession) (now mid : List ℕ) → HasPassed (step_passed task) u s now mid
    → ((p : Happened) (more : StepsMade) → steps_by (machine_turn (world_of s.followed) task s.machine) p more ≡ record { count = count; passed = p })
    → HaveStepped (steps_of task (suc n)) count u s now mid
unfolding steps_of
last_one task n count s u now mid one by = record {
  deaf = one.deaf;
  text = one.text;
  appended = one.appended;
  stepped = λ more.
      by (step_passed task (one.deaf ++ more) s) _
      ∙ ap (λ (p : Happened). made_as count p.session p.text p.deaf) (one.passed more);
}

-- one step more, and the task goes on
pub goes_on : (task count made : ℕ) (how : StepEnd) (first s u : PlainSession) (now mid before : List ℕ)
    → IsRest task count made first s mid before → made < count → how ≡ end.Ran → how ≡ turn_end (machine_turn (world_of s.followed) task s.machine)
    → HasPassed (step_passed task) u s now mid → IsRest task count (made + 1) first u now before
goes_on task count made how first s u now mid before rest more is told one n new text are =
    let less : count - made ≡ suc (count - (made + 1)) = one_less count made more in
    let same : made + (n + 1) ≡ (made + 1) + n = omega arith in
    rw same at (rest (n + 1) new text (rw less (one_more task (count - (made + 1)) n s u new text now mid (sym is ∙ told) one are)))

-- and ends
pub ends : (task count made : ℕ) (how : StepEnd) (first s u : PlainSession) (now mid before : List ℕ)
    → IsRest task count made first s mid before → made < count → how ≡ end.Ended → how ≡ turn_end (machine_turn (world_of s.followed) task s.machine)
    → HasPassed (step_passed task) u s now mid → HaveStepped (steps_of task count) (made + 1) u first now before
ends task count made how first s u now mid before rest more is told one =
    let less : count - made ≡ suc (count - (made + 1)) = one_less count made more in
    rest 1 u now (rw less (last_one task (count - (made + 1)) 1 s u now mid one
    (λ p behind. ended_by (machine_turn (world_of s.followed) task s.machine) p behind (sym is ∙ told))))

-- and stops, or there was none
pub halts : (task count made : ℕ) (how : StepEnd) (first s u : PlainSession) (now mid before : List ℕ)
    → IsRest task count made first s mid before → made < count → ((trap : Trap) × (how ≡ end.Trapped trap)) ⊎ ((how ≡ end.Idle) ⊎ (how ≡ end.Absent))
    → how ≡ turn_end (machine_turn (world_of s.followed) task s.machine) → HasPassed (step_passed task) u s now mid
    → HaveStepped (steps_of task count) made u first now before
halts task count made how first s u now mid before rest more is told one =
    let less : count - made ≡ suc (count - (made + 1)) = one_less count made more in
    let same : made + 0 ≡ made = omega arith in
    rw same at (rest 0 u now (rw less (last_one task (count - (made + 1)) 0 s u now mid one
    (λ p behind. halted_by (machine_turn (world_of s.followed) task s.machine) p behind how told is))))
