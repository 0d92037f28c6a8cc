-- Steps of a task, one behind the other.
use Rattle.std.proofs.Common.{◌≡◌, ◌<◌, ℕ, zero, suc, ◌+◌, ◌-◌, refl, sym, ap, ◌∙◌, arith}
use Rattle.enc_frames.specs.Machine.{PlainCode}
use Rattle.enc_vm.specs.Step.{ran, done, stopped}
use Rattle.enc_vm.specs.Turns.{MachineTurn, absent, idle, went, machine_turn}
use Rattle.enc_vm.specs.declared.ends.StepEnd.{StepEnd}
use Rattle.enc_vm.specs.declared.ends.StepEnd.TheVariants as end
use Rattle.enc_session.specs.Recording.{Recorded, Stepping, stepping_behind, stepping_by, step_recorded, steps_recorded}
use Rattle.enc_session.specs.Session.{world_of, turn_end}

-- so many ran, and the task goes on
abbrev pub all_ran : ℕ → Recorded → Stepping
all_ran n r = record { ran = n; end = end.Ran; session = r }

abbrev stepping : ℕ → StepEnd → Recorded → Stepping
stepping n how r = record { ran = n; end = how; session = r }

-- steps behind so many that ran
abbrev behind : ℕ → Stepping → Stepping
behind n x = record { ran = n + x.ran; end = x.end; session = x.session }

abbrev turn_in : ℕ → Recorded → MachineTurn PlainCode
turn_in task r = machine_turn (world_of r.followed) task r.machine

one_less : (x : Stepping) (n : ℕ) (r : Recorded) → stepping_behind x ≡ all_ran (suc n) r → x ≡ all_ran n r
one_less x n r h =
    let count : x.ran + 1 ≡ suc n = ap (λ (y : Stepping). y.ran) h in
    let ran : x.ran ≡ n = omega (arith, count) in
    λ i. record { ran = ran i; end = (ap (λ (y : Stepping). y.end) h) i; session = (ap (λ (y : Stepping). y.session) h) i }

one_more : (n : ℕ) (x y : Stepping) → x ≡ behind n y → stepping_behind x ≡ behind (suc n) y
one_more n x y h =
    let count : (n + y.ran) + 1 ≡ suc n + y.ran = omega arith in
    ap stepping_behind h ∙ ap (λ (k : ℕ). record { ran = k; end = y.end; session = y.session }) count

by_turn : (t : MachineTurn PlainCode) (next mid : Recorded) (few many all : Stepping) (m : ℕ) → (few ≡ all_ran m mid → many ≡ behind m all)
    → stepping_by t next few ≡ all_ran (suc m) mid → stepping_by t next many ≡ behind (suc m) all
by_turn absent next mid few many all m rest h = let none : 0 ≡ suc m = ap (λ (y : Stepping). y.ran) h in absurd (omega (arith, none))
by_turn idle next mid few many all m rest h = let none : 0 ≡ suc m = ap (λ (y : Stepping). y.ran) h in absurd (omega (arith, none))
by_turn (went ran u line shown) next mid few many all m rest h = one_more m many all (rest (one_less few m mid h))
by_turn (went done u line shown) next mid few many all m rest h = let other : end.Ended ≡ end.Ran = ap (λ (y : Stepping). y.end) h in absurd cc
by_turn (went (stopped x) u line shown) next mid few many all m rest h = let none : 0 ≡ suc m = ap (λ (y : Stepping). y.ran) h in absurd (omega (arith, none))

steps_behind_those : (task m n : ℕ) (mid old : Recorded) → steps_recorded task m old ≡ all_ran m mid
    → steps_recorded task (m + n) old ≡ behind m (steps_recorded task n mid)
unfolding steps_recorded
steps_behind_those task zero n mid old h =
    let e : 0 + n ≡ n = omega arith in
    let f : 0 + (steps_recorded task n mid).ran ≡ (steps_recorded task n mid).ran = omega arith in
    ap (λ (k : ℕ). steps_recorded task k old) e ∙ ap (steps_recorded task n) (ap (λ (y : Stepping). y.session) h)
    ∙ sym (ap (λ (k : ℕ). stepping k (steps_recorded task n mid).end (steps_recorded task n mid).session) f)
steps_behind_those task (suc m) n mid old h =
    let e : suc m + n ≡ suc (m + n) = omega arith in
    rw e
    (by_turn (turn_in task old) (step_recorded task old) mid (steps_recorded task m (step_recorded task old)) (steps_recorded task (m + n) (step_recorded task old))
    (steps_recorded task n mid) m (steps_behind_those task m n mid (step_recorded task old)) h)

-- a step more that ran
pub none_ran : (task : ℕ) (r : Recorded) → steps_recorded task 0 r ≡ all_ran 0 r
unfolding steps_recorded
none_ran task r = refl

pub ran_more : (task made : ℕ) (new mid old : Recorded) → steps_recorded task made old ≡ all_ran made mid → end.Ran ≡ turn_end (turn_in task mid)
    → new ≡ step_recorded task mid → steps_recorded task (made + 1) old ≡ all_ran (made + 1) new
unfolding steps_recorded
ran_more task made new mid old h is next = steps_behind_those task made 1 mid old h ∙ ap (behind made) (by (turn_in task mid) is) ∙ refl
  where
    by : (t : MachineTurn PlainCode) → end.Ran ≡ turn_end t → stepping_by t (step_recorded task mid) (all_ran 0 (step_recorded task mid)) ≡ all_ran 1 new
    by absent e = absurd cc
    by idle e = absurd cc
    by (went ran u line shown) e = ap (all_ran 1) (sym next)
    by (went done u line shown) e = absurd cc
    by (went (stopped x) u line shown) e = absurd cc

-- the step behind them ended the task, or didn't run
last_of : (task count made : ℕ) (x : Stepping) (mid old : Recorded) → made < count → steps_recorded task made old ≡ all_ran made mid
    → ((more : Stepping) → stepping_by (turn_in task mid) (step_recorded task mid) more ≡ x) → steps_recorded task count old ≡ behind made x
unfolding steps_recorded
last_of task count made x mid old left h stops =
    let e : count ≡ made + suc (count - made - 1) = omega (arith, left) in
    rw e
    (steps_behind_those task made (suc (count - made - 1)) mid old h ∙ ap (behind made) (stops (steps_recorded task (count - made - 1) (step_recorded task mid))))

pub ended_behind : (task count made : ℕ) (new mid old : Recorded) → made < count → steps_recorded task made old ≡ all_ran made mid
    → end.Ended ≡ turn_end (turn_in task mid) → new ≡ step_recorded task mid
    → steps_recorded task count old ≡ record { ran = made + 1; end = end.Ended; session = new }
ended_behind task count made new mid old left h is next =
    last_of task count made (record { ran = 1; end = end.Ended; session = new }) mid old left h (λ more. by (turn_in task mid) is more)
  where
    by : (t : MachineTurn PlainCode) → end.Ended ≡ turn_end t → (more : Stepping)
        → stepping_by t (step_recorded task mid) more ≡ record { ran = 1; end = end.Ended; session = new }
    by absent e more = absurd cc
    by idle e more = absurd cc
    by (went ran u line shown) e more = absurd cc
    by (went done u line shown) e more = ap (λ (r : Recorded). record { ran = 1; end = end.Ended; session = r }) (sym next)
    by (went (stopped x) u line shown) e more = absurd cc

pub stopped_behind : (task count made : ℕ) (how : StepEnd) (new mid old : Recorded) → (how ≡ end.Ran → ⊥) → (how ≡ end.Ended → ⊥) → made < count
    → steps_recorded task made old ≡ all_ran made mid → how ≡ turn_end (turn_in task mid) → new ≡ step_recorded task mid
    → steps_recorded task count old ≡ record { ran = made; end = how; session = new }
stopped_behind task count made how new mid old other last left h is next =
    let e : made + 0 ≡ made = omega arith in
    last_of task count made (record { ran = 0; end = how; session = new }) mid old left h (λ more. by (turn_in task mid) is more)
    ∙ ap (λ (n : ℕ). record { ran = n; end = how; session = new }) e
  where
    with_end : (x : StepEnd) → how ≡ x → stepping 0 x (step_recorded task mid) ≡ stepping 0 how new
    with_end x e = λ i. record { ran = 0; end = (sym e) i; session = (sym next) i }

    by : (t : MachineTurn PlainCode) → how ≡ turn_end t → (more : Stepping)
        → stepping_by t (step_recorded task mid) more ≡ record { ran = 0; end = how; session = new }
    by absent e more = with_end end.Absent e
    by idle e more = with_end end.Idle e
    by (went ran u line shown) e more = absurd (other e)
    by (went done u line shown) e more = absurd (last e)
    by (went (stopped x) u line shown) e more = with_end (end.Trapped x) e
