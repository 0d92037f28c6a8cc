-- Watchers that come and go, and commands that only say something.
use Rattle.std.proofs.Common.{◌≡◌, ℕ, ◌+◌, Bool, true, false, List, [], ◌∷◌, ◌++◌, Option, Some, None, option_map, Result, Ok, Err, refl, sym, ap, ◌∙◌, append_assoc, append-nil}
use Rattle.std.specs.Prelude.{OnOk, codes, if◌then◌else◌}
use Rattle.std.proofs.lemmas.Bool.{eqb-true}
use Rattle.enc_jobs.specs.declared.command.Command.TheVariants.{State}
use Rattle.enc_watch.specs.Audience.{Watching, Seat, attached, first_taken, others, sits_at, seat_at, without, first_of_kind, without_kind, watcher_line, seat_report}
use Rattle.enc_watch.specs.Watched.{report_of}
use Rattle.enc_watch.specs.declared.event.WatchKind.{WatchKind}
use Rattle.enc_session.specs.Session.{PlainSession, with_seated}
use Rattle.enc_session.specs.States.{state_text}
use Rattle.enc_script.proofs.Events.{said}
use Rattle.enc_script.specs.Lines.{none_line, attached_line, number_absent_line, detached_line}
use Rattle.enc_script.specs.Ran.{HasRan}
use Rattle.enc_script.specs.Run.{NamedFiles, PlainRun, apply_ran, attach_ran, detach_ran, command_ran}

pub on_ok : {T E : Type 0} (r : Result T E) (P Q : Type 0) → (P → Q) → OnOk r P → OnOk r Q
on_ok (Ok x) P Q f p = f p
on_ok (Err e) P Q f p = tt

-- where the test takes none, all are left
others_none : {A : Type 0} (test : A → Bool) (xs : List A) → first_taken test xs ≡ None → others test xs ≡ xs
unfolding first_taken others
others_none test [] h = refl
others_none test (x ∷ xs) h = by (test x) h (others_none test xs)
  where
    by : (b : Bool) → (if b then Some x else first_taken test xs) ≡ None → (first_taken test xs ≡ None → others test xs ≡ xs) → (if b then xs else x ∷ others test xs) ≡ x ∷ xs
    by true h later = absurd cc
    by false h later = ap (λ ys. x ∷ ys) (later h)

-- the watcher at a number has it
taken_is : (number : ℕ) (seats : List Seat) (s : Seat) → first_taken (sits_at number) seats ≡ Some s → s.number ≡ number
unfolding first_taken
taken_is number [] s h = absurd cc
taken_is number (x ∷ xs) s h = by (sits_at number x) refl h (taken_is number xs s)
  where
    by : (b : Bool) → sits_at number x ≡ b → (if b then Some x else first_taken (sits_at number) xs) ≡ Some s
        → (first_taken (sits_at number) xs ≡ Some s → s.number ≡ number) → s.number ≡ number
    by true e h later = let same : x ≡ s = cc in rw (← same) (eqb-true x.number number e)
    by false e h later = later h

abbrev run_of : PlainSession → List Watching → PlainRun
run_of s handed = record { session = s; handed = handed }

run_same : (t s : PlainSession) (left handed : List Watching) → t ≡ s → left ≡ handed → run_of t left ≡ run_of s handed
run_same t s left handed session others = ap (λ (x : PlainSession). run_of x left) session ∙ ap (run_of s) others

-- an attach of a kind of which none is left
pub none_attached : (kind : WatchKind) (s : PlainSession) (left handed : List Watching) (now before : List ℕ) → first_of_kind kind handed ≡ None
    → left ≡ without_kind kind handed → now ≡ before ++ none_line kind
    → HasRan (λ deaf r. attach_ran kind (first_of_kind kind r.handed) deaf r) (run_of s left) (run_of s handed) now before
none_attached kind s left handed now before none is printed =
    said (λ deaf r. attach_ran kind (first_of_kind kind r.handed) deaf r) (none_line kind) (run_of s handed) (run_of s left) (run_of s handed) now before
    (λ deaf. ap (λ (o : Option Watching). attach_ran kind o deaf (run_of s handed)) none)
    (run_same s s left handed refl (is ∙ others_none _ handed none)) printed

-- and of one
pub was_attached : (kind : WatchKind) (w : Watching) (number : ℕ) (t s : PlainSession) (left handed : List Watching) (now before : List ℕ)
    → first_of_kind kind handed ≡ Some w → number ≡ s.seated.given + 1 → t ≡ with_seated (attached w s.seated) s → left ≡ without_kind kind handed
    → now ≡ before ++ attached_line number kind
    → HasRan (λ deaf r. attach_ran kind (first_of_kind kind r.handed) deaf r) (run_of t left) (run_of s handed) now before
was_attached kind w number t s left handed now before some is session others printed =
    said (λ deaf r. attach_ran kind (first_of_kind kind r.handed) deaf r) (attached_line (s.seated.given + 1) kind)
    (run_of (with_seated (attached w s.seated) s) (without_kind kind handed)) (run_of t left) (run_of s handed) now before
    (λ deaf. ap (λ (o : Option Watching). attach_ran kind o deaf (run_of s handed)) some)
    (run_same t (with_seated (attached w s.seated) s) left (without_kind kind handed) session others)
    (printed ∙ ap (λ (n : ℕ). before ++ attached_line n kind) is)

-- a detach of a number that none has
none_left : (number : ℕ) (s : PlainSession) → seat_at number s.seated.seats ≡ None
    → with_seated (record { seats = without number s.seated.seats; given = s.seated.given }) s ≡ s
none_left number s none = rw (others_none (sits_at number) s.seated.seats none) refl

seat_none : (o : Option Seat) → option_map (λ (s : Seat). s.watching) o ≡ None → o ≡ None
seat_none None h = refl
seat_none (Some s) h = absurd cc

pub none_detached : (number : ℕ) (t s : PlainSession) (handed : List Watching) (now before : List ℕ)
    → option_map (λ (x : Seat). x.watching) (seat_at number s.seated.seats) ≡ None
    → t ≡ with_seated (record { seats = without number s.seated.seats; given = s.seated.given }) s
    → now ≡ before ++ watcher_line number (codes "absent")
    → HasRan (λ deaf r. detach_ran number (seat_at number r.session.seated.seats) deaf r) (run_of t handed) (run_of s handed) now before
unfolding number_absent_line
none_detached number t s handed now before none session printed =
    let no_seat = seat_none (seat_at number s.seated.seats) none in
    said (λ deaf r. detach_ran number (seat_at number r.session.seated.seats) deaf r) (number_absent_line number) (run_of s handed) (run_of t handed) (run_of s handed) now before
    (λ deaf. ap (λ (o : Option Seat). detach_ran number o deaf (run_of s handed)) no_seat)
    (run_same t s handed handed (session ∙ none_left number s no_seat) refl) printed

-- and of one, with its report
record IsSeat (o : Option Seat) (w : Watching) : Type 0 where
  seat : Seat
  is : o ≡ Some seat
  watching : seat.watching ≡ w

seat_some : (o : Option Seat) (w : Watching) → option_map (λ (s : Seat). s.watching) o ≡ Some w → IsSeat o w
seat_some None w h = absurd cc
seat_some (Some s) w h = record { seat = s; is = refl; watching = cc }

report_is : (number : ℕ) (s : Seat) (w : Watching) → s.number ≡ number → s.watching ≡ w
    → watcher_line number (codes "report") ++ report_of w.kind w.heard ≡ seat_report s
unfolding seat_report
report_is number s w is watching = rw (← is, ← watching) refl

texts_are : (before first second third now mid far : List ℕ) → mid ≡ before ++ first → far ≡ mid ++ second → now ≡ far ++ third → now ≡ before ++ (first ++ (second ++ third))
texts_are before first second third now mid far a b c =
    c ∙ ap (λ (t : List ℕ). t ++ third) b ∙ append_assoc mid second third ∙ ap (λ (t : List ℕ). t ++ (second ++ third)) a ∙ append_assoc before first (second ++ third)

pub was_detached : (number : ℕ) (w : Watching) (t s : PlainSession) (handed : List Watching) (now far mid before : List ℕ)
    → option_map (λ (x : Seat). x.watching) (seat_at number s.seated.seats) ≡ Some w
    → t ≡ with_seated (record { seats = without number s.seated.seats; given = s.seated.given }) s
    → mid ≡ before ++ watcher_line number (codes "detached") → far ≡ mid ++ watcher_line number (codes "report") → now ≡ far ++ report_of w.kind w.heard
    → HasRan (λ deaf r. detach_ran number (seat_at number r.session.seated.seats) deaf r) (run_of t handed) (run_of s handed) now before
unfolding detached_line
was_detached number w t s handed now far mid before some session first second third =
    let x = seat_some (seat_at number s.seated.seats) w some in
    said (λ deaf r. detach_ran number (seat_at number r.session.seated.seats) deaf r) (detached_line number ++ seat_report x.seat)
    (run_of (with_seated (record { seats = without number s.seated.seats; given = s.seated.given }) s) handed) (run_of t handed) (run_of s handed) now before
    (λ deaf. ap (λ (o : Option Seat). detach_ran number o deaf (run_of s handed)) x.is)
    (run_same t (with_seated (record { seats = without number s.seated.seats; given = s.seated.given }) s) handed handed session refl)
    (texts_are before (watcher_line number (codes "detached")) (watcher_line number (codes "report")) (report_of w.kind w.heard) now mid far first second third
    ∙ ap (λ (z : List ℕ). before ++ (watcher_line number (codes "detached") ++ z))
    (report_is number x.seat w (taken_is number s.seated.seats x.seat x.is) x.watching))

-- a delta that isn't there says nothing
pub nothing_applied : (name : List ℕ) (o : Option NamedFiles) (r : PlainRun) (text : List ℕ) → o ≡ None → HasRan (apply_ran name o) r r text text
nothing_applied name o r text none =
    said (apply_ran name o) [] r r r text text (λ deaf. ap (λ (x : Option NamedFiles). apply_ran name x deaf r) none) refl (sym (append-nil text))

-- the state
pub state_said : (deltas : List NamedFiles) (r : PlainRun) (now before : List ℕ) → now ≡ before ++ state_text r.session.machine
    → HasRan (command_ran deltas State) r r now before
unfolding command_ran
state_said deltas r now before printed = said (command_ran deltas State) (state_text r.session.machine) r r r now before (λ deaf. refl) refl printed
