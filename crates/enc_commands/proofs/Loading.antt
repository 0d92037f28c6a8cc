-- Loading and judging, one file after the other.
use Rattle.std.proofs.Common.{◌≡◌, ℕ, zero, suc, ◌+◌, ◌≤◌, List, [], ◌∷◌, ◌++◌, Option, Some, None, Ok, Err, Result, refl, sym, ap, inl, inr, append_assoc, append-nil, map, arith, drop, length}
use Rattle.std.specs.Prelude.{◌⊎◌, IfSome}
use Rattle.std.proofs.lemmas.List.{map-append}
use Rattle.enc_outside.specs.Outside.{Files, HasCause}
use Rattle.enc_commands.specs.declared.plan.Plan.{Plan}
use Rattle.enc_commands.specs.declared.halt.Halt.{Halt}
use Rattle.enc_commands.specs.declared.halt.Halt.TheVariants as halt
use Rattle.enc_delta.specs.Delta.{delta_of}
use Rattle.enc_agg.specs.Extend.{chain_with}
use Rattle.enc_agg.specs.Seen.{chain_of_all}
use Rattle.enc_commands.specs.Verdict.{Stop, Done, ◌>>=◌, BaseFiles, DeltaFiles, Followed, base_size, files_size, load_one, load_base, load_delta, load_deltas, in_delta, judge_deltas, judge_all, accept, accept_text}
use Rattle.enc_checker.specs.Check.{judged}
use Rattle.enc_commands.specs.declared.load.DeltaFile.{DeltaFile}
use Rattle.enc_chain.specs.Kept.{Kept}
use Rattle.enc_commands.specs.Loads.{file_seen, followed, Adds}
use Rattle.enc_commands.specs.Plans.{IsPlanOf}
use Rattle.enc_commands.specs.Stops.{OnPlan, StopsWith}

-- what was loaded, and then the rest
abbrev pub after_loaded : {A : Type 0} → List A → Result (List A) Stop → Result (List A) Stop
after_loaded done (Ok rest) = Ok (done ++ rest)
after_loaded done (Err v) = Err v

pub nothing_loaded : {A : Type 0} (r : Result (List A) Stop) → r ≡ after_loaded [] r
nothing_loaded (Ok rest) = refl
nothing_loaded (Err v) = refl

one_more : {A : Type 0} (done : List A) (f : A) (r : Result (List A) Stop) → after_loaded done (r >>= λ fs. Ok (f ∷ fs)) ≡ after_loaded (done ++ f ∷ []) r
one_more done f (Ok rest) = ap (λ xs. Ok xs) (sym (append_assoc done (f ∷ []) rest))
one_more done f (Err v) = refl

-- one delta's files more
pub more_loaded : (files : Files) (delta : List ℕ) (deltas : List (List ℕ)) (n : ℕ) (done : List DeltaFiles) (f : DeltaFiles) → load_delta files delta n ≡ Ok f → after_loaded done (load_deltas files (delta ∷ deltas) n) ≡ after_loaded (done ++ f ∷ []) (load_deltas files deltas (n + files_size f))
unfolding load_deltas
more_loaded files delta deltas n done f is = rw is (one_more done f (load_deltas files deltas (n + files_size f)))

stops_then : {A B : Type 0} (r : Result A Stop) (f : A → Result B Stop) (plan : Plan) → StopsWith r plan → StopsWith (r >>= f) plan
stops_then (Ok a) f plan h = absurd h
stops_then (Err s) f plan h = h

stops_after : {A : Type 0} (done : List A) (r : Result (List A) Stop) (plan : Plan) → StopsWith r plan → StopsWith (after_loaded done r) plan
stops_after done (Ok a) plan h = absurd h
stops_after done (Err s) plan h = h

-- a fact of a halt's plan from another
on_plan : (h : Halt) (P Q : Plan → Type 0) → ((plan : Plan) → P plan → Q plan) → OnPlan h P → OnPlan h Q
on_plan (halt.Plan plan) P Q f x = f plan x
on_plan halt.Memory P Q f x = tt
on_plan halt.Failed P Q f x = tt

-- where one thing ends, so does all that follows it
pub halts_then : {A B : Type 0} (h : Halt) (r : Result A Stop) (f : A → Result B Stop) → OnPlan h (StopsWith r) → OnPlan h (StopsWith (r >>= f))
halts_then h r f = on_plan h (StopsWith r) (StopsWith (r >>= f)) (stops_then r f)

-- the plan of a halt is that of the verdict
stop_is : (r : Result Done Stop) (plan : Plan) → StopsWith r plan → IsPlanOf r plan
stop_is (Ok a) plan h = absurd h
stop_is (Err s) plan h = h

pub halt_is : {A : Type 0} (h : Halt) (r : Result A Stop) (f : A → Result Done Stop) → OnPlan h (StopsWith r) → OnPlan h (IsPlanOf (r >>= f))
halt_is h r f = on_plan h (StopsWith r) (IsPlanOf (r >>= f)) (λ plan x. stop_is (r >>= f) plan (stops_then r f plan x))

-- a delta at which loading stops
pub loading_stops : (files : Files) (delta : List ℕ) (deltas : List (List ℕ)) (n : ℕ) (done : List DeltaFiles) (h : Halt) → OnPlan h (StopsWith (load_delta files delta n)) → OnPlan h (StopsWith (after_loaded done (load_deltas files (delta ∷ deltas) n)))
unfolding load_deltas
loading_stops files delta deltas n done h = on_plan h _ _ (λ plan x. stops_after done _ plan (stops_then (load_delta files delta n) _ plan x))

pub from_nothing : (none now more : ℕ) → none ≡ 0 → now ≡ none + more → now ≡ more
from_nothing none now more a b = omega (arith, a, b)

-- the files of the base are loaded, and loading those of the deltas stops
pub accept_stops : (files : Files) (base : List ℕ) (deltas : List (List ℕ)) (f : BaseFiles) (h : Halt) → load_base files base 0 ≡ Ok f → OnPlan h (StopsWith (load_deltas files deltas (base_size f))) → OnPlan h (StopsWith (accept files base deltas))
unfolding accept
accept_stops files base deltas f h one stops = rw one (halts_then h (load_deltas files deltas (base_size f)) (judge_all base f) stops)

-- all files are loaded
pub accept_judged : (files : Files) (base : List ℕ) (deltas : List (List ℕ)) (f : BaseFiles) (fs : List DeltaFiles) → load_base files base 0 ≡ Ok f → load_deltas files deltas (base_size f) ≡ Ok fs → accept files base deltas ≡ judge_all base f fs
unfolding accept
accept_judged files base deltas f fs one all = rw (one, all) refl

-- the same with a text behind the base, up to where loading stops
pub text_stops : (files : Files) (base edits : List ℕ) (deltas : List (List ℕ)) (f : BaseFiles) (h : Halt) → load_base files base 0 ≡ Ok f → OnPlan h (StopsWith (load_one files edits (base_size f))) → OnPlan h (StopsWith (accept_text files base edits deltas))
unfolding accept_text
text_stops files base edits deltas f h one stops = rw one (halts_then h (load_one files edits (base_size f)) _ stops)

pub deltas_stop : (files : Files) (base edits : List ℕ) (deltas : List (List ℕ)) (f : BaseFiles) (text : List ℕ) (h : Halt) → load_base files base 0 ≡ Ok f → load_one files edits (base_size f) ≡ Ok text
    → OnPlan h (StopsWith (load_deltas files deltas (base_size f + length text))) → OnPlan h (StopsWith (accept_text files base edits deltas))
unfolding accept_text
deltas_stop files base edits deltas f text h one two stops = rw (one, two) (halts_then h (load_deltas files deltas (base_size f + length text)) _ stops)

-- and where all files are loaded
pub text_judged : (files : Files) (base edits : List ℕ) (deltas : List (List ℕ)) (f : BaseFiles) (text : List ℕ) (fs : List DeltaFiles) → load_base files base 0 ≡ Ok f → load_one files edits (base_size f) ≡ Ok text
    → load_deltas files deltas (base_size f + length text) ≡ Ok fs → accept_text files base edits deltas ≡ (judge_all base f fs >>= λ (g : Followed). Ok (record { followed = g; text = text }))
unfolding accept_text
text_judged files base edits deltas f text fs one two all = rw (one, two, all) refl

-- a delta that was added, and those behind it
pub judged_more : {U : Type 0} (old new : Kept) (f : DeltaFiles) (fs : List DeltaFiles) (u : U) → Adds old new (Ok u) (in_delta f (judged (chain_of_all old.rows) (delta_of f.metadata f.code) f.debug)) → judge_deltas (followed old) (f ∷ fs) ≡ judge_deltas (followed new) fs
unfolding judge_deltas
judged_more old new f fs u added = rw (added.1, added.2) refl

-- a delta at which judging stops
pub judging_stops : (f : Followed) (x : DeltaFiles) (xs : List DeltaFiles) (h : Halt) → OnPlan h (StopsWith (in_delta x (judged (chain_with f.base f.deltas) (delta_of x.metadata x.code) x.debug))) → OnPlan h (StopsWith (judge_deltas f (x ∷ xs)))
unfolding judge_deltas
judging_stops f x xs h = halts_then h (in_delta x (judged (chain_with f.base f.deltas) (delta_of x.metadata x.code) x.debug)) _

pub judged_none : (f : Followed) → judge_deltas f [] ≡ Ok f
unfolding judge_deltas
judged_none f = refl

-- where no fault is told and the count stands
pub no_fault : {T E : Type 0} (fault : E) (before now : ℕ) (a : T) → now ≡ before → HasCause fault before now (Ok a)
no_fault fault before now a e = record { later = omega (arith, e); rose = λ h. absurd cc; stands = inl e }

-- no fault was told
pub ok_stands : {T E : Type 0} (fault : E) (before now : ℕ) (a : T) → HasCause fault before now (Ok a) → now ≡ before
ok_stands fault before now a cause = by cause.stands
  where
    by : (now ≡ before) ⊎ (Ok a ≡ Err fault) → now ≡ before
    by (inl e) = e
    by (inr e) = absurd cc

-- a fact of told files from two
pub if_both : {A : Type 0} (o : Option A) (P Q R : A → Type 0) → IfSome o P → IfSome o Q → ((x : A) → P x → Q x → R x) → IfSome o R
if_both (Some x) P Q R h k f = f x h k
if_both None P Q R h k f = tt

pub no_word : {X : Type 0} (xs : List X) (i : ℕ) → length xs ≤ i → drop i xs ≡ []
no_word [] zero h = refl
no_word [] (suc i) h = refl
no_word (x ∷ xs) zero h = absurd (omega arith)
no_word (x ∷ xs) (suc i) h = no_word xs i (omega arith)

pub loaded_none : (files : Files) (n : ℕ) (done : List DeltaFiles) → after_loaded done (load_deltas files [] n) ≡ Ok done
unfolding load_deltas
loaded_none files n done = ap (λ xs. Ok xs) (append-nil done)

pub none_left : {X : Type 0} (xs : List X) → length xs ≡ 0 → xs ≡ []
none_left [] h = refl
none_left (x ∷ xs) h = absurd (omega arith)

-- the files so far with one more
pub file_more : (files more : List DeltaFile) (f : DeltaFile) → more ≡ files ++ f ∷ [] → map file_seen files ++ file_seen f ∷ [] ≡ map file_seen more
file_more files more f e = rw e (sym (map-append file_seen files (f ∷ [])))

pub loaded_so_far : (files : Files) (deltas : List (List ℕ)) (n m : ℕ) (done more : List DeltaFile) (f : DeltaFile) → more ≡ done ++ f ∷ [] → m ≡ n + files_size (file_seen f) → after_loaded (map file_seen done ++ file_seen f ∷ []) (load_deltas files deltas (n + files_size (file_seen f))) ≡ after_loaded (map file_seen more) (load_deltas files deltas m)
loaded_so_far files deltas n m done more f e size = rw (file_more done more f e, size) refl
