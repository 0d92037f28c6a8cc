-- Commands of a script, one behind the other.
use Rattle.std.proofs.Common.{◌≡◌, ℕ, Bool, List, [], ◌∷◌, ◌++◌, refl, sym, ap, ◌∙◌, append_assoc, append-nil}
use Rattle.enc_checker.specs.Followed.{Followed}
use Rattle.enc_jobs.specs.declared.command.Command.{Command}
use Rattle.enc_watch.specs.Audience.{Watching, reports}
use Rattle.enc_script.specs.Ran.{HasRan}
use Rattle.enc_script.specs.Run.{NamedFiles, PlainRun, Ran, ran_behind, command_ran, commands_ran, begun_with, with_reports, run_text, RunWasAppended}

-- whatever comes of the commands that are left, comes with those before of all
abbrev pub IsRestOf : List NamedFiles → List Command → List Command → PlainRun → PlainRun → List ℕ → List ℕ → Type 0
IsRestOf deltas all rest first r mid before =
    (new : PlainRun) (now : List ℕ) → HasRan (commands_ran deltas rest) new r now mid → HasRan (commands_ran deltas all) new first now before

pub all_left : (deltas : List NamedFiles) (all : List Command) (r : PlainRun) (before : List ℕ) → IsRestOf deltas all all r r before before
all_left deltas all r before new now ran = ran

pub none_left : (deltas : List NamedFiles) (r : PlainRun) (before : List ℕ) → HasRan (commands_ran deltas []) r r before before
unfolding commands_ran
none_left deltas r before = record { deaf = []; text = []; appended = sym (append-nil before); ran = λ more. refl }

-- a command, and those behind it
first_then : (deltas : List NamedFiles) (c : Command) (cs : List Command) (new r old : PlainRun) (now mid before : List ℕ)
    → HasRan (command_ran deltas c) r old mid before → HasRan (commands_ran deltas cs) new r now mid → HasRan (commands_ran deltas (c ∷ cs)) new old now before
unfolding commands_ran
first_then deltas c cs new r old now mid before one rest = record {
  deaf = one.deaf ++ rest.deaf;
  text = one.text ++ rest.text;
  appended = rest.appended ∙ ap (λ (t : List ℕ). t ++ rest.text) one.appended ∙ append_assoc before one.text rest.text;
  ran = λ more.
      ap (λ (deaf : List Bool). whole deaf) (append_assoc one.deaf rest.deaf more)
      ∙ ap (λ (x : Ran). ran_behind x.text (commands_ran deltas cs x.deaf x.run)) (one.ran (rest.deaf ++ more))
      ∙ ap (ran_behind one.text) (rest.ran more);
}
  where
    whole : List Bool → Ran
    whole deaf = ran_behind (command_ran deltas c deaf old).text (commands_ran deltas cs (command_ran deltas c deaf old).deaf (command_ran deltas c deaf old).run)

pub one_less : (deltas : List NamedFiles) (all : List Command) (c : Command) (cs rest : List Command) (first r next : PlainRun) (now mid before : List ℕ)
    → rest ≡ c ∷ cs → IsRestOf deltas all rest first r mid before → HasRan (command_ran deltas c) next r now mid
    → IsRestOf deltas all cs first next now before
one_less deltas all c cs rest first r next now mid before is left one new text ran =
    left new text (rw is (first_then deltas c cs new next r text now mid one ran))

-- a whole run, with the reports at the end
pub whole_run : (deltas : List NamedFiles) (handed : List Watching) (f : Followed) (script : List Command) (begun new : PlainRun) (mid now before : List ℕ)
    → begun ≡ begun_with f handed → HasRan (commands_ran deltas script) new begun mid before → now ≡ mid ++ reports new.session.seated.seats
    → RunWasAppended deltas handed f script now before
unfolding run_text
whole_run deltas handed f script begun new mid now before is ran closes = record {
  text = ran.text ++ reports new.session.seated.seats;
  appended =
      closes ∙ ap (λ (t : List ℕ). t ++ reports new.session.seated.seats) ran.appended ∙ append_assoc before ran.text (reports new.session.seated.seats);
  is = record {
    deaf = ran.deaf ++ [];
    is = ap with_reports (sym (ran.ran [])) ∙ ap (λ (r : PlainRun). with_reports (commands_ran deltas script (ran.deaf ++ []) r)) is;
  };
}
