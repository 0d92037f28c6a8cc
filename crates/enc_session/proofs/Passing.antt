-- What comes of an event: text, and what the watchers made of it.
use Rattle.std.proofs.Common.{◌≡◌, ℕ, Bool, List, [], ◌++◌, refl, sym, ap, ◌∙◌, append_assoc, append-nil}
use Rattle.enc_watch.specs.Audience.{AreTold}
use Rattle.enc_watch.specs.declared.event.Event.{Event}
use Rattle.enc_session.specs.Session.{PlainSession, Happened, nothing_passed, heard_in, passed_with, HasPassed}

abbrev passed_as : PlainSession → List ℕ → List Bool → Happened
passed_as s text deaf = record { session = s; text = text; deaf = deaf }

-- the session behind it, by its parts
session_is : (mid new : PlainSession) (text : List ℕ) (deaf : List Bool) → new.followed ≡ mid.followed → new.machine ≡ mid.machine → new.seated.given ≡ mid.seated.given
    → record {
      session = record { followed = mid.followed; machine = mid.machine; seated = record { seats = new.seated.seats; given = mid.seated.given } };
      text = text;
      deaf = deaf;
    } ≡ passed_as new text deaf
session_is mid new text deaf followed machine given = rw (← followed, ← machine, ← given) refl

-- events were told behind some text
pub has_passed : (event : List Bool → PlainSession → Happened) (events : List Event) (text : List ℕ) (mid new old : PlainSession) (now between before : List ℕ)
    → ((deaf : List Bool) → event deaf old ≡ passed_with events text deaf mid)
    → new.followed ≡ mid.followed → new.machine ≡ mid.machine → new.seated.given ≡ mid.seated.given
    → between ≡ before ++ text → AreTold events new.seated.seats mid.seated.seats now between
    → HasPassed event new old now before
unfolding passed_with
has_passed event events text mid new old now between before is followed machine given printed told = record {
  deaf = told.deaf;
  text = text ++ told.text;
  appended = told.appended ∙ ap (λ (t : List ℕ). t ++ told.text) printed ∙ append_assoc before text told.text;
  passed = λ more.
      is (told.deaf ++ more) ∙ ap (heard_in mid text) (told.told more) ∙ session_is mid new (text ++ told.text) more followed machine given;
}

-- nothing happened
pub nothing_has_passed : (event : List Bool → PlainSession → Happened) (new old : PlainSession) (now before : List ℕ)
    → ((deaf : List Bool) → event deaf old ≡ nothing_passed deaf old) → new ≡ old → now ≡ before → HasPassed event new old now before
nothing_has_passed event new old now before is same kept = record {
  deaf = [];
  text = [];
  appended = kept ∙ sym (append-nil before);
  passed = λ more. is more ∙ ap (λ (s : PlainSession). nothing_passed more s) (sym same);
}
