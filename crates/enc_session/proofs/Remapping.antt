-- What comes of a remap: no watcher hears of it.
use Rattle.std.proofs.Common.{◌≡◌, ℕ, Bool, List, [], Result, Ok, Err, OnOk, refl, sym, ap, ◌∙◌, append-nil}
use Rattle.std.specs.declared.alloc.AllocError.{AllocError}
use Rattle.enc_frames.specs.Machine.{PlainCode, MachineState}
use Rattle.enc_remap.specs.Remap.{Remapping}
use Rattle.enc_remap.specs.Seen.{IsRemap}
use Rattle.enc_remap.specs.declared.remapped.Remapped.{Remapped}
use Rattle.enc_remap.specs.declared.remapped.Remapped.TheVariants as remapped
use Rattle.enc_session.specs.Session.{PlainSession, nothing_passed, with_machine, remap_of, remap_happened, remap_passed, remapped_as, HasPassed}

by_answer : (r : Remapped) (new old : MachineState PlainCode) (said : Remapping PlainCode) (s : PlainSession) (deaf : List Bool) → s.machine ≡ old
    → IsRemap (Ok r) new old said → remap_happened said deaf s ≡ nothing_passed deaf (with_machine new s)
by_answer (remapped.Moved method from to) new old said s deaf same h = ap (λ (x : Remapping PlainCode). remap_happened x deaf s) h
by_answer (remapped.Refused number) new old said s deaf same h =
    ap (λ (x : Remapping PlainCode). remap_happened x deaf s) h.0 ∙ ap (λ (m : MachineState PlainCode). nothing_passed deaf (with_machine m s)) (same ∙ sym h.1)

session_of : (new old : PlainSession) (deaf : List Bool) → new.followed ≡ old.followed → new.seated ≡ old.seated
    → nothing_passed deaf (with_machine new.machine old) ≡ nothing_passed deaf new
session_of new old deaf followed seated = rw (← followed, ← seated) refl

-- it passed, and nothing was appended
pub remap_has_passed : (task : ℕ) (pairs : List (ℕ × ℕ)) (r : Remapped) (new old : PlainSession) (now before : List ℕ)
    → IsRemap (Ok r) new.machine old.machine (remap_of task pairs old) → new.followed ≡ old.followed → new.seated ≡ old.seated → now ≡ before
    → HasPassed (remap_passed task pairs) new old now before
unfolding remap_passed
remap_has_passed task pairs r new old now before h followed seated kept = record {
  deaf = [];
  text = [];
  appended = kept ∙ sym (append-nil before);
  passed = λ more. by_answer r new.machine old.machine (remap_of task pairs old) old more refl h ∙ session_of new old more followed seated;
}

pub remap_is_passed : (task : ℕ) (pairs : List (ℕ × ℕ)) (result : Result Remapped AllocError) (new old : PlainSession) (now before : List ℕ)
    → IsRemap result new.machine old.machine (remap_of task pairs old) → new.followed ≡ old.followed → new.seated ≡ old.seated → now ≡ before
    → OnOk result (HasPassed (remap_passed task pairs) new old now before)
remap_is_passed task pairs (Ok r) new old now before h followed seated kept = remap_has_passed task pairs r new old now before h followed seated kept
remap_is_passed task pairs (Err e) new old now before h followed seated kept = tt

-- and what it comes to is answered
pub remap_answers : (r : Remapped) (new old : MachineState PlainCode) (said : Remapping PlainCode) → IsRemap (Ok r) new old said → r ≡ remapped_as said
remap_answers (remapped.Moved method from to) new old said h = sym (ap remapped_as h)
remap_answers (remapped.Refused number) new old said h = sym (ap remapped_as h.0)
