-- The rules of a move between two bodies that are stored, by what the program asks.
use Rattle.std.proofs.Common.{◌≡◌, ℕ, true, false, List, Option, Some, None, sym, ap, ◌∙◌, option_map}
use Rattle.std.specs.Prelude.{is_some}
use Rattle.enc_frames.specs.Machine.{code_meant}
use Rattle.enc_machine_types.specs.Members.{body_of_cell, run_body}
use Rattle.enc_objects.specs.declared.kind.Kind.{Kind}
use Rattle.enc_opcodes.specs.Body.{Body, code_seen}
use Rattle.enc_base.specs.declared.token.Token.{Token}
use Rattle.enc_plain.specs.Cell.{Cell}
use Rattle.enc_plain.specs.Debug.{PlainPdb}
use Rattle.enc_plain.specs.Module.{Module, has_row}
use Rattle.enc_versions.specs.StandFor.{lines_known}
use Rattle.enc_vm.proofs.NowMeant.{no_row_cell}
use Rattle.enc_unwind.specs.Search.{handlers_of, is_handled}
use Rattle.enc_versions.specs.Stops.{is_stop_in}
use Rattle.enc_versions.specs.Stops.{is_at_point as is_point_in}
use Rattle.enc_remap.specs.Asked.{broken_of, may_remap, move_from, version_seen}
use Rattle.enc_remap.specs.Remap.{Move, kinds_behind, kinds_of, led_from, newest_code}
use Rattle.enc_remap.specs.declared.asked.Standing.{Standing}
use Rattle.enc_remap.specs.declared.asked.Stored.{Stored}
use Rattle.enc_remap.proofs.Rules.{third, fourth, no_newest, fifth, not_run, no_kinds, seventh, none, point_meant, stop_meant, handled_meant, kinds_meant, kinds_in}

-- the move, with the user texts of both
abbrev asked : (ℕ → Option (List ℕ)) → (ℕ → Option (List ℕ)) → Module → Standing → List (ℕ × ℕ) → Stored → Option Stored → Move
asked texts users m at pairs old newest =
    move_from m (option_map (λ (s : Stored). code_meant users (version_seen s)) newest) at pairs (code_meant texts (version_seen old))

kinds_both : (texts users : ℕ → Option (List ℕ)) (m : Module) (old new : Stored)
    → kinds_behind (kinds_of m (code_meant texts (version_seen old))) (kinds_of m (code_meant users (version_seen new)))
    ≡ kinds_behind (kinds_in m (version_seen old)) (kinds_in m (version_seen new))
kinds_both texts users m old new =
    ap (λ (ks : List Kind). kinds_behind ks (kinds_of m (code_meant users (version_seen new)))) (kinds_meant texts m (version_seen old))
    ∙ ap (kinds_behind (kinds_in m (version_seen old))) (kinds_meant users m (version_seen new))

pub stored_third : (texts users : ℕ → Option (List ℕ)) (m : Module) (at : Standing) (pairs : List (ℕ × ℕ)) (old : Stored) (newest : Option Stored)
    → is_point_in old.points.points at.offset ≡ false → Some 3 ≡ broken_of texts users m at pairs old newest
stored_third texts users m at pairs old newest a =
    sym (third (asked texts users m at pairs old newest) (point_meant texts (version_seen old) at.offset ∙ a))

pub stored_fourth : (texts users : ℕ → Option (List ℕ)) (m : Module) (at : Standing) (pairs : List (ℕ × ℕ)) (old : Stored) (newest : Option Stored)
    → is_point_in old.points.points at.offset ≡ true → led_from at.offset pairs ≡ None → Some 4 ≡ broken_of texts users m at pairs old newest
stored_fourth texts users m at pairs old newest a g =
    sym (fourth (asked texts users m at pairs old newest) (point_meant texts (version_seen old) at.offset ∙ a) g)

pub stored_none : (texts users : ℕ → Option (List ℕ)) (m : Module) (at : Standing) (pairs : List (ℕ × ℕ)) (old : Stored) (newest : Option Stored) (to : ℕ)
    → is_point_in old.points.points at.offset ≡ true → led_from at.offset pairs ≡ Some to → newest ≡ None → Some 5 ≡ broken_of texts users m at pairs old newest
stored_none texts users m at pairs old newest to a g n =
    sym (no_newest (asked texts users m at pairs old newest) to (point_meant texts (version_seen old) at.offset ∙ a) g
    (ap (option_map (λ (s : Stored). code_meant users (version_seen s))) n))

pub stored_fifth : (texts users : ℕ → Option (List ℕ)) (m : Module) (at : Standing) (pairs : List (ℕ × ℕ)) (old new : Stored) (newest : Option Stored) (to : ℕ)
    → is_point_in old.points.points at.offset ≡ true → led_from at.offset pairs ≡ Some to → newest ≡ Some new
    → is_stop_in (code_seen new.code) new.points.points to ≡ false → Some 5 ≡ broken_of texts users m at pairs old newest
stored_fifth texts users m at pairs old new newest to a g n s =
    sym (fifth (asked texts users m at pairs old newest) to (code_meant users (version_seen new)) (point_meant texts (version_seen old) at.offset ∙ a) g
    (ap (option_map (λ (s : Stored). code_meant users (version_seen s))) n) (stop_meant users (version_seen new) to ∙ s))

pub stored_not_run : (texts users : ℕ → Option (List ℕ)) (m : Module) (at : Standing) (pairs : List (ℕ × ℕ)) (old new : Stored) (newest : Option Stored) (to : ℕ)
    → is_point_in old.points.points at.offset ≡ true → led_from at.offset pairs ≡ Some to → newest ≡ Some new
    → is_stop_in (code_seen new.code) new.points.points to ≡ true → is_some (run_body m at.method) ≡ false
    → Some 6 ≡ broken_of texts users m at pairs old newest
stored_not_run texts users m at pairs old new newest to a g n s r =
    sym (not_run (asked texts users m at pairs old newest) to (code_meant users (version_seen new)) (point_meant texts (version_seen old) at.offset ∙ a) g
    (ap (option_map (λ (s : Stored). code_meant users (version_seen s))) n) (stop_meant users (version_seen new) to ∙ s) r)

pub stored_no_kinds : (texts users : ℕ → Option (List ℕ)) (m : Module) (at : Standing) (pairs : List (ℕ × ℕ)) (old new : Stored) (newest : Option Stored) (to : ℕ)
    → is_point_in old.points.points at.offset ≡ true → led_from at.offset pairs ≡ Some to → newest ≡ Some new
    → is_stop_in (code_seen new.code) new.points.points to ≡ true → is_some (run_body m at.method) ≡ true
    → kinds_behind (kinds_in m (version_seen old)) (kinds_in m (version_seen new)) ≡ None → Some 6 ≡ broken_of texts users m at pairs old newest
stored_no_kinds texts users m at pairs old new newest to a g n s r k =
    sym (no_kinds (asked texts users m at pairs old newest) to (code_meant users (version_seen new)) (point_meant texts (version_seen old) at.offset ∙ a) g
    (ap (option_map (λ (s : Stored). code_meant users (version_seen s))) n) (stop_meant users (version_seen new) to ∙ s) r (kinds_both texts users m old new ∙ k))

pub stored_seventh : (texts users : ℕ → Option (List ℕ)) (m : Module) (at : Standing) (pairs : List (ℕ × ℕ)) (old new : Stored) (newest : Option Stored) (to : ℕ)
    (ks : List Kind) → is_point_in old.points.points at.offset ≡ true → led_from at.offset pairs ≡ Some to → newest ≡ Some new
    → is_stop_in (code_seen new.code) new.points.points to ≡ true → is_some (run_body m at.method) ≡ true
    → kinds_behind (kinds_in m (version_seen old)) (kinds_in m (version_seen new)) ≡ Some ks
    → is_handled to (handlers_of new.code.sections.now) ≡ true → Some 7 ≡ broken_of texts users m at pairs old newest
stored_seventh texts users m at pairs old new newest to ks a g n s r k h =
    sym (seventh (asked texts users m at pairs old newest) to (code_meant users (version_seen new)) ks (point_meant texts (version_seen old) at.offset ∙ a) g
    (ap (option_map (λ (s : Stored). code_meant users (version_seen s))) n) (stop_meant users (version_seen new) to ∙ s) r (kinds_both texts users m old new ∙ k)
    (handled_meant users (version_seen new) to ∙ h))

pub stored_may : (texts users : ℕ → Option (List ℕ)) (m : Module) (at : Standing) (pairs : List (ℕ × ℕ)) (old new : Stored) (newest : Option Stored) (to : ℕ)
    (ks : List Kind) → is_point_in old.points.points at.offset ≡ true → led_from at.offset pairs ≡ Some to → newest ≡ Some new
    → is_stop_in (code_seen new.code) new.points.points to ≡ true → is_some (run_body m at.method) ≡ true
    → kinds_behind (kinds_in m (version_seen old)) (kinds_in m (version_seen new)) ≡ Some ks
    → is_handled to (handlers_of new.code.sections.now) ≡ false → None ≡ broken_of texts users m at pairs old newest
stored_may texts users m at pairs old new newest to ks a g n s r k h =
    sym (none (asked texts users m at pairs old newest) to (code_meant users (version_seen new)) ks (point_meant texts (version_seen old) at.offset ∙ a) g
    (ap (option_map (λ (s : Stored). code_meant users (version_seen s))) n) (stop_meant users (version_seen new) to ∙ s) r (kinds_both texts users m old new ∙ k)
    (handled_meant users (version_seen new) to ∙ h))

-- a method that isn't there has no newest code
pub no_row_newest : (m : Module) (debug : PlainPdb) (method : Token) → has_row m method ≡ false → None ≡ newest_code m debug method
no_row_newest m debug method h =
    sym (ap (λ (o : Option Cell). option_map (λ (b : Body). record { body = b; points = (lines_known (debug method)).points }) (body_of_cell o)) (no_row_cell m method h))

-- what is told by the bodies that are stored is told by those of the modules
pub joined : (texts users : ℕ → Option (List ℕ)) (old_module m : Module) (old_debug debug : PlainPdb) (at : Standing) (pairs : List (ℕ × ℕ)) (old : Stored)
    (newest : Option Stored) (n : Option ℕ) → Some (code_meant texts (version_seen old)) ≡ newest_code old_module old_debug at.method
    → option_map (λ (s : Stored). code_meant users (version_seen s)) newest ≡ newest_code m debug at.method
    → n ≡ broken_of texts users m at pairs old newest → Some n ≡ may_remap old_module old_debug m debug at pairs
unfolding may_remap
joined texts users old_module m old_debug debug at pairs old newest n before now told = rw (← before, ← now) (ap Some told)
