-- Touches, by the first touch of a type.
use Rattle.std.proofs.Common.{◌≡◌, ℕ, Bool, true, false, List, Option, Some, None, Result, Ok, Err, refl, sym, ap, subst, ◌∙◌, arith}
use Rattle.std.specs.Prelude.{◌&&◌, ◌==◌, if◌then◌else◌}
use Rattle.std.proofs.lemmas.Bool.Decides.{nat_tests}
use Rattle.std.specs.List.{list_any}
use Rattle.enc_base.specs.Token.{is_token}
use Rattle.enc_base.specs.declared.token.Token.{Token}
use Rattle.enc_machine_types.specs.Members.{type_constructor, call_shape}
use Rattle.enc_objects.specs.Objects.{Store}
use Rattle.enc_objects.specs.declared.trap.Trap.{Trap}
use Rattle.enc_objects.specs.declared.trap.Trap.TheVariants.{X2}
use Rattle.enc_base.specs.Tables.{method_def}
use Rattle.enc_plain.specs.Module.{Module}
use Rattle.enc_versions.specs.Version.{Version}
use Rattle.enc_dispatch.specs.Walks.{is_virtual}
use Rattle.enc_machine_types.specs.Elements.{CallShape}
use Rattle.enc_vm.specs.Calls.{with_type, touch, touch_first, touch_if, named_virtually, call_touches, declaring, call_with, call, call_virtual}
use Rattle.enc_frames.specs.Straight.{named_method}
use Rattle.enc_vm.specs.CallsSeen.{Makes}
use Rattle.enc_frames.specs.FramesSeen.{shared_by}
use Rattle.enc_frames.specs.Machine.{World, Thread, Shared, version_world}
use Rattle.enc_frames.specs.Results.{◌>>=◌, or_trap, Made}
use Rattle.enc_vm.specs.TouchSeen.{first_touch, touched_on}
use Rattle.enc_vm.specs.declared.returns.FrameChange.{FrameChange}
use Rattle.enc_frames.specs.declared.stop.Stop.{Stop}

by_first : (w : World Version) (t : Thread Version) (type : Token) (go : Shared → Result (Made Version) Trap) (store : Store) (touched : List Token) (b : Bool) (o : Option Token)
    → (if b then go (shared_by store touched) else touch_first w (shared_by store touched) t type go o)
    ≡ touched_on w (if b then None else Some (record { touched = with_type type touched; constructor = o })) go t store touched
by_first w t type go store touched true o = refl
by_first w t type go store touched false None = refl
by_first w t type go store touched false (Some c) = refl

-- a touch
pub touch_is : (users : ℕ → Option (List ℕ)) (m : Module) (methods : List (Option Version)) (t : Thread Version) (type : Token)
    (go : Shared → Result (Made Version) Trap) (store : Store) (touched : List Token)
    → touch (version_world users m methods) (shared_by store touched) t type go
    ≡ touched_on (version_world users m methods) (first_touch m type touched) go t store touched
unfolding touch version_world
touch_is users m methods t type go store touched =
    by_first (version_world users m methods) t type go store touched (list_any (λ (x : Token). is_token x type) touched) (type_constructor m type)

-- by what is known of it
pub touched_by : (users : ℕ → Option (List ℕ)) (m : Module) (methods : List (Option Version)) (t : Thread Version) (type : Token)
    (go : Shared → Result (Made Version) Trap) (store : Store) (touched : List Token) (o : Option _) → o ≡ first_touch m type touched
    → touch (version_world users m methods) (shared_by store touched) t type go ≡ touched_on (version_world users m methods) o go t store touched
touched_by users m methods t type go store touched o is =
    touch_is users m methods t type go store touched
    ∙ ap (λ (x : Option _). touched_on (version_world users m methods) x go t store touched) (sym is)

-- a touch that is asked for
pub touches : (users : ℕ → Option (List ℕ)) (m : Module) (methods : List (Option Version)) (t : Thread Version) (type : Token)
    (go : Shared → Result (Made Version) Trap) (store : Store) (touched : List Token) (asked : Bool) (o : Option _) → asked ≡ true → o ≡ first_touch m type touched
    → touch_if asked (version_world users m methods) (shared_by store touched) t type go ≡ touched_on (version_world users m methods) o go t store touched
touches users m methods t type go store touched asked o e is =
    ap (λ (b : Bool). touch_if b (version_world users m methods) (shared_by store touched) t type go) e
    ∙ touch_is users m methods t type go store touched
    ∙ ap (λ (x : Option _). touched_on (version_world users m methods) x go t store touched) (sym is)

-- one that isn't
pub no_touch : (w : World Version) (t : Thread Version) (type : Token) (go : Shared → Result (Made Version) Trap) (s : Shared) (asked : Bool) → asked ≡ false
    → touch_if asked w s t type go ≡ go s
no_touch w t type go s asked e = ap (λ (b : Bool). touch_if b w s t type go) e

pub makes_as : (result : Result FrameChange Stop) (s r : Shared) (t u : Thread Version) (x y : Result (Made Version) Trap) → y ≡ x → Makes result s r t u x → Makes result s r t u y
makes_as result s r t u x y e h = subst (λ (z : Result (Made Version) Trap). Makes result s r t u z) (sym e) h

-- call
pub call_is : (users : ℕ → Option (List ℕ)) (m : Module) (methods : List (Option Version)) (next : ℕ) (method : Token) (s : Shared) (t : Thread Version)
    → call (version_world users m methods) next method s t
    ≡ (named_method m method >>= λ (shape : CallShape). touch_if (call_touches m method) (version_world users m methods) s t (declaring m method)
    (call_with (version_world users m methods) false false next method shape t))
unfolding call version_world
call_is users m methods next method s t = refl

-- callvirt
pub call_virtual_is : (users : ℕ → Option (List ℕ)) (m : Module) (methods : List (Option Version)) (next : ℕ) (method : Token) (s : Shared) (t : Thread Version)
    → call_virtual (version_world users m methods) next method s t
    ≡ (named_virtually m method >>= λ (shape : CallShape). touch_if (call_touches m method) (version_world users m methods) s t (declaring m method)
    (call_with (version_world users m methods) shape.this (shape.this && is_virtual m method) next method shape t))
unfolding call_virtual version_world
call_virtual_is users m methods next method s t = refl

by_table : (n : ℕ) (b : Bool) (x : Result CallShape Trap) (shape : CallShape) → (n == method_def) ≡ b → (if b then x else Err X2) ≡ Ok shape → n ≡ method_def
by_table n true x shape is e = grind (arith, nat_tests, is)
by_table n false x shape is e = absurd cc

-- what names a method is of its table
pub named_table : (m : Module) (t : Token) (shape : CallShape) → named_method m t ≡ Ok shape → t.table ≡ method_def
unfolding named_method
named_table m t shape e = by_table t.table (t.table == method_def) (or_trap X2 (call_shape m t)) shape refl e
