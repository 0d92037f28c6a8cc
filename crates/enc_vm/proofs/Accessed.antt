-- Static fields that are loaded and stored.
use Rattle.std.proofs.Common.{◌≡◌, ℕ, Bool, true, false, List, Option, Result, Ok, Err, refl, arith}
use Rattle.std.specs.Prelude.{◌==◌, if◌then◌else◌}
use Rattle.std.proofs.lemmas.Bool.Decides.{nat_tests}
use Rattle.enc_base.specs.declared.token.Token.{Token}
use Rattle.enc_machine_types.specs.Members.{field_kind}
use Rattle.enc_objects.specs.declared.kind.Kind.{Kind}
use Rattle.enc_objects.specs.declared.trap.Trap.{Trap}
use Rattle.enc_objects.specs.declared.trap.Trap.TheVariants.{X2}
use Rattle.enc_opcodes.specs.Body.{body_of}
use Rattle.enc_plain.specs.Module.{Module}
use Rattle.enc_base.specs.Tables as tables
use Rattle.enc_versions.specs.Version.{Version}
use Rattle.enc_frames.specs.Machine.{Thread, Shared, version_world}
use Rattle.enc_frames.specs.Memory.{named_field}
use Rattle.enc_frames.specs.Results.{or_trap}
use Rattle.enc_vm.specs.StaticsSeen.{accessed_by}
use Rattle.enc_vm.specs.Step.{act_on}
use Rattle.enc_frames.specs.declared.act.Act.TheVariants as act
use Rattle.enc_vm.specs.declared.statics.StaticAccess.TheVariants.{Load, Store}

-- ldsfld
pub load_is : (users : ℕ → Option (List ℕ)) (m : Module) (methods : List (Option Version)) (next : ℕ) (f : Token) (s : Shared) (t : Thread Version)
    → act_on (version_world users m methods) next (act.LoadStatic f) s t ≡ accessed_by (version_world users m methods) m Load next f s t
unfolding act_on version_world body_of
load_is users m methods next f s t = refl

-- stsfld
pub store_is : (users : ℕ → Option (List ℕ)) (m : Module) (methods : List (Option Version)) (next : ℕ) (f : Token) (s : Shared) (t : Thread Version)
    → act_on (version_world users m methods) next (act.StoreStatic f) s t ≡ accessed_by (version_world users m methods) m Store next f s t
unfolding act_on version_world
store_is users m methods next f s t = refl

by_table : (n : ℕ) (b : Bool) (x : Result Kind Trap) (k : Kind) → (n == tables.field) ≡ b → (if b then x else Err X2) ≡ Ok k → n ≡ tables.field
by_table n true x k is e = grind (arith, nat_tests, is)
by_table n false x k is e = absurd cc

-- what names a field is of its table
pub named_field_table : (m : Module) (t : Token) (k : Kind) → named_field m t ≡ Ok k → t.table ≡ tables.field
unfolding named_field
named_field_table m t k e = by_table t.table (t.table == tables.field) (or_trap X2 (field_kind m t)) k refl e
