-- What the index keeps: its parts, and what they stand by.
use Rattle.std.specs.Prelude.{◌≡◌, ℕ, List, Option, Some, None, option_and_then, slice_get, ◌&&◌, ◌==◌, if◌then◌else◌}
use Rattle.enc_base.specs.Token.{nth_row, is_token}
use Rattle.enc_base.specs.declared.token.Token.{Token}
use Rattle.enc_key_map.specs.declared.index.Index.{Index}
use Rattle.enc_key_map.specs.declared.key.Key.{Key}
use Rattle.enc_machine_types.specs.Members.{local_kinds}
use Rattle.enc_objects.specs.declared.kind.Kind.{Kind}
use Rattle.enc_plain.specs.Module.{Module, owner_of}
use Rattle.enc_base.specs.Tables as tables
use Rattle.enc_dispatch.specs.declared.class_part.ClassPart.{ClassPart}
use Rattle.enc_dispatch.specs.declared.method_part.MethodPart.{MethodPart}
use Rattle.enc_dispatch.specs.declared.own_method.OwnMethod.{OwnMethod}
use Rattle.enc_dispatch.specs.declared.impl_part.ImplPart.{ImplPart}
use Rattle.enc_dispatch.specs.declared.locals_part.LocalsPart.{LocalsPart}
use Rattle.enc_plain.specs.ClassPath.{class_base}
use Rattle.enc_dispatch.specs.Parts.{nth_part, EachPart}
use Rattle.enc_dispatch.specs.Slots.{slot_of}
use Rattle.enc_dispatch.specs.Target.{is_interface}
use Rattle.enc_dispatch.specs.Walks.{impl_class, impl_body, impl_declaration, method_at, is_new_slot}

-- how many classes, methods, links and signatures of local variables there is memory for
pub record Room : Type 0 where
  pub classes : ℕ
  pub methods : ℕ
  pub links : ℕ
  pub locals : ℕ

-- of each class what it extends and whether it is an interface; of each method its type and its slot; by class and
-- slot the first virtual method and the first public one; by class and declaration the first row of MethodImpl; by
-- class and interface that it has it; by key the newest first method of a slot, and behind each method the one that
-- was so before it; of each signature the kinds of its first local variables; and how much room there is
pub record DispatchParts : Type 0 where
  pub classes : List ClassPart
  pub methods : List MethodPart
  pub own : Index OwnMethod
  pub met : Index OwnMethod
  pub impls : Index ImplPart
  pub interfaces : Index Token
  pub heads : Index ℕ
  pub links : List (Option ℕ)
  pub locals : List LocalsPart
  pub room : Room

-- the same parts with so much room
abbrev pub with_room : Room → DispatchParts → DispatchParts
with_room room d = record {
  classes = d.classes;
  methods = d.methods;
  own = d.own;
  met = d.met;
  impls = d.impls;
  interfaces = d.interfaces;
  heads = d.heads;
  links = d.links;
  locals = d.locals;
  room = room;
}

-- a class's row by its number
abbrev pub class_at : ℕ → Token
class_at row = record { table = tables.type_def; row = row }

-- what a class's virtual method stands by: its class and its slot
abbrev pub own_key : ℕ → ℕ → Key
own_key class slot = record { table = tables.method_def; row = class; place = slot }

-- what a row of MethodImpl stands by: its class and its declaration, a MethodDef
abbrev pub impl_key : ℕ → ℕ → Key
impl_key class declaration = record { table = tables.method_impl; row = class; place = declaration }

-- what an interface of a class stands by
abbrev pub interface_key : ℕ → Token → Key
interface_key class interface = record { table = interface.table; row = class; place = interface.row }

-- a row of MethodImpl that gives a class a MethodDef for a declaration, with its number from 0
unfoldable pub impl_for : Module → ℕ → ℕ → ℕ → Option ImplPart
impl_for m class declaration k =
    if is_token (impl_class m k) (class_at class) && (impl_body m k).table == tables.method_def
    && is_token (impl_declaration m k) (method_at declaration)
    then Some (record { number = k; body = (impl_body m k).row })
    else None

-- a part is of the n-th class, n from 0
pub record IsClassPart (m : Module) (n : ℕ) (p : ClassPart) : Type 0 where
  pub base : p.base ≡ class_base m (nth_row tables.type_def n)
  pub interface : p.is_interface ≡ is_interface m (nth_row tables.type_def n)

-- a part is of the n-th method, n from 0
pub record IsMethodPart (m : Module) (n : ℕ) (p : MethodPart) : Type 0 where
  pub owner : owner_of m (nth_row tables.method_def n) ≡ Some p.owner
  pub slot : slot_of m (nth_row tables.method_def n) ≡ Some p.slot

-- the kind of a local variable, by its number and the token of its body's signature
abbrev pub kind_of_local : Module → Token → ℕ → Option Kind
kind_of_local m locals n = option_and_then (λ (ks : List Kind). slice_get ks n) (local_kinds m locals)

-- what is kept of it, None where nothing is
unfoldable pub kept_local : DispatchParts → Token → ℕ → Option (Option Kind)
kept_local d locals n =
    if locals.table == tables.stand_alone_sig
    then option_and_then (λ (p : LocalsPart). slice_get p.kinds n) (nth_part d.locals locals.row) else None

-- a part is of the n-th signature of local variables, n from 0
abbrev pub IsLocalsPart : Module → ℕ → LocalsPart → Type 0
IsLocalsPart m n p =
    EachPart (λ (i : ℕ) (o : Option Kind). o ≡ kind_of_local m (nth_row tables.stand_alone_sig n) i) p.kinds

-- what stands of a class's own virtual method
abbrev pub own_part : Module → Token → OwnMethod
own_part m method = record { row = method.row; is_new_slot = is_new_slot m method }
