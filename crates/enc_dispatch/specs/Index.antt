-- What the parts of the index say of the module that it stands for.
use Rattle.std.specs.Prelude.{◌≡◌, ℕ, length, Some, option_map, IsTrue}
use Rattle.enc_base.specs.Order.{first_below}
use Rattle.enc_base.specs.declared.token.Token.{Token}
use Rattle.enc_key_map.specs.Index.{value_at}
use Rattle.enc_plain.specs.Module.{Module, has_row, cells_of}
use Rattle.enc_plain.specs.Sound.{row_count}
use Rattle.enc_base.specs.Tables as tables
use Rattle.enc_dispatch.specs.declared.method_part.MethodPart.{MethodPart}
use Rattle.enc_dispatch.specs.declared.impl_part.ImplPart.{ImplPart}
use Rattle.enc_dispatch.specs.declared.wanted.Wanted.TheVariants.{Virtual, Public}
use Rattle.enc_dispatch.specs.Buckets.{stored_head, AreBuckets}
use Rattle.enc_dispatch.specs.Own.{AreAllOwn}
use Rattle.enc_dispatch.specs.Parts.{nth_part, EachPart}
use Rattle.enc_dispatch.specs.Interfaces.{says_interface}
use Rattle.enc_dispatch.specs.Stored.{DispatchParts, class_at, own_key, impl_key, interface_key, impl_for, IsClassPart, IsMethodPart, IsLocalsPart, own_part}
use Rattle.enc_dispatch.specs.Walks.{method_at, takes_slot, meets, first_method}

-- the index stands for the module: each of its parts is the module's
pub record StandsForModule (d : DispatchParts) (m : Module) : Type 0 where
  pub class_count : length d.classes ≡ row_count m tables.type_def
  pub classes : EachPart (IsClassPart m) d.classes
  pub method_count : length d.methods ≡ row_count m tables.method_def
  pub methods : EachPart (IsMethodPart m) d.methods
  pub own : (class row : ℕ) (p : MethodPart) → IsTrue (has_row m (class_at class)) → nth_part d.methods row ≡ Some p
      → value_at d.own (own_key class p.slot)
      ≡ option_map (own_part m) (first_method m (takes_slot m (method_at row)) (class_at class))
  pub met : (class row : ℕ) (p : MethodPart) → IsTrue (has_row m (class_at class)) → nth_part d.methods row ≡ Some p
      → value_at d.met (own_key class p.slot)
      ≡ option_map (own_part m) (first_method m (meets m (method_at row)) (class_at class))
  pub own_all : AreAllOwn m d.methods Virtual d.own
  pub met_all : AreAllOwn m d.methods Public d.met
  pub impls : (class declaration : ℕ)
      → value_at d.impls (impl_key class declaration)
      ≡ first_below (impl_for m class declaration) (row_count m tables.method_impl)
  pub bodies : (class declaration : ℕ) (p : ImplPart) → value_at d.impls (impl_key class declaration) ≡ Some p
      → IsTrue (has_row m (method_at p.body))
  pub interfaces : (class : ℕ) (interface : Token)
      → value_at d.interfaces (interface_key class interface)
      ≡ first_below (says_interface m (class_at class) interface) (row_count m tables.interface_impl)
  pub links : length d.links ≡ row_count m tables.method_def
  pub buckets : AreBuckets (cells_of m) (stored_head d.heads) d.links
  pub locals_count : length d.locals ≡ row_count m tables.stand_alone_sig
  pub locals : EachPart (IsLocalsPart m) d.locals
