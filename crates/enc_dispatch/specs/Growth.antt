-- For the contracts of private functions: how an index grows with its module, when rows are added.
use Rattle.std.specs.Prelude.{◌⊎◌, [], ◌≡◌, ◌≤◌, ◌+◌, ◌-◌, ◌<◌, ◌^◌, ◌++◌, ◌&&◌, ℕ, ◌==◌, Bool, List, Option, Some, None, IsTrue, length, filter, nat_le, nat_lt}
use Rattle.std.specs.List.{list_any}
use Rattle.enc_base.specs.Order.{or_else, first_below}
use Rattle.enc_base.specs.Token.{nth_row}
use Rattle.enc_base.specs.declared.token.Token.{Token}
use Rattle.enc_key_map.specs.declared.index.Index.{Index}
use Rattle.enc_key_map.specs.declared.key.Key.{Key}
use Rattle.enc_key_map.specs.Index.{value_at, either, latest}
use Rattle.enc_plain.specs.Module.{Module, has_row, cells_of, kids_of, owner_of}
use Rattle.enc_plain.specs.Sound.{row_count}
use Rattle.enc_base.specs.Tables as tables
use Rattle.enc_dispatch.specs.declared.growth.Growth.{Growth}
use Rattle.enc_dispatch.specs.declared.rows_read.RowsRead.{RowsRead}
use Rattle.enc_dispatch.specs.declared.method_part.MethodPart.{MethodPart}
use Rattle.enc_dispatch.specs.declared.own_method.OwnMethod.{OwnMethod}
use Rattle.enc_dispatch.specs.declared.wanted.Wanted.{Wanted}
use Rattle.enc_dispatch.specs.declared.wanted.Wanted.TheVariants.{Virtual, Public}
use Rattle.enc_dispatch.specs.Buckets.{bucket_key, stored_head, AreBuckets}
use Rattle.enc_dispatch.specs.Entries.{earliest, where_none}
use Rattle.enc_dispatch.specs.Own.{own_among, own_in_class}
use Rattle.enc_dispatch.specs.Parts.{EachPart}
use Rattle.enc_dispatch.specs.Interfaces.{says_interface}
use Rattle.enc_dispatch.specs.Stored.{DispatchParts, class_at, own_key, impl_key, interface_key, impl_for, IsClassPart, IsMethodPart, IsLocalsPart}

-- the methods of a class behind the first so many rows, in order of attachment
abbrev pub later_kids : Module → ℕ → ℕ → List ℕ
later_kids m read class = filter (λ (row : ℕ). nat_lt read row) (kids_of m (class_at class) tables.method_def)

-- the rows of classes: each that has methods behind the first so many is among them, and all are there
pub record AreOwners (m : Module) (read : ℕ) (classes : List ℕ) : Type 0 where
  pub there : (class : ℕ) → IsTrue (list_any (λ (c : ℕ). c == class) classes) → IsTrue (has_row m (class_at class))
  pub all : (class : ℕ) → IsTrue (list_any (λ (c : ℕ). c == class) classes) ⊎ (later_kids m read class ≡ [])

-- a class is the n-th method's, n from 0, by its row
abbrev pub IsClassOfMethod : Module → ℕ → ℕ → Type 0
IsClassOfMethod m n class = owner_of m (nth_row tables.method_def n) ≡ Some (class_at class)

-- each part is as its place behind the first so many says
abbrev pub EachLater : {A : Type 0} → (ℕ → A → Type 0) → ℕ → List A → Type 0
EachLater is read parts = EachPart (λ k. is (read + k)) parts

-- the first answer of a rule from a number on
abbrev pub later_answer : {A : Type 0} → (ℕ → Option A) → ℕ → ℕ → Option A
later_answer rule read more = first_below (λ k. rule (read + k)) more

-- the index has the first wanted method of each class and slot, but for methods behind the first so many
abbrev pub IsOwnUpTo : Module → List MethodPart → Wanted → Index OwnMethod → ℕ → Type 0
IsOwnUpTo m methods wanted own read =
    (more : List MethodPart) (c s : ℕ)
    → or_else (value_at own (own_key c s)) (own_among m (methods ++ more) wanted s (later_kids m read c))
    ≡ own_in_class m (methods ++ more) wanted s c

-- the index stands for the first so many rows of the tables that it reads
pub record StandsUpTo (d : DispatchParts) (m : Module) (read : RowsRead) : Type 0 where
  pub class_count : length d.classes ≡ read.classes
  pub classes : EachPart (IsClassPart m) d.classes
  pub method_count : length d.methods ≡ read.methods
  pub methods : EachPart (IsMethodPart m) d.methods
  pub own : IsOwnUpTo m d.methods Virtual d.own read.methods
  pub met : IsOwnUpTo m d.methods Public d.met read.methods
  pub impls : (class declaration : ℕ)
      → value_at d.impls (impl_key class declaration) ≡ first_below (impl_for m class declaration) read.impls
  pub interfaces : (class : ℕ) (i : Token) →
      value_at d.interfaces (interface_key class i) ≡ first_below (says_interface m (class_at class) i) read.interfaces
  pub links : length d.links ≡ read.methods
  pub buckets : AreBuckets (cells_of m) (stored_head d.heads) d.links
  pub locals_count : length d.locals ≡ read.locals
  pub locals : EachPart (IsLocalsPart m) d.locals

-- no table of the module has fewer rows
pub record HasSoMany (m : Module) (read : RowsRead) : Type 0 where
  pub classes : read.classes ≤ row_count m tables.type_def
  pub methods : read.methods ≤ row_count m tables.method_def
  pub impls : read.impls ≤ row_count m tables.method_impl
  pub interfaces : read.interfaces ≤ row_count m tables.interface_impl
  pub locals : read.locals ≤ row_count m tables.stand_alone_sig

-- the rows that a module has
pub record AreCounts (m : Module) (read : RowsRead) : Type 0 where
  pub classes : read.classes ≡ row_count m tables.type_def
  pub methods : read.methods ≡ row_count m tables.method_def
  pub impls : read.impls ≡ row_count m tables.method_impl
  pub interfaces : read.interfaces ≡ row_count m tables.interface_impl
  pub locals : read.locals ≡ row_count m tables.stand_alone_sig

-- what comes to an index with the rows behind the first so many
pub record IsGrowth (d : DispatchParts) (g : Growth) (m : Module) (read : RowsRead) : Type 0 where
  pub counts : HasSoMany m read
  pub class_count : read.classes + length g.classes.items ≡ row_count m tables.type_def
  pub few : row_count m tables.type_def < 2 ^ 24
  pub classes : EachLater (IsClassPart m) read.classes g.classes.items
  pub method_count : read.methods + length g.methods.items ≡ row_count m tables.method_def
  pub methods : EachLater (IsMethodPart m) read.methods g.methods.items
  pub own : (c s : ℕ)
      → earliest g.own.items (own_key c s)
      ≡ where_none (value_at d.own (own_key c s))
      (own_among m (d.methods ++ g.methods.items) Virtual s (later_kids m read.methods c))
  pub met : (c s : ℕ)
      → earliest g.met.items (own_key c s)
      ≡ where_none (value_at d.met (own_key c s))
      (own_among m (d.methods ++ g.methods.items) Public s (later_kids m read.methods c))
  pub impls : (class declaration : ℕ)
      → earliest g.impls.items (impl_key class declaration)
      ≡ where_none (value_at d.impls (impl_key class declaration))
      (later_answer (impl_for m class declaration) read.impls (row_count m tables.method_impl - read.impls))
  pub interfaces : (class : ℕ) (i : Token)
      → earliest g.interfaces.items (interface_key class i)
      ≡ where_none (value_at d.interfaces (interface_key class i))
      (later_answer (says_interface m (class_at class) i) read.interfaces
      (row_count m tables.interface_impl - read.interfaces))
  pub links : read.methods + length g.links.items ≡ row_count m tables.method_def
  pub buckets : AreBuckets (cells_of m)
      (λ key. either (latest g.heads.items (bucket_key key)) (stored_head d.heads key)) (d.links ++ g.links.items)
  pub locals_count : read.locals + length g.locals.items ≡ row_count m tables.stand_alone_sig
  pub locals : EachLater (IsLocalsPart m) read.locals g.locals.items

-- there is room for what comes, and no more classes than an index may have
unfoldable pub has_room_for : DispatchParts → Growth → Bool
has_room_for d g =
    nat_le (length d.classes + length g.classes.items) d.room.classes
    && nat_le (length d.methods + length g.methods.items) d.room.methods
    && nat_le (length d.links + length g.links.items) d.room.links
    && nat_le (length d.locals + length g.locals.items) d.room.locals
    && nat_lt (length d.classes + length g.classes.items) (2 ^ 24)

-- an index that has grown
pub record HasGrown (d : DispatchParts) (g : Growth) (new : DispatchParts) : Type 0 where
  pub classes : new.classes ≡ d.classes ++ g.classes.items
  pub methods : new.methods ≡ d.methods ++ g.methods.items
  pub own : (q : Key) → value_at new.own q ≡ either (earliest g.own.items q) (value_at d.own q)
  pub met : (q : Key) → value_at new.met q ≡ either (earliest g.met.items q) (value_at d.met q)
  pub impls : (q : Key) → value_at new.impls q ≡ either (earliest g.impls.items q) (value_at d.impls q)
  pub interfaces : (q : Key) → value_at new.interfaces q
      ≡ either (earliest g.interfaces.items q) (value_at d.interfaces q)
  pub heads : (q : Key) → value_at new.heads q ≡ either (latest g.heads.items q) (value_at d.heads q)
  pub links : new.links ≡ d.links ++ g.links.items
  pub locals : new.locals ≡ d.locals ++ g.locals.items

-- an index of no rows
pub record IsEmpty (d : DispatchParts) : Type 0 where
  pub classes : d.classes ≡ []
  pub methods : d.methods ≡ []
  pub own : (q : Key) → value_at d.own q ≡ None
  pub met : (q : Key) → value_at d.met q ≡ None
  pub impls : (q : Key) → value_at d.impls q ≡ None
  pub interfaces : (q : Key) → value_at d.interfaces q ≡ None
  pub heads : (q : Key) → value_at d.heads q ≡ None
  pub links : d.links ≡ []
  pub locals : d.locals ≡ []
