-- The types that casts ask for.
use Rattle.std.proofs.Common.{◌≡◌, ℕ, Bool, true, false, List, refl, sym, ap, ◌∙◌}
use Rattle.std.specs.Prelude.{◌&&◌, ◌||◌, ◌==◌, bytes_eq, codes}
use Rattle.std.specs.List.{list_any}
use Rattle.enc_base.specs.declared.token.Token.{Token}
use Rattle.enc_plain.specs.ClassPath.{extends, is_on_path}
use Rattle.enc_dispatch.specs.Interfaces.{implements, has_interface}
use Rattle.enc_plain.specs.System.{is_of_system}
use Rattle.enc_plain.proofs.CellsOf.{bytes_absent}
use Rattle.enc_plain.specs.Module.{Module, has_row, cells_of}
use Rattle.enc_plain.specs.Rows.{bytes_at}
use Rattle.enc_plain.specs.Sound.{row_count}
use Rattle.enc_schema.specs.Columns as columns
use Rattle.enc_base.specs.Tables as tables
use Rattle.enc_frames.proofs.Climbs.{no_climb}
use Rattle.enc_frames.specs.Memory.{is_cast_type}

between : (a b : Bool) → (a && false && b) ≡ false
between true b = refl
between false b = refl

-- what is no row has no name
no_system : (m : Module) (name : List ℕ) (t : Token) → has_row m t ≡ false → is_of_system m name t ≡ false
unfolding is_of_system
no_system m name t h =
    ap (λ (bytes : List ℕ). t.table == tables.type_ref && bytes_eq bytes (codes "System") && bytes_eq (bytes_at (cells_of m) t columns.type_ref_type_name) name)
    (sym (bytes_absent m t columns.type_ref_type_namespace h))
    ∙ between (t.table == tables.type_ref) (bytes_eq (bytes_at (cells_of m) t columns.type_ref_type_name) name)

none_of_three : (a x y z : Bool) → x ≡ false → y ≡ false → z ≡ false → (a && x || y || z) ≡ false
none_of_three true x y z e f g = rw (e, f, g) refl
none_of_three false x y z e f g = rw (f, g) refl

no_cast : (m : Module) (t : Token) → has_row m t ≡ false → is_cast_type m t ≡ false
unfolding is_cast_type
no_cast m t h =
    none_of_three (t.table == tables.type_def) (has_row m t) (is_of_system m (codes "Object") t) (is_of_system m (codes "String") t)
    h (no_system m (codes "Object") t h) (no_system m (codes "String") t h)

by_row : (m : Module) (t : Token) (row : Bool) → has_row m t ≡ row → is_cast_type m t ≡ true → has_row m t ≡ true
by_row m t true h e = h
by_row m t false h e = let none : is_cast_type m t ≡ false = no_cast m t h in absurd cc

-- a type that a cast can ask for has a row
pub cast_row : (m : Module) (t : Token) → is_cast_type m t ≡ true → has_row m t ≡ true
cast_row m t e = by_row m t (has_row m t) refl e

-- what is no row extends nothing and has no interface
pub no_base : (m : Module) (class t : Token) → has_row m class ≡ false → (extends m class t || implements m class t) ≡ false
no_base m class t h =
    ap (λ (path : List Token). is_on_path t path || list_any (λ (c : Token). has_interface m c t) path) (no_climb m (row_count m tables.type_def) class h)
