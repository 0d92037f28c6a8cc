-- Columns of InterfaceImpl and MethodImpl (ECMA-335 II.22.23, II.22.27).
use Rattle.std.specs.Prelude.{ℕ}

abbrev pub interface_impl_class : ℕ
interface_impl_class = 0

abbrev pub interface_impl_interface : ℕ
interface_impl_interface = 1

abbrev pub method_impl_class : ℕ
method_impl_class = 0

abbrev pub method_impl_body : ℕ
method_impl_body = 1

abbrev pub method_impl_declaration : ℕ
method_impl_declaration = 2
