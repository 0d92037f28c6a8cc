-- The operations of EncLog, in the words of System.Reflection.Metadata (`EditAndContinueOperation`).
use Rattle.std.specs.Prelude.{ℕ}

-- the row is inserted or updated
abbrev pub default : ℕ
default = 0

-- the token gets a method, a field, a parameter, a property or an event: the row of the next entry
abbrev pub add_method : ℕ
add_method = 1

abbrev pub add_field : ℕ
add_field = 2

abbrev pub add_parameter : ℕ
add_parameter = 3

abbrev pub add_property : ℕ
add_property = 4

abbrev pub add_event : ℕ
add_event = 5
