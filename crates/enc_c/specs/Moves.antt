-- The rows that move where a module gets the order of an ordinary one, by the numbers of their tokens.
use Rattle.std.specs.Prelude.{Bool, ◌&&◌, List, map, nat_lt}
use Rattle.enc_base.specs.Token.{number_of}
use Rattle.enc_base.specs.declared.token.Token.{Token}
use Rattle.enc_plain.specs.Module.{Module}
use Rattle.enc_compact.specs.Moved.{moves_listed}
use Rattle.enc_c.specs.declared.compacting.MoveNumbers.{MoveNumbers}

-- a token and the token that it becomes
abbrev pub move_told : Token × Token → MoveNumbers
move_told x = record { from = number_of x.0; to = number_of x.1 }

-- those of all rows that move, by rising tokens
unfoldable pub moves_told : Module → List MoveNumbers
moves_told m = map move_told (moves_listed m)

-- for the contract of a private function: the tokens' numbers have room for their rows
abbrev pub is_told_move : Token × Token → Bool
is_told_move x = nat_lt x.0.row 0x1000000 && nat_lt x.1.row 0x1000000
