-- Tokens and their numbers.
use Rattle.std.specs.Prelude.{ℕ, ◌+◌, ◌*◌, ◌/◌, ◌%◌, Bool, ◌&&◌, ◌==◌}
use Rattle.enc_base.specs.declared.token.Token.{Token}

-- the table in the top byte, the row in the three below (ECMA-335 II.22)
abbrev pub token_of : ℕ → Token
token_of n = record { table = n / 0x1000000; row = n % 0x1000000 }

-- the number of a token
abbrev pub number_of : Token → ℕ
number_of t = t.table * 0x1000000 + t.row

-- the token that names nothing
abbrev pub nil : Token
nil = record { table = 0; row = 0 }

-- the n-th row of a table, n from 0
abbrev pub nth_row : ℕ → ℕ → Token
nth_row table n = record { table = table; row = n + 1 }

-- the tokens are the same
abbrev pub is_token : Token → Token → Bool
is_token t u = t.table == u.table && t.row == u.row
