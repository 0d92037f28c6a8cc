-- Laws of likeness, each as a fact of all rows and tokens.
use Rattle.std.specs.Prelude.{◌≡◌, ℕ, true, false, None}
use Rattle.enc_base.specs.Token.{is_token}
use Rattle.enc_base.specs.declared.token.Token.{Token}
use Rattle.enc_plain.specs.Rows.{Rows, bytes_at}
use Rattle.enc_plain.specs.Alike.{tokens_alike}
use Rattle.enc_base.specs.Tables as tables

-- each token is alike itself, whether it is a row or not
abbrev pub EachIsAlikeItself : Type 0
EachIsAlikeItself = (rows : Rows) (t : Token) → tokens_alike rows t t ≡ true

-- a TypeRef is alike none with another text in a column: name or namespace
abbrev pub NoneIsAlikeByAnother : ℕ → Type 0
NoneIsAlikeByAnother column =
    (rows : Rows) (a b : Token) → a.table ≡ tables.type_ref → ¬ (bytes_at rows a column ≡ bytes_at rows b column)
    → tokens_alike rows a b ≡ false

-- a token that names no row is alike itself alone
abbrev pub AbsentIsAlikeItselfAlone : Type 0
AbsentIsAlikeItselfAlone = (rows : Rows) (a b : Token) → rows a ≡ None → tokens_alike rows a b ≡ is_token a b
