-- What is known of some methods, by rows that have no gaps.
use Rattle.std.specs.Prelude.{◌-◌, ◌==◌, ◌&&◌, not, List, unwrap_or, slice_get, if◌then◌else◌}
use Rattle.enc_base.specs.Token.{nil}
use Rattle.enc_base.specs.declared.token.Token.{Token}
use Rattle.enc_plain.specs.Debug.{PlainPdb}
use Rattle.enc_base.specs.Tables as tables

-- the method that a row of MethodDef stands for: the n-th of some, n from 1; nil where there is none
unfoldable pub nth_listed : List Token → Token → Token
nth_listed methods t = if t.table == tables.method_def
    && not (t.row == 0) then unwrap_or (slice_get methods (t.row - 1)) nil else nil

-- the plain PDB by these rows
abbrev pub debug_of_rows : List Token → PlainPdb → PlainPdb
debug_of_rows methods p t = p (nth_listed methods t)
