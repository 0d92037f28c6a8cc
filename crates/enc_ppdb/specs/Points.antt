-- Which row of a delta's PDB stands for a method, and the points of that row (Portable PDB v1.0,
-- MethodDebugInformation Table).
use Rattle.std.specs.Prelude.{◌≡◌, Bool, true, ◌&&◌, ◌==◌, position, Option, None, option_map, option_and_then}
use Rattle.enc_base.specs.Token.{nth_row}
use Rattle.enc_base.specs.declared.token.Token.{Token}
use Rattle.enc_rows.specs.Source.{Source}
use Rattle.enc_base.specs.Tables as tables
use Rattle.enc_seqpoints.specs.Grammar.{MethodPoints}
use Rattle.enc_ppdb.specs.Pdb.{points_of}
use Rattle.enc_ppdb.specs.Fault.{named_tokens, fits_map, methods_fault}

-- a token of MethodDebugInformation names the method with its row
abbrev pub names_method : Token → Token → Bool
names_method method token = method.table == tables.method_def && token.row == method.row

-- the row of a method: that of the first token that names it
unfoldable pub row_for : Source → Token → Option Token
row_for s method = option_map (nth_row tables.method_debug_information)
    (position (names_method method) (named_tokens s))

-- its local signature row and its points
unfoldable pub delta_points : Source → Token → Option MethodPoints
delta_points s method = option_and_then (points_of s) (row_for s method)

-- each row of MethodDebugInformation is good, and EncMap names as many as there are
pub record IsGoodDelta (s : Source) : Type 0 where
  pub fits : fits_map s ≡ true
  pub rows : methods_fault s ≡ None
