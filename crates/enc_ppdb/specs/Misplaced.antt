-- Which row of a delta's PDB doesn't go with the delta's metadata.
use Rattle.std.specs.Prelude.{ℕ, zero, suc, Bool, true, false, ◌||◌, List, [], ◌∷◌, length, take, Option, Some, None, option_map, option_and_then, nat_le, slice_get, if◌then◌else◌}
use Rattle.std.specs.List.{list_any}
use Rattle.enc_base.specs.Token.{nth_row}
use Rattle.enc_base.specs.declared.token.Token.{Token}
use Rattle.enc_rows.specs.Source.{Source}
use Rattle.enc_base.specs.Tables as tables
use Rattle.enc_seqpoints.specs.declared.point.Point.{Point}
use Rattle.enc_seqpoints.specs.Grammar.{MethodPoints}
use Rattle.enc_ppdb.specs.Pdb.{points_of}
use Rattle.enc_ppdb.specs.Fault.{named_tokens}
use Rattle.enc_ppdb.specs.Points.{names_method}

-- the size of the code of the method that a token of MethodDebugInformation names, where it is one of the delta's
-- methods with their code sizes
unfoldable pub size_for : List (Token × ℕ) → Token → Option ℕ
size_for [] token = None
size_for (m ∷ methods) token = if names_method m.0 token then Some m.1 else size_for methods token

-- one of the points is past the code
abbrev pub is_past_code : ℕ → MethodPoints → Bool
is_past_code size m = list_any (λ (p : Point). nat_le size p.offset) m.points

-- the method isn't one of the delta's, or one of its points is past its code
abbrev pub is_stray : Option ℕ → Option MethodPoints → Bool
is_stray None points = true
is_stray (Some size) None = false
is_stray (Some size) (Some m) = is_past_code size m

-- the token doesn't stand behind one of those before it
abbrev pub is_behind : List Token → Token → Bool
is_behind before token = list_any (λ (t : Token). nat_le token.row t.row) before

-- the k-th token of MethodDebugInformation in EncMap, where it or its row doesn't go with the delta's methods
unfoldable pub is_misplaced : Source → List (Token × ℕ) → ℕ → Token → Bool
is_misplaced s methods k token =
    is_behind (take k (named_tokens s)) token
    || is_stray (size_for methods token) (points_of s (nth_row tables.method_debug_information k))

abbrev pub misplaced_if : Bool → Token → Option ℕ
misplaced_if true token = Some token.row
misplaced_if false token = None

unfoldable pub misplaced_row : Source → List (Token × ℕ) → ℕ → Option ℕ
misplaced_row s methods k =
    option_and_then (λ (token : Token). misplaced_if (is_misplaced s methods k token) token)
    (slice_get (named_tokens s) k)

-- the least of what a rule answers below n
abbrev pub lesser_of : Option ℕ → Option ℕ → Option ℕ
lesser_of None second = second
lesser_of (Some n) None = Some n
lesser_of (Some n) (Some m) = if nat_le n m then Some n else Some m

unfoldable pub least_below : (ℕ → Option ℕ) → ℕ → Option ℕ
least_below rule zero = None
least_below rule (suc n) = lesser_of (least_below rule n) (rule n)

-- the token of a row of MethodDebugInformation
abbrev pub debug_token : ℕ → Token
debug_token row = record { table = tables.method_debug_information; row = row }

-- the least token that doesn't go with the delta's methods, of which each stands with the size of its code, 0 where
-- it has no body
unfoldable pub first_misplaced : Source → List (Token × ℕ) → Option Token
first_misplaced s methods = option_map debug_token (least_below (misplaced_row s methods) (length (named_tokens s)))
