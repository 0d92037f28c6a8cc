-- What the parts of the program stand for.
use Rattle.std.specs.Prelude.{◌≡◌, ◌<◌, ◌≤◌, ◌^◌, ℕ, ◌+◌, ◌-◌, ◌*◌, Bool, true, List, [], ◌∷◌, map, length, zip, max, slice_index_or, Option, Some, None, option_map, nat_le, nat_lt, Result, Ok, Err, Vec, if◌then◌else◌}
use Rattle.std.specs.declared.alloc.Global.{Global}
use Rattle.enc_base.specs.Token.{nil, nth_row}
use Rattle.enc_base.specs.declared.token.Token.{Token}
use Rattle.enc_base.specs.declared.refusal.Refusal.{Refusal}
use Rattle.enc_base.specs.declared.refusal.ReadFault.{ReadFault}
use Rattle.enc_base.specs.declared.refusal.ReadFault.TheVariants.{Memory, Refused}
use Rattle.enc_meta.specs.Root.{root_of}
use Rattle.enc_meta.specs.Heaps.{part, ends_of}
use Rattle.enc_meta.specs.declared.root.Root.{Root}
use Rattle.enc_meta.specs.declared.ends.TextEnds.{TextEnds}
use Rattle.enc_rows.specs.Layout.{Layout, IsWithin, rows_of}
use Rattle.enc_rows.specs.Source.{Source}
use Rattle.enc_rows.specs.Sums.{below}
use Rattle.enc_base.specs.Tables as tables
use Rattle.enc_seqpoints.specs.declared.point.Point.{Point}
use Rattle.enc_seqpoints.specs.Grammar.{MethodPoints}
use Rattle.enc_ppdb.specs.Pdb.{points_of}
use Rattle.enc_ppdb.specs.Fault.{is_document, is_method, documents_fault, methods_fault, refused_at, named_tokens}
use Rattle.enc_ppdb.specs.Points.{IsGoodDelta}
use Rattle.enc_plain.specs.Debug.{Document}
use Rattle.enc_ppdb.specs.PdbChain.{document_of}

-- the root, the ends of its texts and the tables were read from these bytes
pub record IsPdbOpened (bytes : List ℕ) (r : Root) (e : TextEnds) (l : Layout) : Type 0 where
  pub root : root_of bytes ≡ Ok r
  pub ends : e ≡ ends_of bytes r
  pub span : l.span ≡ r.tables
  pub within : IsWithin (part bytes l.span) l

-- what was read is the PDB; what was refused is refused at the first place; want of memory tells nothing
abbrev pub ReadsPdb : Result Source ReadFault → Result Source Refusal → Type 0
ReadsPdb (Ok s) pdb = pdb ≡ Ok s
ReadsPdb (Err (Refused e)) pdb = pdb ≡ Err e
ReadsPdb (Err Memory) pdb = Unit {0}

-- tokens in the order of their tables and rows
abbrev pub token_order : Token → ℕ
token_order t = t.table * 0x100000000 + t.row

-- the token isn't before the last
abbrev pub is_next : List Token → Token → Bool
is_next tokens token = nat_le (token_order (slice_index_or tokens (length tokens - 1) nil)) (token_order token)

-- tokens cut by a token's order: before the cut all are less, and from it on none is
pub record IsCut (tokens : List Token) (token : Token) (i : ℕ) : Type 0 where
  pub within : i ≤ length tokens
  pub less : (k : ℕ) → k < i → token_order (slice_index_or tokens k nil) < token_order token
  pub rest : (k : ℕ) → i ≤ k → k < length tokens → token_order token ≤ token_order (slice_index_or tokens k nil)

-- methods, each with the size of its code
abbrev pub sized : List Token → List ℕ → List (Token × ℕ)
sized methods sizes = zip methods sizes

-- one past the greatest of some numbers, 0 where there are none
unfoldable pub end_by : {X : Type 0} → (X → ℕ) → List X → ℕ
end_by f [] = 0
end_by f (x ∷ xs) = max (f x + 1) (end_by f xs)

-- one past the greatest offset of some points
abbrev pub points_end : Option MethodPoints → ℕ
points_end None = 0
points_end (Some m) = end_by (λ (p : Point). p.offset) m.points

-- of those of the n-th row of MethodDebugInformation, n from 0
unfoldable pub row_end : Source → ℕ → ℕ
row_end s n = points_end (points_of s (nth_row tables.method_debug_information n))

-- of those of each row
unfoldable pub row_ends : Source → ℕ → List ℕ
row_ends s rows = map (row_end s) (below rows)

-- of those of a row, where it is good
unfoldable pub good_end : Source → ℕ → Option ℕ
good_end s n = if is_method s (nth_row tables.method_debug_information n) then Some (row_end s n) else None

-- that of each row where all are good, and a refusal at the first that isn't; want of memory tells nothing
abbrev pub GivesEnds : Source → Result (Vec ℕ Global) ReadFault → Type 0
GivesEnds s (Ok v) = (methods_fault s ≡ None)
    × (v.items ≡ row_ends s (rows_of s.layout tables.method_debug_information))
GivesEnds s (Err (Refused e)) = option_map refused_at (methods_fault s) ≡ Some e
GivesEnds s (Err Memory) = Unit {0}

-- the PDB of a delta, its tokens of MethodDebugInformation in EncMap, and the end of each row's points
pub record IsDelta (s : Source) (tokens : List Token) (ends : List ℕ) : Type 0 where
  pub good : IsGoodDelta s
  pub documents : documents_fault s ≡ None
  pub named : tokens ≡ named_tokens s
  pub few : length tokens < 2 ^ 24
  pub ended : ends ≡ row_ends s (rows_of s.layout tables.method_debug_information)

-- the document of a row, where it is good
unfoldable pub good_document : Source → Token → Option Document
good_document s row = if is_document s row then Some (document_of s row) else None

-- the size isn't known, or one of the points is past it
abbrev pub is_past_end : Option ℕ → ℕ → Bool
is_past_end None end = true
is_past_end (Some size) end = nat_lt size end
