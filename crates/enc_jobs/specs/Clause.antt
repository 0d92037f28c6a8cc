-- What an exception clause of a stated body says (ECMA-335 II.25.4.6).
use Rattle.std.specs.Prelude.{ℕ, List, [], ◌∷◌, ◌++◌, Option, Some, None, slice_get, bytes_eq, codes, if◌then◌else◌}
use Rattle.serde_json.specs.Data.{Data}
use Rattle.serde_json.specs.Find.{get, as_str}
use Rattle.enc_opcodes.specs.declared.code.Clause.{Clause}
use Rattle.enc_opcodes.specs.Instruction.{◌>>=◌}
use Rattle.enc_jobs.specs.declared.code.Offsets.{Offsets}
use Rattle.enc_jobs.specs.Lists.{every}
use Rattle.enc_jobs.specs.Json.{elements_of, has_only, word_said, token_number_said}

-- the offset of the instruction with an index
unfoldable pub start_said : Offsets → Data → Option ℕ
start_said offsets d = word_said d >>= slice_get offsets.starts

-- the offset of one past the last, by its index: that of an instruction, or the code's size
unfoldable pub end_said : Offsets → Data → Option ℕ
end_said offsets d = word_said d >>= slice_get (offsets.starts ++ offsets.size ∷ [])

-- two indices
abbrev pub range_in : Offsets → List Data → Option (ℕ × ℕ)
range_in offsets (a ∷ b ∷ []) = do
  first ← start_said offsets a
  end ← end_said offsets b
  Some (first, end)
range_in offsets _ = None

-- an array of the index of the first and of one past the last
unfoldable pub range_said : Offsets → Data → Option (ℕ × ℕ)
range_said offsets d = elements_of d >>= range_in offsets

-- a clause with what its kind adds
unfoldable pub clause_with : Offsets → Data → ℕ → ℕ → Option Clause
clause_with offsets d kind extra = do
  tries ← get (codes "try") d >>= range_said offsets
  handler ← get (codes "handler") d >>= range_said offsets
  Some (record { kind = kind; tries = tries; handler = handler; extra = extra })

-- a clause that catches a class
unfoldable pub catch_said : Offsets → Data → Option Clause
catch_said offsets d = if has_only (codes "kind" ∷ codes "try" ∷ codes "handler" ∷ codes "class" ∷ []) d
    then (get (codes "class") d >>= token_number_said) >>= clause_with offsets d 0 else None

-- a clause with a filter, which an instruction begins
unfoldable pub filter_said : Offsets → Data → Option Clause
filter_said offsets d = if has_only (codes "kind" ∷ codes "try" ∷ codes "handler" ∷ codes "filter" ∷ []) d
    then (get (codes "filter") d >>= start_said offsets) >>= clause_with offsets d 1 else None

-- a clause with neither
unfoldable pub plain_said : Offsets → ℕ → Data → Option Clause
plain_said offsets kind d = if has_only (codes "kind" ∷ codes "try" ∷ codes "handler" ∷ []) d
    then clause_with offsets d kind 0 else None

-- a clause by the name of its kind, of which there are these four
abbrev pub clause_of_kind : Offsets → Data → List ℕ → Option Clause
clause_of_kind offsets d kind =
    if bytes_eq kind (codes "catch") then catch_said offsets d
    else if bytes_eq kind (codes "filter") then filter_said offsets d
    else if bytes_eq kind (codes "finally") then plain_said offsets 2 d
    else if bytes_eq kind (codes "fault") then plain_said offsets 4 d
    else None

-- a clause, its kind by its name
unfoldable pub clause_said : Offsets → Data → Option Clause
clause_said offsets d = (get (codes "kind") d >>= as_str) >>= clause_of_kind offsets d

-- the clauses of a body
unfoldable pub clauses_said : Offsets → Data → Option (List Clause)
clauses_said offsets d = elements_of d >>= every (clause_said offsets)
