-- What the sequence points of a stated body say.
use Rattle.std.specs.Prelude.{ℕ, List, [], ◌∷◌, Option, Some, None, option_map, option_and_then, is_some, slice_get, codes, if◌then◌else◌}
use Rattle.serde_json.specs.Data.{Data}
use Rattle.serde_json.specs.Find.{get, as_bool}
use Rattle.enc_seqpoints.specs.declared.point.Point.{Point}
use Rattle.enc_opcodes.specs.Instruction.{◌>>=◌}
use Rattle.enc_jobs.specs.Json.{elements_of, has_only, pair_said, word_said}

-- the offset of the instruction with the index at the key `at`
unfoldable pub at_said : List ℕ → Data → Option ℕ
at_said starts d = (get (codes "at") d >>= word_said) >>= slice_get starts

-- a hidden point of this document
unfoldable pub hidden_said : List ℕ → ℕ → Data → Option Point
hidden_said starts document d = if has_only (codes "at" ∷ codes "hidden" ∷ []) d then (do
  offset ← at_said starts d
  hidden ← get (codes "hidden") d >>= as_bool
  if hidden then Some (record { offset = offset; document = document; lines = None }) else None) else None

-- a point with its document and lines
unfoldable pub shown_said : List ℕ → Data → Option Point
shown_said starts d = if has_only (codes "at" ∷ codes "document" ∷ codes "from" ∷ codes "to" ∷ []) d then (do
  offset ← at_said starts d
  document ← get (codes "document") d >>= word_said
  from ← get (codes "from") d >>= pair_said
  to ← get (codes "to") d >>= pair_said
  Some (record { offset = offset; document = document; lines = Some (from.0, from.1, to.0, to.1) })) else None

-- a point behind one of this document
unfoldable pub point_said : List ℕ → ℕ → Data → Option Point
point_said starts document d =
    if is_some (get (codes "hidden") d) then hidden_said starts document d else shown_said starts d

-- the points behind one of this document: each hidden one is of the document of the point before it
unfoldable pub points_from : List ℕ → ℕ → List Data → Option (List Point)
points_from starts document [] = Some []
points_from starts document (d ∷ ds) =
    option_and_then (λ (p : Point). option_map (λ ps. p ∷ ps) (points_from starts p.document ds))
    (point_said starts document d)

-- the points of a method, whose instructions begin here; the first may be a hidden one of document 1
unfoldable pub points_said : List ℕ → Option Data → Option (List Point)
points_said starts None = Some []
points_said starts (Some d) = elements_of d >>= points_from starts 1
