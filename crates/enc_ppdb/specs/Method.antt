-- For the contracts of private functions: the row of a method that is written (Portable PDB v1.0,
-- MethodDebugInformation Table).
use Rattle.std.specs.Prelude.{ℕ, ◌==◌, List, [], ◌∷◌, if◌then◌else◌}
use Rattle.std.specs.List.{list_all}
use Rattle.enc_seqpoints.specs.declared.point.Point.{Point}

-- the document of all points, 0 where they have several, or none is there
unfoldable pub one_document : List Point → ℕ
one_document [] = 0
one_document (p ∷ points) = if list_all (λ (q : Point). q.document == p.document) (p ∷ points) then p.document else 0
