-- Points apart from their documents are those of the file, whatever its documents are.
use Rattle.std.proofs.Common.{◌≡◌, ℕ, List, [], ◌∷◌, Option, refl, ap, ◌∙◌}
use Rattle.std.specs.Prelude.{map}
use Rattle.enc_plain.specs.Debug.{Document, MethodDebug, PlainPoint, plain_point, debug_of}
use Rattle.enc_seqpoints.specs.Grammar.{MethodPoints}
use Rattle.enc_seqpoints.specs.declared.point.Point.{Point}
use Rattle.enc_versions.specs.StandFor.{lines_read, lines_known}

abbrev Place : Type 0
Place = ℕ × Option (ℕ × ℕ × ℕ × ℕ)

same : (documents : ℕ → Option Document) (points : List Point) → map {B = Place} (λ (p : Point). (p.offset, p.lines)) points ≡ map {B = Place} (λ (p : PlainPoint). (p.offset, p.lines)) (map (plain_point documents) points)
same documents [] = refl
same documents (p ∷ rest) = ap (λ (ls : List Place). (p.offset, p.lines) ∷ ls) (same documents rest)

pub read_as_known : (documents : ℕ → Option Document) (m : MethodPoints) → lines_read m ≡ lines_known (debug_of documents m)
unfolding debug_of
read_as_known documents m = ap (λ ls. record { locals = m.locals; points = ls }) (same documents m.points)

pub known_as_read : (documents : ℕ → Option Document) (m said : MethodPoints) (d : MethodDebug) → debug_of documents said ≡ d → m ≡ said → lines_read m ≡ lines_known d
known_as_read documents m said d knows e = ap lines_read e ∙ read_as_known documents said ∙ ap lines_known knows
