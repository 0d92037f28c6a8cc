-- The line at an offset, of points whose offsets rise: the point that is found there tells it.
use Rattle.std.proofs.Common.{◌≡◌, ℕ, suc, ◌<◌, Bool, true, false, List, [], ◌∷◌, map, Option, Some, None, refl, sym, ap, ◌∙◌, subst, arith}
use Rattle.std.specs.Prelude.{slice_get, find, option_map, ◌==◌, if◌then◌else◌}
use Rattle.std.proofs.lemmas.Bool.Decides.{nat_tests}
use Rattle.enc_seqpoints.specs.Grammar.{AreRising}
use Rattle.enc_seqpoints.specs.declared.point.Point.{Point}
use Rattle.enc_frames.specs.Lines.{line_among}

-- a point as a definition sees it
abbrev pub point_seen : Point → ℕ × Option (ℕ × ℕ × ℕ × ℕ)
point_seen p = (p.offset, p.lines)

-- what a point that is found tells
abbrev pub line_found : Option Point → Option ℕ
line_found None = None
line_found (Some p) = option_map (λ (l : ℕ × ℕ × ℕ × ℕ). l.0) p.lines

-- all points stand past an offset
abbrev AreAllPast : ℕ → List Point → Type 0
AreAllPast offset ps = (i : ℕ) (q : Point) → slice_get ps i ≡ Some q → offset < q.offset

rest_rising : (p : Point) (ps : List Point) → AreRising (p ∷ ps) → AreRising ps
rest_rising p ps rise i j a b h at behind = rise (suc i) (suc j) a b (omega (arith, h)) at behind

rest_past : (p : Point) (ps : List Point) → AreRising (p ∷ ps) → AreAllPast p.offset ps
rest_past p ps rise j q at = rise 0 (suc j) p q (omega arith) refl at

is_past : (offset : ℕ) (p : Point) → offset < p.offset → (p.offset == offset) ≡ false
is_past offset p h = grind (arith, nat_tests, h)

passed : (offset : ℕ) (p : Point) (o : Option (ℕ × ℕ × ℕ × ℕ)) (rest : List (ℕ × Option (ℕ × ℕ × ℕ × ℕ)))
    → (p.offset == offset) ≡ false → line_among offset ((p.offset, o) ∷ rest) ≡ line_among offset rest
unfolding line_among
passed offset p None rest e = refl
passed offset p (Some lines) rest e = ap (λ (t : Bool). if t then Some lines.0 else line_among offset rest) e

none_past : (offset : ℕ) (ps : List Point) → AreAllPast offset ps → line_among offset (map point_seen ps) ≡ None
unfolding line_among
none_past offset [] past = refl
none_past offset (p ∷ ps) past =
    passed offset p p.lines (map point_seen ps) (is_past offset p (past 0 p refl)) ∙ none_past offset ps (λ i q at. past (suc i) q at)

same_offset : (p : Point) (offset : ℕ) → (p.offset == offset) ≡ true → p.offset ≡ offset
same_offset p offset e = grind (arith, nat_tests, e)

there : (offset : ℕ) (p : Point) (ps : List Point) (o : Option (ℕ × ℕ × ℕ × ℕ)) → p.lines ≡ o → (p.offset == offset) ≡ true → AreAllPast p.offset ps
    → line_among offset ((p.offset, o) ∷ map point_seen ps) ≡ line_found (Some p)
unfolding line_among
there offset p ps None is e past =
    none_past offset ps (subst (λ (n : ℕ). AreAllPast n ps) (same_offset p offset e) past)
    ∙ sym (ap (option_map (λ (l : ℕ × ℕ × ℕ × ℕ). l.0)) is)
there offset p ps (Some lines) is e past =
    ap (λ (t : Bool). if t then Some lines.0 else line_among offset (map point_seen ps)) e
    ∙ sym (ap (option_map (λ (l : ℕ × ℕ × ℕ × ℕ). l.0)) is)

by_test : (offset : ℕ) (p : Point) (ps : List Point) (b : Bool) → (p.offset == offset) ≡ b → AreAllPast p.offset ps
    → line_among offset (map point_seen ps) ≡ line_found (find (λ (q : Point). q.offset == offset) ps)
    → line_among offset (point_seen p ∷ map point_seen ps) ≡ line_found (if b then Some p else find (λ (q : Point). q.offset == offset) ps)
by_test offset p ps true e past next = there offset p ps p.lines refl e past
by_test offset p ps false e past next = passed offset p p.lines (map point_seen ps) e ∙ next

-- the line at an offset
pub line_is : (offset : ℕ) (ps : List Point) → AreRising ps → line_among offset (map point_seen ps) ≡ line_found (find (λ (p : Point). p.offset == offset) ps)
unfolding line_among
line_is offset [] rise = refl
line_is offset (p ∷ ps) rise =
    by_test offset p ps (p.offset == offset) refl (rest_past p ps rise) (line_is offset ps (rest_rising p ps rise))

-- where none is found, where a hidden one is, and where another is
pub none_found : (offset : ℕ) (ps : List Point) → AreRising ps → None ≡ find (λ (p : Point). p.offset == offset) ps → line_among offset (map point_seen ps) ≡ None
none_found offset ps rise is = line_is offset ps rise ∙ ap line_found (sym is)

pub point_found : (offset : ℕ) (ps : List Point) (p : Point) (o : Option (ℕ × ℕ × ℕ × ℕ)) → AreRising ps
    → Some p ≡ find (λ (q : Point). q.offset == offset) ps → p.lines ≡ o
    → line_among offset (map point_seen ps) ≡ option_map (λ (l : ℕ × ℕ × ℕ × ℕ). l.0) o
point_found offset ps p o rise is lines =
    line_is offset ps rise ∙ ap line_found (sym is) ∙ ap (option_map (λ (l : ℕ × ℕ × ℕ × ℕ). l.0)) lines
