-- The offsets of points that are read rise.
use Rattle.std.proofs.Common.{◌≡◌, ℕ, zero, suc, ◌+◌, ◌<◌, ◌≤◌, Bool, true, false, List, [], ◌∷◌, length, Option, Some, None, refl, sym, subst, ap, ◌∙◌, get_or, ⊎_elim, arith}
use Rattle.std.specs.Prelude.{slice_get, find, option_map, option_and_then, is_some, nat_lt, ◌==◌, ◌&&◌, if◌then◌else◌}
use Rattle.std.proofs.lemmas.Bool.Decides.{nat_tests}
use Rattle.std.proofs.lemmas.Option.{slice_get_read, slice_get_within, get_or_from_slice_get}
use Rattle.std.proofs.lemmas.List.{get_or_default}
use Rattle.std.proofs.lemmas.Bool.{cases_lt}
use Rattle.std.specs.Ordering.{ordering_index, nat_cmp}
use Rattle.std.specs.List.Sorted.{IsNonDecreasingBy, IsPartitionPoint}
use Rattle.std.specs.declared.cmp.Ordering.TheVariants.{Less, Greater}
use Rattle.enc_seqpoints.specs.declared.point.Point.{Point}
use Rattle.enc_seqpoints.specs.declared.base.Base.{Base}
use Rattle.enc_seqpoints.specs.declared.base.Record.{Record}
use Rattle.enc_seqpoints.specs.declared.base.Record.TheVariants.{Document, Sequence}
use Rattle.enc_base.specs.Readers.{number_in}
use Rattle.enc_seqpoints.specs.Grammar.{AreRising, point_in, begun_in, record_in, records_in, with_record, after, offset_from, lines_in, document_row_in}

-- each point is past those before it, and the first at least here
RiseFrom : ℕ → List Point → Type 0
RiseFrom least [] = Unit {0}
RiseFrom least (p ∷ points) = (least ≤ p.offset) × RiseFrom (p.offset + 1) points

-- the least offset of a point behind what stands before it
abbrev least_of : Option ℕ → ℕ
least_of None = 0
least_of (Some before) = before + 1

-- a point that is read stands here
abbrev StandsAt : ℕ → Record → Type 0
StandsAt offset (Document row) = ⊥
StandsAt offset (Sequence p) = p.offset ≡ offset

-- a record that is read stands at least here
abbrev StandsFrom : ℕ → Record → Type 0
StandsFrom least (Document row) = Unit {0}
StandsFrom least (Sequence p) = least ≤ p.offset

first_is : {A B : Type 0} (p q : A × B) → Some p ≡ Some q → p.0 ≡ q.0
first_is {A} {B} p q is = let e : p ≡ q = cc in ap (λ (x : A × B). x.0) e

with_lines : (offset document : ℕ) (o : Option (Option (ℕ × ℕ × ℕ × ℕ) × List ℕ)) (r : Record) (rest : List ℕ)
    → option_map {U = Record × List ℕ} (λ (x : Option (ℕ × ℕ × ℕ × ℕ) × List ℕ). (Sequence (record { offset = offset; document = document; lines = x.0 }), x.1)) o ≡ Some (r, rest) → StandsAt offset r
with_lines offset document None r rest is = absurd cc
with_lines offset document (Some x) r rest is =
    subst (λ y. StandsAt offset y) (first_is {A = Record} {B = List ℕ} (Sequence (record { offset = offset; document = document; lines = x.0 }), x.1) (r, rest) is) refl

point_stands : (b : Base) (offset : ℕ) (few : Bool) (bytes : List ℕ) (r : Record) (rest : List ℕ)
    → (if few then option_map {U = Record × List ℕ} (λ (x : Option (ℕ × ℕ × ℕ × ℕ) × List ℕ). (Sequence (record { offset = offset; document = b.document; lines = x.0 }), x.1)) (lines_in b.start bytes) else None) ≡ Some (r, rest)
    → StandsAt offset r
point_stands b offset true bytes r rest is = with_lines offset b.document (lines_in b.start bytes) r rest is
point_stands b offset false bytes r rest is = absurd cc

point_at : (b : Base) (offset : ℕ) (bytes : List ℕ) (r : Record) (rest : List ℕ) → point_in b offset bytes ≡ Some (r, rest) → StandsAt offset r
unfolding point_in
point_at b offset bytes r rest is = point_stands b offset (nat_lt offset 0x20000000) bytes r rest is

at_least : (least offset : ℕ) (r : Record) → least ≤ offset → StandsAt offset r → StandsFrom least r
at_least least offset (Document row) h at = tt
at_least least offset (Sequence p) h at = rw at h

document_from : (least : ℕ) (o : Option (ℕ × List ℕ)) (r : Record) (rest : List ℕ) → option_map {U = Record × List ℕ} (λ (x : ℕ × List ℕ). (Document x.0, x.1)) o ≡ Some (r, rest) → StandsFrom least r
document_from least None r rest is = absurd cc
document_from least (Some x) r rest is = subst (λ y. StandsFrom least y) (first_is {A = Record} {B = List ℕ} (Document x.0, x.1) (r, rest) is) tt

begun_from : (b : Base) (before : Option ℕ) (difference : ℕ) (is_zero : Bool) (bytes : List ℕ) (r : Record) (rest : List ℕ) → (difference == 0) ≡ is_zero
    → (if is_some before && is_zero then option_map {U = Record × List ℕ} (λ (x : ℕ × List ℕ). (Document x.0, x.1)) (document_row_in bytes) else point_in b (offset_from before difference) bytes) ≡ Some (r, rest)
    → StandsFrom (least_of before) r
begun_from b None difference is_zero bytes r rest same is = at_least 0 difference r (omega arith) (point_at b difference bytes r rest is)
begun_from b (Some o) difference true bytes r rest same is = document_from (o + 1) (document_row_in bytes) r rest is
begun_from b (Some o) difference false bytes r rest same is = at_least (o + 1) (o + difference) r (grind (arith, nat_tests, same)) (point_at b (o + difference) bytes r rest is)

begun_stands : (b : Base) (difference : ℕ) (bytes : List ℕ) (r : Record) (rest : List ℕ) → begun_in b difference bytes ≡ Some (r, rest) → StandsFrom (least_of b.offset) r
unfolding begun_in
begun_stands b difference bytes r rest is = begun_from b b.offset difference (difference == 0) bytes r rest refl is

behind_number : (b : Base) (o : Option (ℕ × List ℕ)) (r : Record) (rest : List ℕ) → option_and_then (λ (p : ℕ × List ℕ). begun_in b p.0 p.1) o ≡ Some (r, rest) → StandsFrom (least_of b.offset) r
behind_number b None r rest is = absurd cc
behind_number b (Some p) r rest is = begun_stands b p.0 p.1 r rest is

record_stands : (b : Base) (bytes : List ℕ) (r : Record) (rest : List ℕ) → record_in b bytes ≡ Some (r, rest) → StandsFrom (least_of b.offset) r
unfolding record_in
record_stands b bytes r rest is = behind_number b (number_in bytes) r rest is

-- the points of one record more
one_more : (b : Base) (r : Record) (more points : List Point) → StandsFrom (least_of b.offset) r → RiseFrom (least_of (after b r).offset) more → with_record r more ≡ points → RiseFrom (least_of b.offset) points
unfolding RiseFrom after
one_more b (Document row) more points at rise is = subst (λ ps. RiseFrom (least_of b.offset) ps) is rise
one_more b (Sequence p) more points at rise is = subst (λ ps. RiseFrom (least_of b.offset) ps) is (at, rise)

behind_points : (n : ℕ) (b : Base) (bytes : List ℕ) (r : Record × List ℕ) (o : Option (List Point)) (points : List Point) → record_in b bytes ≡ Some r
    → ((ps : List Point) → o ≡ Some ps → RiseFrom (least_of (after b r.0).offset) ps) → option_map (with_record r.0) o ≡ Some points → RiseFrom (least_of b.offset) points
behind_points n b bytes r None points read rise is = absurd cc
behind_points n b bytes r (Some ps) points read rise is =
    let e : with_record r.0 ps ≡ points = cc in
    one_more b r.0 ps points (record_stands b bytes r.0 r.1 read) (rise ps refl) e

behind_record : (n : ℕ) (b : Base) (bytes : List ℕ) (o : Option (Record × List ℕ)) (points : List Point) → record_in b bytes ≡ o
    → ((c : Base) (rest : List ℕ) (ps : List Point) → records_in n c rest ≡ Some ps → RiseFrom (least_of c.offset) ps)
    → option_and_then (λ (r : Record × List ℕ). option_map (with_record r.0) (records_in n (after b r.0) r.1)) o ≡ Some points → RiseFrom (least_of b.offset) points
behind_record n b bytes None points read rise is = absurd cc
behind_record n b bytes (Some r) points read rise is = behind_points n b bytes r (records_in n (after b r.0) r.1) points read (rise (after b r.0) r.1) is

records_rise : (n : ℕ) (b : Base) (bytes : List ℕ) (points : List Point) → records_in n b bytes ≡ Some points → RiseFrom (least_of b.offset) points
unfolding records_in RiseFrom
records_rise n b [] points is = let e : [] ≡ points = cc in subst (λ ps. RiseFrom (least_of b.offset) ps) e tt
records_rise zero b (x ∷ bytes) points is = absurd cc
records_rise (suc n) b (x ∷ bytes) points is = behind_record n b (x ∷ bytes) (record_in b (x ∷ bytes)) points refl (λ c rest ps more. records_rise n c rest ps more) is

-- all points stand past what they rise from
past_least : (least j : ℕ) (points : List Point) (q : Point) → RiseFrom least points → slice_get points j ≡ Some q → least ≤ q.offset
unfolding RiseFrom
past_least least j [] q rise at = absurd cc
past_least least zero (p ∷ points) q rise at = let e : p ≡ q = cc in subst (λ (x : Point). least ≤ x.offset) e rise.0
past_least least (suc j) (p ∷ points) q rise at = let h = past_least (p.offset + 1) j points q rise.1 at in let k = rise.0 in omega (arith, h, k)

rising : (least : ℕ) (points : List Point) → RiseFrom least points → AreRising points
unfolding RiseFrom
rising least [] rise i j p q h at behind = absurd cc
rising least (x ∷ points) rise i zero p q h at behind = absurd (omega (arith, h))
rising least (x ∷ points) rise zero (suc j) p q h at behind =
    let e : x ≡ p = cc in let k = past_least (x.offset + 1) j points q rise.1 behind in subst (λ (y : Point). y.offset < q.offset) e (omega (arith, k))
rising least (x ∷ points) rise (suc i) (suc j) p q h at behind = rising (x.offset + 1) points rise.1 i j p q (omega (arith, h)) at behind

pub records_rising : (n : ℕ) (b : Base) (bytes : List ℕ) (points : List Point) → records_in n b bytes ≡ Some points → AreRising points
records_rising n b bytes points is = rising (least_of b.offset) points (records_rise n b bytes points is)

pub none_rising : AreRising []
none_rising i j p q h at behind = absurd cc

-- the point that is found by halves
not_before : (points : List Point) (x : Point) (offset i : ℕ) (p : Point) → AreRising (x ∷ points) → slice_get points i ≡ Some p → p.offset ≡ offset → (x.offset == offset) ≡ false
not_before points x offset i p rise at is = let h = rise 0 (suc i) x p (omega arith) refl at in grind (arith, nat_tests, h, is)

behind_rise : (x : Point) (points : List Point) → AreRising (x ∷ points) → AreRising points
behind_rise x points rise i j p q h at behind = rise (suc i) (suc j) p q (omega (arith, h)) at behind

pub found : (points : List Point) (offset i : ℕ) (p : Point) → AreRising points → slice_get points i ≡ Some p → p.offset ≡ offset → Some p ≡ find (λ (q : Point). q.offset == offset) points
found [] offset i p rise at is = absurd cc
found (x ∷ points) offset zero p rise at is =
    let e : x ≡ p = cc in
    let there : (x.offset == offset) ≡ true = let o : x.offset ≡ p.offset = ap (λ (y : Point). y.offset) e in grind (arith, nat_tests, o, is) in
    rw there (ap Some (sym e))
found (x ∷ points) offset (suc i) p rise at is = rw (not_before points x offset i p rise at is) (found points offset i p (behind_rise x points rise) at is)

pub not_found : (points : List Point) (offset : ℕ) → ((i : ℕ) (p : Point) → slice_get points i ≡ Some p → (p.offset == offset) ≡ false) → None ≡ find (λ (q : Point). q.offset == offset) points
not_found [] offset none = refl
not_found (x ∷ points) offset none = rw (none 0 x refl) (not_found points offset (λ i p at. none (suc i) p at))

higher : (offset a b : ℕ) → a ≤ b → ordering_index (nat_cmp a offset) ≤ ordering_index (nat_cmp b offset)
higher offset a b le = grind (arith, nat_tests)

-- a search by halves asks that offsets don't fall
pub searchable : (points : List Point) (offset : ℕ) → AreRising points → IsNonDecreasingBy (λ (p : Point). ordering_index (nat_cmp p.offset offset)) points
searchable points offset rise i j d le low =
    ⊎_elim
    (λ lt. let up = rise i j (get_or points i d) (get_or points j d) lt (slice_get_read points (length points) i (get_or points i d) refl (omega (arith, lt, low)) (get_or_default points i d (get_or points i d) (omega (arith, lt, low)))) (slice_get_read points (length points) j (get_or points j d) refl low (get_or_default points j d (get_or points j d) low)) in
    higher offset (get_or points i d).offset (get_or points j d).offset (omega (arith, up)))
    (λ ge. let same : i ≡ j = omega (arith, le, ge) in subst (λ k. ordering_index (nat_cmp (get_or points i d).offset offset) ≤ ordering_index (nat_cmp (get_or points k d).offset offset)) same (omega arith))
    (cases_lt i j)

-- what stands before the place that a search names is less, and what stands from there on greater
pub none_there : (points : List Point) (offset i : ℕ) → IsPartitionPoint (λ (p : Point). nat_cmp p.offset offset ≡ Less) (λ (p : Point). nat_cmp p.offset offset ≡ Greater) points i
    → (k : ℕ) (p : Point) → slice_get points k ≡ Some p → (p.offset == offset) ≡ false
none_there points offset i parted k p at =
    let low : k < length points = slice_get_within points k p at in
    let is : get_or points k p ≡ p = get_or_from_slice_get points k p p at in
    ⊎_elim
    (λ lt. let is_less = parted.0 k p (omega arith) lt in let o : nat_cmp p.offset offset ≡ Less = ap (λ (q : Point). nat_cmp q.offset offset) (sym is) ∙ is_less in grind (arith, nat_tests, o))
    (λ ge. let is_greater = parted.1 k p ge low in let o : nat_cmp p.offset offset ≡ Greater = ap (λ (q : Point). nat_cmp q.offset offset) (sym is) ∙ is_greater in grind (arith, nat_tests, o))
    (cases_lt k i)
