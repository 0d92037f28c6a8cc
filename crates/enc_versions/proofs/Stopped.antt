-- Sets of offsets at which a frame may stop, one point after the other.
use Rattle.std.proofs.Common.{◌≡◌, ℕ, zero, suc, ◌+◌, ◌<◌, Bool, true, false, ◌&&◌, ◌||◌, cond, List, [], ◌∷◌, ◌++◌, length, take, Some, None, refl, sym, ap, ◌∙◌, subst, arith}
use Rattle.std.specs.Prelude.{Option, is_some, slice_get, find, ◌==◌, if◌then◌else◌}
use Rattle.std.specs.BTreeMap.{is_at}
use Rattle.std.specs.BTreeSet.{BTreeSet, contains, Updates, IsEmpty}
use Rattle.std.specs.Ordering.{nat_cmp}
use Rattle.std.proofs.lemmas.Bool.Decides.{nat_tests}
use Rattle.std.proofs.lemmas.List.Folds.{list_any-append}
use Rattle.enc_opcodes.specs.Body.{Code, is_instruction_start}
use Rattle.enc_opcodes.specs.Instruction.{instructions_of}
use Rattle.enc_seqpoints.specs.Grammar.{AreRising}
use Rattle.enc_seqpoints.specs.declared.point.Point.{Point}
use Rattle.enc_versions.specs.Stops.{stands_at, is_at_point, AreStops, KeepsStop}

same : (k q : ℕ) → is_at (nat_cmp k) q ≡ true → k ≡ q
same k q h = grind (arith, nat_tests, h)

differ : (k q : ℕ) → is_at (nat_cmp k) q ≡ false → (k == q) ≡ false
differ k q h = grind (arith, nat_tests, h)

or_true : (b : Bool) → (b || true) ≡ true
or_true true = refl
or_true false = refl

or_false : (b : Bool) → (b || false) ≡ b
or_false true = refl
or_false false = refl

and_false : (b : Bool) → (b && false) ≡ false
and_false true = refl
and_false false = refl

and_parts_of : (a b : Bool) → (a && b) ≡ true → (a ≡ true) × (b ≡ true)
and_parts_of true true h = (refl, refl)
and_parts_of true false h = absurd cc
and_parts_of false b h = absurd cc

kept_by : (starts : ℕ → Bool) (p : Point) (q : ℕ) (here old new : Bool) → is_at (nat_cmp p.offset) q ≡ here → new ≡ cond here true old
    → (starts p.offset && is_some p.lines) ≡ true → new ≡ (old || (starts q && stands_at q p))
kept_by starts p q true old new at is h =
    let e = same p.offset q at in
    let parts = and_parts_of (starts p.offset) (is_some p.lines) h in
    let begins : starts q ≡ true = subst (λ (n : ℕ). starts n ≡ true) e parts.0 in
    let stands : (p.offset == q) ≡ true = grind (arith, nat_tests, e) in
    is ∙ sym (rw (begins, stands, parts.1) (or_true old))
kept_by starts p q false old new at is h =
    is ∙ sym (rw (differ p.offset q at, and_false (starts q)) (or_false old))

-- the set with the offset of a point at which a frame may stop
pub stop_kept : (starts : ℕ → Bool) (p : Point) (old new : BTreeSet ℕ) → (starts p.offset && is_some p.lines) ≡ true → Updates nat_cmp old new p.offset true
    → KeepsStop starts p old new
stop_kept starts p old new h updates q = kept_by starts p q (is_at (nat_cmp p.offset) q) (contains nat_cmp old q) (contains nat_cmp new q) refl (updates.0 q) h

skipped_by : (starts : ℕ → Bool) (p : Point) (q : ℕ) (here : Bool) → (p.offset == q) ≡ here → (starts p.offset && is_some p.lines) ≡ false
    → (starts q && (here && is_some p.lines)) ≡ false
skipped_by starts p q true at h =
    let e : p.offset ≡ q = grind (arith, nat_tests, at) in subst (λ (n : ℕ). (starts n && is_some p.lines) ≡ false) e h
skipped_by starts p q false at h = and_false (starts q)

pub no_stop : (starts : ℕ → Bool) (p : Point) (old : BTreeSet ℕ) → (starts p.offset && is_some p.lines) ≡ false → KeepsStop starts p old old
no_stop starts p old h q =
    sym (ap (λ (b : Bool). contains nat_cmp old q || b) (skipped_by starts p q (p.offset == q) refl h) ∙ or_false (contains nat_cmp old q))

-- what is found among the first points
abbrev pub AreStopsUpto : (ℕ → Bool) → List Point → ℕ → BTreeSet ℕ → Type 0
AreStopsUpto starts points i stops = (offset : ℕ) → contains nat_cmp stops offset ≡ (starts offset && is_at_point (take i points) offset)

pub none_upto : (starts : ℕ → Bool) (points : List Point) (stops : BTreeSet ℕ) → IsEmpty stops → AreStopsUpto starts points 0 stops
none_upto starts points stops empty offset = rw empty (sym (and_false (starts offset)))

take_one : {A : Type 0} (xs : List A) (i : ℕ) (x : A) → slice_get xs i ≡ Some x → take (suc i) xs ≡ take i xs ++ x ∷ []
take_one [] i x h = absurd cc
take_one (y ∷ ys) zero x h = let e : y ≡ x = cc in ap (λ (z : _). z ∷ []) e
take_one (y ∷ ys) (suc i) x h = ap (λ (l : List _). y ∷ l) (take_one ys i x h)

both_ways : (s a b : Bool) → ((s && a) || (s && b)) ≡ (s && (a || (b || false)))
both_ways true true b = refl
both_ways true false true = refl
both_ways true false false = refl
both_ways false a b = refl

pub one_upto : (starts : ℕ → Bool) (points : List Point) (i n : ℕ) (p : Point) (old new : BTreeSet ℕ) → n ≡ i + 1 → slice_get points i ≡ Some p
    → AreStopsUpto starts points i old → KeepsStop starts p old new → AreStopsUpto starts points n new
one_upto starts points i n p old new is there before keeps offset =
    let next : n ≡ suc i = omega (arith, is) in
    keeps offset
    ∙ ap (λ (b : Bool). b || (starts offset && stands_at offset p)) (before offset)
    ∙ both_ways (starts offset) (is_at_point (take i points) offset) (stands_at offset p)
    ∙ ap (λ (b : Bool). starts offset && b) (sym (list_any-append (stands_at offset) (take i points) (p ∷ [])))
    ∙ ap (λ (l : List Point). starts offset && is_at_point l offset) (sym (ap (λ (k : ℕ). take k points) next ∙ take_one points i p there))

take_whole : {A : Type 0} (xs : List A) → take (length xs) xs ≡ xs
take_whole [] = refl
take_whole (x ∷ xs) = ap (λ (l : List _). x ∷ l) (take_whole xs)

pub all_upto : (starts : ℕ → Bool) (points : List Point) (n : ℕ) (stops : BTreeSet ℕ) → n ≡ length points → AreStopsUpto starts points n stops
    → (offset : ℕ) → contains nat_cmp stops offset ≡ (starts offset && is_at_point points offset)
all_upto starts points n stops is upto offset =
    upto offset ∙ ap (λ (l : List Point). starts offset && is_at_point l offset) (ap (λ (k : ℕ). take k points) is ∙ take_whole points)

empty_of : {A : Type 0} (xs : List A) → length xs ≡ 0 → xs ≡ []
empty_of [] h = refl
empty_of (x ∷ xs) h = absurd (omega (arith, h))

-- where there are no points
pub none_stop : (code : Code) (points : List Point) (stops : BTreeSet ℕ) → length points ≡ 0 → IsEmpty stops → AreStops code points stops
none_stop code points stops few empty offset =
    rw (empty, empty_of points few) (sym (and_false (is_instruction_start (instructions_of code.code) offset)))

-- and where there are some
pub marked_stop : (code : Code) (points : List Point) (starts : ℕ → Bool) (stops : BTreeSet ℕ)
    → ((t : ℕ) → starts t ≡ is_instruction_start (instructions_of code.code) t)
    → ((offset : ℕ) → contains nat_cmp stops offset ≡ (starts offset && is_at_point points offset)) → AreStops code points stops
marked_stop code points starts stops are found offset = found offset ∙ ap (λ (b : Bool). b && is_at_point points offset) (are offset)

-- all points stand past an offset
abbrev AreAllPast : ℕ → List Point → Type 0
AreAllPast offset ps = (i : ℕ) (q : Point) → slice_get ps i ≡ Some q → offset < q.offset

rest_rising : (p : Point) (ps : List Point) → AreRising (p ∷ ps) → AreRising ps
rest_rising p ps rise i j a b h at behind = rise (suc i) (suc j) a b (omega (arith, h)) at behind

rest_past : (p : Point) (ps : List Point) → AreRising (p ∷ ps) → AreAllPast p.offset ps
rest_past p ps rise j q at = rise 0 (suc j) p q (omega arith) refl at

is_past : (offset : ℕ) (p : Point) → offset < p.offset → (p.offset == offset) ≡ false
is_past offset p h = grind (arith, nat_tests, h)

none_past : (offset : ℕ) (ps : List Point) → AreAllPast offset ps → is_at_point ps offset ≡ false
none_past offset [] past = refl
none_past offset (p ∷ ps) past = rw (is_past offset p (past 0 p refl)) (none_past offset ps (λ i q at. past (suc i) q at))

-- what a point that is found tells
abbrev is_seen : Option Point → Bool
is_seen None = false
is_seen (Some p) = is_some p.lines

by_test : (offset : ℕ) (p : Point) (ps : List Point) (b : Bool) → (p.offset == offset) ≡ b → AreAllPast p.offset ps
    → is_at_point ps offset ≡ is_seen (find (λ (q : Point). q.offset == offset) ps)
    → ((b && is_some p.lines) || is_at_point ps offset) ≡ is_seen (if b then Some p else find (λ (q : Point). q.offset == offset) ps)
by_test offset p ps true e past next =
    let here : p.offset ≡ offset = grind (arith, nat_tests, e) in
    ap (λ (b : Bool). is_some p.lines || b) (none_past offset ps (subst (λ (n : ℕ). AreAllPast n ps) here past)) ∙ or_false (is_some p.lines)
by_test offset p ps false e past next = next

point_is : (offset : ℕ) (ps : List Point) → AreRising ps → is_at_point ps offset ≡ is_seen (find (λ (p : Point). p.offset == offset) ps)
point_is offset [] rise = refl
point_is offset (p ∷ ps) rise = by_test offset p ps (p.offset == offset) refl (rest_past p ps rise) (point_is offset ps (rest_rising p ps rise))

-- no point is found at an offset, and one is
pub not_at_point : (offset : ℕ) (ps : List Point) → AreRising ps → None ≡ find (λ (p : Point). p.offset == offset) ps → is_at_point ps offset ≡ false
not_at_point offset ps rise is = point_is offset ps rise ∙ ap is_seen (sym is)

pub at_point : (offset : ℕ) (ps : List Point) (p : Point) → AreRising ps → Some p ≡ find (λ (q : Point). q.offset == offset) ps
    → is_at_point ps offset ≡ is_some p.lines
at_point offset ps p rise is = point_is offset ps rise ∙ ap is_seen (sym is)
