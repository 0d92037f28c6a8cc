-- The first point that can't be written.
use Rattle.std.proofs.Common.{◌≡◌, ℕ, zero, suc, ◌+◌, ◌<◌, Bool, true, false, List, [], ◌∷◌, length, take, Some, refl, ap, sym, subst, ◌∙◌, arith}
use Rattle.std.specs.Prelude.{◌≢◌, is_ok, Result, Ok, Err}
use Rattle.enc_seqpoints.specs.declared.point.Point.{Point}
use Rattle.enc_seqpoints.specs.declared.base.Base.{Base}
use Rattle.enc_seqpoints.specs.declared.base.Record.TheVariants.{Sequence}
use Rattle.enc_seqpoints.specs.Grammar.{after, opened, points_in, method_points}
use Rattle.enc_seqpoints.specs.Spelling.{is_writable, point_bytes, preceded, records_of, first_document, header_bytes, blob_of}
use Rattle.enc_seqpoints.specs.Laws.{ReadIsWritable, FirstIsNamed}
use Rattle.enc_seqpoints.proofs.Writing.{stopped, records_first, records_stop}

-- the records of the points before it can be written, and not those with it
abbrev Stops : ℕ → Base → List Point → Type 0
Stops i b points = (i < length points) × (is_ok (records_of b (take i points)) ≡ true) × (records_of b (take (suc i) points) ≡ Err i)

none_ok : (b : Base) → is_ok (records_of b []) ≡ true
unfolding records_of
none_ok b = refl

behind_one : (front : List ℕ) (r : Result (List ℕ) ℕ) (i : ℕ) → preceded 1 front r ≡ Err i → (k : ℕ) × (r ≡ Err k) × (suc k ≡ i)
behind_one front (Ok bytes) i e = absurd (cc)
behind_one front (Err k) i e =
    let f : 1 + k ≡ i = cc in
    (k, refl, omega (arith, f))

ok_one : (front : List ℕ) (r : Result (List ℕ) ℕ) → is_ok r ≡ true → is_ok (preceded 1 front r) ≡ true
ok_one front (Ok bytes) e = refl
ok_one front (Err k) e = absurd (cc)

later : (b : Base) (p : Point) (points : List Point) (k : ℕ) → is_writable b p ≡ true → Stops k (after b (Sequence p)) points → Stops (suc k) b (p ∷ points)
later b p points k can h =
    let lt : suc k < suc (length points) = omega (arith, h.0) in
    let sum : 1 + k ≡ suc k = omega arith in
    (lt, ap is_ok (records_first b p (take k points) can) ∙ ok_one (point_bytes b p) (records_of (after b (Sequence p)) (take k points)) h.1, records_first b p (take (suc k) points) can ∙ ap (preceded 1 (point_bytes b p)) h.2 ∙ ap Err sum)

stops_by : (b : Base) (p : Point) (points : List Point) (i : ℕ) (can : Bool) → is_writable b p ≡ can → ((k : ℕ) → records_of (after b (Sequence p)) points ≡ Err k → Stops k (after b (Sequence p)) points) → records_of b (p ∷ points) ≡ Err i → Stops i b (p ∷ points)
stops_by b p points i true can all e =
    let h = behind_one (point_bytes b p) (records_of (after b (Sequence p)) points) i (sym (records_first b p points can) ∙ e) in
    subst (λ j. Stops j b (p ∷ points)) h.2 (later b p points h.0 can (all h.0 h.1))
stops_by b p points i false can all e =
    let f : Err 0 ≡ Err i = sym (records_stop b p points can) ∙ e in
    let g : 0 ≡ i = cc in
    subst (λ j. Stops j b (p ∷ points)) g (omega arith, none_ok b, records_stop b p [] can)

stops : (points : List Point) (b : Base) (i : ℕ) → records_of b points ≡ Err i → Stops i b points
stops [] b i e = absurd (let f = none_ok b in cc)
stops (p ∷ points) b i e = stops_by b p points i (is_writable b p) refl (stops points (after b (Sequence p))) e

-- the document that is said at first depends on the first point alone
first_take : (document i : ℕ) (points : List Point) → first_document document (take (suc i) points) ≡ first_document document points
unfolding first_document
first_take document i [] = refl
first_take document i (p ∷ points) = refl

ok_behind : (front : List ℕ) (r : Result (List ℕ) ℕ) → is_ok r ≡ true → is_ok (preceded 0 front r) ≡ true
ok_behind front (Ok bytes) e = refl
ok_behind front (Err i) e = absurd (cc)

before_ok : (locals document i : ℕ) (points : List Point) → is_ok (records_of (opened (first_document document points)) (take i points)) ≡ true → is_ok (blob_of locals document (take i points)) ≡ true
unfolding blob_of
before_ok locals document zero points e = ok_behind (header_bytes locals document (first_document document [])) (records_of (opened (first_document document [])) []) (none_ok (opened (first_document document [])))
before_ok locals document (suc i) points e =
    let first = first_document document (take (suc i) points) in
    ok_behind (header_bytes locals document first) (records_of (opened first) (take (suc i) points)) (rw (first_take document i points) e)

stopped_blob : (locals document i : ℕ) (points : List Point) → records_of (opened (first_document document points)) (take (suc i) points) ≡ Err i → is_ok (blob_of locals document (take (suc i) points)) ≡ false
unfolding blob_of
stopped_blob locals document i points e = rw (first_take document i points, e) refl

no_blob : (document i : ℕ) (points : List Point) → ReadIsWritable → records_of (opened (first_document document points)) (take (suc i) points) ≡ Err i → (bytes : List ℕ) (any : ℕ) → points_in document bytes ≢ Some (method_points any (take (suc i) points))
no_blob document i points read e bytes any is =
    let good = (read document bytes (method_points any (take (suc i) points)) is).1 in
    let bad = stopped_blob any document i points e in
    absurd (cc)

pub first_named : ReadIsWritable → FirstIsNamed
unfolding blob_of
first_named read locals document i points e =
    let first = first_document document points in
    let h = stops points (opened first) i (stopped (header_bytes locals document first) (records_of (opened first) points) i e) in
    let next : i + 1 ≡ suc i = omega arith in
    (h.0, before_ok locals document i points h.1, rw next (no_blob document i points read h.2))
