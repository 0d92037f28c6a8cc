-- The points of a method, each behind the one before it.
use Rattle.std.proofs.Common.{◌≡◌, ℕ, ◌+◌, ◌<◌, ◌≤◌, List, [], ◌∷◌, ◌++◌, length, get_or, drop, map, Option, Some, None, Err, refl, sym, ap, ◌∙◌, append-nil}
use Rattle.std.proofs.lemmas.List.{drop_all}
use Rattle.serde_json.specs.Data.{Data}
use Rattle.enc_seqpoints.specs.declared.point.Point.{Point}
use Rattle.enc_jobs.specs.declared.fault.Refused.{Refused}
use Rattle.enc_jobs.specs.declared.fault.Refused.TheVariants.{Memory, Form}
use Rattle.enc_jobs.specs.Outcome.{ReadsAs}
use Rattle.enc_jobs.specs.Lists.{with_first}
use Rattle.enc_jobs.specs.Points.{point_said, points_from}
use Rattle.enc_jobs.proofs.Loops.{behind, behind_none_yet, behind_one_more, front}

point_front : (starts : List ℕ) (document : ℕ) (d : Data) (ds : List Data) (p : Point) → point_said starts document d ≡ Some p → points_from starts document (d ∷ ds) ≡ with_first (Some p) (points_from starts p.document ds)
unfolding points_from
point_front starts document d ds p is = rw is refl

point_fails : (starts : List ℕ) (document : ℕ) (d : Data) (ds : List Data) → point_said starts document d ≡ None → points_from starts document (d ∷ ds) ≡ None
unfolding points_from
point_fails starts document d ds is = rw is refl

point_none : (starts : List ℕ) (document : ℕ) → points_from starts document [] ≡ Some []
unfolding points_from
point_none starts document = refl

-- nothing is read yet
pub points_start : {V : Type 0} (v : V → Data) (starts : List ℕ) (document : ℕ) (xs : List V) → behind [] (points_from starts document (map v (drop 0 xs))) ≡ points_from starts document (map v xs)
points_start v starts document xs = behind_none_yet (points_from starts document (map v xs))

-- one point more
pub points_more : {V : Type 0} (v : V → Data) (starts : List ℕ) (document : ℕ) (xs : List V) (i : ℕ) (x : V) (p : Point) (read : List Point) → i < length xs → x ≡ get_or xs i x → point_said starts document (v x) ≡ Some p → behind read (points_from starts document (map v (drop i xs))) ≡ behind (read ++ p ∷ []) (points_from starts p.document (map v (drop (i + 1) xs)))
points_more v starts document xs i x p read h at is = rw (front xs i x h at, point_front starts document (v x) (map v (drop (i + 1) xs)) p is) (behind_one_more read p _)

-- a point that is refused
pub points_refused : {V : Type 0} (v : V → Data) (starts : List ℕ) (document : ℕ) (xs : List V) (i : ℕ) (x : V) (read : List Point) (e : Refused) (all : Option (List Point)) → i < length xs → x ≡ get_or xs i x → ReadsAs (Err e) (point_said starts document (v x)) → behind read (points_from starts document (map v (drop i xs))) ≡ all → ReadsAs {A = List Point} (Err e) all
points_refused v starts document xs i x read Memory all h at is whole = tt
points_refused v starts document xs i x read Form all h at is whole = sym whole ∙ rw (front xs i x h at, point_fails starts document (v x) (map v (drop (i + 1) xs)) is) refl

-- all are read
pub points_done : {V : Type 0} (v : V → Data) (starts : List ℕ) (document : ℕ) (xs : List V) (i : ℕ) (read : List Point) (all : Option (List Point)) → length xs ≤ i → behind read (points_from starts document (map v (drop i xs))) ≡ all → all ≡ Some read
points_done v starts document xs i read all h whole = sym whole ∙ rw (drop_all i xs h, point_none starts document) (ap Some (append-nil read))

pub ruleset point_steps = (points_start, points_more, points_refused, points_done)
