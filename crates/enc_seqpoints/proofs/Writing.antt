-- Points written one behind the other: one more, one that can't be written, none left.
use Rattle.std.proofs.Common.{◌≡◌, ℕ, ◌+◌, ◌<◌, ◌≤◌, true, false, List, [], ◌∷◌, ◌++◌, refl, ap, sym, ◌∙◌, arith, append_assoc, append-nil, length, drop, get_or}
use Rattle.std.specs.Prelude.{Result, Ok, Err}
use Rattle.std.proofs.lemmas.List.{drop_more, drop_all}
use Rattle.enc_seqpoints.specs.declared.point.Point.{Point}
use Rattle.enc_seqpoints.specs.declared.base.Base.{Base}
use Rattle.enc_seqpoints.specs.declared.base.Record.TheVariants.{Sequence}
use Rattle.enc_seqpoints.specs.Grammar.{after}
use Rattle.enc_seqpoints.specs.Spelling.{preceded, is_writable, point_bytes, records_of}

pub preceded_twice : (m n : ℕ) (x y : List ℕ) (r : Result (List ℕ) ℕ) → preceded m x (preceded n y r) ≡ preceded (m + n) (x ++ y) r
preceded_twice m n x y (Ok bytes) = ap Ok (sym (append_assoc x y bytes))
preceded_twice m n x y (Err i) = let e : m + (n + i) ≡ m + n + i = omega arith in ap Err e

-- nothing stands before
pub preceded_none : (r : Result (List ℕ) ℕ) → preceded 0 [] r ≡ r
preceded_none (Ok bytes) = refl
preceded_none (Err i) = let e : 0 + i ≡ i = omega arith in ap Err e

pub records_first : (b : Base) (p : Point) (points : List Point) → is_writable b p ≡ true → records_of b (p ∷ points) ≡ preceded 1 (point_bytes b p) (records_of (after b (Sequence p)) points)
unfolding records_of
records_first b p points can = rw can refl

pub records_stop : (b : Base) (p : Point) (points : List Point) → is_writable b p ≡ false → records_of b (p ∷ points) ≡ Err 0
unfolding records_of
records_stop b p points can = rw can refl

-- one more is written
pub write_more : (i n : ℕ) (out : List ℕ) (b : Base) (points : List Point) (d : Point) → i < length points → n ≡ i + 1 → is_writable b (get_or points i d) ≡ true → preceded i out (records_of b (drop i points)) ≡ preceded n (out ++ point_bytes b (get_or points i d)) (records_of (after b (Sequence (get_or points i d))) (drop (i + 1) points))
write_more i n out b points d lt e can =
    let p = get_or points i d in
    let first : records_of b (drop i points) ≡ preceded 1 (point_bytes b p) (records_of (after b (Sequence p)) (drop (i + 1) points)) = ap (records_of b) (drop_more points i d lt) ∙ records_first b p (drop (i + 1) points) can in
    rw e (ap (preceded i out) first ∙ preceded_twice i 1 out (point_bytes b p) (records_of (after b (Sequence p)) (drop (i + 1) points)))

-- the point can't be written
pub write_stops : (i : ℕ) (out : List ℕ) (b : Base) (points : List Point) (d : Point) → i < length points → is_writable b (get_or points i d) ≡ false → preceded i out (records_of b (drop i points)) ≡ Err i
write_stops i out b points d lt can =
    let e : i + 0 ≡ i = omega arith in
    ap (λ r. preceded i out r) (ap (records_of b) (drop_more points i d lt) ∙ records_stop b (get_or points i d) (drop (i + 1) points) can) ∙ ap Err e

pub stopped : (out : List ℕ) (r : Result (List ℕ) ℕ) (i : ℕ) → preceded 0 out r ≡ Err i → r ≡ Err i
stopped out (Ok bytes) i e = absurd (cc)
stopped out (Err k) i e = let f : 0 + k ≡ k = omega arith in ap Err (sym f) ∙ e

pub write_stopped : (out front : List ℕ) (i : ℕ) (r : Result (List ℕ) ℕ) (b : Base) (points : List Point) (d : Point) → i < length points → preceded 0 out r ≡ preceded i front (records_of b (drop i points)) → is_writable b (get_or points i d) ≡ false → r ≡ Err i
write_stopped out front i r b points d lt same can = stopped out r i (same ∙ write_stops i front b points d lt can)

-- none is left
pub write_done : (i : ℕ) (out : List ℕ) (b : Base) (points : List Point) → length points ≤ i → preceded i out (records_of b (drop i points)) ≡ Ok out
unfolding records_of
write_done i out b points le =
    let e : drop i points ≡ [] = drop_all i points le in
    rw e (ap Ok (append-nil out))
