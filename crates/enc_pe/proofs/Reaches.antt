-- Ranges whose beginnings and ends rise: one that covers a range is found by halves, and two are joined.
use Rattle.std.proofs.Common.{◌≡◌, ℕ, zero, suc, ◌+◌, ◌-◌, ◌^◌, ◌<◌, ◌≤◌, Bool, true, false, ◌||◌, List, [], ◌∷◌, ◌++◌, length, drop, refl, sym, ap, ◌∙◌, arith, length-append}
use Rattle.std.specs.Prelude.{◌&&◌, nat_le, nat_lt, min}
use Rattle.std.specs.List.{list_any, slice_index_or}
use Rattle.std.proofs.lemmas.List.Folds.{list_any_at, list_any-append}
use Rattle.std.proofs.lemmas.Bool.Decides.{nat_tests}
use Rattle.enc_pe.specs.declared.reach.Corner.{Corner}
use Rattle.enc_pe.specs.Reach.{covers, corner_at, corner_of, IsStair, BeginBy, EndBy, AreJoined, ReachOf}
use Rattle.enc_pe.specs.Sections.{holds}
use Rattle.enc_pe.specs.declared.section.Section.{Section}

none_at : (p : Corner → Bool) (xs : List Corner) → ((i : ℕ) → i < length xs → p (corner_at xs i) ≡ false) → list_any p xs ≡ false
none_at p [] none = refl
none_at p (x ∷ xs) none = let h : p x ≡ false = none 0 (omega arith) in rw h (none_at p xs (λ i low. none (suc i) (omega (arith, low))))

inside : (f b : ℕ) (c : Corner) → c.start ≤ f → b ≤ c.end → covers f b c ≡ true
unfolding covers
inside f b c low high = grind (arith, nat_tests, low, high)

late : (f b : ℕ) (c : Corner) → f < c.start → covers f b c ≡ false
unfolding covers
late f b c h = grind (arith, nat_tests, h)

short : (f b : ℕ) (c : Corner) → c.end < b → covers f b c ≡ false
unfolding covers
short f b c h = grind (arith, nat_tests, h)

parts : (f b : ℕ) (c : Corner) → covers f b c ≡ true → (c.start ≤ f) × (b ≤ c.end)
unfolding covers
parts f b c h = (grind (arith, nat_tests, h), grind (arith, nat_tests, h))

-- where all begin behind an RVA none covers what begins there
pub none_begins : (xs : List Corner) (f b low : ℕ) → low ≡ 0 → ((k : ℕ) → low ≤ k → k < length xs → f < (corner_at xs k).start) → list_any (covers f b) xs ≡ false
none_begins xs f b low none high = none_at (covers f b) xs (λ k there. late f b (corner_at xs k) (high k (omega (arith, none)) there))

-- of those that begin there or before, the last ends last
pub last_covers : (xs : List Corner) (f b low : ℕ) → low < length xs → (corner_at xs low).start ≤ f → b ≤ (corner_at xs low).end → list_any (covers f b) xs ≡ true
last_covers xs f b low there start end = list_any_at (covers f b) xs low _ there (inside f b (corner_at xs low) start end)

pub last_is_short : (xs : List Corner) (f b low : ℕ) → IsStair xs → low < length xs → (corner_at xs low).end < b → ((k : ℕ) → low < k → k < length xs → f < (corner_at xs k).start) → list_any (covers f b) xs ≡ false
last_is_short xs f b low stair there end high = none_at (covers f b) xs each
  where
    each : (k : ℕ) → k < length xs → covers f b (corner_at xs k) ≡ false
    each k below = by_order (nat_le k low) refl
      where
        by_order : (t : Bool) → nat_le k low ≡ t → covers f b (corner_at xs k) ≡ false
        by_order true h = let le : k ≤ low = grind (arith, nat_tests, h) in let e = (stair k low le there).1 in short f b (corner_at xs k) (omega (arith, e, end))
        by_order false h = let lt : low < k = grind (arith, nat_tests, h) in late f b (corner_at xs k) (high k lt below)

-- one that lies in the last covers nothing more
either : (some here : Bool) → (here ≡ true → some ≡ true) → some ≡ (some || (here || false))
either true here h = refl
either false true h = absurd (false_true (h refl))
  where
    false_true : false ≡ true → ⊥
    false_true e = absurd cc
either false false h = refl

pub within_one : (xs : List Corner) (c : Corner) (i : ℕ) → i < length xs → (corner_at xs i).start ≤ c.start → c.end ≤ (corner_at xs i).end → AreJoined xs xs (c ∷ [])
within_one xs c i there start end f b = either (list_any (covers f b) xs) (covers f b c) (λ h. let p = parts f b c h in last_covers xs f b i there (omega (arith, p.0, start)) (omega (arith, p.1, end)))

-- what is left of a list, and its next
pub next_left : (p : Corner → Bool) (xs : List Corner) (i : ℕ) → i < length xs → list_any p (drop i xs) ≡ (p (corner_at xs i) || list_any p (drop (i + 1) xs))
next_left p [] i low = absurd (omega (arith, low))
next_left p (x ∷ xs) zero low = refl
next_left p (x ∷ xs) (suc i) low = let e : suc i + 1 ≡ suc (i + 1) = omega arith in rw e (next_left p xs i (omega (arith, low)))

-- in a list any default reads the same
pub other_default : (xs : List Corner) (i : ℕ) (d : Corner) → i < length xs → slice_index_or xs i d ≡ corner_at xs i
other_default [] i d low = absurd (omega (arith, low))
other_default (x ∷ xs) zero d low = refl
other_default (x ∷ xs) (suc i) d low = other_default xs i d (omega (arith, low))

pub seen_default : (xs ys : List Corner) (i : ℕ) (c : Corner) → c ≡ slice_index_or xs i c → xs ≡ ys → i < length ys → c ≡ corner_at ys i
seen_default xs ys i c is same low = is ∙ ap (λ zs. slice_index_or zs i c) same ∙ other_default ys i c low

pub none_begins_there : (xs : List Corner) (f b low : ℕ) → low ≡ 0 → ((k : ℕ) → low ≤ k → k < length xs → f < (corner_at xs k).start) → nat_lt 0 low ≡ list_any (covers f b) xs
none_begins_there xs f b low none high = ap (nat_lt 0) none ∙ sym (none_begins xs f b low none high)

-- so the last that begins there or before decides
pub last_ends : (xs : List Corner) (f b low : ℕ) → IsStair xs → 0 < low → low ≤ length xs → ((k : ℕ) → k < low → (corner_at xs k).start ≤ f) → ((k : ℕ) → low ≤ k → k < length xs → f < (corner_at xs k).start) → nat_le b (corner_at xs (low - 1)).end ≡ list_any (covers f b) xs
last_ends xs f b low stair some most begin behind = by_end (nat_le b (corner_at xs (low - 1)).end) refl
  where
    by_end : (t : Bool) → nat_le b (corner_at xs (low - 1)).end ≡ t → t ≡ list_any (covers f b) xs
    by_end true h = sym (last_covers xs f b (low - 1) (omega (arith, some, most)) (begin (low - 1) (omega (arith, some))) (grind (arith, nat_tests, h)))
    by_end false h = sym (last_is_short xs f b (low - 1) stair (omega (arith, some, most)) (grind (arith, nat_tests, h)) (λ k lt. behind k (omega (arith, lt, some))))

-- the corners of a longer list
at_below : (xs ys : List Corner) (i : ℕ) → i < length xs → corner_at (xs ++ ys) i ≡ corner_at xs i
at_below [] ys i low = absurd (omega (arith, low))
at_below (x ∷ xs) ys zero low = refl
at_below (x ∷ xs) ys (suc i) low = at_below xs ys i (omega (arith, low))

at_end : (xs : List Corner) (c : Corner) (i : ℕ) → i ≡ length xs → corner_at (xs ++ c ∷ []) i ≡ c
at_end [] c i is = rw is refl
at_end (x ∷ xs) c zero is = absurd (omega (arith, is))
at_end (x ∷ xs) c (suc i) is = at_end xs c i (omega (arith, is))

-- one that begins and ends behind the others keeps the stair
pub stair_more : (xs : List Corner) (c : Corner) → IsStair xs → BeginBy xs c.start → EndBy xs c.end → IsStair (xs ++ c ∷ [])
stair_more xs c stair begin end i j le below = by_place (nat_lt j (length xs)) (nat_lt i (length xs)) refl refl
  where
    P : ℕ → ℕ → Type 0
    P i j = ((corner_at (xs ++ c ∷ []) i).start ≤ (corner_at (xs ++ c ∷ []) j).start) × ((corner_at (xs ++ c ∷ []) i).end ≤ (corner_at (xs ++ c ∷ []) j).end)

    by_place : (s t : Bool) → nat_lt j (length xs) ≡ s → nat_lt i (length xs) ≡ t → P i j
    by_place true t hj hi =
        let lj : j < length xs = grind (arith, nat_tests, hj) in
        let li : i < length xs = omega (arith, lj, le) in
        rw (at_below xs (c ∷ []) i li, at_below xs (c ∷ []) j lj) (stair i j le lj)
    by_place false true hj hi =
        let ej : j ≡ length xs = grind (arith, nat_tests, hj, below, length-append xs (c ∷ [])) in
        let li : i < length xs = grind (arith, nat_tests, hi) in
        rw (at_below xs (c ∷ []) i li, at_end xs c j ej) (begin i li, end i li)
    by_place false false hj hi =
        let ej : j ≡ length xs = grind (arith, nat_tests, hj, below, length-append xs (c ∷ [])) in
        let ei : i ≡ length xs = grind (arith, nat_tests, hi, le, ej) in
        rw (at_end xs c i ei, at_end xs c j ej) (omega arith, omega arith)

-- the corner of a section covers what the section holds
covers_one : (first many : ℕ) (s : Section) → first < 2 ^ 32 → many < 2 ^ 32 → covers first (first + many) (corner_of s) ≡ holds first many s
unfolding covers corner_of holds
covers_one first many s low few = by_begin (nat_le s.rva first) (nat_le (first + many) (s.rva + min s.raw.len (2 ^ 62))) (nat_le (first - s.rva + many) s.raw.len) refl refl refl
  where
    by_begin : (a b c : Bool) → nat_le s.rva first ≡ a → nat_le (first + many) (s.rva + min s.raw.len (2 ^ 62)) ≡ b → nat_le (first - s.rva + many) s.raw.len ≡ c → (a && b) ≡ (a && c)
    by_begin false b c ha hb hc = refl
    by_begin true true true ha hb hc = refl
    by_begin true false false ha hb hc = refl
    by_begin true true false ha hb hc = absurd (grind (arith, nat_tests, ha, hb, hc, low, few))
    by_begin true false true ha hb hc = absurd (grind (arith, nat_tests, ha, hb, hc, low, few))

-- what two sides and the section between them hold
sums : (l m r x y : Bool) → x ≡ (l || y) → y ≡ ((m || false) || r) → x ≡ (l || (m || r))
sums l true r x y e f = e ∙ rw f refl
sums l false r x y e f = e ∙ rw f refl

pub reach_of : (l r : List Section) (s : Section) (left right own behind all : List Corner) → ReachOf l left → ReachOf r right → own ≡ corner_of s ∷ [] → AreJoined behind own right → AreJoined all left behind → ReachOf (l ++ s ∷ r) all
reach_of l r s left right own behind all hl hr is hb ha first many low few =
    sums (list_any (holds first many) l) (holds first many s) (list_any (holds first many) r) (list_any (covers first (first + many)) all) (list_any (covers first (first + many)) behind) (ha first (first + many) ∙ ap (λ t. t || list_any (covers first (first + many)) behind) (hl first many low few)) (here (list_any (covers first (first + many)) own) (ap (list_any (covers first (first + many))) is) (hb first (first + many)) (hr first many low few))
    ∙ sym (list_any-append (holds first many) l (s ∷ r))
  where
    here : (o : Bool) → o ≡ (covers first (first + many) (corner_of s) || false) → list_any (covers first (first + many)) behind ≡ (o || list_any (covers first (first + many)) right) → list_any (covers first (first + many)) right ≡ list_any (holds first many) r → list_any (covers first (first + many)) behind ≡ ((holds first many s || false) || list_any (holds first many) r)
    here o e h k = h ∙ rw (e, k, covers_one first many s low few) refl

-- one that lies in the last
pub within_last : (items xs : List Corner) (c : Corner) (i : ℕ) (last : Corner) → items ≡ xs → i < length items → last ≡ slice_index_or items i last → c.end ≤ last.end → BeginBy xs c.start → AreJoined xs xs (c ∷ [])
within_last items xs c i last same there is end begin =
    let low : i < length xs = rw same at there in
    within_one xs c i low (begin i low) (rw (seen_default items xs i last is same low) at end)

-- no sections hold nothing, and one section more at the end
pub reach_none : ReachOf [] []
reach_none first many low few = refl

pub reach_more : (xs all : List Section) (s : Section) (left own joined : List Corner) → all ≡ xs ++ s ∷ [] → ReachOf xs left → own ≡ corner_of s ∷ [] → AreJoined joined left own → ReachOf all joined
reach_more xs all s left own joined is h one j = rw is (reach_of xs [] s left [] own own joined h reach_none one (λ first behind. right_false (list_any (covers first behind) own)) j)
  where
    right_false : (b : Bool) → b ≡ (b || false)
    right_false true = refl
    right_false false = refl
