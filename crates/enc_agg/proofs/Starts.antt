-- A search by what the generations have before them, and what comes behind them.
use Rattle.std.proofs.Common.{◌≡◌, ℕ, zero, suc, ◌+◌, ◌-◌, ◌/◌, ◌<◌, ◌≤◌, List, [], ◌∷◌, ◌++◌, length, take, get_or, reverse, refl, sym, ap, ◌∙◌, arith}
use Rattle.std.specs.Prelude.{slice_index}
use Rattle.std.proofs.lemmas.List.{reverse-append, take_more, take_all, length-map}
use Rattle.enc_meta.specs.Heaps.{Counted}
use Rattle.enc_meta.specs.declared.heap.Heap.TheVariants as heap
use Rattle.enc_meta.specs.Joined.{joined_lengths}
use Rattle.enc_meta.proofs.JoinedLengths.{length_more, most_more}
use Rattle.enc_rows.specs.Source.{Source}
use Rattle.enc_agg.specs.declared.added.Added.{Added}
use Rattle.enc_agg.specs.declared.heaps.Measure.{Measure}
use Rattle.enc_agg.specs.declared.heaps.Measure.TheVariants.{Bytes, Guids}
use Rattle.enc_agg.specs.Extend.{chain_with}
use Rattle.enc_agg.specs.Seen.{sources, AllAdded}
use Rattle.enc_agg.specs.Starts.{measure_in, starts, NeverFall, IsParted, HaveBegun}
use Rattle.enc_agg.proofs.Generations.{all_upto}
use Rattle.enc_agg.proofs.Histories.{last_added, heaps_with}

-- the heaps of the first generations
abbrev pub heaps_upto : Source → List Added → ℕ → List Counted
heaps_upto b added g = (chain_with b (sources (reverse (take g added)))).heaps

-- one generation more
upto_more : (added : List Added) (j : ℕ) (a : Added) → j < length added → reverse (take (suc j) added) ≡ get_or added j a ∷ reverse (take j added)
upto_more added j a low =
    let e : suc j ≡ j + 1 = omega arith in
    rw (e, take_more added j a low) (reverse-append (take j added) (get_or added j a ∷ []))

all_more : (b : Source) (added : List Added) (j : ℕ) (a : Added) → AllAdded b (reverse added) → j < length added → AllAdded b (get_or added j a ∷ reverse (take j added))
all_more b added j a all low = rw (← (upto_more added j a low)) (all_upto b added (suc j) all)

-- the delta of the next generation has before it what those up to it have
before_is : (b : Source) (added : List Added) (j : ℕ) (a : Added) → AllAdded b (reverse added) → j < length added → (get_or added j a).before ≡ joined_lengths (heaps_upto b added j)
before_is b added j a all low = (last_added b (get_or added j a) (reverse (take j added)) (all_more b added j a all low)).0.before

heaps_next : (b : Source) (added : List Added) (j : ℕ) (a : Added) → j < length added → heaps_upto b added (suc j) ≡ heaps_upto b added j ++ (get_or added j a).delta.heaps ∷ []
heaps_next b added j a low = ap (λ xs. (chain_with b (sources xs)).heaps) (upto_more added j a low) ∙ heaps_with b (get_or added j a).delta (sources (reverse (take j added)))

-- what holds of the heaps whatever comes behind, holds of all generations' from some generation on
stays_by : {X : Type 0} (b : Source) (added : List Added) (P : List Counted → X) (g d : ℕ) → ((j : ℕ) → g ≤ j → j < g + d → P (heaps_upto b added (suc j)) ≡ P (heaps_upto b added j)) → P (heaps_upto b added (g + d)) ≡ P (heaps_upto b added g)
stays_by b added P g zero same = let e : g + 0 ≡ g = omega arith in rw e refl
stays_by b added P g (suc d) same =
    let e : g + suc d ≡ suc (g + d) = omega arith in
    rw e (same (g + d) (omega arith) (omega arith) ∙ stays_by b added P g d (λ j le low. same j le (omega arith)))

start_at : (measure : Measure) (added : List Added) (j : ℕ) (a : Added) → j < length added → slice_index (starts measure added) j ≡ measure_in measure (get_or added j a).before
start_at measure [] j a low = absurd (omega arith)
start_at measure (x ∷ xs) zero a low = refl
start_at measure (x ∷ xs) (suc j) a low = start_at measure xs j a (omega arith)

some_at : (added : List Added) (j : ℕ) → j < length added → Added
some_at [] j low = absurd (omega arith)
some_at (a ∷ added) j low = a

pub stays : {X : Type 0} (b : Source) (added upto : List Added) (measure : Measure) (n : ℕ) (P : List Counted → X) → AllAdded b (reverse added) → upto ≡ take (length upto) added → length upto ≤ length added → ((i : ℕ) → length upto ≤ i → i < length added → n < slice_index (starts measure added) i) → ((hs : List Counted) (h : Counted) → n < measure_in measure (joined_lengths hs) → P (hs ++ h ∷ []) ≡ P hs) → P (chain_with b (sources (reverse added))).heaps ≡ P (chain_with b (sources (reverse upto))).heaps
stays {X} b added upto measure n P all front few past same =
    let g = length upto in
    let d = length added - g in
    let whole : take (g + d) added ≡ added = take_all (g + d) added (omega arith) in
    let steps : P (heaps_upto b added (g + d)) ≡ P (heaps_upto b added g) = stays_by b added P g d (λ j le low. one j le (omega arith)) in
    ap (λ xs. P (chain_with b (sources (reverse xs))).heaps) (sym whole) ∙ steps ∙ ap (λ xs. P (chain_with b (sources (reverse xs))).heaps) (sym front)
  where
    one : (j : ℕ) → length upto ≤ j → j < length added → P (heaps_upto b added (suc j)) ≡ P (heaps_upto b added j)
    one j le low =
        let a = some_at added j low in
        let less : n < measure_in measure (joined_lengths (heaps_upto b added j)) = rw (← (before_is b added j a all low), ← (start_at measure added j a low)) (past j le low) in
        ap P (heaps_next b added j a low) ∙ same (heaps_upto b added j) (get_or added j a).delta.heaps less

-- no generation has less before it than an earlier one
measure_more : (measure : Measure) (hs : List Counted) (h : Counted) → measure_in measure (joined_lengths hs) ≤ measure_in measure (joined_lengths (hs ++ h ∷ []))
unfolding joined_lengths
measure_more (Bytes heap.Strings) hs h = omega (arith, length_more (λ (c : Counted). c.strings) hs h)
measure_more (Bytes heap.Users) hs h = omega (arith, length_more (λ (c : Counted). c.users) hs h)
measure_more (Bytes heap.Blobs) hs h = omega (arith, length_more (λ (c : Counted). c.blobs) hs h)
measure_more Guids hs h = omega (arith, most_more (λ (c : Counted). length c.guids / 16) hs h)

start_is : (b : Source) (added : List Added) (measure : Measure) (j : ℕ) → AllAdded b (reverse added) → j < length added → slice_index (starts measure added) j ≡ measure_in measure (joined_lengths (heaps_upto b added j))
start_is b added measure j all low =
    let a = some_at added j low in
    start_at measure added j a low ∙ ap (measure_in measure) (before_is b added j a all low)

rises_by : (b : Source) (added : List Added) (measure : Measure) (i d : ℕ) → i + d ≤ length added → measure_in measure (joined_lengths (heaps_upto b added i)) ≤ measure_in measure (joined_lengths (heaps_upto b added (i + d)))
rises_by b added measure i zero within = let e : i + 0 ≡ i = omega arith in rw e (omega arith)
rises_by b added measure i (suc d) within =
    let low : i + d < length added = omega arith in
    let a = some_at added (i + d) low in
    let e : i + suc d ≡ suc (i + d) = omega arith in
    let before = rises_by b added measure i d (omega arith) in
    let more = measure_more measure (heaps_upto b added (i + d)) (get_or added (i + d) a).delta.heaps in
    rw (e, heaps_next b added (i + d) a low) (omega (arith, before, more))

pub starts_rise : (b : Source) (added : List Added) (measure : Measure) → AllAdded b (reverse added) → NeverFall (starts measure added)
starts_rise b added measure all i j le low =
    let within : j < length added = omega (arith, length-map added (λ (a : Added). measure_in measure a.before)) in
    let e : i + (j - i) ≡ j = omega arith in
    let rise = rises_by b added measure i (j - i) (omega arith) in
    rw (start_is b added measure i all (omega arith), start_is b added measure j all within) (rw e at rise)

-- the first deltas by which the search ends
pub begun_last : (b : Source) (added upto : List Added) → AllAdded b (reverse added) → upto ≡ take (length upto) added → AllAdded b (reverse upto)
begun_last b added upto all front = rw front (all_upto b added (length upto) all)

-- the newest of them has begun
pub have_begun : (measure : Measure) (n : ℕ) (added : List Added) (g : ℕ) → IsParted (starts measure added) n g → HaveBegun measure n (reverse (take g added))
have_begun measure n added zero parted = tt
have_begun measure n added (suc j) parted =
    let low : j < length added = omega (arith, parted.within, length-map added (λ (a : Added). measure_in measure a.before)) in
    let a = some_at added j low in
    rw (upto_more added j a low, ← (start_at measure added j a low)) (parted.low j (omega arith))

-- those before it have a number or fewer
pub before_number : (b : Source) (a : Added) (older : List Added) (n : ℕ) → AllAdded b (a ∷ older) → a.before.guids ≤ n → measure_in Guids (joined_lengths (chain_with b (sources older)).heaps) ≤ n
before_number b a older n all le = rw (← (last_added b a older all).0.before) le
