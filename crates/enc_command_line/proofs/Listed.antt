-- The lines of the listing, one after the other.
use Rattle.std.proofs.Common.{◌≡◌, ℕ, zero, suc, ◌+◌, ◌-◌, ◌<◌, ◌≤◌, List, [], ◌∷◌, ◌++◌, length, take, drop, reverse, Some, None, refl, sym, ap, ◌∙◌, arith, append_assoc, append-nil}
use Rattle.std.specs.Prelude.{slice_get, flat_map, sum_by, unwrap_or, codes, decimal}
use Rattle.std.proofs.lemmas.List.{drop_all, take_all, get_or-reverse, length-reverse, length-drop, take-append-drop}
use Rattle.std.proofs.lemmas.Option.{slice_get_read, slice_get_within, get_or_from_slice_get}
use Rattle.std.proofs.lemmas.List.Sums.{sum_by-append}
use Rattle.enc_schema.specs.Schema.{list_at}
use Rattle.enc_rows.specs.Source.{Source}
use Rattle.enc_plain.specs.Module.{Module, Row, rows_in}
use Rattle.enc_image.specs.Base.{module_in, chain_of_base}
use Rattle.enc_base.specs.declared.token.Token.{Token}
use Rattle.enc_meta.specs.declared.heaps.HeapLengths.{HeapLengths}
use Rattle.enc_meta.specs.Heaps.{lengths_of, nil_guid}
use Rattle.enc_delta.specs.Delta.{listed}
use Rattle.enc_plain.specs.Chain.{Chain, id_of}
use Rattle.enc_delta.specs.Rules.{own_guid}
use Rattle.enc_agg.specs.Extend.{extended, chain_with}
use Rattle.enc_agg.proofs.Histories.{ids_count, heaps_count}
use Rattle.enc_agg.specs.Place.{delta_at}
use Rattle.enc_command_line.specs.Listing.{all_rows, counts_text, base_text, lines_upto, head_text, token_line, delta_text, listing_of}
use Rattle.enc_text.specs.Text.{guid_text}
use Rattle.enc_text.proofs.Pieces.{both_pieces}

past_all : (ds : List Source) → drop (length ds - 0) ds ≡ []
past_all ds = drop_all (length ds - 0) ds (omega arith)

-- before all deltas the rows are the base's
pub base_count : (b : Source) (ds : List Source) (t : ℕ) → length (rows_in (chain_with b (drop (length ds - 0) ds)).plain t) ≡ length (rows_in (module_in b) t)
unfolding chain_with chain_of_base
base_count b ds t = rw (past_all ds) refl

take_more : {X : Type 0} (xs : List X) (i : ℕ) (x : X) → slice_get xs i ≡ Some x → take (i + 1) xs ≡ take i xs ++ x ∷ []
take_more [] i x h = absurd cc
take_more (y ∷ ys) zero x h = let e : y ≡ x = cc in ap (λ z. z ∷ []) e
take_more (y ∷ ys) (suc i) x h = let e : suc i + 1 ≡ suc (i + 1) = omega arith in rw e (ap (λ zs. y ∷ zs) (take_more ys i x h))

list_there : {X : Type 0} (xs : List (List X)) (i : ℕ) → i < length xs → slice_get xs i ≡ Some (list_at xs i)
list_there [] i h = absurd (omega arith)
list_there (x ∷ xs) zero h = refl
list_there (x ∷ xs) (suc i) h = list_there xs i (omega arith)

-- the rows of one table more
pub rows_more : (m : Module) (t rows more : ℕ) → t < length m.tables → rows ≡ sum_by (λ (r : List Row). length r) (take t m.tables) → more ≡ length (rows_in m t) → rows + more ≡ sum_by (λ (r : List Row). length r) (take (t + 1) m.tables)
rows_more m t rows more low is own =
    let z : 0 + length (rows_in m t) ≡ length (rows_in m t) = omega arith in
    rw (take_more m.tables t (rows_in m t) (list_there m.tables t low)) (sym (sum_by-append (λ (r : List Row). length r) (take t m.tables) (rows_in m t ∷ []) ∙ rw (z, ← is, ← own) refl))

pub rows_all : (m : Module) (t rows : ℕ) → length m.tables ≤ t → rows ≡ sum_by (λ (r : List Row). length r) (take t m.tables) → rows ≡ all_rows m
rows_all m t rows past is = is ∙ ap (sum_by (λ (r : List Row). length r)) (take_all t m.tables past)

flat_more : {X : Type 0} (f : X → List ℕ) (xs : List X) (x : X) → flat_map f (xs ++ x ∷ []) ≡ flat_map f xs ++ f x
flat_more f [] x = append-nil (f x)
flat_more f (y ∷ ys) x = ap (λ r. f y ++ r) (flat_more f ys x) ∙ sym (append_assoc (f y) (flat_map f ys) (f x))

-- one line more
pub line_more : {X : Type 0} (f : X → List ℕ) (xs : List X) (i : ℕ) (x : X) (old out new : List ℕ) → slice_get xs i ≡ Some x → out ≡ old ++ flat_map f (take i xs) → new ≡ out ++ f x → new ≡ old ++ flat_map f (take (i + 1) xs)
line_more f xs i x old out new there is more =
    more ∙ ap (λ r. r ++ f x) is ∙ append_assoc old (flat_map f (take i xs)) (f x) ∙ ap (λ r. old ++ r) (sym (ap (flat_map f) (take_more xs i x there) ∙ flat_more f (take i xs) x))

pub lines_all : {X : Type 0} (f : X → List ℕ) (xs : List X) (i : ℕ) (old out : List ℕ) → length xs ≤ i → out ≡ old ++ flat_map f (take i xs) → out ≡ old ++ flat_map f xs
lines_all f xs i old out past is = is ∙ ap (λ ys. old ++ flat_map f ys) (take_all i xs past)

get_last : {X : Type 0} (xs : List X) (x : X) (n : ℕ) → length xs ≡ n → slice_get (xs ++ x ∷ []) n ≡ Some x
get_last [] x zero h = refl
get_last [] x (suc n) h = absurd (omega arith)
get_last (y ∷ xs) x zero h = absurd (omega arith)
get_last (y ∷ xs) x (suc n) h = get_last xs x n (omega arith)

get_kept : {X : Type 0} (xs ys : List X) (i : ℕ) → i < length xs → slice_get (xs ++ ys) i ≡ slice_get xs i
get_kept [] ys i h = absurd (omega arith)
get_kept (x ∷ xs) ys zero h = refl
get_kept (x ∷ xs) ys (suc i) h = get_kept xs ys i (omega arith)

many : (newer : List Source) (d : Source) (older : List Source) → length (newer ++ d ∷ older) ≡ length newer + (length older + 1)
many [] d older = omega arith
many (n ∷ newer) d older = omega (arith, many newer d older)

id_split : (b : Source) (newer : List Source) (d : Source) (older : List Source) → id_of (chain_with b (newer ++ d ∷ older)) (suc (length older)) ≡ own_guid (chain_with b older) d 3
unfolding chain_with extended
id_split b [] d older = ap (λ o. unwrap_or o nil_guid) (get_last (chain_with b older).ids (own_guid (chain_with b older) d 3) (length older) (ids_count b older))
id_split b (n ∷ newer) d older =
    let ids = (chain_with b (newer ++ d ∷ older)).ids in
    ap (λ o. unwrap_or o nil_guid) (get_kept ids (own_guid (chain_with b (newer ++ d ∷ older)) n 3 ∷ []) (length older) (omega (arith, ids_count b (newer ++ d ∷ older), many newer d older))) ∙ id_split b newer d older

-- the base's heaps stand first
pub base_heaps : (b : Source) (ds : List Source) → slice_get (chain_with b ds).heaps 0 ≡ Some b.heaps
unfolding chain_with chain_of_base extended
base_heaps b [] = refl
base_heaps b (d ∷ older) = get_kept (chain_with b older).heaps (d.heaps ∷ []) 0 (omega (arith, heaps_count b older)) ∙ base_heaps b older

-- what is left of a list begins with the item at its place
pub next_word : {X : Type 0} (xs : List X) (i : ℕ) (x : X) → slice_get xs i ≡ Some x → drop i xs ≡ x ∷ drop (i + 1) xs
next_word [] i x h = absurd cc
next_word (y ∷ ys) zero x h = let e : y ≡ x = cc in ap (λ z. z ∷ ys) e
next_word (y ∷ ys) (suc i) x h = let e : suc i + 1 ≡ suc (i + 1) = omega arith in rw e (next_word ys i x h)

-- where the deltas up to a generation begin
pub record At (ds : List Source) (g : ℕ) (d : Source) : Type 0 where
  pub high : g ≤ length ds
  pub rest : drop (length ds - g) ds ≡ d ∷ drop (length ds - (g - 1)) ds
  pub older : length (drop (length ds - (g - 1)) ds) + 1 ≡ g

at_read : (ds : List Source) (n : ℕ) (d : Source) → slice_get (reverse ds) n ≡ Some d → n < length ds → slice_get ds (length ds - 1 - n) ≡ Some d
at_read ds n d h low = slice_get_read ds _ _ d refl (omega arith) (sym (sym (get_or-reverse ds n d low) ∙ get_or_from_slice_get (reverse ds) n d d h))

pub is_at : (ds : List Source) (g : ℕ) (d : Source) → 0 < g → Some d ≡ delta_at ds g → At ds g d
is_at ds zero d low is = absurd (omega arith)
is_at ds (suc n) d low is =
    let low_n : n < length ds = omega (arith, slice_get_within (reverse ds) n d (sym is), length-reverse ds) in
    let here = next_word ds (length ds - 1 - n) d (at_read ds n d (sym is) low_n) in
    let a : length ds - suc n ≡ length ds - 1 - n = omega arith in
    let e : length ds - (suc n - 1) ≡ length ds - 1 - n + 1 = omega (arith, low_n) in
    record {
      high = omega (arith, low_n);
      rest = rw (a, e) here;
      older = omega (arith, low_n, length-drop (length ds - (suc n - 1)) ds);
    }

-- the EncId of a generation
pub id_is : (b : Source) (ds : List Source) (g : ℕ) (d : Source) → 0 < g → Some d ≡ delta_at ds g → id_of (chain_with b ds) g ≡ own_guid (chain_with b (drop (length ds - (g - 1)) ds)) d 3
id_is b ds zero d low is = absurd (omega arith)
id_is b ds (suc n) d low is =
    let there = is_at ds (suc n) d low is in
    by_parts (drop (length ds - (suc n - 1)) ds) (take (length ds - suc n) ds) (ap (λ r. take (length ds - suc n) ds ++ r) (sym there.rest) ∙ take-append-drop (length ds - suc n) ds) (omega (arith, there.older))
  where
    by_parts : (older newer : List Source) → newer ++ d ∷ older ≡ ds → length older ≡ n → id_of (chain_with b ds) (suc n) ≡ own_guid (chain_with b older) d 3
    by_parts older newer whole e = rw (← whole, ← e) (id_split b newer d older)

-- the lines of a generation stand behind those before it
pub lines_at : (b : Source) (ds : List Source) (g : ℕ) (d : Source) → 0 < g → Some d ≡ delta_at ds g → lines_upto b ds (drop (length ds - g) ds) ≡ lines_upto b ds (drop (length ds - (g - 1)) ds) ++ delta_text (chain_with b (drop (length ds - (g - 1)) ds)) g d ds
unfolding lines_upto
lines_at b ds g d low is =
    let there = is_at ds g d low is in
    let e : length (d ∷ drop (length ds - (g - 1)) ds) ≡ g = omega (arith, there.older) in
    rw (there.rest, e) refl

pub no_lines : (b : Source) (ds : List Source) → lines_upto b ds (drop (length ds - 0) ds) ≡ base_text b
unfolding lines_upto
no_lines b ds = rw (past_all ds) refl

-- a generation that is there has its delta
pub has_delta : (ds : List Source) (g : ℕ) → 0 < g → g ≤ length ds → None ≡ delta_at ds g → ⊥
has_delta ds zero low high none = omega arith
has_delta ds (suc n) low high none = there (reverse ds) n (omega (arith, length-reverse ds)) (sym none)
  where
    there : {X : Type 0} (xs : List X) (n : ℕ) → n < length xs → slice_get xs n ≡ None → ⊥
    there [] n h none = absurd (omega arith)
    there (x ∷ xs) zero h none = absurd cc
    there (x ∷ xs) (suc n) h none = there xs n (omega arith) none

pub base_pieces : (base : Source) (old mid new : List ℕ) (rows : ℕ) (l : HeapLengths) → rows ≡ all_rows (module_in base) → l ≡ lengths_of base.heaps → mid ≡ old ++ codes "generation 0" → new ≡ mid ++ counts_text rows l → new ≡ old ++ base_text base
unfolding base_text
base_pieces base old mid new rows l a b c d = rw (← a, ← b) (both_pieces old mid new (codes "generation 0") (counts_text rows l) c d)

pub delta_pieces : (before : Chain) (g : ℕ) (d : Source) (ds : List Source) (ts : List Token) (id : List ℕ) (rows : ℕ) (l : HeapLengths) (old mid new : List ℕ) → ts ≡ listed d → id ≡ own_guid before d 3 → rows ≡ length ts → l ≡ lengths_of d.heaps → mid ≡ old ++ head_text g id rows l → new ≡ mid ++ flat_map (token_line before g d ds) ts → new ≡ old ++ delta_text before g d ds
unfolding delta_text
delta_pieces before g d ds ts id rows l old mid new tokens own count lengths a b = rw (← own, ← lengths, ← tokens, ← count) (both_pieces old mid new (head_text g id rows l) (flat_map (token_line before g d ds) ts) a b)

-- the lines of one generation more
pub lines_more : (b : Source) (ds : List Source) (g : ℕ) (d : Source) (old out new : List ℕ) → 0 < g → Some d ≡ delta_at ds g → out ≡ old ++ lines_upto b ds (drop (length ds - (g - 1)) ds) → new ≡ out ++ delta_text (chain_with b (drop (length ds - (g - 1)) ds)) g d ds → new ≡ old ++ lines_upto b ds (drop (length ds - (g + 1 - 1)) ds)
lines_more b ds g d old out new low is before more =
    let e : g + 1 - 1 ≡ g = omega arith in
    rw (e, lines_at b ds g d low is) (both_pieces old out new _ _ before more)

pub lines_done : (b : Source) (ds : List Source) (g : ℕ) (old out : List ℕ) → length ds + 1 ≤ g → out ≡ old ++ lines_upto b ds (drop (length ds - (g - 1)) ds) → out ≡ old ++ listing_of b ds
unfolding listing_of
lines_done b ds g old out past is =
    let e : length ds - (g - 1) ≡ 0 = omega arith in
    rw e at is

pub head_pieces : (g : ℕ) (id : List ℕ) (rows : ℕ) (l : HeapLengths) (old a b c d new : List ℕ) → a ≡ old ++ codes "generation " → b ≡ a ++ decimal g → c ≡ b ++ 0x20 ∷ [] → d ≡ c ++ guid_text id → new ≡ d ++ counts_text rows l → new ≡ old ++ head_text g id rows l
unfolding head_text
head_pieces g id rows l old a b c d new ea eb ec ed en =
    let one = both_pieces old a b (codes "generation ") (decimal g) ea eb in
    let two = both_pieces old b c (codes "generation " ++ decimal g) (0x20 ∷ []) one ec in
    let three = both_pieces old c d (codes "generation " ++ decimal g ++ 0x20 ∷ []) (guid_text id) two ed in
    both_pieces old d new (codes "generation " ++ decimal g ++ 0x20 ∷ [] ++ guid_text id) (counts_text rows l) three en ∙ search (append_assoc)
