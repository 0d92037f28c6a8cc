-- The deltas of an aggregate by their generations, and where they have a token.
use Rattle.std.proofs.Common.{◌≡◌, ℕ, zero, suc, ◌-◌, ◌<◌, ◌≤◌, List, [], ◌∷◌, ◌++◌, length, take, drop, get_or, map, reverse, Option, Some, None, refl, sym, ap, ◌∙◌, arith}
use Rattle.std.specs.Prelude.{option_map, slice_get}
use Rattle.std.proofs.lemmas.Option.{slice_get-map, slice_get-get_or}
use Rattle.std.proofs.lemmas.List.{reverse-append, reverse-reverse, map-append, length-drop, length-map, length-reverse, take-append-drop, drop-map, drop_at}
use Rattle.enc_base.specs.declared.token.Token.{Token}
use Rattle.enc_meta.specs.Heaps.{Counted, lengths_of}
use Rattle.enc_meta.specs.declared.heaps.HeapLengths.{HeapLengths}
use Rattle.enc_rows.specs.Source.{Source}
use Rattle.enc_delta.specs.Delta.{listed, place_in}
use Rattle.enc_agg.specs.declared.added.Added.{Added}
use Rattle.enc_agg.specs.declared.added.Found.{Found}
use Rattle.enc_plain.specs.declared.place.RowPlace.{RowPlace}
use Rattle.enc_agg.specs.Extend.{chain_with}
use Rattle.enc_agg.specs.Place.{base_place, place_or, place_of, delta_at}
use Rattle.enc_agg.specs.Seen.{sources, IsAdded, AllAdded, IsAggregate, found_or, found_in, found_seen}
use Rattle.enc_agg.proofs.Histories.{few_added, heaps_are}

-- one delta more
with_last : (b : Source) (a : Added) (older : List Added) → IsAdded (chain_with b (sources older)) a → AllAdded b older → AllAdded b (a ∷ older)
unfolding AllAdded
with_last b a older last all = (last, all)

pub one_more : (b : Source) (added : List Added) (a : Added) → IsAggregate b (reverse added) → IsAdded (chain_with b (sources (reverse added))) a → IsAggregate b (reverse (added ++ a ∷ []))
one_more b added a agg last =
    rw (reverse-append added (a ∷ [])) (record { sound = agg.sound; all = with_last b a (reverse added) last agg.all })

-- the deltas up to a generation
pub reversed_part : {X : Type 0} (xs : List X) (g : ℕ) → reverse (take g xs) ≡ drop (length xs - g) (reverse xs)
reversed_part xs g =
    let parts : reverse xs ≡ reverse (drop g xs) ++ reverse (take g xs) = ap reverse (sym (take-append-drop g xs)) ∙ reverse-append (take g xs) (drop g xs) in
    rw parts (sym (drop_at (reverse (drop g xs)) (reverse (take g xs)) (length xs - g) (length-reverse (drop g xs) ∙ length-drop g xs)))

pub all_without : (b : Source) (n : ℕ) (added : List Added) → AllAdded b added → AllAdded b (drop n added)
unfolding AllAdded
all_without b zero added all = all
all_without b (suc n) [] all = all
all_without b (suc n) (a ∷ older) all = all_without b n older all.1

pub all_upto : (b : Source) (added : List Added) (g : ℕ) → AllAdded b (reverse added) → AllAdded b (reverse (take g added))
all_upto b added g all = rw (reversed_part added g) (all_without b (length added - g) (reverse added) all)

pub sources_upto : (added : List Added) (g : ℕ) → sources (reverse (take g added)) ≡ drop (length (sources (reverse added)) - g) (sources (reverse added))
sources_upto added g =
    let many : length (sources (reverse added)) ≡ length added = length-map (reverse added) (λ (a : Added). a.delta) ∙ length-reverse added in
    rw (reversed_part added g, many) (sym (drop-map (λ (a : Added). a.delta) (length added - g) (reverse added)))

-- the delta of a generation
map_reverse : {X Y : Type 0} (f : X → Y) (xs : List X) → map f (reverse xs) ≡ reverse (map f xs)
map_reverse f [] = refl
map_reverse f (x ∷ xs) = ap (map f) (reverse-append (x ∷ []) xs) ∙ map-append f (reverse xs) (x ∷ []) ∙ ap (λ ys. ys ++ f x ∷ []) (map_reverse f xs) ∙ sym (reverse-append (f x ∷ []) (map f xs))

delta_of : (added : List Added) (n : ℕ) → delta_at (sources (reverse added)) (suc n) ≡ option_map (λ (a : Added). a.delta) (slice_get added n)
delta_of added n =
    let whole : reverse (sources (reverse added)) ≡ sources added = sym (map_reverse (λ (a : Added). a.delta) (reverse added)) ∙ ap (map (λ (a : Added). a.delta)) (reverse-reverse added) in
    rw whole (slice_get-map (λ (a : Added). a.delta) added n)

pub delta_is : (added : List Added) (g n : ℕ) (a : Added) → g ≡ suc n → n < length added → a ≡ get_or added n a → Some a.delta ≡ delta_at (sources (reverse added)) g
delta_is added g n a next there is =
    rw (next, delta_of added n, slice_get-get_or added n a there) (ap (λ (x : Added). Some x.delta) is)

-- where a token stands, by the delta that was found
abbrev place_found : Token → Option (List Added × ℕ) → RowPlace
place_found u None = base_place u
place_found u (Some f) = record { generation = length f.0; row = f.1 }

by_place : (a : Added) (older : List Added) (u : Token) (o : Option ℕ) → place_of (sources older) u ≡ place_found u (found_in older u) → place_or (length (sources (a ∷ older))) o (place_of (sources older) u) ≡ place_found u (found_or (a ∷ older) o (found_in older u))
by_place a older u None rest = rest
by_place a older u (Some k) rest = rw (length-map older (λ (x : Added). x.delta)) refl

places_are : (added : List Added) (u : Token) → place_of (sources added) u ≡ place_found u (found_in added u)
unfolding place_of found_in
places_are [] u = refl
places_are (a ∷ older) u = by_place a older u (place_in (listed a.delta) u) (places_are older u)

pub found_place : (added : List Added) (u : Token) (o : Option Found) (f : Found) → option_map found_seen o ≡ found_in (reverse added) u → o ≡ Some f → place_of (sources (reverse added)) u ≡ record { generation = length f.upto.now; row = f.row }
found_place added u o f is some =
    places_are (reverse added) u ∙ ap (place_found u) (sym is ∙ ap (option_map found_seen) some) ∙ ap (λ (n : ℕ). record { generation = n; row = f.row }) (length-reverse f.upto.now)

pub no_place : (added : List Added) (u : Token) (o : Option Found) → option_map found_seen o ≡ found_in (reverse added) u → o ≡ None → place_of (sources (reverse added)) u ≡ base_place u
no_place added u o is none = places_are (reverse added) u ∙ ap (place_found u) (sym is ∙ ap (option_map found_seen) none)

-- no more deltas are found than there are
fewer_step : (a : Added) (older : List Added) (o : Option ℕ) (rest : Option (List Added × ℕ)) (f : List Added × ℕ) → (rest ≡ Some f → length f.0 ≤ length older) → found_or (a ∷ older) o rest ≡ Some f → length f.0 ≤ suc (length older)
fewer_step a older None rest f less is = let e = less is in omega (arith, e)
fewer_step a older (Some k) rest f less is = let e : f.0 ≡ a ∷ older = cc in rw e (omega arith)

pub fewer_found : (added : List Added) (u : Token) (f : List Added × ℕ) → found_in added u ≡ Some f → length f.0 ≤ length added
unfolding found_in
fewer_found [] u f is = absurd cc
fewer_found (a ∷ older) u f is = fewer_step a older (place_in (listed a.delta) u) (found_in older u) f (fewer_found older u f) is

pub few_found : (b : Source) (added : List Added) (u : Token) (o : Option Found) (f : Found) → AllAdded b (reverse added) → option_map found_seen o ≡ found_in (reverse added) u → o ≡ Some f → length f.upto.now ≤ 65535
few_found b added u o f all is some =
    omega (arith, fewer_found (reverse added) u (found_seen f) (sym is ∙ ap (option_map found_seen) some), length-reverse f.upto.now, length-reverse added, few_added b added all)

-- the lengths of a generation's own heaps
pub first_lengths : (b : Source) (added : List Added) (g : ℕ) (l : HeapLengths) → g ≡ 0 → l ≡ lengths_of b.heaps → Some l ≡ option_map (λ (h : Counted). lengths_of h) (slice_get (chain_with b (sources (reverse added))).heaps g)
first_lengths b added g l first is = rw (first, heaps_are b added, is) refl

pub later_lengths : (b : Source) (added : List Added) (g n : ℕ) (a : Added) (l : HeapLengths) → g ≡ suc n → g ≤ length (sources (reverse added)) → a ≡ get_or added n a → l ≡ lengths_of a.delta.heaps → Some l ≡ option_map (λ (h : Counted). lengths_of h) (slice_get (chain_with b (sources (reverse added))).heaps g)
later_lengths b added g n a l next upto is lengths =
    let there : n < length added = omega (arith, next, upto, length-map (reverse added) (λ (x : Added). x.delta), length-reverse added) in
    rw (next, heaps_are b added, slice_get-map (λ (x : Added). x.delta.heaps) added n, slice_get-get_or added n a there, ← is) (ap (λ x. Some x) lengths)
