-- The body at a place of all: a generation's file, and a place there.
use Rattle.std.proofs.Common.{◌≡◌, ℕ, zero, suc, Bool, ◌+◌, ◌*◌, ◌/◌, ◌%◌, ◌^◌, ◌<◌, ◌≤◌, true, false, List, [], ◌∷◌, ◌++◌, length, reverse, Option, Some, None, refl, sym, ap, ◌∙◌, arith}
use Rattle.std.specs.Prelude.{◌==◌, if◌then◌else◌, not, is_some, option_map, option_and_then, slice_get, IsTrue}
use Rattle.std.proofs.lemmas.Bool.Decides.{nat_tests}
use Rattle.std.proofs.lemmas.Nat.{div-mul-add, mod-mul-add}
use Rattle.std.proofs.lemmas.Option.{slice_get_within}
use Rattle.std.proofs.lemmas.List.{reverse-append, length-map, length-reverse}
use Rattle.enc_base.specs.declared.token.Token.{Token}
use Rattle.enc_meta.specs.Joined.{joined_user}
use Rattle.enc_rows.specs.Source.{Source, raw_in}
use Rattle.enc_plain.specs.Bodies.{code_loaded, body_loaded}
use Rattle.enc_plain.specs.Cell.{body}
use Rattle.enc_plain.specs.Module.{has_row, cell_of}
use Rattle.enc_plain.specs.Chain.{Chain}
use Rattle.enc_image.specs.Base.{module_in}
use Rattle.enc_image.proofs.BodyPlaces.{parts_stand, loaded_stands}
use Rattle.enc_delta.specs.Delta.{listed, place_in}
use Rattle.enc_delta.specs.Rules.{rows_with, users_after}
use Rattle.enc_delta.proofs.Unbroken.{unbroken}
use Rattle.enc_agg.specs.declared.added.Added.{Added}
use Rattle.enc_agg.specs.declared.added.Found.{Found}
use Rattle.enc_agg.specs.Extend.{chain_with}
use Rattle.enc_agg.specs.Place.{delta_at}
use Rattle.enc_agg.specs.Follows.{Follows}
use Rattle.enc_agg.specs.Next.{with_delta}
use Rattle.enc_agg.specs.Seen.{History, sources, IsAggregate, found_or, found_in, found_seen, newest_number, file_of, body_with, place_of_all}
use Rattle.enc_opcodes.specs.Body.{KeepsTexts}
use Rattle.enc_agg.proofs.Asked.{loaded_found, base_loaded, raw_found}
use Rattle.enc_agg.proofs.Generations.{fewer_found}
use Rattle.enc_agg.proofs.Histories.{IsFound, some_first}
use Rattle.enc_agg.proofs.SoundBodies.{listed_good}
use Rattle.enc_agg.proofs.Tokens.{place_row}

-- one item behind a list
get_front : {X : Type 0} (xs : List X) (y : X) (n : ℕ) → n < length xs → slice_get (xs ++ y ∷ []) n ≡ slice_get xs n
get_front [] y n few = absurd (omega (arith, few))
get_front (x ∷ xs) y zero few = refl
get_front (x ∷ xs) y (suc n) few = get_front xs y n (omega (arith, few))

get_last : {X : Type 0} (xs : List X) (y : X) (n : ℕ) → n ≡ length xs → slice_get (xs ++ y ∷ []) n ≡ Some y
get_last [] y zero is = refl
get_last [] y (suc n) is = absurd (omega (arith, is))
get_last (x ∷ xs) y zero is = absurd (omega (arith, is))
get_last (x ∷ xs) y (suc n) is = get_last xs y n (omega (arith, is))

-- the newest delta is that of the last generation, and the others those of theirs
last_of : (d : Source) (older : List Source) → delta_at (d ∷ older) (suc (length older)) ≡ Some d
last_of d older = rw (reverse-append (d ∷ []) older) (get_last (reverse older) d (length older) (sym (length-reverse older)))

source_last : (d : Source) (older : List Source) → delta_at (d ∷ older) (length older + 1) ≡ Some d
source_last d older =
    let e : length older + 1 ≡ suc (length older) = omega arith in
    ap (delta_at (d ∷ older)) e ∙ last_of d older

source_before : (d : Source) (older : List Source) (g : ℕ) → g ≤ length older → delta_at (d ∷ older) g ≡ delta_at older g
source_before d older zero few = refl
source_before d older (suc n) few =
    let fewer : n < length (reverse older) = omega (arith, few, length-reverse older) in
    rw (reverse-append (d ∷ []) older) (get_front (reverse older) d n fewer)

many_sources : (older : List Added) → length (sources older) ≡ length older
many_sources older = length-map older (λ (a : Added). a.delta)

delta_last : (a : Added) (older : List Added) → delta_at (sources (a ∷ older)) (length (a ∷ older)) ≡ Some a.delta
delta_last a older =
    let e : length (a ∷ older) ≡ length (sources older) + 1 = omega (arith, many_sources older) in
    ap (delta_at (sources (a ∷ older))) e ∙ source_last a.delta (sources older)

delta_before : (a : Added) (older : List Added) (g : ℕ) → g ≤ length older → delta_at (sources (a ∷ older)) g ≡ delta_at (sources older) g
delta_before a older g few = source_before a.delta (sources older) g (omega (arith, few, many_sources older))

-- where a token is found, the file of that generation is the delta
file_step : (a : Added) (older upto : List Added) (k : ℕ) (o : Option ℕ) (rest : Option (List Added × ℕ)) (last : Added) (before : List Added) → (rest ≡ Some (upto, k) → length upto ≤ length older) → (rest ≡ Some (upto, k) → delta_at (sources older) (length upto) ≡ Some last.delta) → found_or (a ∷ older) o rest ≡ Some (upto, k) → upto ≡ last ∷ before → delta_at (sources (a ∷ older)) (length upto) ≡ Some last.delta
file_step a older upto k None rest last before few there is parts = delta_before a older (length upto) (few is) ∙ there is
file_step a older upto k (Some j) rest last before few there is parts =
    let all : a ∷ older ≡ upto = some_first (a ∷ older, j) (upto, k) is in
    let same : a ≡ last = cc in
    rw (← all) (delta_last a older ∙ ap (λ (x : Added). Some x.delta) same)

file_found : (added upto : List Added) (u : Token) (k : ℕ) (last : Added) (before : List Added) → found_in added u ≡ Some (upto, k) → upto ≡ last ∷ before → delta_at (sources added) (length upto) ≡ Some last.delta
unfolding found_in
file_found [] upto u k last before is parts = absurd cc
file_found (a ∷ older) upto u k last before is parts =
    file_step a older upto k (place_in (listed a.delta) u) (found_in older u) last before (λ h. fewer_found older u (upto, k) h) (λ h. file_found older upto u k last before h parts) is parts

later_file : (h : History) (g n : ℕ) → g ≡ suc n → file_of h g ≡ delta_at h.deltas g
later_file h g n is = rw is refl

-- the body at a place of a generation's file
in_file : (texts : ℕ → Option (List ℕ)) (h : History) (g n : ℕ) (s : Source) → n < 2 ^ 32 → file_of h g ≡ Some s
    → body_with texts h (g * 2 ^ 32 + n) ≡ body_loaded s.loaded texts n
unfolding body_with
in_file texts h g n s low is = rw (div-mul-add g (2 ^ 32) n low, mod-mul-add g (2 ^ 32) n low, is) refl

-- at 0 there is none
none_at_zero : (texts : ℕ → Option (List ℕ)) (h : History) → body_with texts h 0 ≡ None
unfolding body_with body_loaded code_loaded
none_at_zero texts h = refl

none_loaded : (texts : ℕ → Option (List ℕ)) (s : Source) → body_loaded s.loaded texts 0 ≡ None
unfolding body_loaded code_loaded
none_loaded texts s = refl

is_zero : (n : ℕ) → (n == 0) ≡ true → n ≡ 0
is_zero n e = grind (arith, nat_tests)

place_with : (texts : ℕ → Option (List ℕ)) (h : History) (g n : ℕ) (s : Source) (b : Bool) → (n == 0) ≡ b → n < 2 ^ 32 → file_of h g ≡ Some s
    → body_with texts h (if b then 0 else g * 2 ^ 32 + n) ≡ body_loaded s.loaded texts n
place_with texts h g n s true none low is = none_at_zero texts h ∙ sym (ap (body_loaded s.loaded texts) (is_zero n none) ∙ none_loaded texts s)
place_with texts h g n s false more low is = in_file texts h g n s low is

pub in_place : (texts : ℕ → Option (List ℕ)) (h : History) (g n : ℕ) (s : Source) → n < 2 ^ 32 → file_of h g ≡ Some s
    → body_with texts h (place_of_all g n) ≡ body_loaded s.loaded texts n
in_place texts h g n s low is = place_with texts h g n s (n == 0) refl low is

-- a number that tells one place tells none exactly where the place is 0
tells_with : (g n : ℕ) (b : Bool) → (n == 0) ≡ b → not b ≡ not ((if b then 0 else g * 2 ^ 32 + n) == 0)
tells_with g n true none = refl
tells_with g n false more = sym (tells_some (g * 2 ^ 32 + n) (omega (arith, not_zero n more)))
  where
    not_zero : (n : ℕ) → (n == 0) ≡ false → 0 < n
    not_zero n e = grind (arith, nat_tests)

    tells_some : (n : ℕ) → 0 < n → not (n == 0) ≡ true
    tells_some n low = grind (arith, nat_tests)

tells_none : (g n : ℕ) → not (n == 0) ≡ not (place_of_all g n == 0)
tells_none g n = tells_with g n (n == 0) refl

pub stands_in_place : (texts : ℕ → Option (List ℕ)) (h : History) (g n : ℕ) (s : Source) → n < 2 ^ 32 → file_of h g ≡ Some s
    → is_some (code_loaded s.loaded n) ≡ not (n == 0) → is_some (body_with texts h (place_of_all g n)) ≡ not (place_of_all g n == 0)
stands_in_place texts h g n s low is some = ap is_some (in_place texts h g n s low is) ∙ loaded_stands s.loaded texts n ∙ some ∙ tells_none g n

-- a method that a delta lists has a body where its place there isn't 0
pub own_stands : (c : Chain) (d : Source) (u : Token) (k n : ℕ) → Follows c d → place_in (listed d) u ≡ Some k → u.table ≡ 0x06
    → raw_in d (record { table = u.table; row = k }) 0 ≡ n → is_some (code_loaded d.loaded n) ≡ not (n == 0)
own_stands c d u k n follows place table raw =
    let own : Token = record { table = u.table; row = k } in
    let good = listed_good c d u k (unbroken c d follows.rules).broken_body (place_row c d u k follows.lands place) table in
    rw raw at (parts_stand (rows_with c (listed d)) (users_after c d) d.loaded (raw_in d own 0) (raw_in d own 1) good)

-- a method that no delta lists has the body at its place in the base
pub base_place_body : (b : Source) (added : List Added) (room : ℕ) (u : Token) (n : ℕ) (texts : ℕ → Option (List ℕ)) → IsAggregate b added
    → KeepsTexts (joined_user (chain_with b (sources added)).heaps) texts → (o : Option Found) → option_map found_seen o ≡ found_in added u → o ≡ None
    → IsTrue (has_row (module_in b) u) → u.table ≡ 0x06 → raw_in b u 0 ≡ n → n < 2 ^ 32
    → cell_of (chain_with b (sources added)).plain u 0 ≡ Some
    (body (body_with texts (record { base = b; deltas = sources added; room = room }) (place_of_all 0 n)))
base_place_body b added room u n texts agg more o is none there table raw low =
    let h : History = record { base = b; deltas = sources added; room = room } in
    base_loaded b added u n texts agg more o is none there table raw ∙ ap (λ x. Some (body x)) (sym (in_place texts h 0 n b low refl))

pub base_place_stands : (b : Source) (added : List Added) (room n : ℕ) (texts : ℕ → Option (List ℕ)) → n < 2 ^ 32
    → is_some (code_loaded b.loaded n) ≡ not (n == 0)
    → is_some (body_with texts (record { base = b; deltas = sources added; room = room }) (place_of_all 0 n)) ≡ not (place_of_all 0 n == 0)
base_place_stands b added room n texts low some = stands_in_place texts (record { base = b; deltas = sources added; room = room }) 0 n b low refl some

-- a method that a delta lists has the one at its place in the newest such delta
found_file : (b : Source) (added upto : List Added) (room : ℕ) (u : Token) (k : ℕ) (found : IsFound b added u upto k) → found_in added u ≡ Some (upto, k) → file_of (record { base = b; deltas = sources added; room = room }) (length upto) ≡ Some found.last.delta
found_file b added upto room u k found is =
    let many : length upto ≡ suc (length found.older) = ap (λ (xs : List Added). length xs) found.upto_is in
    later_file (record { base = b; deltas = sources added; room = room }) (length upto) (length found.older) many ∙ file_found added upto u k found.last found.older is found.upto_is

pub found_place_body : (b : Source) (added upto : List Added) (room : ℕ) (u : Token) (k n : ℕ) (texts : ℕ
    → Option (List ℕ)) (found : IsFound b added u upto k) → KeepsTexts (joined_user (chain_with b (sources added)).heaps) texts
    → found_in added u ≡ Some (upto, k) → u.table ≡ 0x06 → newest_number upto (record { table = u.table; row = k }) 0 ≡ n → n < 2 ^ 32
    → cell_of (chain_with b (sources added)).plain u 0 ≡ Some
    (body (body_with texts (record { base = b; deltas = sources added; room = room }) (place_of_all (length upto) n)))
found_place_body b added upto room u k n texts found more is table told low =
    let h : History = record { base = b; deltas = sources added; room = room } in
    loaded_found b added upto u k n texts found more table told
    ∙ ap (λ x. Some (body x)) (sym (in_place texts h (length upto) n found.last.delta low (found_file b added upto room u k found is)))

pub found_place_stands : (b : Source) (added upto : List Added) (room : ℕ) (u : Token) (k n : ℕ) (texts : ℕ
    → Option (List ℕ)) (found : IsFound b added u upto k) → found_in added u ≡ Some (upto, k) → u.table ≡ 0x06
    → newest_number upto (record { table = u.table; row = k }) 0 ≡ n → n < 2 ^ 32
    → is_some (body_with texts (record { base = b; deltas = sources added; room = room }) (place_of_all (length upto) n)) ≡ not
    (place_of_all (length upto) n == 0)
found_place_stands b added upto room u k n texts found is table told low =
    let h : History = record { base = b; deltas = sources added; room = room } in
    let some = own_stands (chain_with b (sources found.older)) found.last.delta u k n found.is_added.follows found.place table
    (raw_found b added upto u k 0 n found told) in
    stands_in_place texts h (length upto) n found.last.delta low (found_file b added upto room u k found is) some

-- with one delta more it is the file of the last generation, and the others are the same
pub next_file : (h : History) (d : Source) (g : ℕ) → g ≡ length h.deltas + 1 → file_of (with_delta h d) g ≡ Some d
next_file h d g is = later_file (with_delta h d) g (length h.deltas) (omega (arith, is)) ∙ ap (delta_at (d ∷ h.deltas)) is ∙ source_last d h.deltas

file_stays : (h : History) (d : Source) (g : ℕ) (s : Source) → file_of h g ≡ Some s → file_of (with_delta h d) g ≡ Some s
file_stays h d zero s is = is
file_stays h d (suc n) s is = source_before d h.deltas (suc n) (omega (arith, slice_get_within (reverse h.deltas) n s is, length-reverse h.deltas)) ∙ is

zero_by : (n : ℕ) (b : Bool) → (n == 0) ≡ b → not b ≡ false → n ≡ 0
zero_by n true e h = is_zero n e
zero_by n false e h = absurd cc

-- so a number that tells a place, or is 0, tells the same with one delta more
place_by : (texts : ℕ → Option (List ℕ)) (h : History) (d : Source) (n : ℕ) (o : Option Source) → file_of h (n / 2 ^ 32) ≡ o
    → is_some (body_with texts h n) ≡ not (n == 0) → body_with texts (with_delta h d) n ≡ body_with texts h n
unfolding body_with
place_by texts h d n (Some s) is some = ap (option_and_then (λ (x : Source). body_loaded x.loaded texts (n % 2 ^ 32))) (file_stays h d (n / 2 ^ 32) s is
    ∙ sym is)
place_by texts h d n None is some =
    let told : is_some (body_with texts h n) ≡ false = ap (λ o. is_some (option_and_then (λ (x : Source). body_loaded x.loaded texts (n % 2 ^ 32)) o)) is in
    let at_zero : n ≡ 0 = zero_by n (n == 0) refl (sym some ∙ told) in
    ap (body_with texts (with_delta h d)) at_zero ∙ none_at_zero texts (with_delta h d) ∙ sym (none_at_zero texts h) ∙ ap (body_with texts h) (sym at_zero)

pub place_stays : (texts : ℕ → Option (List ℕ)) (h : History) (d : Source) (n : ℕ) → is_some (body_with texts h n) ≡ not (n == 0)
    → body_with texts (with_delta h d) n ≡ body_with texts h n
place_stays texts h d n some = place_by texts h d n (file_of h (n / 2 ^ 32)) refl some
