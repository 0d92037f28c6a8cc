-- The first deltas of an aggregate: their rows and children in the module of all.
use Rattle.std.proofs.Common.{◌≡◌, ℕ, zero, suc, ◌+◌, ◌-◌, ◌<◌, ◌≤◌, Bool, true, false, List, [], ◌∷◌, ◌++◌, length, take, drop, reverse, Option, Some, None, refl, sym, ap, ◌∙◌, inl, inr, arith}
use Rattle.std.specs.Prelude.{IsTrue, ◌==◌, ◌&&◌, if◌then◌else◌, cond, nat_le, nat_lt, slice_get, count_by, flat_map, map}
use Rattle.std.proofs.lemmas.Bool.{cases_lt}
use Rattle.std.proofs.lemmas.Bool.Decides.{nat_tests}
use Rattle.std.proofs.lemmas.List.{length-append, drop-map}
use Rattle.std.proofs.lemmas.Option.{slice_get_within}
use Rattle.enc_base.specs.declared.token.Token.{Token}
use Rattle.enc_base.specs.Token.{is_token}
use Rattle.enc_rows.specs.Source.{Source}
use Rattle.enc_schema.specs.Children.{is_child_table, owner_table}
use Rattle.enc_plain.specs.Apply.{Attached, gained}
use Rattle.enc_plain.specs.Chain.{Chain, rows_before}
use Rattle.enc_plain.specs.Module.{Module, Row, rows_in, row_at, row_of, has_row, kids_at, kids_with, kids_of}
use Rattle.enc_plain.specs.Sound.{HasOwners, IsOwned, all_kids}
use Rattle.enc_plain.proofs.Owned.{count_cons, count_append}
use Rattle.enc_delta.specs.Pairs.{attached_of}
use Rattle.enc_image.specs.Base.{cells_fault}
use Rattle.enc_agg.specs.declared.added.Added.{Added}
use Rattle.enc_agg.specs.declared.directory.Directory.{Directory}
use Rattle.enc_generation_map.specs.declared.places.Places.{Places}
use Rattle.enc_agg.specs.Earlier.{ComeFirst, StayChildren, IsEarlier, earlier_of}
use Rattle.enc_agg.specs.Prepared.{IsWhole}
use Rattle.enc_agg.specs.Extend.{extended, chain_with}
use Rattle.enc_agg.specs.Follows.{Lands}
use Rattle.enc_agg.specs.Seen.{sources, AllAdded}
use Rattle.enc_agg.proofs.Children.{kids_after, owner_kept, pairs_owned, rows_grow}
use Rattle.enc_generation_map.proofs.Keeping.{get_front}
use Rattle.enc_agg.proofs.Directories.{take_got}
use Rattle.enc_agg.proofs.EveryPlace.{keeps_first}
use Rattle.enc_agg.proofs.Generations.{reversed_part, all_without, sources_upto}
use Rattle.enc_agg.proofs.Histories.{last_added, with_sound}
use Rattle.enc_agg.proofs.Pairs.{AllOwned}

-- where each child row has just one owner, a child is one of the rows
counted : (p : ℕ → Bool) (xs : List ℕ) (i x : ℕ) → slice_get xs i ≡ Some x → p x ≡ true → 1 ≤ count_by p xs
counted p [] i x at is = absurd cc
counted p (y ∷ xs) zero x at is = let e : y ≡ x = cc in rw (count_cons p y xs, e, is) (omega arith)
counted p (y ∷ xs) (suc i) x at is = rw (count_cons p y xs) (let more = counted p xs i x at is in omega arith)

row_counted : (p : ℕ → Bool) (t : ℕ) (rows : List Row) (n : ℕ) (r : Row) (i x : ℕ) → slice_get rows n ≡ Some r → slice_get (kids_at r t) i ≡ Some x → p x ≡ true
    → 1 ≤ count_by p (flat_map (λ (y : Row). kids_at y t) rows)
row_counted p t [] n r i x there at is = absurd cc
row_counted p t (y ∷ rows) zero r i x there at is =
    let e : y ≡ r = cc in
    rw (count_append p (kids_at y t) (flat_map (λ (z : Row). kids_at z t) rows), e) (let more = counted p (kids_at r t) i x at is in omega arith)
row_counted p t (y ∷ rows) (suc n) r i x there at is =
    rw (count_append p (kids_at y t) (flat_map (λ (z : Row). kids_at z t) rows)) (let more = row_counted p t rows n r i x there at is in omega arith)

kid_counted : (m : Module) (u : Token) (t row i x : ℕ) (o : Option Row) (b c : Bool) → row_at (rows_in m u.table) row ≡ o → (u.table == owner_table t) ≡ c
    → slice_get (if b && c then kids_with o t else []) i ≡ Some x → 1 ≤ count_by (λ k. k == x) (all_kids m t)
kid_counted m u t row i x o false c there own at = absurd cc
kid_counted m u t row i x o true false there own at = absurd cc
kid_counted m u t row i x None true true there own at = absurd cc
kid_counted m u t zero i x (Some r) true true there own at = absurd cc
kid_counted m u t (suc n) i x (Some r) true true there own at =
    let e : u.table ≡ owner_table t = grind (arith, nat_tests) in
    let same : (x == x) ≡ true = grind (arith, nat_tests) in
    row_counted (λ k. k == x) t (rows_in m (owner_table t)) n r i x (rw e at there) at same

pub kid_within : (m : Module) (u : Token) (t i x : ℕ) → IsOwned m → is_child_table t ≡ true → slice_get (kids_of m u t) i ≡ Some x → x ≤ length (rows_in m t)
unfolding kids_of row_of
kid_within m u t i x owned there at =
    let some = kid_counted m u t u.row i x _ _ _ refl refl at in
    high x (length (rows_in m t)) _ some (owned.once t x there)
  where
    high : (x n c : ℕ) → 1 ≤ c → c ≡ cond (nat_le 1 x && nat_le x n) 1 0 → x ≤ n
    high zero n c some e = omega arith
    high (suc r) n c some e = elim (cases_lt n (suc r)) [
      | inl past ↦
          let a : nat_le (suc r) n ≡ false = grind (arith, nat_tests) in
          let b : nat_le 1 (suc r) ≡ true = grind (arith, nat_tests) in
          let none : c ≡ 0 = e ∙ rw (a, b) refl in
          absurd (omega (arith, none, some))
      | inr le ↦ le
    ]

-- what a delta attaches are rows past those before it
abbrev AllPast : ℕ → List ℕ → Type 0
AllPast n xs = (i x : ℕ) → slice_get xs i ≡ Some x → n < x

past_cons : (n y : ℕ) (xs : List ℕ) → n < y → AllPast n xs → AllPast n (y ∷ xs)
past_cons n y xs less rest zero x at = let e : y ≡ x = cc in omega arith
past_cons n y xs less rest (suc i) x at = rest i x at

past_step : (b : Bool) (n : ℕ) (a : Attached) (pairs : List Attached) → (b ≡ true → n < a.child.row) → AllPast n (map (λ (x : Attached). x.child.row) pairs)
    → AllPast n (map (λ (x : Attached). x.child.row) (cond b (a ∷ pairs) pairs))
past_step true n a pairs less rest = past_cons n a.child.row (map (λ (x : Attached). x.child.row) pairs) (less refl) rest
past_step false n a pairs less rest = rest

equal_table : (a b : Bool) (t s : ℕ) → b ≡ (t == s) → (a && b) ≡ true → t ≡ s
equal_table true true t s e h = grind (arith, nat_tests)
equal_table true false t s e h = absurd cc
equal_table false b t s e h = absurd cc

gained_past : (count before : ℕ → ℕ) (pairs : List Attached) (u : Token) (t : ℕ) → AllOwned count before pairs → AllPast (before t) (gained pairs u t)
gained_past count before [] u t all = λ i x at. absurd cc
gained_past count before (a ∷ pairs) u t all =
    past_step (is_token a.owner u && a.child.table == t) (before t) a _ (λ mine. let e = equal_table (is_token a.owner u) (a.child.table == t) a.child.table t refl mine in rw e at all.0.new)
    (gained_past count before pairs u t all.1)

-- the first stay so with others behind them
first_more : (first all more : List ℕ) (last n : ℕ) → last ≤ n → ComeFirst first all last → AllPast n more → ComeFirst first (all ++ more) last
first_more first all more last n le h past = record {
  few = omega (arith, h.few, length-append all more);
  same = λ i low. get_front all more i (omega (arith, low, h.few)) ∙ h.same i low;
  low = λ i x low at. h.low i x low (sym (get_front all more i (omega (arith, low, h.few))) ∙ at);
  high = λ i x from at. elim (cases_lt i (length all)) [
    | inl front ↦ h.high i x from (sym (get_front all more i front) ∙ at)
    | inr behind ↦ let less = past (i - length all) x (sym (get_past all more i behind) ∙ at) in omega (arith, less, le)
  ];
}
  where
    get_past : (xs ys : List ℕ) (i : ℕ) → length xs ≤ i → slice_get (xs ++ ys) i ≡ slice_get ys (i - length xs)
    get_past [] ys i h = let e : i - 0 ≡ i = omega arith in rw e refl
    get_past (x ∷ xs) ys zero h = absurd (omega arith)
    get_past (x ∷ xs) ys (suc i) h = let e : suc i - length (x ∷ xs) ≡ i - length xs = omega arith in rw e (get_past xs ys i (omega arith))

-- a module has its own children
stay_same : (m : Module) → HasOwners m → StayChildren m m
stay_same m sound = record {
  rows = λ u there. there;
  owners = λ u child there. refl;
  kids = λ u t child. record {
    few = omega arith;
    same = λ i low. refl;
    low = λ i x low at. kid_within m u t i x sound.owned child at;
    high = λ i x from at. absurd (let low = slice_get_within (kids_of m u t) i x at in omega arith);
  };
}

has_more : (row few many : ℕ) → few ≤ many → (nat_lt 0 row && nat_le row few) ≡ true → (nat_lt 0 row && nat_le row many) ≡ true
has_more row few many le h = grind (arith, nat_tests)

row_stays : (m n : Module) (u : Token) → length (rows_in m u.table) ≤ length (rows_in n u.table) → IsTrue (has_row m u) → IsTrue (has_row n u)
unfolding has_row
row_stays m n u le there = has_more u.row (length (rows_in m u.table)) (length (rows_in n u.table)) le there

row_bounds : (m : Module) (u : Token) → IsTrue (has_row m u) → (1 ≤ u.row) × (u.row ≤ length (rows_in m u.table))
unfolding has_row
row_bounds m u there = (grind (arith, nat_tests), grind (arith, nat_tests))

stay_more : (m : Module) (c : Chain) (s : Source) → HasOwners c.plain → Lands c s → ((t : ℕ) → length (rows_in m t) ≤ length (rows_in c.plain t)) → StayChildren m c.plain → StayChildren m (extended c s).plain
stay_more m c s sound lands grows h = record {
  rows = λ u there. row_stays c.plain (extended c s).plain u (rows_grow c s sound.tables lands u.table) (h.rows u there);
  owners = λ u child there.
      let at = row_bounds c.plain u (h.rows u there) in
      owner_kept c s sound.tables lands sound.runs sound.owned u child at.0 at.1 ∙ h.owners u child there;
  kids = λ u t child. rw (kids_after c s sound.tables lands sound.runs u t child)
      (first_more (kids_of m u t) (kids_of c.plain u t) (gained (attached_of s) u t) (length (rows_in m t)) (length (rows_in c.plain t)) (grows t) (h.kids u t child)
      (gained_past _ (rows_before c) (attached_of s) u t (pairs_owned c s lands)));
}

rows_behind : (b : Source) (added : List Added) (k : ℕ) → cells_fault b ≡ None → AllAdded b added → (t : ℕ)
    → length (rows_in (chain_with b (sources (drop k added))).plain t) ≤ length (rows_in (chain_with b (sources added)).plain t)
unfolding chain_with
rows_behind b added zero clean all t = omega arith
rows_behind b [] (suc k) clean all t = omega arith
rows_behind b (a ∷ older) (suc k) clean all t =
    let parts = last_added b a older all in
    let sound = with_sound b older clean parts.1 in
    omega (arith, rows_behind b older k clean parts.1 t, rows_grow (chain_with b (sources older)) a.delta sound.tables parts.0.follows.lands t)

pub stay_behind : (b : Source) (added : List Added) (k : ℕ) → cells_fault b ≡ None → AllAdded b added
    → StayChildren (chain_with b (sources (drop k added))).plain (chain_with b (sources added)).plain
unfolding chain_with
stay_behind b added zero clean all = stay_same (chain_with b (sources added)).plain (with_sound b added clean all)
stay_behind b [] (suc k) clean all = stay_same (chain_with b []).plain (with_sound b [] clean all)
stay_behind b (a ∷ older) (suc k) clean all =
    let parts = last_added b a older all in
    stay_more (chain_with b (sources (drop k older))).plain (chain_with b (sources older)) a.delta (with_sound b older clean parts.1) parts.0.follows.lands
    (rows_behind b older k clean parts.1) (stay_behind b older k clean parts.1)

-- what is known of the first deltas
pub is_earlier : (b : Source) (added front : List Added) (g room : ℕ) (x : Directory) (p : Places) → front ≡ take g added → g ≤ length (sources (reverse added))
    → IsWhole b (reverse added) x p → IsEarlier b (reverse front) p (record { base = b; deltas = sources (reverse added); room = room })
is_earlier b added front g room x p is few whole =
    let k = length added - g in
    let e : reverse front ≡ drop k (reverse added) = ap reverse is ∙ reversed_part added g in
    let clean = whole.deltas.sound in
    let all = all_without b k (reverse added) whole.deltas.all in
    rw e (record {
      deltas = record { sound = clean; all = all };
      sound = whole.sound k;
      places = rw (← drop-map (λ (a : Added). a.delta) k (reverse added)) (keeps_first (sources (reverse added)) k p whole.places.first);
      children = stay_behind b (reverse added) k clean whole.deltas.all;
    })

pub earlier_is : (b : Source) (added front : List Added) (g room : ℕ) → front ≡ take g added
    → record { base = b; deltas = sources (reverse front); room = 0 } ≡ earlier_of g (record { base = b; deltas = sources (reverse added); room = room })
earlier_is b added front g room is = rw (is, sources_upto added g) refl

-- a child up to the last row that there was is one of the first, and no other
pub among_first : (first all : List ℕ) (last i x : ℕ) → ComeFirst first all last → slice_get all i ≡ Some x → x ≤ last → i < length first
among_first first all last i x h at le = elim (cases_lt i (length first)) [
  | inl front ↦ front
  | inr behind ↦ absurd (let past = h.high i x behind at in omega arith)
]

pub past_first : (first all : List ℕ) (last i x : ℕ) → ComeFirst first all last → slice_get all i ≡ Some x → last < x → length first ≤ i
past_first first all last i x h at less = elim (cases_lt i (length first)) [
  | inl front ↦ absurd (let le = h.low i x front at in omega arith)
  | inr behind ↦ behind
]

pub first_got : (first all : List ℕ) (last i x : ℕ) → ComeFirst first all last → i < length first → slice_get all i ≡ Some x → slice_get first i ≡ Some x
first_got first all last i x h low at = sym (h.same i low) ∙ at

pub one_row_more : (first all : List ℕ) (last i n x : ℕ) (rows more : List ℕ) → ComeFirst first all last → n ≡ length first → i < n → slice_get all i ≡ Some x
    → rows ≡ take i first → more ≡ rows ++ x ∷ [] → more ≡ take (i + 1) first
one_row_more first all last i n x rows more h many low at was put =
    put ∙ ap (λ xs. xs ++ x ∷ []) was ∙ sym (take_got first i x (first_got first all last i x h (omega (arith, many, low)) at))
