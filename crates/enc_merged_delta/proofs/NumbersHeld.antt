-- The rows of the two deltas, with their numbers moved, say what both say.
use Rattle.std.proofs.Common.{◌≡◌, ℕ, zero, suc, ◌+◌, ◌-◌, ◌^◌, ◌<◌, ◌≤◌, Bool, true, false, List, [], ◌∷◌, length, Option, Some, None, refl, sym, ap, ◌∙◌, arith}
use Rattle.std.specs.Prelude.{◌==◌, ◌||◌, filter, slice_get, if◌then◌else◌}
use Rattle.std.specs.List.{list_any}
use Rattle.std.proofs.lemmas.Bool.Decides.{nat_tests}
use Rattle.enc_base.proofs.SmallNumbers.{EachIsByte}
use Rattle.enc_base.specs.Numbers.{padded}
use Rattle.enc_base.specs.Token.{is_token}
use Rattle.enc_base.specs.declared.token.Token.{Token}
use Rattle.enc_meta.specs.Regions.{Region}
use Rattle.enc_opcodes.specs.Body.{Code}
use Rattle.enc_rows.specs.Source.{Source}
use Rattle.enc_plain.specs.Bodies.{code_loaded}
use Rattle.enc_plain.specs.Chain.{Chain, rows_before}
use Rattle.enc_delta.specs.Delta.{listed, place_in}
use Rattle.enc_delta.specs.Rules.{reading_after, rows_with}
use Rattle.enc_delta.specs.Seen.{WasRead}
use Rattle.enc_delta.proofs.Placing.{place_none, place_there}
use Rattle.enc_agg.specs.Extend.{extended}
use Rattle.enc_agg.proofs.Fitting.{fits}
use Rattle.enc_agg.proofs.SoundDeltas.{delta_bytes}
use Rattle.enc_agg.proofs.Viewing.{kept_cell}
use Rattle.enc_merged_delta.specs.Merged.{MayMerge, after_both, is_in_map}
use Rattle.enc_merged_delta.specs.Held.{HaveShortCode, NumbersAreHeld, heaps_with_merged, il_of, place_moved, reading_merged, shift_of}
use Rattle.enc_merged_delta.proofs.Counts.{grows, rows_first, rows_second, tables_after}
use Rattle.enc_merged_delta.proofs.LoadedBoth.{body_there, first_stands, read_loaded, second_stands}
use Rattle.enc_merged_delta.proofs.MovedEntries.{both_blob, both_guid, both_text, both_user, first_blob, first_text, first_user, guid_stays, no_text, text_stays}
use Rattle.enc_merged_delta.proofs.MovedNumbers.{Carried}
use Rattle.enc_merged_delta.proofs.MovedRows.{Moves, held_at}

-- a listed token has a row, and no other
same_token : (u : Token) → is_token u u ≡ true
same_token u = grind (arith, nat_tests)

of_filter : (p : Token → Bool) (xs : List Token) (i : ℕ) (u : Token) → slice_get (filter p xs) i ≡ Some u → list_any (λ t. is_token t u) xs ≡ true
of_filter p [] i u e = absurd cc
of_filter p (x ∷ xs) i u e = by (p x) i e (λ j f. of_filter p xs j u f)
  where
    behind : (b : Bool) → list_any (λ t. is_token t u) xs ≡ true → (b || list_any (λ t. is_token t u) xs) ≡ true
    behind true h = refl
    behind false h = h

    by : (b : Bool) (i : ℕ) → slice_get (if b then x ∷ filter p xs else filter p xs) i ≡ Some u
        → ((j : ℕ) → slice_get (filter p xs) j ≡ Some u → list_any (λ t. is_token t u) xs ≡ true) → (is_token x u || list_any (λ t. is_token t u) xs) ≡ true
    by true zero e more = let is : x ≡ u = cc in rw (ap (λ (t : Token). is_token t u) is ∙ same_token u) refl
    by true (suc i) e more = behind (is_token x u) (more i e)
    by false i e more = behind (is_token x u) (more i e)

unlisted : (s : Source) (u : Token) → is_in_map s u ≡ false → place_in (listed s) u ≡ None
unlisted s u not_there = by (place_in (listed s) u) refl
  where
    by : (o : Option ℕ) → place_in (listed s) u ≡ o → o ≡ None
    by None e = refl
    by (Some k) e =
        let is : is_in_map s u ≡ true = of_filter (λ (t : Token). t.table == u.table) (listed s) (k - 1) u (place_there (listed s) u k e).1 in
        absurd (let no : true ≡ false = sym is ∙ not_there in cc)

placed : (s : Source) (u : Token) → is_in_map s u ≡ true → (k : ℕ) × (place_in (listed s) u ≡ Some k)
placed s u there = by (place_in (listed s) u) refl
  where
    by : (o : Option ℕ) → place_in (listed s) u ≡ o → (k : ℕ) × (o ≡ Some k)
    by (Some k) e = (k, refl)
    by None e = absurd (let no : true ≡ false = sym there ∙ place_none (listed s) u e in cc)

stream_bytes : (s : Source) → WasRead s → EachIsByte s.stream
stream_bytes s was = (delta_bytes was.metadata was.il s was.bytes was.code was.read).stream

-- the first
first_counts : (c : Chain) (a b : Source) → MayMerge c a b → (t : ℕ) → rows_with c (listed a) t ≤ rows_before (after_both c a b) t
first_counts c a b may t =
    let one = rows_first c a b may t in
    let two = rows_second c a b may t in
    let more = grows (extended c a) (listed b) t in
    omega (arith, one, two, more)

first_reads : (c : Chain) (a b : Source) → MayMerge c a b → Carried (reading_after c a) (reading_merged c a b) (after_both c a b).heaps
unfolding reading_after extended
first_reads c a b may = record {
  text = λ n x e. text_stays ((extended c a).heaps) b.heaps n x e;
  full = λ n d x e. first_text c a b n d x e;
  empty = no_text (heaps_with_merged c a b);
  blob = λ n x e. first_blob c a b n x e;
  guid = λ n x e. both_guid c a b n x (guid_stays (extended c a).heaps b.heaps n x e);
  count = λ t. first_counts c a b may t;
}

code_long : (s : Source) (n : ℕ) (v : Code) → WasRead s → code_loaded s.loaded (suc n) ≡ Some v → suc n + 1 ≤ length (il_of s)
unfolding code_loaded
code_long s n v was e = (body_there (il_of s) (suc n) v (sym (ap (λ (l : List Region). code_loaded l (suc n)) (read_loaded s was)) ∙ e)).0

first_small : (a b : Source) (n : ℕ) (v : Code) → WasRead a → HaveShortCode a b → code_loaded a.loaded n ≡ Some v → place_moved 0 n < 2 ^ 32
unfolding code_loaded
first_small a b zero v was short e = absurd cc
first_small a b (suc n) v was short e = let long = code_long a n v was e in grind (arith, short, long)

second_small : (a b : Source) (n : ℕ) (v : Code) → WasRead b → HaveShortCode a b → code_loaded b.loaded n ≡ Some v → place_moved (shift_of a) n < 2 ^ 32
unfolding code_loaded padded
second_small a b zero v was short e = absurd cc
second_small a b (suc n) v was short e = let long = code_long b n v was e in grind (arith, short, long)

first_moves : (c : Chain) (a b : Source) (u : Token) → MayMerge c a b → HaveShortCode a b → is_in_map b u ≡ false → Moves c a c a b 0 u
first_moves c a b u may short other = record {
  follows = may.first;
  fits = fits c a may.sound.owners.tables may.first.lands;
  stream = stream_bytes a may.first_read;
  carried = first_reads c a b may;
  users = λ o x e. first_user c a b o x e;
  count = first_counts c a b may;
  code = λ n v e. first_stands a b n v may.first_read e;
  small = λ n v e. first_small a b n v may.first_read short e;
  cell = λ i. sym (kept_cell (extended c a) b u i (fits (extended c a) b (tables_after c a b may) may.second.lands) (unlisted b u other));
}

-- the second
second_counts : (c : Chain) (a b : Source) → MayMerge c a b → (t : ℕ) → rows_with (extended c a) (listed b) t ≤ rows_before (after_both c a b) t
second_counts c a b may t = let two = rows_second c a b may t in omega (arith, two)

second_reads : (c : Chain) (a b : Source) → MayMerge c a b → Carried (reading_after (extended c a) b) (reading_merged c a b) (after_both c a b).heaps
unfolding reading_after extended
second_reads c a b may = record {
  text = λ n x e. e;
  full = λ n d x e. both_text c a b n d x e;
  empty = no_text (heaps_with_merged c a b);
  blob = λ n x e. both_blob c a b n x e;
  guid = λ n x e. both_guid c a b n x e;
  count = λ t. second_counts c a b may t;
}

second_moves : (c : Chain) (a b : Source) (u : Token) → MayMerge c a b → HaveShortCode a b → Moves (extended c a) b c a b (shift_of a) u
unfolding extended
second_moves c a b u may short = record {
  follows = may.second;
  fits = fits (extended c a) b (tables_after c a b may) may.second.lands;
  stream = stream_bytes b may.second_read;
  carried = second_reads c a b may;
  users = λ o x e. both_user c a b o x e;
  count = second_counts c a b may;
  code = λ n v e. second_stands a b n v may.second_read e;
  small = λ n v e. second_small a b n v may.second_read short e;
  cell = λ i. refl;
}

pub numbers_are_held : NumbersAreHeld
numbers_are_held c a b u i column may short there = (
  (λ is. let p = placed b u is in held_at (extended c a) b c a b (shift_of a) p.0 u i column (second_moves c a b u may short) p.1 there),
  (λ other is. let p = placed a u is in held_at c a c a b 0 p.0 u i column (first_moves c a b u may short other) p.1 there),
)
