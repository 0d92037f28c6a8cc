-- A delta that breaks no rule after a chain leaves its module sound.
use Rattle.std.proofs.Common.{◌≡◌, ℕ, ◌/◌, ◌%◌, ◌^◌, ◌<◌, Bool, true, false, cond, List, [], ◌∷◌, map, Some, None, Result, Ok, Err, refl, ap, arith}
use Rattle.std.specs.Prelude.{nat_lt}
use Rattle.std.specs.List.{list_all}
use Rattle.std.proofs.Math.Nat.{mod-lt}
use Rattle.std.proofs.lemmas.Bool.Decides.{nat_tests}
use Rattle.enc_base.specs.Numbers.{AreBytes}
use Rattle.enc_base.specs.Token.{nth_row}
use Rattle.enc_base.specs.declared.refusal.Refusal.{Refusal}
use Rattle.enc_base.specs.declared.token.Token.{Token}
use Rattle.enc_base.proofs.SmallNumbers.{EachIsByte, bytes_each}
use Rattle.enc_meta.specs.declared.root.Root.{Root}
use Rattle.enc_meta.specs.Regions.{Region}
use Rattle.enc_meta.specs.Root.{root_of}
use Rattle.enc_schema.specs.declared.column.Column.TheVariants.{Num32}
use Rattle.enc_schema.specs.Schema.{columns_in}
use Rattle.enc_rows.specs.Layout.{Layout, rows_of}
use Rattle.enc_rows.specs.Source.{Source, raw_in}
use Rattle.enc_rows.specs.Sums.{below}
use Rattle.enc_plain.specs.Chain.{Chain}
use Rattle.enc_plain.specs.Sound.{IsSound}
use Rattle.enc_plain.proofs.LoadedBytes.{AreLoaded}
use Rattle.enc_delta.specs.Seen.{WasRead}
use Rattle.enc_delta.specs.Delta.{map_token, map_in, listed, loaded_code, delta_source, source_with, source_in, delta_layout, delta_of}
use Rattle.enc_delta.specs.Judged.{first_meta}
use Rattle.enc_image.proofs.Opens.{each_part}
use Rattle.enc_image.proofs.SoundCells.{raw_fits}
use Rattle.enc_agg.specs.Extend.{extended, chain_with}
use Rattle.enc_agg.specs.Follows.{Follows, AllFollow}
use Rattle.enc_agg.specs.Laws.{ChainsAreSound}
use Rattle.enc_agg.proofs.Children.{owned_after}
use Rattle.enc_agg.proofs.Fitting.{fits, count_is, has_tables, has_runs}
use Rattle.enc_agg.proofs.Judged.{judged_rows}
use Rattle.enc_agg.proofs.KeptRows.{JudgedBy}
use Rattle.enc_agg.proofs.SoundCells.{Says, cells_after_are}
use Rattle.enc_agg.proofs.SoundKinds.{kinds_after}
use Rattle.enc_agg.proofs.SoundSignatures.{signatures_after}
use Rattle.enc_agg.proofs.SoundTables.{counts_after}
use Rattle.enc_agg.proofs.Tokens.{all_filter, place_row}
use Rattle.enc_delta.proofs.Unbroken.{unbroken, first_rules}

-- its numbers and its code are bytes
pub record IsOfBytes (s : Source) : Type 0 where
  pub stream : EachIsByte s.stream
  pub loaded : AreLoaded s.loaded

pub keeps_sound : (c : Chain) (s : Source) → IsOfBytes s → Follows c s → IsSound c.plain → IsSound (extended c s).plain
keeps_sound c s bytes follows sound =
    let has = sound.owners.tables in
    let u = unbroken c s follows.rules in
    let fit = fits c s has follows.lands in
    let judged : JudgedBy c s = record { fit = fit; rows = λ t. judged_rows c s t has follows.lands; same = u.altered } in
    let many = count_is c s has follows.lands in
    let tables = has_tables c s has in
    let counts = counts_after c s u.early.tables u.early.cell_tables u.limit tables.all many sound.counts in
    let says : Says c s = record { follows = follows.lands; judged = judged; counts = many; bodies = u.broken_body; locals = u.locals; places = λ t k place. place_row c s t k follows.lands place; stream = bytes.stream; loaded = bytes.loaded } in
    record {
      owners = record { tables = tables; runs = has_runs c s has follows.lands sound.owners.runs; owned = owned_after c s has follows.lands sound.owners.runs sound.owners.owned };
      counts = counts;
      kinds = kinds_after c s follows.lands fit sound.kinds;
      cells = cells_after_are c s says tables counts sound.kinds sound.cells;
      signatures = signatures_after c s judged many u.signatures sound.signatures;
    }

-- the parts of a delta's files are bytes
one_region : (il : List ℕ) (test : Region → Bool) (r : Region) (b : Bool) → EachIsByte il → cond b (Some (record { address = 0; bytes = il })) None ≡ Some r → EachIsByte r.bytes
one_region il test r true all h = let is : record { address = 0; bytes = il } ≡ r = cc in let e : il ≡ r.bytes = ap (λ (x : Region). x.bytes) is in rw (← e) all
one_region il test r false all h = absurd cc

code_loaded : (il : List ℕ) → EachIsByte il → AreLoaded (loaded_code il)
code_loaded il all = record { each = λ test r h. one_region il test r (test (record { address = 0; bytes = il })) all h }

made_of : (metadata il : List ℕ) (root : Root) (l : Layout) → EachIsByte metadata → EachIsByte il → IsOfBytes (delta_source metadata il root l)
made_of metadata il root l a b = record { stream = each_part metadata root.tables a; loaded = code_loaded il b }

done : Source → Result Source Refusal
done s = Ok s

same_source : (x s : Source) → done x ≡ Ok s → x ≡ s
unfolding done
same_source x s h = cc

by_layout : (metadata il : List ℕ) (root : Root) (o : Result Layout Refusal) (s : Source) → EachIsByte metadata → EachIsByte il → source_with metadata il root o ≡ Ok s → IsOfBytes s
unfolding done
by_layout metadata il root (Ok l) s a b h = rw (← same_source (delta_source metadata il root l) s h) (made_of metadata il root l a b)
by_layout metadata il root (Err e) s a b h = absurd cc

by_root : (metadata il : List ℕ) (o : Result Root Refusal) (s : Source) → EachIsByte metadata → EachIsByte il → source_in metadata il o ≡ Ok s → IsOfBytes s
by_root metadata il (Ok root) s a b h = by_layout metadata il root (delta_layout metadata root) s a b h
by_root metadata il (Err e) s a b h = absurd cc

pub delta_bytes : (metadata il : List ℕ) (s : Source) → AreBytes metadata → AreBytes il → delta_of metadata il ≡ Ok s → IsOfBytes s
unfolding delta_of
delta_bytes metadata il s a b h = by_root metadata il (root_of metadata) s (bytes_each metadata a) (bytes_each il b) h

-- so its tokens are such by their numbers
table_of : (n : ℕ) → nat_lt n (2 ^ 32) ≡ true → nat_lt (n / 0x1000000) 0x100 ≡ true
table_of n h =
    let few : n < 2 ^ 32 = grind (arith, nat_tests) in
    let low : n / 0x1000000 < 0x100 = omega arith in
    grind (arith, nat_tests)

row_of : (n : ℕ) → nat_lt (n % 0x1000000) 0x1000000 ≡ true
row_of n =
    let low : n % 0x1000000 < 0x1000000 = mod-lt n (omega arith) in
    grind (arith, nat_tests)

all_mapped : {A B : Type 0} (f : A → B) (p : B → Bool) (xs : List A) → ((x : A) → p (f x) ≡ true) → list_all p (map f xs) ≡ true
all_mapped f p [] each = refl
all_mapped f p (x ∷ xs) each = rw (each x, all_mapped f p xs each) refl

tables_few : (s : Source) → EachIsByte s.stream → list_all (λ (t : Token). nat_lt t.table 0x100) (listed s) ≡ true
unfolding listed map_in map_token columns_in
tables_few s all = all_filter _ (λ (t : Token). nat_lt t.table 0x100) (map_in s) (all_mapped (map_token s) (λ (t : Token). nat_lt t.table 0x100) (below (rows_of s.layout 0x1F)) (λ i. table_of (raw_in s (nth_row 0x1F i) 0) (raw_fits s (nth_row 0x1F i) 0 Num32 all refl)))

rows_few : (s : Source) → list_all (λ (t : Token). nat_lt t.row 0x1000000) (listed s) ≡ true
unfolding listed map_in map_token
rows_few s = all_filter _ (λ (t : Token). nat_lt t.row 0x1000000) (map_in s) (all_mapped (map_token s) (λ (t : Token). nat_lt t.row 0x1000000) (below (rows_of s.layout 0x1F)) (λ i. row_of (raw_in s (nth_row 0x1F i) 0)))

pub bytes_follow : (c : Chain) (s : Source) → IsOfBytes s → first_meta c s ≡ None → Follows c s
bytes_follow c s bytes none = record { lands = record { early = first_rules 14 c s none; tables = tables_few s bytes.stream; rows = rows_few s }; rules = none }

pub delta_keeps_sound : (c : Chain) (s : Source) → WasRead s → first_meta c s ≡ None → IsSound c.plain → IsSound (extended c s).plain
delta_keeps_sound c s w none sound =
    let bytes = delta_bytes w.metadata w.il s w.bytes w.code w.read in
    keeps_sound c s bytes (bytes_follow c s bytes none) sound

-- and so do all that follow one another
pub chains_are_sound : ChainsAreSound
unfolding AllFollow chain_with
chains_are_sound base [] all = all
chains_are_sound base (d ∷ older) all = delta_keeps_sound (chain_with base older) d all.0 all.1.0.rules (chains_are_sound base older all.1.1)
