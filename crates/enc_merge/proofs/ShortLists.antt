-- The lists of two deltas are short, as their streams are: each entry of EncLog takes eight bytes, and each token of EncMap has its own.
use Rattle.std.proofs.Common.{◌≡◌, ℕ, ◌+◌, ◌*◌, ◌<◌, ◌≤◌, ◌≢◌, Bool, true, false, List, [], ◌∷◌, ◌++◌, length, map, Option, Some, None, Result, Ok, Err, refl, sym, ap, ◌∙◌, subst, inl, inr, arith}
use Rattle.std.specs.Prelude.{◌^◌, ◌&&◌, ◌==◌, not, filter, nat_le, nat_lt, option_and_then, replicate, slice_get, if◌then◌else◌}
use Rattle.std.specs.Int.{w64}
use Rattle.std.specs.List.{list_all}
use Rattle.std.proofs.lemmas.Bool.{and_parts, cases_Bool, or_cases, or_left, or_right}
use Rattle.std.proofs.lemmas.Bool.Decides.{nat_tests}
use Rattle.std.proofs.lemmas.List.{length-append, length-map}
use Rattle.std.proofs.lemmas.List.Folds.{list_any-append}
use Rattle.enc_base.specs.Numbers.{little_endian_at}
use Rattle.enc_base.specs.Token.{number_of}
use Rattle.enc_base.specs.declared.refusal.Refusal.{Refusal}
use Rattle.enc_meta.specs.Heaps.{part}
use Rattle.enc_meta.specs.Root.{root_of}
use Rattle.enc_meta.specs.declared.root.Root.{Root}
use Rattle.enc_meta.specs.declared.span.Span.{Span}
use Rattle.enc_plain.specs.Chain.{Chain}
use Rattle.enc_rows.specs.Layout.{Layout, form_allows, is_whole, laid_out, layout_of, rows_begin, rows_of, stream_tables, table_bytes, table_start, tables_or_fault, whole_layout}
use Rattle.enc_rows.specs.Source.{Source}
use Rattle.enc_rows.specs.declared.form.Form.TheVariants as form
use Rattle.enc_rows.proofs.Below.{sum_part}
use Rattle.enc_rows.proofs.Listed.{length_below}
use Rattle.enc_schema.specs.Schema.{columns_in}
use Rattle.enc_base.specs.Tables as tables
use Rattle.enc_schema.specs.Widths.{Shape, row_width}
use Rattle.enc_delta.specs.Delta.{delta_layout, delta_of, delta_source, entry_at, listed, log_in, source_in, source_with}
use Rattle.enc_delta.specs.Rules.{changed, counted, counts, stands_in}
use Rattle.enc_delta.specs.Seen.{WasRead}
use Rattle.enc_delta.specs.declared.log_entry.LogEntry.{LogEntry}
use Rattle.enc_delta.proofs.ListsSets.{Rises, rises}
use Rattle.enc_agg.specs.Extend.{extended}
use Rattle.enc_agg.specs.Follows.{Lands}
use Rattle.enc_agg.specs.Seen.{History}
use Rattle.enc_merged_delta.proofs.LogSets.{same_in}
use Rattle.enc_merge.proofs.ListRows.{filter_few}
use Rattle.enc_merge.specs.Writing.{AreLast, AreOfEither, Both}

-- the entries of EncLog stand in the stream, behind its header
abbrev IsRoomy : List ℕ → Layout → Type 0
IsRoomy stream l = 24 + 8 * rows_of l tables.enc_log ≤ length stream

log_width : (s : Shape) → row_width s tables.enc_log ≡ 8
unfolding row_width columns_in
log_width s = refl

begin_low : (valid flags : ℕ) → 24 ≤ rows_begin valid flags
unfolding rows_begin
begin_low valid flags = omega arith

roomy : (stream : List ℕ) (l : Layout) → 24 ≤ l.first → table_start l 64 ≤ length stream → IsRoomy stream l
unfolding table_start
roomy stream l low end =
    let part_of = sum_part (table_bytes l) tables.enc_log 64 (omega arith) in
    let own : table_bytes l tables.enc_log ≡ rows_of l tables.enc_log * 8 = ap (λ n. rows_of l tables.enc_log * n) (log_width l.shape) in
    omega (arith, low, end, part_of, own)

laid_roomy : (stream : List ℕ) (valid : ℕ) (made l : Layout) (b : Bool) → 24 ≤ made.first → is_whole (length stream) form.Delta valid made.counts made.first (table_start made 64) ≡ b
    → (if b then Some made else None) ≡ Some l → IsRoomy stream l
laid_roomy stream valid made l true low is h =
    let same : made ≡ l = cc in
    let a = and_parts (nat_le made.first (length stream) && list_all (λ n. nat_lt n 0x1000000) made.counts && form_allows form.Delta valid made.counts) (nat_le (table_start made 64) (length stream)) is in
    let end : table_start made 64 ≤ length stream = let e = a.1 in grind (arith, nat_tests, e) in
    rw (← same) (roomy stream made low end)
laid_roomy stream valid made l false low is h = absurd cc

if_whole : (stream : List ℕ) (valid : ℕ) (made l : Layout) → 24 ≤ made.first → whole_layout stream form.Delta valid made ≡ Some l → IsRoomy stream l
unfolding whole_layout
if_whole stream valid made l low h = laid_roomy stream valid made l (is_whole (length stream) form.Delta valid made.counts made.first (table_start made 64)) low refl h

by_flags : (stream : List ℕ) (span : Span) (jtd : Bool) (outer : List ℕ) (valid : ℕ) (l : Layout) (o : Option ℕ) → option_and_then (λ flags. whole_layout stream form.Delta valid (laid_out stream span valid flags jtd outer)) o ≡ Some l
    → IsRoomy stream l
unfolding laid_out
by_flags stream span jtd outer valid l None h = absurd cc
by_flags stream span jtd outer valid l (Some flags) h = if_whole stream valid (laid_out stream span valid flags jtd outer) l (begin_low valid flags) h

by_valid : (stream : List ℕ) (span : Span) (jtd : Bool) (outer : List ℕ) (l : Layout) (o : Option ℕ)
    → option_and_then (λ valid. option_and_then (λ flags. whole_layout stream form.Delta valid (laid_out stream span valid flags jtd outer)) (slice_get stream 6)) o ≡ Some l → IsRoomy stream l
by_valid stream span jtd outer l None h = absurd cc
by_valid stream span jtd outer l (Some valid) h = by_flags stream span jtd outer valid l (slice_get stream 6) h

layout_roomy : (stream : List ℕ) (span : Span) (jtd : Bool) (outer : List ℕ) (l : Layout) → layout_of stream span form.Delta jtd outer ≡ Some l → IsRoomy stream l
unfolding layout_of
layout_roomy stream span jtd outer l h = by_valid stream span jtd outer l (little_endian_at w64 stream 8) h

not_fault : (o : Option Layout) (l : Layout) → tables_or_fault o ≡ Ok l → o ≡ Some l
not_fault (Some x) l h = let same : x ≡ l = cc in ap (λ (y : Layout). Some y) same
not_fault None l h = absurd cc

root_roomy : (bytes : List ℕ) (root : Root) (l : Layout) → delta_layout bytes root ≡ Ok l → IsRoomy (part bytes root.tables) l
unfolding delta_layout stream_tables
root_roomy bytes root l h =
    layout_roomy (part bytes root.tables) root.tables root.jtd (replicate 64 0) l (not_fault (layout_of (part bytes root.tables) root.tables form.Delta root.jtd (replicate 64 0)) l h)

by_layout : (metadata il : List ℕ) (root : Root) (o : Result Layout Refusal) (s : Source) → delta_layout metadata root ≡ o → source_with metadata il root o ≡ Ok s → IsRoomy s.stream s.layout
by_layout metadata il root (Ok l) s laid h = let e : delta_source metadata il root l ≡ s = cc in subst (λ (x : Source). IsRoomy x.stream x.layout) e (root_roomy metadata root l laid)
by_layout metadata il root (Err e) s laid h = absurd cc

by_root : (metadata il : List ℕ) (o : Result Root Refusal) (s : Source) → source_in metadata il o ≡ Ok s → IsRoomy s.stream s.layout
by_root metadata il (Ok root) s h = by_layout metadata il root (delta_layout metadata root) s refl h
by_root metadata il (Err e) s h = absurd cc

read_roomy : (metadata il : List ℕ) (s : Source) → delta_of metadata il ≡ Ok s → IsRoomy s.stream s.layout
unfolding delta_of
read_roomy metadata il s h = by_root metadata il (root_of metadata) s h

log_many : (s : Source) → length (log_in s) ≡ rows_of s.layout tables.enc_log
unfolding log_in
log_many s = length_below (entry_at s) (rows_of s.layout tables.enc_log)

log_short : (s : Source) → WasRead s → 24 + 8 * length (counted (log_in s)) ≤ length s.stream
unfolding counted
log_short s was =
    let room = read_roomy was.metadata was.il s was.read in
    let fewer = filter_few counts (log_in s) in
    let many = log_many s in
    omega (arith, room, fewer, many)

-- so both logs have fewer entries than a table may have
pub logs_few : (h : History) (x : Both) → AreLast h x → length (counted (log_in x.first)) + length (counted (log_in x.second)) < 2 ^ 24
logs_few h x are =
    let first = log_short x.first are.first_read in
    let second = log_short x.second are.second_read in
    let short = are.stream in
    omega (arith, first, second, short)

-- numbers that rise, each of some others, are no more than these
abbrev without : ℕ → List ℕ → List ℕ
without x ys = filter (λ m. not (m == x)) ys

one_less : (x : ℕ) (ys : List ℕ) → stands_in ys x ≡ true → length (without x ys) + 1 ≤ length ys
one_less x [] there = absurd cc
one_less x (y ∷ ys) there = elim (cases_Bool (y == x)) [
  | inl here ↦ let fewer = filter_few (λ m. not (m == x)) ys in rw here (omega (arith, fewer))
  | inr other ↦
      let behind : stands_in ys x ≡ true = rw other at there in
      let less = one_less x ys behind in
      rw other (omega (arith, less))
]

still_there : (x t : ℕ) (ys : List ℕ) → x ≢ t → stands_in ys t ≡ true → stands_in (without x ys) t ≡ true
still_there x t [] apart there = absurd cc
still_there x t (y ∷ ys) apart there = elim (or_cases (y == t) (stands_in ys t) there) [
  | inl here ↦
      let is : y ≡ t = grind (arith, nat_tests, here) in
      let other : (y == x) ≡ false = grind (arith, nat_tests, is, apart) in
      rw other (or_left (y == t) (stands_in (without x ys) t) here)
  | inr behind ↦
      let rest = still_there x t ys apart behind in
      elim (cases_Bool (y == x)) [
        | inl gone ↦ rw gone rest
        | inr kept ↦ rw kept (or_right (y == t) (stands_in (without x ys) t) rest)
      ]
]

no_more : (xs ys : List ℕ) → Rises xs → ((n : ℕ) → stands_in xs n ≡ true → stands_in ys n ≡ true) → length xs ≤ length ys
no_more [] ys up each = omega arith
no_more (x ∷ xs) ys up each =
    let here : stands_in ys x ≡ true = each x (or_left (x == x) (stands_in xs x) (grind (arith, nat_tests))) in
    let less = one_less x ys here in
    let rest = no_more xs (without x ys) up.1 (λ n there.
    let past : x < n = up.0 n there in
    still_there x n ys (λ (e : x ≡ n). omega (arith, e, past)) (each n (or_right (x == n) (stands_in xs n) there))) in
    omega (arith, less, rest)

-- each token has its own entry with code 0
abbrev is_change : LogEntry → Bool
is_change e = counts e && e.operation == 0

change_step : (e : LogEntry) (es : List LogEntry) (a b : Bool) → counts e ≡ a → (e.operation == 0) ≡ b → length (filter is_change es) ≤ length (filter counts es)
    → length (filter is_change (e ∷ es)) ≤ length (filter counts (e ∷ es))
change_step e es true true p q more = rw (p, q) (omega (arith, more))
change_step e es true false p q more = rw (p, q) (omega (arith, more))
change_step e es false b p q more = rw p more

changes_few : (es : List LogEntry) → length (filter is_change es) ≤ length (filter counts es)
changes_few [] = omega arith
changes_few (e ∷ es) = change_step e es (counts e) (e.operation == 0) refl refl (changes_few es)

changed_few : (log : List LogEntry) → length (changed log) ≤ length (counted log)
unfolding changed counted
changed_few log =
    let named = length-map (filter is_change log) (λ (e : LogEntry). e.token) in
    let fewer = changes_few log in
    omega (arith, named, fewer)

-- so the two list fewer tokens than a table may have rows
abbrev changed_numbers : Source → List ℕ
changed_numbers s = map number_of (changed (log_in s))

own_entries : (c : Chain) (s : Source) (n : ℕ) → Lands c s → stands_in (map number_of (listed s)) n ≡ true → stands_in (changed_numbers s) n ≡ true
own_entries c s n lands there = (same_in c s lands).to n there

pub tokens_few : (h : History) (x : Both) (numbers : List ℕ) → AreLast h x → AreOfEither x.first x.second numbers → length numbers < 2 ^ 24
tokens_few h x numbers are tokens =
    let all = changed_numbers x.first ++ changed_numbers x.second in
    let fewer = no_more numbers all (rises numbers tokens.rises) (λ n there.
    list_any-append (λ m. m == n) (changed_numbers x.first) (changed_numbers x.second)
    ∙ elim (or_cases (stands_in (map number_of (listed x.first)) n) (stands_in (map number_of (listed x.second)) n) (sym (tokens.each n) ∙ there)) [
      | inl a ↦ or_left (stands_in (changed_numbers x.first) n) (stands_in (changed_numbers x.second) n) (own_entries x.chain x.first n are.first.lands a)
      | inr b ↦ or_right (stands_in (changed_numbers x.first) n) (stands_in (changed_numbers x.second) n) (own_entries (extended x.chain x.first) x.second n are.second.lands b)
    ]) in
    let both = length-append (changed_numbers x.first) (changed_numbers x.second) in
    let one = length-map (changed (log_in x.first)) number_of in
    let two = length-map (changed (log_in x.second)) number_of in
    let first = changed_few (log_in x.first) in
    let second = changed_few (log_in x.second) in
    omega (arith, fewer, both, one, two, first, second, logs_few h x are)
