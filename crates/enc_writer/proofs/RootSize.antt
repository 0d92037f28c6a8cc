-- The metadata of a delta that breaks no rule has fewer than 2^32 bytes.
use Rattle.std.proofs.Common.{◌≡◌, ℕ, zero, suc, ◌+◌, ◌*◌, ◌<◌, ◌≤◌, Bool, true, false, inl, inr, List, [], ◌∷◌, ◌++◌, length, flat_map, map, replicate, refl, sym, ap, ◌∙◌, arith, length-append}
use Rattle.std.specs.Prelude.{◌^◌, ◌||◌, ◌==◌, sum_by, codes, if◌then◌else◌, nat_lt, nat_le, ◌/◌, ◌%◌}
use Rattle.std.specs.List.{list_all}
use Rattle.std.specs.Int.{w32, to_le_bytes}
use Rattle.std.proofs.Math.Nat.{mul-le-mul}
use Rattle.std.proofs.lemmas.Bool.{and_parts, or_parts, eqb-true}
use Rattle.std.proofs.lemmas.Bool.Decides.{nat_tests}
use Rattle.std.proofs.lemmas.List.{length-replicate}
use Rattle.std.proofs.lemmas.List.Concat.{length-flat_map}
use Rattle.std.proofs.lemmas.List.Sums.{sum_by-cons}
use Rattle.enc_base.specs.Numbers.{padded}
use Rattle.enc_meta.specs.Built.{Built, text_bytes, user_bytes, blob_bytes, heap_bytes, guid_bytes, joined_end, heaps_built}
use Rattle.enc_meta.specs.BuiltLaws.{IsGood}
use Rattle.enc_meta.specs.Heaps.{Counted}
use Rattle.enc_meta.specs.declared.heaps.HeapLengths.{HeapLengths}
use Rattle.enc_meta.specs.Joined.{joined_lengths, guid_entries}
use Rattle.enc_emit.specs.Written.{root_size, built_size}
use Rattle.enc_plain.specs.Chain.{Chain}
use Rattle.enc_rows.specs.Sums.{below, sum_below}
use Rattle.enc_rows.specs.Written.{rows_at, count_at, valid_of, shape_of, table_written, count_written, more_data, header_written, stream_of, heap_bits, AreRows}
use Rattle.enc_rows.proofs.Below.{sum_none, sum_suc}
use Rattle.enc_rows.proofs.Lengths.{Sizes, sizes, rows_length}
use Rattle.enc_rows.proofs.Listed.{get_below}
use Rattle.enc_rows.proofs.Stands.{pieces_length}
use Rattle.enc_schema.specs.Schema.{schema, list_at, columns_in}
use Rattle.enc_schema.specs.Widths.{Shape, width_of, space_of}
use Rattle.enc_schema.specs.declared.column.Column.{Column}
use Rattle.enc_edit_list.specs.declared.edit.EditList.{EditList}
use Rattle.enc_rules.specs.Rules.{passes_limits, heaps_with}
use Rattle.enc_list_delta.specs.Delta.{tokens_written, map_written}
use Rattle.enc_list_delta.specs.Holds.{MayFollow, heaps_written, SayRows, is_listed_table}
use Rattle.enc_list_delta.proofs.HeapRules.{starts_are, guids_are}
use Rattle.enc_list_delta.proofs.TokensUnbroken.{heaps_have_room}
use Rattle.enc_list_delta.proofs.TokensWritten.{one_of}
use Rattle.enc_writer.proofs.GuidRoom.{guid_room}
use Rattle.enc_writer.proofs.MapSays.{lists_more}

-- a column takes at most four bytes, and a table has at most nine
four_most : (width space : ℕ) → Sizes width space → space ≤ 4
four_most width space (inl e) = omega (arith, e.1)
four_most width space (inr (inl e)) = omega (arith, e.1)
four_most width space (inr (inr e)) = omega (arith, e.1)

column_few : (s : Shape) (c : Column) → space_of s c ≤ 4
column_few s c = four_most (width_of s c) (space_of s c) (sizes s c)

columns_few : (s : Shape) (cs : List Column) → sum_by (space_of s) cs ≤ 4 * length cs
columns_few s [] = omega arith
columns_few s (c ∷ cs) = omega (arith, sum_by-cons (space_of s) c cs, column_few s c, columns_few s cs)

abbrev is_narrow : ℕ → Bool
is_narrow table = nat_le (length (list_at schema table)) 9

narrow : list_all is_narrow (map (λ k. k) (below 64)) ≡ true
unfolding below
narrow = refl

row_few : (s : Shape) (t : ℕ) → t < 64 → sum_by (space_of s) (columns_in t) ≤ 36
unfolding columns_in
row_few s t low =
    let few = columns_few s (list_at schema t) in
    let nine : nat_le (length (list_at schema t)) 9 ≡ true = one_of is_narrow (map (λ k. k) (below 64)) t t narrow (get_below (λ k. k) 64 t low) in
    let most : length (list_at schema t) ≤ 9 = grind (arith, nat_tests, nine) in
    omega (arith, few, most)

-- how many rows the tables have: those of edits, and fewer than 2^24 in Module, EncLog and EncMap
abbrev table_size : List (List (List ℕ)) → Shape → ℕ → ℕ
table_size rows s t = count_at rows t * sum_by (space_of s) (columns_in t)

abbrev edited_size : Chain → EditList → ℕ → ℕ
edited_size c l t = 36 * length (tokens_written c l.edits t)

abbrev other_size : ℕ → ℕ
other_size t = if is_listed_table t then 0 else 0x24000000

pub many_say : (c : Chain) (l : EditList) (heaps : List Counted) (il : List ℕ) (tokens : List _) (rows : List (List ℕ)) → SayRows c l heaps il tokens rows → length rows ≡ length tokens
unfolding SayRows
many_say c l heaps il [] [] say = refl
many_say c l heaps il (u ∷ tokens) (r ∷ rows) say = ap suc (many_say c l heaps il tokens rows say.1)
many_say c l heaps il [] (r ∷ rows) say = absurd say
many_say c l heaps il (u ∷ tokens) [] say = absurd say

-- the rows of a delta
pub record HasRows (c : Chain) (l : EditList) (rows : List (List (List ℕ))) : Type 0 where
  pub are : AreRows rows
  pub listed : (t : ℕ) → is_listed_table t ≡ true → count_at rows t ≡ length (tokens_written c l.edits t)
  pub few : length (map_written c l.edits) < 2 ^ 24

table_few : (c : Chain) (l : EditList) (rows : List (List (List ℕ))) (s : Shape) (t : ℕ) → HasRows c l rows → t < 64 → table_size rows s t ≤ edited_size c l t + other_size t
table_few c l rows s t has low = by (is_listed_table t) refl
  where
    by : (b : Bool) → is_listed_table t ≡ b → table_size rows s t ≤ edited_size c l t + (if b then 0 else 0x24000000)
    by true is =
        let many = has.listed t is in
        let most : count_at rows t ≤ length (tokens_written c l.edits t) = omega (arith, many) in
        omega (arith, mul-le-mul most (row_few s t low))
    by false is =
        let few = has.are.few t in
        let most : count_at rows t ≤ 0x1000000 = omega (arith, few) in
        omega (arith, mul-le-mul most (row_few s t low))

sum_within : (f g : ℕ → ℕ) (n : ℕ) → ((k : ℕ) → k < n → f k ≤ g k) → sum_below f n ≤ sum_below g n
sum_within f g zero each = omega (arith, sum_none f, sum_none g)
sum_within f g (suc n) each = omega (arith, sum_suc f n, sum_suc g n, sum_within f g n (λ k low. each k (omega (arith, low))), each n (omega arith))

sum_both : (f g : ℕ → ℕ) (n : ℕ) → sum_below (λ k. f k + g k) n ≡ sum_below f n + sum_below g n
sum_both f g zero = omega (arith, sum_none f, sum_none g, sum_none (λ k. f k + g k))
sum_both f g (suc n) = omega (arith, sum_suc f n, sum_suc g n, sum_suc (λ k. f k + g k) n, sum_both f g n)

sum_times : (a : ℕ) (f : ℕ → ℕ) (n : ℕ) → sum_below (λ k. a * f k) n ≡ a * sum_below f n
sum_times a f zero = rw (sum_none f) (sum_none (λ k. a * f k) ∙ omega arith)
sum_times a f (suc n) = rw (sum_suc f n, sum_suc (λ k. a * f k) n, sum_times a f n) (omega arith)

others_sum : sum_below other_size 64 ≡ 0x6C000000
unfolding sum_below
others_sum = refl

tokens_length : {A : Type 0} (f : ℕ → List A) (n : ℕ) → length (flat_map f (below n)) ≡ sum_below (λ t. length (f t)) n
unfolding below
tokens_length f zero = sym (sum_none (λ t. length (f t)))
tokens_length f (suc n) =
    let e : suc n ≡ n + 1 = omega arith in
    let more : length (flat_map f (below (suc n))) ≡ length (flat_map f (below n)) + length (f n) =
    ap (λ k. length (flat_map f (below k))) e ∙ ap length (lists_more f n) ∙ length-append (flat_map f (below n)) (f n) in
    more ∙ ap (λ k. k + length (f n)) (tokens_length f n) ∙ sym (sum_suc (λ t. length (f t)) n)

edited_sum : (c : Chain) (l : EditList) → sum_below (edited_size c l) 64 ≡ 36 * length (map_written c l.edits)
unfolding map_written
edited_sum c l = sum_times 36 (λ t. length (tokens_written c l.edits t)) 64 ∙ ap (λ n. 36 * n) (sym (tokens_length (tokens_written c l.edits) 64))

tables_few : (c : Chain) (l : EditList) (rows : List (List (List ℕ))) (s : Shape) → HasRows c l rows → sum_below (table_size rows s) 64 ≤ 0x90000000
tables_few c l rows s has =
    let a = sum_within (table_size rows s) (λ t. edited_size c l t + other_size t) 64 (λ t low. table_few c l rows s t has low) in
    let b = sum_both (edited_size c l) other_size 64 in
    let e = edited_sum c l in
    let o = others_sum in
    omega (arith, a, b, e, o, has.few)

-- the table stream
count_few : (rows : List (List (List ℕ))) (t : ℕ) → length (count_written rows t) ≤ 4
count_few rows t = by_some (nat_lt 0 (count_at rows t))
  where
    by_some : (b : Bool) → length (if b then to_le_bytes w32 (count_at rows t) else []) ≤ 4
    by_some true = omega arith
    by_some false = omega arith

pieces_few : (f : ℕ → List ℕ) (n : ℕ) → ((k : ℕ) → length (f k) ≤ 4) → sum_below (λ k. length (f k)) n ≤ 4 * n
pieces_few f zero each = omega (arith, sum_none (λ k. length (f k)))
pieces_few f (suc n) each = omega (arith, sum_suc (λ k. length (f k)) n, pieces_few f n each, each n)

more_few : (flags : ℕ) → length (more_data flags) ≤ 4
more_few flags = by_bit (flags / 0x40 % 2 == 1)
  where
    by_bit : (b : Bool) → length {A = ℕ} (if b then replicate 4 0 else []) ≤ 4
    by_bit true = omega arith
    by_bit false = omega arith

header_length : (valid flags : ℕ) → length (header_written valid flags) ≡ 24
header_length valid flags = refl

table_length : (rows : List (List (List ℕ))) (s : Shape) (t : ℕ) → AreRows rows → length (table_written rows s t) ≡ table_size rows s t
unfolding table_written
table_length rows s t are = rows_length s (columns_in t) (rows_at rows t) (are.cells t)

stream_few : (c : Chain) (l : EditList) (rows : List (List (List ℕ))) (jtd : Bool) (flags : ℕ) → HasRows c l rows → length (stream_of rows jtd flags) ≤ 284 + 0x90000000
unfolding stream_of
stream_few c l rows jtd flags has =
    let s = shape_of rows jtd flags in
    let head = header_written (valid_of rows) flags in
    let counts = flat_map (count_written rows) (below 64) in
    let all = flat_map (table_written rows s) (below 64) in
    let a = length-append (head ++ counts ++ more_data flags) all in
    let b = length-append (head ++ counts) (more_data flags) in
    let x = length-append head counts in
    let d : length counts ≡ sum_below (λ t. length (count_written rows t)) 64 = pieces_length (count_written rows) (λ t. length (count_written rows t)) 64 (λ k low. refl) in
    let e : length all ≡ sum_below (table_size rows s) 64 = pieces_length (table_written rows s) (table_size rows s) 64 (λ k low. table_length rows s k has.are) in
    omega (arith, a, b, x, d, e, header_length (valid_of rows) flags, pieces_few (count_written rows) 64 (count_few rows), more_few flags, tables_few c l rows s has)

-- the heaps
abbrev heaps_length : Counted → ℕ
heaps_length h = length h.strings + length h.users + length h.blobs + length h.guids

heap_low : (encode : List ℕ → List ℕ) (start limit : ℕ) (values : List (List ℕ)) → nat_lt limit (joined_end encode start values) ≡ false → length (heap_bytes encode values) ≤ limit
unfolding heap_bytes joined_end
heap_low encode start limit values low =
    let most : joined_end encode start values ≤ limit = grind (arith, nat_tests, low) in
    omega (arith, length-flat_map encode values, most)

guids_low : (n : ℕ) (g : List ℕ) → length g ≡ 16 → length (guid_bytes n (g ∷ [])) ≡ 16 * n + 16
unfolding guid_bytes
guids_low n g sixteen =
    let zeros : List ℕ = replicate (16 * n) 0 in
    let a = length-append zeros (g ++ []) in
    let b = length-append g [] in
    let z : length zeros ≡ 16 * n = length-replicate {A = ℕ} (16 * n) 0 in
    omega (arith, a, b, z, sixteen)

limits_kept : (h : Built) → passes_limits h ≡ false → (length (heap_bytes text_bytes h.texts) ≤ 2 ^ 29) × ((length (heap_bytes user_bytes h.users) ≤ 2 ^ 24) × (length (heap_bytes blob_bytes h.blobs) ≤ 2 ^ 29))
unfolding passes_limits
limits_kept h none =
    let a = or_parts (nat_lt (2 ^ 29) (joined_end text_bytes h.starts.strings h.texts) || nat_lt (2 ^ 24) (joined_end user_bytes h.starts.users h.users)) (nat_lt (2 ^ 29) (joined_end blob_bytes h.starts.blobs h.blobs)) none in
    let b = or_parts (nat_lt (2 ^ 29) (joined_end text_bytes h.starts.strings h.texts)) (nat_lt (2 ^ 24) (joined_end user_bytes h.starts.users h.users)) a.0 in
    (heap_low text_bytes h.starts.strings (2 ^ 29) h.texts b.0, (heap_low user_bytes h.starts.users (2 ^ 24) h.users b.1, heap_low blob_bytes h.starts.blobs (2 ^ 29) h.blobs a.1))

sixteen_of : (guids : List (List ℕ)) (g : List ℕ) → guids ≡ g ∷ [] → list_all (λ (v : List ℕ). length v == 16) guids ≡ true → length g ≡ 16
sixteen_of guids g is all = let one : list_all (λ (v : List ℕ). length v == 16) (g ∷ []) ≡ true = rw is at all in eqb-true _ _ (and_parts (length g == 16) true one).0

heaps_few : (c : Chain) (l : EditList) → MayFollow c l → IsGood (heaps_written c l) → heaps_length (heaps_built (heaps_written c l)) ≤ 3 * 2 ^ 29 + 2 ^ 24 + 16
unfolding heaps_built heaps_written joined_lengths
heaps_few c l may good =
    let k = limits_kept (heaps_with c l.edits l.edits) (heaps_have_room c l may) in
    let start : (heaps_written c l).starts.guids ≡ guid_entries c.heaps = ap (λ (n : HeapLengths). n.guids) (starts_are c l) in
    let one = guids_are c l may in
    let sixteen = sixteen_of (heaps_written c l).guids l.enc_id one good.guids in
    let room : 16 * (guid_entries c.heaps + 1) ≤ 2 ^ 29 = let r = guid_room c l may in grind (arith, nat_tests, r) in
    let guids : length (guid_bytes (heaps_written c l).starts.guids (heaps_written c l).guids) ≡ 16 * (heaps_written c l).starts.guids + 16 = ap (λ gs. length (guid_bytes (heaps_written c l).starts.guids gs)) one ∙ guids_low (heaps_written c l).starts.guids l.enc_id sixteen in
    omega (arith, k.0, k.1.0, k.1.1, start, room, guids)

-- the root
padded_few : (n : ℕ) → padded n ≤ n + 3
unfolding padded
padded_few n = omega arith

size_few : (stream : List ℕ) (h : Counted) → root_size true stream h ≤ length stream + heaps_length h + 142
size_few stream h =
    let name : length (codes "#JTD") ≡ 4 = refl in
    omega (arith, name, padded_few (length (codes "#JTD") + 1), padded_few (length {A = ℕ} []), padded_few (length stream), padded_few (length h.strings), padded_few (length h.users), padded_few (length h.guids), padded_few (length h.blobs))

pub root_fits : (c : Chain) (l : EditList) (rows : List (List (List ℕ))) → MayFollow c l → IsGood (heaps_written c l) → HasRows c l rows → built_size (record { heaps = heaps_written c l; rows = rows }) true < 2 ^ 32
root_fits c l rows may good has =
    let stream = stream_few c l rows true (heap_bits rows) has in
    let size = size_few (stream_of rows true (heap_bits rows)) (heaps_built (heaps_written c l)) in
    let heaps = heaps_few c l may good in
    omega (arith, stream, size, heaps)
