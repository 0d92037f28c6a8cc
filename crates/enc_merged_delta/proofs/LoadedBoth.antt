-- The code of two deltas, one behind the other: the bodies of each are still there.
use Rattle.std.proofs.Common.{◌≡◌, ℕ, zero, suc, ◌+◌, ◌-◌, ◌%◌, ◌≤◌, Bool, true, false, List, ◌++◌, length, drop, Some, None, Result, Ok, Err, refl, sym, ap, ◌∙◌, arith, length-append}
use Rattle.std.specs.Prelude.{nat_le, ◌&&◌, if◌then◌else◌, option_map, option_and_then, replicate}
use Rattle.std.proofs.lemmas.Bool.Decides.{nat_tests}
use Rattle.std.proofs.lemmas.List.{drop-append-le, length-replicate}
use Rattle.std.proofs.Math.Seq.{drop-append-add}
use Rattle.enc_base.specs.Numbers.{padded}
use Rattle.enc_base.specs.declared.refusal.Refusal.{Refusal}
use Rattle.enc_emit.specs.Written.{in_fours}
use Rattle.enc_meta.specs.Regions.{Region, rest_loaded}
use Rattle.enc_meta.specs.Root.{root_of}
use Rattle.enc_meta.specs.declared.root.Root.{Root}
use Rattle.enc_opcodes.specs.Body.{Code, body_at}
use Rattle.enc_plain.specs.Bodies.{code_there, code_loaded}
use Rattle.enc_rows.specs.Layout.{Layout}
use Rattle.enc_rows.specs.Source.{Source}
use Rattle.enc_delta.specs.Delta.{loaded_code, delta_source, source_with, source_in, delta_layout, delta_of}
use Rattle.enc_delta.specs.Seen.{WasRead}
use Rattle.enc_merged_delta.specs.Held.{il_of, first_loaded, il_merged, shift_of, place_moved}
use Rattle.enc_merged_delta.proofs.CodeBehind.{body_more, body_moved}

-- a delta that was read has one region, from 0 on
one_region : (s : Source) (il : List ℕ) → s.loaded ≡ loaded_code il → s.loaded ≡ loaded_code (il_of s)
one_region s il e = let bytes : il_of s ≡ il = ap first_loaded e in e ∙ ap loaded_code (sym bytes)

by_layout : (metadata il : List ℕ) (root : Root) (o : Result Layout Refusal) (s : Source) → source_with metadata il root o ≡ Ok s → s.loaded ≡ loaded_code il
by_layout metadata il root (Ok l) s h = let e : delta_source metadata il root l ≡ s = cc in sym (ap (λ (x : Source). x.loaded) e)
by_layout metadata il root (Err e) s h = absurd cc

by_root : (metadata il : List ℕ) (o : Result Root Refusal) (s : Source) → source_in metadata il o ≡ Ok s → s.loaded ≡ loaded_code il
by_root metadata il (Ok root) s h = by_layout metadata il root (delta_layout metadata root) s h
by_root metadata il (Err e) s h = absurd cc

read_from : (metadata il : List ℕ) (s : Source) → delta_of metadata il ≡ Ok s → s.loaded ≡ loaded_code il
unfolding delta_of
read_from metadata il s h = by_root metadata il (root_of metadata) s h

pub read_loaded : (s : Source) → WasRead s → s.loaded ≡ loaded_code (il_of s)
read_loaded s was = one_region s was.il (read_from was.metadata was.il s was.read)

back : (n : ℕ) → n - 0 ≡ n
back n = omega arith

least : (n : ℕ) → nat_le 0 n ≡ true
least n = grind (arith, nat_tests)

-- the bytes from a place on
rest_is : (il : List ℕ) (n : ℕ) (b : Bool) → nat_le (n + 1) (length il) ≡ b → rest_loaded (loaded_code il) n ≡ (if b then Some (drop n il) else None)
unfolding rest_loaded
rest_is il n b e =
    ap (λ (x : Bool). option_map (λ (r : Region). drop (n - r.address) r.bytes) (if nat_le 0 n && x then Some (record { address = 0; bytes = il }) else None)) (ap (λ k. nat_le (k + 1) (length il)) (back n) ∙ e)
    ∙ by b (nat_le 0 n) (least n)
  where
    by : (x y : Bool) → y ≡ true → option_map (λ (r : Region). drop (n - r.address) r.bytes) (if y && x then Some (record { address = 0; bytes = il }) else None) ≡ (if x then Some (drop n il) else None)
    by true true f = ap (λ k. Some (drop k il)) (back n)
    by false true f = refl
    by true false f = absurd cc
    by false false f = absurd cc

pub body_there : (il : List ℕ) (n : ℕ) (v : Code) → code_there (loaded_code il) n ≡ Some v → (n + 1 ≤ length il) × (body_at (drop n il) 0 n ≡ Some v)
body_there il n v e = by (nat_le (n + 1) (length il)) refl
  where
    by : (b : Bool) → nat_le (n + 1) (length il) ≡ b → (n + 1 ≤ length il) × (body_at (drop n il) 0 n ≡ Some v)
    by true f = (grind (arith, nat_tests, f), ap (option_and_then (λ (bytes : List ℕ). body_at bytes 0 n)) (sym (rest_is il n true f)) ∙ e)
    by false f = let none : None ≡ Some v = ap (option_and_then (λ (bytes : List ℕ). body_at bytes 0 n)) (sym (rest_is il n false f)) ∙ e in absurd cc

pub there_again : (il : List ℕ) (n : ℕ) (v : Code) → n + 1 ≤ length il → body_at (drop n il) 0 n ≡ Some v → code_there (loaded_code il) n ≡ Some v
there_again il n v le e =
    let f : nat_le (n + 1) (length il) ≡ true = grind (arith, nat_tests, le) in
    ap (option_and_then (λ (bytes : List ℕ). body_at bytes 0 n)) (rest_is il n true f) ∙ e

-- more bytes behind
there_more : (il rest : List ℕ) (n : ℕ) (v : Code) → code_there (loaded_code il) n ≡ Some v → code_there (loaded_code (il ++ rest)) n ≡ Some v
there_more il rest n v e =
    let h = body_there il n v e in
    let le = h.0 in
    let long = length-append il rest in
    there_again (il ++ rest) n v (omega (arith, le, long))
    (ap (λ (l : List ℕ). body_at l 0 n) (drop-append-le n il rest (omega (arith, le))) ∙ body_more (drop n il) rest 0 n v h.1)

-- bytes before, as many as a multiple of four
there_shifted : (front il : List ℕ) (n : ℕ) (v : Code) → length front % 4 ≡ 0 → code_there (loaded_code il) n ≡ Some v → code_there (loaded_code (front ++ il)) (length front + n) ≡ Some v
there_shifted front il n v fours e =
    let h = body_there il n v e in
    let le = h.0 in
    let long = length-append front il in
    let same : n % 4 ≡ (length front + n) % 4 = grind (arith, fours) in
    there_again (front ++ il) (length front + n) v (omega (arith, le, long))
    (ap (λ (l : List ℕ). body_at l 0 (length front + n)) (drop-append-add front il n) ∙ sym (body_moved (drop n il) 0 n (length front + n) same) ∙ h.1)

-- zeros behind up to a multiple of four
padded_is : (n : ℕ) → (n ≤ padded n) × (padded n % 4 ≡ 0)
unfolding padded
padded_is n = (grind arith, grind arith)

pub fours_long : (il : List ℕ) → length (in_fours il) ≡ padded (length il)
fours_long il =
    let p = (padded_is (length il)).0 in
    let long = length-append il (replicate {A = ℕ} (padded (length il) - length il) 0) in
    let zeros : length {A = ℕ} (replicate (padded (length il) - length il) 0) ≡ padded (length il) - length il = length-replicate (padded (length il) - length il) 0 in
    omega (arith, p, long, zeros)

front_there : (a b : Source) (n : ℕ) (v : Code) → code_there (loaded_code (il_of a)) n ≡ Some v → code_there (loaded_code (il_merged a b)) n ≡ Some v
unfolding il_merged
front_there a b n v e =
    let zeros : List ℕ = replicate (padded (length (il_of a)) - length (il_of a)) 0 in
    there_more (il_of a ++ zeros) (il_of b) n v (there_more (il_of a) zeros n v e)

behind_there : (a b : Source) (n : ℕ) (v : Code) → code_there (loaded_code (il_of b)) n ≡ Some v → code_there (loaded_code (il_merged a b)) (n + shift_of a) ≡ Some v
unfolding il_merged
behind_there a b n v e =
    let long = fours_long (il_of a) in
    let fours : length (in_fours (il_of a)) % 4 ≡ 0 = ap (λ k. k % 4) long ∙ (padded_is (length (il_of a))).1 in
    let place : length (in_fours (il_of a)) + n ≡ n + shift_of a = omega (arith, long) in
    ap (code_there (loaded_code (in_fours (il_of a) ++ il_of b))) (sym place) ∙ there_shifted (in_fours (il_of a)) (il_of b) n v fours e

-- so with the place 0, which is none
pub first_stands : (a b : Source) (n : ℕ) (v : Code) → WasRead a → code_loaded a.loaded n ≡ Some v → code_loaded (loaded_code (il_merged a b)) (place_moved 0 n) ≡ Some v
unfolding code_loaded
first_stands a b zero v was e = absurd cc
first_stands a b (suc n) v was e =
    let place : suc n + 0 ≡ suc n = omega arith in
    ap (code_loaded (loaded_code (il_merged a b))) place ∙ front_there a b (suc n) v (sym (ap (λ (l : List Region). code_there l (suc n)) (read_loaded a was)) ∙ e)

pub second_stands : (a b : Source) (n : ℕ) (v : Code) → WasRead b → code_loaded b.loaded n ≡ Some v → code_loaded (loaded_code (il_merged a b)) (place_moved (shift_of a) n) ≡ Some v
unfolding code_loaded
second_stands a b zero v was e = absurd cc
second_stands a b (suc n) v was e =
    let place : suc n + shift_of a ≡ suc (n + shift_of a) = omega arith in
    ap (code_loaded (loaded_code (il_merged a b))) place
    ∙ ap (code_there (loaded_code (il_merged a b))) (sym place)
    ∙ behind_there a b (suc n) v (sym (ap (λ (l : List Region). code_there l (suc n)) (read_loaded b was)) ∙ e)
