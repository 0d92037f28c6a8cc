-- The deltas that a script names.
use Rattle.std.proofs.Common.{◌≡◌, ◌<◌, ℕ, zero, suc, Bool, true, false, List, [], ◌∷◌, ◌++◌, map, length, refl, sym, ap, ◌∙◌, append-nil, arith, Bor}
use Rattle.std.specs.Prelude.{◌&&◌, nat_le, bytes_eq, if◌then◌else◌}
use Rattle.std.specs.List.{list_all, list_any}
use Rattle.std.specs.Str.{IsAscii, IsUtf8}
use Rattle.std.proofs.lemmas.Bool.Decides.{nat_tests}
use Rattle.std.proofs.lemmas.List.{nil_from_length, map-append}
use Rattle.std.proofs.lemmas.List.Folds.{list_all-append}
use Rattle.std.proofs.lemmas.Str.{IsUtf8-from_ascii}
use Rattle.std.proofs.lemmas.Bool.{and_parts}
use Rattle.enc_jobs.specs.Laws.{names_a_delta}
use Rattle.enc_jobs.specs.Scripts.{is_name_byte, is_name}
use Rattle.enc_jobs.specs.declared.command.Command.{Command}
use Rattle.enc_jobs.specs.declared.command.Command.TheVariants.{Spawn, Step, Apply, Attach, Detach, Remap, State}
use Rattle.enc_rewriter.specs.Distinct.{borrowed}
use Rattle.enc_script.specs.Run.{NamedFiles}
use Rattle.enc_commands.specs.Verdict.{DeltaFiles, as_named, deltas_named, with_name}

-- the bytes of a name are ASCII
ascii_byte : (b : ℕ) → is_name_byte b ≡ true → b < 128
ascii_byte b h = grind (arith, nat_tests, h)

ascii_all : (xs : List ℕ) → list_all is_name_byte xs ≡ true → IsAscii xs
ascii_all [] h i = omega arith
ascii_all (x ∷ xs) h zero = ascii_byte x (and_parts (is_name_byte x) (list_all is_name_byte xs) h).0
ascii_all (x ∷ xs) h (suc i) = ascii_all xs (and_parts (is_name_byte x) (list_all is_name_byte xs) h).1 i

pub name_is_text : (name : List ℕ) → is_name name ≡ true → IsUtf8 name
unfolding is_name
name_is_text name h =
    IsUtf8-from_ascii name (ascii_all name (and_parts (nat_le 1 (length name) && nat_le (length name) 200) (list_all is_name_byte name) h).1)

-- one command more
pub one_named : (names more : List (List ℕ)) (c : Command) (rest left : List Command) → left ≡ c ∷ rest → more ≡ deltas_named names (c ∷ [])
    → deltas_named more rest ≡ deltas_named names left
unfolding deltas_named
one_named names more (Apply name) rest left is named = rw (is, named) refl
one_named names more (Spawn method) rest left is named = rw (is, named) refl
one_named names more (Step task count) rest left is named = rw (is, named) refl
one_named names more (Attach kind) rest left is named = rw (is, named) refl
one_named names more (Detach number) rest left is named = rw (is, named) refl
one_named names more (Remap task pairs) rest left is named = rw (is, named) refl
one_named names more State rest left is named = rw (is, named) refl

pub none_named : (names : List (List ℕ)) (left : List Command) → left ≡ [] → deltas_named names left ≡ names
unfolding deltas_named
none_named names left is = rw is refl

-- all files
pub all_done : (deltas : List NamedFiles) (rest files : List DeltaFiles) → length rest ≡ 0 → deltas ++ map as_named rest ≡ map as_named files → deltas ≡ map as_named files
all_done deltas rest files none so_far = let is : rest ≡ [] = nil_from_length rest none in sym (append-nil deltas) ∙ (rw is at so_far)

-- a name among borrowed ones
added_by : (keys : List (Bor (List ℕ))) (name : Bor (List ℕ)) (b : Bool) → borrowed (if b then keys else keys ++ name ∷ []) ≡ (if b then borrowed keys else borrowed keys ++ name.now ∷ [])
added_by keys name true = refl
added_by keys name false = map-append _ keys (name ∷ [])

among : (keys : List (Bor (List ℕ))) (name : List ℕ) → list_any (λ (k : Bor (List ℕ)). bytes_eq name k.now) keys ≡ list_any (bytes_eq name) (borrowed keys)
among [] name = refl
among (k ∷ keys) name = rw (among keys name) refl

pub name_added : (keys new : List (Bor (List ℕ))) (name : Bor (List ℕ))
    → new ≡ (if list_any (λ (k : Bor (List ℕ)). bytes_eq name.now k.now) keys then keys else keys ++ name ∷ []) → borrowed new ≡ with_name (borrowed keys) name.now
name_added keys new name added =
    ap borrowed added ∙ added_by keys name (list_any (λ (k : Bor (List ℕ)). bytes_eq name.now k.now) keys) ∙ rw (among keys name.now) refl

-- the names are names
with_good : (names : List (List ℕ)) (name : List ℕ) (b : Bool) → list_all is_name names ≡ true → is_name name ≡ true → list_all is_name (if b then names else names ++ name ∷ []) ≡ true
with_good names name true good is = good
with_good names name false good is = list_all-append is_name names (name ∷ []) ∙ rw (good, is) refl

pub all_good : (names : List (List ℕ)) (script : List Command) → list_all is_name names ≡ true → list_all names_a_delta script ≡ true → list_all is_name (deltas_named names script) ≡ true
unfolding deltas_named
all_good names [] good all = good
all_good names (Apply name ∷ rest) good all =
    let parts = and_parts (is_name name) (list_all names_a_delta rest) all in
    all_good (with_name names name) rest (with_good names name (list_any (bytes_eq name) names) good parts.0) parts.1
all_good names (Spawn method ∷ rest) good all = all_good names rest good all
all_good names (Step task count ∷ rest) good all = all_good names rest good all
all_good names (Attach kind ∷ rest) good all = all_good names rest good all
all_good names (Detach number ∷ rest) good all = all_good names rest good all
all_good names (Remap task pairs ∷ rest) good all = all_good names rest good all
all_good names (State ∷ rest) good all = all_good names rest good all
