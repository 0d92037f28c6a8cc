-- What the definitions of this crate mean.
use Rattle.std.proofs.Common.{◌≡◌, ℕ, zero, suc, ◌+◌, ◌<◌, Bool, true, false, cond, List, [], ◌∷◌, ◌++◌, length, take, drop, Option, Some, None, IfSome, get_or, refl, ap, arith}
use Rattle.std.specs.Prelude.{◌==◌, option_map, Contains}
use Rattle.std.proofs.lemmas.Bool.Decides.{nat_tests}
use Rattle.enc_base.specs.Numbers.{padded}
use Rattle.enc_meta.specs.Root.{before_zero, root_of, root_in, streams, version_len, headers, header_at, name_at, known, has_stream, fault_of, fault_at, stream_fault, has_one_table_stream, span_of, root_with, root_or_fault}
use Rattle.enc_meta.specs.Heaps.{text_entry, text_at, heaps_of, part, counted_strings}
use Rattle.enc_meta.specs.Example.{ExampleReads, ExampleCounts}
use Rattle.enc_meta.specs.Laws.{PaddedIsLeast, TextStands}
use Rattle.enc_base.specs.Order.{first_below}

pub padded_is_least : PaddedIsLeast
unfolding padded
padded_is_least n = (omega arith, omega arith, omega arith)

pub example_reads : ExampleReads
unfolding root_of root_in streams version_len headers header_at name_at padded known has_stream fault_of fault_at stream_fault has_one_table_stream span_of root_with root_or_fault first_below
example_reads = refl

pub example_counts : ExampleCounts
unfolding heaps_of part counted_strings
example_counts = refl

abbrev Stands : List ℕ → List ℕ → Type 0
Stands xs t = (¬ Contains t 0) × (take (length t + 1) xs ≡ t ++ 0 ∷ [])

none_in : (b : ℕ) (t : List ℕ) → (b ≡ 0 → ⊥) → (¬ Contains t 0) → (k : ℕ) → k < length (b ∷ t) → get_or (b ∷ t) k 0 ≡ 0 → ⊥
none_in b t other none zero less is = other is
none_in b t other none (suc k) less is = none (k, omega arith, is)

longer : (b : ℕ) (rest : List ℕ) (o : Option (List ℕ)) → (b ≡ 0 → ⊥) → IfSome o (Stands rest) → IfSome (option_map (λ t. b ∷ t) o) (Stands (b ∷ rest))
longer b rest None other h = tt
longer b rest (Some t) other h =
    let e : suc (length t) + 1 ≡ suc (length t + 1) = omega arith in
    (λ w. none_in b t other h.0 w.0 w.1 w.2, rw e (ap (λ xs. b ∷ xs) h.1))

begins : (b : ℕ) (rest : List ℕ) (is : Bool) (o : Option (List ℕ)) → b == 0 ≡ is → IfSome o (Stands rest) → IfSome (cond is (Some []) (option_map (λ t. b ∷ t) o)) (Stands (b ∷ rest))
begins b rest true o is h = let e : b ≡ 0 = grind (arith, nat_tests) in (λ w. absurd (omega (arith, w.1)), rw e refl)
begins b rest false o is h = longer b rest o (λ e. grind (arith, nat_tests)) h

before_zero_stands : (xs : List ℕ) → IfSome (before_zero xs) (Stands xs)
before_zero_stands [] = tt
before_zero_stands (b ∷ rest) = begins b rest (b == 0) (before_zero rest) refl (before_zero_stands rest)

pub text_stands : TextStands
unfolding text_at text_entry
text_stands heap offset some =
    let e : offset == 0 ≡ false = grind (arith, nat_tests) in
    rw e (before_zero_stands (drop offset heap))
