-- How long joined heaps are, with one generation and with one more.
use Rattle.std.proofs.Common.{◌≡◌, ℕ, ◌+◌, ◌/◌, length, map, List, [], ◌∷◌, ◌++◌, refl, sym, ap, ◌∙◌, arith}
use Rattle.std.specs.Prelude.{max}
use Rattle.std.proofs.lemmas.List.Sums.{sum_by-append}
use Rattle.enc_meta.specs.Heaps.{Counted, lengths_of}
use Rattle.enc_meta.specs.Joined.{joined_length, most, joined_lengths}
use Rattle.enc_meta.specs.declared.heaps.HeapLengths.{HeapLengths}

list_more : (f : Counted → List ℕ) (xs : List Counted) (x : Counted) → map f (xs ++ x ∷ []) ≡ map f xs ++ f x ∷ []
list_more f [] x = refl
list_more f (y ∷ ys) x = ap (λ r. f y ∷ r) (list_more f ys x)

pub length_more : (f : Counted → List ℕ) (xs : List Counted) (x : Counted) → joined_length (map f (xs ++ x ∷ [])) ≡ joined_length (map f xs) + length (f x)
length_more f xs x =
    let z : 0 + length (f x) ≡ length (f x) = omega arith in
    rw (list_more f xs x) (sum_by-append (λ (h : List ℕ). length h) (map f xs) (f x ∷ []) ∙ ap (λ n. joined_length (map f xs) + n) z)

pub most_more : (f : Counted → ℕ) (xs : List Counted) (x : Counted) → most (map f (xs ++ x ∷ [])) ≡ max (most (map f xs)) (f x)
most_more f [] x = omega arith
most_more f (y ∷ ys) x = rw (most_more f ys x) (omega arith)

zero_more : (n : ℕ) → 0 + n ≡ n
zero_more n = omega arith

most_one : (n : ℕ) → max n 0 ≡ n
most_one n = omega arith

-- the joined heaps of one generation are as long as its own
pub lengths_alone : (h : Counted) → joined_lengths (h ∷ []) ≡ lengths_of h
unfolding joined_lengths
lengths_alone h = rw (zero_more (length h.strings), zero_more (length h.users), zero_more (length h.blobs), most_one (length h.guids / 16)) refl

lengths_eq : (t u : HeapLengths) → t.strings ≡ u.strings → t.users ≡ u.users → t.blobs ≡ u.blobs → t.guids ≡ u.guids → t ≡ u
lengths_eq t u a b c d = rw (a, b, c, d) refl

-- with one generation more
pub lengths_more : (xs : List Counted) (x : Counted) (t more : HeapLengths) → t ≡ joined_lengths xs → more.strings ≡ t.strings + length x.strings → more.users ≡ t.users + length x.users → more.blobs ≡ t.blobs + length x.blobs → more.guids ≡ max t.guids (length x.guids / 16) → more ≡ joined_lengths (xs ++ x ∷ [])
unfolding joined_lengths
lengths_more xs x t more e a b c d =
    lengths_eq more (joined_lengths (xs ++ x ∷ []))
    (a ∙ ap (λ (u : HeapLengths). u.strings + length x.strings) e ∙ sym (length_more (λ (h : Counted). h.strings) xs x))
    (b ∙ ap (λ (u : HeapLengths). u.users + length x.users) e ∙ sym (length_more (λ (h : Counted). h.users) xs x))
    (c ∙ ap (λ (u : HeapLengths). u.blobs + length x.blobs) e ∙ sym (length_more (λ (h : Counted). h.blobs) xs x))
    (d ∙ ap (λ (u : HeapLengths). max u.guids (length x.guids / 16)) e ∙ sym (most_more (λ (h : Counted). length h.guids / 16) xs x))
