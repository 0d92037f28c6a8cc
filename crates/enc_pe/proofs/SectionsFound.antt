-- The first section that holds a range, in a list and in a tree.
use Rattle.std.proofs.Common.{◌≡◌, ℕ, zero, suc, ◌+◌, ◌-◌, ◌<◌, Bool, true, false, List, [], ◌∷◌, ◌++◌, ◌≤◌, length, drop, Box, Option, Some, None, refl, sym, ap, ◌∙◌, arith, append_assoc}
use Rattle.std.specs.Prelude.{find, slice_get}
use Rattle.std.specs.List.{list_any}
use Rattle.std.specs.declared.alloc.Global.{Global}
use Rattle.enc_pe.specs.declared.section.Section.{Section}
use Rattle.enc_pe.specs.declared.sections.Node.{Node}
use Rattle.enc_pe.specs.declared.sections.Node.TheVariants.{Fork}
use Rattle.enc_pe.specs.declared.sections.Sections.{Sections}
use Rattle.enc_pe.specs.Sections.{section_at, sections_from}
use Rattle.enc_pe.specs.SectionTree.{tree_sections}

false_true : false ≡ true → ⊥
false_true e = absurd cc

-- among those before, where one of them does
pub find_left : (p : Section → Bool) (xs ys : List Section) → list_any p xs ≡ true → find p (xs ++ ys) ≡ find p xs
find_left p [] ys h = absurd (false_true h)
find_left p (x ∷ xs) ys h = by_test (p x) refl (find_left p xs ys)
  where
    by_test : (b : Bool) → p x ≡ b → (list_any p xs ≡ true → find p (xs ++ ys) ≡ find p xs) → find p ((x ∷ xs) ++ ys) ≡ find p (x ∷ xs)
    by_test true e more = rw e refl
    by_test false e more = rw e (more (rw e at h))

-- among those behind, where none of them does
pub find_behind : (p : Section → Bool) (xs ys : List Section) → list_any p xs ≡ false → find p (xs ++ ys) ≡ find p ys
find_behind p [] ys h = refl
find_behind p (x ∷ xs) ys h = by_test (p x) refl (find_behind p xs ys)
  where
    by_test : (b : Bool) → p x ≡ b → (list_any p xs ≡ false → find p (xs ++ ys) ≡ find p ys) → find p ((x ∷ xs) ++ ys) ≡ find p ys
    by_test true e more = absurd (false_true (sym (rw e at h)))
    by_test false e more = rw e (more (rw e at h))

-- the sections of a fork
pub at_fork : {n : Node} {d : List Section} {l r : Box Sections Global} {s : Section} → tree_sections n ≡ d → n ≡ Fork l s r → d ≡ l.value ++ s ∷ r.value
at_fork view is = sym view ∙ ap tree_sections is

pub found_left : (p : Section → Bool) (d l r : List Section) (s : Section) (o : Option Section) (t : Bool) → d ≡ l ++ s ∷ r → t ≡ list_any p l → t ≡ true → o ≡ find p l → o ≡ find p d
found_left p d l r s o t is has some found = rw is (found ∙ sym (find_left p l (s ∷ r) (sym has ∙ some)))

pub found_here : (p : Section → Bool) (d l r : List Section) (s : Section) (t here : Bool) → d ≡ l ++ s ∷ r → t ≡ list_any p l → t ≡ false → here ≡ p s → here ≡ true → Some s ≡ find p d
found_here p d l r s t here is has none holds some = let e : p s ≡ true = sym holds ∙ some in rw (is, find_behind p l (s ∷ r) (sym has ∙ none), e) refl

pub found_right : (p : Section → Bool) (d l r : List Section) (s : Section) (o : Option Section) (t here : Bool) → d ≡ l ++ s ∷ r → t ≡ list_any p l → t ≡ false → here ≡ p s → here ≡ false → o ≡ find p r → o ≡ find p d
found_right p d l r s o t here is has none holds not_here found = let e : p s ≡ false = sym holds ∙ not_here in rw (is, find_behind p l (s ∷ r) (sym has ∙ none), e) found

-- the headers one behind the other
pub listed_all : (bytes : List ℕ) (at n i : ℕ) → n - i ≡ 0 → sections_from bytes at (n - i) ≡ []
unfolding sections_from
listed_all bytes at n i e = rw e refl

pub listed_to : (bytes : List ℕ) (at n i : ℕ) → None ≡ section_at bytes at → sections_from bytes at (n - i) ≡ []
unfolding sections_from
listed_to bytes at n i none = by_count (n - i)
  where
    by_count : (m : ℕ) → sections_from bytes at m ≡ []
    by_count zero = refl
    by_count (suc m) = rw (sym none) refl

pub listed_more : (bytes : List ℕ) (at n i : ℕ) (s : Section) → i < n → Some s ≡ section_at bytes at → sections_from bytes at (n - i) ≡ s ∷ sections_from bytes (at + 40) (n - (i + 1))
unfolding sections_from
listed_more bytes at n i s less is = let e : n - i ≡ suc (n - (i + 1)) = omega (arith, less) in rw (e, sym is) refl

-- one more at the end
pub pushed : (items new rest behind all : List Section) (s : Section) → new ≡ items ++ s ∷ [] → behind ≡ s ∷ rest → (items ++ behind) ≡ all → (new ++ rest) ≡ all
pushed items new rest behind all s is more before = ap (λ xs. xs ++ rest) is ∙ append_assoc items (s ∷ []) rest ∙ ap (λ xs. items ++ xs) (sym more) ∙ before

-- in a list, one after the other
pub found_at : (p : Section → Bool) (xs : List Section) (i : ℕ) (x : Section) → slice_get xs i ≡ Some x → p x ≡ true → Some x ≡ find p (drop i xs)
found_at p [] i x is good = absurd cc
found_at p (y ∷ ys) zero x is good = let e : y ≡ x = cc in rw (e, good) refl
found_at p (y ∷ ys) (suc i) x is good = found_at p ys i x is good

pub found_later : (p : Section → Bool) (xs : List Section) (i : ℕ) (x : Section) → slice_get xs i ≡ Some x → p x ≡ false → find p (drop i xs) ≡ find p (drop (i + 1) xs)
found_later p [] i x is bad = absurd cc
found_later p (y ∷ ys) zero x is bad = let e : y ≡ x = cc in rw (e, bad) refl
found_later p (y ∷ ys) (suc i) x is bad = let e : suc i + 1 ≡ suc (i + 1) = omega arith in rw e (found_later p ys i x is bad)

pub found_nowhere : (p : Section → Bool) (xs : List Section) (i : ℕ) → length xs ≤ i → None ≡ find p (drop i xs)
found_nowhere p [] zero h = refl
found_nowhere p [] (suc i) h = refl
found_nowhere p (x ∷ xs) zero h = absurd (omega arith)
found_nowhere p (x ∷ xs) (suc i) h = found_nowhere p xs i (omega arith)
