-- Types with their tokens moved: as many, with the same numbers; moved by the identity they are the same.
use Rattle.std.proofs.Common.{◌≡◌, ℕ, zero, suc, ◌-◌, ◌<◌, ◌%◌, Bool, true, false, List, [], ◌∷◌, ◌++◌, length, take, drop, get_or, map, Option, refl, sym, ap, ◌∙◌, arith, append_assoc}
use Rattle.std.proofs.Math.Seq.{take-length}
use Rattle.std.specs.Prelude.{slice_get, IfOk, Result, Ok, Err, if◌then◌else◌}
use Rattle.enc_base.specs.declared.token.Token.{Token}
use Rattle.enc_sigs.specs.declared.type_form.TypeForm.{TypeForm}
use Rattle.enc_sigs.specs.declared.type_form.Numeral.{Numeral}
use Rattle.enc_sigs.specs.Grammar.{form_of}
use Rattle.enc_sigs.specs.Tree.{Forest, none, more, Tree, SigTree, trees, forest_of, trees_of}
use Rattle.enc_sigs.specs.Spelling.{numeral_bytes, each_numeral, numerals_bytes, numerals_of, generics_bytes, parts_bytes, pointer_bytes, formed_bytes, spellings, tree_bytes}
use Rattle.enc_sigs.specs.Moved.{form_has_token, has_token, forest_moved, tree_moved, sig_moved}

-- a list of types and its forest
pub forest_of_moved : (f : Token → Token) (ts : List Tree) → forest_of (map (tree_moved f) ts) ≡ forest_moved f (forest_of ts)
unfolding forest_moved
forest_of_moved f [] = refl
forest_of_moved f (t ∷ ts) =
    ap (λ r. more t.element (if has_token t.element then f t.token else t.token) t.number (forest_moved f t.kids) r) (forest_of_moved f ts)

pub trees_moved : (f : Token → Token) (ts : List Tree) → trees (forest_moved f (forest_of ts)) ≡ map (tree_moved f) ts
trees_moved f ts = ap trees (sym (forest_of_moved f ts)) ∙ trees_of (map (tree_moved f) ts)

pub length_moved : (f : Token → Token) (ts : List Tree) → length (map (tree_moved f) ts) ≡ length ts
length_moved f [] = refl
length_moved f (t ∷ ts) = ap suc (length_moved f ts)

pub count_moved : (f : Token → Token) (k : Forest) → length (spellings (forest_moved f k)) ≡ length (spellings k)
unfolding spellings forest_moved
count_moved f none = refl
count_moved f (more e t n k r) = ap suc (count_moved f r)

-- the sizes and lower bounds of an array have no tokens
each_moved : (f : Token → Token) (kind : Numeral) (k : Forest) → each_numeral kind (trees (forest_moved f k)) ≡ each_numeral kind (trees k)
unfolding forest_moved
each_moved f kind none = refl
each_moved f kind (more e t n k r) = ap (λ s. numeral_bytes kind n ++ s) (each_moved f kind r)

long_moved : (f : Token → Token) (k : Forest) → length (trees (forest_moved f k)) ≡ length (trees k)
unfolding forest_moved
long_moved f none = refl
long_moved f (more e t n k r) = ap suc (long_moved f r)

numerals_moved : (f : Token → Token) (kind : Numeral) (t : Tree) → numerals_bytes kind (tree_moved f t) ≡ numerals_bytes kind t
unfolding numerals_bytes
numerals_moved f kind t = rw (long_moved f t.kids, each_moved f kind t.kids) refl

at_moved : (f : Token → Token) (kind : Numeral) (ts : List Tree) (i : ℕ)
    → numerals_of kind (slice_get (map (tree_moved f) ts) i) ≡ numerals_of kind (slice_get ts i)
at_moved f kind [] i = refl
at_moved f kind (t ∷ ts) zero = numerals_moved f kind t
at_moved f kind (t ∷ ts) (suc i) = at_moved f kind ts i

pub numerals_at_moved : (f : Token → Token) (kind : Numeral) (ts : List Tree) (i : ℕ)
    → numerals_of kind (slice_get (trees (forest_moved f (forest_of ts))) i) ≡ numerals_of kind (slice_get ts i)
numerals_at_moved f kind ts i = ap (λ us. numerals_of kind (slice_get us i)) (trees_moved f ts) ∙ at_moved f kind ts i

pub less_one : (n : ℕ) → suc n - 1 ≡ n
less_one n = omega arith

-- a pointer's count of generic parameters and its parts
pub pointer_moved : (f : Token → Token) (calling : ℕ) (ts : List Tree) (g : Tree) → 0 < length ts → g ≡ get_or ts 0 g
    → pointer_bytes calling (trees (forest_moved f (forest_of ts))) (spellings (forest_moved f (forest_of ts)))
    ≡ (calling % 0x100) ∷ (generics_bytes calling g.number ++ parts_bytes (spellings (forest_moved f (forest_of (take (length ts - 1) (drop 1 ts))))))
unfolding pointer_bytes spellings forest_moved
pointer_moved f calling [] g long is = absurd (omega (arith, long))
pointer_moved f calling (t ∷ ts) g long is =
    let e : t.number ≡ g.number = ap (λ (x : Tree). x.number) (sym is) in
    let all : ts ≡ take (suc (length ts) - 1) ts = sym (ap (λ n. take n ts) (less_one (length ts)) ∙ take-length ts) in
    ap (λ n. (calling % 0x100) ∷ (generics_bytes calling n ++ parts_bytes (spellings (forest_moved f (forest_of ts))))) e
    ∙ ap (λ us. (calling % 0x100) ∷ (generics_bytes calling g.number ++ parts_bytes (spellings (forest_moved f (forest_of us))))) all

-- one thing written behind another
pub then_written : {T E : Type 0} (r : Result T E) (a b x y new : List ℕ) → b ≡ a ++ x → IfOk r (λ _. new ≡ b ++ y) → IfOk r (λ _. new ≡ a ++ (x ++ y))
then_written (Ok u) a b x y new e h = h ∙ ap (λ s. s ++ y) e ∙ append_assoc a x y
then_written (Err u) a b x y new e h = h

-- moved by the identity
same_token : (b : Bool) (t : Token) → (if b then t else t) ≡ t
same_token true t = refl
same_token false t = refl

same_forest : (k : Forest) → forest_moved (λ t. t) k ≡ k
unfolding forest_moved
same_forest none = refl
same_forest (more e t n k r) = rw (same_token (has_token e) t, same_forest k, same_forest r) refl

same_trees : (ts : List Tree) → map (tree_moved (λ t. t)) ts ≡ ts
same_trees [] = refl
same_trees (t ∷ ts) = rw (same_token (has_token t.element) t.token, same_forest t.kids, same_trees ts) refl

pub same_sig : (s : SigTree) → sig_moved (λ t. t) s ≡ s
unfolding sig_moved
same_sig s = ap (λ ts. record { form = s.form; kind = s.kind; generics = s.generics; parts = ts }) (same_trees s.parts)

-- what stands behind its first byte
abbrev within_moved : (Token → Token) → Option TypeForm → Tree → List ℕ
within_moved f o t =
    formed_bytes o (if form_has_token o then f t.token else t.token) t.number (trees (forest_moved f t.kids)) (spellings (forest_moved f t.kids))

-- a type: its first byte and what stands behind it
pub elem_written : {T E : Type 0} (r : Result T E) (f : Token → Token) (t : Tree) (o : Option TypeForm) (e : ℕ) (a b new : List ℕ)
    → e ≡ t.element → o ≡ form_of e → b ≡ a ++ e ∷ []
    → IfOk r (λ _. new ≡ b ++ within_moved f o t)
    → IfOk r (λ _. new ≡ a ++ tree_bytes (tree_moved f t))
unfolding tree_bytes has_token
elem_written r f t o e a b new is formed first h =
    let form : o ≡ form_of t.element = formed ∙ ap form_of is in
    let begin : b ≡ a ++ t.element ∷ [] = first ∙ ap (λ n. a ++ n ∷ []) is in
    let g = rw form at h in
    then_written r a b (t.element ∷ []) _ new begin g
