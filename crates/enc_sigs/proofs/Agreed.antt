-- Two signatures read in step agree exactly where their trees do.
use Rattle.std.proofs.Common.{◌≡◌, ℕ, zero, suc, Bool, true, false, List, [], ◌∷◌, length, drop, Option, Some, None, refl, sym, ap, subst, ◌∙◌}
use Rattle.std.proofs.Math.Bool.{and-true}
use Rattle.std.proofs.lemmas.Bool.{eqb-true, eq-eqb}
use Rattle.std.specs.Prelude.{◌&&◌, ◌||◌, ◌==◌, option_map, option_and_then, if◌then◌else◌}
use Rattle.enc_base.specs.Token.{nil}
use Rattle.enc_base.specs.declared.token.Token.{Token}
use Rattle.enc_sigs.specs.declared.kind.SigKind.{SigKind}
use Rattle.enc_sigs.specs.declared.kind.SigKind.TheVariants.{Method, Field, Locals, Property, TypeSpec, MethodSpec}
use Rattle.enc_sigs.specs.declared.type_form.TypeForm.{TypeForm}
use Rattle.enc_sigs.specs.declared.type_form.TypeForm.TheVariants as form
use Rattle.enc_sigs.specs.declared.type_form.Numeral.{Numeral}
use Rattle.enc_sigs.specs.declared.type_form.Numeral.TheVariants.{Size, Bound}
use Rattle.enc_sigs.specs.Tree.{Tree, SigTree}
use Rattle.enc_sigs.specs.Grammar.{upon, many, more_in, list_in, tree, numbered_in, numeral_in, numerals_in, byte_in, wrapped_in, named_in, modified_in, array_in, instance_in, pointer_in, method_in, calling_in, parts_in, params, marked_in, accessed_in, begins, token_in, is_coded, form_of, formed_in, elem_in, type_in, front_in, all_of, unless_more, sig_in}
use Rattle.enc_base.specs.Readers.{Reader, giving, both, number_in}
use Rattle.enc_sigs.specs.Agree.{sigs_agree, tokens_agree, forests_agree, trees_agree, sig_trees_agree, if_both}
use Rattle.enc_sigs.specs.Walk.{Walk, paired, alike_alone, onward, upon_alike, many_walk, counted_walk, numerals_walk, array_walk, modified_walk, instance_walk, marked_walk, params_walk, parts_walk, calling_walk, method_walk, accessed_walk, formed_walk, elem_walk, type_walk, front_walk, both_end, token_walk}
use Rattle.enc_sigs.proofs.Many.{many_length, params_length}
use Rattle.enc_sigs.proofs.InStep.{InStep, none_right, giving_known, giving_step, both_step, upon_step, alone_step, token_step, pairs_agree, same_numbers, lists_agree, more_step, many_step}

-- trees with one first byte
tree_agree : (same : Token → Token → Bool) (b : ℕ) (t u : Token) (n m : ℕ) (xs ys : List Tree) → trees_agree same (tree b t n xs) (tree b u m ys) ≡ (tokens_agree same t u && n == m && lists_agree same xs ys)
tree_agree same b t u n m xs ys = rw (eq-eqb b b refl) refl

one_agree : (same : Token → Token → Bool) (x y : Tree) → lists_agree same (x ∷ []) (y ∷ []) ≡ trees_agree same x y
unfolding forests_agree
one_agree same x y = and-true (trees_agree same x y)

none_agree : (same : Token → Token → Bool) → lists_agree same [] [] ≡ true
unfolding forests_agree
none_agree same = refl

wrapped_step : (same : Token → Token → Bool) (b : ℕ) (r : Reader Tree) (walk : Walk) → InStep (trees_agree same) r walk → InStep (trees_agree same) (wrapped_in r b) walk
unfolding wrapped_in
wrapped_step same b r walk step = giving_step (λ x. tree b nil 0 (x ∷ [])) (trees_agree same) (trees_agree same) r walk (λ x y. sym (tree_agree same b nil nil 0 0 (x ∷ []) (y ∷ []) ∙ one_agree same x y)) step

named_step : (same : Token → Token → Bool) (b : ℕ) → InStep (trees_agree same) (named_in is_coded b) (token_walk same)
unfolding named_in
named_step same b = giving_step (λ t. tree b t 0 []) (tokens_agree same) (trees_agree same) (token_in is_coded) (token_walk same) (λ t u. sym (tree_agree same b t u 0 0 [] [] ∙ rw (none_agree same, and-true (tokens_agree same t u), and-true (tokens_agree same t u)) refl)) (token_step same)

modified_step : (same : Token → Token → Bool) (b : ℕ) (r : Reader Tree) (walk : Walk) → InStep (trees_agree same) r walk → InStep (trees_agree same) (modified_in is_coded r b) (modified_walk same walk)
unfolding modified_in modified_walk
modified_step same b r walk step = giving_step (λ (p : Token × Tree). tree b p.0 0 (p.1 ∷ [])) (pairs_agree (tokens_agree same) (trees_agree same)) (trees_agree same) (both (token_in is_coded) r) (onward (token_walk same) walk) (λ p q. sym (tree_agree same b p.0 q.0 0 0 (p.1 ∷ []) (q.1 ∷ []) ∙ rw (one_agree same p.1 q.1, and-true (tokens_agree same p.0 q.0)) refl)) (both_step (tokens_agree same) (trees_agree same) (token_in is_coded) r (token_walk same) walk (token_step same) step)

numbered_step : (same : Token → Token → Bool) (b : ℕ) (r : Reader ℕ) → InStep (trees_agree same) (numbered_in b r) (alike_alone r)
unfolding numbered_in
numbered_step same b r = giving_step (λ n. tree b nil n []) same_numbers (trees_agree same) r (alike_alone r) (λ n m. sym (tree_agree same b nil nil n m [] [] ∙ rw (none_agree same, and-true (n == m)) refl)) (alone_step r)

-- the count of a list is known by its length
and_right : (s t : Bool) → (s && t) ≡ true → t ≡ true
and_right true t e = e
and_right false t e = absurd (cc)

length_agree : (same : Token → Token → Bool) (xs ys : List Tree) → lists_agree same xs ys ≡ true → length xs ≡ length ys
unfolding forests_agree
length_agree same [] [] e = refl
length_agree same [] (y ∷ ys) e = absurd (cc)
length_agree same (x ∷ xs) [] e = absurd (cc)
length_agree same (x ∷ xs) (y ∷ ys) e = ap suc (length_agree same xs ys (and_right (trees_agree same x y) (lists_agree same xs ys) e))

known_by : (t c : Bool) → (t ≡ true → c ≡ true) → (c && t) ≡ t
known_by true c h = rw (h refl) refl
known_by false true h = refl
known_by false false h = refl

pub map_known : {A B : Type 0} (K : B → Type 0) (h : A → B) (o : Option (A × List ℕ)) (p : B × List ℕ) → ((q : A × List ℕ) → o ≡ Some q → K (h q.0)) → option_map {T = A × List ℕ} (λ q. (h q.0, q.1)) o ≡ Some p → K p.0
map_known K h None p is e = absurd (cc)
map_known K h (Some q) p is e = let f : (h q.0, q.1) ≡ p = cc in subst (λ x. K x.0) f (is q refl)

pub upon_known : {B : Type 0} (K : ℕ × B → Type 0) (s : ℕ → Reader B) (o : Option (ℕ × List ℕ)) (p : (ℕ × B) × List ℕ) → ((n : ℕ) (bytes : List ℕ) (q : B × List ℕ) → s n bytes ≡ Some q → K (n, q.0)) → option_and_then {T = ℕ × List ℕ} (λ p. option_map {T = B × List ℕ} (λ q. ((p.0, q.0), q.1)) (s p.0 p.1)) o ≡ Some p → K p.0
upon_known K s None p is e = absurd (cc)
upon_known {B} K s (Some n) p is e = map_known K (λ (x : B). (n.0, x)) (s n.0 n.1) p (is n.0 n.1) e

pub both_known : {A B : Type 0} (K : A × B → Type 0) (s : Reader B) (o : Option (A × List ℕ)) (p : (A × B) × List ℕ) → ((x : A) (rest : List ℕ) (q : B × List ℕ) → o ≡ Some (x, rest) → s rest ≡ Some q → K (x, q.0)) → option_and_then {T = A × List ℕ} (λ p. option_map {T = B × List ℕ} (λ q. ((p.0, q.0), q.1)) (s p.1)) o ≡ Some p → K p.0
both_known K s None p is e = absurd (cc)
both_known {A} {B} K s (Some n) p is e = map_known K (λ (x : B). (n.0, x)) (s n.1) p (λ q. is n.0 n.1 q refl) e

counted_step : (same : Token → Token → Bool) (r : Reader Tree) (walk : Walk) → InStep (trees_agree same) r walk → InStep (lists_agree same) (list_in r) (counted_walk walk)
unfolding list_in counted_walk
counted_step same r walk step =
    let size = λ (a : List ℕ) (p : (ℕ × List Tree) × List ℕ) (e : upon number_in (many r) a ≡ Some p). upon_known (λ x. length x.1 ≡ x.0) (many r) (number_in a) p (many_length r) e in
    giving_known (λ (p : ℕ × List Tree). p.1) (pairs_agree same_numbers (lists_agree same)) (lists_agree same) (upon number_in (many r)) (upon_alike number_in (many_walk walk)) (λ a b p q e f. known_by (lists_agree same p.0.1 q.0.1) (p.0.0 == q.0.0) (λ h. eq-eqb p.0.0 q.0.0 (sym (size a p e) ∙ length_agree same p.0.1 q.0.1 h ∙ size b q f))) (upon_step (lists_agree same) number_in (many r) (many_walk walk) (λ n. many_step same r walk n step))

numerals_step : (same : Token → Token → Bool) (kind : Numeral) → InStep (trees_agree same) (numerals_in kind) (numerals_walk kind)
unfolding numerals_in numerals_walk
numerals_step same kind = giving_step (λ ts. tree 0 nil 0 ts) (lists_agree same) (trees_agree same) (list_in (numbered_in 0 (numeral_in kind))) (counted_walk (alike_alone (numeral_in kind))) (λ xs ys. refl) (counted_step same (numbered_in 0 (numeral_in kind)) (alike_alone (numeral_in kind)) (numbered_step same 0 (numeral_in kind)))

three_agree : (same : Token → Token → Bool) (x y s t b d : Tree) → lists_agree same (x ∷ s ∷ b ∷ []) (y ∷ t ∷ d ∷ []) ≡ (trees_agree same x y && (trees_agree same s t && trees_agree same b d))
unfolding forests_agree
three_agree same x y s t b d = rw (and-true (trees_agree same b d)) refl

swapped : (p q r : Bool) → (p && (q && r)) ≡ (q && (p && r))
swapped true q r = refl
swapped false true r = refl
swapped false false r = refl

array_step : (same : Token → Token → Bool) (b : ℕ) (r : Reader Tree) (walk : Walk) → InStep (trees_agree same) r walk → InStep (trees_agree same) (array_in r b) (array_walk walk)
unfolding array_in array_walk
array_step same b r walk step =
    let lasts = both_step (trees_agree same) (trees_agree same) (numerals_in Size) (numerals_in Bound) (numerals_walk Size) (numerals_walk Bound) (numerals_step same Size) (numerals_step same Bound) in
    let mids = both_step same_numbers (pairs_agree (trees_agree same) (trees_agree same)) number_in (both (numerals_in Size) (numerals_in Bound)) (alike_alone number_in) (onward (numerals_walk Size) (numerals_walk Bound)) (alone_step number_in) lasts in
    let all = both_step (trees_agree same) (pairs_agree same_numbers (pairs_agree (trees_agree same) (trees_agree same))) r (both number_in (both (numerals_in Size) (numerals_in Bound))) walk (onward (alike_alone number_in) (onward (numerals_walk Size) (numerals_walk Bound))) step mids in
    giving_step (λ (p : Tree × (ℕ × (Tree × Tree))). tree b nil p.1.0 (p.0 ∷ p.1.1.0 ∷ p.1.1.1 ∷ [])) (pairs_agree (trees_agree same) (pairs_agree same_numbers (pairs_agree (trees_agree same) (trees_agree same)))) (trees_agree same) (both r (both number_in (both (numerals_in Size) (numerals_in Bound)))) (onward walk (onward (alike_alone number_in) (onward (numerals_walk Size) (numerals_walk Bound)))) (λ p q. swapped (trees_agree same p.0 q.0) (p.1.0 == q.1.0) (trees_agree same p.1.1.0 q.1.1.0 && trees_agree same p.1.1.1 q.1.1.1) ∙ sym (tree_agree same b nil nil p.1.0 q.1.0 (p.0 ∷ p.1.1.0 ∷ p.1.1.1 ∷ []) (q.0 ∷ q.1.1.0 ∷ q.1.1.1 ∷ []) ∙ ap (λ t. p.1.0 == q.1.0 && t) (three_agree same p.0 q.0 p.1.1.0 q.1.1.0 p.1.1.1 q.1.1.1))) all

turned : (n t l : Bool) → (n && (t && l)) ≡ (t && n && l)
turned true true l = refl
turned true false l = refl
turned false true l = refl
turned false false l = refl

instance_step : (same : Token → Token → Bool) (b : ℕ) (r : Reader Tree) (walk : Walk) → InStep (trees_agree same) r walk → InStep (trees_agree same) (instance_in is_coded r b) (instance_walk same walk)
unfolding instance_in instance_walk
instance_step same b r walk step =
    let class = byte_in (λ c. c == 0x11 || c == 0x12) in
    let lasts = both_step (tokens_agree same) (lists_agree same) (token_in is_coded) (list_in r) (token_walk same) (counted_walk walk) (token_step same) (counted_step same r walk step) in
    let all = both_step same_numbers (pairs_agree (tokens_agree same) (lists_agree same)) class (both (token_in is_coded) (list_in r)) (alike_alone class) (onward (token_walk same) (counted_walk walk)) (alone_step class) lasts in
    giving_step (λ (p : ℕ × (Token × List Tree)). tree b p.1.0 p.0 p.1.1) (pairs_agree same_numbers (pairs_agree (tokens_agree same) (lists_agree same))) (trees_agree same) (both class (both (token_in is_coded) (list_in r))) (onward (alike_alone class) (onward (token_walk same) (counted_walk walk))) (λ p q. turned (p.0 == q.0) (tokens_agree same p.1.0 q.1.0) (lists_agree same p.1.1 q.1.1) ∙ sym (tree_agree same b p.1.0 q.1.0 p.0 q.0 p.1.1 q.1.1)) all

-- where what is read never agrees, neither does the walk
unlike : {A : Type 0} (f : A → A → Bool) (o u : Option (A × List ℕ)) → ((p q : A × List ℕ) → o ≡ Some p → u ≡ Some q → f p.0 q.0 ≡ false) → None ≡ paired f o u
unlike f None u h = refl
unlike f (Some p) None h = refl
unlike f (Some p) (Some q) h = rw (h p q refl refl) refl

-- the first of these is a sentinel
abbrev pub first_is_sentinel : List Tree → Bool
first_is_sentinel [] = false
first_is_sentinel (x ∷ xs) = x.element == 0x41

other_bytes : (n m : ℕ) (t : Bool) → n == 0x41 ≡ true → m == 0x41 ≡ false → n == m ≡ t → t ≡ false
other_bytes n m false e f g = refl
other_bytes n m true e f g =
    let h : m ≡ 0x41 = sym (eqb-true n m g) ∙ eqb-true n 0x41 e in
    absurd (let k : true ≡ false = sym (eq-eqb m 0x41 h) ∙ f in cc)

other_bytes_back : (n m : ℕ) (t : Bool) → n == 0x41 ≡ false → m == 0x41 ≡ true → n == m ≡ t → t ≡ false
other_bytes_back n m false e f g = refl
other_bytes_back n m true e f g =
    let h : n ≡ 0x41 = eqb-true n m g ∙ eqb-true m 0x41 f in
    absurd (let k : true ≡ false = sym (eq-eqb n 0x41 h) ∙ e in cc)

first_differs : (same : Token → Token → Bool) (xs ys : List Tree) → first_is_sentinel xs ≡ true → first_is_sentinel ys ≡ false → lists_agree same xs ys ≡ false
unfolding forests_agree
first_differs same [] ys e f = absurd (cc)
first_differs same (x ∷ xs) [] e f = refl
first_differs same (x ∷ xs) (y ∷ ys) e f = rw (other_bytes x.element y.element (x.element == y.element) e f refl) refl

first_differs_back : (same : Token → Token → Bool) (xs ys : List Tree) → first_is_sentinel xs ≡ false → first_is_sentinel ys ≡ true → lists_agree same xs ys ≡ false
unfolding forests_agree
first_differs_back same xs [] e f = absurd (cc)
first_differs_back same [] (y ∷ ys) e f = refl
first_differs_back same (x ∷ xs) (y ∷ ys) e f = rw (other_bytes_back x.element y.element (x.element == y.element) e f refl) refl

-- what is read is no sentinel
abbrev pub IsPlain : Reader Tree → Type 0
IsPlain r = (bytes : List ℕ) (p : Tree × List ℕ) → r bytes ≡ Some p → (begins 0x41 bytes ≡ false) × (p.0.element == 0x41 ≡ false)

pub marked_first : (r : Reader Tree) (n : ℕ) (bytes : List ℕ) (p : List Tree × List ℕ) → marked_in r n bytes ≡ Some p → first_is_sentinel p.0 ≡ true
unfolding marked_in wrapped_in
marked_first r n bytes p e =
    map_known (λ xs. first_is_sentinel xs ≡ true) (λ (p : Tree × List Tree). p.0 ∷ p.1) (both (wrapped_in r 0x41) (many r n) bytes) p (λ q f. both_known (λ x. x.0.element == 0x41 ≡ true) (many r n) (wrapped_in r 0x41 bytes) q (λ x rest u g h. map_known (λ y. y.element == 0x41 ≡ true) (λ x. tree 0x41 nil 0 (x ∷ [])) (r bytes) (x, rest) (λ v k. refl) g) f) e

pub plain_first : (r : Reader Tree) (s : Reader (List Tree)) (bytes : List ℕ) (p : List Tree × List ℕ) → IsPlain r → more_in r s bytes ≡ Some p → first_is_sentinel p.0 ≡ false
plain_first r s bytes p plain e =
    map_known (λ xs. first_is_sentinel xs ≡ false) (λ (p : Tree × List Tree). p.0 ∷ p.1) (both r s bytes) p (λ q f. both_known (λ x. x.0.element == 0x41 ≡ false) s (r bytes) q (λ x rest u g h. (plain bytes (x, rest) g).1) f) e

none_marked : (r : Reader Tree) (bytes : List ℕ) (o : Option (Tree × List ℕ)) → IsPlain r → begins 0x41 bytes ≡ true → r bytes ≡ o → o ≡ None
none_marked r bytes None plain e is = refl
none_marked r bytes (Some p) plain e is = absurd (let k : true ≡ false = sym e ∙ (plain bytes p is).0 in cc)

none_onward : (same : Token → Token → Bool) (o : Option (List ℕ × List ℕ)) (u w : Option (Tree × List ℕ)) (next : Walk) → o ≡ paired (trees_agree same) u w → w ≡ None → option_and_then {T = List ℕ × List ℕ} (λ x. next x.0 x.1) o ≡ None
none_onward same o u w next e f =
    let g : o ≡ None = e ∙ ap (paired (trees_agree same) u) f ∙ sym (none_right (trees_agree same) u) in
    rw g refl

params_tests : (same : Token → Token → Bool) (r : Reader Tree) (walk : Walk) (n : ℕ) (a b : List ℕ) (s t : Bool) → IsPlain r → InStep (trees_agree same) r walk → InStep (lists_agree same) (params r n) (params_walk walk n) → begins 0x41 a ≡ s → begins 0x41 b ≡ t → (if s then (if t then onward walk (many_walk walk n) (drop 1 a) (drop 1 b) else None) else onward walk (params_walk walk n) a b) ≡ paired (lists_agree same) (if s then marked_in r n (drop 1 a) else more_in r (params r n) a) (if t then marked_in r n (drop 1 b) else more_in r (params r n) b)
unfolding marked_in
params_tests same r walk n a b true true plain step rest e f = more_step same (wrapped_in r 0x41) (many r n) walk (many_walk walk n) (wrapped_step same 0x41 r walk step) (many_step same r walk n step) (drop 1 a) (drop 1 b)
params_tests same r walk n a b true false plain step rest e f = unlike (lists_agree same) (marked_in r n (drop 1 a)) (more_in r (params r n) b) (λ p q g h. first_differs same p.0 q.0 (marked_first r n (drop 1 a) p g) (plain_first r (params r n) b q plain h))
params_tests same r walk n a b false true plain step rest e f =
    none_onward same (walk a b) (r a) (r b) (params_walk walk n) (step a b) (none_marked r b (r b) plain f refl)
    ∙ unlike (lists_agree same) (more_in r (params r n) a) (marked_in r n (drop 1 b)) (λ p q g h. first_differs_back same p.0 q.0 (plain_first r (params r n) a p plain g) (marked_first r n (drop 1 b) q h))
params_tests same r walk n a b false false plain step rest e f = more_step same r (params r n) walk (params_walk walk n) step rest a b

params_step : (same : Token → Token → Bool) (r : Reader Tree) (walk : Walk) (n : ℕ) → IsPlain r → InStep (trees_agree same) r walk → InStep (lists_agree same) (params r n) (params_walk walk n)
unfolding params params_walk marked_walk forests_agree
params_step same r walk zero plain step a b = refl
params_step same r walk (suc n) plain step a b = params_tests same r walk n a b (begins 0x41 a) (begins 0x41 b) plain step (params_step same r walk n plain step) refl refl

-- a count, a first type and as many more
parts_by : (same : Token → Token → Bool) (r : Reader Tree) (walk : Walk) (s : ℕ → Reader (List Tree)) (next : ℕ → Walk) → InStep (trees_agree same) r walk → ((n : ℕ) → InStep (lists_agree same) (s n) (next n)) → ((n : ℕ) (bytes : List ℕ) (q : List Tree × List ℕ) → s n bytes ≡ Some q → length q.0 ≡ n) → InStep (lists_agree same) (giving (λ (p : ℕ × (Tree × List Tree)). p.1.0 ∷ p.1.1) (upon number_in (λ n. both r (s n)))) (upon_alike number_in (λ n. onward walk (next n)))
unfolding forests_agree
parts_by same r walk s next step others size =
    let known = λ (a : List ℕ) (p : (ℕ × (Tree × List Tree)) × List ℕ) (e : upon number_in (λ n. both r (s n)) a ≡ Some p). upon_known (λ x. length x.1.1 ≡ x.0) (λ n. both r (s n)) (number_in a) p (λ n bytes q f. both_known (λ x. length x.1 ≡ n) (s n) (r bytes) q (λ x rest u g h. size n rest u h) f) e in
    giving_known (λ (p : ℕ × (Tree × List Tree)). p.1.0 ∷ p.1.1) (pairs_agree same_numbers (pairs_agree (trees_agree same) (lists_agree same))) (lists_agree same) (upon number_in (λ n. both r (s n))) (upon_alike number_in (λ n. onward walk (next n))) (λ a b p q e f. known_by (lists_agree same (p.0.1.0 ∷ p.0.1.1) (q.0.1.0 ∷ q.0.1.1)) (p.0.0 == q.0.0) (λ h. eq-eqb p.0.0 q.0.0 (sym (known a p e) ∙ length_agree same p.0.1.1 q.0.1.1 (and_right (trees_agree same p.0.1.0 q.0.1.0) (lists_agree same p.0.1.1 q.0.1.1) h) ∙ known b q f))) (upon_step (pairs_agree (trees_agree same) (lists_agree same)) number_in (λ n. both r (s n)) (λ n. onward walk (next n)) (λ n. both_step (trees_agree same) (lists_agree same) r (s n) walk (next n) step (others n)))

parts_step : (same : Token → Token → Bool) (r : Reader Tree) (walk : Walk) → IsPlain r → InStep (trees_agree same) r walk → InStep (lists_agree same) (parts_in r) (parts_walk walk)
unfolding parts_in parts_walk
parts_step same r walk plain step = parts_by same r walk (params r) (params_walk walk) step (λ n. params_step same r walk n plain step) (params_length r)

accessed_step : (same : Token → Token → Bool) (r : Reader Tree) (walk : Walk) → InStep (trees_agree same) r walk → InStep (lists_agree same) (accessed_in r) (accessed_walk walk)
unfolding accessed_in accessed_walk
accessed_step same r walk step = parts_by same r walk (many r) (many_walk walk) step (λ n. many_step same r walk n step) (many_length r)

abbrev same_pairs : ℕ × ℕ → ℕ × ℕ → Bool
same_pairs p q = p.0 == q.0 && p.1 == q.1

calling_step : InStep same_pairs calling_in calling_walk
unfolding calling_walk
calling_step a b = refl

method_step : (same : Token → Token → Bool) (r : Reader Tree) (walk : Walk) → IsPlain r → InStep (trees_agree same) r walk → InStep (pairs_agree same_pairs (lists_agree same)) (method_in r) (method_walk walk)
unfolding method_in method_walk
method_step same r walk plain step = both_step same_pairs (lists_agree same) calling_in (parts_in r) calling_walk (parts_walk walk) calling_step (parts_step same r walk plain step)

generics_agree : (same : Token → Token → Bool) (n m : ℕ) (xs ys : List Tree) → lists_agree same (tree 0 nil n [] ∷ xs) (tree 0 nil m [] ∷ ys) ≡ (n == m && lists_agree same xs ys)
unfolding forests_agree
generics_agree same n m xs ys = rw (and-true (n == m)) refl

grouped : (p q r : Bool) → (p && q && r) ≡ (p && (q && r))
grouped true q r = refl
grouped false q r = refl

pointer_step : (same : Token → Token → Bool) (b : ℕ) (r : Reader Tree) (walk : Walk) → IsPlain r → InStep (trees_agree same) r walk → InStep (trees_agree same) (pointer_in r b) (method_walk walk)
unfolding pointer_in
pointer_step same b r walk plain step = giving_step (λ (p : (ℕ × ℕ) × List Tree). tree b nil p.0.0 (tree 0 nil p.0.1 [] ∷ p.1)) (pairs_agree same_pairs (lists_agree same)) (trees_agree same) (method_in r) (method_walk walk) (λ p q. grouped (p.0.0 == q.0.0) (p.0.1 == q.0.1) (lists_agree same p.1 q.1) ∙ sym (tree_agree same b nil nil p.0.0 q.0.0 (tree 0 nil p.0.1 [] ∷ p.1) (tree 0 nil q.0.1 [] ∷ q.1) ∙ ap (λ t. p.0.0 == q.0.0 && t) (generics_agree same p.0.1 q.0.1 p.1 q.1))) (method_step same r walk plain step)

bare_agree : (same : Token → Token → Bool) (b : ℕ) → true ≡ trees_agree same (tree b nil 0 []) (tree b nil 0 [])
bare_agree same b = sym (tree_agree same b nil nil 0 0 [] [] ∙ none_agree same)

formed_step : (same : Token → Token → Bool) (f : TypeForm) (b : ℕ) (r : Reader Tree) (walk : Walk) → IsPlain r → InStep (trees_agree same) r walk → InStep (trees_agree same) (formed_in is_coded r f b) (formed_walk same walk f)
unfolding formed_in formed_walk
formed_step same form.Bare b r walk plain step x y = ap (λ t. if t then Some (x, y) else None) (bare_agree same b)
formed_step same form.Wrapped b r walk plain step x y = wrapped_step same b r walk step x y
formed_step same form.Named b r walk plain step x y = named_step same b x y
formed_step same form.Modified b r walk plain step x y = modified_step same b r walk step x y
formed_step same form.Numbered b r walk plain step x y = numbered_step same b number_in x y
formed_step same form.Array b r walk plain step x y = array_step same b r walk step x y
formed_step same form.Instance b r walk plain step x y = instance_step same b r walk step x y
formed_step same form.Pointer b r walk plain step x y = pointer_step same b r walk plain step x y

-- a type's element is its first byte
pub formed_element : (good : ℕ → Bool) (f : TypeForm) (b : ℕ) (r : Reader Tree) (bytes : List ℕ) (p : Tree × List ℕ) → formed_in good r f b bytes ≡ Some p → p.0.element ≡ b
unfolding formed_in wrapped_in named_in modified_in numbered_in array_in instance_in pointer_in
formed_element good form.Bare b r bytes p e = let g : (tree b nil 0 [], bytes) ≡ p = cc in subst (λ x. x.0.element ≡ b) g refl
formed_element good form.Wrapped b r bytes p e = map_known (λ t. t.element ≡ b) (λ x. tree b nil 0 (x ∷ [])) (r bytes) p (λ q f. refl) e
formed_element good form.Named b r bytes p e = map_known (λ t. t.element ≡ b) (λ t. tree b t 0 []) (token_in good bytes) p (λ q f. refl) e
formed_element good form.Modified b r bytes p e = map_known (λ t. t.element ≡ b) (λ (p : Token × Tree). tree b p.0 0 (p.1 ∷ [])) (both (token_in good) r bytes) p (λ q f. refl) e
formed_element good form.Numbered b r bytes p e = map_known (λ t. t.element ≡ b) (λ n. tree b nil n []) (number_in bytes) p (λ q f. refl) e
formed_element good form.Array b r bytes p e = map_known (λ t. t.element ≡ b) (λ (p : Tree × (ℕ × (Tree × Tree))). tree b nil p.1.0 (p.0 ∷ p.1.1.0 ∷ p.1.1.1 ∷ [])) (both r (both number_in (both (numerals_in Size) (numerals_in Bound))) bytes) p (λ q f. refl) e
formed_element good form.Instance b r bytes p e = map_known (λ t. t.element ≡ b) (λ (p : ℕ × (Token × List Tree)). tree b p.1.0 p.0 p.1.1) (both (byte_in (λ c. c == 0x11 || c == 0x12)) (both (token_in good) (list_in r)) bytes) p (λ q f. refl) e
formed_element good form.Pointer b r bytes p e = map_known (λ t. t.element ≡ b) (λ (p : (ℕ × ℕ) × List Tree). tree b nil p.0.0 (tree 0 nil p.0.1 [] ∷ p.1)) (method_in r bytes) p (λ q f. refl) e

pub opened_element : (good : ℕ → Bool) (o : Option TypeForm) (b : ℕ) (r : Reader Tree) (bytes : List ℕ) (p : Tree × List ℕ) → option_and_then {T = TypeForm} (λ f. formed_in good r f b bytes) o ≡ Some p → p.0.element ≡ b
opened_element good None b r bytes p e = absurd (cc)
opened_element good (Some f) b r bytes p e = formed_element good f b r bytes p e

no_sentinel : (good : ℕ → Bool) (b : ℕ) (r : Reader Tree) (bytes : List ℕ) (p : Tree × List ℕ) (t : Bool) → option_and_then {T = TypeForm} (λ f. formed_in good r f b bytes) (form_of b) ≡ Some p → b == 0x41 ≡ t → t ≡ false
unfolding form_of
no_sentinel good b r bytes p false e f = refl
no_sentinel good b r bytes p true e f =
    let g = subst (λ (n : ℕ). option_and_then {T = TypeForm} (λ f. formed_in good r f b bytes) (form_of n) ≡ Some p) (eqb-true b 0x41 f) e in
    absurd (cc)

pub elem_plain : (good : ℕ → Bool) (depth : ℕ) → IsPlain (elem_in good depth)
unfolding elem_in
elem_plain good zero bytes p e = absurd (cc)
elem_plain good (suc depth) [] p e = absurd (cc)
elem_plain good (suc depth) (b ∷ rest) p e =
    let f = no_sentinel good b (elem_in good depth) rest p (b == 0x41) e refl in
    (f, rw (opened_element good (form_of b) b (elem_in good depth) rest p e) f)

opened_step : (same : Token → Token → Bool) (o : Option TypeForm) (b : ℕ) (r : Reader Tree) (walk : Walk) (x y : List ℕ) → IsPlain r → InStep (trees_agree same) r walk → option_and_then {T = TypeForm} (λ f. formed_walk same walk f x y) o ≡ paired (trees_agree same) (option_and_then {T = TypeForm} (λ f. formed_in is_coded r f b x) o) (option_and_then {T = TypeForm} (λ f. formed_in is_coded r f b y) o)
opened_step same None b r walk x y plain step = refl
opened_step same (Some f) b r walk x y plain step = formed_step same f b r walk plain step x y

elements_differ : (same : Token → Token → Bool) (x y : Tree) (n m : ℕ) → x.element ≡ n → y.element ≡ m → n == m ≡ false → trees_agree same x y ≡ false
elements_differ same x y n m e f g = rw (e, f, g) refl

elem_tests : (same : Token → Token → Bool) (n m : ℕ) (r : Reader Tree) (walk : Walk) (a b : List ℕ) (t : Bool) → IsPlain r → InStep (trees_agree same) r walk → n == m ≡ t → (if t then option_and_then {T = TypeForm} (λ f. formed_walk same walk f a b) (form_of n) else None) ≡ paired (trees_agree same) (option_and_then {T = TypeForm} (λ f. formed_in is_coded r f n a) (form_of n)) (option_and_then {T = TypeForm} (λ f. formed_in is_coded r f m b) (form_of m))
elem_tests same n m r walk a b true plain step e =
    let P : ℕ → Type 0 = λ k. option_and_then {T = TypeForm} (λ f. formed_walk same walk f a b) (form_of n) ≡ paired (trees_agree same) (option_and_then {T = TypeForm} (λ f. formed_in is_coded r f n a) (form_of n)) (option_and_then {T = TypeForm} (λ f. formed_in is_coded r f k b) (form_of k)) in
    subst P (eqb-true n m e) (opened_step same (form_of n) n r walk a b plain step)
elem_tests same n m r walk a b false plain step e = unlike (trees_agree same) (option_and_then {T = TypeForm} (λ f. formed_in is_coded r f n a) (form_of n)) (option_and_then {T = TypeForm} (λ f. formed_in is_coded r f m b) (form_of m)) (λ p q g h. elements_differ same p.0 q.0 n m (opened_element is_coded (form_of n) n r a p g) (opened_element is_coded (form_of m) m r b q h) e)

pub elem_step : (same : Token → Token → Bool) (depth : ℕ) → InStep (trees_agree same) (elem_in is_coded depth) (elem_walk same depth)
unfolding elem_in elem_walk
elem_step same zero a b = refl
elem_step same (suc depth) [] b = refl
elem_step same (suc depth) (n ∷ a) [] = none_right (trees_agree same) (elem_in is_coded (suc depth) (n ∷ a))
elem_step same (suc depth) (n ∷ a) (m ∷ b) = elem_tests same n m (elem_in is_coded depth) (elem_walk same depth) a b (n == m) (elem_plain is_coded depth) (elem_step same depth) refl

type_step : (same : Token → Token → Bool) → InStep (trees_agree same) (type_in is_coded) (type_walk same)
unfolding type_in type_walk
type_step same = elem_step same 100

type_plain : IsPlain (type_in is_coded)
unfolding type_in
type_plain = elem_plain is_coded 100

tagged_step : (same : Token → Token → Bool) (kind : SigKind) (test : ℕ → Bool) (s : Reader (List Tree)) (walk : Walk) → InStep (lists_agree same) s walk → InStep (sig_trees_agree same) (giving (λ (p : ℕ × List Tree). record { form = kind; kind = p.0; generics = 0; parts = p.1 }) (both (byte_in test) s)) (onward (alike_alone (byte_in test)) walk)
tagged_step same kind test s walk step = giving_step (λ (p : ℕ × List Tree). record { form = kind; kind = p.0; generics = 0; parts = p.1 }) (pairs_agree same_numbers (lists_agree same)) (sig_trees_agree same) (both (byte_in test) s) (onward (alike_alone (byte_in test)) walk) (λ p q. sym (rw (and-true (p.0 == q.0)) refl)) (both_step same_numbers (lists_agree same) (byte_in test) s (alike_alone (byte_in test)) walk (alone_step (byte_in test)) step)

front_step : (same : Token → Token → Bool) (kind : SigKind) → InStep (sig_trees_agree same) (front_in is_coded kind) (front_walk same kind)
unfolding front_in front_walk
front_step same Method a b = giving_step (λ (p : (ℕ × ℕ) × List Tree). record { form = Method; kind = p.0.0; generics = p.0.1; parts = p.1 }) (pairs_agree same_pairs (lists_agree same)) (sig_trees_agree same) (method_in (type_in is_coded)) (method_walk (type_walk same)) (λ p q. refl) (method_step same (type_in is_coded) (type_walk same) type_plain (type_step same)) a b
front_step same Field a b = giving_step (λ (p : ℕ × Tree). record { form = Field; kind = p.0; generics = 0; parts = p.1 ∷ [] }) (pairs_agree same_numbers (trees_agree same)) (sig_trees_agree same) (both (byte_in (λ b. b == 0x06)) (type_in is_coded)) (onward (alike_alone (byte_in (λ b. b == 0x06))) (type_walk same)) (λ p q. sym (rw (and-true (p.0 == q.0), one_agree same p.1 q.1) refl)) (both_step same_numbers (trees_agree same) (byte_in (λ b. b == 0x06)) (type_in is_coded) (alike_alone (byte_in (λ b. b == 0x06))) (type_walk same) (alone_step (byte_in (λ b. b == 0x06))) (type_step same)) a b
front_step same Locals a b = tagged_step same Locals (λ b. b == 0x07) (list_in (type_in is_coded)) (counted_walk (type_walk same)) (counted_step same (type_in is_coded) (type_walk same) (type_step same)) a b
front_step same Property a b = tagged_step same Property (λ b. b == 0x08 || b == 0x28) (accessed_in (type_in is_coded)) (accessed_walk (type_walk same)) (accessed_step same (type_in is_coded) (type_walk same) (type_step same)) a b
front_step same TypeSpec a b = giving_step (λ (t : Tree). record { form = TypeSpec; kind = 0; generics = 0; parts = t ∷ [] }) (trees_agree same) (sig_trees_agree same) (type_in is_coded) (type_walk same) (λ x y. sym (one_agree same x y)) (type_step same) a b
front_step same MethodSpec a b = tagged_step same MethodSpec (λ b. b == 0x0A) (list_in (type_in is_coded)) (counted_walk (type_walk same)) (counted_step same (type_in is_coded) (type_walk same) (type_step same)) a b

-- both end where the walk does
end_tests : (f : SigTree → SigTree → Bool) (x y : SigTree) (r s : List ℕ) (t : Bool) → f x y ≡ t → both_end (if t then Some (r, s) else None) ≡ if_both f (unless_more x r) (unless_more y s)
end_tests f x y [] [] true e = sym e
end_tests f x y [] [] false e = sym e
end_tests f x y [] (b ∷ s) true e = refl
end_tests f x y [] (b ∷ s) false e = refl
end_tests f x y (a ∷ r) s true e = refl
end_tests f x y (a ∷ r) s false e = refl

no_second : (f : SigTree → SigTree → Bool) (o : Option SigTree) → false ≡ if_both f o None
no_second f None = refl
no_second f (Some x) = refl

end_by : (f : SigTree → SigTree → Bool) (o u : Option (SigTree × List ℕ)) → both_end (paired f o u) ≡ if_both f (all_of o) (all_of u)
end_by f None u = refl
end_by f (Some p) None = no_second f (unless_more p.0 p.1)
end_by f (Some p) (Some q) = end_tests f p.0 q.0 p.1 q.1 (f p.0 q.0) refl

pub sigs_agreed : (same : Token → Token → Bool) (kind : SigKind) (a b : List ℕ) → both_end (front_walk same kind a b) ≡ sigs_agree same kind a b
unfolding sigs_agree sig_in
sigs_agreed same kind a b = ap both_end (front_step same kind a b) ∙ end_by (sig_trees_agree same) (front_in is_coded kind a) (front_in is_coded kind b)
