-- A signature has one shape by two functions that give the tokens that it names the same keys.
use Rattle.std.proofs.Common.{◌≡◌, ℕ, zero, suc, Bool, true, false, List, [], ◌∷◌, Option, Some, None, refl, ap, subst, sym, ◌∙◌}
use Rattle.std.specs.Prelude.{◌||◌, ◌==◌, drop, option_map, option_and_then, if◌then◌else◌}
use Rattle.enc_base.specs.Readers.{Reader, giving, both, number_in}
use Rattle.enc_base.specs.Token.{nil}
use Rattle.enc_base.specs.declared.token.Token.{Token}
use Rattle.enc_sigs.specs.declared.type_form.TypeForm.{TypeForm}
use Rattle.enc_sigs.specs.declared.type_form.TypeForm.TheVariants as form
use Rattle.enc_sigs.specs.declared.type_form.Numeral.{Numeral}
use Rattle.enc_sigs.specs.declared.type_form.Numeral.TheVariants.{Size, Bound}
use Rattle.enc_sigs.specs.declared.kind.SigKind.TheVariants.{Method, TypeSpec}
use Rattle.enc_sigs.specs.declared.mix.Mix.{Mix}
use Rattle.enc_sigs.specs.Mix.{mix_of, mixed, mixed_both}
use Rattle.enc_sigs.specs.Tree.{Tree, SigTree}
use Rattle.enc_sigs.specs.Grammar.{upon, many, list_in, byte_in, token_in, token_named, is_coded, tree, form_of, wrapped_in, named_in, modified_in, numbered_in, numeral_in, numerals_in, array_in, instance_in, begins, more_in, marked_in, params, calling_in, parts_in, method_in, pointer_in, formed_in, elem_in, type_in, front_in, sig_in}
use Rattle.enc_sigs.specs.Shape.{Shaping, in_turn, number_shape, upon_shape, token_shape, many_shape, counted_shape, numerals_shape, array_shape, modified_shape, instance_shape, marked_shape, params_shape, parts_shape, calling_shape, method_shape, formed_shape, elem_shape, type_shape, front_shape, mixed_of, sig_shape}
use Rattle.enc_dispatch.proofs.Named.{whole_read}

-- both give the same, and what is left is what the reader leaves
abbrev AreOne : Option (Mix × List ℕ) → Option (Mix × List ℕ) → List ℕ → Type 0
AreOne o u rest = (k : Mix) × (o ≡ Some (k, rest)) × (u ≡ Some (k, rest))

abbrev Sees : {A : Type 0} → Reader A → Shaping → Shaping → Type 0
Sees {A} r s t = (bytes : List ℕ) (p : A × List ℕ) → r bytes ≡ Some p → (h : Mix) → AreOne (s h bytes) (t h bytes) p.1

given_by : {A B : Type 0} (f : A → B) (s t : Shaping) (h : Mix) (bytes : List ℕ) (o : Option (A × List ℕ)) (p : B × List ℕ) → ((q : A × List ℕ) → o ≡ Some q → AreOne (s h bytes) (t h bytes) q.1) → option_map {T = A × List ℕ} (λ q. (f q.0, q.1)) o ≡ Some p → AreOne (s h bytes) (t h bytes) p.1
given_by f s t h bytes None p all e = absurd cc
given_by f s t h bytes (Some q) p all e = let g : (f q.0, q.1) ≡ p = cc in subst (λ x. AreOne (s h bytes) (t h bytes) x.1) g (all q refl)

giving_sees : {A B : Type 0} (f : A → B) (r : Reader A) (s t : Shaping) → Sees r s t → Sees (giving f r) s t
giving_sees f r s t all bytes p e h = given_by f s t h bytes (r bytes) p (λ q is. all bytes q is h) e

second_by : {A B : Type 0} (x : A) (one two : Option (Mix × List ℕ)) (o : Option (B × List ℕ)) (p : (A × B) × List ℕ) → ((q : B × List ℕ) → o ≡ Some q → AreOne one two q.1) → option_map {T = B × List ℕ} (λ q. ((x, q.0), q.1)) o ≡ Some p → AreOne one two p.1
second_by x one two None p all e = absurd cc
second_by x one two (Some q) p all e = let g : ((x, q.0), q.1) ≡ p = cc in subst (λ y. AreOne one two y.1) g (all q refl)

turn_by : (s t : Shaping) (one two : Option (Mix × List ℕ)) (k : Mix) (mid rest : List ℕ) → one ≡ Some (k, mid) → two ≡ Some (k, mid) → AreOne (s k mid) (t k mid) rest
    → AreOne (option_and_then {T = Mix × List ℕ} (λ x. s x.0 x.1) one) (option_and_then {T = Mix × List ℕ} (λ x. t x.0 x.1) two) rest
turn_by s t one two k mid rest e f w = (w.0, rw e w.1, rw f w.2)

both_by : {A B : Type 0} (r : Reader B) (s u t v : Shaping) (h : Mix) (bytes : List ℕ) (o : Option (A × List ℕ)) (p : (A × B) × List ℕ) → ((q : A × List ℕ) → o ≡ Some q → AreOne (s h bytes) (u h bytes) q.1) → Sees r t v
    → option_and_then {T = A × List ℕ} (λ p. option_map {T = B × List ℕ} (λ q. ((p.0, q.0), q.1)) (r p.1)) o ≡ Some p → AreOne (in_turn s t h bytes) (in_turn u v h bytes) p.1
both_by r s u t v h bytes None p first second e = absurd cc
both_by r s u t v h bytes (Some q) p first second e =
    let w = first q refl in
    turn_by t v (s h bytes) (u h bytes) w.0 q.1 p.1 w.1 w.2 (second_by q.0 (t w.0 q.1) (v w.0 q.1) (r q.1) p (λ y is. second q.1 y is w.0) e)

both_sees : {A B : Type 0} (q : Reader A) (r : Reader B) (s u t v : Shaping) → Sees q s u → Sees r t v → Sees (both q r) (in_turn s t) (in_turn u v)
both_sees q r s u t v first second bytes p e h = both_by r s u t v h bytes (q bytes) p (λ y is. first bytes y is h) second e

upon_by : {B : Type 0} (r : ℕ → Reader B) (s t : ℕ → Shaping) (h : Mix) (o : Option (ℕ × List ℕ)) (p : (ℕ × B) × List ℕ) → ((n : ℕ) → Sees (r n) (s n) (t n)) → option_and_then {T = ℕ × List ℕ} (λ p. option_map {T = B × List ℕ} (λ q. ((p.0, q.0), q.1)) (r p.0 p.1)) o ≡ Some p
    → AreOne (option_and_then {T = ℕ × List ℕ} (λ p. s p.0 (mixed h p.0) p.1) o) (option_and_then {T = ℕ × List ℕ} (λ p. t p.0 (mixed h p.0) p.1) o) p.1
upon_by r s t h None p all e = absurd cc
upon_by r s t h (Some q) p all e = second_by q.0 (s q.0 (mixed h q.0) q.1) (t q.0 (mixed h q.0) q.1) (r q.0 q.1) p (λ y is. all q.0 q.1 y is (mixed h q.0)) e

upon_sees : {B : Type 0} (q : Reader ℕ) (r : ℕ → Reader B) (s t : ℕ → Shaping) → ((n : ℕ) → Sees (r n) (s n) (t n)) → Sees (upon q r) (upon_shape q s) (upon_shape q t)
upon_sees q r s t all bytes p e h = upon_by r s t h (q bytes) p all e

number_sees : (r : Reader ℕ) → Sees r (number_shape r) (number_shape r)
unfolding number_shape
number_sees r bytes p e h = let f = ap (option_map {T = ℕ × List ℕ} (λ (q : ℕ × List ℕ). (mixed h q.0, q.1))) e in (mixed h p.0, f, f)

many_sees : {A : Type 0} (r : Reader A) (s t : Shaping) (n : ℕ) → Sees r s t → Sees (many r n) (many_shape s n) (many_shape t n)
unfolding many many_shape
many_sees {A} r s t zero all bytes p e h = let f : ([], bytes) ≡ p = cc in subst (λ (x : List A × List ℕ). AreOne (Some (h, bytes)) (Some (h, bytes)) x.1) f (h, refl, refl)
many_sees {A} r s t (suc n) all bytes p e h = giving_sees (λ (x : A × List A). x.0 ∷ x.1) (both r (many r n)) (in_turn s (many_shape s n)) (in_turn t (many_shape t n)) (both_sees r (many r n) s t (many_shape s n) (many_shape t n) all (many_sees r s t n all)) bytes p e h

list_sees : {A : Type 0} (r : Reader A) (s t : Shaping) → Sees r s t → Sees (list_in r) (counted_shape s) (counted_shape t)
unfolding list_in counted_shape
list_sees {A} r s t all = giving_sees (λ (p : ℕ × List A). p.1) (upon number_in (many r)) (upon_shape number_in (many_shape s)) (upon_shape number_in (many_shape t)) (upon_sees number_in (many r) (many_shape s) (many_shape t) (λ n. many_sees r s t n all))

-- the test lets through tokens to which both give one key
pub record AgreeOn (good : ℕ → Bool) (key new : Token → Mix) : Type 0 where
  pub coded : (n : ℕ) → good n ≡ true → is_coded n ≡ true
  pub same : (n : ℕ) → good n ≡ true → key (token_named n) ≡ new (token_named n)

-- a token's key mixed in
abbrev keyed : (Token → Mix) → Mix → Option (Token × List ℕ) → Option (Mix × List ℕ)
keyed key h o = option_map (λ (q : Token × List ℕ). (mixed_both h (key q.0), q.1)) o

abbrev token_if : Bool → ℕ → List ℕ → Option (Token × List ℕ)
token_if b n rest = if b then Some (token_named n, rest) else None

abbrev token_by_test : (ℕ → Bool) → Option (ℕ × List ℕ) → Option (Token × List ℕ)
token_by_test good o = option_and_then (λ (q : ℕ × List ℕ). if good q.0 then Some (token_named q.0, q.1) else None) o

token_test : (good : ℕ → Bool) (key new : Token → Mix) (h : Mix) (n : ℕ) (rest : List ℕ) (p : Token × List ℕ) (b : Bool) → AgreeOn good key new → good n ≡ b → token_if b n rest ≡ Some p → AreOne (keyed key h (token_if (is_coded n) n rest)) (keyed new h (token_if (is_coded n) n rest)) p.1
token_test good key new h n rest p false agree is e = absurd cc
token_test good key new h n rest p true agree is e =
    let f : (token_named n, rest) ≡ p = cc in
    let g : rest ≡ p.1 = ap (λ (x : Token × List ℕ). x.1) f in
    let coded = agree.coded n is in
    let k = mixed_both h (key (token_named n)) in
    let last : Some (k, rest) ≡ Some (k, p.1) = ap (λ (r : List ℕ). Some (k, r)) g in
    let same : Some (mixed_both h (new (token_named n)), rest) ≡ Some (k, rest) = ap (λ (x : Mix). Some (mixed_both h x, rest)) (sym (agree.same n is)) in
    (k, ap (λ (b : Bool). keyed key h (token_if b n rest)) coded ∙ last, ap (λ (b : Bool). keyed new h (token_if b n rest)) coded ∙ same ∙ last)

token_by : (good : ℕ → Bool) (key new : Token → Mix) (h : Mix) (o : Option (ℕ × List ℕ)) (p : Token × List ℕ) → AgreeOn good key new → token_by_test good o ≡ Some p → AreOne (keyed key h (token_by_test is_coded o)) (keyed new h (token_by_test is_coded o)) p.1
token_by good key new h None p agree e = absurd cc
token_by good key new h (Some q) p agree e = token_test good key new h q.0 q.1 p (good q.0) agree refl e

token_sees : (good : ℕ → Bool) (key new : Token → Mix) → AgreeOn good key new → Sees (token_in good) (token_shape key) (token_shape new)
unfolding token_in token_shape
token_sees good key new agree bytes p e h = token_by good key new h (number_in bytes) p agree e

wrapped_sees : (r : Reader Tree) (s t : Shaping) (b : ℕ) → Sees r s t → Sees (wrapped_in r b) s t
unfolding wrapped_in
wrapped_sees r s t b all = giving_sees (λ x. tree b nil 0 (x ∷ [])) r s t all

named_sees : (good : ℕ → Bool) (key new : Token → Mix) (b : ℕ) → AgreeOn good key new → Sees (named_in good b) (token_shape key) (token_shape new)
unfolding named_in
named_sees good key new b agree = giving_sees (λ t. tree b t 0 []) (token_in good) (token_shape key) (token_shape new) (token_sees good key new agree)

modified_sees : (good : ℕ → Bool) (key new : Token → Mix) (r : Reader Tree) (s t : Shaping) (b : ℕ) → AgreeOn good key new → Sees r s t → Sees (modified_in good r b) (modified_shape key s) (modified_shape new t)
unfolding modified_in modified_shape
modified_sees good key new r s t b agree all =
    giving_sees (λ (p : Token × Tree). tree b p.0 0 (p.1 ∷ [])) (both (token_in good) r) (in_turn (token_shape key) s) (in_turn (token_shape new) t)
    (both_sees (token_in good) r (token_shape key) (token_shape new) s t (token_sees good key new agree) all)

numbered_sees : (b : ℕ) (r : Reader ℕ) → Sees (numbered_in b r) (number_shape r) (number_shape r)
unfolding numbered_in
numbered_sees b r = giving_sees (λ n. tree b nil n []) r (number_shape r) (number_shape r) (number_sees r)

numerals_sees : (kind : Numeral) → Sees (numerals_in kind) (numerals_shape kind) (numerals_shape kind)
unfolding numerals_in numerals_shape
numerals_sees kind =
    let one = number_shape (numeral_in kind) in
    giving_sees (λ ts. tree 0 nil 0 ts) (list_in (numbered_in 0 (numeral_in kind))) (counted_shape one) (counted_shape one) (list_sees (numbered_in 0 (numeral_in kind)) one one (numbered_sees 0 (numeral_in kind)))

array_sees : (r : Reader Tree) (s t : Shaping) (b : ℕ) → Sees r s t → Sees (array_in r b) (array_shape s) (array_shape t)
unfolding array_in array_shape
array_sees r s t b all =
    let sizes = numerals_shape Size in
    let bounds = numerals_shape Bound in
    let two = both_sees (numerals_in Size) (numerals_in Bound) sizes sizes bounds bounds (numerals_sees Size) (numerals_sees Bound) in
    let behind = both_sees number_in (both (numerals_in Size) (numerals_in Bound)) (number_shape number_in) (number_shape number_in) (in_turn sizes bounds) (in_turn sizes bounds) (number_sees number_in) two in
    let rest = in_turn (number_shape number_in) (in_turn sizes bounds) in
    giving_sees (λ (p : Tree × (ℕ × (Tree × Tree))). tree b nil p.1.0 (p.0 ∷ p.1.1.0 ∷ p.1.1.1 ∷ [])) (both r (both number_in (both (numerals_in Size) (numerals_in Bound)))) (in_turn s rest) (in_turn t rest)
    (both_sees r (both number_in (both (numerals_in Size) (numerals_in Bound))) s t rest rest all behind)

instance_sees : (good : ℕ → Bool) (key new : Token → Mix) (r : Reader Tree) (s t : Shaping) (b : ℕ) → AgreeOn good key new → Sees r s t → Sees (instance_in good r b) (instance_shape key s) (instance_shape new t)
unfolding instance_in instance_shape
instance_sees good key new r s t b agree all =
    let class = byte_in (λ c. c == 0x11 || c == 0x12) in
    let lasts = both_sees (token_in good) (list_in r) (token_shape key) (token_shape new) (counted_shape s) (counted_shape t) (token_sees good key new agree) (list_sees r s t all) in
    giving_sees (λ (p : ℕ × (Token × List Tree)). tree b p.1.0 p.0 p.1.1) (both class (both (token_in good) (list_in r))) (in_turn (number_shape class) (in_turn (token_shape key) (counted_shape s))) (in_turn (number_shape class) (in_turn (token_shape new) (counted_shape t)))
    (both_sees class (both (token_in good) (list_in r)) (number_shape class) (number_shape class) (in_turn (token_shape key) (counted_shape s)) (in_turn (token_shape new) (counted_shape t)) (number_sees class) lasts)

more_sees : (r : Reader Tree) (v : Reader (List Tree)) (s t u w : Shaping) → Sees r s t → Sees v u w → Sees (more_in r v) (in_turn s u) (in_turn t w)
more_sees r v s t u w one two = giving_sees (λ (p : Tree × List Tree). p.0 ∷ p.1) (both r v) (in_turn s u) (in_turn t w) (both_sees r v s t u w one two)

marked_sees : (r : Reader Tree) (s t : Shaping) (n : ℕ) → Sees r s t → Sees (marked_in r n) (marked_shape s n) (marked_shape t n)
unfolding marked_in marked_shape
marked_sees r s t n all bytes p e h = more_sees (wrapped_in r 0x41) (many r n) s t (many_shape s n) (many_shape t n) (wrapped_sees r s t 0x41 all) (many_sees r s t n all) bytes p e (mixed h 0x41)

by_test : (b : Bool) (r v : Reader (List Tree)) (s t u w : Shaping) (x y : List ℕ) (p : List Tree × List ℕ) (h : Mix) → Sees r s t → Sees v u w → (if b then r x else v y) ≡ Some p → AreOne (if b then s h x else u h y) (if b then t h x else w h y) p.1
by_test true r v s t u w x y p h one two e = one x p e h
by_test false r v s t u w x y p h one two e = two y p e h

params_sees : (r : Reader Tree) (s t : Shaping) (n : ℕ) → Sees r s t → Sees (params r n) (params_shape s n) (params_shape t n)
unfolding params params_shape
params_sees r s t zero all bytes p e h = let f : ([], bytes) ≡ p = cc in subst (λ (x : List Tree × List ℕ). AreOne (Some (h, bytes)) (Some (h, bytes)) x.1) f (h, refl, refl)
params_sees r s t (suc n) all bytes p e h =
    by_test (begins 0x41 bytes) (marked_in r n) (more_in r (params r n)) (marked_shape s n) (marked_shape t n) (in_turn s (params_shape s n)) (in_turn t (params_shape t n)) (drop 1 bytes) bytes p h
    (marked_sees r s t n all) (more_sees r (params r n) s t (params_shape s n) (params_shape t n) all (params_sees r s t n all)) e

parts_sees : (r : Reader Tree) (s t : Shaping) → Sees r s t → Sees (parts_in r) (parts_shape s) (parts_shape t)
unfolding parts_in parts_shape
parts_sees r s t all =
    let one = λ (n : ℕ). in_turn s (params_shape s n) in
    let two = λ (n : ℕ). in_turn t (params_shape t n) in
    giving_sees (λ (p : ℕ × (Tree × List Tree)). p.1.0 ∷ p.1.1) (upon number_in (λ n. both r (params r n))) (upon_shape number_in one) (upon_shape number_in two)
    (upon_sees number_in (λ n. both r (params r n)) one two (λ n. both_sees r (params r n) s t (params_shape s n) (params_shape t n) all (params_sees r s t n all)))

calling_sees : Sees calling_in calling_shape calling_shape
unfolding calling_shape
calling_sees bytes p e h =
    let f = ap (option_map {T = (ℕ × ℕ) × List ℕ} (λ (q : (ℕ × ℕ) × List ℕ). (mixed (mixed h q.0.0) q.0.1, q.1))) e in
    (mixed (mixed h p.0.0) p.0.1, f, f)

method_sees : (r : Reader Tree) (s t : Shaping) → Sees r s t → Sees (method_in r) (method_shape s) (method_shape t)
unfolding method_in method_shape
method_sees r s t all = both_sees calling_in (parts_in r) calling_shape calling_shape (parts_shape s) (parts_shape t) calling_sees (parts_sees r s t all)

pointer_sees : (r : Reader Tree) (s t : Shaping) (b : ℕ) → Sees r s t → Sees (pointer_in r b) (method_shape s) (method_shape t)
unfolding pointer_in
pointer_sees r s t b all = giving_sees (λ (p : (ℕ × ℕ) × List Tree). tree b nil p.0.0 (tree 0 nil p.0.1 [] ∷ p.1)) (method_in r) (method_shape s) (method_shape t) (method_sees r s t all)

bare_sees : (b : ℕ) → Sees (λ bytes. Some (tree b nil 0 [], bytes)) (λ h bytes. Some (h, bytes)) (λ h bytes. Some (h, bytes))
bare_sees b bytes p e h = let f : (tree b nil 0 [], bytes) ≡ p = cc in subst (λ (x : Tree × List ℕ). AreOne (Some (h, bytes)) (Some (h, bytes)) x.1) f (h, refl, refl)

formed_sees : (good : ℕ → Bool) (key new : Token → Mix) (r : Reader Tree) (s t : Shaping) (f : TypeForm) (b : ℕ) → AgreeOn good key new → Sees r s t → Sees (formed_in good r f b) (formed_shape key s f) (formed_shape new t f)
unfolding formed_in formed_shape
formed_sees good key new r s t form.Bare b agree all = bare_sees b
formed_sees good key new r s t form.Wrapped b agree all = wrapped_sees r s t b all
formed_sees good key new r s t form.Named b agree all = named_sees good key new b agree
formed_sees good key new r s t form.Modified b agree all = modified_sees good key new r s t b agree all
formed_sees good key new r s t form.Numbered b agree all = numbered_sees b number_in
formed_sees good key new r s t form.Array b agree all = array_sees r s t b all
formed_sees good key new r s t form.Instance b agree all = instance_sees good key new r s t b agree all
formed_sees good key new r s t form.Pointer b agree all = pointer_sees r s t b all

opened_sees : (good : ℕ → Bool) (key new : Token → Mix) (r : Reader Tree) (s t : Shaping) (o : Option TypeForm) (b : ℕ) (rest : List ℕ) (p : Tree × List ℕ) (h : Mix) → AgreeOn good key new → Sees r s t → option_and_then {T = TypeForm} (λ f. formed_in good r f b rest) o ≡ Some p
    → AreOne (option_and_then {T = TypeForm} (λ f. formed_shape key s f h rest) o) (option_and_then {T = TypeForm} (λ f. formed_shape new t f h rest) o) p.1
opened_sees good key new r s t None b rest p h agree all e = absurd cc
opened_sees good key new r s t (Some f) b rest p h agree all e = formed_sees good key new r s t f b agree all rest p e h

elem_sees : (good : ℕ → Bool) (key new : Token → Mix) (depth : ℕ) → AgreeOn good key new → Sees (elem_in good depth) (elem_shape key depth) (elem_shape new depth)
unfolding elem_in elem_shape
elem_sees good key new zero agree bytes p e h = absurd cc
elem_sees good key new (suc depth) agree [] p e h = absurd cc
elem_sees good key new (suc depth) agree (b ∷ rest) p e h = opened_sees good key new (elem_in good depth) (elem_shape key depth) (elem_shape new depth) (form_of b) b rest p (mixed h b) agree (elem_sees good key new depth agree) e

type_sees : (good : ℕ → Bool) (key new : Token → Mix) → AgreeOn good key new → Sees (type_in good) (type_shape key) (type_shape new)
unfolding type_in type_shape
type_sees good key new agree = elem_sees good key new 100 agree

method_front : (good : ℕ → Bool) (key new : Token → Mix) → AgreeOn good key new → Sees (front_in good Method) (front_shape key Method) (front_shape new Method)
unfolding front_in front_shape
method_front good key new agree =
    giving_sees {B = SigTree} (λ (p : (ℕ × ℕ) × List Tree). record { form = Method; kind = p.0.0; generics = p.0.1; parts = p.1 }) (method_in (type_in good)) (method_shape (type_shape key)) (method_shape (type_shape new))
    (method_sees (type_in good) (type_shape key) (type_shape new) (type_sees good key new agree))

spec_front : (good : ℕ → Bool) (key new : Token → Mix) → AgreeOn good key new → Sees (front_in good TypeSpec) (front_shape key TypeSpec) (front_shape new TypeSpec)
unfolding front_in front_shape
spec_front good key new agree = giving_sees {B = SigTree} (λ (t : Tree). record { form = TypeSpec; kind = 0; generics = 0; parts = t ∷ [] }) (type_in good) (type_shape key) (type_shape new) (type_sees good key new agree)

one_mix : (bytes : List ℕ) (o u : Option (Mix × List ℕ)) (rest : List ℕ) → AreOne o u rest → mixed_of bytes o ≡ mixed_of bytes u
one_mix bytes o u rest w = ap (mixed_of bytes) (w.1 ∙ sym w.2)

pub method_shape_same : (good : ℕ → Bool) (key new : Token → Mix) (bytes : List ℕ) (s : SigTree) → AgreeOn good key new → sig_in good Method bytes ≡ Some s → sig_shape key Method bytes ≡ sig_shape new Method bytes
unfolding sig_in sig_shape
method_shape_same good key new bytes s agree e =
    one_mix bytes (front_shape key Method (mix_of 0) bytes) (front_shape new Method (mix_of 0) bytes) [] (method_front good key new agree bytes (s, []) (whole_read (front_in good Method bytes) s e) (mix_of 0))

pub spec_shape_same : (good : ℕ → Bool) (key new : Token → Mix) (bytes : List ℕ) (s : SigTree) → AgreeOn good key new → sig_in good TypeSpec bytes ≡ Some s → sig_shape key TypeSpec bytes ≡ sig_shape new TypeSpec bytes
unfolding sig_in sig_shape
spec_shape_same good key new bytes s agree e =
    one_mix bytes (front_shape key TypeSpec (mix_of 0) bytes) (front_shape new TypeSpec (mix_of 0) bytes) [] (spec_front good key new agree bytes (s, []) (whole_read (front_in good TypeSpec bytes) s e) (mix_of 0))
