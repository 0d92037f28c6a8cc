-- The tokens that a signature names pass the test by which it is read.
use Rattle.std.proofs.Common.{◌≡◌, ℕ, zero, suc, Bool, true, false, List, [], ◌∷◌, Option, Some, None, refl, ap, subst, ◌∙◌}
use Rattle.std.specs.Prelude.{◌||◌, ◌==◌, drop, option_map, option_and_then, if◌then◌else◌}
use Rattle.enc_base.specs.Readers.{Reader, giving, both, number_in}
use Rattle.enc_base.specs.Token.{nil}
use Rattle.enc_base.specs.declared.token.Token.{Token}
use Rattle.enc_sigs.specs.declared.type_form.TypeForm.{TypeForm}
use Rattle.enc_sigs.specs.declared.type_form.TypeForm.TheVariants as form
use Rattle.enc_sigs.specs.declared.type_form.Numeral.{Numeral}
use Rattle.enc_sigs.specs.declared.type_form.Numeral.TheVariants.{Size, Bound}
use Rattle.enc_sigs.specs.declared.kind.SigKind.TheVariants.{Method, TypeSpec}
use Rattle.enc_sigs.specs.Tree.{Forest, none, more, Tree, SigTree, forest_of}
use Rattle.enc_sigs.specs.Grammar.{upon, many, list_in, byte_in, token_in, token_named, tree, form_of, wrapped_in, named_in, modified_in, numbered_in, numeral_in, numerals_in, array_in, instance_in, begins, more_in, marked_in, params, calling_in, parts_in, method_in, pointer_in, formed_in, elem_in, type_in, front_in, unless_more, all_of, sig_in}

-- all tokens of some types are known
abbrev pub AllKnown : (Token → Type 0) → Forest → Type 0
AllKnown Known none = Unit {0}
AllKnown Known (more e t n k r) = Known t × AllKnown Known k × AllKnown Known r

abbrev TreeKnown : (Token → Type 0) → Tree → Type 0
TreeKnown Known x = Known x.token × AllKnown Known x.kids

abbrev TreesKnown : (Token → Type 0) → List Tree → Type 0
TreesKnown Known xs = AllKnown Known (forest_of xs)

-- what is read is so
abbrev Gives : {A : Type 0} → (A → Type 0) → Reader A → Type 0
Gives {A} Is r = (bytes : List ℕ) (p : A × List ℕ) → r bytes ≡ Some p → Is p.0

abbrev Any : {A : Type 0} → A → Type 0
Any x = Unit {0}

any_gives : {A : Type 0} (r : Reader A) → Gives Any r
any_gives r bytes p e = tt

given_by : {A B : Type 0} (h : A → B) (Is : A → Type 0) (So : B → Type 0) (o : Option (A × List ℕ)) (p : B × List ℕ) → ((x : A) → Is x → So (h x)) → ((q : A × List ℕ) → o ≡ Some q → Is q.0) → option_map {T = A × List ℕ} (λ q. (h q.0, q.1)) o ≡ Some p → So p.0
given_by h Is So None p turn all e = absurd cc
given_by h Is So (Some q) p turn all e = let f : (h q.0, q.1) ≡ p = cc in subst (λ x. So x.0) f (turn q.0 (all q refl))

giving_gives : {A B : Type 0} (h : A → B) (Is : A → Type 0) (So : B → Type 0) (r : Reader A) → ((x : A) → Is x → So (h x)) → Gives Is r → Gives So (giving h r)
giving_gives h Is So r turn all bytes p e = given_by h Is So (r bytes) p turn (all bytes) e

second_by : {A B : Type 0} (x : A) (Is : A → Type 0) (So : B → Type 0) (o : Option (B × List ℕ)) (p : (A × B) × List ℕ) → Is x → ((q : B × List ℕ) → o ≡ Some q → So q.0) → option_map {T = B × List ℕ} (λ q. ((x, q.0), q.1)) o ≡ Some p → Is p.0.0 × So p.0.1
second_by x Is So None p is all e = absurd cc
second_by x Is So (Some q) p is all e = let f : ((x, q.0), q.1) ≡ p = cc in subst (λ y. Is y.0.0 × So y.0.1) f (is, all q refl)

both_by : {A B : Type 0} (Is : A → Type 0) (So : B → Type 0) (s : Reader B) (o : Option (A × List ℕ)) (p : (A × B) × List ℕ) → ((q : A × List ℕ) → o ≡ Some q → Is q.0) → Gives So s → option_and_then {T = A × List ℕ} (λ p. option_map {T = B × List ℕ} (λ q. ((p.0, q.0), q.1)) (s p.1)) o ≡ Some p → Is p.0.0 × So p.0.1
both_by Is So s None p first second e = absurd cc
both_by Is So s (Some q) p first second e = second_by q.0 Is So (s q.1) p (first q refl) (second q.1) e

abbrev Both : {A B : Type 0} → (A → Type 0) → (B → Type 0) → A × B → Type 0
Both Is So x = Is x.0 × So x.1

both_gives : {A B : Type 0} (Is : A → Type 0) (So : B → Type 0) (r : Reader A) (s : Reader B) → Gives Is r → Gives So s → Gives (Both Is So) (both r s)
both_gives Is So r s first second bytes p e = both_by Is So s (r bytes) p (first bytes) second e

upon_by : {B : Type 0} (So : B → Type 0) (s : ℕ → Reader B) (o : Option (ℕ × List ℕ)) (p : (ℕ × B) × List ℕ) → ((n : ℕ) → Gives So (s n)) → option_and_then {T = ℕ × List ℕ} (λ p. option_map {T = B × List ℕ} (λ q. ((p.0, q.0), q.1)) (s p.0 p.1)) o ≡ Some p → So p.0.1
upon_by So s None p all e = absurd cc
upon_by So s (Some q) p all e = (second_by q.0 Any So (s q.0 q.1) p tt (all q.0 q.1) e).1

abbrev Behind : {A B : Type 0} → (B → Type 0) → A × B → Type 0
Behind So x = So x.1

upon_gives : {B : Type 0} (So : B → Type 0) (r : Reader ℕ) (s : ℕ → Reader B) → ((n : ℕ) → Gives So (s n)) → Gives (Behind So) (upon r s)
upon_gives So r s all bytes p e = upon_by So s (r bytes) p all e

-- types
abbrev AreTrees : (Token → Type 0) → Reader Tree → Type 0
AreTrees Known r = Gives (TreeKnown Known) r

abbrev AreLists : (Token → Type 0) → Reader (List Tree) → Type 0
AreLists Known r = Gives (TreesKnown Known) r

more_gives : (Known : Token → Type 0) (r : Reader Tree) (s : Reader (List Tree)) → AreTrees Known r → AreLists Known s → AreLists Known (more_in r s)
more_gives Known r s first others =
    giving_gives (λ (p : Tree × List Tree). p.0 ∷ p.1) (Both (TreeKnown Known) (TreesKnown Known)) (TreesKnown Known) (both r s) (λ x h. (h.0.0, h.0.1, h.1))
    (both_gives (TreeKnown Known) (TreesKnown Known) r s first others)

many_gives : (Known : Token → Type 0) (r : Reader Tree) (n : ℕ) → AreTrees Known r → AreLists Known (many r n)
unfolding many
many_gives Known r zero all bytes p e = let f : ([], bytes) ≡ p = cc in subst (λ x. TreesKnown Known x.0) f tt
many_gives Known r (suc n) all bytes p e = more_gives Known r (many r n) all (many_gives Known r n all) bytes p e

list_gives : (Known : Token → Type 0) (r : Reader Tree) → AreTrees Known r → AreLists Known (list_in r)
unfolding list_in
list_gives Known r all = giving_gives (λ (p : ℕ × List Tree). p.1) (Behind (TreesKnown Known)) (TreesKnown Known) (upon number_in (many r)) (λ x h. h) (upon_gives (TreesKnown Known) number_in (many r) (λ n. many_gives Known r n all))

-- tokens
abbrev Passes : (Token → Type 0) → (ℕ → Bool) → Type 0
Passes Known good = (n : ℕ) → good n ≡ true → Known (token_named n)

token_test : (Known : Token → Type 0) (good : ℕ → Bool) (n : ℕ) (rest : List ℕ) (p : Token × List ℕ) (b : Bool) → Passes Known good → good n ≡ b → (if b then Some (token_named n, rest) else None) ≡ Some p → Known p.0
token_test Known good n rest p true pass is e = let f : (token_named n, rest) ≡ p = cc in subst (λ x. Known x.0) f (pass n is)
token_test Known good n rest p false pass is e = absurd cc

token_by : (Known : Token → Type 0) (good : ℕ → Bool) (o : Option (ℕ × List ℕ)) (p : Token × List ℕ) → Passes Known good → option_and_then {T = ℕ × List ℕ} {U = Token × List ℕ} (λ q. if good q.0 then Some (token_named q.0, q.1) else None) o ≡ Some p → Known p.0
token_by Known good None p pass e = absurd cc
token_by Known good (Some q) p pass e = token_test Known good q.0 q.1 p (good q.0) pass refl e

token_gives : (Known : Token → Type 0) (good : ℕ → Bool) → Passes Known good → Gives Known (token_in good)
unfolding token_in
token_gives Known good pass bytes p e = token_by Known good (number_in bytes) p pass e

-- the test and what is known of the nil token
pub record IsTest (Known : Token → Type 0) (good : ℕ → Bool) : Type 0 where
  pub passes : (n : ℕ) → good n ≡ true → Known (token_named n)
  pub nothing : Known nil

wrapped_gives : (Known : Token → Type 0) (r : Reader Tree) (b : ℕ) → Known nil → AreTrees Known r → AreTrees Known (wrapped_in r b)
unfolding wrapped_in
wrapped_gives Known r b z all = giving_gives (λ x. tree b nil 0 (x ∷ [])) (TreeKnown Known) (TreeKnown Known) r (λ x h. (z, (h.0, h.1, tt))) all

named_gives : (Known : Token → Type 0) (good : ℕ → Bool) (b : ℕ) → Passes Known good → AreTrees Known (named_in good b)
unfolding named_in
named_gives Known good b pass = giving_gives (λ t. tree b t 0 []) Known (TreeKnown Known) (token_in good) (λ x h. (h, tt)) (token_gives Known good pass)

modified_gives : (Known : Token → Type 0) (good : ℕ → Bool) (r : Reader Tree) (b : ℕ) → Passes Known good → AreTrees Known r → AreTrees Known (modified_in good r b)
unfolding modified_in
modified_gives Known good r b pass all =
    giving_gives (λ (p : Token × Tree). tree b p.0 0 (p.1 ∷ [])) (Both Known (TreeKnown Known)) (TreeKnown Known) (both (token_in good) r) (λ x h. (h.0, (h.1.0, h.1.1, tt)))
    (both_gives Known (TreeKnown Known) (token_in good) r (token_gives Known good pass) all)

numbered_gives : (Known : Token → Type 0) (b : ℕ) (r : Reader ℕ) → Known nil → AreTrees Known (numbered_in b r)
unfolding numbered_in
numbered_gives Known b r z = giving_gives (λ n. tree b nil n []) Any (TreeKnown Known) r (λ x h. (z, tt)) (any_gives r)

numerals_gives : (Known : Token → Type 0) (kind : Numeral) → Known nil → AreTrees Known (numerals_in kind)
unfolding numerals_in
numerals_gives Known kind z =
    giving_gives (λ ts. tree 0 nil 0 ts) (TreesKnown Known) (TreeKnown Known) (list_in (numbered_in 0 (numeral_in kind))) (λ x h. (z, h))
    (list_gives Known (numbered_in 0 (numeral_in kind)) (numbered_gives Known 0 (numeral_in kind) z))

array_gives : (Known : Token → Type 0) (r : Reader Tree) (b : ℕ) → Known nil → AreTrees Known r → AreTrees Known (array_in r b)
unfolding array_in
array_gives Known r b z all =
    let two = both_gives (TreeKnown Known) (TreeKnown Known) (numerals_in Size) (numerals_in Bound) (numerals_gives Known Size z) (numerals_gives Known Bound z) in
    let behind = both_gives Any (Both (TreeKnown Known) (TreeKnown Known)) number_in (both (numerals_in Size) (numerals_in Bound)) (any_gives number_in) two in
    giving_gives (λ (p : Tree × (ℕ × (Tree × Tree))). tree b nil p.1.0 (p.0 ∷ p.1.1.0 ∷ p.1.1.1 ∷ [])) (Both (TreeKnown Known) (Both Any (Both (TreeKnown Known) (TreeKnown Known)))) (TreeKnown Known)
    (both r (both number_in (both (numerals_in Size) (numerals_in Bound)))) (λ x h. (z, (h.0.0, h.0.1, (h.1.1.0.0, h.1.1.0.1, (h.1.1.1.0, h.1.1.1.1, tt)))))
    (both_gives (TreeKnown Known) (Both Any (Both (TreeKnown Known) (TreeKnown Known))) r (both number_in (both (numerals_in Size) (numerals_in Bound))) all behind)

instance_gives : (Known : Token → Type 0) (good : ℕ → Bool) (r : Reader Tree) (b : ℕ) → Passes Known good → AreTrees Known r → AreTrees Known (instance_in good r b)
unfolding instance_in
instance_gives Known good r b pass all =
    let class = byte_in (λ c. c == 0x11 || c == 0x12) in
    let lasts = both_gives Known (TreesKnown Known) (token_in good) (list_in r) (token_gives Known good pass) (list_gives Known r all) in
    giving_gives (λ (p : ℕ × (Token × List Tree)). tree b p.1.0 p.0 p.1.1) (Both Any (Both Known (TreesKnown Known))) (TreeKnown Known) (both class (both (token_in good) (list_in r))) (λ x h. (h.1.0, h.1.1))
    (both_gives Any (Both Known (TreesKnown Known)) class (both (token_in good) (list_in r)) (any_gives class) lasts)

marked_gives : (Known : Token → Type 0) (r : Reader Tree) (n : ℕ) → Known nil → AreTrees Known r → AreLists Known (marked_in r n)
unfolding marked_in
marked_gives Known r n z all = more_gives Known (wrapped_in r 0x41) (many r n) (wrapped_gives Known r 0x41 z all) (many_gives Known r n all)

by_test : (Known : Token → Type 0) (b : Bool) (r s : Reader (List Tree)) (x y : List ℕ) (p : List Tree × List ℕ) → AreLists Known r → AreLists Known s → (if b then r x else s y) ≡ Some p → TreesKnown Known p.0
by_test Known true r s x y p one two e = one x p e
by_test Known false r s x y p one two e = two y p e

params_gives : (Known : Token → Type 0) (r : Reader Tree) (n : ℕ) → Known nil → AreTrees Known r → AreLists Known (params r n)
unfolding params
params_gives Known r zero z all bytes p e = let f : ([], bytes) ≡ p = cc in subst (λ x. TreesKnown Known x.0) f tt
params_gives Known r (suc n) z all bytes p e =
    by_test Known (begins 0x41 bytes) (marked_in r n) (more_in r (params r n)) (drop 1 bytes) bytes p (marked_gives Known r n z all) (more_gives Known r (params r n) all (params_gives Known r n z all)) e

parts_gives : (Known : Token → Type 0) (r : Reader Tree) → Known nil → AreTrees Known r → AreLists Known (parts_in r)
unfolding parts_in
parts_gives Known r z all =
    giving_gives (λ (p : ℕ × (Tree × List Tree)). p.1.0 ∷ p.1.1) (Behind (Both (TreeKnown Known) (TreesKnown Known))) (TreesKnown Known) (upon number_in (λ n. both r (params r n))) (λ x h. (h.0.0, h.0.1, h.1))
    (upon_gives (Both (TreeKnown Known) (TreesKnown Known)) number_in (λ n. both r (params r n)) (λ n. both_gives (TreeKnown Known) (TreesKnown Known) r (params r n) all (params_gives Known r n z all)))

method_gives : (Known : Token → Type 0) (r : Reader Tree) → Known nil → AreTrees Known r → Gives (Behind (TreesKnown Known)) (method_in r)
unfolding method_in
method_gives Known r z all bytes p e = (both_gives Any (TreesKnown Known) calling_in (parts_in r) (any_gives calling_in) (parts_gives Known r z all) bytes p e).1

pointer_gives : (Known : Token → Type 0) (r : Reader Tree) (b : ℕ) → Known nil → AreTrees Known r → AreTrees Known (pointer_in r b)
unfolding pointer_in
pointer_gives Known r b z all =
    giving_gives (λ (p : (ℕ × ℕ) × List Tree). tree b nil p.0.0 (tree 0 nil p.0.1 [] ∷ p.1)) (Behind (TreesKnown Known)) (TreeKnown Known) (method_in r) (λ x h. (z, (z, tt, h))) (method_gives Known r z all)

bare_gives : (Known : Token → Type 0) (b : ℕ) → Known nil → AreTrees Known (λ bytes. Some (tree b nil 0 [], bytes))
bare_gives Known b z bytes p e = let f : (tree b nil 0 [], bytes) ≡ p = cc in subst (λ x. TreeKnown Known x.0) f (z, tt)

formed_gives : (Known : Token → Type 0) (good : ℕ → Bool) (r : Reader Tree) (f : TypeForm) (b : ℕ) → IsTest Known good → AreTrees Known r → AreTrees Known (formed_in good r f b)
unfolding formed_in
formed_gives Known good r form.Bare b test all = bare_gives Known b test.nothing
formed_gives Known good r form.Wrapped b test all = wrapped_gives Known r b test.nothing all
formed_gives Known good r form.Named b test all = named_gives Known good b test.passes
formed_gives Known good r form.Modified b test all = modified_gives Known good r b test.passes all
formed_gives Known good r form.Numbered b test all = numbered_gives Known b number_in test.nothing
formed_gives Known good r form.Array b test all = array_gives Known r b test.nothing all
formed_gives Known good r form.Instance b test all = instance_gives Known good r b test.passes all
formed_gives Known good r form.Pointer b test all = pointer_gives Known r b test.nothing all

opened_gives : (Known : Token → Type 0) (good : ℕ → Bool) (r : Reader Tree) (o : Option TypeForm) (b : ℕ) (rest : List ℕ) (p : Tree × List ℕ) → IsTest Known good → AreTrees Known r → option_and_then {T = TypeForm} (λ f. formed_in good r f b rest) o ≡ Some p → TreeKnown Known p.0
opened_gives Known good r None b rest p test all e = absurd cc
opened_gives Known good r (Some f) b rest p test all e = formed_gives Known good r f b test all rest p e

elem_gives : (Known : Token → Type 0) (good : ℕ → Bool) (depth : ℕ) → IsTest Known good → AreTrees Known (elem_in good depth)
unfolding elem_in
elem_gives Known good zero test bytes p e = absurd cc
elem_gives Known good (suc depth) test [] p e = absurd cc
elem_gives Known good (suc depth) test (b ∷ rest) p e = opened_gives Known good (elem_in good depth) (form_of b) b rest p test (elem_gives Known good depth test) e

type_gives : (Known : Token → Type 0) (good : ℕ → Bool) → IsTest Known good → AreTrees Known (type_in good)
unfolding type_in
type_gives Known good test = elem_gives Known good 100 test

abbrev SigKnown : (Token → Type 0) → SigTree → Type 0
SigKnown Known s = AllKnown Known (forest_of s.parts)

method_front : (Known : Token → Type 0) (good : ℕ → Bool) → IsTest Known good → Gives (SigKnown Known) (front_in good Method)
unfolding front_in
method_front Known good test =
    giving_gives (λ (p : (ℕ × ℕ) × List Tree). record { form = Method; kind = p.0.0; generics = p.0.1; parts = p.1 }) (Behind (TreesKnown Known)) (SigKnown Known) (method_in (type_in good)) (λ x h. h)
    (method_gives Known (type_in good) test.nothing (type_gives Known good test))

spec_front : (Known : Token → Type 0) (good : ℕ → Bool) → IsTest Known good → Gives (SigKnown Known) (front_in good TypeSpec)
unfolding front_in
spec_front Known good test =
    giving_gives (λ (t : Tree). record { form = TypeSpec; kind = 0; generics = 0; parts = t ∷ [] }) (TreeKnown Known) (SigKnown Known) (type_in good) (λ x h. (h.0, h.1, tt)) (type_gives Known good test)

-- all of what is read
none_left : {A : Type 0} (x : A) (rest : List ℕ) (s : A) → unless_more x rest ≡ Some s → (x ≡ s) × (rest ≡ [])
none_left x [] s e = (cc, refl)
none_left x (b ∷ rest) s e = absurd cc

pub whole_read : {A : Type 0} (o : Option (A × List ℕ)) (s : A) → all_of o ≡ Some s → o ≡ Some (s, [])
whole_read None s e = absurd cc
whole_read {A} (Some p) s e =
    let w = none_left p.0 p.1 s e in
    ap (λ (x : A). Some (x, p.1)) w.0 ∙ ap (λ (rest : List ℕ). Some (s, rest)) w.1

pub method_known : (Known : Token → Type 0) (good : ℕ → Bool) (bytes : List ℕ) (s : SigTree) → IsTest Known good → sig_in good Method bytes ≡ Some s → AllKnown Known (forest_of s.parts)
unfolding sig_in
method_known Known good bytes s test e = method_front Known good test bytes (s, []) (whole_read (front_in good Method bytes) s e)

pub spec_known : (Known : Token → Type 0) (good : ℕ → Bool) (bytes : List ℕ) (s : SigTree) → IsTest Known good → sig_in good TypeSpec bytes ≡ Some s → AllKnown Known (forest_of s.parts)
unfolding sig_in
spec_known Known good bytes s test e = spec_front Known good test bytes (s, []) (whole_read (front_in good TypeSpec bytes) s e)
