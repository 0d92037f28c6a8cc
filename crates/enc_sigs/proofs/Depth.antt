-- No type that is read stands deeper in others than the depth with which it is read.
use Rattle.std.proofs.Common.{◌≡◌, ℕ, zero, suc, Bool, true, false, List, [], ◌∷◌, drop, Option, Some, None, refl, ap, subst, ◌∙◌}
use Rattle.std.proofs.lemmas.Bool.{eqb-true, and_from}
use Rattle.std.specs.Prelude.{◌&&◌, ◌||◌, ◌==◌, option_and_then, if◌then◌else◌}
use Rattle.enc_base.specs.Token.{nil}
use Rattle.enc_base.specs.declared.token.Token.{Token}
use Rattle.enc_sigs.specs.declared.kind.SigKind.{SigKind}
use Rattle.enc_sigs.specs.declared.kind.SigKind.TheVariants.{Method, Field, Locals, Property, TypeSpec, MethodSpec}
use Rattle.enc_sigs.specs.declared.type_form.TypeForm.{TypeForm}
use Rattle.enc_sigs.specs.declared.type_form.TypeForm.TheVariants as form
use Rattle.enc_sigs.specs.declared.type_form.Numeral.{Numeral}
use Rattle.enc_sigs.specs.declared.type_form.Numeral.TheVariants.{Size, Bound}
use Rattle.enc_sigs.specs.Tree.{Tree, SigTree, forest_of}
use Rattle.enc_sigs.specs.Grammar.{upon, many, more_in, list_in, tree, numbered_in, numeral_in, numerals_in, byte_in, wrapped_in, named_in, modified_in, array_in, instance_in, pointer_in, method_in, calling_in, parts_in, params, marked_in, accessed_in, begins, token_in, form_of, formed_in, elem_in, type_in, front_in, all_of, unless_more, sig_in}
use Rattle.enc_base.specs.Readers.{Reader, giving, both, number_in}
use Rattle.enc_sigs.specs.Laws.{fits_below, fits_depth}
use Rattle.enc_sigs.proofs.Agreed.{map_known, upon_known, both_known, formed_element}

-- of what is read this is true
abbrev pub Known : {A : Type 0} → (A → Type 0) → Reader A → Type 0
Known {A} K r = (bytes : List ℕ) (p : A × List ℕ) → r bytes ≡ Some p → K p.0

-- a type and types fit
abbrev one_fits : ℕ → Tree → Type 0
one_fits d x = (if x.element == 0 || x.element == 0x41 then fits_depth x.kids d else fits_below d (fits_depth x.kids)) ≡ true

abbrev all_fit : ℕ → List Tree → Type 0
all_fit d xs = fits_depth (forest_of xs) d ≡ true

none_fit : (d : ℕ) → all_fit d []
unfolding fits_depth
none_fit d = refl

more_fit : (d : ℕ) (x : Tree) (xs : List Tree) → one_fits d x → all_fit d xs → all_fit d (x ∷ xs)
unfolding fits_depth
more_fit d x xs e f = and_from (if x.element == 0 || x.element == 0x41 then fits_depth x.kids d else fits_below d (fits_depth x.kids)) (fits_depth (forest_of xs) d) e f

first_known : {A B : Type 0} (K : A → Type 0) (L : B → Type 0) (M : A × B → Type 0) (r : Reader A) (s : Reader B) → ((x : A) (y : B) → K x → L y → M (x, y)) → Known K r → Known L s → Known M (both r s)
first_known K L M r s same first second bytes p e = both_known M s (r bytes) p (λ x rest q f g. same x q.0 (first bytes (x, rest) f) (second rest q g)) e

more_known : (d : ℕ) (r : Reader Tree) (s : Reader (List Tree)) → Known (one_fits d) r → Known (all_fit d) s → Known (all_fit d) (more_in r s)
more_known d r s first others bytes p e = map_known (all_fit d) (λ (p : Tree × List Tree). p.0 ∷ p.1) (both r s bytes) p (λ q f. first_known (one_fits d) (all_fit d) (λ x. all_fit d (x.0 ∷ x.1)) r s (more_fit d) first others bytes q f) e

many_known : (d : ℕ) (r : Reader Tree) (n : ℕ) → Known (one_fits d) r → Known (all_fit d) (many r n)
unfolding many
many_known d r zero first bytes p e = let f : ([], bytes) ≡ p = cc in subst (λ (x : List Tree × List ℕ). all_fit d x.0) f (none_fit d)
many_known d r (suc n) first bytes p e = more_known d r (many r n) first (many_known d r n first) bytes p e

counted_known : (d : ℕ) (r : Reader Tree) → Known (one_fits d) r → Known (all_fit d) (list_in r)
unfolding list_in
counted_known d r first bytes p e = map_known (all_fit d) (λ (p : ℕ × List Tree). p.1) (upon number_in (many r) bytes) p (λ q f. upon_known (λ x. all_fit d x.1) (many r) (number_in bytes) q (λ n b u g. many_known d r n first b u g) f) e

leaf_fits : (d n : ℕ) → one_fits d (tree 0 nil n [])
unfolding fits_depth
leaf_fits d n = refl

numeral_fits : (d : ℕ) (kind : Numeral) → Known (one_fits d) (numbered_in 0 (numeral_in kind))
unfolding numbered_in
numeral_fits d kind bytes p e = map_known (one_fits d) (λ n. tree 0 nil n []) (numeral_in kind bytes) p (λ q f. leaf_fits d q.0) e

numerals_fit : (d : ℕ) (kind : Numeral) → Known (one_fits d) (numerals_in kind)
unfolding numerals_in
numerals_fit d kind bytes p e = map_known (one_fits d) (λ ts. tree 0 nil 0 ts) (list_in (numbered_in 0 (numeral_in kind)) bytes) p (λ q f. counted_known d (numbered_in 0 (numeral_in kind)) (numeral_fits d kind) bytes q f) e

single_fits : (d : ℕ) (x : Tree) → one_fits d x → all_fit d (x ∷ [])
single_fits d x e = more_fit d x [] e (none_fit d)

wrapped_fits : (d b : ℕ) (r : Reader Tree) → Known (one_fits d) r → Known (λ (t : Tree). fits_depth t.kids d ≡ true) (wrapped_in r b)
unfolding wrapped_in
wrapped_fits d b r first bytes p e = map_known (λ (t : Tree). fits_depth t.kids d ≡ true) (λ x. tree b nil 0 (x ∷ [])) (r bytes) p (λ q f. single_fits d q.0 (first bytes q f)) e

sentinel_fits : (d : ℕ) (r : Reader Tree) → Known (one_fits d) r → Known (one_fits d) (wrapped_in r 0x41)
unfolding wrapped_in
sentinel_fits d r first bytes p e = map_known (one_fits d) (λ x. tree 0x41 nil 0 (x ∷ [])) (r bytes) p (λ q f. single_fits d q.0 (first bytes q f)) e

params_by : (d : ℕ) (r : Reader Tree) (n : ℕ) (t : Bool) (bytes : List ℕ) (p : List Tree × List ℕ) → Known (one_fits d) r → Known (all_fit d) (params r n) → (if t then marked_in r n (drop 1 bytes) else more_in r (params r n) bytes) ≡ Some p → all_fit d p.0
unfolding marked_in
params_by d r n true bytes p first others e = more_known d (wrapped_in r 0x41) (many r n) (sentinel_fits d r first) (many_known d r n first) (drop 1 bytes) p e
params_by d r n false bytes p first others e = more_known d r (params r n) first others bytes p e

params_known : (d : ℕ) (r : Reader Tree) (n : ℕ) → Known (one_fits d) r → Known (all_fit d) (params r n)
unfolding params
params_known d r zero first bytes p e = let f : ([], bytes) ≡ p = cc in subst (λ (x : List Tree × List ℕ). all_fit d x.0) f (none_fit d)
params_known d r (suc n) first bytes p e = params_by d r n (begins 0x41 bytes) bytes p first (params_known d r n first) e

behind_count : (d : ℕ) (r : Reader Tree) (s : ℕ → Reader (List Tree)) → Known (one_fits d) r → ((n : ℕ) → Known (all_fit d) (s n)) → Known (all_fit d) (giving (λ (p : ℕ × (Tree × List Tree)). p.1.0 ∷ p.1.1) (upon number_in (λ n. both r (s n))))
behind_count d r s first others bytes p e = map_known (all_fit d) (λ (p : ℕ × (Tree × List Tree)). p.1.0 ∷ p.1.1) (upon number_in (λ n. both r (s n)) bytes) p (λ q f. upon_known (λ x. all_fit d (x.1.0 ∷ x.1.1)) (λ n. both r (s n)) (number_in bytes) q (λ n b u g. first_known (one_fits d) (all_fit d) (λ x. all_fit d (x.0 ∷ x.1)) r (s n) (more_fit d) first (others n) b u g) f) e

parts_known : (d : ℕ) (r : Reader Tree) → Known (one_fits d) r → Known (all_fit d) (parts_in r)
unfolding parts_in
parts_known d r first = behind_count d r (params r) first (λ n. params_known d r n first)

accessed_known : (d : ℕ) (r : Reader Tree) → Known (one_fits d) r → Known (all_fit d) (accessed_in r)
unfolding accessed_in
accessed_known d r first = behind_count d r (many r) first (λ n. many_known d r n first)

method_known : (d : ℕ) (r : Reader Tree) → Known (one_fits d) r → Known (λ (x : (ℕ × ℕ) × List Tree). all_fit d x.1) (method_in r)
unfolding method_in
method_known d r first bytes p e = both_known (λ (x : (ℕ × ℕ) × List Tree). all_fit d x.1) (parts_in r) (calling_in bytes) p (λ x rest q f g. parts_known d r first rest q g) e

abbrev kids_fit : ℕ → Tree → Type 0
kids_fit d t = fits_depth t.kids d ≡ true

array_fits : (d b : ℕ) (r : Reader Tree) → Known (one_fits d) r → Known (kids_fit d) (array_in r b)
unfolding array_in
array_fits d b r first bytes p e = map_known (kids_fit d) (λ (p : Tree × (ℕ × (Tree × Tree))). tree b nil p.1.0 (p.0 ∷ p.1.1.0 ∷ p.1.1.1 ∷ [])) (both r (both number_in (both (numerals_in Size) (numerals_in Bound))) bytes) p (λ q f. both_known (λ (x : Tree × (ℕ × (Tree × Tree))). all_fit d (x.0 ∷ x.1.1.0 ∷ x.1.1.1 ∷ [])) (both number_in (both (numerals_in Size) (numerals_in Bound))) (r bytes) q (λ x rest u g h. both_known (λ (y : ℕ × (Tree × Tree)). all_fit d (x ∷ y.1.0 ∷ y.1.1 ∷ [])) (both (numerals_in Size) (numerals_in Bound)) (number_in rest) u (λ n mid v k l. first_known (one_fits d) (one_fits d) (λ (z : Tree × Tree). all_fit d (x ∷ z.0 ∷ z.1 ∷ [])) (numerals_in Size) (numerals_in Bound) (λ s t i j. more_fit d x (s ∷ t ∷ []) (first bytes (x, rest) g) (more_fit d s (t ∷ []) i (single_fits d t j))) (numerals_fit d Size) (numerals_fit d Bound) mid v l) h) f) e

formed_fits : (good : ℕ → Bool) (d b : ℕ) (f : TypeForm) (r : Reader Tree) → Known (one_fits d) r → Known (kids_fit d) (formed_in good r f b)
unfolding formed_in named_in modified_in numbered_in instance_in pointer_in
formed_fits good d b form.Bare r first bytes p e = let f : (tree b nil 0 [], bytes) ≡ p = cc in subst (λ (x : Tree × List ℕ). kids_fit d x.0) f (none_fit d)
formed_fits good d b form.Wrapped r first bytes p e = wrapped_fits d b r first bytes p e
formed_fits good d b form.Named r first bytes p e = map_known (kids_fit d) (λ t. tree b t 0 []) (token_in good bytes) p (λ q f. none_fit d) e
formed_fits good d b form.Modified r first bytes p e = map_known (kids_fit d) (λ (p : Token × Tree). tree b p.0 0 (p.1 ∷ [])) (both (token_in good) r bytes) p (λ q f. both_known (λ (x : Token × Tree). all_fit d (x.1 ∷ [])) r (token_in good bytes) q (λ x rest u g h. single_fits d u.0 (first rest u h)) f) e
formed_fits good d b form.Numbered r first bytes p e = map_known (kids_fit d) (λ n. tree b nil n []) (number_in bytes) p (λ q f. none_fit d) e
formed_fits good d b form.Array r first bytes p e = array_fits d b r first bytes p e
formed_fits good d b form.Instance r first bytes p e = map_known (kids_fit d) (λ (p : ℕ × (Token × List Tree)). tree b p.1.0 p.0 p.1.1) (both (byte_in (λ c. c == 0x11 || c == 0x12)) (both (token_in good) (list_in r)) bytes) p (λ q f. both_known (λ (x : ℕ × (Token × List Tree)). all_fit d x.1.1) (both (token_in good) (list_in r)) (byte_in (λ c. c == 0x11 || c == 0x12) bytes) q (λ x rest u g h. both_known (λ (y : Token × List Tree). all_fit d y.1) (list_in r) (token_in good rest) u (λ t mid v k l. counted_known d r first mid v l) h) f) e
formed_fits good d b form.Pointer r first bytes p e = map_known (kids_fit d) (λ (p : (ℕ × ℕ) × List Tree). tree b nil p.0.0 (tree 0 nil p.0.1 [] ∷ p.1)) (method_in r bytes) p (λ q f. more_fit d (tree 0 nil q.0.0.1 []) q.0.1 (leaf_fits d q.0.0.1) (method_known d r first bytes q f)) e

-- a first byte of a type is neither 0 nor a sentinel
no_form : (n : ℕ) (f : TypeForm) (s t : Bool) → form_of n ≡ Some f → n == 0 ≡ s → n == 0x41 ≡ t → (s || t) ≡ false
unfolding form_of
no_form n f true t is e g =
    let h = subst (λ (k : ℕ). form_of k ≡ Some f) (eqb-true n 0 e) is in
    absurd (cc)
no_form n f false true is e g =
    let h = subst (λ (k : ℕ). form_of k ≡ Some f) (eqb-true n 0x41 g) is in
    absurd (cc)
no_form n f false false is e g = refl

level_fits : (d n : ℕ) (f : TypeForm) (x : Tree) → form_of n ≡ Some f → x.element ≡ n → kids_fit d x → one_fits (suc d) x
level_fits d n f x is e fit = ap (λ t. if t then fits_depth x.kids (suc d) else fits_depth x.kids d) (ap (λ k. k == 0 || k == 0x41) e ∙ no_form n f (n == 0) (n == 0x41) is refl refl) ∙ fit

opened_fits : (good : ℕ → Bool) (d n : ℕ) (o : Option TypeForm) (bytes : List ℕ) (p : Tree × List ℕ) → Known (one_fits d) (elem_in good d) → form_of n ≡ o → option_and_then {T = TypeForm} (λ f. formed_in good (elem_in good d) f n bytes) o ≡ Some p → one_fits (suc d) p.0
opened_fits good d n None bytes p first is e = absurd (cc)
opened_fits good d n (Some f) bytes p first is e = level_fits d n f p.0 is (formed_element good f n (elem_in good d) bytes p e) (formed_fits good d n f (elem_in good d) first bytes p e)

elem_fits : (good : ℕ → Bool) (d : ℕ) → Known (one_fits d) (elem_in good d)
unfolding elem_in
elem_fits good zero bytes p e = absurd (cc)
elem_fits good (suc d) [] p e = absurd (cc)
elem_fits good (suc d) (b ∷ rest) p e = opened_fits good d b (form_of b) rest p (elem_fits good d) refl e

abbrev parts_fit : ℕ → SigTree → Type 0
parts_fit d s = all_fit d s.parts

tagged_fits : (d : ℕ) (kind : SigKind) (test : ℕ → Bool) (s : Reader (List Tree)) → Known (all_fit d) s → Known (parts_fit d) (giving (λ (p : ℕ × List Tree). record { form = kind; kind = p.0; generics = 0; parts = p.1 }) (both (byte_in test) s))
tagged_fits d kind test s known bytes p e = map_known (parts_fit d) (λ (p : ℕ × List Tree). record { form = kind; kind = p.0; generics = 0; parts = p.1 }) (both (byte_in test) s bytes) p (λ q f. both_known (λ (x : ℕ × List Tree). all_fit d x.1) s (byte_in test bytes) q (λ x rest u g h. known rest u h) f) e

-- the same over any depth
front_fits : (good : ℕ → Bool) (kind : SigKind) (d : ℕ) → Known (one_fits d) (type_in good) → Known (parts_fit d) (front_in good kind)
unfolding front_in
front_fits good Method d first bytes p e = map_known (parts_fit d) (λ (p : (ℕ × ℕ) × List Tree). record { form = Method; kind = p.0.0; generics = p.0.1; parts = p.1 }) (method_in (type_in good) bytes) p (λ q f. method_known d (type_in good) first bytes q f) e
front_fits good Field d first bytes p e = map_known (parts_fit d) (λ (p : ℕ × Tree). record { form = Field; kind = p.0; generics = 0; parts = p.1 ∷ [] }) (both (byte_in (λ b. b == 0x06)) (type_in good) bytes) p (λ q f. both_known (λ (x : ℕ × Tree). all_fit d (x.1 ∷ [])) (type_in good) (byte_in (λ b. b == 0x06) bytes) q (λ x rest u g h. single_fits d u.0 (first rest u h)) f) e
front_fits good Locals d first bytes p e = tagged_fits d Locals (λ b. b == 0x07) (list_in (type_in good)) (counted_known d (type_in good) first) bytes p e
front_fits good Property d first bytes p e = tagged_fits d Property (λ b. b == 0x08 || b == 0x28) (accessed_in (type_in good)) (accessed_known d (type_in good) first) bytes p e
front_fits good TypeSpec d first bytes p e = map_known (parts_fit d) (λ (t : Tree). record { form = TypeSpec; kind = 0; generics = 0; parts = t ∷ [] }) (type_in good bytes) p (λ q f. single_fits d q.0 (first bytes q f)) e
front_fits good MethodSpec d first bytes p e = tagged_fits d MethodSpec (λ b. b == 0x0A) (list_in (type_in good)) (counted_known d (type_in good) first) bytes p e

type_fits : (good : ℕ → Bool) → Known (one_fits 100) (type_in good)
unfolding type_in
type_fits good = elem_fits good 100

whole_is : (s : SigTree) (rest : List ℕ) (t : SigTree) → unless_more s rest ≡ Some t → s ≡ t
whole_is s [] t e = cc
whole_is s (b ∷ rest) t e = absurd (cc)

whole_fits : (d : ℕ) (o : Option (SigTree × List ℕ)) (s : SigTree) → ((p : SigTree × List ℕ) → o ≡ Some p → parts_fit d p.0) → all_of o ≡ Some s → parts_fit d s
whole_fits d None s known e = absurd (cc)
whole_fits d (Some p) s known e = subst (parts_fit d) (whole_is p.0 p.1 s e) (known p refl)

pub depth_bounded : (good : ℕ → Bool) (kind : SigKind) (bytes : List ℕ) (s : SigTree) → sig_in good kind bytes ≡ Some s → fits_depth (forest_of s.parts) 100 ≡ true
unfolding sig_in
depth_bounded good kind bytes s e = whole_fits 100 (front_in good kind bytes) s (front_fits good kind 100 (type_fits good) bytes) e
