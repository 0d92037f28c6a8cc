-- What is read with a test of tokens is read the same with any wider test.
use Rattle.std.proofs.Common.{◌≡◌, ℕ, zero, suc, Bool, true, false, cond, List, [], ◌∷◌, drop, Option, Some, None, refl}
use Rattle.std.specs.Prelude.{◌==◌, ◌||◌, option_map, option_and_then, if◌then◌else◌}
use Rattle.enc_base.specs.declared.token.Token.{Token}
use Rattle.enc_sigs.specs.declared.kind.SigKind.{SigKind}
use Rattle.enc_sigs.specs.declared.kind.SigKind.TheVariants.{Method, Field, Locals, Property, TypeSpec, MethodSpec}
use Rattle.enc_sigs.specs.declared.type_form.TypeForm.{TypeForm}
use Rattle.enc_sigs.specs.declared.type_form.TypeForm.TheVariants as form
use Rattle.enc_sigs.specs.declared.type_form.Numeral.TheVariants.{Size, Bound}
use Rattle.enc_sigs.specs.Tree.{Tree, SigTree}
use Rattle.enc_base.specs.Token.{nil}
use Rattle.enc_sigs.specs.Grammar.{upon, many, list_in, byte_in, token_in, token_named, tree, form_of, wrapped_in, named_in, modified_in, numbered_in, numerals_in, array_in, instance_in, begins, more_in, marked_in, params, calling_in, parts_in, method_in, pointer_in, formed_in, elem_in, type_in, accessed_in, front_in, all_of, sig_in}
use Rattle.enc_base.specs.Readers.{Reader, giving, both, number_in}

-- what the first reads the second reads too
abbrev pub Keeps : {A : Type 0} → Reader A → Reader A → Type 0
Keeps {A} r s = (bytes : List ℕ) (p : A × List ℕ) → r bytes ≡ Some p → s bytes ≡ Some p

-- each number that passes the first test passes the second
abbrev pub Wider : (ℕ → Bool) → (ℕ → Bool) → Type 0
Wider good test = (n : ℕ) → good n ≡ true → test n ≡ true

same_keeps : {A : Type 0} (r : Reader A) → Keeps r r
same_keeps r bytes p e = e

given_keeps : {A B : Type 0} (h : A → B) (r s : Reader A) (bytes : List ℕ) (o : Option (A × List ℕ)) (p : B × List ℕ) → Keeps r s → r bytes ≡ o → option_map {T = A × List ℕ} (λ q. (h q.0, q.1)) o ≡ Some p → giving h s bytes ≡ Some p
given_keeps h r s bytes None p keep is e = absurd (cc)
given_keeps h r s bytes (Some q) p keep is e = rw (keep bytes q is) e

giving_keeps : {A B : Type 0} (h : A → B) (r s : Reader A) → Keeps r s → Keeps (giving h r) (giving h s)
giving_keeps h r s keep bytes p e = given_keeps h r s bytes (r bytes) p keep refl e

second_keeps : {A B : Type 0} (s v : Reader B) (x : A) (bytes : List ℕ) (o : Option (B × List ℕ)) (p : (A × B) × List ℕ) → Keeps s v → s bytes ≡ o → option_map {T = B × List ℕ} (λ q. ((x, q.0), q.1)) o ≡ Some p → option_map {T = B × List ℕ} (λ q. ((x, q.0), q.1)) (v bytes) ≡ Some p
second_keeps s v x bytes None p keep is e = absurd (cc)
second_keeps s v x bytes (Some y) p keep is e = rw (keep bytes y is) e

first_keeps : {A B : Type 0} (r u : Reader A) (s v : Reader B) (bytes : List ℕ) (o : Option (A × List ℕ)) (p : (A × B) × List ℕ) → Keeps r u → Keeps s v → r bytes ≡ o → option_and_then {T = A × List ℕ} (λ p. option_map {T = B × List ℕ} (λ q. ((p.0, q.0), q.1)) (s p.1)) o ≡ Some p → both u v bytes ≡ Some p
first_keeps r u s v bytes None p one two is e = absurd (cc)
first_keeps r u s v bytes (Some x) p one two is e = rw (one bytes x is) (second_keeps s v x.0 x.1 (s x.1) p two refl e)

both_keeps : {A B : Type 0} (r u : Reader A) (s v : Reader B) → Keeps r u → Keeps s v → Keeps (both r s) (both u v)
both_keeps r u s v one two bytes p e = first_keeps r u s v bytes (r bytes) p one two refl e

behind_keeps : {B : Type 0} (r : Reader ℕ) (s v : ℕ → Reader B) (bytes : List ℕ) (o : Option (ℕ × List ℕ)) (p : (ℕ × B) × List ℕ) → ((n : ℕ) → Keeps (s n) (v n)) → r bytes ≡ o → option_and_then {T = ℕ × List ℕ} (λ p. option_map {T = B × List ℕ} (λ q. ((p.0, q.0), q.1)) (s p.0 p.1)) o ≡ Some p → upon r v bytes ≡ Some p
behind_keeps r s v bytes None p each is e = absurd (cc)
behind_keeps r s v bytes (Some x) p each is e = rw is (second_keeps (s x.0) (v x.0) x.0 x.1 (s x.0 x.1) p (each x.0) refl e)

upon_keeps : {B : Type 0} (r : Reader ℕ) (s v : ℕ → Reader B) → ((n : ℕ) → Keeps (s n) (v n)) → Keeps (upon r s) (upon r v)
upon_keeps r s v each bytes p e = behind_keeps r s v bytes (r bytes) p each refl e

many_keeps : {A : Type 0} (r s : Reader A) (n : ℕ) → Keeps r s → Keeps (many r n) (many s n)
unfolding many
many_keeps r s zero keep bytes p e = e
many_keeps {A} r s (suc n) keep bytes p e = giving_keeps (λ (p : A × List A). p.0 ∷ p.1) (both r (many r n)) (both s (many s n)) (both_keeps r s (many r n) (many s n) keep (many_keeps r s n keep)) bytes p e

counted_keeps : {A : Type 0} (r s : Reader A) → Keeps r s → Keeps (list_in r) (list_in s)
unfolding list_in
counted_keeps {A} r s keep = giving_keeps (λ (p : ℕ × List A). p.1) (upon number_in (many r)) (upon number_in (many s)) (upon_keeps number_in (many r) (many s) (λ n. many_keeps r s n keep))

named_by : (good test : ℕ → Bool) (n : ℕ) (b : Bool) (t : Token) (rest : List ℕ) (p : Token × List ℕ) → Wider good test → good n ≡ b → cond b (Some (t, rest)) None ≡ Some p → cond (test n) (Some (t, rest)) None ≡ Some p
named_by good test n true t rest p wider is e = rw (wider n is) e
named_by good test n false t rest p wider is e = absurd (cc)

token_from : (good test : ℕ → Bool) (bytes : List ℕ) (o : Option (ℕ × List ℕ)) (p : Token × List ℕ) → Wider good test → number_in bytes ≡ o → option_and_then {T = ℕ × List ℕ} (λ p. if good p.0 then Some (token_named p.0, p.1) else None) o ≡ Some p → token_in test bytes ≡ Some p
unfolding token_in
token_from good test bytes None p wider is e = absurd (cc)
token_from good test bytes (Some x) p wider is e = rw is (named_by good test x.0 (good x.0) (token_named x.0) x.1 p wider refl e)

token_keeps : (good test : ℕ → Bool) → Wider good test → Keeps (token_in good) (token_in test)
unfolding token_in
token_keeps good test wider bytes p e = token_from good test bytes (number_in bytes) p wider refl e

wrapped_keeps : (r s : Reader Tree) (b : ℕ) → Keeps r s → Keeps (wrapped_in r b) (wrapped_in s b)
unfolding wrapped_in
wrapped_keeps r s b keep = giving_keeps (λ x. tree b nil 0 (x ∷ [])) r s keep

named_keeps : (good test : ℕ → Bool) (b : ℕ) → Wider good test → Keeps (named_in good b) (named_in test b)
unfolding named_in
named_keeps good test b wider = giving_keeps (λ t. tree b t 0 []) (token_in good) (token_in test) (token_keeps good test wider)

modified_keeps : (good test : ℕ → Bool) (r s : Reader Tree) (b : ℕ) → Wider good test → Keeps r s → Keeps (modified_in good r b) (modified_in test s b)
unfolding modified_in
modified_keeps good test r s b wider keep = giving_keeps (λ (p : Token × Tree). tree b p.0 0 (p.1 ∷ [])) (both (token_in good) r) (both (token_in test) s) (both_keeps (token_in good) (token_in test) r s (token_keeps good test wider) keep)

array_keeps : (r s : Reader Tree) (b : ℕ) → Keeps r s → Keeps (array_in r b) (array_in s b)
unfolding array_in
array_keeps r s b keep =
    let behind = both number_in (both (numerals_in Size) (numerals_in Bound)) in
    giving_keeps (λ (p : Tree × (ℕ × (Tree × Tree))). tree b nil p.1.0 (p.0 ∷ p.1.1.0 ∷ p.1.1.1 ∷ [])) (both r behind) (both s behind) (both_keeps r s behind behind keep (same_keeps behind))

instance_keeps : (good test : ℕ → Bool) (r s : Reader Tree) (b : ℕ) → Wider good test → Keeps r s → Keeps (instance_in good r b) (instance_in test s b)
unfolding instance_in
instance_keeps good test r s b wider keep =
    let class = byte_in (λ c. c == 0x11 || c == 0x12) in
    let lasts = both_keeps (token_in good) (token_in test) (list_in r) (list_in s) (token_keeps good test wider) (counted_keeps r s keep) in
    giving_keeps (λ (p : ℕ × (Token × List Tree)). tree b p.1.0 p.0 p.1.1) (both class (both (token_in good) (list_in r))) (both class (both (token_in test) (list_in s))) (both_keeps class class (both (token_in good) (list_in r)) (both (token_in test) (list_in s)) (same_keeps class) lasts)

more_keeps : (r s : Reader Tree) (v w : Reader (List Tree)) → Keeps r s → Keeps v w → Keeps (more_in r v) (more_in s w)
more_keeps r s v w one two = giving_keeps (λ (p : Tree × List Tree). p.0 ∷ p.1) (both r v) (both s w) (both_keeps r s v w one two)

marked_keeps : (r s : Reader Tree) (n : ℕ) → Keeps r s → Keeps (marked_in r n) (marked_in s n)
unfolding marked_in
marked_keeps r s n keep = more_keeps (wrapped_in r 0x41) (wrapped_in s 0x41) (many r n) (many s n) (wrapped_keeps r s 0x41 keep) (many_keeps r s n keep)

by_test : (b : Bool) (r s v w : Reader (List Tree)) (x y : List ℕ) (p : List Tree × List ℕ) → Keeps r s → Keeps v w → cond b (r x) (v y) ≡ Some p → cond b (s x) (w y) ≡ Some p
by_test true r s v w x y p one two e = one x p e
by_test false r s v w x y p one two e = two y p e

params_keeps : (r s : Reader Tree) (n : ℕ) → Keeps r s → Keeps (params r n) (params s n)
unfolding params
params_keeps r s zero keep bytes p e = e
params_keeps r s (suc n) keep bytes p e = by_test (begins 0x41 bytes) (marked_in r n) (marked_in s n) (more_in r (params r n)) (more_in s (params s n)) (drop 1 bytes) bytes p (marked_keeps r s n keep) (more_keeps r s (params r n) (params s n) keep (params_keeps r s n keep)) e

parts_keeps : (r s : Reader Tree) → Keeps r s → Keeps (parts_in r) (parts_in s)
unfolding parts_in
parts_keeps r s keep = giving_keeps (λ (p : ℕ × (Tree × List Tree)). p.1.0 ∷ p.1.1) (upon number_in (λ n. both r (params r n))) (upon number_in (λ n. both s (params s n))) (upon_keeps number_in (λ n. both r (params r n)) (λ n. both s (params s n)) (λ n. both_keeps r s (params r n) (params s n) keep (params_keeps r s n keep)))

method_keeps : (r s : Reader Tree) → Keeps r s → Keeps (method_in r) (method_in s)
unfolding method_in
method_keeps r s keep = both_keeps calling_in calling_in (parts_in r) (parts_in s) (same_keeps calling_in) (parts_keeps r s keep)

pointer_keeps : (r s : Reader Tree) (b : ℕ) → Keeps r s → Keeps (pointer_in r b) (pointer_in s b)
unfolding pointer_in
pointer_keeps r s b keep = giving_keeps (λ (p : (ℕ × ℕ) × List Tree). tree b nil p.0.0 (tree 0 nil p.0.1 [] ∷ p.1)) (method_in r) (method_in s) (method_keeps r s keep)

accessed_keeps : (r s : Reader Tree) → Keeps r s → Keeps (accessed_in r) (accessed_in s)
unfolding accessed_in
accessed_keeps r s keep = giving_keeps (λ (p : ℕ × (Tree × List Tree)). p.1.0 ∷ p.1.1) (upon number_in (λ n. both r (many r n))) (upon number_in (λ n. both s (many s n))) (upon_keeps number_in (λ n. both r (many r n)) (λ n. both s (many s n)) (λ n. both_keeps r s (many r n) (many s n) keep (many_keeps r s n keep)))

formed_keeps : (good test : ℕ → Bool) (r s : Reader Tree) (f : TypeForm) (b : ℕ) → Wider good test → Keeps r s → Keeps (formed_in good r f b) (formed_in test s f b)
unfolding formed_in
formed_keeps good test r s form.Bare b wider keep = same_keeps (λ bytes. Some (tree b nil 0 [], bytes))
formed_keeps good test r s form.Wrapped b wider keep = wrapped_keeps r s b keep
formed_keeps good test r s form.Named b wider keep = named_keeps good test b wider
formed_keeps good test r s form.Modified b wider keep = modified_keeps good test r s b wider keep
formed_keeps good test r s form.Numbered b wider keep = same_keeps (numbered_in b number_in)
formed_keeps good test r s form.Array b wider keep = array_keeps r s b keep
formed_keeps good test r s form.Instance b wider keep = instance_keeps good test r s b wider keep
formed_keeps good test r s form.Pointer b wider keep = pointer_keeps r s b keep

opened_keeps : (good test : ℕ → Bool) (r s : Reader Tree) (o : Option TypeForm) (b : ℕ) (rest : List ℕ) (p : Tree × List ℕ) → Wider good test → Keeps r s → option_and_then {T = TypeForm} (λ f. formed_in good r f b rest) o ≡ Some p → option_and_then {T = TypeForm} (λ f. formed_in test s f b rest) o ≡ Some p
opened_keeps good test r s None b rest p wider keep e = absurd (cc)
opened_keeps good test r s (Some f) b rest p wider keep e = formed_keeps good test r s f b wider keep rest p e

elem_keeps : (good test : ℕ → Bool) (depth : ℕ) → Wider good test → Keeps (elem_in good depth) (elem_in test depth)
unfolding elem_in
elem_keeps good test zero wider bytes p e = absurd (cc)
elem_keeps good test (suc depth) wider [] p e = absurd (cc)
elem_keeps good test (suc depth) wider (b ∷ rest) p e = opened_keeps good test (elem_in good depth) (elem_in test depth) (form_of b) b rest p wider (elem_keeps good test depth wider) e

type_keeps : (good test : ℕ → Bool) → Wider good test → Keeps (type_in good) (type_in test)
unfolding type_in
type_keeps good test wider = elem_keeps good test 100 wider

tagged_keeps : (kind : SigKind) (tag : ℕ → Bool) (r s : Reader (List Tree)) → Keeps r s → Keeps {A = SigTree} (giving (λ (p : ℕ × List Tree). record { form = kind; kind = p.0; generics = 0; parts = p.1 }) (both (byte_in tag) r)) (giving (λ (p : ℕ × List Tree). record { form = kind; kind = p.0; generics = 0; parts = p.1 }) (both (byte_in tag) s))
tagged_keeps kind tag r s keep = giving_keeps (λ (p : ℕ × List Tree). record { form = kind; kind = p.0; generics = 0; parts = p.1 }) (both (byte_in tag) r) (both (byte_in tag) s) (both_keeps (byte_in tag) (byte_in tag) r s (same_keeps (byte_in tag)) keep)

front_keeps : (good test : ℕ → Bool) (kind : SigKind) → Wider good test → Keeps (front_in good kind) (front_in test kind)
unfolding front_in
front_keeps good test Method wider = giving_keeps (λ (p : (ℕ × ℕ) × List Tree). record { form = Method; kind = p.0.0; generics = p.0.1; parts = p.1 }) (method_in (type_in good)) (method_in (type_in test)) (method_keeps (type_in good) (type_in test) (type_keeps good test wider))
front_keeps good test Field wider = giving_keeps (λ (p : ℕ × Tree). record { form = Field; kind = p.0; generics = 0; parts = p.1 ∷ [] }) (both (byte_in (λ b. b == 0x06)) (type_in good)) (both (byte_in (λ b. b == 0x06)) (type_in test)) (both_keeps (byte_in (λ b. b == 0x06)) (byte_in (λ b. b == 0x06)) (type_in good) (type_in test) (same_keeps (byte_in (λ b. b == 0x06))) (type_keeps good test wider))
front_keeps good test Locals wider = tagged_keeps Locals (λ b. b == 0x07) (list_in (type_in good)) (list_in (type_in test)) (counted_keeps (type_in good) (type_in test) (type_keeps good test wider))
front_keeps good test Property wider = tagged_keeps Property (λ b. b == 0x08 || b == 0x28) (accessed_in (type_in good)) (accessed_in (type_in test)) (accessed_keeps (type_in good) (type_in test) (type_keeps good test wider))
front_keeps good test TypeSpec wider = giving_keeps (λ (t : Tree). record { form = TypeSpec; kind = 0; generics = 0; parts = t ∷ [] }) (type_in good) (type_in test) (type_keeps good test wider)
front_keeps good test MethodSpec wider = tagged_keeps MethodSpec (λ b. b == 0x0A) (list_in (type_in good)) (list_in (type_in test)) (counted_keeps (type_in good) (type_in test) (type_keeps good test wider))

whole_keeps : (good test : ℕ → Bool) (kind : SigKind) (bytes : List ℕ) (o : Option (SigTree × List ℕ)) (s : SigTree) → Wider good test → front_in good kind bytes ≡ o → all_of o ≡ Some s → all_of (front_in test kind bytes) ≡ Some s
whole_keeps good test kind bytes None s wider is e = absurd (cc)
whole_keeps good test kind bytes (Some p) s wider is e = rw (front_keeps good test kind wider bytes p is) e

-- a signature is read the same with a wider test
pub sig_keeps : (good test : ℕ → Bool) (kind : SigKind) (bytes : List ℕ) (s : SigTree) → Wider good test → sig_in good kind bytes ≡ Some s → sig_in test kind bytes ≡ Some s
unfolding sig_in
sig_keeps good test kind bytes s wider e = whole_keeps good test kind bytes (front_in good kind bytes) s wider refl e
