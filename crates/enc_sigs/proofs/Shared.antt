-- Signatures that are equal but for tokens of equal keys have one shape.
use Rattle.std.proofs.Common.{◌≡◌, ℕ, zero, suc, Bool, true, false, List, [], ◌∷◌, drop, Option, Some, None, refl, sym, ap, subst, ◌∙◌, inl, inr, ◌⊎◌}
use Rattle.std.specs.Prelude.{◌&&◌, ◌||◌, ◌==◌, option_map, option_and_then, unwrap_or, if◌then◌else◌}
use Rattle.std.proofs.lemmas.Bool.{eqb-true}
use Rattle.enc_base.specs.Token.{is_token}
use Rattle.enc_base.specs.declared.token.Token.{Token}
use Rattle.enc_sigs.specs.declared.kind.SigKind.{SigKind}
use Rattle.enc_sigs.specs.declared.kind.SigKind.TheVariants.{Method, Field, Locals, Property, TypeSpec, MethodSpec}
use Rattle.enc_sigs.specs.declared.type_form.TypeForm.{TypeForm}
use Rattle.enc_sigs.specs.declared.type_form.TypeForm.TheVariants as form
use Rattle.enc_sigs.specs.declared.type_form.Numeral.{Numeral}
use Rattle.enc_sigs.specs.declared.type_form.Numeral.TheVariants.{Size, Bound}
use Rattle.enc_sigs.specs.Grammar.{byte_in, numeral_in, token_in, is_coded, form_of, calling_in, begins}
use Rattle.enc_base.specs.Numbers.{is_empty}
use Rattle.enc_base.specs.Readers.{Reader, number_in}
use Rattle.enc_sigs.specs.Agree.{tokens_agree}
use Rattle.enc_sigs.specs.Walk.{Walk, paired, both_numbers, alike, alike_alone, onward, upon_alike, token_walk, many_walk, counted_walk, numerals_walk, array_walk, modified_walk, instance_walk, marked_walk, params_walk, parts_walk, calling_walk, method_walk, accessed_walk, formed_walk, elem_walk, type_walk, front_walk, both_end}
use Rattle.enc_sigs.specs.Shape.{Shaping, in_turn, number_shape, upon_shape, token_shape, many_shape, counted_shape, numerals_shape, array_shape, modified_shape, instance_shape, marked_shape, params_shape, parts_shape, calling_shape, method_shape, formed_shape, elem_shape, type_shape, accessed_shape, front_shape, mixed_of, sig_shape, AlikeHaveOneShape}
use Rattle.enc_sigs.specs.Mix.{mix_of, mixed, mixed_both}
use Rattle.enc_sigs.specs.declared.mix.Mix.{Mix}
use Rattle.enc_sigs.proofs.Agreed.{sigs_agreed}

-- what is walked in step has one shape on both sides
abbrev pub IsShared : Option (Mix × List ℕ) → Option (Mix × List ℕ) → List ℕ × List ℕ → Type 0
IsShared o u x = (k : Mix) × (o ≡ Some (k, x.0)) × (u ≡ Some (k, x.1))

abbrev pub Shares : Walk → Shaping → Type 0
Shares walk shape = (h : Mix) (a b : List ℕ) (x : List ℕ × List ℕ) → walk a b ≡ Some x → IsShared (shape h a) (shape h b) x

some_is : {A : Type 0} (x y : A) → Some x ≡ Some y → x ≡ y
some_is x y e = ap (λ o. unwrap_or o x) e

-- one thing, and another behind it
onward_by : (p q : Walk) (s t : Shaping) (h : Mix) (a b : List ℕ) (y : List ℕ × List ℕ) (o : Option (List ℕ × List ℕ)) → Shares p s → Shares q t → p a b ≡ o → option_and_then {T = List ℕ × List ℕ} (λ x. q x.0 x.1) o ≡ Some y → IsShared (in_turn s t h a) (in_turn s t h b) y
onward_by p q s t h a b y None first second is e = absurd (cc)
onward_by p q s t h a b y (Some x) first second is e =
    let f = first h a b x is in
    let g = second f.0 x.0 x.1 y e in
    (g.0, rw f.1 g.1, rw f.2 g.2)

onward_shares : (p q : Walk) (s t : Shaping) → Shares p s → Shares q t → Shares (onward p q) (in_turn s t)
onward_shares p q s t first second h a b y e = onward_by p q s t h a b y (p a b) first second refl e

-- two things that are read, where they agree
abbrev mixing : {A : Type 0} → (Mix → A → Mix) → Reader A → Shaping
mixing {A} mix r h bytes = option_map (λ (p : A × List ℕ). (mix h p.0, p.1)) (r bytes)

agree_by : {A : Type 0} (agree : A → A → Bool) (mix : Mix → A → Mix) (h : Mix) (p q : A × List ℕ) (x : List ℕ × List ℕ) (t : Bool) → (agree p.0 q.0 ≡ true → mix h p.0 ≡ mix h q.0) → agree p.0 q.0 ≡ t → (if t then Some (p.1, q.1) else None) ≡ Some x → IsShared (Some (mix h p.0, p.1)) (Some (mix h q.0, q.1)) x
agree_by agree mix h p q x false same is e = absurd (cc)
agree_by agree mix h p q x true same is e =
    let f : (p.1, q.1) ≡ x = some_is (p.1, q.1) x e in
    let m = same is in
    (mix h p.0, ap (λ (y : List ℕ × List ℕ). Some (mix h p.0, y.0)) f, ap (λ k. Some (k, q.1)) (sym m) ∙ ap (λ (y : List ℕ × List ℕ). Some (mix h p.0, y.1)) f)

paired_by : {A : Type 0} (agree : A → A → Bool) (mix : Mix → A → Mix) (h : Mix) (o u : Option (A × List ℕ)) (x : List ℕ × List ℕ) → ((y z : A) → agree y z ≡ true → mix h y ≡ mix h z) → paired agree o u ≡ Some x → IsShared (option_map {T = A × List ℕ} (λ p. (mix h p.0, p.1)) o) (option_map {T = A × List ℕ} (λ p. (mix h p.0, p.1)) u) x
paired_by agree mix h None u x same e = absurd (cc)
paired_by agree mix h (Some p) None x same e = absurd (cc)
paired_by agree mix h (Some p) (Some q) x same e = agree_by agree mix h p q x (agree p.0 q.0) (same p.0 q.0) refl e

number_shares : (r : Reader ℕ) → Shares (alike_alone r) (number_shape r)
unfolding alike_alone number_shape
number_shares r h a b x e = paired_by (λ n m. n == m) mixed h (r a) (r b) x (λ n m is. ap (mixed h) (eqb-true n m is)) e

pub both_left : (s t : Bool) → (s && t) ≡ true → s ≡ true
both_left true t e = refl
both_left false t e = e

pub both_right : (s t : Bool) → (s && t) ≡ true → t ≡ true
both_right true t e = e
both_right false t e = absurd (cc)

pub or_else_right : (s t : Bool) → (s || t) ≡ true → (s ≡ true) ⊎ (t ≡ true)
or_else_right true t e = inl refl
or_else_right false t e = inr e

calling_shares : Shares calling_walk calling_shape
unfolding calling_walk calling_shape
calling_shares h a b x e = paired_by (λ (p q : ℕ × ℕ). p.0 == q.0 && p.1 == q.1) (λ h (p : ℕ × ℕ). mixed (mixed h p.0) p.1) h (calling_in a) (calling_in b) x (λ p q is. same_call h p q (eqb-true p.0 q.0 (both_left (p.0 == q.0) (p.1 == q.1) is)) (eqb-true p.1 q.1 (both_right (p.0 == q.0) (p.1 == q.1) is))) e
  where
    same_call : (h : Mix) (p q : ℕ × ℕ) → p.0 ≡ q.0 → p.1 ≡ q.1 → mixed (mixed h p.0) p.1 ≡ mixed (mixed h q.0) q.1
    same_call h p q e f = rw (e, f) refl

-- equal tokens
pub token_is : (t u : Token) → is_token t u ≡ true → t ≡ u
token_is t u h =
    let with_table : ℕ → Token = λ n. record { table = n; row = t.row } in
    let with_row : ℕ → Token = λ n. record { table = u.table; row = n } in
    ap with_table (eqb-true t.table u.table (both_left (t.table == u.table) (t.row == u.row) h)) ∙ ap with_row (eqb-true t.row u.row (both_right (t.table == u.table) (t.row == u.row) h))

-- tokens that stand for one another have equal keys
abbrev pub HaveOneKey : (Token → Token → Bool) → (Token → Mix) → Type 0
HaveOneKey same key = (t u : Token) → same t u ≡ true → key t ≡ key u

agreed_key : (same : Token → Token → Bool) (key : Token → Mix) (t u : Token) → HaveOneKey same key → tokens_agree same t u ≡ true → key t ≡ key u
agreed_key same key t u one e = elim (or_else_right (is_token t u) (same t u) e) [ inl is ↦ ap key (token_is t u is) | inr is ↦ one t u is ]

token_shares : (same : Token → Token → Bool) (key : Token → Mix) → HaveOneKey same key → Shares (token_walk same) (token_shape key)
unfolding token_walk token_shape
token_shares same key one h a b x e = paired_by (tokens_agree same) (λ h t. mixed_both h (key t)) h (token_in is_coded a) (token_in is_coded b) x (λ t u is. ap (mixed_both h) (agreed_key same key t u one is)) e

-- a number, and what depends on it
upon_tests : (walk : ℕ → Walk) (shape : ℕ → Shaping) (h : Mix) (p q : ℕ × List ℕ) (x : List ℕ × List ℕ) (t : Bool) → ((n : ℕ) → Shares (walk n) (shape n)) → p.0 == q.0 ≡ t → option_and_then {T = ℕ × (List ℕ × List ℕ)} (λ y. walk y.0 y.1.0 y.1.1) (if t then Some (p.0, (p.1, q.1)) else None) ≡ Some x → IsShared (shape p.0 (mixed h p.0) p.1) (shape q.0 (mixed h q.0) q.1) x
upon_tests walk shape h p q x false step is e = absurd (cc)
upon_tests walk shape h p q x true step is e = subst (λ n. IsShared (shape p.0 (mixed h p.0) p.1) (shape n (mixed h n) q.1) x) (eqb-true p.0 q.0 is) (step p.0 (mixed h p.0) p.1 q.1 x e)

upon_by : (walk : ℕ → Walk) (shape : ℕ → Shaping) (h : Mix) (o u : Option (ℕ × List ℕ)) (x : List ℕ × List ℕ) → ((n : ℕ) → Shares (walk n) (shape n)) → option_and_then {T = ℕ × (List ℕ × List ℕ)} (λ y. walk y.0 y.1.0 y.1.1) (both_numbers o u) ≡ Some x → IsShared (option_and_then {T = ℕ × List ℕ} (λ p. shape p.0 (mixed h p.0) p.1) o) (option_and_then {T = ℕ × List ℕ} (λ p. shape p.0 (mixed h p.0) p.1) u) x
upon_by walk shape h None u x step e = absurd (cc)
upon_by walk shape h (Some p) None x step e = absurd (cc)
upon_by walk shape h (Some p) (Some q) x step e = upon_tests walk shape h p q x (p.0 == q.0) step refl e

upon_shares : (r : Reader ℕ) (walk : ℕ → Walk) (shape : ℕ → Shaping) → ((n : ℕ) → Shares (walk n) (shape n)) → Shares (upon_alike r walk) (upon_shape r shape)
unfolding alike
upon_shares r walk shape step h a b x e = upon_by walk shape h (r a) (r b) x step e

-- nothing is read
same_shares : Shares (λ a b. Some (a, b)) (λ h a. Some (h, a))
same_shares h a b x e = let f : (a, b) ≡ x = some_is (a, b) x e in (h, ap (λ (y : List ℕ × List ℕ). Some (h, y.0)) f, ap (λ (y : List ℕ × List ℕ). Some (h, y.1)) f)

many_shares : (one : Walk) (s : Shaping) (n : ℕ) → Shares one s → Shares (many_walk one n) (many_shape s n)
unfolding many_walk many_shape
many_shares one s zero step = same_shares
many_shares one s (suc n) step = onward_shares one (many_walk one n) s (many_shape s n) step (many_shares one s n step)

counted_shares : (one : Walk) (s : Shaping) → Shares one s → Shares (counted_walk one) (counted_shape s)
unfolding counted_walk counted_shape
counted_shares one s step = upon_shares number_in (many_walk one) (many_shape s) (λ n. many_shares one s n step)

numerals_shares : (kind : Numeral) → Shares (numerals_walk kind) (numerals_shape kind)
unfolding numerals_walk numerals_shape
numerals_shares kind = counted_shares (alike_alone (numeral_in kind)) (number_shape (numeral_in kind)) (number_shares (numeral_in kind))

array_shares : (one : Walk) (s : Shaping) → Shares one s → Shares (array_walk one) (array_shape s)
unfolding array_walk array_shape
array_shares one s step =
    onward_shares one (onward (alike_alone number_in) (onward (numerals_walk Size) (numerals_walk Bound))) s (in_turn (number_shape number_in) (in_turn (numerals_shape Size) (numerals_shape Bound))) step
    (onward_shares (alike_alone number_in) (onward (numerals_walk Size) (numerals_walk Bound)) (number_shape number_in) (in_turn (numerals_shape Size) (numerals_shape Bound)) (number_shares number_in)
    (onward_shares (numerals_walk Size) (numerals_walk Bound) (numerals_shape Size) (numerals_shape Bound) (numerals_shares Size) (numerals_shares Bound)))

modified_shares : (same : Token → Token → Bool) (key : Token → Mix) (one : Walk) (s : Shaping) → HaveOneKey same key → Shares one s → Shares (modified_walk same one) (modified_shape key s)
unfolding modified_walk modified_shape
modified_shares same key one s keys step = onward_shares (token_walk same) one (token_shape key) s (token_shares same key keys) step

instance_shares : (same : Token → Token → Bool) (key : Token → Mix) (one : Walk) (s : Shaping) → HaveOneKey same key → Shares one s → Shares (instance_walk same one) (instance_shape key s)
unfolding instance_walk instance_shape
instance_shares same key one s keys step =
    onward_shares (alike_alone (byte_in (λ c. c == 0x11 || c == 0x12))) (onward (token_walk same) (counted_walk one)) (number_shape (byte_in (λ c. c == 0x11 || c == 0x12))) (in_turn (token_shape key) (counted_shape s)) (number_shares (byte_in (λ c. c == 0x11 || c == 0x12)))
    (onward_shares (token_walk same) (counted_walk one) (token_shape key) (counted_shape s) (token_shares same key keys) (counted_shares one s step))

-- nothing that has such a shape begins with a sentinel
abbrev pub IsPlainShape : Shaping → Type 0
IsPlainShape s = (h : Mix) (bytes : List ℕ) (p : Mix × List ℕ) → s h bytes ≡ Some p → begins 0x41 bytes ≡ false

plain_first : (s t : Shaping) (h : Mix) (bytes : List ℕ) (p : Mix × List ℕ) (o : Option (Mix × List ℕ)) → IsPlainShape s → s h bytes ≡ o → option_and_then {T = Mix × List ℕ} (λ x. t x.0 x.1) o ≡ Some p → begins 0x41 bytes ≡ false
plain_first s t h bytes p None plain is e = absurd (cc)
plain_first s t h bytes p (Some x) plain is e = plain h bytes x is

marked_by : (one : Walk) (s : Shaping) (n : ℕ) (h : Mix) (a b : List ℕ) (x : List ℕ × List ℕ) (t : Bool) → Shares one s → begins 0x41 a ≡ true → begins 0x41 b ≡ t → (if t then onward one (many_walk one n) (drop 1 a) (drop 1 b) else None) ≡ Some x → IsShared (params_shape s (suc n) h a) (params_shape s (suc n) h b) x
unfolding params_shape marked_shape
marked_by one s n h a b x false step first second e = absurd (cc)
marked_by one s n h a b x true step first second e =
    let f = onward_shares one (many_walk one n) s (many_shape s n) step (many_shares one s n step) (mixed h 0x41) (drop 1 a) (drop 1 b) x e in
    (f.0, rw first f.1, rw second f.2)

plain_by : (one : Walk) (s : Shaping) (n : ℕ) (h : Mix) (a b : List ℕ) (x : List ℕ × List ℕ) → IsPlainShape s → begins 0x41 a ≡ false → IsShared (in_turn s (params_shape s n) h a) (in_turn s (params_shape s n) h b) x → IsShared (params_shape s (suc n) h a) (params_shape s (suc n) h b) x
unfolding params_shape
plain_by one s n h a b x plain first f =
    let second : begins 0x41 b ≡ false = plain_first s (params_shape s n) h b (f.0, x.1) (s h b) plain refl f.2 in
    (f.0, rw first f.1, rw second f.2)

param_by : (one : Walk) (s : Shaping) (n : ℕ) (h : Mix) (a b : List ℕ) (x : List ℕ × List ℕ) (t : Bool) → Shares one s → IsPlainShape s → Shares (params_walk one n) (params_shape s n) → begins 0x41 a ≡ t → (if t then marked_walk one n (drop 1 a) b else onward one (params_walk one n) a b) ≡ Some x → IsShared (params_shape s (suc n) h a) (params_shape s (suc n) h b) x
unfolding marked_walk
param_by one s n h a b x true step plain others is e = marked_by one s n h a b x (begins 0x41 b) step is refl e
param_by one s n h a b x false step plain others is e = plain_by one s n h a b x plain is (onward_shares one (params_walk one n) s (params_shape s n) step others h a b x e)

params_shares : (one : Walk) (s : Shaping) (n : ℕ) → Shares one s → IsPlainShape s → Shares (params_walk one n) (params_shape s n)
unfolding params_walk params_shape
params_shares one s zero step plain h a b x e = same_shares h a b x e
params_shares one s (suc n) step plain h a b x e = param_by one s n h a b x (begins 0x41 a) step plain (params_shares one s n step plain) refl e

method_shares : (one : Walk) (s : Shaping) → Shares one s → IsPlainShape s → Shares (method_walk one) (method_shape s)
unfolding method_walk method_shape parts_walk parts_shape
method_shares one s step plain =
    onward_shares calling_walk (upon_alike number_in (λ n. onward one (params_walk one n))) calling_shape (upon_shape number_in (λ n. in_turn s (params_shape s n))) calling_shares
    (upon_shares number_in (λ n. onward one (params_walk one n)) (λ n. in_turn s (params_shape s n)) (λ n. onward_shares one (params_walk one n) s (params_shape s n) step (params_shares one s n step plain)))

formed_shares : (same : Token → Token → Bool) (key : Token → Mix) (f : TypeForm) (one : Walk) (s : Shaping) → HaveOneKey same key → Shares one s → IsPlainShape s → Shares (formed_walk same one f) (formed_shape key s f)
unfolding formed_walk formed_shape
formed_shares same key form.Bare one s keys step plain = same_shares
formed_shares same key form.Wrapped one s keys step plain = step
formed_shares same key form.Named one s keys step plain = token_shares same key keys
formed_shares same key form.Modified one s keys step plain = modified_shares same key one s keys step
formed_shares same key form.Numbered one s keys step plain = number_shares number_in
formed_shares same key form.Array one s keys step plain = array_shares one s step
formed_shares same key form.Instance one s keys step plain = instance_shares same key one s keys step
formed_shares same key form.Pointer one s keys step plain = method_shares one s step plain

no_sentinel : (key : Token → Mix) (s : Shaping) (b : ℕ) (h : Mix) (rest : List ℕ) (p : Mix × List ℕ) (t : Bool) → option_and_then {T = TypeForm} (λ f. formed_shape key s f h rest) (form_of b) ≡ Some p → b == 0x41 ≡ t → t ≡ false
unfolding form_of
no_sentinel key s b h rest p false e f = refl
no_sentinel key s b h rest p true e f =
    let g = subst (λ (n : ℕ). option_and_then {T = TypeForm} (λ f. formed_shape key s f h rest) (form_of n) ≡ Some p) (eqb-true b 0x41 f) e in
    absurd (cc)

elem_plain : (key : Token → Mix) (depth : ℕ) → IsPlainShape (elem_shape key depth)
unfolding elem_shape
elem_plain key zero h bytes p e = absurd (cc)
elem_plain key (suc depth) h [] p e = absurd (cc)
elem_plain key (suc depth) h (b ∷ rest) p e = no_sentinel key (elem_shape key depth) b (mixed h b) rest p (b == 0x41) e refl

opened_shares : (same : Token → Token → Bool) (key : Token → Mix) (o : Option TypeForm) (one : Walk) (s : Shaping) (h : Mix) (a b : List ℕ) (x : List ℕ × List ℕ) → HaveOneKey same key → Shares one s → IsPlainShape s → option_and_then {T = TypeForm} (λ f. formed_walk same one f a b) o ≡ Some x → IsShared (option_and_then {T = TypeForm} (λ f. formed_shape key s f h a) o) (option_and_then {T = TypeForm} (λ f. formed_shape key s f h b) o) x
opened_shares same key None one s h a b x keys step plain e = absurd (cc)
opened_shares same key (Some f) one s h a b x keys step plain e = formed_shares same key f one s keys step plain h a b x e

elem_tests : (same : Token → Token → Bool) (key : Token → Mix) (one : Walk) (s : Shaping) (h : Mix) (n m : ℕ) (a b : List ℕ) (x : List ℕ × List ℕ) (t : Bool) → HaveOneKey same key → Shares one s → IsPlainShape s → n == m ≡ t → (if t then option_and_then {T = TypeForm} (λ f. formed_walk same one f a b) (form_of n) else None) ≡ Some x → IsShared (option_and_then {T = TypeForm} (λ f. formed_shape key s f (mixed h n) a) (form_of n)) (option_and_then {T = TypeForm} (λ f. formed_shape key s f (mixed h m) b) (form_of m)) x
elem_tests same key one s h n m a b x false keys step plain is e = absurd (cc)
elem_tests same key one s h n m a b x true keys step plain is e =
    let P : ℕ → Type 0 = λ k. IsShared (option_and_then {T = TypeForm} (λ f. formed_shape key s f (mixed h n) a) (form_of n)) (option_and_then {T = TypeForm} (λ f. formed_shape key s f (mixed h k) b) (form_of k)) x in
    subst P (eqb-true n m is) (opened_shares same key (form_of n) one s (mixed h n) a b x keys step plain e)

elem_shares : (same : Token → Token → Bool) (key : Token → Mix) (depth : ℕ) → HaveOneKey same key → Shares (elem_walk same depth) (elem_shape key depth)
unfolding elem_walk elem_shape
elem_shares same key zero keys h a b x e = absurd (cc)
elem_shares same key (suc depth) keys h [] b x e = absurd (cc)
elem_shares same key (suc depth) keys h (n ∷ a) [] x e = absurd (cc)
elem_shares same key (suc depth) keys h (n ∷ a) (m ∷ b) x e = elem_tests same key (elem_walk same depth) (elem_shape key depth) h n m a b x (n == m) keys (elem_shares same key depth keys) (elem_plain key depth) refl e

type_shares : (same : Token → Token → Bool) (key : Token → Mix) → HaveOneKey same key → Shares (type_walk same) (type_shape key)
unfolding type_walk type_shape
type_shares same key keys = elem_shares same key 100 keys

type_plain : (key : Token → Mix) → IsPlainShape (type_shape key)
unfolding type_shape
type_plain key = elem_plain key 100

tagged_shares : (test : ℕ → Bool) (walk : Walk) (s : Shaping) → Shares walk s → Shares (onward (alike_alone (byte_in test)) walk) (in_turn (number_shape (byte_in test)) s)
tagged_shares test walk s step = onward_shares (alike_alone (byte_in test)) walk (number_shape (byte_in test)) s (number_shares (byte_in test)) step

accessed_shares : (one : Walk) (s : Shaping) → Shares one s → Shares (accessed_walk one) (accessed_shape s)
unfolding accessed_walk accessed_shape
accessed_shares one s step = upon_shares number_in (λ n. onward one (many_walk one n)) (λ n. in_turn s (many_shape s n)) (λ n. onward_shares one (many_walk one n) s (many_shape s n) step (many_shares one s n step))

front_shares : (same : Token → Token → Bool) (key : Token → Mix) (kind : SigKind) → HaveOneKey same key → Shares (front_walk same kind) (front_shape key kind)
unfolding front_walk front_shape
front_shares same key Method keys = method_shares (type_walk same) (type_shape key) (type_shares same key keys) (type_plain key)
front_shares same key Field keys = tagged_shares (λ b. b == 0x06) (type_walk same) (type_shape key) (type_shares same key keys)
front_shares same key Locals keys = tagged_shares (λ b. b == 0x07) (counted_walk (type_walk same)) (counted_shape (type_shape key)) (counted_shares (type_walk same) (type_shape key) (type_shares same key keys))
front_shares same key Property keys = tagged_shares (λ b. b == 0x08 || b == 0x28) (accessed_walk (type_walk same)) (accessed_shape (type_shape key)) (accessed_shares (type_walk same) (type_shape key) (type_shares same key keys))
front_shares same key TypeSpec keys = type_shares same key keys
front_shares same key MethodSpec keys = tagged_shares (λ b. b == 0x0A) (counted_walk (type_walk same)) (counted_shape (type_shape key)) (counted_shares (type_walk same) (type_shape key) (type_shares same key keys))

-- where both end, what was mixed is the shape of both
read_whole : (k : Mix) (x : List ℕ × List ℕ) (a b : List ℕ) → (is_empty x.0 && is_empty x.1) ≡ true → mixed_of a (Some (k, x.0)) ≡ mixed_of b (Some (k, x.1))
read_whole k x a b e = rw (both_left (is_empty x.0) (is_empty x.1) e, both_right (is_empty x.0) (is_empty x.1) e) refl

end_by : (same : Token → Token → Bool) (key : Token → Mix) (kind : SigKind) (a b : List ℕ) (o : Option (List ℕ × List ℕ)) → HaveOneKey same key → front_walk same kind a b ≡ o → both_end o ≡ true → sig_shape key kind a ≡ sig_shape key kind b
unfolding sig_shape
end_by same key kind a b None keys is e = absurd (cc)
end_by same key kind a b (Some x) keys is e =
    let f = front_shares same key kind keys (mix_of 0) a b x is in
    let ends = read_whole f.0 x a b e in
    ap (mixed_of a) f.1 ∙ ends ∙ sym (ap (mixed_of b) f.2)

pub alike_have_one_shape : AlikeHaveOneShape
alike_have_one_shape same key kind a b keys e = end_by same key kind a b (front_walk same kind a b) keys refl (sigs_agreed same kind a b ∙ e)
