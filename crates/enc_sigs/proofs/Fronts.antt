-- With what the signature of a field and that of locals begin.
use Rattle.std.proofs.Common.{◌≡◌, ℕ, zero, suc, Bool, true, false, List, [], ◌∷◌, drop, Option, Some, None, refl, sym, ap, ◌∙◌, arith}
use Rattle.std.specs.Prelude.{◌==◌, option_map, option_and_then, nat_lt, if◌then◌else◌}
use Rattle.std.proofs.lemmas.Bool.Decides.{nat_tests}
use Rattle.enc_base.specs.Numbers.{compressed}
use Rattle.enc_base.specs.declared.token.Token.{Token}
use Rattle.enc_sigs.specs.declared.kind.SigKind.TheVariants.{Field, Locals}
use Rattle.enc_sigs.specs.declared.type_form.TypeForm.{TypeForm}
use Rattle.enc_sigs.specs.declared.type_form.TypeForm.TheVariants as form
use Rattle.enc_sigs.specs.Tree.{Tree, SigTree}
use Rattle.enc_sigs.specs.Grammar.{list_in, tree, byte_in, is_coded, token_named, token_in, named_in, form_of, formed_in, elem_in, type_in, front_in, unless_more, all_of, sig_in}
use Rattle.enc_base.specs.Readers.{Reader, both, number_in}
use Rattle.enc_sigs.proofs.Agreed.{formed_element}

-- a token's number is spelled at the front
pub record NumberAt (rest : List ℕ) (t : Token) : Type 0 where
  pub number : ℕ
  pub size : ℕ
  pub spelled : compressed rest ≡ Some (number, size)
  pub coded : is_coded number ≡ true
  pub token : t ≡ token_named number

-- a type: its first byte, and the token behind 11
pub record TypeAt (bytes : List ℕ) (x : Tree) : Type 0 where
  pub element : ℕ
  pub rest : List ℕ
  pub begins : bytes ≡ element ∷ rest
  pub is : x.element ≡ element
  pub named : element ≡ 0x11 → NumberAt rest x.token

-- a type that was read: its first byte, the token behind 11, and what stands behind it
pub record TypeRead (good : ℕ → Bool) (bytes : List ℕ) (x : Tree) (behind : List ℕ) : Type 0 where
  pub element : ℕ
  pub rest : List ℕ
  pub begins : bytes ≡ element ∷ rest
  pub is : x.element ≡ element
  pub named : element ≡ 0x11 → token_in good rest ≡ Some (x.token, behind)

-- the signature of a field that was read: 06 and a type
pub record FieldRead (good : ℕ → Bool) (bytes : List ℕ) (x : SigTree) : Type 0 where
  pub rest : List ℕ
  pub tree : Tree
  pub begins : bytes ≡ 0x06 ∷ rest
  pub parts : x.parts ≡ tree ∷ []
  pub type : TypeRead good rest tree []

-- the signature of a field: 06 and a type
pub record FieldAt (bytes : List ℕ) (x : SigTree) : Type 0 where
  pub rest : List ℕ
  pub tree : Tree
  pub begins : bytes ≡ 0x06 ∷ rest
  pub parts : x.parts ≡ tree ∷ []
  pub type : TypeAt rest tree

-- what is read, with what stands behind it
abbrev pub read : {A : Type 0} → A → List ℕ → Option (A × List ℕ)
read x rest = Some (x, rest)

by_rest : {A : Type 0} (y : A) (rest : List ℕ) (x : A) → unless_more y rest ≡ Some x → read y rest ≡ read x []
by_rest {A} y [] x h = let is : y ≡ x = cc in ap (λ (z : A). read z []) is
by_rest y (b ∷ rest) x h = absurd cc

pub whole : {A : Type 0} (o : Option (A × List ℕ)) (x : A) → all_of o ≡ Some x → o ≡ read x []
whole None x h = absurd cc
whole (Some p) x h = by_rest p.0 p.1 x h

pub given_by : {A B : Type 0} (f : A → B) (o : Option (A × List ℕ)) (y : B) (rest : List ℕ)
    → option_map {T = A × List ℕ} {U = B × List ℕ} (λ p. (f p.0, p.1)) o ≡ Some (y, rest)
    → (x : A) × (o ≡ read x rest) × (f x ≡ y)
given_by f None y rest h = absurd cc
given_by {A} {B} f (Some p) y rest h =
    let is : (f p.0, p.1) ≡ (y, rest) = cc in
    let second : p.1 ≡ rest = ap (λ (q : B × List ℕ). q.1) is in
    (p.0, ap (λ (r : List ℕ). read p.0 r) second, ap (λ (q : B × List ℕ). q.0) is)

-- the byte and what stands behind it
pub byte_first : (test : ℕ → Bool) (bytes : List ℕ) (p : ℕ × List ℕ) → byte_in test bytes ≡ Some p → (bytes ≡ p.0 ∷ p.1) × (test p.0 ≡ true)
unfolding byte_in
byte_first test [] p h = absurd cc
byte_first test (b ∷ rest) p h = by_test (test b) refl h
  where
    by_test : (t : Bool) → test b ≡ t → (if t then Some (b, rest) else None) ≡ Some p → (b ∷ rest ≡ p.0 ∷ p.1) × (test p.0 ≡ true)
    by_test true is h =
        let e : (b, rest) ≡ p = cc in
        (ap (λ (q : ℕ × List ℕ). q.0 ∷ q.1) e, sym (ap (λ (q : ℕ × List ℕ). test q.0) e) ∙ is)
    by_test false is h = absurd cc

pub both_parts : {A B : Type 0} (o : Option (A × List ℕ)) (s : Reader B) (x : A) (y : B) (rest : List ℕ)
    → option_and_then {T = A × List ℕ} {U = (A × B) × List ℕ}
    (λ p. option_map {T = B × List ℕ} {U = (A × B) × List ℕ} (λ q. ((p.0, q.0), q.1)) (s p.1)) o ≡ Some ((x, y), rest)
    → (mid : List ℕ) × (o ≡ read x mid) × (s mid ≡ read y rest)
both_parts None s x y rest h = absurd cc
both_parts {A} {B} (Some p) s x y rest h =
    let g = given_by {A = B} {B = A × B} (λ (z : B). (p.0, z)) (s p.1) (x, y) rest h in
    let first : p.0 ≡ x = ap (λ (q : A × B). q.0) g.2 in
    let second : g.0 ≡ y = ap (λ (q : A × B). q.1) g.2 in
    (p.1, ap (λ (a : A). read a p.1) first, g.1 ∙ ap (λ (b : B). read b rest) second)

-- the number of a token
number_by : (bytes : List ℕ) (o : Option (ℕ × ℕ)) (p : ℕ × List ℕ)
    → option_and_then (λ (x : ℕ × ℕ). if nat_lt x.0 0x20000000 then Some (x.0, drop x.1 bytes) else None) o ≡ Some p
    → (size : ℕ) × (o ≡ Some (p.0, size))
number_by bytes None p h = absurd cc
number_by bytes (Some x) p h = by_test (nat_lt x.0 0x20000000) h
  where
    by_test : (t : Bool) → (if t then Some (x.0, drop x.1 bytes) else None) ≡ Some p → (size : ℕ) × (Some x ≡ Some (p.0, size))
    by_test true h =
        let e : (x.0, drop x.1 bytes) ≡ p = cc in
        let f : x.0 ≡ p.0 = ap (λ (q : ℕ × List ℕ). q.0) e in
        (x.1, ap (λ (n : ℕ). Some (n, x.1)) f)
    by_test false h = absurd cc

number_first : (bytes : List ℕ) (p : ℕ × List ℕ) → number_in bytes ≡ Some p → (size : ℕ) × (compressed bytes ≡ Some (p.0, size))
unfolding number_in
number_first bytes p h = number_by bytes (compressed bytes) p h

token_by : (bytes : List ℕ) (o : Option (ℕ × List ℕ)) (t : Token) (rest : List ℕ)
    → ((p : ℕ × List ℕ) → o ≡ Some p → (size : ℕ) × (compressed bytes ≡ Some (p.0, size)))
    → option_and_then {U = Token × List ℕ} (λ (p : ℕ × List ℕ). if is_coded p.0 then Some (token_named p.0, p.1) else None) o ≡ Some (t, rest)
    → NumberAt bytes t
token_by bytes None t rest number h = absurd cc
token_by bytes (Some p) t rest number h = by_test (is_coded p.0) refl h
  where
    by_test : (c : Bool) → is_coded p.0 ≡ c → (if c then read (token_named p.0) p.1 else None) ≡ Some (t, rest) → NumberAt bytes t
    by_test true is h =
        let e : (token_named p.0, p.1) ≡ (t, rest) = cc in
        let n = number p refl in
        record { number = p.0; size = n.0; spelled = n.1; coded = is; token = sym (ap (λ (q : Token × List ℕ). q.0) e) }
    by_test false is h = absurd cc

token_first : (bytes : List ℕ) (t : Token) (rest : List ℕ) → token_in is_coded bytes ≡ Some (t, rest) → NumberAt bytes t
unfolding token_in
token_first bytes t rest h = token_by bytes (number_in bytes) t rest (number_first bytes) h

named_first : (good : ℕ → Bool) (b : ℕ) (bytes : List ℕ) (x : Tree) (rest : List ℕ) → named_in good b bytes ≡ Some (x, rest)
    → token_in good bytes ≡ Some (x.token, rest)
unfolding named_in
named_first good b bytes x rest h =
    let g = given_by (λ t. tree b t 0 []) (token_in good bytes) x rest h in
    let e : g.0 ≡ x.token = ap (λ (y : Tree). y.token) g.2 in
    rw (← e) g.1

named_form : (b : ℕ) (f : TypeForm) → b ≡ 0x11 → form_of b ≡ Some f → f ≡ form.Named
unfolding form_of
named_form b f e is = let h = rw e at is in cc

by_form : (good : ℕ → Bool) (r : Reader Tree) (f : TypeForm) (b : ℕ) (bytes : List ℕ) (x : Tree) (rest : List ℕ) → f ≡ form.Named
    → formed_in good r f b bytes ≡ Some (x, rest) → named_in good b bytes ≡ Some (x, rest)
unfolding formed_in
by_form good r f b bytes x rest e h = rw e at h

opened : (good : ℕ → Bool) (r : Reader Tree) (o : Option TypeForm) (b : ℕ) (bytes : List ℕ) (x : Tree) (rest : List ℕ) → form_of b ≡ o
    → option_and_then {T = TypeForm} (λ f. formed_in good r f b bytes) o ≡ Some (x, rest) → TypeRead good (b ∷ bytes) x rest
opened good r None b bytes x rest is h = absurd cc
opened good r (Some f) b bytes x rest is h = record {
  element = b;
  rest = bytes;
  begins = refl;
  is = formed_element good f b r bytes (x, rest) h;
  named = λ e. named_first good b bytes x rest (by_form good r f b bytes x rest (named_form b f e is) h);
}

elem_first : (good : ℕ → Bool) (depth : ℕ) (bytes : List ℕ) (x : Tree) (rest : List ℕ) → elem_in good depth bytes ≡ Some (x, rest)
    → TypeRead good bytes x rest
unfolding elem_in
elem_first good zero bytes x rest h = absurd cc
elem_first good (suc depth) [] x rest h = absurd cc
elem_first good (suc depth) (b ∷ bytes) x rest h = opened good (elem_in good depth) (form_of b) b bytes x rest refl h

pub type_first : (good : ℕ → Bool) (bytes : List ℕ) (x : Tree) (rest : List ℕ) → type_in good bytes ≡ Some (x, rest) → TypeRead good bytes x rest
unfolding type_in
type_first good bytes x rest h = elem_first good 100 bytes x rest h

six : (bytes mid : List ℕ) (b : ℕ) → (bytes ≡ b ∷ mid) × ((b == 0x06) ≡ true) → bytes ≡ 0x06 ∷ mid
six bytes mid b h =
    let e : b ≡ 0x06 = grind (arith, nat_tests, h.1) in
    h.0 ∙ ap (λ n. n ∷ mid) e

pub field_read : (good : ℕ → Bool) (bytes : List ℕ) (x : SigTree) → sig_in good Field bytes ≡ Some x → FieldRead good bytes x
unfolding sig_in front_in
field_read good bytes x h =
    let made : ℕ × Tree → SigTree = λ p. record { form = Field; kind = p.0; generics = 0; parts = p.1 ∷ [] } in
    let g = given_by {A = ℕ × Tree} {B = SigTree} made (both (byte_in (λ b. b == 0x06)) (type_in good) bytes) x [] (whole (front_in good Field bytes) x h) in
    let b = both_parts (byte_in (λ b. b == 0x06) bytes) (type_in good) g.0.0 g.0.1 [] g.1 in
    record {
      rest = b.0;
      tree = g.0.1;
      begins = six bytes b.0 g.0.0 (byte_first (λ b. b == 0x06) bytes (g.0.0, b.0) b.1);
      parts = sym (ap (λ (y : SigTree). y.parts) g.2);
      type = type_first good b.0 g.0.1 [] b.2;
    }

pub field_first : (bytes : List ℕ) (x : SigTree) → sig_in is_coded Field bytes ≡ Some x → FieldAt bytes x
field_first bytes x h =
    let r = field_read is_coded bytes x h in
    let t = r.type in
    record {
      rest = r.rest;
      tree = r.tree;
      begins = r.begins;
      parts = r.parts;
      type = record { element = t.element; rest = t.rest; begins = t.begins; is = t.is; named = λ e. token_first t.rest r.tree.token [] (t.named e) };
    }

-- that of locals begins with 07
pub locals_first : (bytes : List ℕ) (x : SigTree) → sig_in is_coded Locals bytes ≡ Some x
    → (b : ℕ) × (rest : List ℕ) × (bytes ≡ b ∷ rest) × ((b == 0x07) ≡ true)
unfolding sig_in front_in
locals_first bytes x h =
    let made : ℕ × List Tree → SigTree = λ p. record { form = Locals; kind = p.0; generics = 0; parts = p.1 } in
    let all = both (byte_in (λ b. b == 0x07)) (list_in (type_in is_coded)) bytes in
    let g = given_by {A = ℕ × List Tree} {B = SigTree} made all x [] (whole (front_in is_coded Locals bytes) x h) in
    let b = both_parts (byte_in (λ b. b == 0x07) bytes) (list_in (type_in is_coded)) g.0.0 g.0.1 [] g.1 in
    let f = byte_first (λ b. b == 0x07) bytes (g.0.0, b.0) b.1 in
    (g.0.0, b.0, f.0, f.1)
