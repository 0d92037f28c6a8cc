-- Types that are equal but for tokens: where tokens go back and on, so do they.
use Rattle.std.proofs.Common.{◌≡◌, ℕ, Bool, true, List, Option, Some, None, refl, sym, ap, ◌∙◌, inl, inr, arith}
use Rattle.std.specs.Prelude.{◌&&◌, ◌==◌}
use Rattle.std.proofs.lemmas.Bool.{or_cases, or_left, or_right, and_parts, and_from, eqb-true, eq-eqb}
use Rattle.std.proofs.lemmas.Bool.Decides.{nat_tests}
use Rattle.enc_base.specs.Token.{is_token}
use Rattle.enc_base.specs.declared.token.Token.{Token}
use Rattle.enc_plain.proofs.Applied.{same_is}
use Rattle.enc_sigs.specs.declared.kind.SigKind.{SigKind}
use Rattle.enc_sigs.specs.Tree.{Forest, none, more, SigTree, forest_of}
use Rattle.enc_sigs.specs.Grammar.{is_coded, sig_in}
use Rattle.enc_sigs.specs.Agree.{tokens_agree, forests_agree, sig_trees_agree, if_both, sigs_agree}

pub itself : (t : Token) → is_token t t ≡ true
itself t = grind (arith, nat_tests)

-- each token of these is as told
pub Each : (Token → Type 0) → Forest → Type 0
Each P none = Unit {0}
Each P (more e t n k r) = (P t) × (Each P k) × (Each P r)

pub each_none : (P : Token → Type 0) → Each P none
unfolding Each
each_none P = tt

pub each_more : (P : Token → Type 0) (e : ℕ) (t : Token) (n : ℕ) (k r : Forest) → P t → Each P k → Each P r → Each P (more e t n k r)
unfolding Each
each_more P e t n k r here within others = (here, within, others)

pub each_parts : (P : Token → Type 0) (e : ℕ) (t : Token) (n : ℕ) (k r : Forest) → Each P (more e t n k r) → (P t) × (Each P k) × (Each P r)
unfolding Each
each_parts P e t n k r h = h

pub each_as : (P Q : Token → Type 0) (f : Forest) → ((t : Token) → P t → Q t) → Each P f → Each Q f
unfolding Each
each_as P Q none f h = tt
each_as P Q (more e t n k r) f h = (f t h.0, each_as P Q k f h.1, each_as P Q r f h.2)

pub each_both : (P Q R : Token → Type 0) (f : Forest) → ((t : Token) → P t → Q t → R t) → Each P f → Each Q f → Each R f
unfolding Each
each_both P Q R none f p q = tt
each_both P Q R (more e t n k r) f p q = (f t p.0 q.0, each_both P Q R k f p.1 q.1, each_both P Q R r f p.2 q.2)

-- what two types that agree have alike
record TypesAgree (same : Token → Token → Bool) (e : ℕ) (t : Token) (n : ℕ) (k r : Forest) (f : ℕ) (u : Token) (m : ℕ) (l s : Forest) : Type 0 where
  element : e ≡ f
  token : tokens_agree same t u ≡ true
  number : n ≡ m
  kids : forests_agree same k l ≡ true
  others : forests_agree same r s ≡ true

types_parts : (same : Token → Token → Bool) (e : ℕ) (t : Token) (n : ℕ) (k r : Forest) (f : ℕ) (u : Token) (m : ℕ) (l s : Forest)
    → forests_agree same (more e t n k r) (more f u m l s) ≡ true → TypesAgree same e t n k r f u m l s
unfolding forests_agree
types_parts same e t n k r f u m l s h =
    let a = and_parts (e == f && tokens_agree same t u && n == m && forests_agree same k l) (forests_agree same r s) h in
    let b = and_parts (e == f && tokens_agree same t u && n == m) (forests_agree same k l) a.0 in
    let c = and_parts (e == f && tokens_agree same t u) (n == m) b.0 in
    let d = and_parts (e == f) (tokens_agree same t u) c.0 in
    record { element = eqb-true e f d.0; token = d.1; number = eqb-true n m c.1; kids = b.1; others = a.1 }

types_whole : (same : Token → Token → Bool) (e : ℕ) (t : Token) (n : ℕ) (k r : Forest) (f : ℕ) (u : Token) (m : ℕ) (l s : Forest)
    → TypesAgree same e t n k r f u m l s → forests_agree same (more e t n k r) (more f u m l s) ≡ true
unfolding forests_agree
types_whole same e t n k r f u m l s h =
    and_from (e == f && tokens_agree same t u && n == m && forests_agree same k l) (forests_agree same r s)
    (and_from (e == f && tokens_agree same t u && n == m) (forests_agree same k l)
    (and_from (e == f && tokens_agree same t u) (n == m) (and_from (e == f) (tokens_agree same t u) (eq-eqb e f h.element) h.token) (eq-eqb n m h.number))
    h.kids) h.others

-- where alike tokens are, those that agree are
abbrev pub GoesBack : (Token → Token → Bool) → Type 0
GoesBack same = (t u : Token) → same t u ≡ true → same u t ≡ true

abbrev pub GoesOn : (Token → Token → Bool) → Type 0
GoesOn same = (t u v : Token) → same t u ≡ true → same u v ≡ true → same t v ≡ true

tokens_back : (same : Token → Token → Bool) (t u : Token) → GoesBack same → tokens_agree same t u ≡ true → tokens_agree same u t ≡ true
tokens_back same t u back h =
    elim (or_cases (is_token t u) (same t u) h) [
      | inl is ↦ rw (same_is t u is) (or_left (is_token u u) (same u u) (itself u))
      | inr alike ↦ or_right (is_token u t) (same u t) (back t u alike)
    ]

tokens_from : (same : Token → Token → Bool) (t u v : Token) → GoesOn same → same t u ≡ true → tokens_agree same u v ≡ true → tokens_agree same t v ≡ true
tokens_from same t u v on a h =
    elim (or_cases (is_token u v) (same u v) h) [
      | inl is ↦ rw (← same_is u v is) (or_right (is_token t u) (same t u) a)
      | inr alike ↦ or_right (is_token t v) (same t v) (on t u v a alike)
    ]

tokens_on : (same : Token → Token → Bool) (t u v : Token) → GoesOn same → tokens_agree same t u ≡ true → tokens_agree same u v ≡ true
    → tokens_agree same t v ≡ true
tokens_on same t u v on h i =
    elim (or_cases (is_token t u) (same t u) h) [
      | inl is ↦ rw (same_is t u is) i
      | inr alike ↦ tokens_from same t u v on alike i
    ]

forests_back : (same : Token → Token → Bool) (f g : Forest) → GoesBack same → forests_agree same f g ≡ true → forests_agree same g f ≡ true
unfolding forests_agree
forests_back same none none back h = refl
forests_back same none (more f u m l s) back h = absurd cc
forests_back same (more e t n k r) none back h = absurd cc
forests_back same (more e t n k r) (more f u m l s) back h =
    let p = types_parts same e t n k r f u m l s h in
    types_whole same f u m l s e t n k r (record {
      element = sym p.element;
      token = tokens_back same t u back p.token;
      number = sym p.number;
      kids = forests_back same k l back p.kids;
      others = forests_back same r s back p.others;
    })

forests_on : (same : Token → Token → Bool) (f g h : Forest) → GoesOn same → forests_agree same f g ≡ true → forests_agree same g h ≡ true
    → forests_agree same f h ≡ true
unfolding forests_agree
forests_on same none none h on a b = b
forests_on same none (more f u m l s) h on a b = absurd cc
forests_on same (more e t n k r) none h on a b = absurd cc
forests_on same (more e t n k r) (more f u m l s) none on a b = absurd cc
forests_on same (more e t n k r) (more f u m l s) (more d v o i q) on a b =
    let p = types_parts same e t n k r f u m l s a in
    let w = types_parts same f u m l s d v o i q b in
    types_whole same e t n k r d v o i q (record {
      element = p.element ∙ w.element;
      token = tokens_on same t u v on p.token w.token;
      number = p.number ∙ w.number;
      kids = forests_on same k l i on p.kids w.kids;
      others = forests_on same r s q on p.others w.others;
    })

-- tokens that agree by one relation agree by another
abbrev pub Swaps : (Token → Type 0) → (Token → Token → Bool) → (Token → Token → Bool) → Type 0
Swaps P same other = (t u : Token) → P t → P u → same t u ≡ true → other t u ≡ true

tokens_swap : (P : Token → Type 0) (same other : Token → Token → Bool) (t u : Token) → Swaps P same other → P t → P u → tokens_agree same t u ≡ true
    → tokens_agree other t u ≡ true
tokens_swap P same other t u swaps p q h =
    elim (or_cases (is_token t u) (same t u) h) [
      | inl is ↦ or_left (is_token t u) (other t u) is
      | inr alike ↦ or_right (is_token t u) (other t u) (swaps t u p q alike)
    ]

forests_swap : (P : Token → Type 0) (same other : Token → Token → Bool) (f g : Forest) → Swaps P same other → Each P f → Each P g
    → forests_agree same f g ≡ true → forests_agree other f g ≡ true
unfolding forests_agree
forests_swap P same other none none swaps p q h = refl
forests_swap P same other none (more f u m l s) swaps p q h = absurd cc
forests_swap P same other (more e t n k r) none swaps p q h = absurd cc
forests_swap P same other (more e t n k r) (more f u m l s) swaps p q h =
    let a = types_parts same e t n k r f u m l s h in
    let x = each_parts P e t n k r p in
    let y = each_parts P f u m l s q in
    types_whole other e t n k r f u m l s (record {
      element = a.element;
      token = tokens_swap P same other t u swaps x.0 y.0 a.token;
      number = a.number;
      kids = forests_swap P same other k l swaps x.1 y.1 a.kids;
      others = forests_swap P same other r s swaps x.2 y.2 a.others;
    })

-- what is told of a token is told of those that are alike it
abbrev pub Carries : (Token → Type 0) → (Token → Type 0) → (Token → Token → Bool) → Type 0
Carries P Q same = (t u : Token) → same t u ≡ true → P t → Q u → Q t

tokens_carry : (P Q : Token → Type 0) (same : Token → Token → Bool) (t u : Token) → Carries P Q same → tokens_agree same t u ≡ true → P t → Q u → Q t
tokens_carry P Q same t u carries h p q =
    elim (or_cases (is_token t u) (same t u) h) [
      | inl is ↦ rw (same_is t u is) q
      | inr alike ↦ carries t u alike p q
    ]

forests_carry : (P Q : Token → Type 0) (same : Token → Token → Bool) (f g : Forest) → Carries P Q same → forests_agree same f g ≡ true → Each P f → Each Q g
    → Each Q f
unfolding forests_agree
forests_carry P Q same none g carries h p q = each_none Q
forests_carry P Q same (more e t n k r) none carries h p q = absurd cc
forests_carry P Q same (more e t n k r) (more f u m l s) carries h p q =
    let a = types_parts same e t n k r f u m l s h in
    let x = each_parts P e t n k r p in
    let y = each_parts Q f u m l s q in
    each_more Q e t n k r (tokens_carry P Q same t u carries a.token x.0 y.0) (forests_carry P Q same k l carries a.kids x.1 y.1)
    (forests_carry P Q same r s carries a.others x.2 y.2)

-- signatures that agree: what each reads as
pub record Agree (same : Token → Token → Bool) (kind : SigKind) (a b : List ℕ) : Type 0 where
  pub first : SigTree
  pub second : SigTree
  pub reads : sig_in is_coded kind a ≡ Some first
  pub too : sig_in is_coded kind b ≡ Some second
  pub kinds : first.kind ≡ second.kind
  pub generics : first.generics ≡ second.generics
  pub parts : forests_agree same (forest_of first.parts) (forest_of second.parts) ≡ true

there : (same : Token → Token → Bool) (kind : SigKind) (a b : List ℕ) (o p : Option SigTree) → sig_in is_coded kind a ≡ o → sig_in is_coded kind b ≡ p
    → if_both (sig_trees_agree same) o p ≡ true → Agree same kind a b
there same kind a b None p x y h = absurd cc
there same kind a b (Some s) None x y h = absurd cc
there same kind a b (Some s) (Some t) x y h =
    let f = and_parts (s.kind == t.kind && s.generics == t.generics) (forests_agree same (forest_of s.parts) (forest_of t.parts)) h in
    let g = and_parts (s.kind == t.kind) (s.generics == t.generics) f.0 in
    record {
      first = s;
      second = t;
      reads = x;
      too = y;
      kinds = eqb-true s.kind t.kind g.0;
      generics = eqb-true s.generics t.generics g.1;
      parts = f.1;
    }

pub agree_parts : (same : Token → Token → Bool) (kind : SigKind) (a b : List ℕ) → sigs_agree same kind a b ≡ true → Agree same kind a b
unfolding sigs_agree
agree_parts same kind a b h = there same kind a b (sig_in is_coded kind a) (sig_in is_coded kind b) refl refl h

pub agree_whole : (same : Token → Token → Bool) (kind : SigKind) (a b : List ℕ) → Agree same kind a b → sigs_agree same kind a b ≡ true
unfolding sigs_agree
agree_whole same kind a b w =
    rw (w.reads, w.too)
    (and_from (w.first.kind == w.second.kind && w.first.generics == w.second.generics) (forests_agree same (forest_of w.first.parts) (forest_of w.second.parts))
    (and_from (w.first.kind == w.second.kind) (w.first.generics == w.second.generics) (eq-eqb w.first.kind w.second.kind w.kinds)
    (eq-eqb w.first.generics w.second.generics w.generics)) w.parts)

pub agree_back : (same : Token → Token → Bool) (kind : SigKind) (a b : List ℕ) → GoesBack same → Agree same kind a b → Agree same kind b a
agree_back same kind a b back w = record {
  first = w.second;
  second = w.first;
  reads = w.too;
  too = w.reads;
  kinds = sym w.kinds;
  generics = sym w.generics;
  parts = forests_back same (forest_of w.first.parts) (forest_of w.second.parts) back w.parts;
}

one : (s t : SigTree) → Some s ≡ Some t → s ≡ t
one s t e = cc

pub agree_on : (same : Token → Token → Bool) (kind : SigKind) (a b c : List ℕ) → GoesOn same → Agree same kind a b → Agree same kind b c → Agree same kind a c
agree_on same kind a b c on v w =
    let e : v.second ≡ w.first = one v.second w.first (sym v.too ∙ w.reads) in
    record {
      first = v.first;
      second = w.second;
      reads = v.reads;
      too = w.too;
      kinds = v.kinds ∙ ap (λ (s : SigTree). s.kind) e ∙ w.kinds;
      generics = v.generics ∙ ap (λ (s : SigTree). s.generics) e ∙ w.generics;
      parts = forests_on same (forest_of v.first.parts) (forest_of v.second.parts) (forest_of w.second.parts) on v.parts (rw (← e) at w.parts);
    }

-- each token of the signature that a blob spells is as told
pub record EachOf (P : Token → Type 0) (kind : SigKind) (blob : List ℕ) : Type 0 where
  pub each : (s : SigTree) → sig_in is_coded kind blob ≡ Some s → Each P (forest_of s.parts)

pub agree_swap : (P : Token → Type 0) (same other : Token → Token → Bool) (kind : SigKind) (a b : List ℕ) → Swaps P same other → EachOf P kind a
    → EachOf P kind b → Agree same kind a b → Agree other kind a b
agree_swap P same other kind a b swaps p q w = record {
  first = w.first;
  second = w.second;
  reads = w.reads;
  too = w.too;
  kinds = w.kinds;
  generics = w.generics;
  parts = forests_swap P same other (forest_of w.first.parts) (forest_of w.second.parts) swaps (p.each w.first w.reads) (q.each w.second w.too) w.parts;
}

pub agree_carry : (P Q : Token → Type 0) (same : Token → Token → Bool) (kind : SigKind) (a b : List ℕ) → Carries P Q same → Agree same kind a b
    → EachOf P kind a → EachOf Q kind b → EachOf Q kind a
agree_carry P Q same kind a b carries w p q = record {
  each = λ s e. rw (one s w.first (sym e ∙ w.reads))
      (forests_carry P Q same (forest_of w.first.parts) (forest_of w.second.parts) carries w.parts (p.each w.first w.reads) (q.each w.second w.too));
}
