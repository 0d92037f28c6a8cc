-- The types of a signature that is read: each token has a number that the test lets through, or is nil, and few types stand in one.
use Rattle.std.proofs.Common.{◌≡◌, ℕ, zero, suc, ◌<◌, Bool, true, false, cond, List, [], ◌∷◌, length, drop, Option, Some, None, refl, subst, arith}
use Rattle.std.specs.Prelude.{◌==◌, ◌||◌, option_map, option_and_then, if◌then◌else◌}
use Rattle.enc_base.specs.Token.{nil}
use Rattle.enc_base.specs.Readers.{Reader, giving, both, number_in}
use Rattle.enc_base.specs.declared.token.Token.{Token}
use Rattle.enc_sigs.specs.declared.kind.SigKind.{SigKind}
use Rattle.enc_sigs.specs.declared.kind.SigKind.TheVariants.{Method, Field, Locals, Property, TypeSpec, MethodSpec}
use Rattle.enc_sigs.specs.declared.type_form.TypeForm.{TypeForm}
use Rattle.enc_sigs.specs.declared.type_form.TypeForm.TheVariants as form
use Rattle.enc_sigs.specs.declared.type_form.Numeral.{Numeral}
use Rattle.enc_sigs.specs.declared.type_form.Numeral.TheVariants.{Size, Bound}
use Rattle.enc_sigs.specs.Tree.{Forest, none, more, Tree, SigTree, forest_of}
use Rattle.enc_sigs.specs.Grammar.{upon, many, list_in, byte_in, token_in, token_named, tree, form_of, wrapped_in, named_in, modified_in, numbered_in, numeral_in, numerals_in, array_in, instance_in, begins, more_in, marked_in, params, calling_in, parts_in, method_in, pointer_in, formed_in, elem_in, type_in, accessed_in, front_in, sig_in}
use Rattle.enc_sigs.proofs.Agreed.{map_known, both_known}
use Rattle.enc_sigs.proofs.Fronts.{whole}
use Rattle.enc_sigs.proofs.Many.{many_length, params_length, number_less}
use Rattle.enc_reference_depth.proofs.Agreeing.{Each, each_none, each_more}

-- all that is read is as told
abbrev pub Reading : {A : Type 0} → (A → Type 0) → Reader A → Type 0
Reading {A} K r = (bytes : List ℕ) (p : A × List ℕ) → r bytes ≡ Some p → K p.0

giving_reads : {A B : Type 0} (K : B → Type 0) (h : A → B) (r : Reader A) → Reading (λ (x : A). K (h x)) r → Reading K (giving h r)
giving_reads K h r each bytes p e = map_known K h (r bytes) p (λ q f. each bytes q f) e

both_reads : {A B : Type 0} (J : A → Type 0) (L : B → Type 0) (r : Reader A) (s : Reader B) → Reading J r → Reading L s
    → Reading (λ (x : A × B). (J x.0) × (L x.1)) (both r s)
both_reads {A} {B} J L r s one two bytes p e =
    both_known (λ (x : A × B). (J x.0) × (L x.1)) s (r bytes) p (λ x rest q f g. (one bytes (x, rest) f, two rest q g)) e

upon_by : {B : Type 0} (K : ℕ × B → Type 0) (s : ℕ → Reader B) (o : Option (ℕ × List ℕ)) (p : (ℕ × B) × List ℕ)
    → ((n : ℕ) (rest : List ℕ) (q : B × List ℕ) → o ≡ Some (n, rest) → s n rest ≡ Some q → K (n, q.0))
    → option_and_then {T = ℕ × List ℕ} (λ p. option_map {T = B × List ℕ} (λ q. ((p.0, q.0), q.1)) (s p.0 p.1)) o ≡ Some p → K p.0
upon_by K s None p is e = absurd cc
upon_by {B} K s (Some n) p is e = map_known K (λ (x : B). (n.0, x)) (s n.0 n.1) p (λ q f. is n.0 n.1 q refl f) e

-- the number of a count is below 2^29
counted_reads : {B : Type 0} (L : ℕ → B → Type 0) (s : ℕ → Reader B) → ((n : ℕ) → n < 0x20000000 → Reading (L n) (s n))
    → Reading (λ (x : ℕ × B). L x.0 x.1) (upon number_in s)
counted_reads {B} L s each bytes p e =
    upon_by (λ (x : ℕ × B). L x.0 x.1) s (number_in bytes) p (λ n rest q f g. each n (number_less bytes (n, rest) f) rest q g) e

any_reads : {A : Type 0} (r : Reader A) → Reading {A = A} (λ x. Unit {0}) r
any_reads r bytes p e = tt

-- each type of these is as told, by its token and what stands in it
pub EachType : (Token → Forest → Type 0) → Forest → Type 0
EachType K none = Unit {0}
EachType K (more e t n k r) = (K t k) × (EachType K k) × (EachType K r)

types_none : (K : Token → Forest → Type 0) → EachType K none
unfolding EachType
types_none K = tt

types_more : (K : Token → Forest → Type 0) (e : ℕ) (t : Token) (n : ℕ) (k r : Forest) → K t k → EachType K k → EachType K r → EachType K (more e t n k r)
unfolding EachType
types_more K e t n k r here within others = (here, within, others)

pub types_parts : (K : Token → Forest → Type 0) (e : ℕ) (t : Token) (n : ℕ) (k r : Forest) → EachType K (more e t n k r)
    → (K t k) × (EachType K k) × (EachType K r)
unfolding EachType
types_parts K e t n k r h = h

-- the token is nil, or has a number that the test lets through
pub data IsRead (good : ℕ → Bool) (t : Token) : Type 0 where
  is_nil : t ≡ nil → IsRead good t
  is_named : (n : ℕ) → good n ≡ true → t ≡ token_named n → IsRead good t

TreeIs : (Token → Forest → Type 0) → Tree → Type 0
TreeIs K t = (K t.token t.kids) × (EachType K t.kids)

-- a list that is read, shorter than so much
record ListIs (K : Token → Forest → Type 0) (most : ℕ) (ts : List Tree) : Type 0 where
  types : EachType K (forest_of ts)
  short : length ts < most

module _ (K : Token → Forest → Type 0) (good : ℕ → Bool) (at : (t : Token) (ts : List Tree) → IsRead good t → length ts < 0x40000000 → K t (forest_of ts)) where
  tree_is : (b : ℕ) (t : Token) (n : ℕ) (ts : List Tree) → IsRead good t → length ts < 0x40000000 → EachType K (forest_of ts) → TreeIs K (tree b t n ts)
  unfolding TreeIs
  tree_is b t n ts is few types = (at t ts is few, types)

  no_trees : EachType K (forest_of [])
  no_trees = types_none K

  trees_more : (t : Tree) (ts : List Tree) → TreeIs K t → EachType K (forest_of ts) → EachType K (forest_of (t ∷ ts))
  unfolding TreeIs
  trees_more t ts here others = types_more K t.element t.token t.number t.kids (forest_of ts) here.0 here.1 others

  one_tree : (t : Tree) → TreeIs K t → EachType K (forest_of (t ∷ []))
  one_tree t here = trees_more t [] here no_trees

  named_by : (o : Option (ℕ × List ℕ)) (p : Token × List ℕ)
      → option_and_then {T = ℕ × List ℕ} (λ p. if good p.0 then Some (token_named p.0, p.1) else None) o ≡ Some p → IsRead good p.0
  named_by None p e = absurd cc
  named_by (Some x) p e = by_test (good x.0) refl e
    where
      by_test : (b : Bool) → good x.0 ≡ b → (if b then Some (token_named x.0, x.1) else None) ≡ Some p → IsRead good p.0
      by_test true is e = let f : (token_named x.0, x.1) ≡ p = cc in subst (λ (q : Token × List ℕ). IsRead good q.0) f (is_named x.0 is refl)
      by_test false is e = absurd cc

  token_reads : Reading (IsRead good) (token_in good)
  unfolding token_in
  token_reads bytes p e = named_by (number_in bytes) p e

  many_reads : (r : Reader Tree) (n : ℕ) → Reading (TreeIs K) r → Reading (λ ts. EachType K (forest_of ts)) (many r n)
  unfolding many
  many_reads r zero each bytes p e = let f : ([], bytes) ≡ p = cc in subst (λ (q : List Tree × List ℕ). EachType K (forest_of q.0)) f no_trees
  many_reads r (suc n) each bytes p e =
      giving_reads (λ ts. EachType K (forest_of ts)) (λ (p : Tree × List Tree). p.0 ∷ p.1) (both r (many r n))
      (λ b q f.
      let w = both_reads (TreeIs K) (λ ts. EachType K (forest_of ts)) r (many r n) each (many_reads r n each) b q f in
      trees_more q.0.0 q.0.1 w.0 w.1) bytes p e

  few_reads : (r : Reader Tree) (n : ℕ) → Reading (TreeIs K) r → n < 0x20000000 → Reading (ListIs K 0x20000000) (many r n)
  few_reads r n each low bytes p e = record { types = many_reads r n each bytes p e; short = rw (many_length r n bytes p e) low }

  list_reads : (r : Reader Tree) → Reading (TreeIs K) r → Reading (ListIs K 0x20000000) (list_in r)
  unfolding list_in
  list_reads r each =
      giving_reads (ListIs K 0x20000000) (λ (p : ℕ × List Tree). p.1) (upon number_in (many r))
      (counted_reads (λ n ts. ListIs K 0x20000000 ts) (many r) (λ n low. few_reads r n each low))

  wrapped_reads : (r : Reader Tree) (b : ℕ) → Reading (TreeIs K) r → Reading (TreeIs K) (wrapped_in r b)
  unfolding wrapped_in
  wrapped_reads r b each =
      giving_reads (TreeIs K) (λ x. tree b nil 0 (x ∷ [])) r
      (λ bytes q f. tree_is b nil 0 (q.0 ∷ []) (is_nil refl) (omega arith) (one_tree q.0 (each bytes q f)))

  named_reads : (b : ℕ) → Reading (TreeIs K) (named_in good b)
  unfolding named_in
  named_reads b =
      giving_reads (TreeIs K) (λ t. tree b t 0 []) (token_in good) (λ bytes q f. tree_is b q.0 0 [] (token_reads bytes q f) (omega arith) no_trees)

  modified_reads : (r : Reader Tree) (b : ℕ) → Reading (TreeIs K) r → Reading (TreeIs K) (modified_in good r b)
  unfolding modified_in
  modified_reads r b each =
      giving_reads (TreeIs K) (λ (p : Token × Tree). tree b p.0 0 (p.1 ∷ [])) (both (token_in good) r)
      (λ bytes q f.
      let w = both_reads (IsRead good) (TreeIs K) (token_in good) r token_reads each bytes q f in
      tree_is b q.0.0 0 (q.0.1 ∷ []) w.0 (omega arith) (one_tree q.0.1 w.1))

  numbered_reads : (b : ℕ) (r : Reader ℕ) → Reading (TreeIs K) (numbered_in b r)
  unfolding numbered_in
  numbered_reads b r = giving_reads (TreeIs K) (λ n. tree b nil n []) r (λ bytes q f. tree_is b nil q.0 [] (is_nil refl) (omega arith) no_trees)

  numerals_reads : (kind : Numeral) → Reading (TreeIs K) (numerals_in kind)
  unfolding numerals_in
  numerals_reads kind =
      giving_reads (TreeIs K) (λ ts. tree 0 nil 0 ts) (list_in (numbered_in 0 (numeral_in kind)))
      (λ bytes q f.
      let w = list_reads (numbered_in 0 (numeral_in kind)) (numbered_reads 0 (numeral_in kind)) bytes q f in
      tree_is 0 nil 0 q.0 (is_nil refl) (omega (arith, w.short)) w.types)

  array_reads : (r : Reader Tree) (b : ℕ) → Reading (TreeIs K) r → Reading (TreeIs K) (array_in r b)
  unfolding array_in
  array_reads r b each =
      let lasts = both (numerals_in Size) (numerals_in Bound) in
      giving_reads (TreeIs K) (λ (p : Tree × (ℕ × (Tree × Tree))). tree b nil p.1.0 (p.0 ∷ p.1.1.0 ∷ p.1.1.1 ∷ [])) (both r (both number_in lasts))
      (λ bytes q f.
      let w = both_reads (TreeIs K) (λ (x : ℕ × (Tree × Tree)). (Unit {0}) × ((TreeIs K x.1.0) × (TreeIs K x.1.1))) r (both number_in lasts) each
      (both_reads (λ (n : ℕ). Unit {0}) (λ (x : Tree × Tree). (TreeIs K x.0) × (TreeIs K x.1)) number_in lasts (any_reads number_in)
      (both_reads (TreeIs K) (TreeIs K) (numerals_in Size) (numerals_in Bound) (numerals_reads Size) (numerals_reads Bound))) bytes q f in
      tree_is b nil q.0.1.0 (q.0.0 ∷ q.0.1.1.0 ∷ q.0.1.1.1 ∷ []) (is_nil refl) (omega arith)
      (trees_more q.0.0 (q.0.1.1.0 ∷ q.0.1.1.1 ∷ []) w.0 (trees_more q.0.1.1.0 (q.0.1.1.1 ∷ []) w.1.1.0 (one_tree q.0.1.1.1 w.1.1.1))))

  instance_reads : (r : Reader Tree) (b : ℕ) → Reading (TreeIs K) r → Reading (TreeIs K) (instance_in good r b)
  unfolding instance_in
  instance_reads r b each =
      let class = byte_in (λ c. c == 0x11 || c == 0x12) in
      giving_reads (TreeIs K) (λ (p : ℕ × (Token × List Tree)). tree b p.1.0 p.0 p.1.1) (both class (both (token_in good) (list_in r)))
      (λ bytes q f.
      let w = both_reads (λ (n : ℕ). Unit {0}) (λ (x : Token × List Tree). (IsRead good x.0) × (ListIs K 0x20000000 x.1)) class (both (token_in good) (list_in r))
      (any_reads class) (both_reads (IsRead good) (ListIs K 0x20000000) (token_in good) (list_in r) token_reads (list_reads r each)) bytes q f in
      tree_is b q.0.1.0 q.0.0 q.0.1.1 w.1.0 (omega (arith, w.1.1.short)) w.1.1.types)

  more_reads : (r : Reader Tree) (v : Reader (List Tree)) → Reading (TreeIs K) r → Reading (λ ts. EachType K (forest_of ts)) v
      → Reading (λ ts. EachType K (forest_of ts)) (more_in r v)
  more_reads r v one two =
      giving_reads (λ ts. EachType K (forest_of ts)) (λ (p : Tree × List Tree). p.0 ∷ p.1) (both r v)
      (λ bytes q f. let w = both_reads (TreeIs K) (λ ts. EachType K (forest_of ts)) r v one two bytes q f in trees_more q.0.0 q.0.1 w.0 w.1)

  marked_reads : (r : Reader Tree) (n : ℕ) → Reading (TreeIs K) r → Reading (λ ts. EachType K (forest_of ts)) (marked_in r n)
  unfolding marked_in
  marked_reads r n each = more_reads (wrapped_in r 0x41) (many r n) (wrapped_reads r 0x41 each) (many_reads r n each)

  by_mark : (b : Bool) (v w : Reader (List Tree)) (x y : List ℕ) (p : List Tree × List ℕ) → Reading (λ ts. EachType K (forest_of ts)) v
      → Reading (λ ts. EachType K (forest_of ts)) w → cond b (v x) (w y) ≡ Some p → EachType K (forest_of p.0)
  by_mark true v w x y p one two e = one x p e
  by_mark false v w x y p one two e = two y p e

  params_reads : (r : Reader Tree) (n : ℕ) → Reading (TreeIs K) r → Reading (λ ts. EachType K (forest_of ts)) (params r n)
  unfolding params
  params_reads r zero each bytes p e = let f : ([], bytes) ≡ p = cc in subst (λ (q : List Tree × List ℕ). EachType K (forest_of q.0)) f no_trees
  params_reads r (suc n) each bytes p e =
      by_mark (begins 0x41 bytes) (marked_in r n) (more_in r (params r n)) (drop 1 bytes) bytes p (marked_reads r n each)
      (more_reads r (params r n) each (params_reads r n each)) e

  behind_count : (r : Reader Tree) (s : ℕ → Reader (List Tree)) → Reading (TreeIs K) r
      → ((n : ℕ) → n < 0x20000000 → Reading (ListIs K 0x20000000) (s n))
      → Reading (ListIs K 0x20000001) (giving (λ (p : ℕ × (Tree × List Tree)). p.1.0 ∷ p.1.1) (upon number_in (λ n. both r (s n))))
  behind_count r s each others =
      giving_reads (ListIs K 0x20000001) (λ (p : ℕ × (Tree × List Tree)). p.1.0 ∷ p.1.1) (upon number_in (λ n. both r (s n)))
      (λ bytes q f.
      let w = counted_reads (λ n (x : Tree × List Tree). (TreeIs K x.0) × (ListIs K 0x20000000 x.1)) (λ n. both r (s n))
      (λ n low. both_reads (TreeIs K) (ListIs K 0x20000000) r (s n) each (others n low)) bytes q f in
      record { types = trees_more q.0.1.0 q.0.1.1 w.0 w.1.types; short = omega (arith, w.1.short) })

  parts_reads : (r : Reader Tree) → Reading (TreeIs K) r → Reading (ListIs K 0x20000001) (parts_in r)
  unfolding parts_in
  parts_reads r each =
      behind_count r (params r) each
      (λ n low bytes p e. record { types = params_reads r n each bytes p e; short = rw (params_length r n bytes p e) low })

  accessed_reads : (r : Reader Tree) → Reading (TreeIs K) r → Reading (ListIs K 0x20000001) (accessed_in r)
  unfolding accessed_in
  accessed_reads r each = behind_count r (many r) each (λ n low. few_reads r n each low)

  method_reads : (r : Reader Tree) → Reading (TreeIs K) r → Reading (λ (p : (ℕ × ℕ) × List Tree). (Unit {0}) × (ListIs K 0x20000001 p.1)) (method_in r)
  unfolding method_in
  method_reads r each = both_reads (λ (x : ℕ × ℕ). Unit {0}) (ListIs K 0x20000001) calling_in (parts_in r) (any_reads calling_in) (parts_reads r each)

  pointer_reads : (r : Reader Tree) (b : ℕ) → Reading (TreeIs K) r → Reading (TreeIs K) (pointer_in r b)
  unfolding pointer_in
  pointer_reads r b each =
      giving_reads (TreeIs K) (λ (p : (ℕ × ℕ) × List Tree). tree b nil p.0.0 (tree 0 nil p.0.1 [] ∷ p.1)) (method_in r)
      (λ bytes q f.
      let w = (method_reads r each bytes q f).1 in
      let first = tree_is 0 nil q.0.0.1 [] (is_nil refl) (omega arith) no_trees in
      tree_is b nil q.0.0.0 (tree 0 nil q.0.0.1 [] ∷ q.0.1) (is_nil refl) (omega (arith, w.short))
      (trees_more (tree 0 nil q.0.0.1 []) q.0.1 first w.types))

  bare_reads : (b : ℕ) → Reading (TreeIs K) (λ bytes. Some (tree b nil 0 [], bytes))
  bare_reads b bytes p e =
      let f : (tree b nil 0 [], bytes) ≡ p = cc in
      subst (λ (q : Tree × List ℕ). TreeIs K q.0) f (tree_is b nil 0 [] (is_nil refl) (omega arith) no_trees)

  formed_reads : (r : Reader Tree) (f : TypeForm) (b : ℕ) → Reading (TreeIs K) r → Reading (TreeIs K) (formed_in good r f b)
  unfolding formed_in
  formed_reads r form.Bare b each = bare_reads b
  formed_reads r form.Wrapped b each = wrapped_reads r b each
  formed_reads r form.Named b each = named_reads b
  formed_reads r form.Modified b each = modified_reads r b each
  formed_reads r form.Numbered b each = numbered_reads b number_in
  formed_reads r form.Array b each = array_reads r b each
  formed_reads r form.Instance b each = instance_reads r b each
  formed_reads r form.Pointer b each = pointer_reads r b each

  opened_reads : (r : Reader Tree) (o : Option TypeForm) (b : ℕ) (rest : List ℕ) (p : Tree × List ℕ) → Reading (TreeIs K) r
      → option_and_then {T = TypeForm} (λ f. formed_in good r f b rest) o ≡ Some p → TreeIs K p.0
  opened_reads r None b rest p each e = absurd cc
  opened_reads r (Some f) b rest p each e = formed_reads r f b each rest p e

  elem_reads : (depth : ℕ) → Reading (TreeIs K) (elem_in good depth)
  unfolding elem_in
  elem_reads zero bytes p e = absurd cc
  elem_reads (suc depth) [] p e = absurd cc
  elem_reads (suc depth) (b ∷ rest) p e = opened_reads (elem_in good depth) (form_of b) b rest p (elem_reads depth) e

  type_reads : Reading (TreeIs K) (type_in good)
  unfolding type_in
  type_reads = elem_reads 100

  tagged_reads : (kind : SigKind) (tag : ℕ → Bool) (r : Reader (List Tree)) (most : ℕ) → Reading (ListIs K most) r
      → Reading {A = SigTree} (λ s. EachType K (forest_of s.parts))
      (giving (λ (p : ℕ × List Tree). record { form = kind; kind = p.0; generics = 0; parts = p.1 }) (both (byte_in tag) r))
  tagged_reads kind tag r most each =
      giving_reads {A = ℕ × List Tree} {B = SigTree} (λ s. EachType K (forest_of s.parts))
      (λ p. record { form = kind; kind = p.0; generics = 0; parts = p.1 }) (both (byte_in tag) r)
      (λ bytes q f. (both_reads (λ (n : ℕ). Unit {0}) (ListIs K most) (byte_in tag) r (any_reads (byte_in tag)) each bytes q f).1.types)

  front_reads : (kind : SigKind) → Reading {A = SigTree} (λ s. EachType K (forest_of s.parts)) (front_in good kind)
  unfolding front_in
  front_reads Method =
      giving_reads {A = (ℕ × ℕ) × List Tree} {B = SigTree} (λ s. EachType K (forest_of s.parts))
      (λ p. record { form = Method; kind = p.0.0; generics = p.0.1; parts = p.1 }) (method_in (type_in good))
      (λ bytes q f. (method_reads (type_in good) type_reads bytes q f).1.types)
  front_reads Field =
      let six = byte_in (λ b. b == 0x06) in
      giving_reads {A = ℕ × Tree} {B = SigTree} (λ s. EachType K (forest_of s.parts))
      (λ p. record { form = Field; kind = p.0; generics = 0; parts = p.1 ∷ [] }) (both six (type_in good))
      (λ bytes q f. one_tree q.0.1 (both_reads (λ (n : ℕ). Unit {0}) (TreeIs K) six (type_in good) (any_reads six) type_reads bytes q f).1)
  front_reads Locals = tagged_reads Locals (λ b. b == 0x07) (list_in (type_in good)) 0x20000000 (list_reads (type_in good) type_reads)
  front_reads Property =
      tagged_reads Property (λ b. b == 0x08 || b == 0x28) (accessed_in (type_in good)) 0x20000001 (accessed_reads (type_in good) type_reads)
  front_reads TypeSpec =
      giving_reads {A = Tree} {B = SigTree} (λ s. EachType K (forest_of s.parts)) (λ t. record { form = TypeSpec; kind = 0; generics = 0; parts = t ∷ [] })
      (type_in good) (λ bytes q f. one_tree q.0 (type_reads bytes q f))
  front_reads MethodSpec = tagged_reads MethodSpec (λ b. b == 0x0A) (list_in (type_in good)) 0x20000000 (list_reads (type_in good) type_reads)

  -- what is told of a type with such a token and few types in it is told of each type of a signature that is read
  pub types_read : (kind : SigKind) (bytes : List ℕ) (s : SigTree) → sig_in good kind bytes ≡ Some s → EachType K (forest_of s.parts)
  unfolding sig_in
  types_read kind bytes s h = front_reads kind bytes (s, []) (whole (front_in good kind bytes) s h)

tokens_told : (P : Token → Type 0) (f : Forest) → EachType (λ t k. P t) f → Each P f
unfolding EachType
tokens_told P none h = each_none P
tokens_told P (more e t n k r) h = each_more P e t n k r h.0 (tokens_told P k h.1) (tokens_told P r h.2)

-- so is what is told of such a token
pub each_read : (P : Token → Type 0) (good : ℕ → Bool) → ((t : Token) → IsRead good t → P t) → (kind : SigKind) (bytes : List ℕ) (s : SigTree)
    → sig_in good kind bytes ≡ Some s → Each P (forest_of s.parts)
each_read P good at kind bytes s h = tokens_told P (forest_of s.parts) (types_read (λ t k. P t) good (λ t ts is few. at t is) kind bytes s h)
