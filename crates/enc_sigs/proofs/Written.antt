-- What is written of a signature reads back as the same tree, and with its tokens moved as the tree with its tokens moved.
use Rattle.std.proofs.Common.{◌≡◌, ℕ, zero, suc, ◌+◌, ◌-◌, ◌*◌, ◌/◌, ◌%◌, ◌<◌, Bool, true, false, not, List, [], ◌∷◌, ◌++◌, length, drop, map, Option, Some, None, refl, sym, ap, subst, ◌∙◌, arith, append-nil}
use Rattle.std.proofs.lemmas.Bool.{eqb-true, ltb-true}
use Rattle.std.specs.Prelude.{◌&&◌, ◌||◌, ◌==◌, nat_lt, nat_le, option_map, option_and_then, if◌then◌else◌}
use Rattle.enc_base.specs.Numbers.{WrittenIsRead, SignedWrittenIsRead, has_flag}
use Rattle.enc_base.specs.Token.{nil}
use Rattle.enc_base.specs.declared.token.Token.{Token}
use Rattle.enc_sigs.specs.declared.kind.SigKind.{SigKind}
use Rattle.enc_sigs.specs.declared.kind.SigKind.TheVariants.{Method, Field, Locals, Property, TypeSpec, MethodSpec}
use Rattle.enc_sigs.specs.declared.type_form.TypeForm.{TypeForm}
use Rattle.enc_sigs.specs.declared.type_form.TypeForm.TheVariants as form
use Rattle.enc_sigs.specs.declared.type_form.Numeral.{Numeral}
use Rattle.enc_sigs.specs.declared.type_form.Numeral.TheVariants.{Size, Bound}
use Rattle.enc_sigs.specs.Tree.{Forest, none, more, Tree, SigTree, trees, forest_of, trees_of}
use Rattle.enc_sigs.specs.Grammar.{upon, given, many, more_in, list_in, tree, numbered_in, numeral_in, numerals_in, byte_in, wrapped_in, named_in, modified_in, array_in, instance_in, pointer_in, method_in, calling_in, generics_in, is_calling, parts_in, params, marked_in, accessed_in, begins, token_in, form_of, formed_in, elem_in, type_in, front_in, all_of, unless_more, sig_in, table_of, token_named, is_coded, NamesTables}
use Rattle.enc_base.specs.Readers.{Reader, giving, both, number_in}
use Rattle.enc_sigs.specs.Spelling.{number_bytes, token_bytes, numeral_bytes, each_numeral, numerals_bytes, joined, counted_bytes, generics_bytes, parts_bytes, array_bytes, pointer_bytes, formed_bytes, spellings, tree_bytes, front_bytes, sig_bytes, token_number}
use Rattle.enc_sigs.specs.Moved.{form_has_token, has_token, forest_moved, tree_moved, sig_moved, all_tokens, GoesTo}
use Rattle.enc_sigs.proofs.Spelled.{length_spellings}
use Rattle.enc_sigs.proofs.MovedTrees.{forest_of_moved, length_moved, less_one, same_sig}
use Rattle.enc_sigs.proofs.Many.{many_length, params_length}
use Rattle.enc_sigs.proofs.Agreed.{IsPlain, elem_plain, map_known, upon_known, both_known, formed_element, first_is_sentinel, marked_first}
use Rattle.enc_sigs.proofs.Back.{Moves, Back, AreMany, Goes, staying, pair_moves, upon_moves, counted_moves, token_moves, giving_back, both_back, upon_back, many_back, counted_back, number_back, signed_back, byte_back, byte_tested, token_back, and_left}

-- what stands behind a first byte of this form
abbrev pub within : TypeForm → Tree → List ℕ
within f t = formed_bytes (Some f) t.token t.number (trees t.kids) (spellings t.kids)

-- types one behind the other
abbrev pub list_bytes : List Tree → List ℕ
list_bytes xs = joined (spellings (forest_of xs))

list_more : (x : Tree) (xs : List Tree) → list_bytes (x ∷ xs) ≡ tree_bytes x ++ list_bytes xs
unfolding spellings tree_bytes
list_more x xs = refl

list_none : list_bytes [] ≡ []
unfolding spellings
list_none = refl

list_one : (x : Tree) → list_bytes (x ∷ []) ≡ tree_bytes x
list_one x = list_more x [] ∙ ap (λ s. tree_bytes x ++ s) list_none ∙ append-nil (tree_bytes x)

-- the tokens of a type, and of types one behind the other, may be moved
abbrev pub tree_may : (Token → Bool) → Tree → Bool
tree_may ok t = (if has_token t.element then ok t.token else true) && all_tokens ok t.kids

abbrev pub list_may : (Token → Bool) → List Tree → Bool
list_may ok xs = all_tokens ok (forest_of xs)

and_true : (a : Bool) → (a && true) ≡ a
and_true true = refl
and_true false = refl

may_none : (ok : Token → Bool) → list_may ok [] ≡ true
unfolding all_tokens
may_none ok = refl

may_more : (ok : Token → Bool) (x : Tree) (xs : List Tree) → list_may ok (x ∷ xs) ≡ (tree_may ok x && list_may ok xs)
unfolding all_tokens
may_more ok x xs = refl

may_one : (ok : Token → Bool) (x : Tree) → list_may ok (x ∷ []) ≡ tree_may ok x
may_one ok x = may_more ok x [] ∙ ap (λ c. tree_may ok x && c) (may_none ok) ∙ and_true (tree_may ok x)

-- types, their tokens moved
abbrev pub tree_moves : (Token → Token) → (Token → Bool) → (Tree → List ℕ) → Moves Tree
tree_moves f ok w = record { may = tree_may ok; to = tree_moved f; bytes = w }

abbrev pub list_moves : (Token → Token) → (Token → Bool) → (List Tree → List ℕ) → Moves (List Tree)
list_moves f ok w = record { may = list_may ok; to = map (tree_moved f); bytes = w }

abbrev pub types : (Token → Token) → (Token → Bool) → Moves Tree
types f ok = tree_moves f ok tree_bytes

abbrev pub lists : (Token → Token) → (Token → Bool) → Moves (List Tree)
lists f ok = list_moves f ok list_bytes

type_lists : (f : Token → Token) (ok : Token → Bool) → AreMany (types f ok) (lists f ok)
type_lists f ok = record {
  none = list_none;
  stays = refl;
  more = λ x. record { may = may_more ok x.0 x.1; to = refl; bytes = list_more (tree_moved f x.0) (map (tree_moved f) x.1) };
}

-- a type with these parts, where no token stands behind its first byte, and where one does
abbrev forested : ℕ → Token → ℕ → Forest → Tree
forested b t n k = record { element = b; token = t; number = n; kids = k }

bare_may : (ok : Token → Bool) (b n : ℕ) (xs : List Tree) → has_token b ≡ false → tree_may ok (tree b nil n xs) ≡ list_may ok xs
bare_may ok b n xs bare = ap (λ c. (if c then ok nil else true) && list_may ok xs) bare

bare_to : (f : Token → Token) (b n : ℕ) (xs : List Tree) → has_token b ≡ false → tree_moved f (tree b nil n xs) ≡ tree b nil n (map (tree_moved f) xs)
bare_to f b n xs bare =
    ap (λ c. forested b (if c then f nil else nil) n (forest_moved f (forest_of xs))) bare
    ∙ ap (λ k. forested b nil n k) (sym (forest_of_moved f xs))

named_may : (ok : Token → Bool) (b : ℕ) (t : Token) (n : ℕ) (xs : List Tree) → has_token b ≡ true → tree_may ok (tree b t n xs) ≡ (ok t && list_may ok xs)
named_may ok b t n xs named = ap (λ c. (if c then ok t else true) && list_may ok xs) named

named_to : (f : Token → Token) (b : ℕ) (t : Token) (n : ℕ) (xs : List Tree) → has_token b ≡ true
    → tree_moved f (tree b t n xs) ≡ tree b (f t) n (map (tree_moved f) xs)
named_to f b t n xs named =
    ap (λ c. forested b (if c then f t else t) n (forest_moved f (forest_of xs))) named
    ∙ ap (λ k. forested b (f t) n k) (sym (forest_of_moved f xs))

-- the element 0 has no token
bare_zero : has_token 0 ≡ false
unfolding has_token form_of
bare_zero = refl

bare_sentinel : has_token 0x41 ≡ false
unfolding has_token form_of
bare_sentinel = refl

lists_back : (f : Token → Token) (ok : Token → Bool) (r s : Reader Tree) (n : ℕ) → Back (types f ok) r s → Back (lists f ok) (many r n) (many s n)
lists_back f ok r s n back = many_back (types f ok) (lists f ok) r s n (type_lists f ok) back

wrapped_back : (f : Token → Token) (ok : Token → Bool) (r s : Reader Tree) (b : ℕ) → has_token b ≡ false → Back (types f ok) r s
    → Back (tree_moves f ok (within form.Wrapped)) (wrapped_in r b) (wrapped_in s b)
unfolding wrapped_in formed_bytes
wrapped_back f ok r s b bare back =
    giving_back (λ x. tree b nil 0 (x ∷ [])) (types f ok) (tree_moves f ok (within form.Wrapped)) r s
    (λ bytes q e. record {
      may = bare_may ok b 0 (q.0 ∷ []) bare ∙ may_one ok q.0;
      to = bare_to f b 0 (q.0 ∷ []) bare;
      bytes = list_one (tree_moved f q.0);
    }) back

named_back : (f : Token → Token) (ok : Token → Bool) (good test : ℕ → Bool) (b : ℕ) → has_token b ≡ true
    → Back (token_moves f ok) (token_in good) (token_in test) → Back (tree_moves f ok (within form.Named)) (named_in good b) (named_in test b)
unfolding named_in formed_bytes
named_back f ok good test b named tokens =
    giving_back (λ t. tree b t 0 []) (token_moves f ok) (tree_moves f ok (within form.Named)) (token_in good) (token_in test)
    (λ bytes q e. record {
      may = named_may ok b q.0 0 [] named ∙ ap (λ c. ok q.0 && c) (may_none ok) ∙ and_true (ok q.0);
      to = named_to f b q.0 0 [] named;
      bytes = refl;
    }) tokens

modified_back : (f : Token → Token) (ok : Token → Bool) (good test : ℕ → Bool) (r s : Reader Tree) (b : ℕ) → has_token b ≡ true
    → Back (token_moves f ok) (token_in good) (token_in test) → Back (types f ok) r s
    → Back (tree_moves f ok (within form.Modified)) (modified_in good r b) (modified_in test s b)
unfolding modified_in formed_bytes
modified_back f ok good test r s b named tokens back =
    giving_back (λ (p : Token × Tree). tree b p.0 0 (p.1 ∷ [])) (pair_moves (token_moves f ok) (types f ok)) (tree_moves f ok (within form.Modified))
    (both (token_in good) r) (both (token_in test) s)
    (λ bytes q e. record {
      may = named_may ok b q.0.0 0 (q.0.1 ∷ []) named ∙ ap (λ c. ok q.0.0 && c) (may_one ok q.0.1);
      to = named_to f b q.0.0 0 (q.0.1 ∷ []) named;
      bytes = ap (λ z. token_bytes (f q.0.0) ++ z) (list_one (tree_moved f q.0.1));
    })
    (both_back (token_moves f ok) (types f ok) (token_in good) (token_in test) r s tokens back)

indexed_back : (f : Token → Token) (ok : Token → Bool) (b : ℕ) (w : ℕ → List ℕ) (v : Tree → List ℕ) (r : Reader ℕ) → has_token b ≡ false
    → ((n : ℕ) → v (tree b nil n []) ≡ w n) → Back (staying w) r r → Back (tree_moves f ok v) (numbered_in b r) (numbered_in b r)
unfolding numbered_in
indexed_back f ok b w v r bare same numbers =
    giving_back (λ n. tree b nil n []) (staying w) (tree_moves f ok v) r r
    (λ bytes q e. record { may = bare_may ok b q.0 [] bare ∙ may_none ok; to = bare_to f b q.0 [] bare; bytes = same q.0 }) numbers

numbered_is : (b n : ℕ) → within form.Numbered (tree b nil n []) ≡ number_bytes n
unfolding formed_bytes
numbered_is b n = refl

numeral_back : (kind : Numeral) → WrittenIsRead → SignedWrittenIsRead → Back (staying (numeral_bytes kind)) (numeral_in kind) (numeral_in kind)
numeral_back Size written signed bytes p rest e may = number_back written bytes p rest e may
numeral_back Bound written signed bytes p rest e may = signed_back signed bytes p rest e may

-- the sizes or the lower bounds of an array
abbrev each : (Token → Token) → (Token → Bool) → Numeral → Moves Tree
each f ok kind = tree_moves f ok (λ (t : Tree). numeral_bytes kind t.number)

abbrev all_each : (Token → Token) → (Token → Bool) → Numeral → Moves (List Tree)
all_each f ok kind = list_moves f ok (each_numeral kind)

each_lists : (f : Token → Token) (ok : Token → Bool) (kind : Numeral) → AreMany (each f ok kind) (all_each f ok kind)
each_lists f ok kind = record { none = refl; stays = refl; more = λ x. record { may = may_more ok x.0 x.1; to = refl; bytes = refl } }

each_back : (f : Token → Token) (ok : Token → Bool) (kind : Numeral) → WrittenIsRead → SignedWrittenIsRead
    → Back (each f ok kind) (numbered_in 0 (numeral_in kind)) (numbered_in 0 (numeral_in kind))
each_back f ok kind written signed =
    indexed_back f ok 0 (numeral_bytes kind) (λ (t : Tree). numeral_bytes kind t.number) (numeral_in kind) bare_zero (λ n. refl)
    (numeral_back kind written signed)

abbrev numerals : (Token → Token) → (Token → Bool) → Numeral → Moves Tree
numerals f ok kind = tree_moves f ok (numerals_bytes kind)

numerals_back : (f : Token → Token) (ok : Token → Bool) (kind : Numeral) → WrittenIsRead → SignedWrittenIsRead
    → Back (numerals f ok kind) (numerals_in kind) (numerals_in kind)
unfolding numerals_in numerals_bytes
numerals_back f ok kind written signed =
    let one = numbered_in 0 (numeral_in kind) in
    giving_back (λ ts. tree 0 nil 0 ts) (counted_moves (all_each f ok kind)) (numerals f ok kind) (list_in one) (list_in one)
    (λ bytes q e. record {
      may = bare_may ok 0 0 q.0 bare_zero;
      to = bare_to f 0 0 q.0 bare_zero;
      bytes = ap (λ xs. number_bytes (length xs) ++ each_numeral kind xs) (trees_of (map (tree_moved f) q.0));
    })
    (counted_back (each f ok kind) (all_each f ok kind) one one (each_lists f ok kind) (number_back written) (each_back f ok kind written signed))

array_is : (b rank : ℕ) (x s d : Tree)
    → within form.Array (tree b nil rank (x ∷ s ∷ d ∷ [])) ≡ tree_bytes x ++ (number_bytes rank ++ (numerals_bytes Size s ++ numerals_bytes Bound d))
unfolding formed_bytes array_bytes spellings tree_bytes
array_is b rank x s d = refl

array_may : (ok : Token → Bool) (x s d : Tree) → list_may ok (x ∷ s ∷ d ∷ []) ≡ (tree_may ok x && (tree_may ok s && tree_may ok d))
array_may ok x s d =
    may_more ok x (s ∷ d ∷ [])
    ∙ ap (λ c. tree_may ok x && c) (may_more ok s (d ∷ []) ∙ ap (λ c. tree_may ok s && c) (may_one ok d))

array_back : (f : Token → Token) (ok : Token → Bool) (r s : Reader Tree) (b : ℕ) → has_token b ≡ false → WrittenIsRead → SignedWrittenIsRead
    → Back (types f ok) r s → Back (tree_moves f ok (within form.Array)) (array_in r b) (array_in s b)
unfolding array_in
array_back f ok r s b bare written signed back =
    let sizes = numerals f ok Size in
    let bounds = numerals f ok Bound in
    let read_both = both (numerals_in Size) (numerals_in Bound) in
    let read = both number_in read_both in
    giving_back (λ (p : Tree × (ℕ × (Tree × Tree))). tree b nil p.1.0 (p.0 ∷ p.1.1.0 ∷ p.1.1.1 ∷ []))
    (pair_moves (types f ok) (pair_moves (staying number_bytes) (pair_moves sizes bounds))) (tree_moves f ok (within form.Array)) (both r read) (both s read)
    (λ bytes q e. record {
      may = bare_may ok b q.0.1.0 (q.0.0 ∷ q.0.1.1.0 ∷ q.0.1.1.1 ∷ []) bare ∙ array_may ok q.0.0 q.0.1.1.0 q.0.1.1.1;
      to = bare_to f b q.0.1.0 (q.0.0 ∷ q.0.1.1.0 ∷ q.0.1.1.1 ∷ []) bare;
      bytes = array_is b q.0.1.0 (tree_moved f q.0.0) (tree_moved f q.0.1.1.0) (tree_moved f q.0.1.1.1);
    })
    (both_back (types f ok) (pair_moves (staying number_bytes) (pair_moves sizes bounds)) r s read read back
    (both_back (staying number_bytes) (pair_moves sizes bounds) number_in number_in read_both read_both (number_back written)
    (both_back sizes bounds (numerals_in Size) (numerals_in Size) (numerals_in Bound) (numerals_in Bound)
    (numerals_back f ok Size written signed) (numerals_back f ok Bound written signed))))

-- a count and so many types
abbrev pub many_bytes : List Tree → List ℕ
many_bytes xs = number_bytes (length xs) ++ list_bytes xs

counted_is : (xs : List Tree) → counted_bytes (spellings (forest_of xs)) ≡ many_bytes xs
unfolding counted_bytes
counted_is xs = ap (λ n. number_bytes n ++ list_bytes xs) (length_spellings xs)

elems_back : (f : Token → Token) (ok : Token → Bool) (r s : Reader Tree) → WrittenIsRead → Back (types f ok) r s
    → Back (list_moves f ok many_bytes) (list_in r) (list_in s)
elems_back f ok r s written back = counted_back (types f ok) (lists f ok) r s (type_lists f ok) (number_back written) back

low_byte : (n : ℕ) → n < 0x100 → n % 0x100 ≡ n
low_byte n lt = omega (arith, lt)

class_by : (c : ℕ) (t : Bool) → (t || c == 0x12) ≡ true → c == 0x11 ≡ t → c % 0x100 ≡ c
class_by c true e f = rw (eqb-true c 0x11 f) refl
class_by c false e f = rw (eqb-true c 0x12 e) refl

class_low : (c : ℕ) → (c == 0x11 || c == 0x12) ≡ true → c % 0x100 ≡ c
class_low c e = class_by c (c == 0x11) e refl

instance_is : (b n : ℕ) (t : Token) (xs : List Tree) → n % 0x100 ≡ n → within form.Instance (tree b t n xs) ≡ (n ∷ []) ++ (token_bytes t ++ many_bytes xs)
unfolding formed_bytes
instance_is b n t xs low =
    ap (λ k. k ∷ (token_bytes t ++ counted_bytes (spellings (forest_of xs)))) low ∙ ap (λ s. n ∷ (token_bytes t ++ s)) (counted_is xs)

abbrev is_class : ℕ → Bool
is_class c = c == 0x11 || c == 0x12

class_read : (good : ℕ → Bool) (r : Reader Tree) (bytes : List ℕ) (q : (ℕ × (Token × List Tree)) × List ℕ)
    → both (byte_in is_class) (both (token_in good) (list_in r)) bytes ≡ Some q → q.0.0 % 0x100 ≡ q.0.0
class_read good r bytes q e =
    class_low q.0.0 (both_known (λ x. is_class x.0 ≡ true) (both (token_in good) (list_in r)) (byte_in is_class bytes) q
    (λ x rest u g h. byte_tested is_class bytes (x, rest) g) e)

instance_back : (f : Token → Token) (ok : Token → Bool) (good test : ℕ → Bool) (r s : Reader Tree) (b : ℕ) → has_token b ≡ true → WrittenIsRead
    → Back (token_moves f ok) (token_in good) (token_in test) → Back (types f ok) r s
    → Back (tree_moves f ok (within form.Instance)) (instance_in good r b) (instance_in test s b)
unfolding instance_in
instance_back f ok good test r s b named written tokens back =
    let behind = pair_moves (token_moves f ok) (list_moves f ok many_bytes) in
    giving_back (λ (p : ℕ × (Token × List Tree)). tree b p.1.0 p.0 p.1.1) (pair_moves (staying (λ n. n ∷ [])) behind) (tree_moves f ok (within form.Instance))
    (both (byte_in is_class) (both (token_in good) (list_in r))) (both (byte_in is_class) (both (token_in test) (list_in s)))
    (λ bytes q e. record {
      may = named_may ok b q.0.1.0 q.0.0 q.0.1.1 named;
      to = named_to f b q.0.1.0 q.0.0 q.0.1.1 named;
      bytes = instance_is b q.0.0 (f q.0.1.0) (map (tree_moved f) q.0.1.1) (class_read good r bytes q e);
    })
    (both_back (staying (λ n. n ∷ [])) behind (byte_in is_class) (byte_in is_class) (both (token_in good) (list_in r)) (both (token_in test) (list_in s))
    (byte_back is_class)
    (both_back (token_moves f ok) (list_moves f ok many_bytes) (token_in good) (token_in test) (list_in r) (list_in s) tokens
    (elems_back f ok r s written back)))

-- parameters
abbrev marked_bytes : List Tree → List ℕ
marked_bytes [] = []
marked_bytes (x ∷ xs) = within form.Wrapped x ++ list_bytes xs

marked_back : (f : Token → Token) (ok : Token → Bool) (r s : Reader Tree) (n : ℕ) → Back (types f ok) r s
    → Back (list_moves f ok marked_bytes) (marked_in r n) (marked_in s n)
unfolding marked_in
marked_back f ok r s n back =
    let first = tree_moves f ok (within form.Wrapped) in
    giving_back (λ (p : Tree × List Tree). p.0 ∷ p.1) (pair_moves first (lists f ok)) (list_moves f ok marked_bytes)
    (both (wrapped_in r 0x41) (many r n)) (both (wrapped_in s 0x41) (many s n))
    (λ bytes q e. record { may = may_more ok q.0.0 q.0.1; to = refl; bytes = refl })
    (both_back first (lists f ok) (wrapped_in r 0x41) (wrapped_in s 0x41) (many r n) (many s n)
    (wrapped_back f ok r s 0x41 bare_sentinel back) (lists_back f ok r s n back))

sentinel_bytes : (x : Tree) → x.element ≡ 0x41 → tree_bytes x ≡ 0x41 ∷ within form.Wrapped x
unfolding tree_bytes formed_bytes form_of
sentinel_bytes x e = ap (λ n. n ∷ formed_bytes (form_of n) x.token x.number (trees x.kids) (spellings x.kids)) e

marked_is : (xs : List Tree) → first_is_sentinel xs ≡ true → list_bytes xs ≡ 0x41 ∷ marked_bytes xs
marked_is [] e = absurd (cc)
marked_is (x ∷ xs) e = list_more x xs ∙ ap (λ s. s ++ list_bytes xs) (sentinel_bytes x (eqb-true x.element 0x41 e))

sentinel_stays : (f : Token → Token) (xs : List Tree) → first_is_sentinel (map (tree_moved f) xs) ≡ first_is_sentinel xs
sentinel_stays f [] = refl
sentinel_stays f (x ∷ xs) = refl

abbrev begins_plain : (Token → Token) → List Tree → Type 0
begins_plain f xs = (rest : List ℕ) → begins 0x41 (list_bytes (map (tree_moved f) xs) ++ rest) ≡ false

begins_by : (f : Token → Token) (x : Tree) (xs : List Tree) → x.element == 0x41 ≡ false → begins_plain f (x ∷ xs)
unfolding spellings
begins_by f x xs e rest = e

plain_begins : (f : Token → Token) (r : Reader Tree) (s : Reader (List Tree)) (bytes : List ℕ) (p : List Tree × List ℕ) → IsPlain r
    → more_in r s bytes ≡ Some p → begins_plain f p.0
plain_begins f r s bytes p plain e =
    map_known (begins_plain f) (λ (p : Tree × List Tree). p.0 ∷ p.1) (both r s bytes) p
    (λ q g. begins_by f q.0.0 q.0.1 (both_known (λ x. x.0.element == 0x41 ≡ false) s (r bytes) q (λ x rest u h k. (plain bytes (x, rest) h).1) g)) e

params_on : (f : Token → Token) (ok : Token → Bool) (r s : Reader Tree) (n : ℕ) (bytes : List ℕ) (t : Bool) (p : List Tree × List ℕ) (rest : List ℕ)
    → IsPlain r → Back (types f ok) r s → Back (lists f ok) (params r n) (params s n)
    → (if t then marked_in r n (drop 1 bytes) else more_in r (params r n) bytes) ≡ Some p → list_may ok p.0 ≡ true
    → params s (suc n) (list_bytes (map (tree_moved f) p.0) ++ rest) ≡ Some (map (tree_moved f) p.0, rest)
unfolding params
params_on f ok r s n bytes true p rest plain back others e may =
    let marked = sentinel_stays f p.0 ∙ marked_first r n (drop 1 bytes) p e in
    ap (λ z. params s (suc n) (z ++ rest)) (marked_is (map (tree_moved f) p.0) marked) ∙ marked_back f ok r s n back (drop 1 bytes) p rest e may
params_on f ok r s n bytes false p rest plain back others e may =
    let all = list_bytes (map (tree_moved f) p.0) ++ rest in
    ap (λ t. if t then marked_in s n (drop 1 all) else more_in s (params s n) all) (plain_begins f r (params r n) bytes p plain e rest)
    ∙ giving_back (λ (p : Tree × List Tree). p.0 ∷ p.1) (pair_moves (types f ok) (lists f ok)) (lists f ok) (both r (params r n)) (both s (params s n))
    (λ b q g. (type_lists f ok).more q.0) (both_back (types f ok) (lists f ok) r s (params r n) (params s n) back others) bytes p rest e may

params_back : (f : Token → Token) (ok : Token → Bool) (r s : Reader Tree) (n : ℕ) → IsPlain r → Back (types f ok) r s
    → Back (lists f ok) (params r n) (params s n)
unfolding params
params_back f ok r s zero plain back bytes p rest e may =
    let g : ([], bytes) ≡ p = cc in
    let P : List Tree × List ℕ → Type 0 = λ q. params s zero (list_bytes (map (tree_moved f) q.0) ++ rest) ≡ Some (map (tree_moved f) q.0, rest) in
    subst P g (ap (λ z. params s zero (z ++ rest)) list_none)
params_back f ok r s (suc n) plain back bytes p rest e may =
    params_on f ok r s n bytes (begins 0x41 bytes) p rest plain back (params_back f ok r s n plain back) e may

-- a count, a first type and as many more
abbrev pub behind_bytes : List Tree → List ℕ
behind_bytes xs = number_bytes (length xs - 1) ++ list_bytes xs

parts_is : (xs : List Tree) → parts_bytes (spellings (forest_of xs)) ≡ behind_bytes xs
unfolding parts_bytes
parts_is xs = ap (λ n. number_bytes (n - 1) ++ list_bytes xs) (length_spellings xs)

first_and : (n : ℕ) (x : Tree) (xs : List Tree) → length xs ≡ n → behind_bytes (x ∷ xs) ≡ number_bytes n ++ (tree_bytes x ++ list_bytes xs)
first_and n x xs e =
    ap (λ k. number_bytes k ++ list_bytes (x ∷ xs)) (less_one (length xs) ∙ e) ∙ ap (λ s. number_bytes n ++ s) (list_more x xs)

abbrev HasLength : (ℕ → Reader (List Tree)) → Type 0
HasLength r = (n : ℕ) (bytes : List ℕ) (q : List Tree × List ℕ) → r n bytes ≡ Some q → length q.0 ≡ n

others_length : (r : Reader Tree) (rs : ℕ → Reader (List Tree)) (bytes : List ℕ) (q : (ℕ × (Tree × List Tree)) × List ℕ) → HasLength rs
    → upon number_in (λ n. both r (rs n)) bytes ≡ Some q → length q.0.1.1 ≡ q.0.0
others_length r rs bytes q size e =
    upon_known (λ x. length x.1.1 ≡ x.0) (λ n. both r (rs n)) (number_in bytes) q
    (λ n b u g. both_known (λ x. length x.1 ≡ n) (rs n) (r b) u (λ x rest v h k. size n rest v k) g) e

first_back : (f : Token → Token) (ok : Token → Bool) (r s : Reader Tree) (rs ss : ℕ → Reader (List Tree)) → WrittenIsRead → Back (types f ok) r s
    → ((n : ℕ) → Back (lists f ok) (rs n) (ss n)) → HasLength rs
    → Back (list_moves f ok behind_bytes) (giving (λ (p : ℕ × (Tree × List Tree)). p.1.0 ∷ p.1.1) (upon number_in (λ n. both r (rs n))))
    (giving (λ (p : ℕ × (Tree × List Tree)). p.1.0 ∷ p.1.1) (upon number_in (λ n. both s (ss n))))
first_back f ok r s rs ss written back others size =
    let all = pair_moves (types f ok) (lists f ok) in
    giving_back (λ (p : ℕ × (Tree × List Tree)). p.1.0 ∷ p.1.1) (upon_moves number_bytes (λ n. all)) (list_moves f ok behind_bytes)
    (upon number_in (λ n. both r (rs n))) (upon number_in (λ n. both s (ss n)))
    (λ bytes q e. record {
      may = may_more ok q.0.1.0 q.0.1.1;
      to = refl;
      bytes = first_and q.0.0 (tree_moved f q.0.1.0) (map (tree_moved f) q.0.1.1) (length_moved f q.0.1.1 ∙ others_length r rs bytes q size e);
    })
    (upon_back number_bytes (λ n. all) number_in (λ n. both r (rs n)) (λ n. both s (ss n)) (number_back written)
    (λ n. both_back (types f ok) (lists f ok) r s (rs n) (ss n) back (others n)))

parts_back : (f : Token → Token) (ok : Token → Bool) (r s : Reader Tree) → WrittenIsRead → IsPlain r → Back (types f ok) r s
    → Back (list_moves f ok behind_bytes) (parts_in r) (parts_in s)
unfolding parts_in
parts_back f ok r s written plain back =
    first_back f ok r s (params r) (params s) written back (λ n. params_back f ok r s n plain back) (params_length r)

accessed_back : (f : Token → Token) (ok : Token → Bool) (r s : Reader Tree) → WrittenIsRead → Back (types f ok) r s
    → Back (list_moves f ok behind_bytes) (accessed_in r) (accessed_in s)
unfolding accessed_in
accessed_back f ok r s written back = first_back f ok r s (many r) (many s) written back (λ n. lists_back f ok r s n back) (many_length r)

-- a method
abbrev count_or_none : Bool → Reader ℕ
count_or_none t = if t then number_in else given 0

count_back : (t : Bool) → WrittenIsRead → Back (staying (λ n. if t then number_bytes n else [])) (count_or_none t) (count_or_none t)
count_back true written bytes p rest e may = number_back written bytes p rest e may
count_back false written bytes p rest e may =
    let f : (0, bytes) ≡ p = cc in
    let P : ℕ × List ℕ → Type 0 = λ q. count_or_none false rest ≡ Some (q.0, rest) in
    subst P f refl

generics_back : (b : ℕ) → WrittenIsRead → Back (staying (generics_bytes b)) (generics_in b) (generics_in b)
unfolding generics_bytes generics_in
generics_back b written bytes p rest e may = count_back (has_flag 0x10 b) written bytes p rest e may

abbrev pub call_moves : Moves (ℕ × ℕ)
call_moves = upon_moves (λ b. b ∷ []) (λ b. staying (generics_bytes b))

calling_back : WrittenIsRead → Back call_moves calling_in calling_in
unfolding calling_in
calling_back written =
    upon_back (λ b. b ∷ []) (λ b. staying (generics_bytes b)) (byte_in is_calling) generics_in generics_in (byte_back is_calling) (λ b. generics_back b written)

method_back : (f : Token → Token) (ok : Token → Bool) (r s : Reader Tree) → WrittenIsRead → IsPlain r → Back (types f ok) r s
    → Back (pair_moves call_moves (list_moves f ok behind_bytes)) (method_in r) (method_in s)
unfolding method_in
method_back f ok r s written plain back =
    both_back call_moves (list_moves f ok behind_bytes) calling_in calling_in (parts_in r) (parts_in s) (calling_back written)
    (parts_back f ok r s written plain back)

abbrev call_on : Option (ℕ × List ℕ) → Option ((ℕ × ℕ) × List ℕ)
call_on o = option_and_then {T = ℕ × List ℕ} (λ p. option_map {T = ℕ × List ℕ} (λ q. ((p.0, q.0), q.1)) (generics_in p.0 p.1)) o

first_known : (bytes : List ℕ) (o : Option (ℕ × List ℕ)) (p : (ℕ × ℕ) × List ℕ) → byte_in is_calling bytes ≡ o → call_on o ≡ Some p
    → is_calling p.0.0 ≡ true
first_known bytes None p is e = absurd (cc)
first_known bytes (Some b) p is e =
    map_known (λ (x : ℕ × ℕ). is_calling x.0 ≡ true) (λ (n : ℕ). (b.0, n)) (generics_in b.0 b.1) p (λ q f. byte_tested is_calling bytes b is) e

calling_known : (bytes : List ℕ) (p : (ℕ × ℕ) × List ℕ) → calling_in bytes ≡ Some p → is_calling p.0.0 ≡ true
unfolding calling_in
calling_known bytes p e = first_known bytes (byte_in is_calling bytes) p refl e

calling_low : (b : ℕ) → is_calling b ≡ true → b % 0x100 ≡ b
unfolding is_calling
calling_low b e = low_byte b (omega (arith, ltb-true b 0x80 (and_left (nat_lt b 0x80) (nat_le (b % 0x10) 5 || b % 0x10 == 9) e)))

pointer_is : (b n g : ℕ) (xs : List Tree) → n % 0x100 ≡ n
    → within form.Pointer (tree b nil n (tree 0 nil g [] ∷ xs)) ≡ ((n ∷ []) ++ generics_bytes n g) ++ behind_bytes xs
unfolding formed_bytes pointer_bytes spellings
pointer_is b n g xs low =
    ap (λ k. k ∷ (generics_bytes n g ++ parts_bytes (spellings (forest_of xs)))) low ∙ ap (λ s. n ∷ (generics_bytes n g ++ s)) (parts_is xs)

pointer_low : (r : Reader Tree) (bytes : List ℕ) (q : ((ℕ × ℕ) × List Tree) × List ℕ) → method_in r bytes ≡ Some q → q.0.0.0 % 0x100 ≡ q.0.0.0
unfolding method_in
pointer_low r bytes q e =
    calling_low q.0.0.0 (both_known (λ x. is_calling x.0.0 ≡ true) (parts_in r) (calling_in bytes) q (λ x rest u g h. calling_known bytes (x, rest) g) e)

pointer_may : (ok : Token → Bool) (g : ℕ) (xs : List Tree) → list_may ok (tree 0 nil g [] ∷ xs) ≡ list_may ok xs
pointer_may ok g xs =
    may_more ok (tree 0 nil g []) xs ∙ ap (λ c. c && list_may ok xs) (bare_may ok 0 g [] bare_zero ∙ may_none ok)

pointer_back : (f : Token → Token) (ok : Token → Bool) (r s : Reader Tree) (b : ℕ) → has_token b ≡ false → WrittenIsRead → IsPlain r → Back (types f ok) r s
    → Back (tree_moves f ok (within form.Pointer)) (pointer_in r b) (pointer_in s b)
unfolding pointer_in
pointer_back f ok r s b bare written plain back =
    giving_back (λ (p : (ℕ × ℕ) × List Tree). tree b nil p.0.0 (tree 0 nil p.0.1 [] ∷ p.1)) (pair_moves call_moves (list_moves f ok behind_bytes))
    (tree_moves f ok (within form.Pointer)) (method_in r) (method_in s)
    (λ bytes q e. record {
      may = bare_may ok b q.0.0.0 (tree 0 nil q.0.0.1 [] ∷ q.0.1) bare ∙ pointer_may ok q.0.0.1 q.0.1;
      to = bare_to f b q.0.0.0 (tree 0 nil q.0.0.1 [] ∷ q.0.1) bare
          ∙ ap (λ x. tree b nil q.0.0.0 (x ∷ map (tree_moved f) q.0.1)) (bare_to f 0 q.0.0.1 [] bare_zero);
      bytes = pointer_is b q.0.0.0 q.0.0.1 (map (tree_moved f) q.0.1) (pointer_low r bytes q e);
    })
    (method_back f ok r s written plain back)

-- a type
bare_read : (f : Token → Token) (test : ℕ → Bool) (s : Reader Tree) (b : ℕ) (rest : List ℕ) → has_token b ≡ false
    → formed_in test s form.Bare b (within form.Bare (tree_moved f (tree b nil 0 [])) ++ rest) ≡ Some (tree_moved f (tree b nil 0 []), rest)
unfolding formed_in formed_bytes
bare_read f test s b rest bare = ap (λ (t : Tree). Some (t, rest)) (sym (bare_to f b 0 [] bare))

formed_back : (f : Token → Token) (ok : Token → Bool) (good test : ℕ → Bool) (g : TypeForm) (b : ℕ) (r s : Reader Tree) → has_token b ≡ form_has_token (Some g)
    → WrittenIsRead → SignedWrittenIsRead → Goes f ok good test → IsPlain r → Back (types f ok) r s
    → Back (tree_moves f ok (within g)) (formed_in good r g b) (formed_in test s g b)
unfolding formed_in
formed_back f ok good test form.Bare b r s has written signed goes plain back bytes p rest e may =
    let g : (tree b nil 0 [], bytes) ≡ p = cc in
    let P : Tree × List ℕ → Type 0 = λ q. formed_in test s form.Bare b (within form.Bare (tree_moved f q.0) ++ rest) ≡ Some (tree_moved f q.0, rest) in
    let here : P (tree b nil 0 [], bytes) = bare_read f test s b rest has in
    subst P g here
formed_back f ok good test form.Wrapped b r s has written signed goes plain back bytes p rest e may = wrapped_back f ok r s b has back bytes p rest e may
formed_back f ok good test form.Named b r s has written signed goes plain back bytes p rest e may =
    named_back f ok good test b has (token_back f ok good test written goes) bytes p rest e may
formed_back f ok good test form.Modified b r s has written signed goes plain back bytes p rest e may =
    modified_back f ok good test r s b has (token_back f ok good test written goes) back bytes p rest e may
formed_back f ok good test form.Numbered b r s has written signed goes plain back bytes p rest e may =
    indexed_back f ok b number_bytes (within form.Numbered) number_in has (numbered_is b) (number_back written) bytes p rest e may
formed_back f ok good test form.Array b r s has written signed goes plain back bytes p rest e may =
    array_back f ok r s b has written signed back bytes p rest e may
formed_back f ok good test form.Instance b r s has written signed goes plain back bytes p rest e may =
    instance_back f ok good test r s b has written (token_back f ok good test written goes) back bytes p rest e may
formed_back f ok good test form.Pointer b r s has written signed goes plain back bytes p rest e may =
    pointer_back f ok r s b has written plain back bytes p rest e may

begun : (x : Tree) (b : ℕ) (f : TypeForm) → x.element ≡ b → form_of b ≡ Some f → tree_bytes x ≡ b ∷ within f x
unfolding tree_bytes
begun x b f e is =
    ap (λ n. n ∷ formed_bytes (form_of n) x.token x.number (trees x.kids) (spellings x.kids)) e
    ∙ ap (λ o. b ∷ formed_bytes o x.token x.number (trees x.kids) (spellings x.kids)) is

form_has : (b : ℕ) (g : TypeForm) → form_of b ≡ Some g → has_token b ≡ form_has_token (Some g)
unfolding has_token
form_has b g is = ap form_has_token is

opened_back : (f : Token → Token) (ok : Token → Bool) (good test : ℕ → Bool) (o : Option TypeForm) (b depth : ℕ) (bytes : List ℕ) (p : Tree × List ℕ)
    (rest : List ℕ)
    → ((g : TypeForm) → has_token b ≡ form_has_token (Some g)
    → Back (tree_moves f ok (within g)) (formed_in good (elem_in good depth) g b) (formed_in test (elem_in test depth) g b))
    → form_of b ≡ o → option_and_then {T = TypeForm} (λ g. formed_in good (elem_in good depth) g b bytes) o ≡ Some p → tree_may ok p.0 ≡ true
    → elem_in test (suc depth) (tree_bytes (tree_moved f p.0) ++ rest) ≡ Some (tree_moved f p.0, rest)
unfolding elem_in
opened_back f ok good test None b depth bytes p rest back is e may = absurd (cc)
opened_back f ok good test (Some g) b depth bytes p rest back is e may =
    ap (λ z. elem_in test (suc depth) (z ++ rest)) (begun (tree_moved f p.0) b g (formed_element good g b (elem_in good depth) bytes p e) is)
    ∙ ap (option_and_then {T = TypeForm} {U = Tree × List ℕ} (λ h. formed_in test (elem_in test depth) h b (within g (tree_moved f p.0) ++ rest))) is
    ∙ back g (form_has b g is) bytes p rest e may

elem_back : (f : Token → Token) (ok : Token → Bool) (good test : ℕ → Bool) (depth : ℕ) → WrittenIsRead → SignedWrittenIsRead → Goes f ok good test
    → Back (types f ok) (elem_in good depth) (elem_in test depth)
unfolding elem_in
elem_back f ok good test zero written signed goes bytes p rest e may = absurd (cc)
elem_back f ok good test (suc depth) written signed goes [] p rest e may = absurd (cc)
elem_back f ok good test (suc depth) written signed goes (b ∷ bytes) p rest e may =
    let below = elem_back f ok good test depth written signed goes in
    opened_back f ok good test (form_of b) b depth bytes p rest
    (λ g has. formed_back f ok good test g b (elem_in good depth) (elem_in test depth) has written signed goes (elem_plain good depth) below) refl e may

-- a signature
abbrev pub all_bytes : SigTree → List ℕ
all_bytes s = front_bytes s.form s.kind s.generics (spellings (forest_of s.parts))

abbrev pub sig_moves : (Token → Token) → (Token → Bool) → Moves SigTree
sig_moves f ok = record { may = λ (s : SigTree). list_may ok s.parts; to = sig_moved f; bytes = all_bytes }

abbrev pub tagged : SigKind → ℕ × List Tree → SigTree
tagged kind p = record { form = kind; kind = p.0; generics = 0; parts = p.1 }

tagged_back : (f : Token → Token) (ok : Token → Bool) (kind : SigKind) (tag : ℕ → Bool) (w : List Tree → List ℕ) (r s : Reader (List Tree))
    → ((b : ℕ) (xs : List Tree) → front_bytes kind b 0 (spellings (forest_of xs)) ≡ b ∷ w xs) → Back (list_moves f ok w) r s
    → Back (sig_moves f ok) (giving (tagged kind) (both (byte_in tag) r)) (giving (tagged kind) (both (byte_in tag) s))
unfolding sig_moved
tagged_back f ok kind tag w r s same back =
    giving_back (tagged kind) (pair_moves (staying (λ b. b ∷ [])) (list_moves f ok w)) (sig_moves f ok) (both (byte_in tag) r) (both (byte_in tag) s)
    (λ bytes q e. record { may = refl; to = refl; bytes = same q.0.0 (map (tree_moved f) q.0.1) })
    (both_back (staying (λ b. b ∷ [])) (list_moves f ok w) (byte_in tag) (byte_in tag) r s (byte_back tag) back)

type_back : (f : Token → Token) (ok : Token → Bool) (good test : ℕ → Bool) → WrittenIsRead → SignedWrittenIsRead → Goes f ok good test
    → Back (types f ok) (type_in good) (type_in test)
unfolding type_in
type_back f ok good test written signed goes = elem_back f ok good test 100 written signed goes

plain_type : (good : ℕ → Bool) → IsPlain (type_in good)
unfolding type_in
plain_type good = elem_plain good 100

abbrev pub called : (ℕ × ℕ) × List Tree → SigTree
called p = record { form = Method; kind = p.0.0; generics = p.0.1; parts = p.1 }

called_back : (f : Token → Token) (ok : Token → Bool) (r s : Reader Tree) → WrittenIsRead → IsPlain r → Back (types f ok) r s
    → Back (sig_moves f ok) (giving called (method_in r)) (giving called (method_in s))
unfolding sig_moved front_bytes
called_back f ok r s written plain back =
    giving_back called (pair_moves call_moves (list_moves f ok behind_bytes)) (sig_moves f ok) (method_in r) (method_in s)
    (λ b q e. record {
      may = refl;
      to = refl;
      bytes = ap (λ z. q.0.0.0 ∷ (generics_bytes q.0.0.0 q.0.0.1 ++ z)) (parts_is (map (tree_moved f) q.0.1));
    }) (method_back f ok r s written plain back)

abbrev pub field : ℕ × Tree → SigTree
field p = record { form = Field; kind = p.0; generics = 0; parts = p.1 ∷ [] }

field_back : (f : Token → Token) (ok : Token → Bool) (tag : ℕ → Bool) (r s : Reader Tree) → Back (types f ok) r s
    → Back (sig_moves f ok) (giving field (both (byte_in tag) r)) (giving field (both (byte_in tag) s))
unfolding sig_moved front_bytes
field_back f ok tag r s back =
    giving_back field (pair_moves (staying (λ b. b ∷ [])) (types f ok)) (sig_moves f ok) (both (byte_in tag) r) (both (byte_in tag) s)
    (λ b q e. record { may = may_one ok q.0.1; to = refl; bytes = ap (λ z. q.0.0 ∷ z) (list_one (tree_moved f q.0.1)) })
    (both_back (staying (λ b. b ∷ [])) (types f ok) (byte_in tag) (byte_in tag) r s (byte_back tag) back)

abbrev pub alone : Tree → SigTree
alone t = record { form = TypeSpec; kind = 0; generics = 0; parts = t ∷ [] }

alone_back : (f : Token → Token) (ok : Token → Bool) (r s : Reader Tree) → Back (types f ok) r s
    → Back (sig_moves f ok) (giving alone r) (giving alone s)
unfolding sig_moved front_bytes
alone_back f ok r s back =
    giving_back alone (types f ok) (sig_moves f ok) r s (λ b q e. record { may = may_one ok q.0; to = refl; bytes = list_one (tree_moved f q.0) }) back

front_back : (f : Token → Token) (ok : Token → Bool) (good test : ℕ → Bool) (kind : SigKind) → WrittenIsRead → SignedWrittenIsRead → Goes f ok good test
    → Back (sig_moves f ok) (front_in good kind) (front_in test kind)
unfolding front_in front_bytes
front_back f ok good test Method written signed goes bytes p rest e may =
    called_back f ok (type_in good) (type_in test) written (plain_type good) (type_back f ok good test written signed goes) bytes p rest e may
front_back f ok good test Field written signed goes bytes p rest e may =
    field_back f ok (λ b. b == 0x06) (type_in good) (type_in test) (type_back f ok good test written signed goes) bytes p rest e may
front_back f ok good test Locals written signed goes bytes p rest e may =
    tagged_back f ok Locals (λ b. b == 0x07) many_bytes (list_in (type_in good)) (list_in (type_in test)) (λ b xs. ap (λ z. b ∷ z) (counted_is xs))
    (elems_back f ok (type_in good) (type_in test) written (type_back f ok good test written signed goes)) bytes p rest e may
front_back f ok good test Property written signed goes bytes p rest e may =
    tagged_back f ok Property (λ b. b == 0x08 || b == 0x28) behind_bytes (accessed_in (type_in good)) (accessed_in (type_in test))
    (λ b xs. ap (λ z. b ∷ z) (parts_is xs))
    (accessed_back f ok (type_in good) (type_in test) written (type_back f ok good test written signed goes)) bytes p rest e may
front_back f ok good test TypeSpec written signed goes bytes p rest e may =
    alone_back f ok (type_in good) (type_in test) (type_back f ok good test written signed goes) bytes p rest e may
front_back f ok good test MethodSpec written signed goes bytes p rest e may =
    tagged_back f ok MethodSpec (λ b. b == 0x0A) many_bytes (list_in (type_in good)) (list_in (type_in test)) (λ b xs. ap (λ z. b ∷ z) (counted_is xs))
    (elems_back f ok (type_in good) (type_in test) written (type_back f ok good test written signed goes)) bytes p rest e may

whole_is : (s : SigTree) (rest : List ℕ) (t : SigTree) → unless_more s rest ≡ Some t → s ≡ t
whole_is s [] t e = cc
whole_is s (b ∷ rest) t e = absurd (cc)

whole_on : (f : Token → Token) (ok : Token → Bool) (good test : ℕ → Bool) (kind : SigKind) (bytes : List ℕ) (o : Option (SigTree × List ℕ)) (s : SigTree)
    → Back (sig_moves f ok) (front_in good kind) (front_in test kind) → front_in good kind bytes ≡ o → all_of o ≡ Some s → list_may ok s.parts ≡ true
    → all_of (front_in test kind (all_bytes (sig_moved f s))) ≡ Some (sig_moved f s)
whole_on f ok good test kind bytes None s back is e may = absurd (cc)
whole_on f ok good test kind bytes (Some p) s back is e may =
    let same : p.0 ≡ s = whole_is p.0 p.1 s e in
    let P : SigTree → Type 0 = λ x. list_may ok x.parts ≡ true → all_of (front_in test kind (all_bytes (sig_moved f x))) ≡ Some (sig_moved f x) in
    let all = all_bytes (sig_moved f p.0) in
    let here : P p.0 = λ m. ap all_of (ap (front_in test kind) (sym (append-nil all)) ∙ back bytes p [] is m) in
    subst P same here may

-- a signature that was read and whose tokens are moved, each that may be to where the other test reads it, is written and read as moved
pub moved_reads : (f : Token → Token) (ok : Token → Bool) (good test : ℕ → Bool) (kind : SigKind) (bytes : List ℕ) (s : SigTree)
    → WrittenIsRead → SignedWrittenIsRead → Goes f ok good test → sig_in good kind bytes ≡ Some s → list_may ok s.parts ≡ true
    → sig_in test kind (sig_bytes (sig_moved f s)) ≡ Some (sig_moved f s)
unfolding sig_in sig_bytes
moved_reads f ok good test kind bytes s written signed goes e may =
    whole_on f ok good test kind bytes (front_in good kind bytes) s (front_back f ok good test kind written signed goes) refl e may

-- each token may be moved
if_true : (b : Bool) → (if b then true else true) ≡ true
if_true true = refl
if_true false = refl

all_may : (k : Forest) → all_tokens (λ t. true) k ≡ true
unfolding all_tokens
all_may none = refl
all_may (more e t n k r) = rw (if_true (has_token e), all_may k, all_may r) refl

pub any_reads : (f : Token → Token) (good test : ℕ → Bool) (kind : SigKind) (bytes : List ℕ) (s : SigTree) → WrittenIsRead → SignedWrittenIsRead
    → ((n : ℕ) → n < 0x20000000 → good n ≡ true → GoesTo f test n) → sig_in good kind bytes ≡ Some s
    → sig_in test kind (sig_bytes (sig_moved f s)) ≡ Some (sig_moved f s)
any_reads f good test kind bytes s written signed goes e =
    moved_reads f (λ t. true) good test kind bytes s written signed (λ n few is may. goes n few is) e (all_may (forest_of s.parts))

-- none is moved
tag_is : (r : ℕ) → r < 4 → not (r == 3) ≡ true → (if table_of r == 0x02 then 0 else if table_of r == 0x01 then 1 else 2) ≡ r
tag_is zero lt e = refl
tag_is (suc zero) lt e = refl
tag_is (suc (suc zero)) lt e = refl
tag_is (suc (suc (suc zero))) lt e = absurd (cc)
tag_is (suc (suc (suc (suc r)))) lt e = absurd (omega arith)

number_of_token : (n : ℕ) → is_coded n ≡ true → token_number (token_named n) ≡ n
unfolding is_coded
number_of_token n e =
    let lt : n % 4 < 4 = omega arith in
    let t = tag_is (n % 4) lt e in
    let q : n / 4 * 4 + n % 4 ≡ n = omega arith in
    ap (λ k. n / 4 * 4 + k) t ∙ q

goes_to_itself : (good : ℕ → Bool) (n : ℕ) → NamesTables good → n < 0x20000000 → good n ≡ true → GoesTo (λ t. t) good n
goes_to_itself good n names few is =
    let same = number_of_token n (names n is) in
    record { named = ap token_named same; short = subst (λ k. k < 0x20000000) (sym same) few; passes = ap good same ∙ is }

pub written_reads : WrittenIsRead → SignedWrittenIsRead → (good : ℕ → Bool) (kind : SigKind) (bytes : List ℕ) (s : SigTree) → NamesTables good
    → sig_in good kind bytes ≡ Some s → sig_in good kind (sig_bytes s) ≡ Some s
written_reads written signed good kind bytes s names e =
    subst (λ (x : SigTree). sig_in good kind (sig_bytes x) ≡ Some x) (same_sig s)
    (any_reads (λ t. t) good good kind bytes s written signed (λ n few is. goes_to_itself good n names few is) e)
