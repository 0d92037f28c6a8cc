-- Kinds that are read one behind the other are those of the types that are read.
use Rattle.std.proofs.Common.{◌≡◌, ℕ, zero, suc, Bool, true, false, List, [], ◌∷◌, drop, Option, Some, None, refl, sym}
use Rattle.std.specs.Prelude.{option_map, option_and_then}
use Rattle.enc_base.specs.Readers.{Reader}
use Rattle.enc_base.specs.Token.{nil}
use Rattle.enc_objects.specs.declared.kind.Kind.{Kind}
use Rattle.enc_sigs.specs.Tree.{Tree}
use Rattle.enc_sigs.specs.Grammar.{is_coded, type_in, many, params, marked_in, wrapped_in, begins, tree}
use Rattle.enc_sigs.proofs.Agreed.{elem_plain, IsPlain}
use Rattle.enc_machine_types.specs.Elements.{kind_of_element, kind_of_tree, kind_of_parameter, answers_of}
use Rattle.enc_machine_types.specs.Fronts.{kind_front, parameter_kinds}

-- the kinds of types that were read, and what is behind them
abbrev pub kinds_read : (Tree → Option Kind) → Option (List Tree × List ℕ) → Option (List Kind × List ℕ)
kinds_read f o = option_and_then (λ (p : List Tree × List ℕ). option_map (λ (ks : List Kind). (ks, p.1)) (answers_of f p.0)) o

-- what is read as a type is no sentinel
pub type_plain : IsPlain (type_in is_coded)
unfolding type_in
type_plain = elem_plain is_coded 100

-- the test of a tree's kind is that by its element, for each tree that is read
abbrev pub ByElement : (Tree → Option Kind) → Type 0
ByElement f = (bytes : List ℕ) (p : Tree × List ℕ) → type_in is_coded bytes ≡ Some p → f p.0 ≡ kind_of_element p.0.element

pub parameters_by_element : ByElement kind_of_parameter
parameters_by_element bytes p e = rw ((type_plain bytes p e).1) refl

pub trees_by_element : ByElement kind_of_tree
trees_by_element bytes p e = refl

-- a first kind, and others behind it
answers_none : (f : Tree → Option Kind) (t : Tree) (o : Option (List Tree × List ℕ)) → f t ≡ None → kinds_read f (option_map {T = (Tree × List Tree) × List ℕ} (λ p. (p.0.0 ∷ p.0.1, p.1)) (option_map {T = List Tree × List ℕ} (λ q. ((t, q.0), q.1)) o)) ≡ None
unfolding answers_of
answers_none f t None e = refl
answers_none f t (Some q) e = rw e refl

mapped : (k : Kind) (rest : List ℕ) (o : Option (List Kind)) → option_map {T = List Kind} {U = List Kind × List ℕ} (λ ks. (ks, rest)) (option_map {T = List Kind} {U = List Kind} (λ ks. k ∷ ks) o) ≡ option_map {T = (Kind × List Kind) × List ℕ} {U = List Kind × List ℕ} (λ p. (p.0.0 ∷ p.0.1, p.1)) (option_map {T = List Kind × List ℕ} {U = (Kind × List Kind) × List ℕ} (λ q. ((k, q.0), q.1)) (option_map {T = List Kind} {U = List Kind × List ℕ} (λ ks. (ks, rest)) o))
mapped k rest None = refl
mapped k rest (Some ks) = refl

answers_more : (f : Tree → Option Kind) (t : Tree) (k : Kind) (o : Option (List Tree × List ℕ)) → f t ≡ Some k → kinds_read f (option_map {T = (Tree × List Tree) × List ℕ} (λ p. (p.0.0 ∷ p.0.1, p.1)) (option_map {T = List Tree × List ℕ} (λ q. ((t, q.0), q.1)) o)) ≡ option_map {T = (Kind × List Kind) × List ℕ} (λ p. (p.0.0 ∷ p.0.1, p.1)) (option_map {T = List Kind × List ℕ} (λ q. ((k, q.0), q.1)) (kinds_read f o))
unfolding answers_of
answers_more f t k None e = refl
answers_more f t k (Some q) e = rw e (mapped k q.1 (answers_of f q.0))

-- the kind at the front, by what is read there
pub kind_none : (bytes : List ℕ) → type_in is_coded bytes ≡ None → kind_front bytes ≡ None
unfolding kind_front
kind_none bytes e = rw e refl

kind_some : (bytes : List ℕ) (p : Tree × List ℕ) → type_in is_coded bytes ≡ Some p → kind_front bytes ≡ option_map (λ k. (k, p.1)) (kind_of_element p.0.element)
unfolding kind_front
kind_some bytes p e = rw e refl

first_kind : (f : Tree → Option Kind) (types : Reader (List Tree)) (kinds : Reader (List Kind)) (p : Tree × List ℕ) (o : Option Kind) → f p.0 ≡ o → kinds p.1 ≡ kinds_read f (types p.1) → option_map {T = (Kind × List Kind) × List ℕ} (λ q. (q.0.0 ∷ q.0.1, q.1)) (option_and_then {T = Kind × List ℕ} (λ k. option_map {T = List Kind × List ℕ} (λ q. ((k.0, q.0), q.1)) (kinds k.1)) (option_map {T = Kind} (λ k. (k, p.1)) o)) ≡ kinds_read f (option_map {T = (Tree × List Tree) × List ℕ} (λ q. (q.0.0 ∷ q.0.1, q.1)) (option_map {T = List Tree × List ℕ} (λ q. ((p.0, q.0), q.1)) (types p.1)))
first_kind f types kinds p None e same = sym (answers_none f p.0 (types p.1) e)
first_kind f types kinds p (Some k) e same = rw same (sym (answers_more f p.0 k (types p.1) e))

-- a first type and others are read as kinds are
abbrev pub first_and : {A : Type 0} → Reader A → Reader (List A) → Reader (List A)
first_and {A} one others bytes = option_map {T = (A × List A) × List ℕ} (λ q. (q.0.0 ∷ q.0.1, q.1)) (option_and_then {T = A × List ℕ} (λ p. option_map {T = List A × List ℕ} (λ q. ((p.0, q.0), q.1)) (others p.1)) (one bytes))

by_first : (f : Tree → Option Kind) (types : Reader (List Tree)) (kinds : Reader (List Kind)) (bytes : List ℕ) (o : Option (Tree × List ℕ)) → ByElement f → ((rest : List ℕ) → kinds rest ≡ kinds_read f (types rest)) → type_in is_coded bytes ≡ o → first_and kind_front kinds bytes ≡ kinds_read f (first_and (type_in is_coded) types bytes)
by_first f types kinds bytes None by same e = rw (kind_none bytes e, e) refl
by_first f types kinds bytes (Some p) by same e = rw (kind_some bytes p e, e) (first_kind f types kinds p (kind_of_element p.0.element) (by bytes p e) (same p.1))

-- so many kinds are those of so many types
pub many_kinds : (f : Tree → Option Kind) (n : ℕ) (bytes : List ℕ) → ByElement f → many kind_front n bytes ≡ kinds_read f (many (type_in is_coded) n bytes)
unfolding many answers_of
many_kinds f zero bytes by = refl
many_kinds f (suc n) bytes by = by_first f (many (type_in is_coded) n) (many kind_front n) bytes (type_in is_coded bytes) by (λ rest. many_kinds f n rest by) refl

-- and so are those of parameters, of which one stands behind a sentinel
marked_kinds : (n : ℕ) (bytes : List ℕ) (o : Option (Tree × List ℕ)) → type_in is_coded bytes ≡ o → many kind_front (suc n) bytes ≡ kinds_read kind_of_parameter (marked_in (type_in is_coded) n bytes)
unfolding marked_in wrapped_in many
marked_kinds n bytes None e = rw (kind_none bytes e, e) refl
marked_kinds n bytes (Some p) e =
    rw (kind_some bytes p e, e) (first_kind kind_of_parameter (many (type_in is_coded) n) (many kind_front n) (tree 0x41 nil 0 (p.0 ∷ []), p.1) (kind_of_element p.0.element) refl (many_kinds kind_of_parameter n p.1 parameters_by_element))

by_sentinel : (n : ℕ) (bytes : List ℕ) (marked : Bool) → ((rest : List ℕ) → parameter_kinds n rest ≡ kinds_read kind_of_parameter (params (type_in is_coded) n rest)) → begins 0x41 bytes ≡ marked → parameter_kinds (suc n) bytes ≡ kinds_read kind_of_parameter (params (type_in is_coded) (suc n) bytes)
unfolding parameter_kinds params
by_sentinel n bytes true same e = rw e (marked_kinds n (drop 1 bytes) (type_in is_coded (drop 1 bytes)) refl)
by_sentinel n bytes false same e = rw e (by_first kind_of_parameter (params (type_in is_coded) n) (parameter_kinds n) bytes (type_in is_coded bytes) parameters_by_element same refl)

pub parameter_kinds_are : (n : ℕ) (bytes : List ℕ) → parameter_kinds n bytes ≡ kinds_read kind_of_parameter (params (type_in is_coded) n bytes)
unfolding parameter_kinds params answers_of
parameter_kinds_are zero bytes = refl
parameter_kinds_are (suc n) bytes = by_sentinel n bytes (begins 0x41 bytes) (parameter_kinds_are n) refl
