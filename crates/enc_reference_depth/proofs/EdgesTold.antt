-- What the tokens that were collected tell of depths.
use Rattle.std.proofs.Common.{◌≡◌, ℕ, zero, suc, ◌+◌, ◌<◌, ◌≤◌, Bool, true, false, List, [], ◌∷◌, ◌++◌, length, take, Some, None, refl, sym, ap, subst, ◌∙◌, append_assoc, inl, inr, arith}
use Rattle.std.specs.Prelude.{◌==◌, max, slice_get, if◌then◌else◌}
use Rattle.std.proofs.lemmas.Bool.{eq-eqb, ne_eqb, cases_eq}
use Rattle.std.proofs.lemmas.List.{append-nil, take_all}
use Rattle.std.proofs.lemmas.Option.{slice_get_within}
use Rattle.enc_base.specs.declared.token.Token.{Token}
use Rattle.enc_sigs.specs.Tree.{Forest, none, more, Tree, SigTree, trees, forest_of, forest_size, tree_size}
use Rattle.enc_plain.specs.Module.{Module, cells_of}
use Rattle.enc_reference_depth.specs.Depth.{deepest}
use Rattle.enc_reference_depth.specs.Edges.{has_depth, edge_of, edges_in, AreFew, greatest, row_at_place, depth_from, IsFlat, AreEdges}
use Rattle.enc_reference_depth.specs.declared.edges.Edge.{Edge}

-- lists one behind the other
max_by : (b : Bool) (n x y : ℕ) → (if b then max n (max x y) else max x y) ≡ max (if b then max n x else x) y
max_by true n x y = omega arith
max_by false n x y = refl

greatest-append : (depth : Token → ℕ) (place : ℕ) (xs ys : List Edge) → greatest depth place (xs ++ ys) ≡ max (greatest depth place xs) (greatest depth place ys)
greatest-append depth place [] ys = omega arith
greatest-append depth place (x ∷ xs) ys =
    rw (greatest-append depth place xs ys) (max_by (x.place == place) (1 + depth x.token) (greatest depth place xs) (greatest depth place ys))

-- the edges of one token
edge_told_by : (depth : Token → ℕ) (place : ℕ) (t : Token) (b : Bool) → has_depth t ≡ b → IsFlat depth → max 1 (greatest depth place (edge_of place t)) ≡ 1 + depth t
edge_told_by depth place t true e flat = rw (e, eq-eqb place place refl) (omega arith)
edge_told_by depth place t false e flat = let none = flat.others t e in rw e (omega (arith, none))

edge_told : (depth : Token → ℕ) (place : ℕ) (t : Token) → IsFlat depth → max 1 (greatest depth place (edge_of place t)) ≡ 1 + depth t
edge_told depth place t flat = edge_told_by depth place t (has_depth t) refl flat

edge_other_by : (depth : Token → ℕ) (place k : ℕ) (t : Token) (b : Bool) → has_depth t ≡ b → (place == k) ≡ false → greatest depth k (edge_of place t) ≡ 0
edge_other_by depth place k t true e other = rw (e, other) refl
edge_other_by depth place k t false e other = rw e refl

edge_other : (depth : Token → ℕ) (place k : ℕ) (t : Token) → (place == k) ≡ false → greatest depth k (edge_of place t) ≡ 0
edge_other depth place k t other = edge_other_by depth place k t (has_depth t) refl other

-- the edges of types
types_told : (depth : Token → ℕ) (place : ℕ) (f : Forest) → IsFlat depth → max 1 (greatest depth place (edges_in place f)) ≡ 1 + deepest depth f
types_told depth place none flat = omega arith
types_told depth place (more e t n k r) flat =
    let a = edge_told depth place t flat in
    let b = types_told depth place k flat in
    let c = types_told depth place r flat in
    rw (greatest-append depth place (edge_of place t) (edges_in place k ++ edges_in place r), greatest-append depth place (edges_in place k) (edges_in place r))
    (omega (arith, a, b, c))

types_other : (depth : Token → ℕ) (place k : ℕ) (f : Forest) → (place == k) ≡ false → greatest depth k (edges_in place f) ≡ 0
types_other depth place k none other = refl
types_other depth place k (more e t n g r) other =
    rw (
      greatest-append depth k (edge_of place t) (edges_in place g ++ edges_in place r),
      greatest-append depth k (edges_in place g) (edges_in place r),
      edge_other depth place k t other,
      types_other depth place k g other,
      types_other depth place k r other,
    ) refl

-- what is added for the next row
record TellsNext (m : Module) (n : ℕ) (added : List Edge) : Type 0 where
  here : (depth : Token → ℕ) → IsFlat depth → max 1 (greatest depth n added) ≡ depth_from (cells_of m) depth (row_at_place m n)
  others : (depth : Token → ℕ) (k : ℕ) → (n == k) ≡ false → greatest depth k added ≡ 0

told_first : (m : Module) (n k : ℕ) (edges added : List Edge) (depth : Token → ℕ) → IsFlat depth → AreEdges m n edges → TellsNext m n added → k < n + 1
    → max 1 (greatest depth k (edges ++ added)) ≡ depth_from (cells_of m) depth (row_at_place m k)
told_first m n k edges added depth flat are next low =
    elim (cases_eq k n) [
      | inl e ↦
          let past = (are.each depth flat).beyond n (omega arith) in
          let here = next.here depth flat in
          subst (λ j. max 1 (greatest depth j (edges ++ added)) ≡ depth_from (cells_of m) depth (row_at_place m j)) (sym e)
          (rw (greatest-append depth n edges added, past) (none_first (greatest depth n added) ∙ here))
      | inr d ↦
          let before = (are.each depth flat).upto k (less k n low d) in
          let nothing = next.others depth k (ne_eqb n k (λ e. d (sym e))) in
          rw (greatest-append depth k edges added, nothing) (no_more (greatest depth k edges) ∙ before)
    ]
  where
    less : (k n : ℕ) → k < n + 1 → (k ≡ n → ⊥) → k < n
    less k n low d = omega arith

    no_more : (x : ℕ) → max 1 (max x 0) ≡ max 1 x
    no_more x = omega arith

    none_first : (x : ℕ) → max 1 (max 0 x) ≡ max 1 x
    none_first x = omega arith

told_past : (m : Module) (n k : ℕ) (edges added : List Edge) (depth : Token → ℕ) → IsFlat depth → AreEdges m n edges → TellsNext m n added → n + 1 ≤ k
    → greatest depth k (edges ++ added) ≡ 0
told_past m n k edges added depth flat are next low =
    let past = (are.each depth flat).beyond k (omega arith) in
    let nothing = next.others depth k (ne_eqb n k (λ e. omega (arith, low, e))) in
    rw (greatest-append depth k edges added, past, nothing) refl

told_more : (m : Module) (n : ℕ) (edges added : List Edge) → AreEdges m n edges → TellsNext m n added → AreEdges m (n + 1) (edges ++ added)
told_more m n edges added are next = record {
  each = λ depth flat. record {
    upto = λ k low. told_first m n k edges added depth flat are next low;
    beyond = λ k low. told_past m n k edges added depth flat are next low;
  };
}

-- nothing tells of no row
pub told_none : (m : Module) → AreEdges m 0 []
told_none m = record { each = λ depth flat. record { upto = λ k low. absurd (omega arith); beyond = λ k low. refl } }

-- a scope tells of a TypeRef
pub told_scope : (m : Module) (n : ℕ) (edges after : List Edge) (t : Token) → AreEdges m n edges → after ≡ edges ++ edge_of n t
    → ((depth : Token → ℕ) → depth_from (cells_of m) depth (row_at_place m n) ≡ 1 + depth t) → AreEdges m (n + 1) after
told_scope m n edges after t are e is =
    subst (AreEdges m (n + 1)) (sym e) (told_more m n edges (edge_of n t) are (record {
      here = λ depth flat. edge_told depth n t flat ∙ sym (is depth);
      others = λ depth k other. edge_other depth n k t other;
    }))

-- and the types of a signature tell of a TypeSpec
pub told_types : (m : Module) (n : ℕ) (edges : List Edge) (f : Forest) → AreEdges m n edges
    → ((depth : Token → ℕ) → depth_from (cells_of m) depth (row_at_place m n) ≡ 1 + deepest depth f) → AreEdges m (n + 1) (edges ++ edges_in n f)
told_types m n edges f are is =
    told_more m n edges (edges_in n f) are (record {
      here = λ depth flat. types_told depth n f flat ∙ sym (is depth);
      others = λ depth k other. types_other depth n k f other;
    })

-- types one behind the other
pub forest_of_trees : (f : Forest) → forest_of (trees f) ≡ f
forest_of_trees none = refl
forest_of_trees (more e t n k r) = ap (more e t n k) (forest_of_trees r)

edges_in-append : (place : ℕ) (xs ys : List Tree) → edges_in place (forest_of (xs ++ ys)) ≡ edges_in place (forest_of xs) ++ edges_in place (forest_of ys)
edges_in-append place [] ys = refl
edges_in-append place (x ∷ xs) ys =
    let a = edge_of place x.token in
    let b = edges_in place x.kids in
    let c = edges_in place (forest_of xs) in
    let d = edges_in place (forest_of ys) in
    rw (edges_in-append place xs ys) (ap (λ es. a ++ es) (sym (append_assoc b c d)) ∙ sym (append_assoc a (b ++ c) d))

one_more : (xs : List Tree) (i : ℕ) (x : Tree) → Some x ≡ slice_get xs i → take (i + 1) xs ≡ take i xs ++ x ∷ []
one_more [] i x h = absurd cc
one_more (y ∷ xs) zero x h = let e : x ≡ y = cc in rw e refl
one_more (y ∷ xs) (suc i) x h = let e : suc i + 1 ≡ suc (i + 1) = omega arith in rw e (ap (λ ys. y ∷ ys) (one_more xs i x h))

-- one type more
pub edges_more : (place i : ℕ) (xs : List Tree) (x : Tree) → Some x ≡ slice_get xs i
    → edges_in place (forest_of (take (i + 1) xs)) ≡ edges_in place (forest_of (take i xs)) ++ edges_in place (forest_of (x ∷ []))
edges_more place i xs x h = rw (one_more xs i x h) (edges_in-append place (take i xs) (x ∷ []))

-- each type of these is few and smaller
pub few_kid : (f : Forest) (i : ℕ) (x : Tree) → Some x ≡ slice_get (trees f) i → AreFew f → AreFew (forest_of (x ∷ []))
few_kid none i x h few = absurd cc
few_kid (more e t n k r) zero x h few =
    let is : x ≡ record { element = e; token = t; number = n; kids = k } = cc in
    subst (λ (y : Tree). AreFew (forest_of (y ∷ []))) (sym is) (few.0, few.1, tt)
few_kid (more e t n k r) (suc i) x h few = few_kid r i x h few.2

pub small_kid : (f : Forest) (i : ℕ) (x : Tree) → Some x ≡ slice_get (trees f) i → tree_size x ≤ forest_size f
small_kid none i x h = absurd cc
small_kid (more e t n k r) zero x h =
    let is : x ≡ record { element = e; token = t; number = n; kids = k } = cc in
    subst (λ (y : Tree). tree_size y ≤ 1 + forest_size k + forest_size r) (sym is) (omega arith)
small_kid (more e t n k r) (suc i) x h = let less = small_kid r i x h in omega (arith, less)

pub kid_there : {A : Type 0} (xs : List A) (i : ℕ) (x : A) → Some x ≡ slice_get xs i → i < length xs
kid_there xs i x h = slice_get_within xs i x (sym h)

pub no_kid : {A : Type 0} (xs : List A) (i : ℕ) → None ≡ slice_get xs i → take i xs ≡ xs
no_kid [] zero h = refl
no_kid [] (suc i) h = refl
no_kid (y ∷ xs) zero h = absurd cc
no_kid (y ∷ xs) (suc i) h = ap (λ ys. y ∷ ys) (no_kid xs i h)

few_list : (ts : List Tree) (t : Tree) → AreFew (forest_of (t ∷ ts)) → AreFew (forest_of ts)
few_list ts t few = few.2

pub few_part : (ts : List Tree) (i : ℕ) (x : Tree) → Some x ≡ slice_get ts i → AreFew (forest_of ts) → AreFew (forest_of (x ∷ []))
few_part [] i x h few = absurd cc
few_part (t ∷ ts) zero x h few = let is : x ≡ t = cc in subst (λ (y : Tree). AreFew (forest_of (y ∷ []))) (sym is) (few.0, few.1, tt)
few_part (t ∷ ts) (suc i) x h few = few_part ts i x h (few_list ts t few)

-- the edges of a type and of the types in it, up to a kid
pub edges_kid : (place : ℕ) (x : Tree) (i : ℕ) (kid : Tree) (before now after : List Edge) → Some kid ≡ slice_get (trees x.kids) i
    → now ≡ before ++ (edge_of place x.token ++ edges_in place (forest_of (take i (trees x.kids)))) → after ≡ now ++ edges_in place (forest_of (kid ∷ []))
    → after ≡ before ++ (edge_of place x.token ++ edges_in place (forest_of (take (i + 1) (trees x.kids))))
edges_kid place x i kid before now after h e f =
    let a = edge_of place x.token in
    let b = edges_in place (forest_of (take i (trees x.kids))) in
    let d = edges_in place (forest_of (kid ∷ [])) in
    f ∙ ap (λ es. es ++ d) e ∙ append_assoc before (a ++ b) d
    ∙ ap (λ es. before ++ es) (append_assoc a b d ∙ ap (λ es. a ++ es) (sym (edges_more place i (trees x.kids) kid h)))

-- and all of them
pub edges_all : (place : ℕ) (x : Tree) (i : ℕ) (before now : List Edge) → None ≡ slice_get (trees x.kids) i
    → now ≡ before ++ (edge_of place x.token ++ edges_in place (forest_of (take i (trees x.kids))))
    → now ≡ before ++ edges_in place (forest_of (x ∷ []))
edges_all place x i before now h e =
    let all = ap (edges_in place) (ap forest_of (no_kid (trees x.kids) i h) ∙ forest_of_trees x.kids) in
    e ∙ ap (λ es. before ++ (edge_of place x.token ++ es)) (all ∙ sym (append-nil (edges_in place x.kids)))

-- the edges of a signature, up to a part
pub edges_part : (place : ℕ) (parts : List Tree) (i : ℕ) (x : Tree) (before now after : List Edge) → Some x ≡ slice_get parts i
    → now ≡ before ++ edges_in place (forest_of (take i parts)) → after ≡ now ++ edges_in place (forest_of (x ∷ []))
    → after ≡ before ++ edges_in place (forest_of (take (i + 1) parts))
edges_part place parts i x before now after h e f =
    let a = edges_in place (forest_of (take i parts)) in
    let d = edges_in place (forest_of (x ∷ [])) in
    f ∙ ap (λ es. es ++ d) e ∙ append_assoc before a d ∙ ap (λ es. before ++ es) (sym (edges_more place i parts x h))

pub edges_whole : (place : ℕ) (parts : List Tree) (i : ℕ) (before now : List Edge) → length parts ≤ i
    → now ≡ before ++ edges_in place (forest_of (take i parts)) → now ≡ before ++ edges_in place (forest_of parts)
edges_whole place parts i before now h e = e ∙ ap (λ ts. before ++ edges_in place (forest_of ts)) (take_all i parts h)

pub part_there : {A : Type 0} (xs : List A) (i : ℕ) → i < length xs → None ≡ slice_get xs i → ⊥
part_there [] i h e = omega (arith, h)
part_there (x ∷ xs) zero h e = absurd cc
part_there (x ∷ xs) (suc i) h e = part_there xs i (omega arith) e

-- the signature of a TypeSpec that stands behind the TypeRefs
pub told_spec : (m : Module) (refs n place : ℕ) (edges after : List Edge) (s : SigTree) → AreEdges m (refs + n) edges → place ≡ refs + n
    → after ≡ edges ++ edges_in place (forest_of s.parts)
    → ((depth : Token → ℕ) → depth_from (cells_of m) depth (row_at_place m (refs + n)) ≡ 1 + deepest depth (forest_of s.parts))
    → AreEdges m (refs + (n + 1)) after
told_spec m refs n place edges after s are is e from =
    let next : refs + n + 1 ≡ refs + (n + 1) = omega arith in
    let all : after ≡ edges ++ edges_in (refs + n) (forest_of s.parts) = e ∙ ap (λ k. edges ++ edges_in k (forest_of s.parts)) is in
    subst (λ k. AreEdges m k after) next
    (subst (AreEdges m (refs + n + 1)) (sym all) (told_types m (refs + n) edges (forest_of s.parts) are from))
