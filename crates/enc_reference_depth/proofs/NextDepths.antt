-- Depths by walks of one step more, and what they tell in the end.
use Rattle.std.proofs.Common.{◌≡◌, ℕ, zero, suc, ◌+◌, ◌-◌, ◌<◌, ◌≤◌, Bool, true, false, List, ◌∷◌, ◌++◌, length, take, drop, get_or, replicate, Option, Some, None, refl, sym, ap, subst, ◌∙◌, arith}
use Rattle.std.specs.Prelude.{◌==◌, max, nat_lt, slice_index, if◌then◌else◌}
use Rattle.std.proofs.lemmas.Bool.{eqb-true, ltb-true, ltb-false, or_parts}
use Rattle.std.proofs.lemmas.Bool.Decides.{nat_tests}
use Rattle.std.proofs.lemmas.List.{drop_all, get_or-replicate, get_or_past, length-replicate}
use Rattle.std.proofs.Math.Seq.{take-append_seam}
use Rattle.enc_base.specs.Token.{nil, nth_row}
use Rattle.enc_base.specs.Order.{or_else, first_below}
use Rattle.enc_base.specs.declared.token.Token.{Token}
use Rattle.enc_base.proofs.First.{first_none, first_suc}
use Rattle.enc_sigs.specs.Grammar.{is_coded, sig_in}
use Rattle.enc_sigs.specs.Tree.{Forest, none, more, SigTree, forest_of}
use Rattle.enc_sigs.specs.declared.kind.SigKind.TheVariants.{TypeSpec}
use Rattle.enc_plain.specs.Module.{Module, cells_of, has_row}
use Rattle.enc_plain.specs.Rows.{Rows, bytes_at, token_at}
use Rattle.enc_plain.specs.Signatures.{kind_in_table}
use Rattle.enc_plain.specs.Sound.{IsSound, row_count}
use Rattle.enc_reference_depth.specs.Depth.{deepest, deepest_in, depth_within, deep_at, first_deep}
use Rattle.enc_reference_depth.specs.Edges.{greatest, row_at_place, depth_from, IsFlat, AreEdges, deep_count, depth_in, AreDepths, AreLow, AreNext, IsRaised, deep_row}
use Rattle.enc_reference_depth.specs.declared.edges.Edge.{Edge}
use Rattle.enc_reference_depth.proofs.Agreeing.{Each, each_parts, EachOf}
use Rattle.enc_reference_depth.proofs.Signatures.{EachIn}
use Rattle.enc_reference_depth.proofs.Ends.{depth_none, depth_type, depth_spec, depth_other, row_is_some, some_of_row}
use Rattle.enc_reference_depth.proofs.Sound.{Names, nothing, row, nth_is, rows_of, scope_names}
use Rattle.enc_reference_depth.proofs.RowsRead.{row_here, places}
use Rattle.enc_reference_depth.proofs.TokensKept.{spec_names}

-- no walk counts more than its steps
tested : (a b c : Bool) (x y n : ℕ) → x ≤ n → y ≤ n → (if a then 0 else if b then x else if c then y else 0) ≤ n
tested true b c x y n h k = omega arith
tested false true c x y n h k = h
tested false false true x y n h k = k
tested false false false x y n h k = omega arith

deepest_low : (depth : Token → ℕ) (n : ℕ) (f : Forest) → ((t : Token) → depth t ≤ n) → deepest depth f ≤ n
deepest_low depth n none low = omega arith
deepest_low depth n (more e t k f r) low =
    let a = low t in
    let b = deepest_low depth n f low in
    let c = deepest_low depth n r low in
    omega (arith, a, b, c)

parts_low : (depth : Token → ℕ) (n : ℕ) (o : Option SigTree) → ((t : Token) → depth t ≤ n) → deepest_in depth o ≤ n
parts_low depth n None low = omega arith
parts_low depth n (Some s) low = deepest_low depth n (forest_of s.parts) low

depth_low : (rows : Rows) (n : ℕ) (t : Token) → depth_within rows n t ≤ n
unfolding depth_within
depth_low rows zero t = omega arith
depth_low rows (suc n) t =
    let scope = token_at rows t 0 in
    let spec = sig_in is_coded TypeSpec (bytes_at rows t 0) in
    tested (t.row == 0) (t.table == 0x01) (t.table == 0x1B) (1 + depth_within rows n scope) (1 + deepest_in (depth_within rows n) spec) (suc n)
    (omega (arith, depth_low rows n scope)) (omega (arith, parts_low (depth_within rows n) n spec (depth_low rows n)))

low_by : (m : Module) (n : ℕ) (depths : List ℕ) (k : ℕ) → AreDepths m n depths → n ≤ 100 → (b : Bool) → nat_lt k (deep_count m) ≡ b → get_or depths k 0 ≤ 100
low_by m n depths k are few true e =
    let a = are.each k (ltb-true k (deep_count m) e) in
    let b = depth_low (cells_of m) n (row_at_place m k) in
    omega (arith, a, b, few)
low_by m n depths k are few false e =
    let a = get_or_past depths k 0 (omega (arith, are.count, ltb-false k (deep_count m) e)) in
    omega (arith, a)

pub are_low : (m : Module) (n : ℕ) (depths : List ℕ) → AreDepths m n depths → n ≤ 100 → AreLow depths
are_low m n depths are few k = low_by m n depths k are few (nat_lt k (deep_count m)) refl

-- what stands at places is no depth of other tokens
flat_by : (z : Bool) (x y : ℕ) → (if z then 0 else if false then x else if false then y else 0) ≡ 0
flat_by true x y = refl
flat_by false x y = refl

flat_in : (refs : ℕ) (depths : List ℕ) → IsFlat (depth_in refs depths)
unfolding depth_in
flat_in refs depths = record {
  others = λ t h.
      let p = or_parts (t.table == 0x01) (t.table == 0x1B) h in
      rw (p.0, p.1) (flat_by (t.row == 0) (slice_index depths (t.row - 1)) (slice_index depths (refs + t.row - 1)));
}

nil_in : (refs : ℕ) (depths : List ℕ) → depth_in refs depths nil ≡ 0
unfolding depth_in
nil_in refs depths = refl

type_in : (refs : ℕ) (depths : List ℕ) (t : Token) → (t.row == 0) ≡ false → (t.table == 0x01) ≡ true → depth_in refs depths t ≡ get_or depths (t.row - 1) 0
unfolding depth_in
type_in refs depths t r e = rw (r, e) refl

spec_in : (refs : ℕ) (depths : List ℕ) (t : Token) → (t.row == 0) ≡ false → (t.table == 0x01) ≡ false → (t.table == 0x1B) ≡ true
    → depth_in refs depths t ≡ get_or depths (refs + t.row - 1) 0
unfolding depth_in
spec_in refs depths t r e f = rw (r, e, f) refl

in_by : (a b c : Bool) (x y : ℕ) → x ≤ 100 → y ≤ 100 → (if a then 0 else if b then x else if c then y else 0) ≤ 100
in_by a b c x y h k = tested a b c x y 100 h k

in_low : (refs : ℕ) (depths : List ℕ) (t : Token) → AreLow depths → depth_in refs depths t ≤ 100
unfolding depth_in
in_low refs depths t low =
    in_by (t.row == 0) (t.table == 0x01) (t.table == 0x1B) (slice_index depths (t.row - 1)) (slice_index depths (refs + t.row - 1)) (low (t.row - 1)) (low (refs + t.row - 1))

pub depth_fits : (refs : ℕ) (depths : List ℕ) (t : Token) (depth : ℕ) → AreLow depths → depth ≡ depth_in refs depths t → depth ≤ 100
depth_fits refs depths t depth low e = subst (λ k. k ≤ 100) (sym e) (in_low refs depths t low)

module _ (m : Module) (n refs : ℕ) (depths : List ℕ) (are : AreDepths m n depths) (same : refs ≡ row_count m 0x01) where
  type_depth : (t : Token) → t.table ≡ 0x01 → has_row m t ≡ true → get_or depths (t.row - 1) 0 ≡ depth_within (cells_of m) n t
  type_depth t e there =
      let r = rows_of m t there in
      let high : t.row ≤ row_count m 0x01 = rw e at r.1 in
      let low : t.row - 1 < row_count m 0x01 = omega (arith, r.0, high) in
      are.each (t.row - 1) (omega (arith, low)) ∙ ap (depth_within (cells_of m) n) ((places m (t.row - 1)).0 low ∙ nth_is t 0x01 e r.0)

  spec_depth : (t : Token) → t.table ≡ 0x1B → has_row m t ≡ true → get_or depths (refs + t.row - 1) 0 ≡ depth_within (cells_of m) n t
  spec_depth t e there =
      let r = rows_of m t there in
      let high : t.row ≤ row_count m 0x1B = rw e at r.1 in
      let at : refs + t.row - 1 ≡ row_count m 0x01 + (t.row - 1) = omega (arith, r.0, same) in
      let low : row_count m 0x01 + (t.row - 1) < deep_count m = omega (arith, r.0, high) in
      rw at
      (are.each (row_count m 0x01 + (t.row - 1)) low ∙ ap (depth_within (cells_of m) n) ((places m (t.row - 1)).1 ∙ nth_is t 0x1B e r.0))

  row_depth : (t : Token) (a b : Bool) → (t.table == 0x01) ≡ a → (t.table == 0x1B) ≡ b → has_row m t ≡ true
      → depth_in refs depths t ≡ depth_within (cells_of m) n t
  row_depth t true b e f there =
      type_in refs depths t (row_is_some m t (some_of_row m t there)) e ∙ type_depth t (eqb-true t.table 0x01 e) there
  row_depth t false true e f there =
      spec_in refs depths t (row_is_some m t (some_of_row m t there)) e f ∙ spec_depth t (eqb-true t.table 0x1B f) there
  row_depth t false false e f there =
      (flat_in refs depths).others t (rw (e, f) refl) ∙ sym (depth_other (cells_of m) n t e f)

  -- what stands at the place of a token that names a row is its depth
  names_depth : (t : Token) → Names m t → depth_in refs depths t ≡ depth_within (cells_of m) n t
  names_depth t (nothing e) = rw e (nil_in refs depths ∙ sym (depth_none (cells_of m) n nil refl))
  names_depth t (row there) = row_depth t (t.table == 0x01) (t.table == 0x1B) refl refl there

  deepest_same : (f : Forest) → Each (Names m) f → deepest (depth_in refs depths) f ≡ deepest (depth_within (cells_of m) n) f
  deepest_same none h = refl
  deepest_same (more e t k g r) h =
      let p = each_parts (Names m) e t k g r h in
      rw (names_depth t p.0, deepest_same g p.1, deepest_same r p.2) refl

  parts_same : (o : Option SigTree) → ((s : SigTree) → o ≡ Some s → Each (Names m) (forest_of s.parts))
      → deepest_in (depth_in refs depths) o ≡ deepest_in (depth_within (cells_of m) n) o
  parts_same None h = refl
  parts_same (Some s) h = deepest_same (forest_of s.parts) (h s refl)

-- the rows that have depths, one step more
spec_of : (P : Token → Type 0) (bytes : List ℕ) → EachIn P 0x1B bytes → EachOf P TypeSpec bytes
unfolding kind_in_table
spec_of P bytes h = h

from_type : (rows : Rows) (depth : Token → ℕ) (t : Token) → t.table ≡ 0x01 → depth_from rows depth t ≡ 1 + depth (token_at rows t 0)
unfolding depth_from
from_type rows depth t e = let is : (t.table == 0x01) ≡ true = grind (arith, nat_tests) in rw is refl

from_spec : (rows : Rows) (depth : Token → ℕ) (t : Token) → t.table ≡ 0x1B
    → depth_from rows depth t ≡ 1 + deepest_in depth (sig_in is_coded TypeSpec (bytes_at rows t 0))
unfolding depth_from
from_spec rows depth t e = let is : (t.table == 0x01) ≡ false = grind (arith, nat_tests) in rw is refl

module _ (m : Module) (n refs : ℕ) (depths : List ℕ) (sound : IsSound m) (are : AreDepths m n depths) (same : refs ≡ row_count m 0x01) where
  type_step : (t : Token) → t.table ≡ 0x01 → has_row m t ≡ true → depth_from (cells_of m) (depth_in refs depths) t ≡ depth_within (cells_of m) (suc n) t
  type_step t e there =
      from_type (cells_of m) (depth_in refs depths) t e
      ∙ ap (λ k. 1 + k) (names_depth m n refs depths are same (token_at (cells_of m) t 0) (scope_names m t sound e there))
      ∙ sym (depth_type (cells_of m) n t (row_is_some m t (some_of_row m t there)) e)

  spec_step : (t : Token) → t.table ≡ 0x1B → has_row m t ≡ true → depth_from (cells_of m) (depth_in refs depths) t ≡ depth_within (cells_of m) (suc n) t
  spec_step t e there =
      from_spec (cells_of m) (depth_in refs depths) t e
      ∙ ap (λ k. 1 + k) (parts_same m n refs depths are same (sig_in is_coded TypeSpec (bytes_at (cells_of m) t 0))
      (spec_of (Names m) (bytes_at (cells_of m) t 0) (spec_names m t sound there e)).each)
      ∙ sym (depth_spec (cells_of m) n t (row_is_some m t (some_of_row m t there)) e)

  abbrev Steps : ℕ → Type 0
  Steps k = depth_from (cells_of m) (depth_in refs depths) (row_at_place m k) ≡ depth_within (cells_of m) (suc n) (row_at_place m k)

  place_step : (k : ℕ) → k < deep_count m → (b : Bool) → nat_lt k (row_count m 0x01) ≡ b → Steps k
  place_step k low true e =
      let first = ltb-true k (row_count m 0x01) e in
      rw ((places m k).0 first) (type_step (nth_row 0x01 k) refl (row_here m 0x01 k first))
  place_step k low false e =
      let high = ltb-false k (row_count m 0x01) e in
      let j = k - row_count m 0x01 in
      let at : row_count m 0x01 + j ≡ k = omega (arith, high) in
      let less : j < row_count m 0x1B = omega (arith, low, high) in
      subst (λ i. Steps i) at (rw ((places m j).1) (spec_step (nth_row 0x1B j) refl (row_here m 0x1B j less)))

  -- the depths of the next round
  pub next_are : (edges : List Edge) (next : List ℕ) → AreEdges m (deep_count m) edges → AreNext edges refs depths next → AreDepths m (n + 1) next
  next_are edges next told is = record {
    count = is.count ∙ are.count;
    each = λ k low.
        let one : n + 1 ≡ suc n = omega arith in
        is.each k (omega (arith, low, are.count)) ∙ (told.each (depth_in refs depths) (flat_in refs depths)).upto k low
        ∙ place_step k low (nat_lt k (row_count m 0x01)) refl ∙ ap (λ i. depth_within (cells_of m) i (row_at_place m k)) (sym one);
  }

-- so many equal numbers
abbrev pub same_of : ℕ → ℕ → List ℕ
same_of n x = replicate n x

-- walks of no steps count nothing
zero_at : (n k : ℕ) → get_or (same_of n 0) k 0 ≡ 0
zero_at zero k = refl
zero_at (suc n) zero = refl
zero_at (suc n) (suc k) = zero_at n k

zero_depth : (rows : Rows) (t : Token) → depth_within rows 0 t ≡ 0
unfolding depth_within
zero_depth rows t = refl

pub first_are : (m : Module) (count : ℕ) (depths : List ℕ) → depths ≡ same_of count 0 → count ≡ deep_count m → AreDepths m 0 depths
first_are m count depths e is = record {
  count = ap length e ∙ length-replicate count 0 ∙ is;
  each = λ k low. ap (λ (xs : List ℕ). get_or xs k 0) e ∙ zero_at count k ∙ sym (zero_depth (cells_of m) (row_at_place m k));
}

-- one round over the edges
abbrev pub RoundAt : List Edge → (Token → ℕ) → ℕ → List ℕ → ℕ → Type 0
RoundAt edges depth count next i =
    (length next ≡ count) × ((k : ℕ) → k < count → max (get_or next k 0) (greatest depth k (drop i edges)) ≡ max 1 (greatest depth k edges))

pub round_begins : (edges : List Edge) (depth : Token → ℕ) (count : ℕ) (next : List ℕ) → next ≡ same_of count 1 → RoundAt edges depth count next 0
round_begins edges depth count next e = (
  ap length e ∙ length-replicate count 1,
  λ k low. ap (λ (xs : List ℕ). max (get_or xs k 0) (greatest depth k edges)) e ∙ ap (λ x. max x (greatest depth k edges)) (get_or-replicate count k 1 0 low),
)

raised_by : (b : Bool) (x y z : ℕ) → max (if b then max x y else y) z ≡ max y (if b then max x z else z)
raised_by true x y z = omega arith
raised_by false x y z = refl

pub round_goes : (edges : List Edge) (depth : Token → ℕ) (count : ℕ) (old new : List ℕ) (i : ℕ) (e : Edge) (raised : ℕ)
    → RoundAt edges depth count old i → drop i edges ≡ e ∷ drop (i + 1) edges → raised ≡ 1 + depth e.token → IsRaised e.place raised old new
    → RoundAt edges depth count new (i + 1)
round_goes edges depth count old new i e raised at left is up = (
  up.count ∙ at.0,
  λ k low.
      let here = up.each k (omega (arith, low, at.0)) in
      let before = at.1 k low in
      ap (λ x. max x (greatest depth k (drop (i + 1) edges))) (here ∙ ap (λ x. if e.place == k then max x (get_or old k 0) else get_or old k 0) is)
      ∙ raised_by (e.place == k) (1 + depth e.token) (get_or old k 0) (greatest depth k (drop (i + 1) edges))
      ∙ ap (λ (xs : List Edge). max (get_or old k 0) (greatest depth k xs)) (sym left) ∙ before,
)

pub round_ends : (edges : List Edge) (refs : ℕ) (depths next : List ℕ) (i : ℕ) → RoundAt edges (depth_in refs depths) (length depths) next i
    → length edges ≤ i → AreNext edges refs depths next
round_ends edges refs depths next i at all = record {
  count = at.0;
  each = λ k low.
      let done = ap (λ (xs : List Edge). max (get_or next k 0) (greatest (depth_in refs depths) k xs)) (drop_all i edges all) in
      no_more (get_or next k 0) ∙ sym done ∙ at.1 k low;
}
  where
    no_more : (x : ℕ) → x ≡ max x 0
    no_more x = omega arith

-- what was lent is written back
pub written_back : (new old : List ℕ) (size : ℕ) → length new ≡ size → take size (new ++ drop (length new) old) ≡ new
written_back new old size is = ap (λ k. take k (new ++ drop (length new) old)) (sym is) ∙ take-append_seam new (drop (length new) old)

-- depths by place tell the first that is too deep
first_same : {A : Type 0} (f g : ℕ → Option A) (n : ℕ) → ((k : ℕ) → k < n → f k ≡ g k) → first_below f n ≡ first_below g n
first_same f g zero h = first_none f ∙ sym (first_none g)
first_same {A} f g (suc n) h =
    first_suc f n ∙ ap (λ (o : Option A). or_else o (f n)) (first_same f g n (λ k low. h k (omega (arith, low)))) ∙ ap (or_else (first_below g n)) (h n (omega arith))
    ∙ sym (first_suc g n)

deep_same : (m : Module) (depths : List ℕ) (first table n : ℕ) → get_or depths (first + n) 0 ≡ depth_within (cells_of m) 100 (nth_row table n)
    → deep_row depths first table n ≡ deep_at m table n
unfolding deep_row deep_at
deep_same m depths first table n e = rw e refl

types_deep : (m : Module) (depths : List ℕ) (n : ℕ) → AreDepths m 100 depths → n < row_count m 0x01 → deep_row depths 0 0x01 n ≡ deep_at m 0x01 n
types_deep m depths n are low =
    deep_same m depths 0 0x01 n (none_first n ∙ are.each n (omega (arith, low)) ∙ ap (depth_within (cells_of m) 100) ((places m n).0 low))
  where
    none_first : (n : ℕ) → get_or depths (0 + n) 0 ≡ get_or depths n 0
    none_first n = let e : 0 + n ≡ n = omega arith in rw e refl

specs_deep : (m : Module) (refs : ℕ) (depths : List ℕ) (n : ℕ) → AreDepths m 100 depths → refs ≡ row_count m 0x01 → n < row_count m 0x1B
    → deep_row depths refs 0x1B n ≡ deep_at m 0x1B n
specs_deep m refs depths n are is low =
    deep_same m depths refs 0x1B n
    (ap (λ k. get_or depths (k + n) 0) is ∙ are.each (row_count m 0x01 + n) (omega (arith, low)) ∙ ap (depth_within (cells_of m) 100) ((places m n).1))

pub deep_by_places : (m : Module) (refs specs : ℕ) (depths : List ℕ) → AreDepths m 100 depths → refs ≡ row_count m 0x01 → specs ≡ row_count m 0x1B
    → or_else (first_below (deep_row depths 0 0x01) refs) (first_below (deep_row depths refs 0x1B) specs) ≡ first_deep m
unfolding first_deep
deep_by_places m refs specs depths are is too =
    ap (λ (o : Option Token). or_else o (first_below (deep_row depths refs 0x1B) specs))
    (ap (first_below (deep_row depths 0 0x01)) is ∙ first_same (deep_row depths 0 0x01) (deep_at m 0x01) (row_count m 0x01) (λ n low. types_deep m depths n are low))
    ∙ ap (or_else (first_below (deep_at m 0x01) (row_count m 0x01)))
    (ap (first_below (deep_row depths refs 0x1B)) too
    ∙ first_same (deep_row depths refs 0x1B) (deep_at m 0x1B) (row_count m 0x1B) (λ n low. specs_deep m refs depths n are is low))

pub row_is_deep : (depths : List ℕ) (first table n d : ℕ) → 100 ≤ d → d ≡ slice_index depths (first + n)
    → Some (record { table = table; row = n + 1 }) ≡ deep_row depths first table n
unfolding deep_row
row_is_deep depths first table n d high e =
    let test : nat_lt (slice_index depths (first + n)) 100 ≡ false = grind (arith, nat_tests) in
    rw test refl

pub row_is_low : (depths : List ℕ) (first table n d : ℕ) → d < 100 → d ≡ slice_index depths (first + n) → deep_row depths first table n ≡ None
unfolding deep_row
row_is_low depths first table n d low e =
    let test : nat_lt (slice_index depths (first + n)) 100 ≡ true = grind (arith, nat_tests) in
    rw test refl

-- what is found among TypeRefs, and what among TypeSpecs where nothing is found there
pub found_first : (m : Module) (refs : ℕ) (depths : List ℕ) (t : Token) → AreDepths m 100 depths → refs ≡ row_count m 0x01
    → Some t ≡ first_below (deep_row depths 0 0x01) refs → Some t ≡ first_deep m
found_first m refs depths t are is e =
    ap (λ (o : Option Token). or_else o (first_below (deep_row depths refs 0x1B) (row_count m 0x1B))) e
    ∙ deep_by_places m refs (row_count m 0x1B) depths are is refl

pub found_second : (m : Module) (refs specs : ℕ) (depths first second : List ℕ) (o : Option Token) → AreDepths m 100 depths → refs ≡ row_count m 0x01
    → specs ≡ row_count m 0x1B → first ≡ depths → second ≡ depths → None ≡ first_below (deep_row first 0 0x01) refs
    → o ≡ first_below (deep_row second refs 0x1B) specs → o ≡ first_deep m
found_second m refs specs depths first second o are is too a b e f =
    f ∙ ap (λ ds. first_below {A = Token} (deep_row ds refs 0x1B) specs) b
    ∙ ap (λ (p : Option Token). or_else p (first_below (deep_row depths refs 0x1B) specs)) (e ∙ ap (λ ds. first_below {A = Token} (deep_row ds 0 0x01) refs) a)
    ∙ deep_by_places m refs specs depths are is too
