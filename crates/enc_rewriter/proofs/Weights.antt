-- Sums of weights, with none and with one more, up to the limit.
use Rattle.std.proofs.Common.{◌≡◌, ℕ, ◌+◌, ◌*◌, Bool, true, false, cond, List, length, Option, Some, None, refl, sym, ap, ◌∙◌, arith, length-append}
use Rattle.enc_opcodes.specs.declared.code.Clause.{Clause}
use Rattle.enc_opcodes.specs.Clause.{Section, section_in, clauses_in, clauses_of}
use Rattle.enc_il.specs.Seen.{all_sections}
use Rattle.enc_il.proofs.Sections.{clauses_last, clauses_more, clauses_counted}
use Rattle.std.specs.BTreeMap.{BTreeMap, get, is_at, Updates, IsEmpty}
use Rattle.std.specs.Ordering.{nat_cmp}
use Rattle.std.proofs.lemmas.List.{length-map}
use Rattle.std.proofs.lemmas.Bool.Decides.{nat_tests}
use Rattle.enc_opcodes.specs.Body.{Code, Body, body_of, handler_meant}
use Rattle.enc_plain.specs.Cell.{Cell, body, field}
use Rattle.std.specs.Prelude.{min, is_some}
use Rattle.enc_base.specs.Token.{nth_row}
use Rattle.enc_plain.specs.Module.{Module, cell_of}
use Rattle.enc_plain.specs.Sound.{row_count}
use Rattle.enc_rows.proofs.Below.{sum_none, sum_more}
use Rattle.enc_rewriter.specs.Standing.{bodies_before, fields_before, row_weights_before, AreWeighed}
use Rattle.enc_rewriter.specs.Weight.{row_weight, rows_weight, body_weight, bodies_weight, field_weight, fields_weight, most_weight}

pub rows_none : (m : Module) → row_weights_before m 0 ≡ 0
unfolding row_weights_before
rows_none m = sum_none (λ t. row_count m t * row_weight t)

pub rows_more : (m : Module) (t : ℕ) → row_weights_before m (t + 1) ≡ row_weights_before m t + row_count m t * row_weight t
unfolding row_weights_before
rows_more m t = sum_more (λ t. row_count m t * row_weight t) t

pub rows_all : (m : Module) → row_weights_before m 64 ≡ rows_weight m
unfolding row_weights_before rows_weight
rows_all m = refl

pub bodies_none : (m : Module) → bodies_before m 0 ≡ 0
unfolding bodies_before
bodies_none m = sum_none (λ n. body_weight (cell_of m (nth_row 0x06 n) 0))

pub bodies_more : (m : Module) (n sum w : ℕ) → sum ≡ min most_weight (bodies_before m n) → w ≡ min most_weight (body_weight (cell_of m (nth_row 0x06 n) 0))
    → min most_weight (sum + w) ≡ min most_weight (bodies_before m (n + 1))
unfolding bodies_before
bodies_more m n sum w s one = omega (arith, s, one, sum_more (λ n. body_weight (cell_of m (nth_row 0x06 n) 0)) n)

pub bodies_all : (m : Module) → bodies_before m (row_count m 0x06) ≡ bodies_weight m
unfolding bodies_before bodies_weight
bodies_all m = refl

pub fields_none : (m : Module) → fields_before m 0 ≡ 0
unfolding fields_before
fields_none m = sum_none (λ n. field_weight (cell_of m (nth_row 0x1D n) 0))

pub fields_more : (m : Module) (n sum w : ℕ) → sum ≡ min most_weight (fields_before m n) → w ≡ min most_weight (field_weight (cell_of m (nth_row 0x1D n) 0))
    → min most_weight (sum + w) ≡ min most_weight (fields_before m (n + 1))
unfolding fields_before
fields_more m n sum w s one = omega (arith, s, one, sum_more (λ n. field_weight (cell_of m (nth_row 0x1D n) 0)) n)

pub fields_all : (m : Module) → fields_before m (row_count m 0x1D) ≡ fields_weight m
unfolding fields_before fields_weight
fields_all m = refl

pub field_is : (m : Module) (n : ℕ) (bytes : List ℕ) → cell_of m (nth_row 0x1D n) 0 ≡ Some (field bytes) → field_weight (cell_of m (nth_row 0x1D n) 0) ≡ 8 + length bytes
field_is m n bytes is = ap field_weight is

-- the clauses of one more section, the last or another
held_many : (s : Section) → length (clauses_in s.fat s.count s.clauses) ≡ s.count
held_many s = clauses_counted s.fat s.count s.clauses

pub last_counted : (rest : List ℕ) (x : Section × List ℕ) (sum new whole : ℕ) → section_in rest ≡ Some x → x.0.more ≡ false → min most_weight (sum + length (clauses_of rest)) ≡ whole
    → new ≡ min most_weight (sum + x.0.count) → new ≡ whole
last_counted rest x sum new whole is last so_far more =
    let e : length (clauses_of rest) ≡ x.0.count = ap (λ (l : List Clause). length l) (clauses_last rest x is last) ∙ held_many x.0 in
    more ∙ ap (λ (k : ℕ). min most_weight (sum + k)) (sym e) ∙ so_far

pub section_counted : (rest : List ℕ) (x : Section × List ℕ) (sum new whole : ℕ) → section_in rest ≡ Some x → x.0.more ≡ true → is_some (all_sections rest) ≡ true
    → min most_weight (sum + length (clauses_of rest)) ≡ whole → new ≡ min most_weight (sum + x.0.count) → min most_weight (new + length (clauses_of x.1)) ≡ whole
section_counted rest x sum new whole is more all so_far next =
    let held = clauses_in x.0.fat x.0.count x.0.clauses in
    let e : length (clauses_of rest) ≡ x.0.count + length (clauses_of x.1) = ap (λ (l : List Clause). length l) (clauses_more rest x is more all) ∙ length-append held (clauses_of x.1) ∙ ap (λ (k : ℕ). k + length (clauses_of x.1)) (held_many x.0) in
    omega (arith, e, so_far, next)

-- the weight of a method with a body
pub body_is : (m : Module) (n : ℕ) (texts : ℕ → Option (List ℕ)) (c : Code) → cell_of m (nth_row 0x06 n) 0 ≡ Some (body (Some (body_of texts c)))
    → body_weight (cell_of m (nth_row 0x06 n) 0) ≡ 32 + length c.code + 24 * length (clauses_of c.sections)
unfolding body_of
body_is m n texts c is = ap body_weight is ∙ ap (λ k. 32 + length c.code + 24 * k) (length-map (clauses_of c.sections) handler_meant)

-- no place is weighed yet, one more is, and one that is has the weight of a method's body there
pub none_weighed : (places : ℕ → Option Body) (known : BTreeMap ℕ ℕ) → IsEmpty known → AreWeighed places known
none_weighed places known empty place weight is = let e : get nat_cmp known place ≡ None = rw empty refl in absurd cc

here : (k q : ℕ) → is_at (nat_cmp k) q ≡ true → k ≡ q
here k q h = grind (arith, nat_tests, h)

some_same : (a b : ℕ) → Some a ≡ Some b → a ≡ b
some_same a b e = cc

by_place : (places : ℕ → Option Body) (old : BTreeMap ℕ ℕ) (k place w weight : ℕ) (t : Bool) (o : Option ℕ) → is_at (nat_cmp k) place ≡ t → o ≡ cond t (Some w) (get nat_cmp old place) → AreWeighed places old
    → w ≡ min most_weight (body_weight (Some (body (places k)))) → o ≡ Some weight → weight ≡ min most_weight (body_weight (Some (body (places place))))
by_place places old k place w weight true o at is all one found =
    let e : w ≡ weight = some_same w weight (sym is ∙ found) in
    sym e ∙ one ∙ ap (λ (q : ℕ). min most_weight (body_weight (Some (body (places q))))) (here k place at)
by_place places old k place w weight false o at is all one found = all place weight (sym is ∙ found)

pub one_weighed : (m : Module) (places : ℕ → Option Body) (old new : BTreeMap ℕ ℕ) (k w n : ℕ) → AreWeighed places old → cell_of m (nth_row 0x06 n) 0 ≡ Some (body (places k))
    → w ≡ min most_weight (body_weight (cell_of m (nth_row 0x06 n) 0)) → Updates nat_cmp old new k (Some w) → AreWeighed places new
one_weighed m places old new k w n all cell is updates place weight found =
    by_place places old k place w weight (is_at (nat_cmp k) place) (get nat_cmp new place) refl (updates.0 place) all (is ∙ ap (λ (o : Option Cell). min most_weight (body_weight o)) cell) found

pub weighed_is : (m : Module) (places : ℕ → Option Body) (known : BTreeMap ℕ ℕ) (k w n : ℕ) → AreWeighed places known → cell_of m (nth_row 0x06 n) 0 ≡ Some (body (places k)) → get nat_cmp known k ≡ Some w
    → w ≡ min most_weight (body_weight (cell_of m (nth_row 0x06 n) 0))
weighed_is m places known k w n all cell is = all k w is ∙ ap (λ (o : Option Cell). min most_weight (body_weight o)) (sym cell)

pub ruleset rows_steps = (rows_none, rows_more, rows_all)

pub ruleset bodies_steps = (bodies_none, bodies_more, bodies_all)

pub ruleset fields_steps = (fields_none, fields_more, fields_all)
