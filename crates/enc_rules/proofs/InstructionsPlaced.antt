-- Stated instructions one behind the other, by the first of them.
use Rattle.std.proofs.Common.{◌≡◌, ℕ, zero, suc, ◌+◌, ◌-◌, ◌<◌, ◌≤◌, Bool, true, false, List, [], ◌∷◌, length, take, drop, get_or, set, refl, sym, ap, ◌∙◌, arith}
use Rattle.std.specs.Prelude.{◌&&◌, ◌||◌, ◌==◌, replicate}
use Rattle.std.proofs.lemmas.Bool.Decides.{nat_tests}
use Rattle.enc_opcodes.specs.Sound.{instruction_size, begins_at}
use Rattle.enc_edit_list.specs.Sizes.{instr_meant, length_of_code, placed}
use Rattle.enc_edit_list.specs.declared.body.InstrValue.{InstrValue}
use Rattle.enc_rules.specs.Marked.{is_marked}
use Rattle.enc_edit_list.specs.Reach.{argument_reaches, branches_reach}
use Rattle.enc_rules.proofs.Fronts.{front_is}

abbrev behind : List InstrValue → List InstrValue
behind rest = take (length rest - 1) (drop 1 rest)

-- their lengths
length_first : (x : InstrValue) (xs : List InstrValue) → length_of_code (x ∷ xs) ≡ instruction_size (instr_meant x) + length_of_code xs
unfolding length_of_code
length_first x xs = refl

pub length_front : (rest : List InstrValue) (x : InstrValue) → 1 ≤ length rest → x ≡ get_or rest 0 x → length_of_code rest ≡ instruction_size (instr_meant x) + length_of_code (take (length rest - 1) (drop 1 rest))
length_front rest x low there = ap length_of_code (front_is rest x low there) ∙ length_first x (behind rest)

pub length_none : (rest : List InstrValue) → length rest < 1 → length_of_code rest ≡ 0
unfolding length_of_code
length_none [] low = refl
length_none (x ∷ xs) low = absurd (omega arith)

-- where they begin
begins_first : (at : ℕ) (x : InstrValue) (xs : List InstrValue) (t : ℕ) → begins_at (placed at (x ∷ xs)) t ≡ ((at == t) || begins_at (placed (at + instruction_size (instr_meant x)) xs) t)
unfolding placed
begins_first at x xs t = refl

pub begins_front : (at : ℕ) (rest : List InstrValue) (x : InstrValue) (t : ℕ) → 1 ≤ length rest → x ≡ get_or rest 0 x → begins_at (placed at rest) t ≡ ((at == t) || begins_at (placed (at + instruction_size (instr_meant x)) (take (length rest - 1) (drop 1 rest))) t)
begins_front at rest x t low there = ap (λ (xs : List InstrValue). begins_at (placed at xs) t) (front_is rest x low there) ∙ begins_first at x (behind rest) t

pub begins_none : (at : ℕ) (rest : List InstrValue) (t : ℕ) → length rest < 1 → begins_at (placed at rest) t ≡ false
unfolding placed
begins_none at [] t low = refl
begins_none at (x ∷ xs) t low = absurd (omega arith)

-- whether branches reach
reach_first : (at : ℕ) (x : InstrValue) (xs : List InstrValue) → branches_reach at (x ∷ xs) ≡ (argument_reaches (at + instruction_size (instr_meant x)) x.op.operand x.arg && branches_reach (at + instruction_size (instr_meant x)) xs)
unfolding branches_reach
reach_first at x xs = refl

pub reach_front : (at : ℕ) (rest : List InstrValue) (x : InstrValue) → 1 ≤ length rest → x ≡ get_or rest 0 x → branches_reach at rest ≡ (argument_reaches (at + instruction_size (instr_meant x)) x.op.operand x.arg && branches_reach (at + instruction_size (instr_meant x)) (take (length rest - 1) (drop 1 rest)))
reach_front at rest x low there = ap (branches_reach at) (front_is rest x low there) ∙ reach_first at x (behind rest)

pub reach_none : (at : ℕ) (rest : List InstrValue) → length rest < 1 → branches_reach at rest ≡ true
unfolding branches_reach
reach_none at [] low = refl
reach_none at (x ∷ xs) low = absurd (omega arith)

-- one mark more
or_none : (b c : Bool) → c ≡ false → b ≡ (b || c)
or_none true c h = refl
or_none false c h = sym h

sym_test : (at t : ℕ) → (at == t) ≡ (suc at == suc t)
sym_test at t = grind (arith, nat_tests)

pub mark_more : (marks : List Bool) (at t : ℕ) → at < length marks → is_marked (set marks at true) t ≡ (is_marked marks t || (at == t))
mark_more [] at t low = absurd (omega arith)
mark_more (true ∷ marks) zero zero low = refl
mark_more (false ∷ marks) zero zero low = refl
mark_more (m ∷ marks) zero (suc t) low = or_none (get_or marks t false) (0 == suc t) (grind (arith, nat_tests))
mark_more (m ∷ marks) (suc at) zero low = or_none m (suc at == 0) (grind (arith, nat_tests))
mark_more (m ∷ marks) (suc at) (suc t) low = mark_more marks at t (omega arith) ∙ ap (λ b. get_or marks t false || b) (sym_test at t)

pub no_mark : (n t : ℕ) → is_marked (replicate n false) t ≡ false
no_mark zero t = refl
no_mark (suc n) zero = refl
no_mark (suc n) (suc t) = no_mark n t

either_assoc : (a b c : Bool) → (a || (b || c)) ≡ ((a || b) || c)
either_assoc true b c = refl
either_assoc false b c = refl

pub marked_more : (marks : List Bool) (at t : ℕ) (all : Bool) (rest : List InstrValue) (x : InstrValue) → at < length marks → 1 ≤ length rest → x ≡ get_or rest 0 x → all ≡ (is_marked marks t || begins_at (placed at rest) t)
    → all ≡ (is_marked (set marks at true) t || begins_at (placed (at + instruction_size (instr_meant x)) (take (length rest - 1) (drop 1 rest))) t)
marked_more marks at t all rest x low some there is =
    is ∙ ap (λ b. is_marked marks t || b) (begins_front at rest x t some there)
    ∙ either_assoc (is_marked marks t) (at == t) _
    ∙ ap (λ b. b || begins_at (placed (at + instruction_size (instr_meant x)) (take (length rest - 1) (drop 1 rest))) t) (sym (mark_more marks at t low))

all_marked : (a b c : Bool) → a ≡ (b || c) → c ≡ false → b ≡ a
all_marked a true c h i = sym h
all_marked a false c h i = sym (h ∙ i)

pub marked_all : (marks : List Bool) (at t : ℕ) (all : Bool) (rest : List InstrValue) → length rest < 1 → all ≡ (is_marked marks t || begins_at (placed at rest) t) → is_marked marks t ≡ all
marked_all marks at t all rest none is = all_marked all (is_marked marks t) _ is (begins_none at rest t none)

pub marks_begin : (n t : ℕ) (rest : List InstrValue) (marks : List Bool) → marks ≡ replicate n false → begins_at (placed 0 rest) t ≡ (is_marked marks t || begins_at (placed 0 rest) t)
marks_begin n t rest marks is = ap (λ b. b || begins_at (placed 0 rest) t) (sym (no_mark n t)) ∙ ap (λ (ms : List Bool). is_marked ms t || begins_at (placed 0 rest) t) (sym is)

-- the branches behind one that reaches, and one that doesn't
pub reach_more : (at size : ℕ) (rest : List InstrValue) (x : InstrValue) (all : Bool) → 1 ≤ length rest → x ≡ get_or rest 0 x → size ≡ instruction_size (instr_meant x) → branches_reach at rest ≡ all → argument_reaches (at + size) x.op.operand x.arg ≡ true → branches_reach (at + size) (take (length rest - 1) (drop 1 rest)) ≡ all
reach_more at size rest x all some there is reach here =
    rw is (sym (ap (λ b. b && branches_reach (at + instruction_size (instr_meant x)) (behind rest)) (rw is at here)) ∙ sym (reach_front at rest x some there) ∙ reach)

pub reach_stops : (at size : ℕ) (rest : List InstrValue) (x : InstrValue) (all : Bool) → 1 ≤ length rest → x ≡ get_or rest 0 x → size ≡ instruction_size (instr_meant x) → branches_reach at rest ≡ all → argument_reaches (at + size) x.op.operand x.arg ≡ false → false ≡ all
reach_stops at size rest x all some there is reach here =
    sym (ap (λ b. b && branches_reach (at + instruction_size (instr_meant x)) (behind rest)) (rw is at here)) ∙ sym (reach_front at rest x some there) ∙ reach
