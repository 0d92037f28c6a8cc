-- What a loop over the instructions of a code has judged so far.
use Rattle.std.proofs.Common.{◌≡◌, ℕ, zero, suc, ◌-◌, ◌<◌, ◌≤◌, Bool, true, false, ◌||◌, List, length, set, replicate, Some, None, refl, sym, ◌∙◌, arith, inl, inr}
use Rattle.std.specs.Prelude.{◌==◌}
use Rattle.std.specs.List.{list_all}
use Rattle.std.proofs.lemmas.Bool.{cases_eq}
use Rattle.std.proofs.lemmas.Bool.Decides.{nat_tests}
use Rattle.std.proofs.lemmas.List.{get_or-set_same, get_or-set_other}
use Rattle.enc_opcodes.specs.Instruction.{Instruction, instr_in, rest_of}
use Rattle.enc_opcodes.specs.Body.{is_instruction_start}
use Rattle.enc_opcodes.proofs.Instructions.{instr_ends, rest_none, rest_more}
use Rattle.enc_il.specs.Judged.{mark_at}

-- an instruction was read, up to this place
abbrev pub IsRead : List ℕ → ℕ → Instruction ℕ → ℕ → Type 0
IsRead code at i n = Some (i, n) ≡ instr_in code at

pub behind : (code : List ℕ) (at n : ℕ) (i : Instruction ℕ) → IsRead code at i n → (at < n) × (n ≤ length code)
behind code at n i is = instr_ends code at n i (sym is)

pub fewer_left : (code : List ℕ) (at n : ℕ) (i : Instruction ℕ) → IsRead code at i n → length code - n < length code - at
fewer_left code at n i is = let h = behind code at n i is in omega (arith, h.0, h.1)

-- of all instructions those from a place on are left to judge
pub more_good : (p : ℕ × Instruction ℕ → Bool) (code : List ℕ) (at n : ℕ) (i : Instruction ℕ) → IsRead code at i n → p (at, i) ≡ true → list_all p (rest_of code at) ≡ list_all p (rest_of code n)
more_good p code at n i is good = rw (rest_more code at n i (sym is), good) refl

pub one_bad : (p : ℕ × Instruction ℕ → Bool) (code : List ℕ) (at n : ℕ) (i : Instruction ℕ) → IsRead code at i n → p (at, i) ≡ false → list_all p (rest_of code at) ≡ false
one_bad p code at n i is bad = rw (rest_more code at n i (sym is), bad) refl

pub none_left : (p : ℕ × Instruction ℕ → Bool) (code : List ℕ) (at : ℕ) → None ≡ instr_in code at → list_all p (rest_of code at) ≡ true
none_left p code at none = rw (rest_none code at (sym none)) refl

-- marks of the instructions before a place, and the instructions from there on, are all
abbrev pub AreMarked : List ℕ → ℕ → List Bool → Type 0
AreMarked code at marks = (t : ℕ) → is_instruction_start (rest_of code 0) t ≡ (mark_at marks t || is_instruction_start (rest_of code at) t)

no_marks : (n t : ℕ) → mark_at (replicate n false) t ≡ false
no_marks zero t = refl
no_marks (suc n) zero = refl
no_marks (suc n) (suc t) = no_marks n t

pub none_marked : (code : List ℕ) (n : ℕ) → AreMarked code 0 (replicate n false)
none_marked code n t = rw (no_marks n t) refl

stands_more : (code : List ℕ) (at n t : ℕ) (i : Instruction ℕ) → IsRead code at i n → is_instruction_start (rest_of code at) t ≡ ((at == t) || is_instruction_start (rest_of code n) t)
unfolding is_instruction_start
stands_more code at n t i is = rw (rest_more code at n i (sym is)) refl

mark_here : (a before behind : Bool) → a ≡ true → (before || (a || behind)) ≡ true
mark_here true true behind e = refl
mark_here true false behind e = refl
mark_here false before behind e = absurd (cc)

pub one_marked : (code : List ℕ) (at n : ℕ) (i : Instruction ℕ) (marks : List Bool) → IsRead code at i n → at < length marks → AreMarked code at marks → AreMarked code n (set marks at true)
one_marked code at n i marks is lt marked t =
    elim (cases_eq t at) [
      | inl e ↦
          let same : (at == t) ≡ true = grind (arith, nat_tests, e) in
          let here : mark_at (set marks at true) t ≡ true = rw e (get_or-set_same marks at true false lt) in
          marked t ∙ rw (stands_more code at n t i is, here) (mark_here (at == t) (mark_at marks t) (is_instruction_start (rest_of code n) t) same)
      | inr other ↦
          let differs : (at == t) ≡ false = grind (arith, nat_tests, other) in
          let kept : mark_at (set marks at true) t ≡ mark_at marks t = get_or-set_other marks at t true false other in
          marked t ∙ rw (stands_more code at n t i is, kept, differs) refl
    ]

stands_none : (code : List ℕ) (at t : ℕ) → None ≡ instr_in code at → is_instruction_start (rest_of code at) t ≡ false
unfolding is_instruction_start
stands_none code at t none = rw (rest_none code at (sym none)) refl

or_false : (a b : Bool) → b ≡ false → (a || b) ≡ a
or_false true b e = refl
or_false false b e = e

pub all_marked : (code : List ℕ) (at : ℕ) (marks : List Bool) → None ≡ instr_in code at → AreMarked code at marks → (t : ℕ) → mark_at marks t ≡ is_instruction_start (rest_of code 0) t
all_marked code at marks none marked t = sym (marked t ∙ or_false (mark_at marks t) (is_instruction_start (rest_of code at) t) (stands_none code at t none))
