-- Instructions whose targets are looked up stand where they stood.
use Rattle.std.proofs.Common.{◌≡◌, ℕ, zero, suc, ◌+◌, ◌*◌, List, [], ◌∷◌, length, Option, Some, Bool, true, false, ◌||◌, refl, sym, ap, arith}
use Rattle.std.specs.Prelude.{slice_get, ◌==◌}
use Rattle.std.proofs.lemmas.Bool.Decides.{nat_tests}
use Rattle.enc_opcodes.specs.declared.op.Operand.{Operand}
use Rattle.enc_opcodes.specs.declared.op.Operand.TheVariants as operand
use Rattle.enc_opcodes.specs.Instruction.{Argument}
use Rattle.enc_opcodes.specs.Sound.{target_count, operand_size, instruction_size}
use Rattle.enc_edit_list.specs.declared.body.ArgValue.{ArgValue}
use Rattle.enc_edit_list.specs.declared.body.ArgValue.TheVariants as arg
use Rattle.enc_edit_list.specs.declared.body.InstrValue.{InstrValue}
use Rattle.enc_edit_list.specs.Sizes.{arg_meant, instr_meant, length_of_code}
use Rattle.enc_jobs.specs.Json.{elements_of}
use Rattle.enc_jobs.specs.Lists.{every}
use Rattle.enc_jobs.specs.Instr.{instr_said}
use Rattle.enc_jobs.specs.Code.{offsets_of, arg_placed, instr_placed, code_said}
use Rattle.enc_jobs.specs.Laws.{begins_one, targets_begin, StandsAsRead, TargetsBegin}
use Rattle.enc_jobs.proofs.Inverse.{map_some, then_some, first_some, every_has}
use Rattle.enc_jobs.proofs.Places.{places, places_front, size_front}

-- the bytes of an operand go by the number of its targets alone
size_alike : (o : Operand) (a b : Argument (List ℕ)) → target_count a ≡ target_count b → operand_size o a ≡ operand_size o b
size_alike operand.None a b e = refl
size_alike operand.I8 a b e = refl
size_alike operand.U8 a b e = refl
size_alike operand.U16 a b e = refl
size_alike operand.I32 a b e = refl
size_alike operand.I64 a b e = refl
size_alike operand.R4 a b e = refl
size_alike operand.R8 a b e = refl
size_alike operand.Branch8 a b e = refl
size_alike operand.Branch32 a b e = refl
size_alike operand.Switch a b e = ap (λ n. 4 + 4 * n) e
size_alike operand.Token a b e = refl
size_alike operand.User a b e = refl

every_many : {A B : Type 0} (r : A → Option B) (xs : List A) (ys : List B) → every r xs ≡ Some ys → length ys ≡ length xs
unfolding every
every_many {B} r [] ys h = let e : [] ≡ ys = cc in rw (← e) refl
every_many r (x ∷ xs) ys h =
    let w = first_some (r x) (every r xs) ys h in
    let e = every_many r xs w.1 w.3 in
    rw (← w.4) (omega arith)

same_count : (a b : ArgValue) → Some a ≡ Some b → target_count (arg_meant b) ≡ target_count (arg_meant a)
same_count a b h = let e : a ≡ b = cc in rw e refl

count_kept : (starts : List ℕ) (a b : ArgValue) → arg_placed starts a ≡ Some b → target_count (arg_meant b) ≡ target_count (arg_meant a)
unfolding arg_placed
count_kept starts arg.None b h = same_count arg.None b h
count_kept starts (arg.Num n) b h = same_count (arg.Num n) b h
count_kept starts (arg.Target i) b h = let w = map_some arg.Target (slice_get starts i) b h in rw (← w.2) refl
count_kept starts (arg.Targets is) b h = let w = map_some arg.Targets (every (slice_get starts) is) b h in rw (← w.2) (every_many (slice_get starts) is w.0 w.1)
count_kept starts (arg.Token t) b h = same_count (arg.Token t) b h
count_kept starts (arg.User u) b h = same_count (arg.User u) b h
count_kept starts (arg.Raw r) b h = same_count (arg.Raw r) b h

size_kept : (starts : List ℕ) (i j : InstrValue) → instr_placed starts i ≡ Some j → instruction_size (instr_meant j) ≡ instruction_size (instr_meant i)
unfolding instr_placed instruction_size
size_kept starts i j h =
    let w = map_some _ (arg_placed starts i.arg) j h in
    let e = size_alike i.op.operand (arg_meant w.0) (arg_meant i.arg) (count_kept starts i.arg w.0 w.1) in
    rw (← w.2) (rw e refl)

places_kept : (starts : List ℕ) (at : ℕ) (xs ys : List InstrValue) → every (instr_placed starts) xs ≡ Some ys → places at ys ≡ places at xs
unfolding every
places_kept starts at [] ys h = let e : [] ≡ ys = cc in rw (← e) refl
places_kept starts at (x ∷ xs) ys h =
    let w = first_some (instr_placed starts x) (every (instr_placed starts) xs) ys h in
    rw (← w.4) (rw (places_front at w.0 w.1, size_kept starts x w.0 w.2, places_kept starts (at + instruction_size (instr_meant x)) xs w.1 w.3) (sym (places_front at x xs)))

code_kept : (starts : List ℕ) (xs ys : List InstrValue) → every (instr_placed starts) xs ≡ Some ys → length_of_code ys ≡ length_of_code xs
unfolding every
code_kept starts [] ys h = let e : [] ≡ ys = cc in rw (← e) refl
code_kept starts (x ∷ xs) ys h =
    let w = first_some (instr_placed starts x) (every (instr_placed starts) xs) ys h in
    rw (← w.4) (rw (size_front w.0 w.1, size_kept starts x w.0 w.2, code_kept starts xs w.1 w.3) (sym (size_front x xs)))

offsets_kept : (starts : List ℕ) (xs ys : List InstrValue) → every (instr_placed starts) xs ≡ Some ys → offsets_of ys ≡ offsets_of xs
unfolding offsets_of
offsets_kept starts xs ys h = rw (places_kept starts 0 xs ys h, code_kept starts xs ys h) refl

pub stands : StandsAsRead
unfolding code_said
stands d c h =
    let items = then_some (elements_of d) _ c h in
    let stated = then_some (every instr_said items.0) _ c items.2 in
    let offsets = then_some (offsets_of stated.0) _ c stated.2 in
    let instrs = then_some (every (instr_placed offsets.0.starts) stated.0) _ c offsets.2 in
    let e : record { offsets = offsets.0; instrs = instrs.0 } ≡ c = cc in
    rw (← e) (rw (offsets_kept offsets.0.starts stated.0 instrs.0 instrs.1) offsets.1)

-- an offset that is found is one of them
self : (n : ℕ) → (n == n) ≡ true
self n = grind (arith, nat_tests)

or_later : (a b : Bool) → b ≡ true → (a || b) ≡ true
or_later true b h = refl
or_later false b h = h

found : (starts : List ℕ) (i t : ℕ) → slice_get starts i ≡ Some t → begins_one starts t ≡ true
found [] i t h = absurd (cc)
found (s ∷ starts) zero t h = let e : s ≡ t = cc in rw (e, self t) refl
found (s ∷ starts) (suc i) t h = or_later (s == t) (begins_one starts t) (found starts i t h)

arg_begins : (starts : List ℕ) (a b : ArgValue) → arg_placed starts a ≡ Some b → targets_begin starts b ≡ true
unfolding arg_placed
arg_begins starts arg.None b h = let e : arg.None ≡ b = cc in rw (← e) refl
arg_begins starts (arg.Num n) b h = let e : arg.Num n ≡ b = cc in rw (← e) refl
arg_begins starts (arg.Target i) b h = let w = map_some arg.Target (slice_get starts i) b h in rw (← w.2) (found starts i w.0 w.1)
arg_begins starts (arg.Targets is) b h = let w = map_some arg.Targets (every (slice_get starts) is) b h in rw (← w.2) (every_has (slice_get starts) (begins_one starts) (found starts) is w.0 w.1)
arg_begins starts (arg.Token t) b h = let e : arg.Token t ≡ b = cc in rw (← e) refl
arg_begins starts (arg.User u) b h = let e : arg.User u ≡ b = cc in rw (← e) refl
arg_begins starts (arg.Raw r) b h = let e : arg.Raw r ≡ b = cc in rw (← e) refl

instr_begins : (starts : List ℕ) (i j : InstrValue) → instr_placed starts i ≡ Some j → targets_begin starts j.arg ≡ true
unfolding instr_placed
instr_begins starts i j h = let w = map_some _ (arg_placed starts i.arg) j h in rw (← w.2) (arg_begins starts i.arg w.0 w.1)

pub begin_there : TargetsBegin
unfolding code_said
begin_there d c h =
    let items = then_some (elements_of d) _ c h in
    let stated = then_some (every instr_said items.0) _ c items.2 in
    let offsets = then_some (offsets_of stated.0) _ c stated.2 in
    let instrs = then_some (every (instr_placed offsets.0.starts) stated.0) _ c offsets.2 in
    let e : record { offsets = offsets.0; instrs = instrs.0 } ≡ c = cc in
    rw (← e) (every_has (instr_placed offsets.0.starts) (λ (i : InstrValue). targets_begin offsets.0.starts i.arg) (instr_begins offsets.0.starts) stated.0 instrs.0 instrs.1)
