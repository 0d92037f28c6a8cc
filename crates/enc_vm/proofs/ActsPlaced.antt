-- Instructions go on to places: what each is for goes to its targets alone, and the one behind it begins at a place.
use Rattle.std.proofs.Common.{◌≡◌, ℕ, ℤ, Bool, true, ◌||◌, List, [], ◌∷◌, Option, Some, None, refl, nat_le, nat_lt, ◌==◌, option_map, arith}
use Rattle.std.specs.List.{list_all}
use Rattle.std.proofs.lemmas.Bool.{and_parts, and_from}
use Rattle.std.proofs.lemmas.Bool.Decides.{nat_tests}
use Rattle.enc_base.specs.declared.token.Token.{Token}
use Rattle.enc_objects.specs.declared.kind.Kind.{Kind}
use Rattle.enc_opcodes.specs.Body.{Body}
use Rattle.enc_opcodes.specs.Instruction.{Argument, nothing, number, target, targets, token, text, raw, Instruction}
use Rattle.enc_opcodes.specs.Sound.{begins_at, argument_is_sound, instruction_is_sound}
use Rattle.enc_opcodes.specs.declared.op.Operand.{Operand}
use Rattle.enc_vm.proofs.Placed.{AfterSome, either_way, or_left, or_right, begins_place, end_place, parts_of}
use Rattle.enc_frames.specs.Acts.{is_from, loaded_kind, stored_kind, bare_act, numbered_act, test_at, branch_act, token_act}
use Rattle.enc_vm.specs.Placed.{is_place_in, IsSoundCode}
use Rattle.enc_vm.specs.Step.{begin_of, instruction_among}
use Rattle.enc_frames.specs.declared.act.Act.{Act}
use Rattle.enc_frames.specs.declared.act.Act.TheVariants as act
use Rattle.enc_frames.specs.declared.act.FrameAct.{FrameAct}
use Rattle.enc_frames.specs.declared.act.FrameAct.TheVariants as frame
use Rattle.enc_frames.specs.declared.act.ObjectAct.TheVariants as object
use Rattle.enc_frames.specs.declared.act.Test.{Test}

-- where an instruction goes is a place
abbrev pub IsFrameActPlaced : Body → FrameAct → Type 0
IsFrameActPlaced b (frame.Branch goal) = is_place_in b goal ≡ true
IsFrameActPlaced b (frame.BranchIf wanted goal) = is_place_in b goal ≡ true
IsFrameActPlaced b (frame.BranchBy test goal) = is_place_in b goal ≡ true
IsFrameActPlaced b (frame.Leave goal) = is_place_in b goal ≡ true
IsFrameActPlaced b _ = Unit {0}

abbrev pub IsActPlaced : Body → Act → Type 0
IsActPlaced b (act.Frame a) = IsFrameActPlaced b a
IsActPlaced b _ = Unit {0}

-- only branches go anywhere
loads_placed : (b : Body) (o : Option Kind) → AfterSome (IsActPlaced b) (option_map (λ (k : Kind). act.Object (object.LoadElement k)) o)
loads_placed b None = tt
loads_placed b (Some k) = tt

stores_placed : (b : Body) (o : Option Kind) → AfterSome (IsActPlaced b) (option_map (λ (k : Kind). act.Object (object.StoreElement k)) o)
stores_placed b None = tt
stores_placed b (Some k) = tt

pub bare_placed : (b : Body) (code : ℕ) → AfterSome (IsActPlaced b) (bare_act code)
unfolding bare_act
bare_placed b code =
    either_way (AfterSome (IsActPlaced b)) (nat_le code 0x01) _ _ tt
    (either_way (AfterSome (IsActPlaced b)) (is_from 0x02 0x05 code) _ _ tt
    (either_way (AfterSome (IsActPlaced b)) (is_from 0x06 0x09 code) _ _ tt
    (either_way (AfterSome (IsActPlaced b)) (is_from 0x0A 0x0D code) _ _ tt
    (either_way (AfterSome (IsActPlaced b)) (code == 0x14) _ _ tt
    (either_way (AfterSome (IsActPlaced b)) (is_from 0x15 0x1E code) _ _ tt
    (either_way (AfterSome (IsActPlaced b)) (code == 0x25) _ _ tt
    (either_way (AfterSome (IsActPlaced b)) (code == 0x26) _ _ tt
    (either_way (AfterSome (IsActPlaced b)) (code == 0x2A) _ _ tt
    (either_way (AfterSome (IsActPlaced b)) (code == 0x7A) _ _ tt
    (either_way (AfterSome (IsActPlaced b)) (code == 0x8E) _ _ tt
    (either_way (AfterSome (IsActPlaced b)) (code == 0xDC) _ _ tt
    (either_way (AfterSome (IsActPlaced b)) (nat_lt code 0x9B) _ _ (loads_placed b (loaded_kind code)) (stores_placed b (stored_kind code))))))))))))))

pub numbered_placed : (b : Body) (code : ℕ) (n : ℤ) → AfterSome (IsActPlaced b) (numbered_act code n)
unfolding numbered_act
numbered_placed b code n =
    either_way (AfterSome (IsActPlaced b)) (code == 0x0E || code == 0xFE09) _ _ tt
    (either_way (AfterSome (IsActPlaced b)) (code == 0x10 || code == 0xFE0B) _ _ tt
    (either_way (AfterSome (IsActPlaced b)) (code == 0x11 || code == 0xFE0C) _ _ tt
    (either_way (AfterSome (IsActPlaced b)) (code == 0x13 || code == 0xFE0E) _ _ tt
    (either_way (AfterSome (IsActPlaced b)) (code == 0x1F || code == 0x20) _ _ tt
    (either_way (AfterSome (IsActPlaced b)) (code == 0x21) _ _ tt tt)))))

pub token_placed : (b : Body) (code : ℕ) (t : Token) → AfterSome (IsActPlaced b) (token_act code t)
unfolding token_act
token_placed b code t =
    either_way (AfterSome (IsActPlaced b)) (code == 0x28) _ _ tt
    (either_way (AfterSome (IsActPlaced b)) (code == 0x6F) _ _ tt
    (either_way (AfterSome (IsActPlaced b)) (code == 0x73) _ _ tt
    (either_way (AfterSome (IsActPlaced b)) (code == 0x74) _ _ tt
    (either_way (AfterSome (IsActPlaced b)) (code == 0x75) _ _ tt
    (either_way (AfterSome (IsActPlaced b)) (code == 0x7B) _ _ tt
    (either_way (AfterSome (IsActPlaced b)) (code == 0x7D) _ _ tt
    (either_way (AfterSome (IsActPlaced b)) (code == 0x7E) _ _ tt
    (either_way (AfterSome (IsActPlaced b)) (code == 0x80) _ _ tt
    (either_way (AfterSome (IsActPlaced b)) (code == 0x8D) _ _ tt
    (either_way (AfterSome (IsActPlaced b)) (code == 0xA3) _ _ tt
    (either_way (AfterSome (IsActPlaced b)) (code == 0xA4) _ _ tt tt)))))))))))

tests_placed : (b : Body) (goal : ℕ) (o : Option Test) → is_place_in b goal ≡ true
    → AfterSome (IsActPlaced b) (option_map (λ (t : Test). act.Frame (frame.BranchBy t goal)) o)
tests_placed b goal None g = tt
tests_placed b goal (Some t) g = g

pub branch_placed : (b : Body) (code goal : ℕ) → is_place_in b goal ≡ true → AfterSome (IsActPlaced b) (branch_act code goal)
unfolding branch_act
branch_placed b code goal g =
    either_way (AfterSome (IsActPlaced b)) (code == 0x2B || code == 0x38) _ _ g
    (either_way (AfterSome (IsActPlaced b)) (code == 0x2C || code == 0x39) _ _ g
    (either_way (AfterSome (IsActPlaced b)) (code == 0x2D || code == 0x3A) _ _ g
    (either_way (AfterSome (IsActPlaced b)) (code == 0xDD || code == 0xDE) _ _ g
    (tests_placed b goal (test_at code) g))))

-- the targets of an argument are places
abbrev pub IsArgumentPlaced : Body → Argument (List ℕ) → Type 0
IsArgumentPlaced b (target t) = is_place_in b t ≡ true
IsArgumentPlaced b (targets ts) = list_all (is_place_in b) ts ≡ true
IsArgumentPlaced b _ = Unit {0}

all_places : (b : Body) (ts : List ℕ) → list_all (begins_at b.code) ts ≡ true → list_all (is_place_in b) ts ≡ true
all_places b [] h = refl
all_places b (t ∷ ts) h =
    let a = and_parts (begins_at b.code t) (list_all (begins_at b.code) ts) h in
    and_from (is_place_in b t) (list_all (is_place_in b) ts) (begins_place b t a.0) (all_places b ts a.1)

argument_placed : (b : Body) (count : ℕ → ℕ) (o : Operand) (a : Argument (List ℕ)) → argument_is_sound count (begins_at b.code) o a ≡ true → IsArgumentPlaced b a
argument_placed b count o nothing h = tt
argument_placed b count o (number n) h = tt
argument_placed b count o (target t) h = begins_place b t h
argument_placed b count o (targets ts) h = all_places b ts h
argument_placed b count o (token t) h = tt
argument_placed b count o (text units) h = tt
argument_placed b count o (raw bytes) h = tt

one_placed : (b : Body) (count : ℕ → ℕ) (x : ℕ × Instruction (List ℕ)) → instruction_is_sound count (begins_at b.code) x ≡ true → IsArgumentPlaced b x.1.arg
unfolding instruction_is_sound
one_placed b count x h = argument_placed b count x.1.op.operand x.1.arg h

-- each instruction begins one
is_itself : (n : ℕ) → (n == n) ≡ true
is_itself n = grind (arith, nat_tests)

begin_each : (p : ℕ → Bool) (xs : List (ℕ × Instruction (List ℕ))) → ((t : ℕ) → begins_at xs t ≡ true → p t ≡ true)
    → list_all (λ (x : ℕ × Instruction (List ℕ)). p x.0) xs ≡ true
begin_each p [] keeps = refl
begin_each p (x ∷ rest) keeps =
    and_from (p x.0) (list_all (λ (y : ℕ × Instruction (List ℕ)). p y.0) rest)
    (keeps x.0 (or_left (x.0 == x.0) (begins_at rest x.0) (is_itself x.0)))
    (begin_each p rest (λ t h. keeps t (or_right (x.0 == t) (begins_at rest t) h)))

-- what stands at an offset: its targets are places, and so is where the one behind it begins
abbrev pub IsReadingPlaced : Body → Instruction (List ℕ) × ℕ → Type 0
IsReadingPlaced b x = IsArgumentPlaced b x.0.arg × (is_place_in b x.1 ≡ true)

behind_place : (b : Body) (rest : List (ℕ × Instruction (List ℕ))) → list_all (λ (x : ℕ × Instruction (List ℕ)). begins_at b.code x.0) rest ≡ true
    → is_place_in b (begin_of b.size rest) ≡ true
behind_place b [] h = end_place b
behind_place b (x ∷ rest) h = begins_place b x.0 (and_parts (begins_at b.code x.0) (list_all (λ (y : ℕ × Instruction (List ℕ)). begins_at b.code y.0) rest) h).0

among_placed : (b : Body) (count : ℕ → ℕ) (offset : ℕ) (xs : List (ℕ × Instruction (List ℕ)))
    → list_all (instruction_is_sound count (begins_at b.code)) xs ≡ true
    → list_all (λ (x : ℕ × Instruction (List ℕ)). begins_at b.code x.0) xs ≡ true
    → AfterSome (IsReadingPlaced b) (instruction_among b.size offset xs)
unfolding instruction_among
among_placed b count offset [] sound begin = tt
among_placed b count offset (x ∷ rest) sound begin =
    let s = and_parts (instruction_is_sound count (begins_at b.code) x) (list_all (instruction_is_sound count (begins_at b.code)) rest) sound in
    let g = and_parts (begins_at b.code x.0) (list_all (λ (y : ℕ × Instruction (List ℕ)). begins_at b.code y.0) rest) begin in
    either_way (AfterSome (IsReadingPlaced b)) (x.0 == offset) (Some (x.1, begin_of b.size rest)) (instruction_among b.size offset rest)
    (one_placed b count x s.0, behind_place b rest g.1) (among_placed b count offset rest s.1 g.1)

pub reading_placed : (b : Body) (offset : ℕ) → IsSoundCode b → AfterSome (IsReadingPlaced b) (instruction_among b.size offset b.code)
reading_placed b offset sound =
    among_placed b sound.0 offset b.code (parts_of sound.0 b sound.1).instructions (begin_each (begins_at b.code) b.code (λ t h. h))
