-- Where frames stand has nothing to do with user texts.
use Rattle.std.proofs.Common.{◌≡◌, ℕ, ◌+◌, ◌*◌, Bool, List, [], ◌∷◌, length, map, Option, refl, sym, ap, ◌∙◌}
use Rattle.std.specs.Prelude.{◌==◌, ◌&&◌, ◌||◌, nat_le, if◌then◌else◌}
use Rattle.std.specs.List.{list_all}
use Rattle.enc_opcodes.specs.Body.{Code, Handler, HandlerKind, catching, filtering, finishing, faulting, body_of, told, instruction_told, range_is_good, locals_are_good}
use Rattle.enc_opcodes.specs.Instruction.{Argument, nothing, number, target, targets, token, text, raw, Instruction, instructions_of}
use Rattle.enc_opcodes.specs.Sound.{target_count, operand_size, instruction_size, are_whole, begins_at, argument_is_sound, instruction_is_sound, handler_kind_is_sound, handler_is_sound, body_is_sound}
use Rattle.enc_opcodes.specs.declared.op.Operand.{Operand}
use Rattle.enc_opcodes.specs.declared.op.Operand.TheVariants as operand
use Rattle.enc_plain.specs.Module.{Module}
use Rattle.enc_versions.specs.Version.{Version}
use Rattle.enc_vm.specs.Anywhere.{ArePlacedAnywhere}
use Rattle.enc_frames.specs.Machine.{Frame, Task, going, ended, trapped, version_world}
use Rattle.enc_vm.specs.Placed.{is_place_in, leads_to_place, lead_to_places, IsFramePlaced, AreFramesPlaced, IsTaskPlaced, AreTasksPlaced}
use Rattle.enc_frames.specs.declared.handler.Reason.{Reason}
use Rattle.enc_frames.specs.declared.handler.Reason.TheVariants as reason
use Rattle.enc_frames.specs.declared.handler.Running.{Running}

count_same : (u v : ℕ → Option (List ℕ)) (a : Argument ℕ) → target_count (told u a) ≡ target_count (told v a)
count_same u v nothing = refl
count_same u v (number n) = refl
count_same u v (target t) = refl
count_same u v (targets ts) = refl
count_same u v (token t) = refl
count_same u v (text offset) = refl
count_same u v (raw bytes) = refl

operand_same : (u v : ℕ → Option (List ℕ)) (k : Operand) (a : Argument ℕ) → operand_size k (told u a) ≡ operand_size k (told v a)
operand_same u v operand.None a = refl
operand_same u v operand.I8 a = refl
operand_same u v operand.U8 a = refl
operand_same u v operand.U16 a = refl
operand_same u v operand.I32 a = refl
operand_same u v operand.I64 a = refl
operand_same u v operand.R4 a = refl
operand_same u v operand.R8 a = refl
operand_same u v operand.Branch8 a = refl
operand_same u v operand.Branch32 a = refl
operand_same u v operand.Switch a = ap (λ n. 4 + 4 * n) (count_same u v a)
operand_same u v operand.Token a = refl
operand_same u v operand.User a = refl

size_same : (u v : ℕ → Option (List ℕ)) (x : ℕ × Instruction ℕ) → instruction_size (instruction_told u x).1 ≡ instruction_size (instruction_told v x).1
unfolding instruction_size
size_same u v x = ap (λ n. (if nat_le 0xFE00 x.1.op.byte then 2 else 1) + n) (operand_same u v x.1.op.operand x.1.arg)

whole_same : (u v : ℕ → Option (List ℕ)) (size at : ℕ) (xs : List (ℕ × Instruction ℕ))
    → are_whole size at (map (instruction_told u) xs) ≡ are_whole size at (map (instruction_told v) xs)
unfolding are_whole
whole_same u v size at [] = refl
whole_same u v size at (x ∷ xs) =
    ap (λ b. x.0 == at && b)
    (ap (λ n. are_whole size (at + n) (map (instruction_told u) xs)) (size_same u v x) ∙ whole_same u v size (at + instruction_size (instruction_told v x).1) xs)

begins_same : (u v : ℕ → Option (List ℕ)) (xs : List (ℕ × Instruction ℕ)) (t : ℕ) → begins_at (map (instruction_told u) xs) t ≡ begins_at (map (instruction_told v) xs) t
begins_same u v [] t = refl
begins_same u v (x ∷ xs) t = ap (λ b. (x.0 == t) || b) (begins_same u v xs t)

all_same : (p q : ℕ → Bool) (ts : List ℕ) → ((t : ℕ) → p t ≡ q t) → list_all p ts ≡ list_all q ts
all_same p q [] e = refl
all_same p q (t ∷ ts) e = ap (λ b. b && list_all p ts) (e t) ∙ ap (λ b. q t && b) (all_same p q ts e)

argument_same : (u v : ℕ → Option (List ℕ)) (count : ℕ → ℕ) (p q : ℕ → Bool) (o : Operand) (a : Argument ℕ) → ((t : ℕ) → p t ≡ q t)
    → argument_is_sound count p o (told u a) ≡ argument_is_sound count q o (told v a)
argument_same u v count p q o nothing e = refl
argument_same u v count p q o (number n) e = refl
argument_same u v count p q o (target t) e = e t
argument_same u v count p q o (targets ts) e = all_same p q ts e
argument_same u v count p q o (token t) e = refl
argument_same u v count p q o (text offset) e = refl
argument_same u v count p q o (raw bytes) e = refl

one_same : (u v : ℕ → Option (List ℕ)) (count : ℕ → ℕ) (p q : ℕ → Bool) (x : ℕ × Instruction ℕ) → ((t : ℕ) → p t ≡ q t)
    → instruction_is_sound count p (instruction_told u x) ≡ instruction_is_sound count q (instruction_told v x)
unfolding instruction_is_sound
one_same u v count p q x e = argument_same u v count p q x.1.op.operand x.1.arg e

instructions_same : (u v : ℕ → Option (List ℕ)) (count : ℕ → ℕ) (p q : ℕ → Bool) (xs : List (ℕ × Instruction ℕ)) → ((t : ℕ) → p t ≡ q t)
    → list_all (instruction_is_sound count p) (map (instruction_told u) xs) ≡ list_all (instruction_is_sound count q) (map (instruction_told v) xs)
instructions_same u v count p q [] e = refl
instructions_same u v count p q (x ∷ xs) e =
    ap (λ b. b && list_all (instruction_is_sound count p) (map (instruction_told u) xs)) (one_same u v count p q x e)
    ∙ ap (λ b. instruction_is_sound count q (instruction_told v x) && b) (instructions_same u v count p q xs e)

range_same : (p q : ℕ → Bool) (size : ℕ) (r : ℕ × ℕ) → ((t : ℕ) → p t ≡ q t) → range_is_good p size r ≡ range_is_good q size r
range_same p q size r e =
    ap (λ b. b && nat_le r.0 r.1 && (p r.1 || r.1 == size)) (e r.0) ∙ ap (λ b. q r.0 && nat_le r.0 r.1 && (b || r.1 == size)) (e r.1)

kind_same : (count : ℕ → ℕ) (p q : ℕ → Bool) (k : HandlerKind) → ((t : ℕ) → p t ≡ q t) → handler_kind_is_sound count p k ≡ handler_kind_is_sound count q k
kind_same count p q (catching t) e = refl
kind_same count p q (filtering offset) e = e offset
kind_same count p q finishing e = refl
kind_same count p q faulting e = refl

handler_same : (count : ℕ → ℕ) (p q : ℕ → Bool) (size : ℕ) (h : Handler) → ((t : ℕ) → p t ≡ q t) → handler_is_sound count p size h ≡ handler_is_sound count q size h
unfolding handler_is_sound
handler_same count p q size h e =
    ap (λ b. b && range_is_good p size h.handler && handler_kind_is_sound count p h.kind) (range_same p q size h.tries e)
    ∙ ap (λ b. range_is_good q size h.tries && b && handler_kind_is_sound count p h.kind) (range_same p q size h.handler e)
    ∙ ap (λ b. range_is_good q size h.tries && range_is_good q size h.handler && b) (kind_same count p q h.kind e)

handlers_same : (count : ℕ → ℕ) (p q : ℕ → Bool) (size : ℕ) (hs : List Handler) → ((t : ℕ) → p t ≡ q t)
    → list_all (handler_is_sound count p size) hs ≡ list_all (handler_is_sound count q size) hs
handlers_same count p q size [] e = refl
handlers_same count p q size (h ∷ hs) e =
    ap (λ b. b && list_all (handler_is_sound count p size) hs) (handler_same count p q size h e)
    ∙ ap (λ b. handler_is_sound count q size h && b) (handlers_same count p q size hs e)

four_same : {A : Type 0} (f : Bool → Bool → Bool → A) (a b c d e g : Bool) → a ≡ b → c ≡ d → e ≡ g → f a c e ≡ f b d g
four_same f a b c d e g x y z = ap (λ t. f t c e) x ∙ ap (λ t. f b t e) y ∙ ap (λ t. f b d t) z

pub sound_same : (u v : ℕ → Option (List ℕ)) (count : ℕ → ℕ) (c : Code) → body_is_sound count (body_of u c) ≡ body_is_sound count (body_of v c)
unfolding body_of body_is_sound
sound_same u v count c =
    four_same (λ (a b d : Bool). a && b && d && locals_are_good count c.locals) _ _ _ _ _ _
    (whole_same u v (length c.code) 0 (instructions_of c.code))
    (instructions_same u v count _ _ (instructions_of c.code) (begins_same u v (instructions_of c.code)))
    (handlers_same count _ _ (length c.code) _ (begins_same u v (instructions_of c.code)))

place_same : (u v : ℕ → Option (List ℕ)) (c : Code) (offset : ℕ) → is_place_in (body_of u c) offset ≡ is_place_in (body_of v c) offset
unfolding body_of
place_same u v c offset = ap (λ b. b || offset == length c.code) (begins_same u v (instructions_of c.code) offset)

reason_same : (u v : ℕ → Option (List ℕ)) (c : Code) (r : Reason) → leads_to_place (body_of u c) r ≡ leads_to_place (body_of v c) r
reason_same u v c (reason.Leave goal) = place_same u v c goal
reason_same u v c (reason.Flight flight) = refl

leads_same : (u v : ℕ → Option (List ℕ)) (c : Code) (rs : List Running) → lead_to_places (body_of u c) rs ≡ lead_to_places (body_of v c) rs
leads_same u v c [] = refl
leads_same u v c (r ∷ rs) =
    ap (λ b. b && lead_to_places (body_of u c) rs) (reason_same u v c r.reason) ∙ ap (λ b. leads_to_place (body_of v c) r.reason && b) (leads_same u v c rs)

frame_same : (u v : ℕ → Option (List ℕ)) (m n : Module) (ms ns : List (Option Version)) (f : Frame Version)
    → IsFramePlaced (version_world u m ms) f → IsFramePlaced (version_world v n ns) f
unfolding version_world
frame_same u v m n ms ns f p = record {
  sound = (p.sound.0, sym (sound_same u v p.sound.0 f.code.code) ∙ p.sound.1);
  at = sym (place_same u v f.code.code f.offset) ∙ p.at;
  leaves = sym (leads_same u v f.code.code f.running) ∙ p.leaves;
}

frames_same : (u v : ℕ → Option (List ℕ)) (m n : Module) (ms ns : List (Option Version)) (fs : List (Frame Version))
    → AreFramesPlaced (version_world u m ms) fs → AreFramesPlaced (version_world v n ns) fs
frames_same u v m n ms ns [] p = tt
frames_same u v m n ms ns (f ∷ fs) p = (frame_same u v m n ms ns f p.0, frames_same u v m n ms ns fs p.1)

task_same : (u v : ℕ → Option (List ℕ)) (m n : Module) (ms ns : List (Option Version)) (t : Task Version)
    → IsTaskPlaced (version_world u m ms) t → IsTaskPlaced (version_world v n ns) t
task_same u v m n ms ns (going t) p = (frame_same u v m n ms ns t.top p.0, frames_same u v m n ms ns t.below p.1)
task_same u v m n ms ns ended p = tt
task_same u v m n ms ns (trapped x frames) p = frames_same u v m n ms ns frames p

-- tasks that are placed by some user texts are placed by all
pub placed_anywhere : (u : ℕ → Option (List ℕ)) (m : Module) (ms : List (Option Version)) (tasks : List (Task Version)) → AreTasksPlaced (version_world u m ms) tasks
    → ArePlacedAnywhere tasks
placed_anywhere u m ms [] p = λ v n ns. tt
placed_anywhere u m ms (t ∷ tasks) p = λ v n ns. (task_same u v m n ms ns t p.0, placed_anywhere u m ms tasks p.1 v n ns)
