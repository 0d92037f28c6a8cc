-- Instructions on a frame's own values leave it at the next instruction, or at their goal.
use Rattle.std.proofs.Common.{◌≡◌, ℕ, zero, suc, Bool, true, false, not, List, [], ◌∷◌, length, Option, slice_get, nat_lt, if◌then◌else◌, unwrap_or}
use Rattle.std.specs.List.{list_all}
use Rattle.std.proofs.lemmas.Bool.{and_parts}
use Rattle.enc_objects.specs.Instructions.{on_two, on_one}
use Rattle.enc_objects.specs.Values.{modulo}
use Rattle.enc_objects.specs.declared.kind.Kind.{Kind}
use Rattle.enc_objects.specs.declared.trap.Trap.TheVariants.{X2}
use Rattle.enc_objects.specs.declared.value.Value.{Value}
use Rattle.enc_opcodes.specs.Body.{Body}
use Rattle.enc_opcodes.specs.declared.op.Op.{Op}
use Rattle.enc_vm.proofs.Placed.{AfterOk, through, either_way, here}
use Rattle.enc_frames.specs.Machine.{World, Frame}
use Rattle.enc_vm.specs.Placed.{is_place_in, IsFramePlaced}
use Rattle.enc_frames.specs.Results.{or_trap}
use Rattle.enc_frames.specs.Straight.{moved_on, load, load_argument, load_local, store_argument, store_local, duplicate, discard, branch_if, branch_by, switch_to, on_upper_two, on_top}
use Rattle.enc_frames.specs.Values.{fit, upper, upper_two, pushed, word_of_value, is_set, tested}
use Rattle.enc_frames.specs.declared.act.Test.{Test}

pub pushed_placed : {C : Type 0} (w : World C) (max : ℕ) (v : Value) (f : Frame C) → IsFramePlaced w f → AfterOk (IsFramePlaced w) (pushed max v f)
pushed_placed w max v f p = either_way (AfterOk (IsFramePlaced w)) (nat_lt (length f.stack) max) _ _ (here w f _ _ _ _ _ p p.at) tt

pub load_placed : {C : Type 0} (w : World C) (max next : ℕ) (v : Value) (f : Frame C) → IsFramePlaced w f → is_place_in (w.body f.code) next ≡ true
    → AfterOk (IsFramePlaced w) (load max next v f)
unfolding load
load_placed w max next v f p n = pushed_placed w max v (moved_on next f.stack f) (here w f _ next _ _ _ p n)

pub load_argument_placed : {C : Type 0} (w : World C) (max next k : ℕ) (f : Frame C) → IsFramePlaced w f → is_place_in (w.body f.code) next ≡ true
    → AfterOk (IsFramePlaced w) (load_argument max next k f)
unfolding load_argument
load_argument_placed w max next k f p n = through (IsFramePlaced w) (or_trap X2 (slice_get f.args k)) _ (λ v. load_placed w max next v f p n)

pub load_local_placed : {C : Type 0} (w : World C) (max next k : ℕ) (f : Frame C) → IsFramePlaced w f → is_place_in (w.body f.code) next ≡ true
    → AfterOk (IsFramePlaced w) (load_local max next k f)
unfolding load_local
load_local_placed w max next k f p n = through (IsFramePlaced w) (or_trap X2 (slice_get f.locals k)) _ (λ v. load_placed w max next v f p n)

pub store_argument_placed : {C : Type 0} (w : World C) (kind : Option Kind) (next k : ℕ) (f : Frame C) → IsFramePlaced w f → is_place_in (w.body f.code) next ≡ true
    → AfterOk (IsFramePlaced w) (store_argument kind next k f)
unfolding store_argument
store_argument_placed w kind next k f p n =
    through (IsFramePlaced w) (or_trap X2 kind) _ (λ i. through (IsFramePlaced w) (upper f.stack) _ (λ v. through (IsFramePlaced w) (fit i v) _ (λ x. here w f _ next _ _ _ p n)))

pub store_local_placed : {C : Type 0} (w : World C) (kind : Option Kind) (next k : ℕ) (f : Frame C) → IsFramePlaced w f → is_place_in (w.body f.code) next ≡ true
    → AfterOk (IsFramePlaced w) (store_local kind next k f)
unfolding store_local
store_local_placed w kind next k f p n =
    through (IsFramePlaced w) (or_trap X2 kind) _ (λ i. through (IsFramePlaced w) (upper f.stack) _ (λ v. through (IsFramePlaced w) (fit i v) _ (λ x. here w f _ next _ _ _ p n)))

pub duplicate_placed : {C : Type 0} (w : World C) (max next : ℕ) (f : Frame C) → IsFramePlaced w f → is_place_in (w.body f.code) next ≡ true
    → AfterOk (IsFramePlaced w) (duplicate max next f)
unfolding duplicate
duplicate_placed w max next f p n = through (IsFramePlaced w) (upper f.stack) _ (λ v. load_placed w max next v f p n)

pub discard_placed : {C : Type 0} (w : World C) (next : ℕ) (f : Frame C) → IsFramePlaced w f → is_place_in (w.body f.code) next ≡ true
    → AfterOk (IsFramePlaced w) (discard next f)
unfolding discard
discard_placed w next f p n = through (IsFramePlaced w) (upper f.stack) _ (λ v. here w f _ next _ _ _ p n)

-- one of two places
chosen_place : (b : Body) (c : Bool) (goal next : ℕ) → is_place_in b goal ≡ true → is_place_in b next ≡ true → is_place_in b (if c then goal else next) ≡ true
chosen_place b true goal next g n = g
chosen_place b false goal next g n = n

pub branch_if_placed : {C : Type 0} (w : World C) (wanted : Bool) (goal next : ℕ) (f : Frame C)
    → IsFramePlaced w f → is_place_in (w.body f.code) goal ≡ true → is_place_in (w.body f.code) next ≡ true → AfterOk (IsFramePlaced w) (branch_if wanted goal next f)
unfolding branch_if
branch_if_placed w wanted goal next f p g n =
    through (IsFramePlaced w) (upper f.stack) _ (λ v. here w f _ (if (if wanted then is_set v else not (is_set v)) then goal else next) _ _ _ p
    (chosen_place (w.body f.code) (if wanted then is_set v else not (is_set v)) goal next g n))

pub branch_by_placed : {C : Type 0} (w : World C) (test : Test) (goal next : ℕ) (f : Frame C)
    → IsFramePlaced w f → is_place_in (w.body f.code) goal ≡ true → is_place_in (w.body f.code) next ≡ true → AfterOk (IsFramePlaced w) (branch_by test goal next f)
unfolding branch_by
branch_by_placed w test goal next f p g n =
    through (IsFramePlaced w) (upper_two f.stack) _ (λ v. through (IsFramePlaced w) (tested test v.0 v.1) _ (λ (holds : Bool).
    here w f _ (if holds then goal else next) _ _ _ p (chosen_place (w.body f.code) holds goal next g n)))

goal_place : (b : Body) (goals : List ℕ) (k next : ℕ) → list_all (is_place_in b) goals ≡ true → is_place_in b next ≡ true
    → is_place_in b (unwrap_or (slice_get goals k) next) ≡ true
goal_place b [] k next g n = n
goal_place b (x ∷ goals) zero next g n = (and_parts (is_place_in b x) (list_all (is_place_in b) goals) g).0
goal_place b (x ∷ goals) (suc k) next g n = goal_place b goals k next (and_parts (is_place_in b x) (list_all (is_place_in b) goals) g).1 n

pub switch_placed : {C : Type 0} (w : World C) (goals : List ℕ) (next : ℕ) (f : Frame C)
    → IsFramePlaced w f → list_all (is_place_in (w.body f.code)) goals ≡ true → is_place_in (w.body f.code) next ≡ true → AfterOk (IsFramePlaced w) (switch_to goals next f)
unfolding switch_to
switch_placed w goals next f p g n =
    through (IsFramePlaced w) (upper f.stack) _ (λ v. through (IsFramePlaced w) (word_of_value v) _ (λ k.
    here w f _ (unwrap_or (slice_get goals (modulo 32 k)) next) _ _ _ p (goal_place (w.body f.code) goals (modulo 32 k) next g n)))

pub on_upper_two_placed : {C : Type 0} (w : World C) (op : Op) (next : ℕ) (f : Frame C) → IsFramePlaced w f → is_place_in (w.body f.code) next ≡ true
    → AfterOk (IsFramePlaced w) (on_upper_two op next f)
unfolding on_upper_two
on_upper_two_placed w op next f p n =
    through (IsFramePlaced w) (upper_two f.stack) _ (λ v. through (IsFramePlaced w) (on_two op v.0 v.1) _ (λ x. here w f _ next _ _ _ p n))

pub on_top_placed : {C : Type 0} (w : World C) (op : Op) (next : ℕ) (f : Frame C) → IsFramePlaced w f → is_place_in (w.body f.code) next ≡ true
    → AfterOk (IsFramePlaced w) (on_top op next f)
unfolding on_top
on_top_placed w op next f p n = through (IsFramePlaced w) (upper f.stack) _ (λ v. through (IsFramePlaced w) (on_one op v) _ (λ x. here w f _ next _ _ _ p n))
