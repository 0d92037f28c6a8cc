use Rattle.std.proofs.Common.{◌≡◌, ℕ, Bool, true, false, cond, Option, Some, List, ◌∷◌, ap, sym, ◌∙◌, string_bytes}
use Rattle.std.specs.Ordering.{nat_cmp}
use Rattle.std.specs.Str.{bytes_eq}
use Rattle.std.specs.Cmp.Lexicographic.{slice_cmp, nat_list_cmp_total}
use Rattle.std.specs.FinMap.{get, find, get-from_entries}
use Rattle.std.specs.VecDeque.Iter.{deque_iter_rest}
use Rattle.std.proofs.lemmas.Map.Text.{is_eq-slice_cmp}
use Rattle.enc_outside.specs.declared.sure.Write.{Write}
use Rattle.enc_outside.specs.Log.{entries_of}
use Rattle.enc_outside.proofs.sure.SureStore.file.Goals as goal

-- the bytes of the first of these writes that has this name
abbrev first_bytes : List ℕ → List Write → Option (List ℕ)
first_bytes name writes = find (slice_cmp nat_cmp) name (entries_of writes)

first_bytes-cons : (name : List ℕ) (w : Write) (ws : List Write) (b : Bool) → b ≡ bytes_eq name (string_bytes w.name)
    → first_bytes name (w ∷ ws) ≡ cond b (Some w.bytes.items) (first_bytes name ws)
first_bytes-cons name w ws b is =
    ap (λ t. cond t (Some w.bytes.items) (first_bytes name ws)) (is_eq-slice_cmp name (string_bytes w.name) ∙ sym is)

pub loop-write-init : goal.loop-write-init
loop-write-init c =
    ap (λ m. get m c.args.name.now) (sym c.self.view_is)
    ∙ get-from_entries nat_list_cmp_total _ _
    ∙ ap (first_bytes c.args.name.now) (sym c.into_iter-write-iterator.ensures.into_iter_gives.0)

pub returns-then-eq : goal.returns-then-eq
returns-then-eq c =
    let same = rw c.as_str.ensures.value at c.if-eq.ensures in
    ap Some c.as_slice.ensures.value
    ∙ sym (c.loop-write.invariant ∙ ap (first_bytes c.args.name.now) c.in-Some.ensures.steps
    ∙ first_bytes-cons c.args.name.now c.in-Some.write.now (deque_iter_rest c.next.new.self) true same)

pub loop-write-preserved : goal.loop-write-preserved
loop-write-preserved c =
    let other = rw c.as_str.ensures.value at c.if-eq.ensures in
    c.loop-write.invariant ∙ ap (first_bytes c.args.name.now) c.in-Some.ensures.steps
    ∙ first_bytes-cons c.args.name.now c.in-Some.write.now (deque_iter_rest c.next.new.self) false other
