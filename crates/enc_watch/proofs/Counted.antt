-- What lines of methods come to that are counted in turn.
use Rattle.std.proofs.Common.{◌≡◌, ℕ, zero, suc, ◌+◌, ◌≤◌, Bool, true, false, cond, List, [], ◌∷◌, length, Option, Some, None, refl, sym, ap, ◌∙◌, arith}
use Rattle.std.specs.Prelude.{filter, unwrap_or, ◌==◌, if◌then◌else◌}
use Rattle.std.specs.List.{fold}
use Rattle.std.specs.List.Sorted.{IsStrictlySortedBy}
use Rattle.std.specs.Map.{lookup, keys_of}
use Rattle.std.specs.BTreeMap.{is_at}
use Rattle.std.specs.Ordering.{is_eq}
use Rattle.std.specs.Cmp.{IsTotalOrder}
use Rattle.std.proofs.lemmas.Cmp.{on_total, then_total, nat_cmp_total}
use Rattle.std.proofs.lemmas.List.Sums.{length-filter, count_by-le-length}
use Rattle.enc_base.specs.declared.token.Token.{Token}
use Rattle.enc_watch.specs.declared.event.Event.{Event}
use Rattle.enc_watch.specs.declared.event.Event.TheVariants as event
use Rattle.enc_watch.specs.declared.method_line.MethodLine.{MethodLine}
use Rattle.enc_watch.specs.Watched.{line_ordering, Hits, hits_at, with_hit, hits_with, hits_in}
use Rattle.enc_watch.specs.Laws.{is_hit, times_heard, HitsAreTimesHeard, HitsAreInOrder}
use Rattle.enc_watch.proofs.Placed.{equal_from_test, found_put, same_found, ordered_put}

-- lines of methods are in a total order
pub line_ordering_total : IsTotalOrder line_ordering
line_ordering_total =
    then_total
    (on_total (λ (a : MethodLine). a.method) (then_total (on_total (λ (t : Token). t.table) nat_cmp_total) (on_total (λ (t : Token). t.row) nat_cmp_total)))
    (on_total (λ (a : MethodLine). a.line) nat_cmp_total)

-- a line is the same in order where it is the line of an event
hit_is_equal : (at : MethodLine) (task line : ℕ) (method : Token)
    → is_eq (line_ordering at (record { method = method; line = line })) ≡ is_hit at (event.Line task method line)
hit_is_equal at task line method = grind arith

-- what is told of a line that is heard so often more
more : Option ℕ → ℕ → Option ℕ
more o zero = o
more o (suc n) = Some (unwrap_or o 0 + suc n)

more_hits : (b : Bool) (x y : ℕ) (o : Option ℕ) (n : ℕ) → (b ≡ true → x ≡ unwrap_or o 0) → y ≡ cond b (suc n) n → more (cond b (Some (x + 1)) o) n ≡ more o y
unfolding more
more_hits true x y o zero same e = rw (e, same refl) refl
more_hits true x y o (suc n) same e = rw (e, same refl) (ap (λ (k : ℕ). Some k) (omega arith))
more_hits false x y o n same e = rw e refl

length_more : {X : Type 0} → (b : Bool) (x : X) (xs : List X) → length (cond b (x ∷ xs) xs) ≡ cond b (suc (length xs)) (length xs)
length_more true x xs = refl
length_more false x xs = refl

-- a line that is counted once more
one_more_hit : (at k : MethodLine) (h : Hits) → lookup (is_at (line_ordering at)) (with_hit k h)
    ≡ cond (is_eq (line_ordering at k)) (Some (hits_at k h + 1)) (lookup (is_at (line_ordering at)) h)
unfolding with_hit
one_more_hit at k h = found_put line_ordering_total at k (hits_at k h + 1) h

-- lines that are counted on top of those that were
counted : (at : MethodLine) (heard : List Event) (h : Hits)
    → lookup (is_at (line_ordering at)) (fold hits_with h heard) ≡ more (lookup (is_at (line_ordering at)) h) (times_heard at heard)
unfolding more
counted at [] h = refl
counted at (event.Spawned task method ∷ es) h = counted at es h
counted at (event.Entered task method ∷ es) h = counted at es h
counted at (event.Left task method ∷ es) h = counted at es h
counted at (event.Line task method line ∷ es) h =
    counted at es (with_hit k h)
    ∙ ap (λ (o : Option ℕ). more o (times_heard at es)) (one_more_hit at k h)
    ∙ more_hits (is_eq (line_ordering at k)) (hits_at k h) (times_heard at (event.Line task method line ∷ es)) (lookup (is_at (line_ordering at)) h) (times_heard at es) same
    (length_more (is_hit at (event.Line task method line)) (event.Line task method line) (filter (is_hit at) es)
    ∙ ap (λ (b : Bool). cond b (suc (times_heard at es)) (times_heard at es)) (sym (hit_is_equal at task line method)))
  where
    k : MethodLine
    k = record { method = method; line = line }

    same : is_eq (line_ordering at k) ≡ true → hits_at k h ≡ hits_at at h
    same e = sym (ap (λ (o : Option ℕ). unwrap_or o 0) (same_found line_ordering_total at k (equal_from_test (line_ordering at k) e) h))
counted at (event.Applied generation ∷ es) h = counted at es h
counted at (event.Refused code ∷ es) h = counted at es h
counted at (event.Trapped task trap ∷ es) h = counted at es h
counted at (event.Ended task ∷ es) h = counted at es h

told : (n : ℕ) → more None n ≡ (if n == 0 then None else Some n)
unfolding more
told zero = refl
told (suc n) = grind arith

pub hits_are_times_heard : HitsAreTimesHeard
unfolding hits_in
hits_are_times_heard at heard = counted at heard [] ∙ told (times_heard at heard)

-- no line is counted more often than there are events
pub hits_at_most : (at : MethodLine) (heard : List Event) → hits_at at (fold hits_with [] heard) ≤ length heard
unfolding more
hits_at_most at heard = by (times_heard at heard) (counted at heard []) (omega (arith, length-filter (is_hit at) heard, count_by-le-length (is_hit at) heard))
  where
    by : (n : ℕ) → lookup (is_at (line_ordering at)) (fold hits_with [] heard) ≡ more None n → n ≤ length heard → hits_at at (fold hits_with [] heard) ≤ length heard
    by zero e few = rw e (omega arith)
    by (suc n) e few = rw e (omega arith)

ordered_with : (h : Hits) (e : Event) → IsStrictlySortedBy line_ordering (keys_of h) → IsStrictlySortedBy line_ordering (keys_of (hits_with h e))
unfolding with_hit
ordered_with h (event.Spawned task method) s = s
ordered_with h (event.Entered task method) s = s
ordered_with h (event.Left task method) s = s
ordered_with h (event.Line task method line) s =
    let k : MethodLine = record { method = method; line = line } in ordered_put line_ordering_total k (hits_at k h + 1) h s
ordered_with h (event.Applied generation) s = s
ordered_with h (event.Refused code) s = s
ordered_with h (event.Trapped task trap) s = s
ordered_with h (event.Ended task) s = s

ordered : (h : Hits) (heard : List Event) → IsStrictlySortedBy line_ordering (keys_of h) → IsStrictlySortedBy line_ordering (keys_of (fold hits_with h heard))
ordered h [] s = s
ordered h (e ∷ es) s = ordered (hits_with h e) es (ordered_with h e s)

pub hits_are_in_order : HitsAreInOrder
unfolding hits_in IsStrictlySortedBy
hits_are_in_order heard = ordered [] heard tt
