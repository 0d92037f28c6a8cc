-- The entries of EncLog of the merged delta: each that gives a child to an owner stands before the child's own, and each new child has one.
use Rattle.std.proofs.Common.{◌≡◌, ℕ, zero, suc, ◌+◌, ◌<◌, ◌≤◌, Bool, true, false, not, List, [], ◌∷◌, ◌++◌, length, cond, Option, Some, None, refl, sym, ap, subst, ◌∙◌, inl, inr, arith, append_assoc, append-nil}
use Rattle.std.specs.Prelude.{◌||◌, ◌&&◌, ◌==◌, nat_lt, nat_le, find}
use Rattle.std.proofs.lemmas.Bool.{cases_Bool, cases_lt}
use Rattle.std.proofs.lemmas.Bool.Decides.{nat_tests}
use Rattle.std.proofs.lemmas.List.{length-append}
use Rattle.std.proofs.lemmas.List.Folds.{find-append}
use Rattle.std.proofs.lemmas.List.Sums.{sum_by-cons, sum_by-append}
use Rattle.enc_base.specs.declared.refusal.Place.TheVariants as place
use Rattle.enc_base.specs.declared.token.Token.{Token}
use Rattle.enc_base.proofs.First.{silent}
use Rattle.enc_schema.specs.Children.{is_child_table}
use Rattle.enc_rows.specs.Source.{Source}
use Rattle.enc_plain.specs.Chain.{Chain, rows_before}
use Rattle.enc_delta.specs.declared.log_entry.LogEntry.{LogEntry}
use Rattle.enc_delta.specs.Delta.{listed, log_in}
use Rattle.enc_delta.specs.Judged.{bad_entry, unowned_child}
use Rattle.enc_delta.specs.Rules.{counts, counted, rows_with, adds, parent_table, child_table, is_add, has_parent, follows, log_fault_of, log_fault_at, log_fault, child_fault_in, child_fault}
use Rattle.enc_delta.proofs.ListsChildren.{at_seam, counted_yes, counted_no, adds_push, all_named, add_low, add_high}
use Rattle.enc_delta.proofs.Unbroken.{landed}
use Rattle.enc_agg.specs.Extend.{extended}
use Rattle.enc_agg.specs.Follows.{Lands}
use Rattle.enc_agg.proofs.Children.{rows_after, adds_are}
use Rattle.enc_merged_delta.specs.Laws.{KeepsMerged}
use Rattle.enc_merged_delta.specs.Merged.{MayMerge, SaysMerged}
use Rattle.enc_merged_delta.proofs.Silent.{unbroken_is, all_silent}
use Rattle.enc_merged_delta.proofs.Counts.{counts_are, inserts_are, rows_first, rows_second, grows}

-- an entry is a fault
abbrev breaks : Chain → List Token → List LogEntry → List LogEntry → LogEntry → Bool
breaks c tokens before behind e = counts e && (nat_lt 5 e.operation || is_add e.operation && not (has_parent c tokens e && follows c before e.operation (find counts behind)))

-- entries behind others of which none is a fault
abbrev Fine : Chain → List Token → List LogEntry → List LogEntry → Type 0
Fine c tokens before [] = Unit {0}
Fine c tokens before (e ∷ es) = (breaks c tokens before es e ≡ false) × Fine c tokens (before ++ e ∷ []) es

breaks_not : (c : Chain) (tokens : List Token) (before behind : List LogEntry) (k : ℕ) (e : LogEntry) → log_fault_of c tokens before behind k e ≡ None → breaks c tokens before behind e ≡ false
unfolding log_fault_of
breaks_not c tokens before behind k e h = unbroken_is _ (place.Log (k + 1)) h

no_fault : (c : Chain) (tokens : List Token) (before behind : List LogEntry) (k : ℕ) (e : LogEntry) → breaks c tokens before behind e ≡ false → log_fault_of c tokens before behind k e ≡ None
unfolding log_fault_of
no_fault c tokens before behind k e h = rw h refl

fine_from : (c : Chain) (tokens : List Token) (before es : List LogEntry) → ((k : ℕ) → k < length (before ++ es) → log_fault_at c tokens (before ++ es) k ≡ None) → Fine c tokens before es
fine_from c tokens before [] each = tt
fine_from c tokens before (e ∷ es) each =
    let short : length before < length (before ++ e ∷ es) = rw (length-append before (e ∷ es)) (omega arith) in
    let at : log_fault_of c tokens before es (length before) e ≡ None = sym (at_seam c tokens before e es) ∙ each (length before) short in
    (breaks_not c tokens before es (length before) e at, fine_from c tokens (before ++ e ∷ []) es (subst (λ (l : List LogEntry). (k : ℕ) → k < length l → log_fault_at c tokens l k ≡ None) (sym (append_assoc before (e ∷ []) es)) each))

fine_log : (c : Chain) (tokens : List Token) (log : List LogEntry) → log_fault c tokens log ≡ None → Fine c tokens [] log
unfolding log_fault
fine_log c tokens log h = fine_from c tokens [] log (λ k low. silent (log_fault_at c tokens log) (length log) k h low)

fine_at : (c : Chain) (tokens : List Token) (before es : List LogEntry) → Fine c tokens before es → (k : ℕ) → length before ≤ k → k < length (before ++ es) → log_fault_at c tokens (before ++ es) k ≡ None
fine_at c tokens before [] fine k low high = let e = length-append before [] in absurd (omega (arith, e, low, high))
fine_at c tokens before (e ∷ es) fine k low high = elim (cases_lt (length before) k) [
  | inl past ↦
      let n = length-append before (e ∷ []) in
      rw (← append_assoc before (e ∷ []) es) (fine_at c tokens (before ++ e ∷ []) es fine.1 k (omega (arith, n, past)) (rw (append_assoc before (e ∷ []) es) high))
  | inr here ↦
      let is : k ≡ length before = omega (arith, here, low) in
      rw is (at_seam c tokens before e es ∙ no_fault c tokens before es (length before) e fine.0)
]

log_is_fine : (c : Chain) (tokens : List Token) (log : List LogEntry) → Fine c tokens [] log → log_fault c tokens log ≡ None
unfolding log_fault
log_is_fine c tokens log fine = all_silent (log_fault_at c tokens log) (length log) (λ k low. fine_at c tokens [] log fine k (omega arith) low)

-- the entries that count alone
pub counted_none : counted [] ≡ []
unfolding counted
counted_none = refl

find_counted : (es : List LogEntry) → find counts (counted es) ≡ find counts es
find_counted [] = rw (counted_none) refl
find_counted (e ∷ es) = elim (cases_Bool (counts e)) [
  | inl on ↦ rw (counted_yes e es on, on) refl
  | inr off ↦ rw (counted_no e es off, off) (find_counted es)
]

follows_same : (c : Chain) (xs ys : List LogEntry) (code : ℕ) (o : Option LogEntry) → adds xs code ≡ adds ys code → follows c xs code o ≡ follows c ys code o
unfolding follows
follows_same c xs ys code None h = refl
follows_same c xs ys code (Some e) h = rw h refl

same_adds : (before : List LogEntry) (e : LogEntry) (code : ℕ) → counts e ≡ false → adds (before ++ e ∷ []) code ≡ adds before code
same_adds before e code off = adds_push before e code ∙ rw off (omega arith)

fine_counted : (c : Chain) (tokens : List Token) (before passed es : List LogEntry) → Fine c tokens before es → ((code : ℕ) → adds passed code ≡ adds before code) → Fine c tokens passed (counted es)
fine_counted c tokens before passed [] fine same = rw counted_none tt
fine_counted c tokens before passed (e ∷ es) fine same = elim (cases_Bool (counts e)) [
  | inr off ↦ rw (counted_no e es off) (fine_counted c tokens (before ++ e ∷ []) passed es fine.1 (λ code. same code ∙ sym (same_adds before e code off)))
  | inl on ↦
      rw (counted_yes e es on) (
        rw (find_counted es, follows_same c passed before e.operation (find counts es) (same e.operation)) fine.0,
        fine_counted c tokens (before ++ e ∷ []) (passed ++ e ∷ []) es fine.1 (λ code. adds_push passed e code ∙ ap (λ n. n + cond (counts e && e.operation == code) 1 0) (same code) ∙ sym (adds_push before e code)),
      )
]

-- an entry that is no fault is none where its parent is still there and its child still follows
still : (a b d h f g k : Bool) → (a && (b || d && not (h && f))) ≡ false → (h ≡ true → g ≡ true) → (d ≡ true → f ≡ true → k ≡ true) → (a && (b || d && not (g && k))) ≡ false
still false b d h f g k none parent child = refl
still true true d h f g k none parent child = absurd cc
still true false false h f g k none parent child = refl
still true false true true true g k none parent child = rw (parent refl, child refl refl) refl
still true false true true false g k none parent child = absurd cc
still true false true false f g k none parent child = absurd cc

parent_still : (c d : Chain) (xs ys : List Token) (e : LogEntry) → rows_with c xs e.token.table ≤ rows_with d ys e.token.table → has_parent c xs e ≡ true → has_parent d ys e ≡ true
unfolding has_parent
parent_still c d xs ys e le h = grown (e.token.table == parent_table e.operation) (nat_le 1 e.token.row) e.token.row (rows_with c xs e.token.table) (rows_with d ys e.token.table) le h
  where
    grown : (a b : Bool) (row n m : ℕ) → n ≤ m → (a && b && nat_le row n) ≡ true → (a && b && nat_le row m) ≡ true
    grown true true row n m le h = grind (arith, nat_tests, le, h)
    grown true false row n m le h = absurd cc
    grown false b row n m le h = absurd cc

follows_more : (c : Chain) (before es behind : List LogEntry) (code : ℕ) (o : Option LogEntry) → find counts es ≡ o → follows c before code o ≡ true → follows c before code (find counts (es ++ behind)) ≡ true
unfolding follows
follows_more c before es behind code None is h = absurd cc
follows_more c before es behind code (Some f) is h = rw (find-append counts es behind, is) h

-- the first's entries before others
fine_more : (c : Chain) (xs ys : List Token) (before es behind : List LogEntry) → ((t : ℕ) → rows_with c xs t ≤ rows_with c ys t) → Fine c xs before es → Fine c ys (before ++ es) behind → Fine c ys before (es ++ behind)
fine_more c xs ys before [] behind le fine more = rw (append-nil before) at more
fine_more c xs ys before (e ∷ es) behind le fine more = (
  still (counts e) (nat_lt 5 e.operation) (is_add e.operation) _ _ _ _ fine.0 (parent_still c c xs ys e (le e.token.table)) (λ add h. follows_more c before es behind e.operation (find counts es) refl h),
  fine_more c xs ys (before ++ e ∷ []) es behind le fine.1 (rw (append_assoc before (e ∷ []) es) more),
)

adds_both : (xs ys : List LogEntry) (code : ℕ) → adds (xs ++ ys) code ≡ adds xs code + adds ys code
adds_both xs ys code = sum_by-append (λ (f : LogEntry). cond (counts f && f.operation == code) 1 0) xs ys

adds_counted : (es : List LogEntry) (code : ℕ) → adds (counted es) code ≡ adds es code
adds_counted [] code = rw counted_none refl
adds_counted (e ∷ es) code =
    let head : adds (e ∷ es) code ≡ cond (counts e && e.operation == code) 1 0 + adds es code = sum_by-cons (λ (f : LogEntry). cond (counts f && f.operation == code) 1 0) e es in
    elim (cases_Bool (counts e)) [
      | inl on ↦ rw (counted_yes e es on) (sum_by-cons (λ (f : LogEntry). cond (counts f && f.operation == code) 1 0) e (counted es) ∙ ap (λ n. cond (counts e && e.operation == code) 1 0 + n) (adds_counted es code) ∙ sym head)
      | inr off ↦
          let none : cond (counts e && e.operation == code) 1 0 + adds es code ≡ adds es code = rw off (omega arith) in
          rw (counted_no e es off) (adds_counted es code ∙ sym (head ∙ none))
    ]

-- the rows of a child's table after some entries that give children
abbrev HasGiven : Chain → Chain → List LogEntry → Type 0
HasGiven c d front = (code : ℕ) → is_add code ≡ true → rows_before d (child_table code) ≡ rows_before c (child_table code) + adds front code

follows_moved : (c d : Chain) (front before : List LogEntry) (code : ℕ) (o : Option LogEntry) → rows_before d (child_table code) ≡ rows_before c (child_table code) + adds front code → follows d before code o ≡ true → follows c (front ++ before) code o ≡ true
unfolding follows
follows_moved c d front before code None e h = absurd cc
follows_moved c d front before code (Some f) e h =
    let both = adds_both front before code in
    let same : rows_before c (child_table code) + adds (front ++ before) code + 1 ≡ rows_before d (child_table code) + adds before code + 1 = omega (arith, both, e) in
    rw same h

-- the second's entries behind those of the first
fine_moved : (c d : Chain) (xs ys : List Token) (front before es : List LogEntry) → ((t : ℕ) → rows_with d xs t ≤ rows_with c ys t) → HasGiven c d front → Fine d xs before es → Fine c ys (front ++ before) es
fine_moved c d xs ys front before [] le given fine = tt
fine_moved c d xs ys front before (e ∷ es) le given fine = (
  still (counts e) (nat_lt 5 e.operation) (is_add e.operation) _ _ _ _ fine.0 (parent_still d c xs ys e (le e.token.table)) (λ add h. follows_moved c d front before e.operation (find counts es) (given e.operation add) h),
  rw (append_assoc front before (e ∷ [])) (fine_moved c d xs ys front (before ++ e ∷ []) es le given fine.1),
)

of_child : (code : ℕ) → 1 ≤ code → code ≤ 5 → is_child_table (child_table code) ≡ true
of_child zero l h = absurd (omega arith)
of_child (suc zero) l h = refl
of_child (suc (suc zero)) l h = refl
of_child (suc (suc (suc zero))) l h = refl
of_child (suc (suc (suc (suc zero)))) l h = refl
of_child (suc (suc (suc (suc (suc zero))))) l h = refl
of_child (suc (suc (suc (suc (suc (suc n)))))) l h = absurd (omega arith)

-- the first's entries give as many children as there are rows more
has_given : (c : Chain) (a b : Source) → MayMerge c a b → HasGiven c (extended c a) (counted (log_in a))
has_given c a b may code add =
    let l = add_low code add in
    let h = add_high code add in
    let rows = rows_after c a may.sound.owners.tables may.first.lands (child_table code) in
    let given = adds_are c a code may.first.lands l h (of_child code l h) in
    let same = adds_counted (log_in a) code in
    omega (arith, rows, given, same)

counted_fine : (c : Chain) (s : Source) → Lands c s → Fine c (listed s) [] (counted (log_in s))
counted_fine c s f = fine_counted c (listed s) [] [] (log_in s) (fine_log c (listed s) (log_in s) (landed c s f.early).log) (λ code. refl)

both_fine : (c : Chain) (a b s : Source) → MayMerge c a b → SaysMerged c a b s → Fine c (listed s) [] (counted (log_in a) ++ counted (log_in b))
both_fine c a b s may says =
    let d = extended c a in
    let first = rows_first c a b may in
    let second = rows_second c a b may in
    let all = counts_are c a b s may says in
    fine_more c (listed a) (listed s) [] (counted (log_in a)) (counted (log_in b)) (λ t. omega (arith, first t, second t, all t, grows d (listed b) t)) (counted_fine c a may.first.lands)
    (rw (append-nil (counted (log_in a))) at (fine_moved c d (listed b) (listed s) (counted (log_in a)) [] (counted (log_in b)) (λ t. omega (arith, second t, all t)) (has_given c a b may) (counted_fine d b may.second.lands)))

no_bad_entry : (c : Chain) (a b s : Source) → MayMerge c a b → SaysMerged c a b s → log_fault c (listed s) (log_in s) ≡ None
no_bad_entry c a b s may says = rw says.log (log_is_fine c (listed s) _ (both_fine c a b s may says))

-- E10
pub keeps_entries : KeepsMerged bad_entry
unfolding bad_entry
keeps_entries c a b s may says = no_bad_entry c a b s may says

-- each new child has its entry
adds_log : (c : Chain) (a b s : Source) (code : ℕ) → SaysMerged c a b s → adds (log_in s) code ≡ adds (log_in a) code + adds (log_in b) code
adds_log c a b s code says =
    let first = adds_counted (log_in a) code in
    let second = adds_counted (log_in b) code in
    rw says.log (adds_both (counted (log_in a)) (counted (log_in b)) code ∙ omega (arith, first, second))

child_named : (c : Chain) (a b s : Source) (code : ℕ) → MayMerge c a b → SaysMerged c a b s → 1 ≤ code → code ≤ 5 → child_fault_in c (listed s) (log_in s) (child_table code) ≡ None
child_named c a b s code may says l h =
    let first = adds_are c a code may.first.lands l h (of_child code l h) in
    let second = adds_are (extended c a) b code may.second.lands l h (of_child code l h) in
    let given = adds_log c a b s code says in
    let new = inserts_are c a b s may says (child_table code) in
    sym (all_named c (listed s) (log_in s) code (no_bad_entry c a b s may says) l h (omega (arith, first, second, given, new)))

-- E11
pub keeps_owners : KeepsMerged unowned_child
unfolding unowned_child child_fault
keeps_owners c a b s may says =
    rw (
      child_named c a b s 2 may says (omega arith) (omega arith),
      child_named c a b s 1 may says (omega arith) (omega arith),
      child_named c a b s 3 may says (omega arith) (omega arith),
      child_named c a b s 5 may says (omega arith) (omega arith),
      child_named c a b s 4 may says (omega arith) (omega arith),
    ) refl
