-- Where each Add entry has its child, a new row of a child's table is named by one pair or by none.
use Rattle.std.proofs.Common.{◌≡◌, ℕ, zero, suc, ◌+◌, ◌<◌, ◌≤◌, ◌≢◌, Bool, true, false, List, [], ◌∷◌, ◌++◌, length, Option, Some, None, refl, sym, ap, subst, ◌∙◌, inl, inr, cond, arith, take, get_or, append_assoc}
use Rattle.std.specs.Prelude.{if◌then◌else◌, nat_lt, nat_le, ◌==◌, ◌&&◌, ◌||◌, not, ◌⊎◌, slice_get, find}
use Rattle.std.specs.List.{count_by}
use Rattle.std.proofs.Math.Seq.{take-append_seam, drop-append-add}
use Rattle.std.proofs.lemmas.Bool.{cases_lt, cases_eq}
use Rattle.std.proofs.lemmas.Bool.Decides.{nat_tests}
use Rattle.std.proofs.lemmas.List.{length-append}
use Rattle.std.proofs.lemmas.List.Sums.{sum_by-cons, sum_by-append}
use Rattle.enc_base.specs.declared.token.Token.{Token}
use Rattle.enc_base.specs.declared.refusal.Place.{Place}
use Rattle.enc_base.specs.declared.refusal.Place.TheVariants as place
use Rattle.enc_base.specs.Order.{first_below}
use Rattle.enc_base.proofs.First.{first_none, first_found, first_more, first_means}
use Rattle.enc_plain.specs.Module.{Module, rows_in}
use Rattle.enc_plain.specs.Chain.{Chain, rows_before}
use Rattle.enc_plain.proofs.Columns.{both_left, both_right}
use Rattle.enc_delta.specs.declared.log_entry.LogEntry.{LogEntry}
use Rattle.enc_base.specs.Token.{is_token}
use Rattle.enc_delta.specs.Rules.{broken, counts, counted, adds, is_add, has_parent, follows, child_table, log_fault_of, log_fault_at, log_fault, children, new_row, child_fault_at, child_fault_in, inserts, insert_fault_at, insert_fault_of, insert_fault, is_insert}
use Rattle.enc_delta.specs.Lists.{AreTokens}
use Rattle.enc_delta.proofs.ListsInserts.{no_token, fault_is, inserts_none, into_yes, into_no}
use Rattle.enc_delta.proofs.ListsChanged.{token_fits, take_end}

pub two : (b : Bool) → (b ≡ true) ⊎ (b ≡ false)
two true = inl refl
two false = inr refl

-- the child of an entry, by the next entry that counts
abbrev kid : LogEntry → Option LogEntry → List Token
kid e None = []
kid e (Some f) = if is_add e.operation then f.token ∷ [] else []

abbrev pub first_of : List LogEntry → Option LogEntry
first_of [] = None
first_of (e ∷ es) = Some e

children_cons : (e : LogEntry) (ys : List LogEntry) → children (e ∷ ys) ≡ kid e (first_of ys) ++ children ys
children_cons e [] = refl
children_cons e (f ∷ ys) = elim (two (is_add e.operation)) [ inl a ↦ rw a refl | inr a ↦ rw a refl ]

pub counted_first : (es : List LogEntry) → first_of (counted es) ≡ find counts es
unfolding counted
counted_first [] = refl
counted_first (e ∷ es) = elim (two (counts e)) [ inl a ↦ rw a refl | inr a ↦ rw a (counted_first es) ]

pub counted_yes : (e : LogEntry) (es : List LogEntry) → counts e ≡ true → counted (e ∷ es) ≡ e ∷ counted es
unfolding counted
counted_yes e es h = rw h refl

pub counted_no : (e : LogEntry) (es : List LogEntry) → counts e ≡ false → counted (e ∷ es) ≡ counted es
unfolding counted
counted_no e es h = rw h refl

children_yes : (e : LogEntry) (es : List LogEntry) → counts e ≡ true → children (counted (e ∷ es)) ≡ kid e (find counts es) ++ children (counted es)
children_yes e es h = ap children (counted_yes e es h) ∙ children_cons e (counted es) ∙ ap (λ o. kid e o ++ children (counted es)) (counted_first es)

-- each Add entry is followed by its child
abbrev pub Good : Chain → List LogEntry → List LogEntry → Type 0
Good c before [] = Unit {0}
Good c before (e ∷ es) = (counts e ≡ true → is_add e.operation ≡ true → follows c before e.operation (find counts es) ≡ true) × Good c (before ++ e ∷ []) es

seam : {A : Type 0} (before : List A) (e : A) (es : List A) → slice_get (before ++ e ∷ es) (length before) ≡ Some e
seam [] e es = refl
seam (x ∷ before) e es = seam before e es

pub at_seam : (c : Chain) (tokens : List Token) (before : List LogEntry) (e : LogEntry) (es : List LogEntry) → log_fault_at c tokens (before ++ e ∷ es) (length before) ≡ log_fault_of c tokens before es (length before) e
unfolding log_fault_at
at_seam c tokens before e es = rw (seam before e es, take-append_seam before (e ∷ es), drop-append-add before (e ∷ es) 1) refl

sound : (p : Place) (a b d h f : Bool) → broken (a && (b || d && not (h && f))) p ≡ None → a ≡ true → d ≡ true → (h ≡ true) × (f ≡ true)
sound p true true true h f e x y = absurd cc
sound p true false true true true e x y = (refl, refl)
sound p true false true true false e x y = absurd cc
sound p true false true false f e x y = absurd cc
sound p true b false h f e x y = absurd cc
sound p false b d h f e x y = absurd cc

-- each Add entry has its parent, and is followed by its child
abbrev pub Judged : Chain → List Token → List LogEntry → List LogEntry → Type 0
Judged c tokens before [] = Unit {0}
Judged c tokens before (e ∷ es) = (counts e ≡ true → is_add e.operation ≡ true → (has_parent c tokens e ≡ true) × (follows c before e.operation (find counts es) ≡ true)) × Judged c tokens (before ++ e ∷ []) es

judged_here : (c : Chain) (tokens : List Token) (before es : List LogEntry) (k : ℕ) (e : LogEntry) → log_fault_of c tokens before es k e ≡ None → counts e ≡ true → is_add e.operation ≡ true → (has_parent c tokens e ≡ true) × (follows c before e.operation (find counts es) ≡ true)
unfolding log_fault_of
judged_here c tokens before es k e h x y = sound (place.Log (k + 1)) (counts e) (nat_lt 5 e.operation) (is_add e.operation) (has_parent c tokens e) (follows c before e.operation (find counts es)) h x y

judged_from : (c : Chain) (tokens : List Token) (before es : List LogEntry) → ((k : ℕ) → k < length (before ++ es) → log_fault_at c tokens (before ++ es) k ≡ None) → Judged c tokens before es
judged_from c tokens before [] each = tt
judged_from c tokens before (e ∷ es) each =
    let short : length before < length (before ++ e ∷ es) = rw (length-append before (e ∷ es)) (omega arith) in
    let at : log_fault_of c tokens before es (length before) e ≡ None = sym (at_seam c tokens before e es) ∙ each (length before) short in
    (judged_here c tokens before es (length before) e at, judged_from c tokens (before ++ e ∷ []) es (subst (λ (l : List LogEntry). (k : ℕ) → k < length l → log_fault_at c tokens l k ≡ None) (sym (append_assoc before (e ∷ []) es)) each))

good_of : (c : Chain) (tokens : List Token) (before es : List LogEntry) → Judged c tokens before es → Good c before es
good_of c tokens before [] judged = tt
good_of c tokens before (e ∷ es) judged = (λ x y. (judged.0 x y).1, good_of c tokens (before ++ e ∷ []) es judged.1)

-- what a rule that answers nowhere says at each place
pub none_at : {A : Type 0} (rule : ℕ → Option A) (n : ℕ) → first_below rule n ≡ None → (k : ℕ) → k < n → rule k ≡ None
none_at rule n h = rw h at (first_means rule n)

none_of : {A : Type 0} (rule : ℕ → Option A) (n : ℕ) → ((k : ℕ) → k < n → rule k ≡ None) → first_below rule n ≡ None
none_of rule zero h = first_none rule
none_of rule (suc n) h =
    let e : suc n ≡ n + 1 = omega arith in
    rw e (first_more rule n (none_of rule n (λ k l. h k (omega arith))) ∙ h n (omega arith))

pub log_judged : (c : Chain) (tokens : List Token) (log : List LogEntry) → log_fault c tokens log ≡ None → Judged c tokens [] log
unfolding log_fault
log_judged c tokens log h = judged_from c tokens [] log (none_at (log_fault_at c tokens log) (length log) h)

pub log_good : (c : Chain) (tokens : List Token) (log : List LogEntry) → log_fault c tokens log ≡ None → Good c [] log
log_good c tokens log h = good_of c tokens [] log (log_judged c tokens log h)

-- 1 from low to below low + n
abbrev pub hits : ℕ → ℕ → ℕ → ℕ
hits low n r = cond (nat_le low r && nat_lt r (low + n)) 1 0

hits_none : (low r : ℕ) → hits low 0 r ≡ 0
hits_none low r = elim (cases_lt r low) [ inl a ↦ grind (arith, nat_tests) | inr a ↦ grind (arith, nat_tests) ]

hits_here : (low n r : ℕ) → cond (r == low) 1 0 + hits (low + 1) n r ≡ hits low (1 + n) r
hits_here low n r = elim (cases_lt r low) [
  | inl a ↦ grind (arith, nat_tests)
  | inr a ↦ elim (cases_eq r low) [ inl e ↦ grind (arith, nat_tests) | inr e ↦ elim (cases_lt r (low + 1 + n)) [ inl d ↦ grind (arith, nat_tests) | inr d ↦ grind (arith, nat_tests) ] ]
]

plus_none : (n : ℕ) → n + 0 ≡ n
plus_none n = omega arith

-- how Add entries count, at the front and at the end
adds_head : (e : LogEntry) (es : List LogEntry) (code : ℕ) → adds (e ∷ es) code ≡ cond (counts e && e.operation == code) 1 0 + adds es code
adds_head e es code = sum_by-cons (λ (f : LogEntry). cond (counts f && f.operation == code) 1 0) e es

pub adds_push : (before : List LogEntry) (e : LogEntry) (code : ℕ) → adds (before ++ e ∷ []) code ≡ adds before code + cond (counts e && e.operation == code) 1 0
adds_push before e code = sum_by-append (λ (f : LogEntry). cond (counts f && f.operation == code) 1 0) before (e ∷ []) ∙ ap (λ n. adds before code + n) (sum_by-cons (λ (f : LogEntry). cond (counts f && f.operation == code) 1 0) e [] ∙ plus_none _)

-- the code of a child's table
abbrev code_of : ℕ → ℕ
code_of table = if table == 0x06 then 1 else if table == 0x04 then 2 else if table == 0x08 then 3 else if table == 0x17 then 4 else 5

code_is : (code : ℕ) → 1 ≤ code → code ≤ 5 → code_of (child_table code) ≡ code
code_is zero l h = absurd (omega arith)
code_is (suc zero) l h = refl
code_is (suc (suc zero)) l h = refl
code_is (suc (suc (suc zero))) l h = refl
code_is (suc (suc (suc (suc zero)))) l h = refl
code_is (suc (suc (suc (suc (suc zero))))) l h = refl
code_is (suc (suc (suc (suc (suc (suc n)))))) l h = absurd (omega arith)

pub codes_same : (a b : ℕ) → 1 ≤ a → a ≤ 5 → 1 ≤ b → b ≤ 5 → child_table a ≡ child_table b → a ≡ b
codes_same a b l h m g e = sym (code_is a l h) ∙ ap code_of e ∙ code_is b m g

pub add_low : (code : ℕ) → is_add code ≡ true → 1 ≤ code
add_low code h = let e = both_left (nat_le 1 code) (nat_le code 5) h in grind (arith, nat_tests)

pub add_high : (code : ℕ) → is_add code ≡ true → code ≤ 5
add_high code h = let e = both_right (nat_le 1 code) (nat_le code 5) h in grind (arith, nat_tests)

pub equal : (a b : ℕ) → (a == b) ≡ true → a ≡ b
equal a b h = grind (arith, nat_tests)

pub equal_is : (a b : ℕ) → a ≡ b → (a == b) ≡ true
equal_is a b h = grind (arith, nat_tests)

pub equal_no : (a b : ℕ) → a ≢ b → (a == b) ≡ false
equal_no a b h = grind (arith, nat_tests)

shifted : (n r a : ℕ) → (n + r + 1 == n + a + 1) ≡ (r == a)
shifted n r a = elim (cases_eq r a) [ inl e ↦ grind (arith, nat_tests) | inr e ↦ grind (arith, nat_tests) ]

one_count : (p : Token → Bool) (t : Token) → count_by p (t ∷ []) ≡ cond (p t) 1 0
one_count p t = sum_by-cons (λ (u : Token). cond (p u) 1 0) t [] ∙ plus_none _

three : (a b d : Bool) → (a && b && d) ≡ true → (b ≡ true) × (d ≡ true)
three true true true h = (refl, refl)
three true true false h = absurd cc
three true false d h = absurd cc
three false b d h = absurd cc

-- how often the child of an Add entry names a row
pub kid_count : (c : Chain) (before : List LogEntry) (e : LogEntry) (o : Option LogEntry) (code r : ℕ) → is_add e.operation ≡ true → follows c before e.operation o ≡ true → 1 ≤ code → code ≤ 5 → count_by (is_token (new_row c (child_table code) r)) (kid e o) ≡ cond (e.operation == code && r == adds before code) 1 0
unfolding follows
kid_count c before e None code r a f l h = absurd cc
kid_count c before e (Some g) code r a f l h =
    let t = three (g.operation == 0) (g.token.table == child_table e.operation) (g.token.row == rows_before c (child_table e.operation) + adds before e.operation + 1) f in
    let tab : g.token.table ≡ child_table e.operation = equal _ _ t.0 in
    let row : g.token.row ≡ rows_before c (child_table e.operation) + adds before e.operation + 1 = equal _ _ t.1 in
    rw a (one_count (is_token (new_row c (child_table code) r)) g.token ∙ elim (cases_eq e.operation code) [
      | inl same ↦ rw (tab, row, same, equal_is code code refl, equal_is (child_table code) (child_table code) refl, shifted (rows_before c (child_table code)) r (adds before code)) refl
      | inr other ↦
          let no : (child_table code == child_table e.operation) ≡ false = equal_no _ _ (λ x. other (codes_same e.operation code (add_low e.operation a) (add_high e.operation a) l h (sym x))) in
          rw (tab, no, equal_no e.operation code other) refl
    ])

pub kid_other : (e : LogEntry) (o : Option LogEntry) → is_add e.operation ≡ false → kid e o ≡ []
kid_other e None h = refl
kid_other e (Some f) h = rw h refl

step : (s : Bool) (low n r : ℕ) → cond (s && r == low) 1 0 + hits (low + cond s 1 0) n r ≡ hits low (cond s 1 0 + n) r
step true low n r = hits_here low n r
step false low n r = let e : low + 0 ≡ low = omega arith in let f : 0 + n ≡ n = omega arith in rw (e, f) (omega arith)

none_here : (low n r total : ℕ) (s : Bool) → s ≡ false → total ≡ hits (low + cond s 1 0) n r → total ≡ hits low (cond s 1 0 + n) r
none_here low n r total true e h = absurd cc
none_here low n r total false e h = let f : low + 0 ≡ low = omega arith in let g : 0 + n ≡ n = omega arith in rw g (rw f at h)

pub not_code : (e : LogEntry) (code : ℕ) → is_add e.operation ≡ false → 1 ≤ code → code ≤ 5 → (e.operation == code) ≡ false
not_code e code none l h = equal_no e.operation code (λ same. let a : is_add code ≡ false = rw same at none in let b : nat_le 1 code ≡ true = grind (arith, nat_tests) in let d : nat_le code 5 ≡ true = grind (arith, nat_tests) in let f : true ≡ false = rw (b, d) at a in absurd cc)

-- how often the pairs behind name a row: once from the first that is still to come on
named_none : (c : Chain) (before : List LogEntry) (code r : ℕ) → count_by (is_token (new_row c (child_table code) r)) (children (counted [])) ≡ hits (adds before code) (adds [] code) r
unfolding counted
named_none c before code r = sym (hits_none (adds before code) r)

pub count_append : (p : Token → Bool) (xs ys : List Token) → count_by p (xs ++ ys) ≡ count_by p xs + count_by p ys
count_append p xs ys = sum_by-append (λ (t : Token). cond (p t) 1 0) xs ys

sums : (a b d e : ℕ) → a ≡ d → b ≡ e → a + b ≡ d + e
sums a b d e h k = omega arith

named_step : (c : Chain) (before es : List LogEntry) (e : LogEntry) → (counts e ≡ true → is_add e.operation ≡ true → follows c before e.operation (find counts es) ≡ true) → (code r : ℕ) → 1 ≤ code → code ≤ 5 → count_by (is_token (new_row c (child_table code) r)) (children (counted es)) ≡ hits (adds (before ++ e ∷ []) code) (adds es code) r → count_by (is_token (new_row c (child_table code) r)) (children (counted (e ∷ es))) ≡ hits (adds before code) (adds (e ∷ es) code) r
named_step c before es e good code r l h behind =
    let p = is_token (new_row c (child_table code) r) in
    let low = adds before code in
    let n = adds es code in
    let rest = count_by p (children (counted es)) in
    let head : hits low (cond (counts e && e.operation == code) 1 0 + n) r ≡ hits low (adds (e ∷ es) code) r = ap (λ m. hits low m r) (sym (adds_head e es code)) in
    let ih : rest ≡ hits (low + cond (counts e && e.operation == code) 1 0) n r = behind ∙ ap (λ m. hits m n r) (adds_push before e code) in
    elim (two (counts e)) [
      | inr off ↦
          let b : (counts e && e.operation == code) ≡ false = rw off refl in
          ap (λ xs. count_by p (children xs)) (counted_no e es off) ∙ none_here low n r rest (counts e && e.operation == code) b ih ∙ head
      | inl on ↦ elim (two (is_add e.operation)) [
        | inr other ↦
            let b : (counts e && e.operation == code) ≡ false = rw on (not_code e code other l h) in
            ap (count_by p) (children_yes e es on ∙ ap (λ xs. xs ++ children (counted es)) (kid_other e (find counts es) other)) ∙ none_here low n r rest (counts e && e.operation == code) b ih ∙ head
        | inl add ↦
            let b : (counts e && e.operation == code) ≡ (e.operation == code) = rw on refl in
            let here : count_by p (kid e (find counts es)) ≡ cond (e.operation == code && r == low) 1 0 = kid_count c before e (find counts es) code r add (good on add) l h in
            let there : rest ≡ hits (low + cond (e.operation == code) 1 0) n r = ih ∙ ap (λ s. hits (low + cond s 1 0) n r) b in
            ap (count_by p) (children_yes e es on) ∙ count_append p (kid e (find counts es)) (children (counted es)) ∙ sums _ _ _ _ here there ∙ step (e.operation == code) low n r ∙ ap (λ s. hits low (cond s 1 0 + n) r) (sym b) ∙ head
      ]
    ]

pub named : (c : Chain) (before es : List LogEntry) → Good c before es → (code r : ℕ) → 1 ≤ code → code ≤ 5 → count_by (is_token (new_row c (child_table code) r)) (children (counted es)) ≡ hits (adds before code) (adds es code) r
named c before [] g code r l h = named_none c before code r
named c before (e ∷ es) g code r l h = named_step c before es e g.0 code r l h (named c (before ++ e ∷ []) es g.1 code r l h)

pub log_named : (c : Chain) (tokens : List Token) (log : List LogEntry) → log_fault c tokens log ≡ None → (code r : ℕ) → 1 ≤ code → code ≤ 5 → count_by (is_token (new_row c (child_table code) r)) (children (counted log)) ≡ hits 0 (adds log code) r
log_named c tokens log none code r l h = named c [] log (log_good c tokens log none) code r l h

-- so the new rows up to the number of pairs are right, and the next isn't
row_good : (c : Chain) (tokens : List Token) (log : List LogEntry) → log_fault c tokens log ≡ None → (code r : ℕ) → 1 ≤ code → code ≤ 5 → r < adds log code → child_fault_at c log (child_table code) r ≡ None
unfolding child_fault_at
row_good c tokens log none code r l h less =
    let one : hits 0 (adds log code) r ≡ 1 = grind (arith, nat_tests) in
    rw (log_named c tokens log none code r l h ∙ one) refl

row_bad : (c : Chain) (tokens : List Token) (log : List LogEntry) → log_fault c tokens log ≡ None → (code r : ℕ) → 1 ≤ code → code ≤ 5 → adds log code ≤ r → child_fault_at c log (child_table code) r ≡ Some (place.Row (new_row c (child_table code) r))
unfolding child_fault_at
row_bad c tokens log none code r l h past =
    let zero_times : hits 0 (adds log code) r ≡ 0 = grind (arith, nat_tests) in
    rw (log_named c tokens log none code r l h ∙ zero_times) refl

pub all_named : (c : Chain) (tokens : List Token) (log : List LogEntry) (code : ℕ) → log_fault c tokens log ≡ None → 1 ≤ code → code ≤ 5 → inserts c tokens (child_table code) ≤ adds log code → None ≡ child_fault_in c tokens log (child_table code)
unfolding child_fault_in
all_named c tokens log code none l h le = sym (none_of (child_fault_at c log (child_table code)) (inserts c tokens (child_table code)) (λ k less. row_good c tokens log none code k l h (omega arith)))

pub one_unnamed : (c : Chain) (tokens : List Token) (log : List LogEntry) (code : ℕ) → log_fault c tokens log ≡ None → 1 ≤ code → code ≤ 5 → adds log code < inserts c tokens (child_table code) → Some (place.Row (new_row c (child_table code) (adds log code))) ≡ child_fault_in c tokens log (child_table code)
unfolding child_fault_in
one_unnamed c tokens log code none l h less =
    let pairs = adds log code in
    first_found (child_fault_at c log (child_table code)) (inserts c tokens (child_table code)) pairs (Some (place.Row (new_row c (child_table code) pairs))) less (none_of (child_fault_at c log (child_table code)) pairs (λ k lt. row_good c tokens log none code k l h lt)) (sym (row_bad c tokens log none code pairs l h (omega arith))) refl

-- the rows after fit three bytes where the inserts are right
next_row : (p : Place) (a b : Bool) → broken (a && not b) p ≡ None → a ≡ true → b ≡ true
next_row p true true h e = refl
next_row p true false h e = absurd cc
next_row p false b h e = absurd cc

insert_is : (c : Chain) (tokens before : List Token) (t : Token) → insert_fault_of c before t ≡ None → is_insert c t ≡ true → t.row ≡ rows_before c t.table + inserts c before t.table + 1
unfolding insert_fault_of
insert_is c tokens before t h is = equal _ _ (next_row (place.Row t) (is_insert c t) (t.row == rows_before c t.table + inserts c before t.table + 1) h is)

room_at : (c : Chain) (tokens : List Token) → ((k : ℕ) → k < length tokens → insert_fault_at c tokens k ≡ None) → AreTokens tokens → (table k : ℕ) → k ≤ length tokens → 0 < inserts c (take k tokens) table → rows_before c table + inserts c (take k tokens) table < 0x1000000
room_at c tokens each rows table zero le some = let e = inserts_none c table in absurd (omega arith)
room_at c tokens each rows table (suc k) le some =
    let e : suc k ≡ k + 1 = omega arith in
    let h : k < length tokens = omega arith in
    let t = get_or tokens k no_token in
    elim (two (t.table == table && is_insert c t)) [
      | inr other ↦
          let same = into_no c tokens k table h other in
          let more : 0 < inserts c (take k tokens) table = rw (e, same) at some in
          rw (e, same) (room_at c tokens each rows table k (omega arith) more)
      | inl into ↦
          let same = into_yes c tokens k table h into in
          let here : t.table ≡ table = equal _ _ (both_left (t.table == table) (is_insert c t) into) in
          let row : t.row ≡ rows_before c t.table + inserts c (take k tokens) t.table + 1 = insert_is c tokens (take k tokens) t (sym (fault_is c tokens k h) ∙ each k h) (both_right (t.table == table) (is_insert c t) into) in
          let small = token_fits tokens k rows h in
          rw (e, same, ← here) (omega arith)
    ]

pub room : (c : Chain) (tokens : List Token) (table : ℕ) → insert_fault c tokens ≡ None → AreTokens tokens → 0 < inserts c tokens table → rows_before c table + inserts c tokens table < 0x1000000
unfolding insert_fault
room c tokens table none rows some =
    let all : take (length tokens) tokens ≡ tokens = take_end tokens (length tokens) refl in
    rw all at (room_at c tokens (none_at (insert_fault_at c tokens) (length tokens) none) rows table (length tokens) (omega arith) (rw all some))

pub row_fits : (c : Chain) (tokens : List Token) (m : Module) (table before pairs many : ℕ) → insert_fault c tokens ≡ None → AreTokens tokens → m ≡ c.plain → before ≡ length (rows_in m table) → many ≡ inserts c tokens table → pairs < many → before + pairs + 1 < 4294967296
row_fits c tokens m table before pairs many none rows means is number less =
    let same : before ≡ rows_before c table = is ∙ ap (λ (n : Module). length (rows_in n table)) means in
    let some : 0 < inserts c tokens table = omega arith in
    let bound = room c tokens table none rows some in
    omega arith

pub row_told : (c : Chain) (tokens : List Token) (log : List LogEntry) (m : Module) (code table before pairs many : ℕ) → log_fault c tokens log ≡ None → 1 ≤ code → code ≤ 5 → m ≡ c.plain → table ≡ child_table code → before ≡ length (rows_in m table) → many ≡ inserts c tokens table → pairs ≡ adds log code → pairs < many → Some (place.Row (record { table = table; row = before + pairs + 1 })) ≡ child_fault_in c tokens log (child_table code)
row_told c tokens log m code table before pairs many none l h means at is number of less =
    let same : before ≡ rows_before c (child_table code) = is ∙ ap (λ (n : Module). length (rows_in n table)) means ∙ ap (λ (t : ℕ). length (rows_in c.plain t)) at in
    let many_is : many ≡ inserts c tokens (child_table code) = number ∙ ap (inserts c tokens) at in
    rw (at, same, of) (one_unnamed c tokens log code none l h (rw (← of, ← many_is) less))
