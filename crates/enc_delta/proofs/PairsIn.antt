-- The pairs of a log, by the last entry that counts.
use Rattle.std.proofs.Common.{◌≡◌, ℕ, zero, suc, ◌+◌, ◌<◌, ◌≤◌, Bool, true, false, List, [], ◌∷◌, ◌++◌, map, length, drop, get_or, Option, Some, None, append_assoc, refl, sym, ap, ◌∙◌, inl, inr, arith}
use Rattle.std.specs.Prelude.{◌&&◌, nat_lt, filter}
use Rattle.std.specs.List.{list_all}
use Rattle.std.proofs.lemmas.List.{append-nil, map-append, drop_all}
use Rattle.enc_plain.specs.Apply.{Attached}
use Rattle.enc_plain.proofs.Columns.{both_left, both_right}
use Rattle.enc_delta.specs.declared.log_entry.LogEntry.{LogEntry}
use Rattle.enc_delta.specs.declared.pairs.Pair.{Pair}
use Rattle.enc_delta.specs.Lists.{AreEntries}
use Rattle.enc_delta.specs.Members.{pair_seen, pair_behind, ArePairs}
use Rattle.enc_delta.specs.Pairs.{pairs_in}
use Rattle.enc_delta.specs.Rules.{is_add, counts, counted}
use Rattle.enc_delta.proofs.ListsChanged.{no_entry}
use Rattle.enc_delta.proofs.ListsChildren.{two, counted_yes, counted_no}

-- the pairs of the rest, behind the last entry that counts
abbrev pub pairs_from : Option LogEntry → List LogEntry → List Attached
pairs_from None es = pairs_in es
pairs_from (Some e) es = pairs_in (e ∷ es)

one_more : (last : Option LogEntry) (f : LogEntry) (es : List LogEntry) → pairs_from last (f ∷ es) ≡ map pair_seen (pair_behind last f) ++ pairs_from (Some f) es
one_more None f es = refl
one_more (Some e) f es = elim (two (is_add e.operation)) [ inl a ↦ rw a refl | inr a ↦ rw a refl ]

pub drop_at : {A : Type 0} (xs : List A) (i : ℕ) (d : A) → i < length xs → drop i xs ≡ get_or xs i d ∷ drop (i + 1) xs
drop_at [] i d h = absurd (omega arith)
drop_at (x ∷ xs) zero d h = refl
drop_at (x ∷ xs) (suc i) d h = let e : suc i + 1 ≡ suc (i + 1) = omega arith in rw e (drop_at xs i d (omega arith))

-- what is found so far, with the pairs of the rest
abbrev pub found : List Pair → Option LogEntry → List LogEntry → List Attached
found pairs last rest = map pair_seen pairs ++ pairs_from last (counted rest)

-- one more entry, which counts or doesn't
more : (pairs : List Pair) (last : Option LogEntry) (f : LogEntry) (es : List LogEntry) → counts f ≡ true → found (pairs ++ pair_behind last f) (Some f) es ≡ found pairs last (f ∷ es)
more pairs last f es h =
    ap (λ l. l ++ pairs_from (Some f) (counted es)) (map-append pair_seen pairs (pair_behind last f)) ∙ append_assoc (map pair_seen pairs) _ _ ∙ ap (λ l. map pair_seen pairs ++ l) (sym (one_more last f (counted es)) ∙ ap (pairs_from last) (sym (counted_yes f es h)))

past : (pairs : List Pair) (last : Option LogEntry) (f : LogEntry) (es : List LogEntry) → counts f ≡ false → found pairs last es ≡ found pairs last (f ∷ es)
past pairs last f es h = ap (λ l. map pair_seen pairs ++ pairs_from last l) (sym (counted_no f es h))

pub pairs_more : (pairs : List Pair) (last : Option LogEntry) (log : List LogEntry) (i : ℕ) → i < length log → counts (get_or log i no_entry) ≡ true → found pairs last (drop i log) ≡ pairs_in (counted log) → found (pairs ++ pair_behind last (get_or log i no_entry)) (Some (get_or log i no_entry)) (drop (i + 1) log) ≡ pairs_in (counted log)
pairs_more pairs last log i l h done = more pairs last (get_or log i no_entry) (drop (i + 1) log) h ∙ ap (found pairs last) (sym (drop_at log i no_entry l)) ∙ done

pub pairs_past : (pairs : List Pair) (last : Option LogEntry) (log : List LogEntry) (i : ℕ) → i < length log → counts (get_or log i no_entry) ≡ false → found pairs last (drop i log) ≡ pairs_in (counted log) → found pairs last (drop (i + 1) log) ≡ pairs_in (counted log)
pairs_past pairs last log i l h done = past pairs last (get_or log i no_entry) (drop (i + 1) log) h ∙ ap (found pairs last) (sym (drop_at log i no_entry l)) ∙ done

last_alone : (last : Option LogEntry) → pairs_from last (counted []) ≡ []
unfolding counted
last_alone None = refl
last_alone (Some e) = refl

pub pairs_end : (pairs : List Pair) (last : Option LogEntry) (log : List LogEntry) (i : ℕ) → length log ≤ i → found pairs last (drop i log) ≡ pairs_in (counted log) → map pair_seen pairs ≡ pairs_in (counted log)
pairs_end pairs last log i h done = sym (ap (found pairs last) (drop_all i log h) ∙ ap (λ l. map pair_seen pairs ++ l) (last_alone last) ∙ append-nil _) ∙ done

-- the rows of pairs fit where those of the log's tokens do
all_map : {A B : Type 0} (f : A → B) (p : B → Bool) (xs : List A) → list_all p (map f xs) ≡ list_all (λ x. p (f x)) xs
all_map f p [] = refl
all_map f p (x ∷ xs) = ap (λ b. p (f x) && b) (all_map f p xs)

all_filter : {A : Type 0} (q p : A → Bool) (xs : List A) → list_all p xs ≡ true → list_all p (filter q xs) ≡ true
all_filter q p [] h = refl
all_filter q p (x ∷ xs) h =
    let rest = all_filter q p xs (both_right (p x) (list_all p xs) h) in
    elim (two (q x)) [ inl a ↦ rw (a, both_left (p x) (list_all p xs) h) rest | inr a ↦ rw a rest ]

abbrev fits : LogEntry → Bool
fits e = nat_lt e.token.row 0x1000000

abbrev both_fit : Attached → Bool
both_fit a = nat_lt a.owner.row 0x1000000 && nat_lt a.child.row 0x1000000

all_fit : (es : List LogEntry) → list_all fits es ≡ true → list_all both_fit (pairs_in es) ≡ true
all_fit [] h = refl
all_fit (e ∷ []) h = refl
all_fit (e ∷ f ∷ es) h =
    let more : list_all fits (f ∷ es) ≡ true = both_right (fits e) (list_all fits (f ∷ es)) h in
    let rest = all_fit (f ∷ es) more in
    elim (two (is_add e.operation)) [ inl a ↦ rw (a, both_left (fits e) (list_all fits (f ∷ es)) h, both_left (fits f) (list_all fits es) more) rest | inr a ↦ rw a rest ]

pub pairs_fit : (log : List LogEntry) (pairs : List Pair) → AreEntries log → map pair_seen pairs ≡ pairs_in (counted log) → ArePairs pairs
unfolding counted
pairs_fit log pairs all is = sym (all_map pair_seen both_fit pairs) ∙ ap (list_all both_fit) is ∙ all_fit (counted log) (all_filter counts fits log all)
