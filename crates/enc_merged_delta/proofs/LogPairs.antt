-- The children that the merged delta gives to their owners are those of the first and then those of the second.
use Rattle.std.proofs.Common.{◌≡◌, true, false, List, [], ◌∷◌, ◌++◌, Option, Some, None, refl, sym, ap, ◌∙◌, inl, inr, append_assoc}
use Rattle.std.specs.Prelude.{find, if◌then◌else◌}
use Rattle.std.proofs.lemmas.Bool.{cases_Bool}
use Rattle.std.proofs.lemmas.List.Elements.{filter-append}
use Rattle.enc_plain.specs.Apply.{Attached}
use Rattle.enc_plain.specs.Chain.{Chain}
use Rattle.enc_delta.specs.declared.log_entry.LogEntry.{LogEntry}
use Rattle.enc_delta.specs.Delta.{listed, log_in}
use Rattle.enc_delta.specs.Pairs.{attached_of, pairs_in}
use Rattle.enc_delta.specs.Rules.{counts, counted, is_add, follows}
use Rattle.enc_delta.proofs.ListsChildren.{Good, log_good, counted_yes, counted_no, first_of, counted_first}
use Rattle.enc_delta.proofs.Unbroken.{landed}
use Rattle.enc_merged_delta.specs.Laws.{PairsAreOfBoth}
use Rattle.enc_merged_delta.proofs.LogEntries.{counted_none}

-- the child of an entry, by the next entry that counts
abbrev pair : LogEntry → Option LogEntry → List Attached
pair e None = []
pair e (Some f) = if is_add e.operation then record { owner = e.token; child = f.token } ∷ [] else []

pairs_cons : (e : LogEntry) (es : List LogEntry) → pairs_in (e ∷ es) ≡ pair e (first_of es) ++ pairs_in es
pairs_cons e [] = refl
pairs_cons e (f ∷ es) = elim (cases_Bool (is_add e.operation)) [ inl add ↦ rw add refl | inr other ↦ rw other refl ]

first_more : (xs ys : List LogEntry) (f : LogEntry) → first_of xs ≡ Some f → first_of (xs ++ ys) ≡ Some f
first_more [] ys f h = absurd cc
first_more (x ∷ xs) ys f h = h

no_pair : (e : LogEntry) (o : Option LogEntry) → is_add e.operation ≡ false → pair e o ≡ []
no_pair e None h = refl
no_pair e (Some f) h = rw h refl

add_pair : (c : Chain) (before xs ys : List LogEntry) (e : LogEntry) (o : Option LogEntry) → first_of xs ≡ o → follows c before e.operation o ≡ true → pair e (first_of (xs ++ ys)) ≡ pair e (first_of xs)
unfolding follows
add_pair c before xs ys e None is h = absurd cc
add_pair c before xs ys e (Some f) is h = ap (pair e) (first_more xs ys f is ∙ sym is)

same_pair : (c : Chain) (before es ys : List LogEntry) (e : LogEntry) → (is_add e.operation ≡ true → follows c before e.operation (find counts es) ≡ true) → pair e (first_of (counted es ++ ys)) ≡ pair e (first_of (counted es))
same_pair c before es ys e good = elim (cases_Bool (is_add e.operation)) [
  | inl add ↦ add_pair c before (counted es) ys e (find counts es) (counted_first es) (good add)
  | inr other ↦ no_pair e (first_of (counted es ++ ys)) other ∙ sym (no_pair e (first_of (counted es)) other)
]

-- an Add entry isn't the last, so the pairs of two logs are those of both
pairs_both : (c : Chain) (before es ys : List LogEntry) → Good c before es → pairs_in (counted es ++ ys) ≡ pairs_in (counted es) ++ pairs_in ys
pairs_both c before [] ys good = rw counted_none refl
pairs_both c before (e ∷ es) ys good = elim (cases_Bool (counts e)) [
  | inr off ↦ rw (counted_no e es off) (pairs_both c (before ++ e ∷ []) es ys good.1)
  | inl on ↦
      let rest = pairs_both c (before ++ e ∷ []) es ys good.1 in
      let same = same_pair c before es ys e (good.0 on) in
      rw (counted_yes e es on) (pairs_cons e (counted es ++ ys) ∙ rw (same, rest) (sym (append_assoc (pair e (first_of (counted es))) (pairs_in (counted es)) (pairs_in ys)) ∙ ap (λ ps. ps ++ pairs_in ys) (sym (pairs_cons e (counted es)))))
]

counted_twice : (es : List LogEntry) → counted (counted es) ≡ counted es
counted_twice [] = rw counted_none counted_none
counted_twice (e ∷ es) = elim (cases_Bool (counts e)) [
  | inl on ↦ rw (counted_yes e es on) (counted_yes e (counted es) on ∙ ap (λ fs. e ∷ fs) (counted_twice es))
  | inr off ↦ rw (counted_no e es off) (counted_twice es)
]

counted_append : (xs ys : List LogEntry) → counted (xs ++ ys) ≡ counted xs ++ counted ys
unfolding counted
counted_append xs ys = filter-append counts xs ys

counted_both : (xs ys : List LogEntry) → counted (counted xs ++ counted ys) ≡ counted xs ++ counted ys
counted_both xs ys = counted_append (counted xs) (counted ys) ∙ rw (counted_twice xs, counted_twice ys) refl

pub pairs_are : PairsAreOfBoth
unfolding attached_of
pairs_are c a b s may says =
    ap (λ es. pairs_in (counted es)) says.log
    ∙ ap pairs_in (counted_both (log_in a) (log_in b))
    ∙ pairs_both c [] (log_in a) (counted (log_in b)) (log_good c (listed a) (log_in a) (landed c a may.first.lands.early).log)
