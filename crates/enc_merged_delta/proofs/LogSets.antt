-- EncMap of the merged delta and the entries of its EncLog with code 0 have the same tokens.
use Rattle.std.proofs.Common.{◌≡◌, ℕ, Bool, true, false, not, List, [], ◌∷◌, ◌++◌, map, None, refl, sym, ap, ◌∙◌, inl, inr, arith}
use Rattle.std.specs.Prelude.{◌||◌, ◌&&◌, ◌==◌, filter}
use Rattle.std.proofs.lemmas.Bool.{cases_Bool, or_cases, or_left, or_right}
use Rattle.std.proofs.lemmas.Bool.Decides.{nat_tests}
use Rattle.std.proofs.lemmas.List.{map-append}
use Rattle.std.proofs.lemmas.List.Elements.{filter-append}
use Rattle.std.proofs.lemmas.List.Folds.{list_any-append}
use Rattle.enc_base.specs.Token.{is_token, number_of}
use Rattle.enc_base.specs.declared.token.Token.{Token}
use Rattle.enc_rows.specs.Source.{Source}
use Rattle.enc_plain.specs.Chain.{Chain}
use Rattle.enc_delta.specs.declared.log_entry.LogEntry.{LogEntry}
use Rattle.enc_delta.specs.Delta.{listed, log_in}
use Rattle.enc_delta.specs.Judged.{unmatched_token}
use Rattle.enc_delta.specs.Rules.{stands_in, in_one, counts, counted, changed, set_fault}
use Rattle.enc_delta.proofs.Unbroken.{landed}
use Rattle.enc_agg.specs.Extend.{extended}
use Rattle.enc_agg.specs.Follows.{Lands}
use Rattle.enc_agg.proofs.Rising.{no_least, no_place}
use Rattle.enc_merged_delta.specs.Laws.{KeepsMerged}
use Rattle.enc_merged_delta.specs.Merged.{MayMerge, SaysMerged, is_in_map}
use Rattle.enc_merged_delta.proofs.Among.{lists, self, number_there}

-- where two lists of numbers are told to have the same, they have
pub record Same (ns ms : List ℕ) : Type 0 where
  pub to : (n : ℕ) → stands_in ns n ≡ true → stands_in ms n ≡ true
  pub back : (n : ℕ) → stands_in ms n ≡ true → stands_in ns n ≡ true

none_kept : (p : ℕ → Bool) (zs : List ℕ) (n : ℕ) → filter p zs ≡ [] → stands_in zs n ≡ true → p n ≡ false
none_kept p [] n h there = absurd cc
none_kept p (z ∷ zs) n h there = elim (cases_Bool (p z)) [
  | inl kept ↦ let f : z ∷ filter p zs ≡ [] = rw kept at h in absurd cc
  | inr left ↦
      let rest : filter p zs ≡ [] = rw left at h in
      elim (or_cases (z == n) (stands_in zs n) there) [
        | inl here ↦ let e : z ≡ n = grind (arith, nat_tests, here) in rw (← e) left
        | inr behind ↦ none_kept p zs n rest behind
      ]
]

both_true : (a b : Bool) → not (a && b) ≡ false → (a ≡ true) × (b ≡ true)
both_true true true h = (refl, refl)
both_true true false h = absurd cc
both_true false b h = absurd cc

same_of : (ns ms : List ℕ) → set_fault ns ms ≡ None → Same ns ms
unfolding set_fault
same_of ns ms h =
    let none = no_least _ (no_place _ h) in
    let in_ns : (n : ℕ) → stands_in (ns ++ ms) n ≡ true → (stands_in ns n ≡ true) × (stands_in ms n ≡ true) = λ n there. both_true _ _ (none_kept (in_one ns ms) (ns ++ ms) n none there) in
    record {
      to = λ n there. (in_ns n (list_any-append (λ m. m == n) ns ms ∙ or_left (stands_in ns n) (stands_in ms n) there)).1;
      back = λ n there. (in_ns n (list_any-append (λ m. m == n) ns ms ∙ or_right (stands_in ns n) (stands_in ms n) there)).0;
    }

none_apart : (ns ms zs : List ℕ) → ((n : ℕ) → stands_in zs n ≡ true → in_one ns ms n ≡ false) → filter (in_one ns ms) zs ≡ []
none_apart ns ms [] none = refl
none_apart ns ms (z ∷ zs) none =
    let here : in_one ns ms z ≡ false = none z (or_left (z == z) (stands_in zs z) (grind (arith, nat_tests))) in
    rw here (none_apart ns ms zs (λ n h. none n (or_right (z == n) (stands_in zs n) h)))

same_sets : (ns ms : List ℕ) → Same ns ms → set_fault ns ms ≡ None
unfolding set_fault
same_sets ns ms same = rw (none_apart ns ms (ns ++ ms) in_both) refl
  where
    in_both : (n : ℕ) → stands_in (ns ++ ms) n ≡ true → in_one ns ms n ≡ false
    in_both n h = elim (or_cases (stands_in ns n) (stands_in ms n) (sym (list_any-append (λ m. m == n) ns ms) ∙ h)) [
      | inl a ↦ rw (a, same.to n a) refl
      | inr b ↦ rw (b, same.back n b) refl
    ]

-- the numbers of tokens of which each is among the first or the second are so too
numbers_either : (ts xs ys : List Token) → ((u : Token) → lists ts u ≡ true → (lists xs u || lists ys u) ≡ true) → (n : ℕ) → stands_in (map number_of ts) n ≡ true → (stands_in (map number_of xs) n || stands_in (map number_of ys) n) ≡ true
numbers_either [] xs ys each n h = absurd cc
numbers_either (t ∷ ts) xs ys each n h = elim (or_cases (number_of t == n) (stands_in (map number_of ts) n) h) [
  | inl here ↦
      let is : number_of t ≡ n = grind (arith, nat_tests, here) in
      rw (← is) (elim (or_cases (lists xs t) (lists ys t) (each t (or_left (is_token t t) (lists ts t) (self t)))) [
        | inl first ↦ or_left (stands_in (map number_of xs) (number_of t)) (stands_in (map number_of ys) (number_of t)) (number_there xs t first)
        | inr second ↦ or_right (stands_in (map number_of xs) (number_of t)) (stands_in (map number_of ys) (number_of t)) (number_there ys t second)
      ])
  | inr behind ↦ numbers_either ts xs ys (λ u g. each u (or_right (is_token t u) (lists ts u) g)) n behind
]

numbers_there : (xs ys : List Token) → ((u : Token) → lists xs u ≡ true → lists ys u ≡ true) → (n : ℕ) → stands_in (map number_of xs) n ≡ true → stands_in (map number_of ys) n ≡ true
numbers_there [] ys each n h = absurd cc
numbers_there (x ∷ xs) ys each n h = elim (or_cases (number_of x == n) (stands_in (map number_of xs) n) h) [
  | inl here ↦ let is : number_of x ≡ n = grind (arith, nat_tests, here) in rw (← is) (number_there ys x (each x (or_left (is_token x x) (lists xs x) (self x))))
  | inr behind ↦ numbers_there xs ys (λ u g. each u (or_right (is_token x u) (lists xs u) g)) n behind
]

-- the tokens with code 0 of a log are those of its entries that count
abbrev is_change : LogEntry → Bool
is_change e = counts e && e.operation == 0

changed_both : (xs ys : List LogEntry) → changed (xs ++ ys) ≡ changed xs ++ changed ys
unfolding changed
changed_both xs ys = ap (map (λ (e : LogEntry). e.token)) (filter-append is_change xs ys) ∙ map-append (λ (e : LogEntry). e.token) (filter is_change xs) (filter is_change ys)

changed_counted : (es : List LogEntry) → changed (counted es) ≡ changed es
unfolding changed counted
changed_counted [] = refl
changed_counted (e ∷ es) = elim (cases_Bool (counts e)) [
  | inr off ↦ rw off (changed_counted es)
  | inl on ↦ elim (cases_Bool (e.operation == 0)) [
    | inl zero_code ↦ rw (on, on, zero_code) (ap (λ ts. e.token ∷ ts) (changed_counted es))
    | inr other ↦ rw (on, on, other) (changed_counted es)
  ]
]

changed_log : (c : Chain) (a b s : Source) → SaysMerged c a b s → changed (log_in s) ≡ changed (log_in a) ++ changed (log_in b)
changed_log c a b s says = rw says.log (changed_both (counted (log_in a)) (counted (log_in b)) ∙ rw (changed_counted (log_in a), changed_counted (log_in b)) refl)

numbers_changed : (c : Chain) (a b s : Source) → SaysMerged c a b s → (n : ℕ) → stands_in (map number_of (changed (log_in s))) n ≡ (stands_in (map number_of (changed (log_in a))) n || stands_in (map number_of (changed (log_in b))) n)
numbers_changed c a b s says n =
    ap (λ ts. stands_in (map number_of ts) n) (changed_log c a b s says)
    ∙ ap (λ ns. stands_in ns n) (map-append number_of (changed (log_in a)) (changed (log_in b)))
    ∙ list_any-append (λ m. m == n) (map number_of (changed (log_in a))) (map number_of (changed (log_in b)))

pub same_in : (c : Chain) (s : Source) → Lands c s → Same (map number_of (listed s)) (map number_of (changed (log_in s)))
unfolding unmatched_token
same_in c s f = same_of _ _ (landed c s f.early).sets

same_merged : (c : Chain) (a b s : Source) → MayMerge c a b → SaysMerged c a b s → Same (map number_of (listed s)) (map number_of (changed (log_in s)))
same_merged c a b s may says =
    let first = same_in c a may.first.lands in
    let second = same_in (extended c a) b may.second.lands in
    let ca = map number_of (changed (log_in a)) in
    let cb = map number_of (changed (log_in b)) in
    record {
      to = λ n there. numbers_changed c a b s says n ∙ elim (or_cases _ _ (numbers_either (listed s) (listed a) (listed b) (λ u h. sym (says.tokens u) ∙ h) n there)) [
        | inl x ↦ or_left (stands_in ca n) (stands_in cb n) (first.to n x)
        | inr y ↦ or_right (stands_in ca n) (stands_in cb n) (second.to n y)
      ];
      back = λ n there. elim (or_cases (stands_in ca n) (stands_in cb n) (sym (numbers_changed c a b s says n) ∙ there)) [
        | inl x ↦ numbers_there (listed a) (listed s) (λ u h. says.tokens u ∙ or_left (is_in_map a u) (is_in_map b u) h) n (first.back n x)
        | inr y ↦ numbers_there (listed b) (listed s) (λ u h. says.tokens u ∙ or_right (is_in_map a u) (is_in_map b u) h) n (second.back n y)
      ];
    }

-- E9
pub keeps_sets : KeepsMerged unmatched_token
unfolding unmatched_token
keeps_sets c a b s may says = same_sets (map number_of (listed s)) (map number_of (changed (log_in s))) (same_merged c a b s may says)
