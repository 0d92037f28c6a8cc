-- What a walk over the data sections of a body reads.
use Rattle.std.proofs.Common.{◌≡◌, ℕ, zero, suc, ◌+◌, ◌-◌, ◌*◌, ◌<◌, ◌≤◌, Bool, true, false, List, [], ◌∷◌, ◌++◌, length, drop, Option, Some, None, option_map, refl, ap, ◌∙◌, arith}
use Rattle.std.specs.Prelude.{is_some, slice_get, if◌then◌else◌, ◌==◌}
use Rattle.std.proofs.lemmas.List.{length-drop, append-nil}
use Rattle.enc_opcodes.specs.declared.code.Clause.{Clause}
use Rattle.enc_opcodes.specs.Instruction.{◌>>=◌, range_at}
use Rattle.enc_il.specs.Seen.{all_sections, behind_all}
use Rattle.enc_opcodes.specs.Clause.{Section, clause_size, with_clauses, counted_in, section_of_kind, section_in, section_followed, sections_in, data_sections, clause_in, clauses_in, clauses_of}

-- a section takes at least its four bytes
within_clauses : (fat more : Bool) (count : ℕ) (rest : List ℕ) (x : Section × List ℕ) → with_clauses fat more count rest ≡ Some x → length x.1 ≤ length rest
within_clauses fat more count rest x is = by_range (range_at rest 0 (clause_size fat * count)) is
  where
    by_range : (o : Option (List ℕ)) → option_map (λ (bytes : List ℕ). (record { fat = fat; more = more; count = count; clauses = bytes }, drop (clause_size fat * count) rest)) o ≡ Some x → length x.1 ≤ length rest
    by_range None is = absurd cc
    by_range (Some bytes) is =
        let e : drop (clause_size fat * count) rest ≡ x.1 = cc in
        let l = length-drop (clause_size fat * count) rest in
        rw (← e) (omega (arith, l))

within_kind : (kind a b c : ℕ) (rest : List ℕ) (x : Section × List ℕ) → section_of_kind kind a b c rest ≡ Some x → length x.1 ≤ length rest
unfolding section_of_kind
within_kind kind a b c rest x is = by_kind (kind == 0x01) (kind == 0x41) (kind == 0x81) (kind == 0xC1) is
  where
    by_kind : (p q r s : Bool) → (if p then with_clauses false false (counted_in false a b c) rest else if q then with_clauses true false (counted_in true a b c) rest else if r then with_clauses false true (counted_in false a b c) rest else if s then with_clauses true true (counted_in true a b c) rest else None) ≡ Some x → length x.1 ≤ length rest
    by_kind true q r s is = within_clauses false false (counted_in false a b c) rest x is
    by_kind false true r s is = within_clauses true false (counted_in true a b c) rest x is
    by_kind false false true s is = within_clauses false true (counted_in false a b c) rest x is
    by_kind false false false true is = within_clauses true true (counted_in true a b c) rest x is
    by_kind false false false false is = absurd cc

pub shorter : (bytes : List ℕ) (x : Section × List ℕ) → section_in bytes ≡ Some x → length x.1 < length bytes
unfolding section_in
shorter [] x is = absurd cc
shorter (a ∷ []) x is = absurd cc
shorter (a ∷ b ∷ []) x is = absurd cc
shorter (a ∷ b ∷ c ∷ []) x is = absurd cc
shorter (a ∷ b ∷ c ∷ d ∷ rest) x is = let w = within_kind a b c d rest x is in omega (arith, w)

-- as many sections as bytes are enough
pub enough : (n m : ℕ) (bytes : List ℕ) → length bytes ≤ n → length bytes ≤ m → sections_in n bytes ≡ sections_in m bytes
unfolding sections_in
enough zero zero bytes hn hm = refl
enough zero (suc m) bytes hn hm = by_front (section_in bytes) refl
  where
    by_front : (o : Option (Section × List ℕ)) → section_in bytes ≡ o → None ≡ (o >>= λ x. section_followed x (sections_in m))
    by_front None is = refl
    by_front (Some x) is = let l = shorter bytes x is in absurd (omega (arith, l))
enough (suc n) zero bytes hn hm = by_front (section_in bytes) refl
  where
    by_front : (o : Option (Section × List ℕ)) → section_in bytes ≡ o → (o >>= λ x. section_followed x (sections_in n)) ≡ None
    by_front None is = refl
    by_front (Some x) is = let l = shorter bytes x is in absurd (omega (arith, l))
enough (suc n) (suc m) bytes hn hm = by_front (section_in bytes) refl (λ x l. enough n m x.1 (omega (arith, l)) (omega (arith, l)))
  where
    by_front : (o : Option (Section × List ℕ)) → section_in bytes ≡ o → ((x : Section × List ℕ) → length x.1 < length bytes → sections_in n x.1 ≡ sections_in m x.1) → (o >>= λ x. section_followed x (sections_in n)) ≡ (o >>= λ x. section_followed x (sections_in m))
    by_front None is more = refl
    by_front (Some x) is more = ap (λ o. if x.0.more then option_map (λ (y : List Section × List ℕ). (x.0 ∷ y.0, y.1)) o else Some (x.0 ∷ [], x.1)) (more x (shorter bytes x is))

-- the walk goes on behind a section that another follows
pub walked : (bytes : List ℕ) → all_sections bytes ≡ (section_in bytes >>= λ x. section_followed x all_sections)
unfolding sections_in
walked bytes = enough (length bytes) (suc (length bytes)) bytes (omega arith) (omega arith) ∙ by_front (section_in bytes) refl
  where
    by_front : (o : Option (Section × List ℕ)) → section_in bytes ≡ o → (o >>= λ x. section_followed x (sections_in (length bytes))) ≡ (o >>= λ x. section_followed x all_sections)
    by_front None is = refl
    by_front (Some x) is = let l = shorter bytes x is in ap (λ o. if x.0.more then option_map (λ (y : List Section × List ℕ). (x.0 ∷ y.0, y.1)) o else Some (x.0 ∷ [], x.1)) (enough (length bytes) (length x.1) x.1 (omega (arith, l)) (omega arith))

pub all_none : (bytes : List ℕ) → section_in bytes ≡ None → all_sections bytes ≡ None
all_none bytes is = walked bytes ∙ ap (λ o. o >>= λ x. section_followed x all_sections) is

pub all_last : (bytes : List ℕ) (x : Section × List ℕ) → section_in bytes ≡ Some x → x.0.more ≡ false → all_sections bytes ≡ Some (x.0 ∷ [], x.1)
all_last bytes x is last = walked bytes ∙ (ap (λ o. o >>= λ y. section_followed y all_sections) is ∙ rw last refl)

pub all_more : (bytes : List ℕ) (x : Section × List ℕ) → section_in bytes ≡ Some x → x.0.more ≡ true → all_sections bytes ≡ option_map (λ (y : List Section × List ℕ). (x.0 ∷ y.0, y.1)) (all_sections x.1)
all_more bytes x is more = walked bytes ∙ (ap (λ o. o >>= λ y. section_followed y all_sections) is ∙ rw more refl)

pub behind_none : (bytes : List ℕ) → section_in bytes ≡ None → behind_all bytes ≡ None
behind_none bytes is = rw (all_none bytes is) refl

pub behind_last : (bytes : List ℕ) (x : Section × List ℕ) → section_in bytes ≡ Some x → x.0.more ≡ false → behind_all bytes ≡ Some x.1
behind_last bytes x is last = rw (all_last bytes x is last) refl

pub behind_more : (bytes : List ℕ) (x : Section × List ℕ) → section_in bytes ≡ Some x → x.0.more ≡ true → behind_all bytes ≡ behind_all x.1
behind_more bytes x is more = rw (all_more bytes x is more) (by_all (all_sections x.1))
  where
    by_all : (o : Option (List Section × List ℕ)) → option_map (λ (y : List Section × List ℕ). y.1) (option_map (λ (y : List Section × List ℕ). (x.0 ∷ y.0, y.1)) o) ≡ option_map (λ (y : List Section × List ℕ). y.1) o
    by_all None = refl
    by_all (Some y) = refl

pub behind_is : (bytes : List ℕ) → behind_all bytes ≡ None → all_sections bytes ≡ None
behind_is bytes is = by_all (all_sections bytes) is
  where
    by_all : (o : Option (List Section × List ℕ)) → option_map (λ (y : List Section × List ℕ). y.1) o ≡ None → o ≡ None
    by_all None is = refl
    by_all (Some y) is = absurd cc

-- the sections of bytes at whose front no section stands, the last section, and one that another follows
pub sections_none : (bytes : List ℕ) → section_in bytes ≡ None → data_sections bytes ≡ []
unfolding data_sections
sections_none bytes is = rw (all_none bytes is) refl

pub sections_last : (bytes : List ℕ) (x : Section × List ℕ) → section_in bytes ≡ Some x → x.0.more ≡ false → data_sections bytes ≡ x.0 ∷ []
unfolding data_sections
sections_last bytes x is last = rw (all_last bytes x is last) refl

pub sections_more : (bytes : List ℕ) (x : Section × List ℕ) → section_in bytes ≡ Some x → x.0.more ≡ true → is_some (all_sections bytes) ≡ true → data_sections bytes ≡ x.0 ∷ data_sections x.1
unfolding data_sections
sections_more bytes x is more whole = by_all (all_sections x.1) refl
  where
    by_all : (o : Option (List Section × List ℕ)) → all_sections x.1 ≡ o → data_sections bytes ≡ x.0 ∷ data_sections x.1
    by_all None none = let e : is_some (all_sections bytes) ≡ false = rw (all_more bytes x is more, none) refl in absurd cc
    by_all (Some y) there = rw (all_more bytes x is more, there) refl

-- what isn't whole has no sections
pub not_whole : (bytes : List ℕ) → all_sections bytes ≡ None → data_sections bytes ≡ []
unfolding data_sections
not_whole bytes is = rw is refl

pub whole_more : (bytes : List ℕ) (x : Section × List ℕ) → section_in bytes ≡ Some x → x.0.more ≡ true → is_some {T = List Section × List ℕ} (all_sections bytes) ≡ is_some {T = List Section × List ℕ} (all_sections x.1)
whole_more bytes x is more = rw (all_more bytes x is more) (by_all (all_sections x.1))
  where
    by_all : (o : Option (List Section × List ℕ)) → is_some {T = List Section × List ℕ} (option_map (λ (y : List Section × List ℕ). (x.0 ∷ y.0, y.1)) o) ≡ is_some {T = List Section × List ℕ} o
    by_all None = refl
    by_all (Some y) = refl

-- so it is with the clauses
abbrev pub clauses_held : Section → List Clause
clauses_held s = clauses_in s.fat s.count s.clauses

pub clauses_none : (bytes : List ℕ) → all_sections bytes ≡ None → clauses_of bytes ≡ []
unfolding clauses_of
clauses_none bytes is = rw (not_whole bytes is) refl

pub clauses_last : (bytes : List ℕ) (x : Section × List ℕ) → section_in bytes ≡ Some x → x.0.more ≡ false → clauses_of bytes ≡ clauses_held x.0
unfolding clauses_of
clauses_last bytes x is last = rw (sections_last bytes x is last) (append-nil (clauses_held x.0))

pub clauses_more : (bytes : List ℕ) (x : Section × List ℕ) → section_in bytes ≡ Some x → x.0.more ≡ true → is_some (all_sections bytes) ≡ true → clauses_of bytes ≡ clauses_held x.0 ++ clauses_of x.1
unfolding clauses_of
clauses_more bytes x is more whole = rw (sections_more bytes x is more whole) refl

-- the clauses of a section by their numbers
pub clauses_counted : (fat : Bool) (n : ℕ) (bytes : List ℕ) → length (clauses_in fat n bytes) ≡ n
unfolding clauses_in
clauses_counted fat zero bytes = refl
clauses_counted fat (suc n) bytes = let e = clauses_counted fat n (drop (clause_size fat) bytes) in omega (arith, e)

drops : (n m : ℕ) (xs : List ℕ) → drop n (drop m xs) ≡ drop (m + n) xs
drops n zero xs = let e : 0 + n ≡ n = omega arith in rw e refl
drops n (suc m) (x ∷ xs) = let e : suc m + n ≡ suc (m + n) = omega arith in rw e (drops n m xs)
drops zero (suc m) [] = let e : suc m + 0 ≡ suc m = omega arith in rw e refl
drops (suc n) (suc m) [] = let e : suc m + suc n ≡ suc (m + suc n) = omega arith in rw e refl

pub nth_clause : (fat : Bool) (n : ℕ) (bytes : List ℕ) (i : ℕ) → i < n → slice_get (clauses_in fat n bytes) i ≡ Some (clause_in fat (drop (clause_size fat * i) bytes))
unfolding clauses_in
nth_clause fat zero bytes i h = absurd (omega (arith, h))
nth_clause fat (suc n) bytes zero h = let e : clause_size fat * 0 ≡ 0 = omega arith in rw e refl
nth_clause fat (suc n) bytes (suc i) h =
    let e : clause_size fat * suc i ≡ clause_size fat + clause_size fat * i = omega arith in
    rw (e, ← drops (clause_size fat * i) (clause_size fat) bytes) (nth_clause fat n (drop (clause_size fat) bytes) i (omega (arith, h)))

-- an element of the first list or of the second
get_first : (xs ys : List Clause) (i : ℕ) → i < length xs → slice_get (xs ++ ys) i ≡ slice_get xs i
get_first [] ys i h = absurd (omega (arith, h))
get_first (x ∷ xs) ys zero h = refl
get_first (x ∷ xs) ys (suc i) h = get_first xs ys i (omega (arith, h))

get_second : (xs ys : List Clause) (i : ℕ) → length xs ≤ i → slice_get (xs ++ ys) i ≡ slice_get ys (i - length xs)
get_second [] ys i h = let e : i - 0 ≡ i = omega arith in rw e refl
get_second (x ∷ xs) ys zero h = absurd (omega (arith, h))
get_second (x ∷ xs) ys (suc i) h =
    let e : suc i - length (x ∷ xs) ≡ i - length xs = omega arith in
    rw e (get_second xs ys i (omega (arith, h)))

get_past : (xs : List Clause) (i : ℕ) → length xs ≤ i → slice_get xs i ≡ None
get_past [] i h = refl
get_past (x ∷ xs) zero h = absurd (omega (arith, h))
get_past (x ∷ xs) (suc i) h = get_past xs i (omega (arith, h))

pub clause_here : (bytes : List ℕ) (x : Section × List ℕ) (i : ℕ) → section_in bytes ≡ Some x → is_some (all_sections bytes) ≡ true → i < x.0.count → slice_get (clauses_of bytes) i ≡ slice_get (clauses_held x.0) i
clause_here bytes x i is whole h = by_more x.0.more refl
  where
    by_more : (b : Bool) → x.0.more ≡ b → slice_get (clauses_of bytes) i ≡ slice_get (clauses_held x.0) i
    by_more false last = rw (clauses_last bytes x is last) refl
    by_more true more =
        let l = clauses_counted x.0.fat x.0.count x.0.clauses in
        rw (clauses_more bytes x is more whole) (get_first (clauses_held x.0) (clauses_of x.1) i (omega (arith, l, h)))

pub clause_past : (bytes : List ℕ) (x : Section × List ℕ) (i : ℕ) → section_in bytes ≡ Some x → x.0.more ≡ false → x.0.count ≤ i → slice_get (clauses_of bytes) i ≡ None
clause_past bytes x i is last h =
    let l = clauses_counted x.0.fat x.0.count x.0.clauses in
    rw (clauses_last bytes x is last) (get_past (clauses_held x.0) i (omega (arith, l, h)))

pub clause_behind : (bytes : List ℕ) (x : Section × List ℕ) (i : ℕ) → section_in bytes ≡ Some x → x.0.more ≡ true → is_some (all_sections bytes) ≡ true → x.0.count ≤ i → slice_get (clauses_of bytes) i ≡ slice_get (clauses_of x.1) (i - x.0.count)
clause_behind bytes x i is more whole h =
    let l = clauses_counted x.0.fat x.0.count x.0.clauses in
    rw (clauses_more bytes x is more whole) (get_second (clauses_held x.0) (clauses_of x.1) i (omega (arith, l, h)) ∙ ap (λ n. slice_get (clauses_of x.1) (i - n)) l)
