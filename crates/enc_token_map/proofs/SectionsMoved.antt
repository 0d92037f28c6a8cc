-- Data sections whose clauses' classes are moved.
use Rattle.std.proofs.Common.{◌≡◌, ℕ, ◌+◌, ◌-◌, ◌*◌, ◌<◌, ◌≤◌, Bool, true, false, cond, List, [], ◌∷◌, ◌++◌, length, map, take, drop, Option, Some}
use Rattle.std.proofs.Common.{None, option_map, refl, sym, ap, subst, ◌∙◌, arith}
use Rattle.std.specs.Prelude.{is_some, nat_le, ◌==◌, if◌then◌else◌}
use Rattle.std.proofs.lemmas.List.{append_assoc, length-append, length-take-le, length-drop, map-append, drop_at}
use Rattle.std.proofs.lemmas.Bool.Decides.{nat_tests}
use Rattle.enc_base.specs.declared.token.Token.{Token}
use Rattle.enc_base.proofs.SmallNumbers.{EachIsByte, each_drop, each_take}
use Rattle.enc_il.specs.Seen.{all_sections}
use Rattle.enc_il.proofs.Numbers.{range_between}
use Rattle.enc_il.proofs.Sections.{all_none, all_last, clauses_held, clauses_none, clauses_last, clauses_more, whole_more}
use Rattle.enc_opcodes.specs.declared.code.Clause.{Clause}
use Rattle.enc_opcodes.specs.Body.{handler_meant}
use Rattle.enc_opcodes.specs.Clause.{Section, clause_size, counted_in, with_clauses, section_of_kind, section_in, clauses_of}
use Rattle.enc_opcodes.specs.Instruction.{range_at}
use Rattle.enc_token_map.specs.Body.{handler_moved}
use Rattle.enc_token_map.specs.Copied.{clauses_moved, AreMoved}
use Rattle.enc_token_map.proofs.ClausesMoved.{Stays, StaysLow, meant, clauses_long, clauses_again}

-- a section of these parts, and the bytes behind it
abbrev pub section_with : Bool → Bool → ℕ → List ℕ → List ℕ → Section × List ℕ
section_with fat more count clauses rest = (record { fat = fat; more = more; count = count; clauses = clauses }, rest)

less : (m n : ℕ) → nat_le m n ≡ true → m ≤ n
less m n h = grind (arith, nat_tests)

abbrev first_of : Bool → Bool → ℕ → List ℕ → Section × List ℕ
first_of fat more count rest = section_with fat more count (take (clause_size fat * count) rest) (drop (clause_size fat * count) rest)

abbrev IsFirst : Bool → Bool → ℕ → List ℕ → Section × List ℕ → Type 0
IsFirst fat more count rest x = (clause_size fat * count ≤ length rest) × (first_of fat more count rest ≡ x)

with_is : (fat more : Bool) (count : ℕ) (rest : List ℕ) (x : Section × List ℕ) → with_clauses fat more count rest ≡ Some x → IsFirst fat more count rest x
unfolding range_at
with_is fat more count rest x is = by_test (nat_le (0 + n) (length rest)) refl is
  where
    n : ℕ
    n = clause_size fat * count

    by_test : (b : Bool) → nat_le (0 + n) (length rest) ≡ b
        → option_map (λ (bytes : List ℕ). section_with fat more count bytes (drop n rest)) (cond b (Some (take n rest)) None) ≡ Some x
        → IsFirst fat more count rest x
    by_test true fit is = (omega (arith, less (0 + n) (length rest) fit), cc)
    by_test false fit is = absurd cc

with_again : (fat more : Bool) (count : ℕ) (clauses rest : List ℕ) → length clauses ≡ clause_size fat * count
    → with_clauses fat more count (clauses ++ rest) ≡ Some (section_with fat more count clauses rest)
with_again fat more count clauses rest long =
    rw (range_between [] clauses rest 0 (clause_size fat * count) refl long, drop_at clauses rest (clause_size fat * count) long) refl

-- what the first four bytes of a section say of it
record KindOf (kind a b c : ℕ) : Type 0 where
  fat : Bool
  more : Bool
  count : ℕ
  is : (rest : List ℕ) → section_of_kind kind a b c rest ≡ with_clauses fat more count rest

abbrev by_kinds : Bool → Bool → Bool → Bool → ℕ → ℕ → ℕ → List ℕ → Option (Section × List ℕ)
by_kinds p q r s a b c rest =
    if p then with_clauses false false (counted_in false a b c) rest
    else if q then with_clauses true false (counted_in true a b c) rest
    else if r then with_clauses false true (counted_in false a b c) rest
    else if s then with_clauses true true (counted_in true a b c) rest
    else None

kind_of : (kind a b c : ℕ) (rest : List ℕ) (x : Section × List ℕ) → section_of_kind kind a b c rest ≡ Some x → KindOf kind a b c
unfolding section_of_kind
kind_of kind a b c rest x is = by_kind (kind == 0x01) (kind == 0x41) (kind == 0x81) (kind == 0xC1) refl refl refl refl is
  where
    by_kind : (p q r s : Bool) → (kind == 0x01) ≡ p → (kind == 0x41) ≡ q → (kind == 0x81) ≡ r → (kind == 0xC1) ≡ s
        → by_kinds p q r s a b c rest ≡ Some x → KindOf kind a b c
    by_kind true q r s hp hq hr hs is = record { fat = false; more = false; count = counted_in false a b c; is = λ rest. rw hp refl }
    by_kind false true r s hp hq hr hs is = record { fat = true; more = false; count = counted_in true a b c; is = λ rest. rw (hp, hq) refl }
    by_kind false false true s hp hq hr hs is = record { fat = false; more = true; count = counted_in false a b c; is = λ rest. rw (hp, hq, hr) refl }
    by_kind false false false true hp hq hr hs is = record { fat = true; more = true; count = counted_in true a b c; is = λ rest. rw (hp, hq, hr, hs) refl }
    by_kind false false false false hp hq hr hs is = absurd cc

-- a section at the front of bytes: with other clauses in place of its own, as many, it is read with those
pub record FrontOf (bytes : List ℕ) (x : Section × List ℕ) : Type 0 where
  pub whole : length x.0.clauses ≡ clause_size x.0.fat * x.0.count
  pub size : length bytes ≡ 4 + length x.0.clauses + length x.1
  pub clauses : EachIsByte bytes → EachIsByte x.0.clauses
  pub behind : EachIsByte bytes → EachIsByte x.1
  pub again : (clauses rest : List ℕ) → length clauses ≡ clause_size x.0.fat * x.0.count
      → section_in ((take 4 bytes ++ clauses) ++ rest) ≡ Some (section_with x.0.fat x.0.more x.0.count clauses rest)

front_with : (kind a b c : ℕ) (rest : List ℕ) (k : KindOf kind a b c) → clause_size k.fat * k.count ≤ length rest
    → FrontOf (kind ∷ a ∷ b ∷ c ∷ rest) (first_of k.fat k.more k.count rest)
unfolding section_in
front_with kind a b c rest k long =
    let n = clause_size k.fat * k.count in
    let size : length (take n rest) ≡ n = length-take-le n rest long in
    let left : length (drop n rest) ≡ length rest - n = length-drop n rest in
    let own : EachIsByte (kind ∷ a ∷ b ∷ c ∷ rest) → EachIsByte rest = λ all. each_drop (kind ∷ a ∷ b ∷ c ∷ rest) 4 all in
    record {
      whole = size;
      size = omega (arith, size, left, long);
      clauses = λ all. each_take rest n (own all);
      behind = λ all. each_drop rest n (own all);
      again = λ clauses more many. k.is (clauses ++ more) ∙ with_again k.fat k.more k.count clauses more many;
    }

pub front_of : (bytes : List ℕ) (x : Section × List ℕ) → section_in bytes ≡ Some x → FrontOf bytes x
unfolding section_in
front_of [] x is = absurd cc
front_of (a ∷ []) x is = absurd cc
front_of (a ∷ b ∷ []) x is = absurd cc
front_of (a ∷ b ∷ c ∷ []) x is = absurd cc
front_of (kind ∷ a ∷ b ∷ c ∷ rest) x is =
    let k = kind_of kind a b c rest x is in
    let w = with_is k.fat k.more k.count rest x (sym (k.is rest) ∙ is) in
    subst (λ y. FrontOf (kind ∷ a ∷ b ∷ c ∷ rest) y) w.1 (front_with kind a b c rest k w.0)

-- the section at the front with its clauses' classes moved
abbrev pub front_moved : (Token → Token) → List ℕ → Section → List ℕ
front_moved f bytes s = take 4 bytes ++ clauses_moved f s.fat s.count s.clauses

abbrev moved_with : (Token → Token) → Section → List ℕ → Section × List ℕ
moved_with f s rest = section_with s.fat s.more s.count (clauses_moved f s.fat s.count s.clauses) rest

front_is : (f : Token → Token) (bytes rest : List ℕ) (x : Section × List ℕ) → FrontOf bytes x
    → section_in (front_moved f bytes x.0 ++ rest) ≡ Some (moved_with f x.0 rest)
front_is f bytes rest x front = front.again (clauses_moved f x.0.fat x.0.count x.0.clauses) rest (clauses_long f x.0.fat x.0.count x.0.clauses front.whole)

held_again : (f : Token → Token) (bytes rest : List ℕ) (x : Section × List ℕ) → Stays f → StaysLow f → EachIsByte bytes → FrontOf bytes x
    → meant (clauses_held (moved_with f x.0 rest).0) ≡ map (handler_moved f) (meant (clauses_held x.0))
held_again f bytes rest x stays low all front = clauses_again f x.0.fat x.0.count x.0.clauses stays low (front.clauses all) front.whole

-- bytes at whose front no section stands have no clauses
pub moved_nothing : (f : Token → Token) (bytes : List ℕ) → section_in bytes ≡ None → AreMoved f bytes bytes
moved_nothing f bytes none =
    let e : clauses_of bytes ≡ [] = clauses_none bytes (all_none bytes none) in
    record { means = rw e refl; whole = refl }

-- the last section, and one that another follows
pub moved_last : (f : Token → Token) (bytes : List ℕ) (x : Section × List ℕ) → Stays f → StaysLow f → EachIsByte bytes → section_in bytes ≡ Some x
    → x.0.more ≡ false
    → AreMoved f bytes (front_moved f bytes x.0 ++ x.1)
moved_last f bytes x stays low all is last =
    let front = front_of bytes x is in
    let there = front_is f bytes x.1 x front in
    let y = moved_with f x.0 x.1 in
    record {
      means = ap meant (clauses_last (front_moved f bytes x.0 ++ x.1) y there last)
          ∙ held_again f bytes x.1 x stays low all front
          ∙ ap (λ cs. map (handler_moved f) (meant cs)) (sym (clauses_last bytes x is last));
      whole = ap (is_some {T = List Section × List ℕ}) (all_last (front_moved f bytes x.0 ++ x.1) y there last)
          ∙ sym (ap (is_some {T = List Section × List ℕ}) (all_last bytes x is last));
    }

none_from : (o : Option (List Section × List ℕ)) → is_some {T = List Section × List ℕ} o ≡ false → o ≡ None
none_from None e = refl
none_from (Some x) e = absurd cc

joined : (f : Token → Token) (xs ys us vs : List Clause) → meant xs ≡ map (handler_moved f) (meant us) → meant ys ≡ map (handler_moved f) (meant vs)
    → meant (xs ++ ys) ≡ map (handler_moved f) (meant (us ++ vs))
joined f xs ys us vs first second =
    rw (map-append handler_meant xs ys, map-append handler_meant us vs, map-append (handler_moved f) (meant us) (meant vs), first, second) refl

more_meant : (f : Token → Token) (bytes rest : List ℕ) (x : Section × List ℕ) (b : Bool) → Stays f → StaysLow f → EachIsByte bytes
    → section_in bytes ≡ Some x → x.0.more ≡ true → AreMoved f x.1 rest
    → is_some {T = List Section × List ℕ} (all_sections (front_moved f bytes x.0 ++ rest)) ≡ b → is_some {T = List Section × List ℕ} (all_sections bytes) ≡ b
    → meant (clauses_of (front_moved f bytes x.0 ++ rest)) ≡ map (handler_moved f) (meant (clauses_of bytes))
more_meant f bytes rest x true stays low all is more behind new old =
    let front = front_of bytes x is in
    let y = moved_with f x.0 rest in
    ap meant (clauses_more (front_moved f bytes x.0 ++ rest) y (front_is f bytes rest x front) more new)
    ∙ joined f (clauses_held y.0) (clauses_of rest) (clauses_held x.0) (clauses_of x.1) (held_again f bytes rest x stays low all front) behind.means
    ∙ ap (λ cs. map (handler_moved f) (meant cs)) (sym (clauses_more bytes x is more old))
more_meant f bytes rest x false stays low all is more behind new old =
    rw (
      clauses_none (front_moved f bytes x.0 ++ rest) (none_from (all_sections (front_moved f bytes x.0 ++ rest)) new),
      clauses_none bytes
          (none_from (all_sections bytes) old),
    ) refl

pub moved_more : (f : Token → Token) (bytes rest : List ℕ) (x : Section × List ℕ) → Stays f → StaysLow f → EachIsByte bytes → section_in bytes ≡ Some x
    → x.0.more ≡ true
    → AreMoved f x.1 rest → AreMoved f bytes (front_moved f bytes x.0 ++ rest)
moved_more f bytes rest x stays low all is more behind =
    let new = front_moved f bytes x.0 ++ rest in
    let there = front_is f bytes rest x (front_of bytes x is) in
    let whole = whole_more new (moved_with f x.0 rest) there more ∙ behind.whole ∙ sym (whole_more bytes x is more) in
    record {
      means = more_meant f bytes rest x (is_some {T = List Section × List ℕ} (all_sections bytes)) stays low all is more behind whole refl;
      whole =
          whole;
    }

-- sections are moved up to those that are left: whatever these become, all are moved
pub record AreMovedUpTo (f : Token → Token) (sections moved left : List ℕ) : Type 0 where
  pub bytes : EachIsByte left
  pub size : length moved + length left ≡ length sections
  pub before : (rest : List ℕ) → AreMoved f left rest → AreMoved f sections (moved ++ rest)

pub none_moved : (f : Token → Token) (sections : List ℕ) → EachIsByte sections → AreMovedUpTo f sections [] sections
none_moved f sections all = record { bytes = all; size = omega arith; before = λ rest h. h }

front_long : (f : Token → Token) (left : List ℕ) (x : Section × List ℕ) → FrontOf left x → length (front_moved f left x.0) ≡ length left - length x.1
front_long f left x front =
    let four : length (take 4 left) ≡ 4 = length-take-le 4 left (omega (arith, front.size)) in
    let long = clauses_long f x.0.fat x.0.count x.0.clauses front.whole in
    length-append (take 4 left) (clauses_moved f x.0.fat x.0.count x.0.clauses) ∙ omega (arith, four, long, front.whole, front.size)

grown_size : (f : Token → Token) (sections moved left : List ℕ) (x : Section × List ℕ) → FrontOf left x → length moved + length left ≡ length sections
    → length (moved ++ front_moved f left x.0) + length x.1 ≡ length sections
grown_size f sections moved left x front size =
    let long = front_long f left x front in
    let both = length-append moved (front_moved f left x.0) in
    omega (arith, size, long, both, front.size)

pub one_more : (f : Token → Token) (sections moved left : List ℕ) (x : Section × List ℕ) → Stays f → StaysLow f → section_in left ≡ Some x → x.0.more ≡ true
    → AreMovedUpTo f sections moved left → AreMovedUpTo f sections (moved ++ front_moved f left x.0) x.1
one_more f sections moved left x stays low is more upto =
    let front = front_of left x is in
    record {
      bytes = front.behind upto.bytes;
      size = grown_size f sections moved left x front upto.size;
      before = λ rest h.
          subst (λ xs. AreMoved f sections xs) (sym (append_assoc moved (front_moved f left x.0) rest))
          (upto.before (front_moved f left x.0 ++ rest) (moved_more f left rest x stays low upto.bytes is more h));
    }

-- all are moved behind the last, or where none stands
abbrev pub AllMoved : (Token → Token) → List ℕ → List ℕ → Type 0
AllMoved f sections moved = AreMoved f sections moved × (length moved ≡ length sections)

pub last_moved : (f : Token → Token) (sections moved left : List ℕ) (x : Section × List ℕ) → Stays f → StaysLow f → section_in left ≡ Some x → x.0.more ≡ false
    → AreMovedUpTo f sections moved left → AllMoved f sections ((moved ++ front_moved f left x.0) ++ x.1)
last_moved f sections moved left x stays low is last upto =
    let front = front_of left x is in (
      subst (λ xs. AreMoved f sections xs) (sym (append_assoc moved (front_moved f left x.0) x.1))
          (upto.before (front_moved f left x.0 ++ x.1) (moved_last f left x stays low upto.bytes is last)),
      length-append (moved ++ front_moved f left x.0) x.1 ∙ grown_size f sections moved left x front upto.size,
    )

pub rest_moved : (f : Token → Token) (sections moved left : List ℕ) → None ≡ section_in left → AreMovedUpTo f sections moved left
    → AllMoved f sections (moved ++ left)
rest_moved f sections moved left none upto = (upto.before left (moved_nothing f left (sym none)), length-append moved left ∙ upto.size)

pub fewer_left : (left : List ℕ) (x : Section × List ℕ) → Some x ≡ section_in left → length x.1 < length left
fewer_left left x is = let front = front_of left x (sym is) in omega (arith, front.size)
