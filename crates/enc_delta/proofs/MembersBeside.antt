-- Members beside a pair's child: those of one owner and one table.
use Rattle.std.proofs.Common.{◌≡◌, ℕ, ◌+◌, ◌<◌, Bool, true, false, List, [], ◌∷◌, ◌++◌, length, take, get_or, map, Option, Some, None, refl, sym, ap, ◌∙◌, inl, inr}
use Rattle.std.specs.Prelude.{◌==◌, ◌&&◌, ◌||◌, filter}
use Rattle.std.specs.List.{list_any}
use Rattle.std.proofs.lemmas.List.Folds.{list_any-append, list_any_more}
use Rattle.enc_base.specs.Token.{is_token}
use Rattle.enc_base.specs.declared.token.Token.{Token}
use Rattle.enc_schema.specs.Children.{is_child_table}
use Rattle.enc_plain.specs.Module.{Module, kids_of}
use Rattle.enc_plain.specs.Apply.{gained}
use Rattle.enc_plain.proofs.Columns.{both_left, both_right}
use Rattle.enc_delta.specs.declared.pairs.Pair.{Pair}
use Rattle.enc_delta.specs.Members.{pair_seen, is_beside, beside_last, row_beside, old_rows, row_passes, AreAdded}
use Rattle.enc_delta.proofs.ListsInserts.{no_token}
use Rattle.enc_delta.proofs.ListsChildren.{two, equal, equal_is}

abbrev pub no_pair : Pair
no_pair = record { owner = no_token; child = no_token }

-- tests of lists made from lists
pub any_filter : {A : Type 0} (q p : A → Bool) (xs : List A) → list_any p (filter q xs) ≡ list_any (λ x. q x && p x) xs
any_filter q p [] = refl
any_filter q p (x ∷ xs) = elim (two (q x)) [ inl a ↦ rw a (ap (λ b. p x || b) (any_filter q p xs)) | inr a ↦ rw a (any_filter q p xs) ]

pub any_map : {A B : Type 0} (f : A → B) (p : B → Bool) (xs : List A) → list_any p (map f xs) ≡ list_any (λ x. p (f x)) xs
any_map f p [] = refl
any_map f p (x ∷ xs) = ap (λ b. p (f x) || b) (any_map f p xs)

pub any_same : {A : Type 0} (p q : A → Bool) (xs : List A) → ((x : A) → p x ≡ q x) → list_any p xs ≡ list_any q xs
any_same p q [] h = refl
any_same p q (x ∷ xs) h = rw (h x) (ap (λ b. q x || b) (any_same p q xs h))

any_both : {A : Type 0} (b : Bool) (p : A → Bool) (xs : List A) → list_any (λ x. b && p x) xs ≡ (b && list_any p xs)
any_both true p xs = any_same (λ x. true && p x) p xs (λ x. refl)
any_both false p [] = refl
any_both false p (x ∷ xs) = any_both false p xs

pub both_any : (c a b : Bool) → (c && (a || b)) ≡ ((c && a) || (c && b))
both_any true a b = refl
both_any false a b = refl

-- an attached child is gained by its owner
pub any_gained : (p : ℕ → Bool) (pairs : List Pair) (a : Pair) → list_any p (gained (map pair_seen pairs) a.owner a.child.table) ≡ list_any (row_passes a p) pairs
any_gained p [] a = refl
any_gained p (k ∷ ks) a = elim (two (is_beside a k)) [ inl e ↦ rw e (ap (λ b. p k.child.row || b) (any_gained p ks a)) | inr e ↦ rw e (any_gained p ks a) ]

-- the same owner and the same table
token_is : (t u : Token) → is_token t u ≡ true → t ≡ u
token_is t u h =
    let e : t.table ≡ u.table = equal _ _ (both_left (t.table == u.table) (t.row == u.row) h) in
    let f : t.row ≡ u.row = equal _ _ (both_right (t.table == u.table) (t.row == u.row) h) in
    let with_table : ℕ → Token = λ n. record { table = n; row = t.row } in
    let with_row : ℕ → Token = λ n. record { table = u.table; row = n } in
    ap with_table e ∙ ap with_row f

pub owner_same : (a k : Pair) → is_beside a k ≡ true → k.owner ≡ a.owner
owner_same a k h = token_is k.owner a.owner (both_left (is_token k.owner a.owner) (k.child.table == a.child.table) h)

pub table_same : (a k : Pair) → is_beside a k ≡ true → k.child.table ≡ a.child.table
table_same a k h = equal _ _ (both_right (is_token k.owner a.owner) (k.child.table == a.child.table) h)

pub beside_itself : (a : Pair) → is_beside a a ≡ true
beside_itself a = rw (equal_is a.owner.table a.owner.table refl, equal_is a.owner.row a.owner.row refl, equal_is a.child.table a.child.table refl) refl

-- what stands beside one of two that stand side by side stands beside both
beside_both : (a k x : Pair) → is_beside x k ≡ true → is_beside a x ≡ is_beside a k
beside_both a k x h = rw (owner_same x k h, table_same x k h) refl

-- the old members beside a pair
any_beside : (a k : Pair) (p : ℕ → Bool) (rows : List ℕ) → list_any (row_passes a p) (map (row_beside k) rows) ≡ (is_beside a k && list_any p rows)
any_beside a k p rows = any_map (row_beside k) (row_passes a p) rows ∙ any_both (is_beside a k) p rows

old_is : (m : Module) (a k : Pair) → is_child_table a.child.table ≡ true → is_beside a k ≡ true → old_rows m k ≡ kids_of m a.owner a.child.table
unfolding old_rows
old_is m a k child h = rw (owner_same a k h, table_same a k h, child) refl

any_old : (m : Module) (a k : Pair) (p : ℕ → Bool) → is_child_table a.child.table ≡ true → list_any (row_passes a p) (map (row_beside k) (old_rows m k)) ≡ (is_beside a k && list_any p (kids_of m a.owner a.child.table))
any_old m a k p child = any_beside a k p (old_rows m k) ∙ elim (two (is_beside a k)) [ inl e ↦ rw e (ap (λ rows. list_any p rows) (old_is m a k child e)) | inr e ↦ rw e refl ]

-- the last pair whose owner was asked, and what was gathered so far
abbrev pub at_last : Option Pair → Pair → Bool
at_last None a = false
at_last (Some k) a = is_beside a k

pub record Adding (m : Module) (before pairs : List Pair) (last : Option Pair) (all : List Pair) : Type 0 where
  pub added : AreAdded m before pairs all
  pub last_in : (a : Pair) → (list_any (is_beside a) pairs || at_last last a) ≡ list_any (is_beside a) pairs

or_false : (x : Bool) → x ≡ (x || false)
or_false true = refl
or_false false = refl

or_twice : (x y : Bool) → ((x || y) || y) ≡ (x || y)
or_twice true y = refl
or_twice false true = refl
or_twice false false = refl

pub adding_none : (m : Module) (before : List Pair) → Adding m before [] None before
adding_none m before = record { added = λ a p child. or_false _; last_in = λ a. refl }

joined_add : (s b x y k : Bool) → s ≡ (b || (x && k)) → (s || (y && k)) ≡ (b || ((x || y) && k))
joined_add s true x y k h = rw h refl
joined_add s false true true true h = rw h refl
joined_add s false true true false h = rw h refl
joined_add s false true false true h = rw h refl
joined_add s false true false false h = rw h refl
joined_add s false false y k h = rw h refl

pub adding_more : (m : Module) (before pairs all : List Pair) (last : Option Pair) (i : ℕ) → i < length pairs → Adding m before (take i pairs) last all → Adding m before (take (i + 1) pairs) (Some (get_or pairs i no_pair)) (all ++ map (row_beside (get_or pairs i no_pair)) (old_rows m (get_or pairs i no_pair)))
adding_more m before pairs all last i h done =
    let k = get_or pairs i no_pair in
    record {
      added = λ a p child. list_any-append (row_passes a p) all _ ∙ rw (any_old m a k p child, list_any_more (is_beside a) pairs i no_pair h) (joined_add (list_any (row_passes a p) all) (list_any (row_passes a p) before) (list_any (is_beside a) (take i pairs)) (is_beside a (get_or pairs i no_pair)) (list_any p (kids_of m a.owner a.child.table)) (done.added a p child));
      last_in = λ a. rw (list_any_more (is_beside a) pairs i no_pair h) (or_twice (list_any (is_beside a) (take i pairs)) (is_beside a (get_or pairs i no_pair)));
    }

last_passes : (last : Option Pair) (a x : Pair) → beside_last last x ≡ true → at_last last a ≡ is_beside a x
last_passes None a x h = absurd cc
last_passes (Some k) a x h = sym (beside_both a k x h)

pub adding_again : (m : Module) (before pairs all : List Pair) (last : Option Pair) (i : ℕ) → i < length pairs → beside_last last (get_or pairs i no_pair) ≡ true → Adding m before (take i pairs) last all → Adding m before (take (i + 1) pairs) last all
adding_again m before pairs all last i h again done =
    let same : (a : Pair) → list_any (is_beside a) (take (i + 1) pairs) ≡ list_any (is_beside a) (take i pairs) = λ a. list_any_more (is_beside a) pairs i no_pair h ∙ ap (λ b. list_any (is_beside a) (take i pairs) || b) (sym (last_passes last a (get_or pairs i no_pair) again)) ∙ done.last_in a in
    record {
      added = λ a p child. rw (same a) (done.added a p child);
      last_in = λ a. rw (same a) (done.last_in a);
    }
