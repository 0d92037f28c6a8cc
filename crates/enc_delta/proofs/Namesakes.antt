-- Of the old members only those that have a new member's name can be its twins.
use Rattle.std.proofs.Common.{◌≡◌, ℕ, ◌<◌, Bool, true, false, List, ◌++◌, length, get_or, map, refl, sym, ap, ◌∙◌, inl, inr}
use Rattle.std.specs.Prelude.{◌==◌, ◌&&◌, ◌||◌, filter}
use Rattle.std.specs.List.{list_any}
use Rattle.std.proofs.lemmas.List.Folds.{list_any-append, list_any_at}
use Rattle.std.proofs.lemmas.Bool.{and_from}
use Rattle.enc_plain.specs.Module.{Module}
use Rattle.enc_delta.specs.declared.pairs.Pair.{Pair}
use Rattle.enc_delta.specs.declared.shared.Keyed.{Keyed}
use Rattle.enc_delta.specs.Twins.{Asked, has_twin}
use Rattle.enc_delta.specs.Members.{pair_seen, is_member_table, is_twin_beside, name_key, keyed_by_name, has_key, is_namesake, AreInMemberTables, AreSame, AreOld, AreChildren}
use Rattle.enc_delta.proofs.ListsChildren.{two, equal_is}
use Rattle.enc_delta.proofs.MembersBeside.{no_pair, any_filter}
use Rattle.enc_delta.proofs.TwinsTold.{absorbed}
use Rattle.enc_delta.proofs.NearTwins.{counts_of, names_one, gathered, any_named, in_all, twin_is}

-- the members that count, by their names' keys
abbrev pub by_name : Asked → Bool → List Pair → List Keyed
by_name q new pairs = map (keyed_by_name q new) (filter (λ (k : Pair). q.counts k.child) pairs)

-- a twin of a member whose key is there is a namesake
twin_kept : (q : Asked) (entries : List Keyed) (a k : Pair) → AreInMemberTables q → has_key entries (name_key q a) ≡ true → is_twin_beside q a k ≡ true → is_namesake q entries k ≡ true
twin_kept q entries a k tables has twin = and_from (is_member_table k.child.table) (has_key entries (name_key q k)) (tables k.child (counts_of q a k twin)) (rw (names_one q a k twin) has)

-- so dropping the others drops none of its twins
kept_twins : (q : Asked) (entries : List Keyed) (old : List Pair) (a : Pair) → AreInMemberTables q → has_key entries (name_key q a) ≡ true → list_any (is_twin_beside q a) (filter (is_namesake q entries) old) ≡ list_any (is_twin_beside q a) old
kept_twins q entries old a tables has = any_filter (is_namesake q entries) (is_twin_beside q a) old ∙ absorbed (is_twin_beside q a) (is_namesake q entries) old (λ k twin. twin_kept q entries a k tables has twin)

-- the key of each new member that counts is there
new_key : (q : Asked) (pairs : List Pair) (entries : List Keyed) (i : ℕ) → AreSame (by_name q true pairs) entries → i < length pairs → q.counts (get_or pairs i no_pair).child ≡ true → has_key entries (name_key q (get_or pairs i no_pair)) ≡ true
new_key q pairs entries i same l counts =
    let n = name_key q (get_or pairs i no_pair) in
    same (λ (e : Keyed). e.key == n) ∙ any_named q true (λ (e : Keyed). e.key == n) pairs ∙ list_any_at (λ (k : Pair). q.counts k.child && (name_key q k == n)) pairs i no_pair l (and_from _ _ counts (equal_is n n refl))

-- a new member has a twin among all old members where it has one among those that are kept
kept_same : (q : Asked) (pairs old : List Pair) (entries : List Keyed) (i : ℕ) → AreInMemberTables q → AreSame (by_name q true pairs) entries → i < length pairs → in_all q (pairs ++ filter (is_namesake q entries) old) (get_or pairs i no_pair) ≡ in_all q (pairs ++ old) (get_or pairs i no_pair)
kept_same q pairs old entries i tables same l =
    let a = get_or pairs i no_pair in
    elim (two (q.counts a.child)) [
      | inl c ↦ rw c (list_any-append (is_twin_beside q a) pairs (filter (is_namesake q entries) old) ∙ ap (λ b. list_any (is_twin_beside q a) pairs || b) (kept_twins q entries old a tables (new_key q pairs entries i same l c)) ∙ sym (list_any-append (is_twin_beside q a) pairs old))
      | inr c ↦ rw c refl
    ]

pub kept_told : (q : Asked) (m : Module) (pairs old kept : List Pair) (new entries : List Keyed) → AreInMemberTables q → AreOld q m pairs old → AreChildren q pairs → new ≡ by_name q true pairs → AreSame new entries → kept ≡ filter (is_namesake q entries) old → (i : ℕ) → i < length pairs → in_all q (pairs ++ kept) (get_or pairs i no_pair) ≡ has_twin q m (map pair_seen pairs) (pair_seen (get_or pairs i no_pair))
kept_told q m pairs old kept new entries tables are children all same is i l = rw is (kept_same q pairs old entries i tables (λ f. same f ∙ ap (list_any f) all) l ∙ twin_is q m pairs old i are children l)

-- the new members in another order and the old ones behind them, all in another order
pub named_same : (q : Asked) (pairs kept : List Pair) (new entries all named : List Keyed) → new ≡ by_name q true pairs → AreSame new entries → all ≡ entries ++ by_name q false kept → AreSame all named → AreSame (gathered q pairs kept) named
named_same q pairs kept new entries all named first same both again = λ f.
    again f ∙ ap (list_any f) both ∙ list_any-append f entries (by_name q false kept) ∙ ap (λ b. b || list_any f (by_name q false kept)) (same f ∙ ap (list_any f) first) ∙ sym (list_any-append f (by_name q true pairs) (by_name q false kept))
