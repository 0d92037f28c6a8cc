-- Twins: members of one owner that neither name nor signature tells apart.
use Rattle.std.specs.Prelude.{ℕ, Bool, not, ◌&&◌, ◌==◌, List, ◌++◌, map, filter, Option, bytes_eq}
use Rattle.std.specs.List.{list_any}
use Rattle.enc_base.specs.Token.{number_of}
use Rattle.enc_base.specs.declared.token.Token.{Token}
use Rattle.enc_base.specs.declared.refusal.Place.{Place}
use Rattle.enc_plain.specs.Module.{Module, kids_of}
use Rattle.enc_plain.specs.Apply.{Attached, gained}
use Rattle.enc_delta.specs.Rules.{at_token, least}

-- what is asked of members: whether one counts, its name, and whether two that count have alike signatures
pub record Asked : Type 0 where
  pub counts : Token → Bool
  pub name : Token → List ℕ
  pub alike : Token → Token → Bool

-- the rows of an owner's members in a table, once children are attached
abbrev pub members : Module → List Attached → Token → ℕ → List ℕ
members m pairs owner table = kids_of m owner table ++ gained pairs owner table

-- another row that counts has the same name and an alike signature
abbrev pub is_twin : Asked → Token → Token → Bool
is_twin q t u = not (t.row == u.row) && q.counts u && bytes_eq (q.name t) (q.name u) && q.alike t u

-- the attached child counts, and a member of its owner is its twin
unfoldable pub has_twin : Asked → Module → List Attached → Attached → Bool
has_twin q m pairs a =
    q.counts a.child && list_any (λ row. is_twin q a.child (record { table = a.child.table; row = row }))
    (members m pairs a.owner a.child.table)

-- the least attached child that has a twin
unfoldable pub twin_fault : Asked → Module → List Attached → Option Place
twin_fault q m pairs = at_token (least (map (λ (a : Attached). number_of a.child) (filter (has_twin q m pairs) pairs)))
