-- Records read one behind the other: one more, none that is read, none left.
use Rattle.std.proofs.Common.{◌≡◌, ℕ, zero, suc, ◌<◌, List, [], ◌∷◌, ◌++◌, Option, Some, None, refl, ap, sym, ◌∙◌, arith, append-nil, length}
use Rattle.std.specs.Prelude.{option_map}
use Rattle.enc_seqpoints.specs.declared.point.Point.{Point}
use Rattle.enc_seqpoints.specs.declared.base.Base.{Base}
use Rattle.enc_seqpoints.specs.declared.base.Record.{Record}
use Rattle.enc_seqpoints.specs.Grammar.{record_in, records_in, with_record, after}
use Rattle.enc_base.specs.Readers.{number_in}
use Rattle.enc_seqpoints.specs.Reads.{points_behind}

-- behind nothing is what is read
pub behind_none : (o : Option (List Point)) → o ≡ points_behind [] o
behind_none None = refl
behind_none (Some p) = refl

-- no record stands where no byte is left
pub none_in_none : (b : Base) → record_in b [] ≡ None
unfolding record_in number_in
none_in_none b = refl

joined : (points next : List Point) (r : Record) (o : Option (List Point)) → ((more : List Point) → points ++ with_record r more ≡ next ++ more) → points_behind points (option_map (with_record r) o) ≡ points_behind next o
joined points next r None same = refl
joined points next r (Some more) same = ap Some (same more)

-- one more is read
pub records_more : (points next : List Point) (n m : ℕ) (b : Base) (bytes rest : List ℕ) (r : Record) → n ≡ suc m → record_in b bytes ≡ Some (r, rest) → ((more : List Point) → points ++ with_record r more ≡ next ++ more) → points_behind points (records_in n b bytes) ≡ points_behind next (records_in m (after b r) rest)
unfolding records_in
records_more points next n m b [] rest r e is same = absurd (let f = sym (none_in_none b) ∙ is in cc)
records_more points next n m b (x ∷ bytes) rest r e is same = rw (e, is) (joined points next r (records_in m (after b r) rest) same)

-- none is read
pub records_fails : (points : List Point) (n m : ℕ) (b : Base) (bytes : List ℕ) → n ≡ suc m → 0 < length bytes → record_in b bytes ≡ None → points_behind points (records_in n b bytes) ≡ None
unfolding records_in
records_fails points n m b [] e some is = absurd (omega (arith, some))
records_fails points n m b (x ∷ bytes) e some is = rw (e, is) refl

-- no record may be read any more
pub records_past : (points : List Point) (n : ℕ) (b : Base) (bytes : List ℕ) → n ≡ 0 → 0 < length bytes → points_behind points (records_in n b bytes) ≡ None
unfolding records_in
records_past points n b [] e some = absurd (omega (arith, some))
records_past points n b (x ∷ bytes) e some = rw e refl

-- none is left
pub records_done : (points : List Point) (n : ℕ) (b : Base) (bytes : List ℕ) → length bytes ≡ 0 → points_behind points (records_in n b bytes) ≡ Some points
unfolding records_in
records_done points zero b [] e = ap Some (append-nil points)
records_done points (suc n) b [] e = ap Some (append-nil points)
records_done points n b (x ∷ bytes) e = absurd (omega (arith, e))
