-- Kinds that are read one behind the other are those that stand there, and as many as there should be.
use Rattle.std.proofs.Common.{◌≡◌, ℕ, zero, suc, Bool, true, false, List, ◌∷◌, length, drop, Option, Some, None, refl, sym, ap, ◌∙◌}
use Rattle.std.specs.Prelude.{option_map}
use Rattle.enc_base.specs.Readers.{Reader}
use Rattle.enc_objects.specs.declared.kind.Kind.{Kind}
use Rattle.enc_sigs.specs.Tree.{Tree}
use Rattle.enc_sigs.specs.Grammar.{is_coded, type_in, many, begins}
use Rattle.enc_sigs.specs.Reads.{left_after}
use Rattle.enc_machine_types.specs.Fronts.{kind_front, parameter_front, parameter_kinds, kinds_at}
use Rattle.enc_machine_types.proofs.KindsRead.{type_plain, kind_none, first_and}

-- where a kind is read there is no sentinel
unmarked : (bytes : List ℕ) (p : Kind × List ℕ) (o : Option (Tree × List ℕ)) → type_in is_coded bytes ≡ o → kind_front bytes ≡ Some p → begins 0x41 bytes ≡ false
unmarked bytes p None e is = absurd (let f : None ≡ Some p = sym (kind_none bytes e) ∙ is in cc)
unmarked bytes p (Some q) e is = (type_plain bytes q e).0

plain_front : (bytes : List ℕ) (p : Kind × List ℕ) → kind_front bytes ≡ Some p → parameter_front bytes ≡ Some p
unfolding parameter_front
plain_front bytes p is = rw (unmarked bytes p (type_in is_coded bytes) refl is) is

-- what is read of so many are the kinds there
abbrev pub AreThere : Reader (List Kind) → ℕ → List ℕ → List ℕ → List ℕ → Type 0
AreThere read n bytes at rest = (read bytes ≡ Some (kinds_at n at, rest)) × (length (kinds_at n at) ≡ n)

first_none : (others : Reader (List Kind)) (bytes : List ℕ) → kind_front bytes ≡ None → first_and kind_front others bytes ≡ None
first_none others bytes is = rw is refl

first_some : (others : Reader (List Kind)) (bytes : List ℕ) (p : Kind × List ℕ) (r : Option (List Kind × List ℕ)) → kind_front bytes ≡ Some p → others p.1 ≡ r → first_and kind_front others bytes ≡ option_map {T = List Kind × List ℕ} (λ q. (p.0 ∷ q.0, q.1)) r
first_some others bytes p None is e = rw (is, e) refl
first_some others bytes p (Some q) is e = rw (is, e) refl

kinds_more : (n : ℕ) (at : List ℕ) (p : Kind × List ℕ) → parameter_front at ≡ Some p → kinds_at (suc n) at ≡ p.0 ∷ kinds_at n p.1
unfolding kinds_at
kinds_more n at p e = rw e refl

by_others : (others : Reader (List Kind)) (n : ℕ) (bytes at rest : List ℕ) (p : Kind × List ℕ) (r : Option (List Kind × List ℕ)) → kind_front bytes ≡ Some p → parameter_front at ≡ Some p → ((b c : List ℕ) → Some c ≡ left_after (others b) → AreThere others n b b c) → others p.1 ≡ r → Some rest ≡ left_after (first_and kind_front others bytes) → AreThere (first_and kind_front others) (suc n) bytes at rest
by_others others n bytes at rest p None is front each e left = absurd (let f : Some rest ≡ None = left ∙ ap left_after (first_some others bytes p None is e) in cc)
by_others others n bytes at rest p (Some q) is front each e left =
    let there = each p.1 q.1 (rw e refl) in
    let f : Some rest ≡ Some q.1 = left ∙ ap left_after (first_some others bytes p (Some q) is e) in
    let same : rest ≡ q.1 = cc in
    let more = kinds_more n at p front in
    (first_some others bytes p (Some (kinds_at n p.1, q.1)) is there.0 ∙ rw (same, more) refl, rw more (ap suc there.1))

by_first : (others : Reader (List Kind)) (n : ℕ) (bytes at rest : List ℕ) (o : Option (Kind × List ℕ)) → ((p : Kind × List ℕ) → kind_front bytes ≡ Some p → parameter_front at ≡ Some p) → ((b c : List ℕ) → Some c ≡ left_after (others b) → AreThere others n b b c) → kind_front bytes ≡ o → Some rest ≡ left_after (first_and kind_front others bytes) → AreThere (first_and kind_front others) (suc n) bytes at rest
by_first others n bytes at rest None front each is left = absurd (let f : Some rest ≡ None = left ∙ ap left_after (first_none others bytes is) in cc)
by_first others n bytes at rest (Some p) front each is left = by_others others n bytes at rest p (others p.1) is (front p is) each refl left

pub many_there : (n : ℕ) (bytes rest : List ℕ) → Some rest ≡ left_after (many kind_front n bytes) → AreThere (many kind_front n) n bytes bytes rest
unfolding many kinds_at
many_there zero bytes rest left = let f : rest ≡ bytes = cc in (rw f refl, refl)
many_there (suc n) bytes rest left = by_first (many kind_front n) n bytes bytes rest (kind_front bytes) (plain_front bytes) (many_there n) refl left

-- behind a sentinel too
marked_front : (bytes : List ℕ) (p : Kind × List ℕ) → begins 0x41 bytes ≡ true → kind_front (drop 1 bytes) ≡ Some p → parameter_front bytes ≡ Some p
unfolding parameter_front
marked_front bytes p e is = rw e is

marked_there : (n : ℕ) (bytes rest : List ℕ) → begins 0x41 bytes ≡ true → Some rest ≡ left_after (many kind_front (suc n) (drop 1 bytes)) → AreThere (many kind_front (suc n)) (suc n) (drop 1 bytes) bytes rest
unfolding many
marked_there n bytes rest e left = by_first (many kind_front n) n (drop 1 bytes) bytes rest (kind_front (drop 1 bytes)) (λ p is. marked_front bytes p e is) (many_there n) refl left

by_sentinel : (n : ℕ) (bytes rest : List ℕ) (marked : Bool) → ((b c : List ℕ) → Some c ≡ left_after (parameter_kinds n b) → AreThere (parameter_kinds n) n b b c) → begins 0x41 bytes ≡ marked → Some rest ≡ left_after (parameter_kinds (suc n) bytes) → AreThere (parameter_kinds (suc n)) (suc n) bytes bytes rest
unfolding parameter_kinds
by_sentinel n bytes rest true each e left =
    let there = marked_there n bytes rest e (rw e at left) in
    (rw e there.0, there.1)
by_sentinel n bytes rest false each e left =
    let there = by_first (parameter_kinds n) n bytes bytes rest (kind_front bytes) (plain_front bytes) each refl (rw e at left) in
    (rw e there.0, there.1)

pub parameters_there : (n : ℕ) (bytes rest : List ℕ) → Some rest ≡ left_after (parameter_kinds n bytes) → AreThere (parameter_kinds n) n bytes bytes rest
unfolding parameter_kinds kinds_at
parameters_there zero bytes rest left = let f : rest ≡ bytes = cc in (rw f refl, refl)
parameters_there (suc n) bytes rest left = by_sentinel n bytes rest (begins 0x41 bytes) (parameters_there n) refl left
