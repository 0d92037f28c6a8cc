-- A type that is read begins with its element.
use Rattle.std.proofs.Common.{◌≡◌, ℕ, zero, suc, ◌<◌, Bool, List, [], ◌∷◌, length, get_or, Option, Some, None, refl, sym, ap, arith}
use Rattle.enc_sigs.specs.Tree.{Tree}
use Rattle.enc_sigs.specs.Grammar.{elem_in, form_of}
use Rattle.enc_sigs.specs.Reads.{left_after, element_front}
use Rattle.enc_sigs.proofs.Agreed.{opened_element}

-- nothing is read of no bytes
none_of_none : (good : ℕ → Bool) (depth : ℕ) → elem_in good depth [] ≡ None
unfolding elem_in
none_of_none good zero = refl
none_of_none good (suc depth) = refl

pub none_of_few : (good : ℕ → Bool) (depth : ℕ) (bytes : List ℕ) → length bytes < 1 → None ≡ element_front (elem_in good depth bytes)
none_of_few good depth [] few = ap element_front (sym (none_of_none good depth))
none_of_few good depth (b ∷ rest) few = absurd (omega arith)

elem_element : (good : ℕ → Bool) (depth : ℕ) (bytes : List ℕ) (p : Tree × List ℕ) → elem_in good depth bytes ≡ Some p → p.0.element ≡ get_or bytes 0 0
unfolding elem_in
elem_element good zero bytes p e = absurd (cc)
elem_element good (suc depth) [] p e = absurd (cc)
elem_element good (suc depth) (b ∷ bytes) p e = opened_element good (form_of b) b (elem_in good depth) bytes p e

front_by : (o : Option (Tree × List ℕ)) (b : ℕ) (rest : List ℕ) → ((p : Tree × List ℕ) → o ≡ Some p → p.0.element ≡ b) → Some rest ≡ left_after o → Some (b, rest) ≡ element_front o
front_by None b rest h e = absurd (cc)
front_by (Some p) b rest h e = let f : rest ≡ p.1 = cc in rw (f, h p refl) refl

pub front_is : (good : ℕ → Bool) (depth : ℕ) (bytes rest : List ℕ) → Some rest ≡ left_after (elem_in good depth bytes) → Some (get_or bytes 0 0, rest) ≡ element_front (elem_in good depth bytes)
front_is good depth bytes rest e = front_by (elem_in good depth bytes) (get_or bytes 0 0) rest (elem_element good depth bytes) e
