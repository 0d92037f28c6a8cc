-- The last two deltas of a history follow the chain before them.
use Rattle.std.proofs.Common.{◌≡◌, ℕ, zero, suc, ◌-◌, ◌<◌, ◌≤◌, List, [], ◌∷◌, ◌++◌, length, drop, reverse, Some, refl, sym, ap, ◌∙◌, subst, arith}
use Rattle.std.specs.Prelude.{◌^◌, slice_get, None}
use Rattle.std.proofs.lemmas.List.{length-reverse, reverse-append}
use Rattle.enc_rows.specs.Source.{Source}
use Rattle.enc_plain.specs.Chain.{Chain}
use Rattle.enc_agg.specs.Extend.{chain_with, extended}
use Rattle.enc_agg.specs.Follows.{AllFollow}
use Rattle.enc_agg.specs.Place.{delta_at}
use Rattle.enc_agg.specs.Seen.{History, chain_of_all}
use Rattle.enc_agg.proofs.SoundDeltas.{chains_are_sound}
use Rattle.enc_base.specs.Numbers.{padded}
use Rattle.enc_reference_depth.specs.Depth.{IsShallow}
use Rattle.enc_merged_delta.specs.Held.{shift_of}
use Rattle.enc_merged_delta.specs.Merged.{MayMerge}
use Rattle.enc_merge.specs.Merges.{ShortLast}
use Rattle.enc_merge.specs.Writing.{AreLast, Both, chain_of_both}

get_front : {X : Type 0} (xs : List X) (y : X) (n : ℕ) → n < length xs → slice_get (xs ++ y ∷ []) n ≡ slice_get xs n
get_front [] y n few = absurd (omega (arith, few))
get_front (x ∷ xs) y zero few = refl
get_front (x ∷ xs) y (suc n) few = get_front xs y n (omega (arith, few))

get_last : {X : Type 0} (xs : List X) (y : X) (n : ℕ) → n ≡ length xs → slice_get (xs ++ y ∷ []) n ≡ Some y
get_last [] y zero is = refl
get_last [] y (suc n) is = absurd (omega (arith, is))
get_last (x ∷ xs) y zero is = absurd (omega (arith, is))
get_last (x ∷ xs) y (suc n) is = get_last xs y n (omega (arith, is))

-- the newest delta, and the one before it
newest_at : (b : Source) (rest : List Source) → delta_at (b ∷ rest) (suc (length rest)) ≡ Some b
newest_at b rest = rw (reverse-append (b ∷ []) rest) (get_last (reverse rest) b (length rest) (sym (length-reverse rest)))

before_at : (b a : Source) (older : List Source) → delta_at (b ∷ a ∷ older) (suc (length older)) ≡ Some a
before_at b a older =
    let fewer : length older < length (reverse (a ∷ older)) = omega (arith, length-reverse (a ∷ older)) in
    rw (reverse-append (b ∷ []) (a ∷ older)) (get_front (reverse (a ∷ older)) b (length older) fewer) ∙ newest_at a older

-- they are there
pub first_there : (ds : List Source) (n : ℕ) → 2 ≤ length ds → n ≡ length ds → delta_at ds (n - 1) ≡ None → ⊥
first_there [] n two is none = omega (arith, two)
first_there (b ∷ []) n two is none = omega (arith, two)
first_there (b ∷ a ∷ older) n two is none =
    let e : n - 1 ≡ suc (length older) = omega (arith, is) in
    let bad = sym (before_at b a older) ∙ ap (delta_at (b ∷ a ∷ older)) (sym e) ∙ none in cc

pub second_there : (ds : List Source) (n : ℕ) → 2 ≤ length ds → n ≡ length ds → delta_at ds n ≡ None → ⊥
second_there [] n two is none = omega (arith, two)
second_there (b ∷ rest) n two is none = let bad = sym (newest_at b rest) ∙ ap (delta_at (b ∷ rest)) (sym is) ∙ none in cc

pub newest_are : (ds : List Source) (n : ℕ) (first second : Source) → 2 ≤ length ds → n ≡ length ds → delta_at ds (n - 1) ≡ Some first → delta_at ds n ≡ Some second
    → ds ≡ second ∷ first ∷ drop 2 ds
newest_are [] n first second two is at last = absurd (omega (arith, two))
newest_are (b ∷ []) n first second two is at last = absurd (omega (arith, two))
newest_are (b ∷ a ∷ older) n first second two is at last =
    let e : n - 1 ≡ suc (length older) = omega (arith, is) in
    let x : Some a ≡ Some first = sym (before_at b a older) ∙ ap (delta_at (b ∷ a ∷ older)) (sym e) ∙ at in
    let y : Some b ≡ Some second = sym (newest_at b (a ∷ older)) ∙ ap (delta_at (b ∷ a ∷ older)) (sym is) ∙ last in
    cc

-- so they follow the chain of those before, which is sound
pub last_are : (h : History) (first second : Source) → h.deltas ≡ second ∷ first ∷ drop 2 h.deltas → AllFollow h.base h.deltas → ShortLast h.deltas
    → AreLast h (record { chain = chain_with h.base (drop 2 h.deltas); first = first; second = second })
unfolding AllFollow chain_with
last_are h first second are all short =
    let older : List Source = drop 2 h.deltas in
    let each : AllFollow h.base (second ∷ first ∷ older) = subst (AllFollow h.base) are all in
    let few : ShortLast (second ∷ first ∷ older) = subst ShortLast are short in
    record {
      deltas = are;
      chain = refl;
      sound = chains_are_sound h.base older each.1.1.1.1;
      first_read = each.1.1.0;
      second_read = each.0;
      first = each.1.1.1.0;
      second = each.1.0;
      stream = few.0;
      code = few.1;
    }

-- and the chain of all is that after both
pub chain_is : (h : History) (x : Both) → AreLast h x → chain_of_all h ≡ chain_of_both x
unfolding chain_with
chain_is h x are = ap (chain_with h.base) are.deltas ∙ ap (λ (c : Chain). extended (extended c x.first) x.second) (sym are.chain)

-- they may merge, where no reference lies too deep
pub may_merge : (h : History) (x : Both) → AreLast h x → IsShallow (chain_of_both x).plain → MayMerge x.chain x.first x.second
may_merge h x are shallow =
    record { sound = are.sound; first_read = are.first_read; second_read = are.second_read; first = are.first; second = are.second; shallow = shallow }

-- how far bodies move
pub shift_low : (h : History) (x : Both) → AreLast h x → shift_of x.first < 2 ^ 28
unfolding padded
shift_low h x are = let few = are.code in omega (arith, few)
