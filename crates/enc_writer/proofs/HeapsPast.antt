-- The heaps of a chain end where those of a delta behind it begin.
use Rattle.std.proofs.Common.{◌≡◌, ℕ, ◌+◌, ◌*◌, ◌≤◌, true, List, [], ◌∷◌, length, refl, sym, subst, arith}
use Rattle.std.specs.Prelude.{nat_lt}
use Rattle.std.specs.List.{list_all}
use Rattle.std.proofs.lemmas.Bool.Decides.{nat_tests}
use Rattle.enc_meta.specs.Heaps.{Counted}
use Rattle.enc_meta.specs.Joined.{joined_lengths, guid_entries}
use Rattle.enc_meta.specs.BuiltLaws.{ArePast}
use Rattle.enc_meta.specs.declared.heaps.HeapLengths.{HeapLengths}
use Rattle.enc_plain.specs.Chain.{Chain}
use Rattle.enc_edit_list.specs.declared.edit.EditList.{EditList}
use Rattle.enc_list_delta.specs.Holds.{heaps_written}
use Rattle.enc_list_delta.proofs.HeapRules.{starts_are}

no_more : (high : ℕ) (heaps : List Counted) → guid_entries heaps ≤ high → list_all (λ (c : Counted). nat_lt (length c.guids) (16 * high + 16)) heaps ≡ true
no_more high [] low = refl
no_more high (h ∷ heaps) low =
    let n : ℕ = length h.guids in
    let here : nat_lt n (16 * high + 16) ≡ true = grind (arith, nat_tests, low) in
    rw here (no_more high heaps (omega (arith, low)))

past : (heaps : List Counted) → ArePast heaps (joined_lengths heaps)
unfolding joined_lengths
past heaps = record { strings = refl; users = refl; blobs = refl; guids = no_more (guid_entries heaps) heaps (omega arith) }

pub chain_past : (c : Chain) (l : EditList) → ArePast c.heaps (heaps_written c l).starts
chain_past c l = subst (λ (s : HeapLengths). ArePast c.heaps s) (sym (starts_are c l)) (past c.heaps)
