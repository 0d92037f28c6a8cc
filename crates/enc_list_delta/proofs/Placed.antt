-- Where the tokens of a delta stand that says what a list states.
use Rattle.std.proofs.Common.{◌≡◌, ℕ, Bool, true, false, zero, suc, List, [], ◌∷◌, Some, refl, subst}
use Rattle.std.specs.Prelude.{◌||◌, not, slice_get}
use Rattle.std.specs.List.{list_all}
use Rattle.std.proofs.lemmas.Bool.{and_parts}
use Rattle.enc_plain.specs.Chain.{Chain}
use Rattle.enc_rows.specs.Source.{Source}
use Rattle.enc_edit_list.specs.declared.edit.EditList.{EditList}
use Rattle.enc_rules.specs.Listed.{count_after}
use Rattle.enc_list_delta.specs.Delta.{is_edited, tokens_written, map_written}
use Rattle.enc_list_delta.specs.Holds.{MayFollow, SaysDelta}
use Rattle.enc_list_delta.proofs.TokensUnbroken.{nothing_breaks}
use Rattle.enc_list_delta.proofs.TokensAbout.{stands_after}
use Rattle.enc_list_delta.proofs.TokensByTable.{all_pass}
use Rattle.enc_list_delta.proofs.TokensWritten.{all_passing}
use Rattle.enc_list_delta.proofs.Tokens.{written_at, listed_is, listed_of_table, place_written, place_none}
use Rattle.enc_list_delta.proofs.TokensInserts.{listed_rows}
use Rattle.enc_list_delta.proofs.CellsRead.{ArePlaced}

of_all : {X : Type 0} (q : X → Bool) (xs : List X) (k : ℕ) (x : X) → list_all q xs ≡ true → slice_get xs k ≡ Some x → q x ≡ true
of_all q [] k x all e = absurd cc
of_all q (y ∷ ys) zero x all e = let is : y ≡ x = cc in subst (λ z. q z ≡ true) is (and_parts (q y) (list_all q ys) all).0
of_all q (y ∷ ys) (suc k) x all e = of_all q ys k x (and_parts (q y) (list_all q ys) all).1 e

all_about : (c : Chain) (l : EditList) → list_all (is_edited c.plain l.edits) (map_written c l.edits) ≡ true
unfolding map_written tokens_written
all_about c l = all_pass (is_edited c.plain l.edits) (tokens_written c l.edits) 64 (λ t. all_passing (is_edited c.plain l.edits) (is_edited c.plain l.edits) t (count_after c l.edits t) (λ k low h. h))

other_tables : (a b c : Bool) → a ≡ false → b ≡ false → c ≡ false → not (a || b || c) ≡ true
other_tables a b c x y z = rw (x, y, z) refl

pub placed : (c : Chain) (l : EditList) (s : Source) → MayFollow c l → SaysDelta c l s → ArePlaced c l s
placed c l s may says =
    let none = nothing_breaks c l may in
    record {
      none = none;
      there = λ u about.
          let w = written_at c l u none about in
          (w.at, w.there, place_written c l s may says u.table w.at u w.there);
      nowhere = λ u about. place_none c l s may says u about;
      listed_ = λ k u there. of_all (is_edited c.plain l.edits) (map_written c l.edits) k u (all_about c l) (subst (λ ts. slice_get ts k ≡ Some u) (listed_is c l s may says) there);
      tabled = λ t. listed_of_table c l s may says t;
      counts = λ t. listed_rows c l s may says t;
      tables = λ u about. let w = stands_after c l u none about in other_tables _ _ _ w.module_ w.log w.map_;
    }
