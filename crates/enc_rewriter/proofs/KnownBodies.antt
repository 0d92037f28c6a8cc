-- Methods that share a body have it at one place.
use Rattle.std.proofs.Common.{◌≡◌, ℕ, zero, suc, ◌+◌, ◌%◌, ◌<◌, Bool, true, false, cond, List, ◌++◌, Option, Some, None, option_map, refl, sym, ap, ◌∙◌, arith}
use Rattle.std.specs.Prelude.{◌==◌, ◌&&◌}
use Rattle.std.specs.BTreeMap.{BTreeMap, get, is_at, Updates, IsEmpty}
use Rattle.std.specs.Ordering.{nat_cmp}
use Rattle.std.proofs.lemmas.Bool.{and_parts}
use Rattle.std.proofs.lemmas.Bool.Decides.{nat_tests}
use Rattle.enc_base.specs.Token.{nth_row}
use Rattle.enc_meta.specs.Regions.{Region}
use Rattle.enc_opcodes.specs.Body.{Code, Body, body_of}
use Rattle.enc_plain.specs.Bodies.{body_loaded, code_loaded, code_is_good, body_is_good}
use Rattle.enc_plain.specs.Cell.{body}
use Rattle.enc_plain.specs.Module.{Module, cells_of, cell_of}
use Rattle.enc_plain.specs.Rows.{number_at}
use Rattle.enc_plain.specs.Sound.{IsSound, row_count}
use Rattle.enc_rewriter.specs.Placed.{loaded_with, IsBodyPlaced}
use Rattle.enc_rewriter.specs.Standing.{AreKnown, bodies_before}
use Rattle.enc_rewriter.proofs.MethodsPlaced.{placed_still, il_flags, weight_more}

-- what is good for one method with a body is good for another
by_code : (count : ℕ → ℕ) (users : ℕ → Option (List ℕ)) (o : Option Body) (flags : ℕ) (c : Option Code) → option_map (body_of users) c ≡ o → ((b : Body) → o ≡ Some b → (flags % 4 == 0) ≡ true) → code_is_good count users c ≡ true
    → (flags % 4 == 0 && code_is_good count users c) ≡ true
by_code count users o flags None is il good = absurd cc
by_code count users o flags (Some c) is il good = rw (il (body_of users c) (sym is), good) refl

good_too : (count : ℕ → ℕ) (users : ℕ → Option (List ℕ)) (regions : List Region) (o : Option Body) (rva flags others : ℕ) → body_loaded regions users rva ≡ o → ((b : Body) → o ≡ Some b → (others % 4 == 0) ≡ true)
    → body_is_good count users regions rva flags ≡ true → body_is_good count users regions rva others ≡ true
unfolding body_is_good body_loaded
good_too count users regions o zero flags others is il good = refl
good_too count users regions o (suc k) flags others is il good =
    by_code count users o others (code_loaded regions (suc k)) is il (and_parts (flags % 4 == 0) (code_is_good count users (code_loaded regions (suc k))) good).1

same_body : (a b : Option Body) → Some (body a) ≡ Some (body b) → a ≡ b
same_body a b e = cc

shared : (m : Module) (users : ℕ → Option (List ℕ)) (code : List ℕ) (n k rva : ℕ) (o : Option Body) → IsSound m → k < row_count m 0x06 → cell_of m (nth_row 0x06 n) 0 ≡ Some (body o) → cell_of m (nth_row 0x06 k) 0 ≡ Some (body o)
    → IsBodyPlaced m users code n rva → IsBodyPlaced m users code k rva
shared m users code n k rva o sound low one other is = record {
  meant = λ behind. other ∙ sym one ∙ is.meant behind;
  good = λ behind.
      good_too (row_count m) users (loaded_with code behind) o rva (number_at (cells_of m) (nth_row 0x06 n) 1) (number_at (cells_of m) (nth_row 0x06 k) 1)
      (same_body (body_loaded (loaded_with code behind) users rva) o (sym (is.meant behind) ∙ one)) (λ b e. il_flags m k b sound low (other ∙ ap (λ x. Some (body x)) e)) (is.good behind);
}

-- no place is known yet
pub none_known : (m : Module) (users : ℕ → Option (List ℕ)) (places : ℕ → Option Body) (code : List ℕ) (known : BTreeMap ℕ ℕ) → IsEmpty known → AreKnown m users places code known
none_known m users places code known empty place rva n is low cell = let e : get nat_cmp known place ≡ None = rw empty refl in absurd cc

-- what is known stays known
pub known_still : (m : Module) (users : ℕ → Option (List ℕ)) (places : ℕ → Option Body) (code new more : List ℕ) (known : BTreeMap ℕ ℕ) → new ≡ code ++ more → AreKnown m users places code known → AreKnown m users places new known
known_still m users places code new more known grown all place rva n is low cell = rw grown (placed_still m users code more n rva (all place rva n is low cell))

-- one more place
here : (k q : ℕ) → is_at (nat_cmp k) q ≡ true → k ≡ q
here k q h = grind (arith, nat_tests, h)

some_same : (a b : ℕ) → Some a ≡ Some b → a ≡ b
some_same a b e = cc

by_place : (m : Module) (users : ℕ → Option (List ℕ)) (places : ℕ → Option Body) (code : List ℕ) (old : BTreeMap ℕ ℕ) (k place x rva n row : ℕ) (t : Bool) (o : Option ℕ) → is_at (nat_cmp k) place ≡ t → o ≡ cond t (Some x) (get nat_cmp old place)
    → IsSound m → AreKnown m users places code old → cell_of m (nth_row 0x06 row) 0 ≡ Some (body (places k)) → IsBodyPlaced m users code row x → o ≡ Some rva → n < row_count m 0x06
    → cell_of m (nth_row 0x06 n) 0 ≡ Some (body (places place)) → IsBodyPlaced m users code n rva
by_place m users places code old k place x rva n row true o at is sound all one placed found low cell =
    let e : x ≡ rva = some_same x rva (sym is ∙ found) in
    let p : k ≡ place = here k place at in
    rw (← e) (shared m users code row n x (places k) sound low one (cell ∙ ap (λ q. Some (body (places q))) (sym p)) placed)
by_place m users places code old k place x rva n row false o at is sound all one placed found low cell = all place rva n (sym is ∙ found) low cell

pub one_known : (m : Module) (users : ℕ → Option (List ℕ)) (places : ℕ → Option Body) (code : List ℕ) (old new : BTreeMap ℕ ℕ) (k x row : ℕ) → IsSound m → AreKnown m users places code old
    → cell_of m (nth_row 0x06 row) 0 ≡ Some (body (places k)) → IsBodyPlaced m users code row x → Updates nat_cmp old new k (Some x) → AreKnown m users places code new
one_known m users places code old new k x row sound all one placed updates place rva n found low cell =
    by_place m users places code old k place x rva n row (is_at (nat_cmp k) place) (get nat_cmp new place) refl (updates.0 place) sound all one placed found low cell

-- a body that isn't written again weighs nothing more
pub weight_grows : (m : Module) (n : ℕ) → bodies_before m n < bodies_before m (n + 1) + 1
weight_grows m n = omega (arith, weight_more m n)
