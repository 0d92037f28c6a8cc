-- What holds of a module in the order of an ordinary one, and of its plain PDB.
use Rattle.std.proofs.Common.{◌≡◌, ℕ, ◌+◌, Bool, true, false, map, refl, sym, ap, ◌∙◌, arith}
use Rattle.std.specs.Prelude.{◌==◌, ◌&&◌, nat_le}
use Rattle.std.proofs.lemmas.Bool.Decides.{nat_tests}
use Rattle.enc_base.specs.declared.token.Token.{Token}
use Rattle.enc_token_map.specs.Laws.{MovedStaysSound}
use Rattle.enc_sigs.specs.Moved.{MovedReadsBack, MovedBeginsAlike, MovedFieldFront}
use Rattle.enc_rows.specs.Sums.{below}
use Rattle.enc_schema.specs.Children.{is_child_table}
use Rattle.enc_plain.specs.Module.{Module}
use Rattle.enc_plain.specs.Sound.{IsSound, row_count, all_kids}
use Rattle.enc_plain.specs.SoundDebug.{is_method_of}
use Rattle.enc_compact.specs.Laws.{MovedIsSound, MovedPdbIsSound, MovedKnowsWithin, MovedStandsInOrder}
use Rattle.enc_compact.specs.Moved.{AreOrders, module_moved, pdb_moved}
use Rattle.enc_row_order.specs.Orders.{old_row, new_order, old_of, standing_rows}
use Rattle.enc_compact.proofs.NewOrder.{new_order_are, layouts_kept, kids_stand}
use Rattle.enc_compact.proofs.Owners.{old_there, kids_in_order}
use Rattle.enc_compact.proofs.Places.{is_order}
use Rattle.enc_compact.proofs.Rows.{count_moved}
use Rattle.enc_compact.proofs.SoundKept.{orders_keep_sound}

pub moved_is_sound : MovedReadsBack → MovedBeginsAlike → MovedFieldFront → MovedStaysSound → MovedIsSound
unfolding module_moved
moved_is_sound back alike fronts stays m sound =
    orders_keep_sound back alike fronts stays m (new_order m) (new_order_are m sound) (layouts_kept m) sound

pub pdb_is_sound : MovedPdbIsSound
unfolding pdb_moved
pdb_is_sound m p sound = record { each = λ method. sound.each (old_of m method) }

pub counts_stay : (m : Module) (t : ℕ) → IsSound m → row_count (module_moved m) t ≡ row_count m t
unfolding module_moved
counts_stay m t sound = count_moved m (new_order m) t sound.owners.tables (new_order_are m sound)

old_is_method : (m : Module) (t : Token) → AreOrders m (new_order m) → is_method_of (row_count m 0x06) (old_of m t) ≡ is_method_of (row_count m 0x06) t
unfolding is_method_of old_of
old_is_method m t are = by (t.table == 0x06) refl
  where
    by : (b : Bool) → (t.table == 0x06) ≡ b
        → (b && (nat_le 1 (old_row (new_order m t.table) t.row) && nat_le (old_row (new_order m t.table) t.row) (row_count m 0x06)))
        ≡ (b && (nat_le 1 t.row && nat_le t.row (row_count m 0x06)))
    by true e =
        let is : t.table ≡ 0x06 = grind (arith, nat_tests) in
        rw is (old_there (row_count m 0x06) (new_order m 0x06) t.row (is_order m (new_order m) 0x06 are))
    by false e = refl

pub knows_within : MovedKnowsWithin
unfolding pdb_moved
knows_within m p sound within = record {
  each = λ t out.
      within.each (old_of m t)
      (old_is_method m t (new_order_are m sound) ∙ ap (λ n. is_method_of n t) (sym (counts_stay m 0x06 sound)) ∙ out);
}

listed_same : (m q : Module) (t : ℕ) → row_count q t ≡ row_count m t → standing_rows m t ≡ standing_rows q t
unfolding standing_rows
listed_same m q t e = ap (λ n. map (λ k. k + 1) (below n)) (sym e)

moved_in_order : (m : Module) (child : ℕ) → IsSound m → is_child_table child ≡ true → all_kids (module_moved m) child ≡ standing_rows m child
unfolding module_moved
moved_in_order m child sound there = kids_in_order m (new_order m) child there (new_order_are m sound) sound (kids_stand m child there)

pub stands_in_order : MovedStandsInOrder
stands_in_order m child sound there = moved_in_order m child sound there ∙ listed_same m (module_moved m) child (counts_stay m child sound)
