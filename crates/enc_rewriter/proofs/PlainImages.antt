-- An image whose module's children stand in the order of their rows has no Ptr rows, and its table stream is `#~`.
use Rattle.std.proofs.Common.{◌≡◌, ℕ, Bool, true, false, List, [], ◌∷◌, length, refl, ap, ◌∙◌, arith}
use Rattle.std.specs.Prelude.{nat_lt, if◌then◌else◌}
use Rattle.std.specs.List.{list_all}
use Rattle.std.proofs.lemmas.Bool.{and_parts}
use Rattle.std.proofs.lemmas.Bool.Decides.{nat_tests}
use Rattle.enc_emit.specs.Written.{has_ptr_rows}
use Rattle.enc_meta.specs.Built.{Built, heaps_built}
use Rattle.enc_meta.specs.Heaps.{Counted}
use Rattle.enc_plain.specs.Module.{Module}
use Rattle.enc_plain.specs.Sound.{all_kids, IsSound}
use Rattle.enc_rows.specs.Written.{count_at}
use Rattle.enc_schema.proofs.ChildTables.{by_child}
use Rattle.enc_schema.specs.Children.{is_child_table, ptr_of}
use Rattle.enc_rewriter.specs.Numbers.{is_in_row_order, rows_of_one, ptr_rows, HoldRows}
use Rattle.enc_rewriter.specs.Placed.{Placed}
use Rattle.enc_rewriter.specs.Rewritten.{HoldModule, FitsImage, image_of_parts, stands_in_order, IsPlainImage}
use Rattle.enc_rewriter.proofs.ImagesMeant.{AreRead, unrefused, base_is}
use Rattle.enc_rewriter.proofs.NumbersMeant.{IsRead}
use Rattle.enc_rewriter.proofs.Sources.{written_source}

abbrev Stands : Module → ℕ → Bool
Stands m child = is_in_row_order (all_kids m child)

in_order : (m : Module) (child : ℕ) → stands_in_order m ≡ true → is_child_table child ≡ true → Stands m child ≡ true
unfolding stands_in_order
in_order m child order is =
    let a = and_parts (Stands m 0x04) (list_all (Stands m) (0x06 ∷ 0x08 ∷ 0x14 ∷ 0x17 ∷ [])) order in
    let b = and_parts (Stands m 0x06) (list_all (Stands m) (0x08 ∷ 0x14 ∷ 0x17 ∷ [])) a.1 in
    let c = and_parts (Stands m 0x08) (list_all (Stands m) (0x14 ∷ 0x17 ∷ [])) b.1 in
    let d = and_parts (Stands m 0x14) (list_all (Stands m) (0x17 ∷ [])) c.1 in
    let e = and_parts (Stands m 0x17) (list_all (Stands m) []) d.1 in
    by_child (λ k. Stands m k ≡ true) a.0 b.0 c.0 d.0 e.0 child is

no_ptrs : (m : Module) (child : ℕ) → Stands m child ≡ true → ptr_rows m child ≡ []
unfolding ptr_rows
no_ptrs m child order = ap (λ (b : Bool). if b then [] else rows_of_one (all_kids m child)) order

ptrs_none : (m : Module) (h : Counted) (p : Placed) (rows : List (List (List ℕ))) (child : ℕ) → HoldRows m h p rows → stands_in_order m ≡ true
    → is_child_table child ≡ true → count_at rows (ptr_of child) ≡ 0
ptrs_none m h p rows child said order is = ap length (said.ptrs child is ∙ no_ptrs m child (in_order m child order is))

has_none : (rows : List (List (List ℕ))) → ((child : ℕ) → is_child_table child ≡ true → count_at rows (ptr_of child) ≡ 0) → has_ptr_rows rows ≡ false
unfolding has_ptr_rows
has_none rows none = rw (none 0x04 refl, none 0x06 refl, none 0x08 refl, none 0x14 refl, none 0x17 refl) refl

ptr_low : (child : ℕ) → is_child_table child ≡ true → nat_lt (ptr_of child) 64 ≡ true
ptr_low child is = by_child (λ k. nat_lt (ptr_of k) 64 ≡ true) refl refl refl refl refl child is

pub image_plain : (m : Module) (h : Built) (p : Placed) (rows : List (List (List ℕ))) → IsSound m → HoldModule m h p rows → FitsImage m h p rows
    → AreRead m h p rows → stands_in_order m ≡ true → IsPlainImage (image_of_parts m h p rows)
image_plain m h p rows sound held fits are order =
    let w = written_source m h p rows sound held fits are.fit in
    let r : IsRead m h p rows w.0 = record { sound = sound; held = held; read = w.2 } in
    let none : (child : ℕ) → is_child_table child ≡ true → count_at rows (ptr_of child) ≡ 0 =
    λ child is. ptrs_none m (heaps_built h) p rows child held.said order is in
    record {
      container = w.3.container;
      root = w.3.root;
      source = w.0;
      contained = w.3.contained;
      rooted = w.3.rooted;
      compressed = w.3.form ∙ has_none rows none;
      read = base_is (image_of_parts m h p rows) w.0 w.1 (unrefused m h p rows w.0 r (are.good w.0 w.2));
      ptrs = λ child is. let low = ptr_low child is in w.2.counts (ptr_of child) (grind (arith, nat_tests, low)) ∙ none child is;
    }
