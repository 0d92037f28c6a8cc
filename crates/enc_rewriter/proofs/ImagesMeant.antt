-- An image that was written means its module, where its indices are good and its children are read from their runs.
use Rattle.std.proofs.Common.{◌≡◌, ℕ, List, Option, None, Result, Ok, refl, ap, ◌∙◌}
use Rattle.enc_base.specs.Order.{or_else}
use Rattle.enc_base.specs.declared.refusal.Place.{Place}
use Rattle.enc_base.specs.declared.refusal.Refusal.{Refusal}
use Rattle.enc_image.specs.Base.{◌>>=◌, source_of, source_or, cells_fault, base_of, rows_from, rule}
use Rattle.enc_meta.specs.Built.{Built}
use Rattle.enc_plain.specs.Module.{Module}
use Rattle.enc_plain.specs.Sound.{IsSound}
use Rattle.enc_rows.specs.Fault.{index_fault}
use Rattle.enc_rows.specs.Source.{Source}
use Rattle.enc_rows.specs.Written.{IndicesFit}
use Rattle.enc_rewriter.specs.Numbers.{needs_jtd}
use Rattle.enc_rewriter.specs.Placed.{Placed}
use Rattle.enc_rewriter.specs.Rewritten.{HoldModule, FitsImage, image_of_parts, MeansModule}
use Rattle.enc_rewriter.proofs.FieldsMeant.{field_aligned}
use Rattle.enc_rewriter.proofs.ModuleMeant.{KidsAreRead, module_meant}
use Rattle.enc_rewriter.proofs.NumbersMeant.{IsRead}
use Rattle.enc_rewriter.proofs.ReadAs.{IsReadAs}
use Rattle.enc_rewriter.proofs.Sources.{written_source}
use Rattle.enc_rewriter.proofs.Unfaulted.{no_offset_fault, no_signature_fault, no_body_fault, no_field_fault}

-- what else there is to know of the indices: they fit, they are good, and the children are read from runs
pub record AreRead (m : Module) (h : Built) (p : Placed) (rows : List (List (List ℕ))) : Type 0 where
  pub fit : IndicesFit rows (needs_jtd m)
  pub good : (s : Source) → IsReadAs m h p rows s → index_fault (rows_from s) ≡ None
  pub kids : (s : Source) → IsReadAs m h p rows s → KidsAreRead m s

none_of : (a b c d e : Option Place) → a ≡ None → b ≡ None → c ≡ None → d ≡ None → e ≡ None
    → or_else (rule 7 a) (or_else (rule 8 b) (or_else (rule 11 c) (or_else (rule 10 d) (rule 5 e)))) ≡ None
none_of a b c d e ha hb hc hd he = rw (ha, hb, hc, hd, he) refl

pub unrefused : (m : Module) (h : Built) (p : Placed) (rows : List (List (List ℕ))) (s : Source) → IsRead m h p rows s → index_fault (rows_from s) ≡ None
    → cells_fault s ≡ None
unfolding cells_fault
unrefused m h p rows s r good =
    none_of _ _ _ _ _ good (no_offset_fault m h p rows s r) (no_signature_fault m h p rows s r) (no_body_fault m h p rows s r) (no_field_fault m h p rows s r)

pub base_is : (bytes : List ℕ) (s : Source) → source_of bytes ≡ Ok s → cells_fault s ≡ None → base_of bytes ≡ Ok s
unfolding base_of
base_is bytes s read none =
    ap (λ (o : Result Source Refusal). o >>= λ (x : Source). source_or x (cells_fault x)) read
    ∙ ap (source_or s) none

pub image_meant : (m : Module) (h : Built) (p : Placed) (rows : List (List (List ℕ))) → IsSound m → HoldModule m h p rows → FitsImage m h p rows → AreRead m h p rows
    → MeansModule m (image_of_parts m h p rows)
image_meant m h p rows sound held fits are =
    let w = written_source m h p rows sound held fits are.fit in
    let r : IsRead m h p rows w.0 = record { sound = sound; held = held; read = w.2 } in
    record {
      source = w.0;
      read = base_is (image_of_parts m h p rows) w.0 w.1 (unrefused m h p rows w.0 r (are.good w.0 w.2));
      means = module_meant m h p rows w.0 r (are.kids w.0 w.2);
      aligned = λ n low. field_aligned m h p rows w.0 n r low;
    }
