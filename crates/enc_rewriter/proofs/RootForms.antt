-- The form of a module's root: it is wide where a run asks for it, and its table stream is `#-` where a Ptr table has rows.
use Rattle.std.proofs.Common.{◌≡◌, ℕ, Bool, true, false, List, refl, sym, subst}
use Rattle.std.specs.Prelude.{if◌then◌else◌}
use Rattle.enc_emit.specs.Written.{Parts, has_jtd, root_written, root_built, has_ptr_rows}
use Rattle.enc_emit.specs.declared.root_form.RootForm.TheVariants as form
use Rattle.enc_meta.specs.Built.{Built, heaps_built}
use Rattle.enc_plain.specs.Module.{Module}
use Rattle.enc_rows.specs.Written.{stream_of, heap_bits, IndicesFit}
use Rattle.enc_rewriter.specs.Numbers.{needs_jtd}
use Rattle.enc_rewriter.specs.Rewritten.{root_form, root_of_parts}

wide_by : (wide : Bool) → has_jtd (if wide then form.WideModule else form.Module) ≡ wide
wide_by true = refl
wide_by false = refl

pub wide_is : (m : Module) → has_jtd (root_form m) ≡ needs_jtd m
wide_is m = wide_by (needs_jtd m)

root_by : (p : Parts) (wide : Bool)
    → root_built p (if wide then form.WideModule else form.Module)
    ≡ root_written wide (has_ptr_rows p.rows) (stream_of p.rows wide (heap_bits p.rows)) (heaps_built p.heaps)
unfolding root_built
root_by p true = refl
root_by p false = refl

pub root_is : (m : Module) (h : Built) (rows : List (List (List ℕ)))
    → root_of_parts m h rows ≡ root_written (needs_jtd m) (has_ptr_rows rows) (stream_of rows (needs_jtd m) (heap_bits rows)) (heaps_built h)
root_is m h rows = root_by (record { heaps = h; rows = rows }) (needs_jtd m)

-- so what fits by that fits the form
pub indices_fit_form : (m : Module) (rows : List (List (List ℕ))) → IndicesFit rows (needs_jtd m) → IndicesFit rows (has_jtd (root_form m))
indices_fit_form m rows fit = subst (λ b. IndicesFit rows b) (sym (wide_is m)) fit
