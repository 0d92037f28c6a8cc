-- What is read of an image that was written: the premises under which it means its module.
use Rattle.std.proofs.Common.{◌≡◌, ℕ, ◌<◌, false, List, Some}
use Rattle.std.specs.Prelude.{slice_get}
use Rattle.enc_base.specs.Token.{nth_row}
use Rattle.enc_meta.specs.Built.{Built, heaps_built}
use Rattle.enc_plain.specs.Module.{Module}
use Rattle.enc_rows.specs.Layout.{rows_of}
use Rattle.enc_rows.specs.Source.{Source, raw_in}
use Rattle.enc_rows.specs.Written.{rows_at, count_at}
use Rattle.enc_rewriter.specs.Placed.{Placed, loaded_with}

-- the parts of a file are those that were written: its rows, its heaps, its code, its resources and its entry
pub record IsReadAs (m : Module) (h : Built) (p : Placed) (rows : List (List (List ℕ))) (s : Source) : Type 0 where
  pub counts : (t : ℕ) → t < 64 → rows_of s.layout t ≡ count_at rows t
  pub numbers : (t n i : ℕ) (cells : List ℕ) (x : ℕ) → slice_get (rows_at rows t) n ≡ Some cells → slice_get cells i ≡ Some x → raw_in s (nth_row t n) i ≡ x
  pub heaps : s.heaps ≡ heaps_built h
  pub behind : List ℕ
  pub loaded : s.loaded ≡ loaded_with p.code behind
  pub resources : s.resources ≡ m.resources
  pub entry : s.entry ≡ m.entry
  pub bare : s.bare ≡ false
