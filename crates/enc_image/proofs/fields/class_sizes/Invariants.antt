use Rattle.std.proofs.Common.{◌≡◌, ℕ, ◌+◌, ◌<◌, length, None}
use Rattle.std.specs.List.{slice_index_or}
use Rattle.enc_base.specs.Order.{first_below}
use Rattle.enc_rows.specs.Layout.{rows_of}
use Rattle.enc_image.specs.Base.{layout_size}
use Rattle.enc_image.specs.Seen.{source_seen}
use Rattle.enc_image.proofs.fields.class_sizes.Given as goal

-- each type has the size that the rows of ClassLayout so far tell
abbrev pub invariant-loop-r : goal.invariant-loop-r
invariant-loop-r l = record {
  many : length l.sizes.items ≡ rows_of l.cells.tables.now 0x02 + 1;
  each : (t : ℕ) → t < length l.sizes.items → slice_index_or l.sizes.items t None ≡ first_below (layout_size (source_seen l.cells) t) l.r;
}
