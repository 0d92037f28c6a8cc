-- A stream that is whole by the layout of its header.
use Rattle.std.proofs.Common.{◌≡◌, ℕ, Bool, true, false, List, length, map, Some, None, refl}
use Rattle.enc_meta.specs.declared.span.Span.{Span}
use Rattle.enc_schema.specs.Widths.{Shape}
use Rattle.enc_rows.specs.Sums.{below}
use Rattle.enc_rows.specs.declared.form.Form.{Form}
use Rattle.enc_rows.specs.Layout.{Layout, count_in, width_count, rows_begin, laid_out, is_whole, whole_layout, table_start}

-- a layout made part by part is that of the header
pub laid_is : (stream : List ℕ) (span : Span) (valid flags : ℕ) (jtd : Bool) (outer counts wide : List ℕ) (shape : Shape) (first : ℕ) → counts ≡ map (count_in stream valid) (below 64) → shape ≡ record { counts = wide; jtd = jtd; flags = flags } → wide ≡ map (width_count stream valid outer) (below 64) → first ≡ rows_begin valid flags → record { span = span; counts = counts; shape = shape; first = first } ≡ laid_out stream span valid flags jtd outer
unfolding laid_out
laid_is stream span valid flags jtd outer counts wide shape first a b c d = rw (a, b, c, d) refl

-- where the test fails there is no layout, and else it is that one
pub whole_no : (stream : List ℕ) (form : Form) (valid end : ℕ) (made l : Layout) → made ≡ l → end ≡ table_start made 64 → false ≡ is_whole (length stream) form valid made.counts made.first end → None ≡ whole_layout stream form valid l
unfolding whole_layout
whole_no stream form valid end made l e f h = rw (← e, ← f, ← h) refl

pub whole_yes : (stream : List ℕ) (form : Form) (valid end : ℕ) (made l : Layout) → made ≡ l → end ≡ table_start made 64 → true ≡ is_whole (length stream) form valid made.counts made.first end → Some made ≡ whole_layout stream form valid l
unfolding whole_layout
whole_yes stream form valid end made l e f h = rw (← e, ← f, ← h) refl
