use Rattle.std.proofs.Common.{◌≡◌, ℕ, ◌+◌, ◌≤◌, ◌++◌, List, length}
use Rattle.enc_rewriter.specs.Standing.{AreFieldsPlaced, fields_before}
use Rattle.enc_rewriter.proofs.fields.place_fields.Given as goal

abbrev pub invariant-loop-n : goal.invariant-loop-n
invariant-loop-n g l = (length l.fields.items ≡ l.n)
    × AreFieldsPlaced (g.V.ModuleView.meaning l.view) l.out.items l.fields.items l.n
    × (length l.out.items ≤ length l.fn.out.items + fields_before (g.V.ModuleView.meaning l.view) l.n)
    × ((rest : List ℕ) × (l.out.items ≡ l.fn.out.items ++ rest))
