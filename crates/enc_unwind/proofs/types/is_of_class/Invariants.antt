use Rattle.std.proofs.Common.{◌≡◌, ◌-◌}
use Rattle.std.specs.List.{list_any}
use Rattle.enc_base.specs.declared.token.Token.{Token}
use Rattle.enc_plain.specs.Alike.{tokens_alike}
use Rattle.enc_plain.specs.Module.{cells_of}
use Rattle.enc_plain.specs.Sound.{row_count}
use Rattle.enc_base.specs.Tables.{type_def}
use Rattle.enc_unwind.specs.Thrown.{types_of}
use Rattle.enc_unwind.proofs.Climbed.{types_in}
use Rattle.enc_unwind.proofs.types.is_of_class.Given as goal

abbrev pub invariant-loop-step : goal.invariant-loop-step
invariant-loop-step g l = list_any (λ (t : Token). tokens_alike (cells_of (g.V.ModuleView.meaning l.view)) t l.caught) (types_in (g.V.ModuleView.meaning l.view) (row_count (g.V.ModuleView.meaning l.view) type_def - l._step) l.current)
    ≡ list_any (λ (t : Token). tokens_alike (cells_of (g.V.ModuleView.meaning l.view)) t l.caught) (types_of (g.V.ModuleView.meaning l.view) l.fn.class)
