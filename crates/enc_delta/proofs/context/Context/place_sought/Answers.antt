use Rattle.std.proofs.Common.{List, sym, subst, ◌∙◌}
use Rattle.std.specs.List.Sorted.{IsNonDecreasingBy}
use Rattle.enc_base.specs.Token.{number_of}
use Rattle.enc_base.specs.declared.token.Token.{Token}
use Rattle.enc_delta.specs.Delta.{listed}
use Rattle.enc_delta.proofs.CutBy.{listed_rises, no_place}
use Rattle.enc_delta.proofs.context.Context.place_sought.Goals as goal

pub has_number-requires : goal.has_number-requires
has_number-requires g c =
    let tokens = rw (← c.self.view_is) at c.tokens.ensures.tokens in
    subst (λ (l : List Token). IsNonDecreasingBy number_of l) (sym tokens) (listed_rises c.self.inside.delta.now (c.rises.ensures.0 c.if-rises.true))

pub returns-then-not-has_number : goal.returns-then-not-has_number
returns-then-not-has_number g c =
    let tokens = rw (← c.self.view_is) at c.tokens.ensures.tokens in
    let none = sym c.has_number.ensures ∙ c.if-not-has_number.true in
    rw (← c.self.view_is) (sym (no_place (listed c.self.inside.delta.now) c.args.token (rw (tokens, c.number_of.ensures) at none)))
