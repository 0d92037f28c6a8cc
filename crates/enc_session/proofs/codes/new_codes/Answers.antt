use Rattle.std.proofs.Common.{List, sym, ap, ◌∙◌}
use Rattle.std.specs.Prelude.{slice_get, option_copied}
use Rattle.enc_base.specs.declared.token.Token.{Token}
use Rattle.enc_session.proofs.Coded.{entry_code, entry_is, codes_more}
use Rattle.enc_session.proofs.codes.new_codes.Goals as goal

pub new_entry-requires : goal.new_entry-requires
new_entry-requires c =
    entry_code c.args.delta.now c.loop-i.i c.in-Some.method.now
    (ap (λ (ts : List Token). slice_get ts c.loop-i.i) (sym c.in_ok-methods.ensures) ∙ sym c.get.ensures ∙ ap option_copied c.in-Some.is)

pub push-requires : goal.push-requires
push-requires c =
    entry_is c.args.delta.now c.args.pdb.now c.loop-i.i c.in-Some.method.now c.in_ok-new_entry.field-0 c.requires
    (ap (λ (ts : List Token). slice_get ts c.loop-i.i) (sym c.in_ok-methods.ensures) ∙ sym c.get.ensures ∙ ap option_copied c.in-Some.is)
    c.in_ok-new_entry.ensures.version c.in_ok-new_entry.ensures.few

pub loop-i-preserved : goal.loop-i-preserved
loop-i-preserved c =
    codes_more c.args.delta.now c.args.pdb.now c.in_ok-methods.methods c.loop-i.i c.in-Some.method.now c.in_ok-new_entry.field-0 c.loop-i.codes c.push.new.self
    c.loop-i.invariant (sym c.get.ensures ∙ ap option_copied c.in-Some.is) c.in_ok-new_entry.ensures.version c.in_ok-push.ensures.ok
