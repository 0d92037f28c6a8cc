use Rattle.std.proofs.Common.{◌≡◌, ◌-◌, ◌++◌, take, drop, refl, sym, ap, subst}
use Rattle.enc_il.specs.Seen.{arg_seen, instr_seen}
use Rattle.enc_meta.specs.Built.{heaps_built}
use Rattle.enc_meta.specs.Heaps.{user_at}
use Rattle.enc_rewriter.specs.Copied.{IsCopied, IsNamed}
use Rattle.enc_rewriter.proofs.CodeCopied.{on_ok, plain_seen, copied_plain, copied_named}
use Rattle.enc_rewriter.proofs.code.push_instr.Goals as goal

pub returns-in-User-clause-copied : goal.returns-in-User-clause-copied
returns-in-User-clause-copied g c =
    let old = g.V.ModuleView.users c.args.view.now in
    let new = user_at (heaps_built c.args.heaps.now).users in
    let code = c.args.span.now.code.now in
    let i = (instr_seen (c.args.instr.now, c.args.span.now.end)).0 in
    on_ok c.push_text.result (IsNamed old new code c.args.span.now.at c.args.span.now.end c.in-User.offset c.args.out.now.items c.push_text.new.out.items) (IsCopied old new code c.push_text.new.out.items c.args.span.now.end)
    (λ named. copied_named old new code c.args.out.now.items c.push_text.new.out.items c.args.span.now.at c.args.span.now.end c.in-User.offset i c.requires.read (ap (arg_seen c.args.span.now.end) c.in-User.is) named c.requires.copied)
    c.push_text.ensures.named

pub returns-in_default : goal.returns-in_default
returns-in_default g c =
    let old = g.V.ModuleView.users c.args.view.now in
    let new = user_at (heaps_built c.args.heaps.now).users in
    let code = c.args.span.now.code.now in
    let i = (instr_seen (c.args.instr.now, c.args.span.now.end)).0 in
    record {
      copied = on_ok c.push_plain.result (c.push_plain.new.out.items ≡ c.args.out.now.items ++ take (c.args.span.now.end - c.args.span.now.at) (drop c.args.span.now.at code)) (IsCopied old new code c.push_plain.new.out.items c.args.span.now.end)
          (λ e. subst (λ xs. IsCopied old new code xs c.args.span.now.end) (sym e)
          (copied_plain old new code c.args.out.now.items c.args.span.now.at c.args.span.now.end i c.requires.read (plain_seen c.args.span.now.end c.args.instr.now.arg c.in_default.not-User) c.requires.copied))
          c.push_plain.ensures;
      same = refl;
    }
