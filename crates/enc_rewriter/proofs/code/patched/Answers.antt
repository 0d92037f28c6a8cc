use Rattle.std.proofs.Common.{◌≡◌, true, refl, sym, subst, ◌∙◌}
use Rattle.std.specs.List.{list_all}
use Rattle.enc_il.specs.Seen.{instr_seen}
use Rattle.enc_il.proofs.Starts.{fewer_left}
use Rattle.enc_meta.specs.Built.{Built, is_kept, heaps_built}
use Rattle.enc_meta.specs.Heaps.{user_at}
use Rattle.enc_opcodes.specs.Body.{body_of}
use Rattle.enc_rewriter.specs.Copied.{IsCopied}
use Rattle.enc_rewriter.proofs.UserTexts.{left}
use Rattle.enc_rewriter.proofs.CodeCopied.{copied_none, copied_all, kept_both}
use Rattle.enc_rewriter.proofs.code.patched.Goals as goal

pub loop-instr-init : goal.loop-instr-init
unfolding body_of
loop-instr-init g c =
    let old = g.V.ModuleView.users c.args.view.now in
    let new = user_at (heaps_built c.args.heaps.now).users in
    (refl, c.requires.kept, subst (λ xs. IsCopied old new c.args.code.now.code.now xs 0) (sym c.new-out.ensures.items) (copied_none old new c.args.code.now.code.now))

pub push_instr-requires-clause-kept : goal.push_instr-requires-clause-kept
push_instr-requires-clause-kept g c =
    let old = g.V.ModuleView.users c.args.view.now in
    let code = c.args.code.now.code.now in
    (kept_both (is_kept c.loop-instr.heaps.users) old code c.loop-instr.at c.in-Some.end (instr_seen (c.in-Some.instr, c.in-Some.end)).0 c.in-Some.ensures.instr
    (subst (λ (h : Built). list_all (is_kept h.users) (left old code c.loop-instr.at) ≡ true) (sym c.loop-instr.invariant.0) c.loop-instr.invariant.1)).0

pub loop-instr-smaller : goal.loop-instr-smaller
loop-instr-smaller g c = fewer_left c.args.code.now.code.now c.loop-instr.at c.in-Some.end (instr_seen (c.in-Some.instr, c.in-Some.end)).0 c.in-Some.ensures.instr

pub loop-instr-preserved : goal.loop-instr-preserved
loop-instr-preserved g c =
    let old = g.V.ModuleView.users c.args.view.now in
    let code = c.args.code.now.code.now in (
      c.push_instr.ensures.same ∙ c.loop-instr.invariant.0,
      (kept_both (is_kept c.args.heaps.now.users) old code c.loop-instr.at c.in-Some.end (instr_seen (c.in-Some.instr, c.in-Some.end)).0 c.in-Some.ensures.instr c.loop-instr.invariant.1).1,
      subst (λ (h : Built). IsCopied old (user_at (heaps_built h).users) code c.push_instr.new.out.items c.in-Some.end) c.loop-instr.invariant.0 c.in-Ok.ensures.copied,
    )

pub returns-clause-says : goal.returns-clause-says
returns-clause-says g c =
    (copied_all (g.V.ModuleView.users c.args.view.now) (user_at (heaps_built c.args.heaps.now).users) c.args.code.now.code.now c.loop-instr.out.items c.loop-instr.at c.in_default.ensures.instr c.requires.whole c.loop-instr.invariant.2).0

pub returns-clause-size : goal.returns-clause-size
returns-clause-size g c =
    (copied_all (g.V.ModuleView.users c.args.view.now) (user_at (heaps_built c.args.heaps.now).users) c.args.code.now.code.now c.loop-instr.out.items c.loop-instr.at c.in_default.ensures.instr c.requires.whole c.loop-instr.invariant.2).1
