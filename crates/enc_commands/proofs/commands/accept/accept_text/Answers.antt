use Rattle.std.proofs.Common.{◌≡◌, refl, ◌+◌, length, map, sym, subst, arith, Ok, Err}
use Rattle.std.specs.Prelude.{IfSome}
use Rattle.enc_command_line.specs.Words.{texts}
use Rattle.enc_commands.specs.Verdict.{base_size, load_one, load_base, load_deltas, judge_all, accept_text}
use Rattle.enc_commands.specs.Stops.{Comes, OnPlan, StopsWith}
use Rattle.enc_commands.specs.Loads.{base_seen, file_seen, texted}
use Rattle.enc_commands.proofs.Loading.{if_both, from_nothing, halts_then, text_stops, deltas_stop, text_judged}
use Rattle.enc_commands.proofs.commands.accept.accept_text.Goals as goal

pub returns-in_err-text-clause-step : goal.returns-in_err-text-clause-step
returns-in_err-text-clause-step g c =
    let many : c.load_base.new.loaded ≡ base_size (base_seen c.in_ok-file.file) = from_nothing _ _ _ c.nothing-loaded.ensures c.in_ok-file.ensures.counted in
    let gone : c.from_residual-in_err-text.result ≡ Err c.in_err-text.field-0.0 = grind arith in
    subst (λ r. IfSome (g.S.Store.told c.args.store.now) (λ files. Comes texted r (accept_text files c.args.base.now c.args.edits.now (texts c.args.deltas.now)))) (sym gone)
    (if_both (g.S.Store.told c.args.store.now) (λ files. load_base files c.args.base.now 0 ≡ Ok (base_seen c.in_ok-file.file)) (λ files. OnPlan c.in_err-text.field-0.0 (StopsWith (load_one files c.args.edits.now (base_size (base_seen c.in_ok-file.file))))) _
    (rw c.nothing-loaded.ensures at c.in_ok-file.ensures.step) (rw (many, c.load_base.ensures.stays) at c.in_err-text.ensures.step)
    (λ files one stops. text_stops files c.args.base.now c.args.edits.now (texts c.args.deltas.now) (base_seen c.in_ok-file.file) c.in_err-text.field-0.0 one stops))

pub returns-in_err-files-clause-step : goal.returns-in_err-files-clause-step
returns-in_err-files-clause-step g c =
    let many : c.load_base.new.loaded ≡ base_size (base_seen c.in_ok-file.file) = from_nothing _ _ _ c.nothing-loaded.ensures c.in_ok-file.ensures.counted in
    let more : c.load.new.self ≡ base_size (base_seen c.in_ok-file.file) + length c.in_ok-text.text.items = (let n = c.in_ok-text.ensures.counted in omega (arith, many, n)) in
    let both = if_both (g.S.Store.told c.args.store.now) (λ files. load_base files c.args.base.now 0 ≡ Ok (base_seen c.in_ok-file.file)) (λ files. load_one files c.args.edits.now (base_size (base_seen c.in_ok-file.file)) ≡ Ok c.in_ok-text.text.items)
    (λ files. (load_base files c.args.base.now 0 ≡ Ok (base_seen c.in_ok-file.file)) × (load_one files c.args.edits.now (base_size (base_seen c.in_ok-file.file)) ≡ Ok c.in_ok-text.text.items))
    (rw c.nothing-loaded.ensures at c.in_ok-file.ensures.step) (rw (many, c.load_base.ensures.stays) at c.in_ok-text.ensures.step) (λ files one two. (one, two)) in
    let gone : c.from_residual-in_err-files.result ≡ Err c.in_err-files.field-0.0 = grind arith in
    subst (λ r. IfSome (g.S.Store.told c.args.store.now) (λ files. Comes texted r (accept_text files c.args.base.now c.args.edits.now (texts c.args.deltas.now)))) (sym gone)
    (if_both (g.S.Store.told c.args.store.now) _ (λ files. OnPlan c.in_err-files.field-0.0 (StopsWith (load_deltas files (texts c.args.deltas.now) (base_size (base_seen c.in_ok-file.file) + length c.in_ok-text.text.items)))) _
    both (rw (more, c.load.ensures.stays, c.load_base.ensures.stays) at c.in_err-files.ensures.step)
    (λ files pair stops. deltas_stop files c.args.base.now c.args.edits.now (texts c.args.deltas.now) (base_seen c.in_ok-file.file) c.in_ok-text.text.items c.in_err-files.field-0.0 (pair.0) (pair.1) stops))

pub returns-in_err-judged-clause-step : goal.returns-in_err-judged-clause-step
returns-in_err-judged-clause-step g c =
    let many : c.load_base.new.loaded ≡ base_size (base_seen c.in_ok-file.file) = from_nothing _ _ _ c.nothing-loaded.ensures c.in_ok-file.ensures.counted in
    let more : c.load.new.self ≡ base_size (base_seen c.in_ok-file.file) + length c.in_ok-text.text.items = (let n = c.in_ok-text.ensures.counted in omega (arith, many, n)) in
    let both = if_both (g.S.Store.told c.args.store.now) (λ files. load_base files c.args.base.now 0 ≡ Ok (base_seen c.in_ok-file.file)) (λ files. load_one files c.args.edits.now (base_size (base_seen c.in_ok-file.file)) ≡ Ok c.in_ok-text.text.items)
    (λ files. (load_base files c.args.base.now 0 ≡ Ok (base_seen c.in_ok-file.file)) × (load_one files c.args.edits.now (base_size (base_seen c.in_ok-file.file)) ≡ Ok c.in_ok-text.text.items))
    (rw c.nothing-loaded.ensures at c.in_ok-file.ensures.step) (rw (many, c.load_base.ensures.stays) at c.in_ok-text.ensures.step) (λ files one two. (one, two)) in
    let gone : c.from_residual-in_err-judged.result ≡ Err c.in_err-judged.field-0.0 = grind arith in
    subst (λ r. IfSome (g.S.Store.told c.args.store.now) (λ files. Comes texted r (accept_text files c.args.base.now c.args.edits.now (texts c.args.deltas.now)))) (sym gone)
    (if_both (g.S.Store.told c.args.store.now) _ (λ files. load_deltas files (texts c.args.deltas.now) (base_size (base_seen c.in_ok-file.file) + length c.in_ok-text.text.items) ≡ Ok (map file_seen c.in_ok-files.files.items)) _
    both (rw (more, c.load.ensures.stays, c.load_base.ensures.stays) at c.in_ok-files.ensures.step)
    (λ files pair all. rw (text_judged files c.args.base.now c.args.edits.now (texts c.args.deltas.now) (base_seen c.in_ok-file.file) c.in_ok-text.text.items (map file_seen c.in_ok-files.files.items) (pair.0) (pair.1) all)
    (halts_then c.in_err-judged.field-0.0 (judge_all c.args.base.now (base_seen c.in_ok-file.file) (map file_seen c.in_ok-files.files.items)) _ c.in_err-judged.ensures.step)))

pub returns-clause-step : goal.returns-clause-step
returns-clause-step g c =
    let many : c.load_base.new.loaded ≡ base_size (base_seen c.in_ok-file.file) = from_nothing _ _ _ c.nothing-loaded.ensures c.in_ok-file.ensures.counted in
    let more : c.load.new.self ≡ base_size (base_seen c.in_ok-file.file) + length c.in_ok-text.text.items = (let n = c.in_ok-text.ensures.counted in omega (arith, many, n)) in
    let both = if_both (g.S.Store.told c.args.store.now) (λ files. load_base files c.args.base.now 0 ≡ Ok (base_seen c.in_ok-file.file)) (λ files. load_one files c.args.edits.now (base_size (base_seen c.in_ok-file.file)) ≡ Ok c.in_ok-text.text.items)
    (λ files. (load_base files c.args.base.now 0 ≡ Ok (base_seen c.in_ok-file.file)) × (load_one files c.args.edits.now (base_size (base_seen c.in_ok-file.file)) ≡ Ok c.in_ok-text.text.items))
    (rw c.nothing-loaded.ensures at c.in_ok-file.ensures.step) (rw (many, c.load_base.ensures.stays) at c.in_ok-text.ensures.step) (λ files one two. (one, two)) in
    if_both (g.S.Store.told c.args.store.now) _ (λ files. load_deltas files (texts c.args.deltas.now) (base_size (base_seen c.in_ok-file.file) + length c.in_ok-text.text.items) ≡ Ok (map file_seen c.in_ok-files.files.items)) _
    both (rw (more, c.load.ensures.stays, c.load_base.ensures.stays) at c.in_ok-files.ensures.step)
    (λ files pair all. rw (text_judged files c.args.base.now c.args.edits.now (texts c.args.deltas.now) (base_seen c.in_ok-file.file) c.in_ok-text.text.items (map file_seen c.in_ok-files.files.items) (pair.0) (pair.1) all, c.in_ok-judged.ensures.step) refl)
