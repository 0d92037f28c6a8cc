use Rattle.std.proofs.Common.{◌≡◌, drop, length, map, refl, rules, ap, sym, subst, ◌∙◌, arith, Ok, Err}
use Rattle.std.specs.Prelude.{IfSome, string_bytes}
use Rattle.std.proofs.lemmas.Option.{slice_get_read}
use Rattle.enc_commands.specs.Loads.{file_seen}
use Rattle.enc_command_line.specs.Words.{texts}
use Rattle.enc_commands.specs.Verdict.{load_delta, load_deltas}
use Rattle.enc_commands.specs.Stops.{Comes, OnPlan, StopsWith}
use Rattle.enc_command_line.proofs.Listed.{next_word}
use Rattle.enc_commands.proofs.Loading.{if_both, no_word, more_loaded, loading_stops, loaded_none, after_loaded, loaded_so_far, ok_stands}
use Rattle.enc_commands.proofs.Merging.{none_short, one_longer, short_seen}
use Rattle.enc_commands.proofs.Served.{if_some}
use Rattle.enc_commands.proofs.load.load_deltas.Goals as goal

pub returns-in_err-file-clause-step : goal.returns-in_err-file-clause-step
returns-in_err-file-clause-step g c =
    let word = next_word c.args.deltas.now c.loop-delta.delta-index c.delta-item.result (slice_get_read c.args.deltas.now _ _ c.delta-item.result refl (omega arith) c.delta-item.is) in
    let gone : c.from_residual.result ≡ Err c.in_err-file.field-0.0 = grind arith in
    subst (λ r. IfSome (g.S.Store.told c.args.store.now) (λ files. Comes (λ fs. map file_seen fs.items) r (load_deltas files (texts c.args.deltas.now) c.args.loaded.now))) (sym gone) (if_both (g.S.Store.told c.args.store.now) (λ files. load_deltas files (texts c.args.deltas.now) c.args.loaded.now ≡ after_loaded (map file_seen c.loop-delta.files.items) (load_deltas files (texts (drop c.loop-delta.delta-index c.args.deltas.now)) c.loop-delta.loaded)) (λ files. OnPlan c.in_err-file.field-0.0 (StopsWith (load_delta files (string_bytes c.delta-item.result) c.loop-delta.loaded))) _ c.loop-delta.invariant.all (rw (c.as_str.ensures.value, c.loop-delta.invariant.stays) at c.in_err-file.ensures.step) (λ files all step. rw (all, word) (loading_stops files (string_bytes c.delta-item.result) _ _ _ c.in_err-file.field-0.0 step)))

pub loop-delta-preserved : goal.loop-delta-preserved
loop-delta-preserved g c =
    let word = next_word c.args.deltas.now c.loop-delta.delta-index c.delta-item.result (slice_get_read c.args.deltas.now _ _ c.delta-item.result refl (omega arith) c.delta-item.is) in
    record {
      stays = c.load_delta.ensures.stays ∙ c.loop-delta.invariant.stays;
      stands = ok_stands _ _ _ _ c.in_ok-file.ensures.cause ∙ c.loop-delta.invariant.stands;
      all = if_both (g.S.Store.told c.args.store.now) (λ files. load_deltas files (texts c.args.deltas.now) c.args.loaded.now ≡ after_loaded (map file_seen c.loop-delta.files.items) (load_deltas files (texts (drop c.loop-delta.delta-index c.args.deltas.now)) c.loop-delta.loaded)) (λ files. load_delta files (string_bytes c.delta-item.result) c.loop-delta.loaded ≡ Ok (file_seen c.in_ok-file.file)) _ c.loop-delta.invariant.all (rw (c.as_str.ensures.value, c.loop-delta.invariant.stays) at c.in_ok-file.ensures.step) (λ files all step. all ∙ ap (λ (ws : _). after_loaded (map file_seen c.loop-delta.files.items) (load_deltas files (texts ws) c.loop-delta.loaded)) word ∙ more_loaded files (string_bytes c.delta-item.result) _ _ _ (file_seen c.in_ok-file.file) step ∙ loaded_so_far files _ _ _ _ _ c.in_ok-file.file c.in_ok-push.ensures.items c.in_ok-file.ensures.counted);
      many = one_longer _ _ c.in_ok-file.file c.loop-delta.delta-index c.in_ok-push.ensures.items c.loop-delta.invariant.many;
      short = short_seen _ _ c.in_ok-file.file c.in_ok-push.ensures.items c.loop-delta.invariant.short c.in_ok-file.ensures.short;
    }

pub returns-clause-step : goal.returns-clause-step
returns-clause-step g c =
    let none = no_word c.args.deltas.now c.loop-delta.delta-index c.loop-delta-test.false in
    if_some (g.S.Store.told c.args.store.now) (λ files. load_deltas files (texts c.args.deltas.now) c.args.loaded.now ≡ after_loaded (map file_seen c.loop-delta.files.items) (load_deltas files (texts (drop c.loop-delta.delta-index c.args.deltas.now)) c.loop-delta.loaded)) (λ files. load_deltas files (texts c.args.deltas.now) c.args.loaded.now ≡ Ok (map file_seen c.loop-delta.files.items)) c.loop-delta.invariant.all (λ files all. rw (all, none) (loaded_none files c.loop-delta.loaded (map file_seen c.loop-delta.files.items)))

pub loop-delta-init : goal.loop-delta-init
loop-delta-init g c = record {
  stays = refl;
  stands = refl;
  all = search rules;
  many = ap length c.new-files.ensures.items;
  short = none_short c.new-files.result.items c.new-files.ensures.items;
}
