use Rattle.enc_edit_list.specs.Form.{list_fits}
use Rattle.enc_rules.proofs.RowsFew.{rows_few, edits_short}
use Rattle.enc_rules.proofs.rows.context_of.Goals as goal

pub rows_of-requires : goal.rows_of-requires
rows_of-requires g c =
    let few = rows_few (g.C.ChainView.chain c.args.chain.now) c.args.list.now c.requires.form c.requires.few c.requires.sound.counts.few in
    rw c.requires.edits (record { few = few })

pub pairs_of-requires-clause-form : goal.pairs_of-requires-clause-form
unfolding list_fits
pairs_of-requires-clause-form g c = rw (c.edits.ensures, c.requires.edits) c.requires.form

pub pairs_of-requires-clause-few : goal.pairs_of-requires-clause-few
pairs_of-requires-clause-few g c =
    let few = rows_few (g.C.ChainView.chain c.args.chain.now) c.args.list.now c.requires.form c.requires.few c.requires.sound.counts.few in
    rw (c.edits.ensures, c.requires.edits) few

pub counts_of-counts-requires : goal.counts_of-counts-requires
counts_of-counts-requires g c =
    let few = rows_few (g.C.ChainView.chain c.args.chain.now) c.args.list.now c.requires.form c.requires.few c.requires.sound.counts.few in
    rw c.requires.edits (record { few = few })

pub invariant_of-result : goal.invariant_of-result
invariant_of-result g c = (
  record {
    form = c.requires.form;
    rows = rw c.requires.edits at c.in_ok-rows.ensures;
    pairs = rw (c.edits.ensures, c.requires.edits) at c.in_ok-pairs.ensures.pairs;
    pair_rows = c.in_ok-pairs.ensures.few;
    counts = rw c.requires.edits at c.counts_of-counts.ensures;
    few = rows_few (g.C.ChainView.chain c.args.chain.now) c.args.list.now c.requires.form c.requires.few c.requires.sound.counts.few;
    short = edits_short (g.C.ChainView.chain c.args.chain.now) c.args.list.now c.requires.few;
  },
  c.requires.edits,
)
