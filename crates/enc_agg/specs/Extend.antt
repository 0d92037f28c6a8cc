-- A chain with one delta more: one plain module is edited directly, and the delta's heaps stand behind those before.
use Rattle.std.specs.Prelude.{List, [], ◌∷◌, ◌++◌, map}
use Rattle.enc_base.specs.declared.token.Token.{Token}
use Rattle.enc_rows.specs.Source.{Source}
use Rattle.enc_plain.specs.Chain.{Chain}
use Rattle.enc_plain.specs.Apply.{Change, apply, attach_all}
use Rattle.enc_image.specs.Base.{chain_of_base}
use Rattle.enc_delta.specs.Delta.{listed}
use Rattle.enc_delta.specs.Rules.{heaps_after, own_guid}
use Rattle.enc_delta.specs.Rows.{cells_after, own_row}
use Rattle.enc_delta.specs.Pairs.{attached_of}

-- each token of EncMap but the Module's, with its row
unfoldable pub changes_of : Chain → Source → List Change
changes_of c s = map (λ (t : Token). record { token = t; cells = cells_after c s (own_row s t) }) (listed s)

-- the chain with the delta: its rows put into the plain module and then its children attached, its EncId and its
-- heaps behind those before
unfoldable pub extended : Chain → Source → Chain
extended c s = record {
  plain = attach_all (apply c.plain (changes_of c s)) (attached_of s);
  ids = c.ids ++ own_guid c s 3 ∷ [];
  heaps = heaps_after c s;
}

-- a base with deltas, the newest first: each extends the chain of those before it
unfoldable pub chain_with : Source → List Source → Chain
chain_with base [] = chain_of_base base
chain_with base (d ∷ older) = extended (chain_with base older) d
