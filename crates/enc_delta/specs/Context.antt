-- For the contracts of private functions: a chain with a delta after it, and what is known of the two.
use Rattle.std.specs.Prelude.{◌≡◌, ℕ, ◌<◌, ◌^◌, List, length, map, slice_index, Option, option_and_then, unwrap_or}
use Rattle.enc_base.specs.Token.{nil}
use Rattle.enc_base.specs.declared.token.Token.{Token}
use Rattle.enc_meta.specs.Joined.{joined_lengths, joined_blob}
use Rattle.enc_rows.specs.Source.{Source}
use Rattle.enc_plain.specs.Chain.{Chain}
use Rattle.enc_plain.specs.Reading.{within}
use Rattle.enc_plain.specs.Rows.{Rows}
use Rattle.enc_delta.specs.declared.known.DeltaLists.{DeltaLists}
use Rattle.enc_delta.specs.Delta.{log_in, listed}
use Rattle.enc_delta.specs.Lists.{AreTokens, AreEntries}
use Rattle.enc_delta.specs.Members.{ArePairs, pair_seen}
use Rattle.enc_delta.specs.Pairs.{attached_of}
use Rattle.enc_delta.specs.Rules.{inserts, rows_with, heaps_after}
use Rattle.enc_delta.specs.Rows.{rows_after}

-- a chain, and a delta after it
pub record Joined : Type 0 where
  pub chain : Chain
  pub delta : Source

-- the rows after it
abbrev pub joined_rows : Joined → Rows
joined_rows j = rows_after j.chain j.delta

-- the blobs of the heaps after it, by their offsets
abbrev pub joined_blobs : Joined → ℕ → Option (List ℕ)
joined_blobs j n = joined_blob (heaps_after j.chain j.delta) n

-- a token, where it names a row after; else nil
abbrev pub row_or_nil : Joined → Option Token → Token
row_or_nil j o = unwrap_or (option_and_then (within (rows_with j.chain (listed j.delta))) o) nil

-- what is known is that of this chain and this delta
pub record IsKnown (c : Chain) (s : Source) (k : DeltaLists) : Type 0 where
  pub before : k.before ≡ joined_lengths c.heaps
  pub tokens : k.tokens.items ≡ listed s
  pub token_rows : AreTokens k.tokens.items
  pub log : k.log.items ≡ log_in s
  pub log_rows : AreEntries k.log.items
  pub few : length k.log.items < 2 ^ 24
  pub pairs : map pair_seen k.pairs.items ≡ attached_of s
  pub pair_rows : ArePairs k.pairs.items
  pub inserts : (t : ℕ) → t < 256 → slice_index k.inserts t ≡ inserts c (listed s) t
  pub counts : (t : ℕ) → t < 64 → slice_index k.counts.rows t ≡ rows_with c (listed s) t
