use Rattle.std.proofs.Common.{◌≡◌, true, take, map}
use Rattle.std.specs.Prelude.{option_map}
use Rattle.std.specs.List.{list_all}
use Rattle.enc_opcodes.specs.Body.{body_of}
use Rattle.enc_memory_module.specs.Encoded.{body_of_row, has_texts, texts_of}
use Rattle.enc_memory_module.proofs.encode.encoded_rows.Given as goal

abbrev pub invariant-loop-k : goal.invariant-loop-k
invariant-loop-k l = record {
  means : map (option_map (body_of (texts_of l.fn.heaps))) l.codes.items ≡ map body_of_row (take l.k l.rows);
  texts : list_all (has_texts (texts_of l.fn.heaps)) l.codes.items ≡ true;
  same : l.heaps ≡ l.fn.heaps;
}
