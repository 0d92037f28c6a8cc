-- An image of parts that hold a module of little weight fits.
use Rattle.std.proofs.Common.{◌≡◌, ℕ, ◌+◌, ◌<◌, ◌≤◌, Bool, true, false, List, [], ◌++◌, length, refl, ap, arith, length-append}
use Rattle.std.specs.Prelude.{◌^◌, codes}
use Rattle.enc_base.specs.Numbers.{padded}
use Rattle.enc_emit.specs.Written.{stream_header_written, front_written, jtd_streams, streams_begin, five_end, five_headers_written, further_headers_written, five_written, further_written, root_with_further, root_size, root_written, has_ptr_rows}
use Rattle.enc_meta.specs.Built.{Built, joined_size, heaps_built}
use Rattle.enc_meta.specs.Heaps.{Counted}
use Rattle.enc_pe.specs.Written.{rounded, section_size, image_size}
use Rattle.enc_pe.proofs.ImagesRead.{length_written}
use Rattle.enc_plain.specs.Module.{Module}
use Rattle.enc_plain.specs.Sound.{IsSound}
use Rattle.enc_rows.specs.Written.{stream_of, heap_bits}
use Rattle.enc_rewriter.specs.Numbers.{needs_jtd}
use Rattle.enc_rewriter.specs.Placed.{Placed}
use Rattle.enc_rewriter.specs.Rewritten.{HoldModule, FitsImage, root_of_parts, image_of_parts}
use Rattle.enc_rewriter.specs.Weight.{rows_weight, heaps_weight, bodies_weight, fields_weight, module_weight, most_weight}
use Rattle.enc_rewriter.proofs.RootForms.{root_is}
use Rattle.enc_rewriter.proofs.RowSizes.{stream_light}
use Rattle.enc_ppdb.proofs.RootSizes.{padded_few, header_length, headers_few, front_length, heaps_length, five_few, heaps_are}

-- `#JTD` has a header and no bytes
jtd_header_few : (jtd : Bool) (start : ℕ) → length (further_headers_written start (jtd_streams jtd)) ≤ 16
jtd_header_few true start = omega (arith, header_length (codes "#JTD") start 0, length-append (stream_header_written (codes "#JTD") start 0) [])
jtd_header_few false start = omega arith

jtd_none : (jtd : Bool) → length (further_written (jtd_streams jtd)) ≡ 0
unfolding padded
jtd_none true = refl
jtd_none false = refl

-- a root is little longer than its streams
root_length : (jtd u : Bool) (stream : List ℕ) (h : Counted) → length (root_written jtd u stream h) ≤ length stream + heaps_length h + 146
unfolding root_written root_with_further
root_length jtd u stream h =
    let more = jtd_streams jtd in
    let front = front_written (5 + length more) in
    let heads = five_headers_written (streams_begin more) u stream h in
    let others = further_headers_written (five_end (streams_begin more) stream h) more in
    let five = five_written stream h in
    let rest = further_written more in
    omega (
      arith,
      length-append (front ++ heads ++ others ++ five) rest,
      length-append (front ++ heads ++ others) five,
      length-append (front ++ heads) others,
      length-append front heads,
      front_length (5 + length more),
      headers_few (streams_begin more) u stream h,
      jtd_header_few jtd (five_end (streams_begin more) stream h),
      five_few stream h,
      jtd_none jtd,
    )

size_few : (jtd : Bool) (stream : List ℕ) (h : Counted) → root_size jtd stream h ≤ length stream + heaps_length h + 142
size_few true stream h =
    let name : length (codes "#JTD") ≡ 4 = refl in
    omega (arith, name, padded_few (length (codes "#JTD") + 1), padded_few (length {A = ℕ} []), padded_few (length stream), padded_few (length h.strings), padded_few (length h.users), padded_few (length h.guids), padded_few (length h.blobs))
size_few false stream h =
    omega (arith, padded_few (length stream), padded_few (length h.strings), padded_few (length h.users), padded_few (length h.guids), padded_few (length h.blobs))

rounded_few : (n : ℕ) → (rounded 4 n ≤ n + 3) × (rounded 512 n ≤ n + 511)
rounded_few n = (omega arith, omega arith)

image_few : (root code resources : List ℕ) → image_size root code resources ≤ length root + length code + length resources + 1101
image_few root code resources = omega (arith, rounded_few (length code), rounded_few (length resources), rounded_few (section_size root code resources))

weight_is : (m : Module) (h : Built) → module_weight m h ≡ 65536 + rows_weight m + joined_size h + bodies_weight m + fields_weight m + (8 + length m.resources)
unfolding module_weight heaps_weight
weight_is m h = refl

-- bodies and fields weigh no more than the module
pub parts_light : (m : Module) (h : Built) → module_weight m h < most_weight → bodies_weight m + fields_weight m < 2 ^ 31
parts_light m h light = omega (arith, weight_is m h, light)

root_few : (m : Module) (h : Built) (rows : List (List (List ℕ)))
    → length (root_of_parts m h rows) ≤ length (stream_of rows (needs_jtd m) (heap_bits rows)) + heaps_length (heaps_built h) + 146
root_few m h rows =
    let stream = stream_of rows (needs_jtd m) (heap_bits rows) in
    let root = root_written (needs_jtd m) (has_ptr_rows rows) stream (heaps_built h) in
    let same : length (root_of_parts m h rows) ≡ length root = ap length (root_is m h rows) in
    omega (arith, same, root_length (needs_jtd m) (has_ptr_rows rows) stream (heaps_built h))

-- the image is no longer than the module's weight
pub image_light : (m : Module) (h : Built) (p : Placed) (rows : List (List (List ℕ))) → IsSound m → HoldModule m h p rows → length p.code ≤ bodies_weight m + fields_weight m + 4096
    → length (image_of_parts m h p rows) ≤ module_weight m h
unfolding image_of_parts
image_light m h p rows sound held code =
    let stream = stream_of rows (needs_jtd m) (heap_bits rows) in
    let s = stream_light m (heaps_built h) p rows (needs_jtd m) (heap_bits rows) sound held.numbers held.said in
    let root : length (root_of_parts m h rows) ≤ length stream + heaps_length (heaps_built h) + 146 = root_few m h rows in
    let heaps = heaps_are h held.begins held.good in
    omega (arith, s, root, heaps, image_few (root_of_parts m h rows) p.code m.resources, weight_is m h, code, length_written (root_of_parts m h rows) p.code m.resources m.entry)

pub image_fits : (m : Module) (h : Built) (p : Placed) (rows : List (List (List ℕ))) → IsSound m → HoldModule m h p rows → module_weight m h < most_weight
    → length p.code ≤ bodies_weight m + fields_weight m + 4096 → m.entry < 2 ^ 32 → FitsImage m h p rows
image_fits m h p rows sound held light code entry =
    let stream = stream_of rows (needs_jtd m) (heap_bits rows) in
    let s = stream_light m (heaps_built h) p rows (needs_jtd m) (heap_bits rows) sound held.numbers held.said in
    let size = size_few (needs_jtd m) stream (heaps_built h) in
    let root : length (root_of_parts m h rows) ≤ length stream + heaps_length (heaps_built h) + 146 = root_few m h rows in
    let heaps = heaps_are h held.begins held.good in
    record {
      root = omega (arith, s, size, heaps, weight_is m h, light);
      image = omega (arith, s, root, heaps, image_few (root_of_parts m h rows) p.code m.resources, weight_is m h, light, code);
      entry = entry;
    }
