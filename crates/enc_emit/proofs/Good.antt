-- No stream of a root that was written is refused, and its root has their spans.
use Rattle.std.proofs.Common.{◌≡◌, ℕ, ◌+◌, ◌≤◌, Bool, true, false, List, [], length, take, Some, None, refl, ◌∷◌, ◌++◌}
use Rattle.std.specs.Prelude.{Option, codes, slice_get}
use Rattle.enc_base.specs.Order.{first_below}
use Rattle.enc_meta.specs.Root.{Header, has_stream, fault_at, stream_fault, has_one_table_stream, span_of, root_with}
use Rattle.enc_meta.specs.declared.root.Root.{Root}
use Rattle.enc_meta.specs.declared.span.Span.{Span}
use Rattle.enc_emit.specs.Written.{table_name}
use Rattle.enc_emit.proofs.Five.{Spans, Ends, five, six, header, no_fault, none_more, none_first}

fault_with : (size : ℕ) (all : List Header) → first_below (fault_at size all) (length all) ≡ None → has_one_table_stream all ≡ true → stream_fault size all ≡ None
unfolding stream_fault
fault_with size all none one = rw (none, one) refl

-- a header that is the k-th of all
fault_place : (size k : ℕ) (all before : List Header) (h : Header) → take k all ≡ before → slice_get all k ≡ Some h → has_stream h.name before ≡ false → h.span.start + h.span.len ≤ size → fault_at size all k ≡ None
unfolding fault_at
fault_place size k all before h front here new fits = rw (front, here) (no_fault size before h new fits)

one_table_five : (u : Bool) (s : Spans) → has_one_table_stream (five u s) ≡ true
unfolding has_one_table_stream has_stream
one_table_five true s = refl
one_table_five false s = refl

-- a further stream of this name leaves the table stream the only one, and none of the five has its name
pub record IsBeside (name : List ℕ) : Type 0 where
  pub tables : (u : Bool) (s : Spans) (span : Span) → has_one_table_stream (six u s name span) ≡ true
  pub new : (u : Bool) (s : Spans) → has_stream name (five u s) ≡ false

jtd_one : (u : Bool) (s : Spans) (span : Span) → has_one_table_stream (six u s (codes "#JTD") span) ≡ true
unfolding has_one_table_stream has_stream
jtd_one true s span = refl
jtd_one false s span = refl

jtd_new : (u : Bool) (s : Spans) → has_stream (codes "#JTD") (five u s) ≡ false
unfolding has_stream
jtd_new true s = refl
jtd_new false s = refl

pub jtd_beside : IsBeside (codes "#JTD")
jtd_beside = record { tables = jtd_one; new = jtd_new }

pdb_one : (u : Bool) (s : Spans) (span : Span) → has_one_table_stream (six u s (codes "#Pdb") span) ≡ true
unfolding has_one_table_stream has_stream
pdb_one true s span = refl
pdb_one false s span = refl

pdb_new : (u : Bool) (s : Spans) → has_stream (codes "#Pdb") (five u s) ≡ false
unfolding has_stream
pdb_new true s = refl
pdb_new false s = refl

pub pdb_beside : IsBeside (codes "#Pdb")
pdb_beside = record { tables = pdb_one; new = pdb_new }

none_stands : (text : List ℕ) → has_stream text [] ≡ false
unfolding has_stream
none_stands text = refl

-- no header stands before under the name of the next
pub record Apart (u : Bool) (s : Spans) : Type 0 where
  pub strings : has_stream (codes "#Strings") (take 1 (five u s)) ≡ false
  pub users : has_stream (codes "#US") (take 2 (five u s)) ≡ false
  pub guids : has_stream (codes "#GUID") (take 3 (five u s)) ≡ false
  pub blobs : has_stream (codes "#Blob") (take 4 (five u s)) ≡ false

apart : (u : Bool) (s : Spans) → Apart u s
unfolding has_stream
apart true s = record { strings = refl; users = refl; guids = refl; blobs = refl }
apart false s = record { strings = refl; users = refl; guids = refl; blobs = refl }

-- of the first five headers none is refused, whatever stands behind them
first_five : (size : ℕ) (u : Bool) (s : Spans) (rest : List Header) → Ends size s → first_below (fault_at size (five u s ++ rest)) 5 ≡ None
first_five size u s rest fit =
    let all = five u s ++ rest in
    let rule = fault_at size all in
    let f0 = fault_place size 0 all [] _ refl refl (none_stands (table_name u)) fit.tables in
    let f1 = fault_place size 1 all (take 1 (five u s)) _ refl refl (apart u s).strings fit.strings in
    let f2 = fault_place size 2 all (take 2 (five u s)) _ refl refl (apart u s).users fit.users in
    let f3 = fault_place size 3 all (take 3 (five u s)) _ refl refl (apart u s).guids fit.guids in
    let f4 = fault_place size 4 all (take 4 (five u s)) _ refl refl (apart u s).blobs fit.blobs in
    let n2 = none_more rule 1 (none_more rule 0 (none_first rule) f0) f1 in
    none_more rule 4 (none_more rule 3 (none_more rule 2 n2 f2) f3) f4

pub five_good : (size : ℕ) (u : Bool) (s : Spans) → Ends size s → stream_fault size (five u s) ≡ None
five_good size u s fit = fault_with size (five u s) (first_five size u s [] fit) (one_table_five u s)

pub six_good : (size : ℕ) (u : Bool) (s : Spans) (name : List ℕ) (span : Span) → IsBeside name → Ends size s → span.start + span.len ≤ size → stream_fault size (six u s name span) ≡ None
six_good size u s name span is fit le =
    let all = six u s name span in
    let f5 = fault_place size 5 all (five u s) (header name span) refl refl (is.new u s) le in
    fault_with size all (none_more (fault_at size all) 5 (first_five size u s (header name span ∷ []) fit) f5) (is.tables u s span)

-- the root of these spans
abbrev pub root_for : Bool → Bool → Spans → Option Span → Root
root_for jtd u s pdb = record {
  tables = s.tables;
  uncompressed = u;
  jtd = jtd;
  strings = s.strings;
  users = s.users;
  blobs = s.blobs;
  guids = s.guids;
  pdb = pdb;
}

pub five_root : (u : Bool) (s : Spans) → root_with (five u s) ≡ root_for false u s None
unfolding root_with span_of has_stream
five_root true s = refl
five_root false s = refl

pub jtd_root : (u : Bool) (s : Spans) (span : Span) → root_with (six u s (codes "#JTD") span) ≡ root_for true u s None
unfolding root_with span_of has_stream
jtd_root true s span = refl
jtd_root false s span = refl

pub pdb_root : (u : Bool) (s : Spans) (span : Span) → root_with (six u s (codes "#Pdb") span) ≡ root_for false u s (Some span)
unfolding root_with span_of has_stream
pdb_root true s span = refl
pdb_root false s span = refl
