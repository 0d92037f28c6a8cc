-- An index stands for the rows that were there, in a module that keeps what is read of them; and one of no rows for none.
use Rattle.std.proofs.Common.{◌≡◌, ℕ, List, ◌++◌, length, filter, None, sym, ap, subst, ◌∙◌, arith}
use Rattle.std.specs.Prelude.{nat_lt}
use Rattle.enc_base.specs.Order.{or_else, first_below}
use Rattle.enc_base.specs.declared.token.Token.{Token}
use Rattle.enc_base.proofs.First.{first_none}
use Rattle.enc_key_map.specs.declared.index.Index.{Index}
use Rattle.enc_key_map.specs.Index.{value_at}
use Rattle.enc_plain.specs.Module.{Module, kids_of, cells_of}
use Rattle.enc_plain.specs.Sound.{row_count, IsSound}
use Rattle.enc_base.specs.Tables as tables
use Rattle.enc_dispatch.specs.declared.method_part.MethodPart.{MethodPart}
use Rattle.enc_dispatch.specs.declared.own_method.OwnMethod.{OwnMethod}
use Rattle.enc_dispatch.specs.declared.rows_read.RowsRead.{RowsRead}
use Rattle.enc_dispatch.specs.declared.wanted.Wanted.{Wanted}
use Rattle.enc_dispatch.specs.declared.wanted.Wanted.TheVariants.{Virtual, Public}
use Rattle.enc_dispatch.specs.Buckets.{bucket_key, stored_head, AreBuckets}
use Rattle.enc_dispatch.specs.Changed.{IsChangedBy}
use Rattle.enc_dispatch.specs.Growth.{later_kids, IsOwnUpTo, StandsUpTo, AreCounts, IsEmpty}
use Rattle.enc_dispatch.specs.Index.{StandsForModule}
use Rattle.enc_dispatch.specs.Own.{own_among, AreAllOwn}
use Rattle.enc_dispatch.specs.Parts.{EachPart}
use Rattle.enc_dispatch.specs.Interfaces.{says_interface}
use Rattle.enc_dispatch.specs.Stored.{DispatchParts, class_at, own_key, impl_key, interface_key, impl_for, IsClassPart, IsMethodPart, IsLocalsPart}
use Rattle.enc_dispatch.proofs.Each.{each_none}
use Rattle.enc_dispatch.proofs.Found.{buckets_none}
use Rattle.enc_dispatch.proofs.Kept.{IsKept, kids_there, row_bounds}
use Rattle.enc_dispatch.proofs.Later.{slot_first, filter_both, none_later, all_later, new_later, among_both}
use Rattle.enc_dispatch.proofs.Stays.{SameSlots, buckets_same, classes_same, methods_same, impls_same, interfaces_same, locals_same, among_same}

-- methods that come behind others leave their slots
slots_first : (m : Module) (methods more : List MethodPart) → length methods ≡ row_count m tables.method_def → SameSlots m methods (methods ++ more)
slots_first m methods more size row there = let b = row_bounds m row there in slot_first methods more row (omega (arith, b.1, size))

-- the methods of a class that are new
new_kids : (m n : Module) (listed : List Token) (class : ℕ) → IsSound m → (changed : IsChangedBy m n listed) → later_kids n (row_count m tables.method_def) class ≡ (changed.kids (class_at class) tables.method_def).0
new_kids m n listed class sound changed =
    let w = changed.kids (class_at class) 0x06 in
    let later = λ (row : ℕ). nat_lt (row_count m 0x06) row in
    ap (filter later) w.1
    ∙ filter_both later (kids_of m (class_at class) 0x06) w.0
    ∙ ap (λ xs. xs ++ filter later w.0) (none_later m (kids_of m (class_at class) 0x06) (kids_there m (class_at class) sound))
    ∙ new_later (row_count m 0x06) w.0 (λ i row e. (w.2 i row e).0)

own_up_to : (m n : Module) (listed : List Token) (methods : List MethodPart) (wanted : Wanted) (own : Index OwnMethod) → IsSound m → IsChangedBy m n listed → IsKept m n → length methods ≡ row_count m tables.method_def → AreAllOwn m methods wanted own → IsOwnUpTo n methods wanted own (row_count m tables.method_def)
own_up_to m n listed methods wanted own sound changed kept size are more c s =
    let w = changed.kids (class_at c) 0x06 in
    let kids = kids_of m (class_at c) 0x06 in
    let all = methods ++ more in
    let was : value_at own (own_key c s) ≡ own_among n all wanted s kids = are c s ∙ sym (among_same m n methods all wanted s kids kept (slots_first m methods more size) (kids_there m (class_at c) sound)) in
    ap (λ o. or_else o (own_among n all wanted s (later_kids n (row_count m 0x06) c))) was
    ∙ ap (λ xs. or_else (own_among n all wanted s kids) (own_among n all wanted s xs)) (new_kids m n listed c sound changed)
    ∙ sym (ap (own_among n all wanted s) w.1 ∙ among_both n all wanted s kids w.0)

by_counts : (n : Module) (methods : List MethodPart) (wanted : Wanted) (own : Index OwnMethod) (read count : ℕ) → read ≡ count → IsOwnUpTo n methods wanted own count → IsOwnUpTo n methods wanted own read
by_counts n methods wanted own read count e is = subst (IsOwnUpTo n methods wanted own) (sym e) is

pub changed_up_to : (m n : Module) (listed : List Token) (d : DispatchParts) (read : RowsRead) → IsSound m → IsSound n → IsChangedBy m n listed → IsKept m n → StandsForModule d m → AreCounts m read → StandsUpTo d n read
changed_up_to m n listed d read sound new changed kept stands counts = record {
  class_count = stands.class_count ∙ sym counts.classes;
  classes = classes_same m n d.classes kept stands.class_count stands.classes;
  method_count = stands.method_count ∙ sym counts.methods;
  methods = methods_same m n listed d.methods sound new changed kept stands.method_count stands.methods;
  own = by_counts n d.methods Virtual d.own read.methods (row_count m 0x06) counts.methods (own_up_to m n listed d.methods Virtual d.own sound changed kept stands.method_count stands.own_all);
  met = by_counts n d.methods Public d.met read.methods (row_count m 0x06) counts.methods (own_up_to m n listed d.methods Public d.met sound changed kept stands.method_count stands.met_all);
  impls = λ class declaration. stands.impls class declaration ∙ sym (impls_same m n class declaration kept) ∙ ap (first_below (impl_for n class declaration)) (sym counts.impls);
  interfaces = λ class i. stands.interfaces class i ∙ sym (interfaces_same m n (class_at class) i kept) ∙ ap (first_below (says_interface n (class_at class) i)) (sym counts.interfaces);
  links = stands.links ∙ sym counts.methods;
  buckets = buckets_same m n (stored_head d.heads) d.links sound kept stands.links stands.buckets;
  locals_count = stands.locals_count ∙ sym counts.locals;
  locals = locals_same m n d.locals kept stands.locals_count stands.locals;
}

-- no rows
abbrev pub nothing_read : RowsRead
nothing_read = record { classes = 0; methods = 0; impls = 0; interfaces = 0; locals = 0 }

own_of_none : (n : Module) (methods : List MethodPart) (wanted : Wanted) (own : Index OwnMethod) → IsSound n → ((c s : ℕ) → value_at own (own_key c s) ≡ None) → IsOwnUpTo n methods wanted own 0
own_of_none n methods wanted own sound none more c s =
    ap (λ o. or_else o (own_among n (methods ++ more) wanted s (later_kids n 0 c))) (none c s)
    ∙ ap (own_among n (methods ++ more) wanted s) (all_later n (kids_of n (class_at c) 0x06) (kids_there n (class_at c) sound))

pub empty_up_to : (d : DispatchParts) (n : Module) → IsEmpty d → IsSound n → StandsUpTo d n nothing_read
empty_up_to d n is sound = record {
  class_count = ap length is.classes;
  classes = subst (EachPart (IsClassPart n)) (sym is.classes) (each_none (IsClassPart n));
  method_count = ap length is.methods;
  methods = subst (EachPart (IsMethodPart n)) (sym is.methods) (each_none (IsMethodPart n));
  own = own_of_none n d.methods Virtual d.own sound (λ c s. is.own (own_key c s));
  met = own_of_none n d.methods Public d.met sound (λ c s. is.met (own_key c s));
  impls = λ class declaration. is.impls (impl_key class declaration) ∙ sym (first_none (impl_for n class declaration));
  interfaces = λ class i. is.interfaces (interface_key class i) ∙ sym (first_none (says_interface n (class_at class) i));
  links = ap length is.links;
  buckets = subst (AreBuckets (cells_of n) (stored_head d.heads)) (sym is.links) (buckets_none (cells_of n) (stored_head d.heads) (λ key. is.heads (bucket_key key)));
  locals_count = ap length is.locals;
  locals = subst (EachPart (IsLocalsPart n)) (sym is.locals) (each_none (IsLocalsPart n));
}
