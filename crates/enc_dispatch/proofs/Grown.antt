-- An index that stands for the first rows of a module, and has grown by what comes with the others, stands for the module.
use Rattle.std.proofs.Common.{◌≡◌, ℕ, ◌+◌, ◌-◌, ◌<◌, ◌≤◌, ◌^◌, List, Option, ◌++◌, length, length-append, sym, ap, subst, ◌∙◌, arith}
use Rattle.enc_base.specs.Order.{or_else, first_below}
use Rattle.enc_key_map.specs.Index.{value_at, either, latest}
use Rattle.enc_plain.specs.Module.{Module, cells_of}
use Rattle.enc_plain.specs.Sound.{row_count, IsSound}
use Rattle.enc_dispatch.specs.declared.growth.Growth.{Growth}
use Rattle.enc_dispatch.specs.declared.rows_read.RowsRead.{RowsRead}
use Rattle.enc_dispatch.specs.declared.wanted.Wanted.TheVariants.{Virtual, Public}
use Rattle.enc_dispatch.specs.Buckets.{bucket_key, stored_head, AreBuckets}
use Rattle.enc_dispatch.specs.Entries.{earliest, where_none}
use Rattle.enc_dispatch.specs.Growth.{later_kids, later_answer, StandsUpTo, IsGrowth, HasGrown}
use Rattle.enc_dispatch.specs.Index.{StandsForModule}
use Rattle.enc_dispatch.specs.Own.{own_among, AreAllOwn}
use Rattle.enc_dispatch.specs.Parts.{EachPart, nth_part}
use Rattle.enc_dispatch.specs.Interfaces.{says_interface}
use Rattle.enc_dispatch.specs.Stored.{DispatchParts, Room, with_room, class_at, own_key, impl_key, interface_key, impl_for, IsClassPart, IsMethodPart, IsLocalsPart}
use Rattle.enc_dispatch.proofs.Bodies.{bodies_there}
use Rattle.enc_dispatch.proofs.Found.{heads_same}
use Rattle.enc_dispatch.proofs.Later.{each_append}
use Rattle.enc_dispatch.proofs.Owns.{own_stands, met_stands}
use Rattle.enc_dispatch.proofs.Put.{put_over, up_to}

joined_size : {A : Type 0} (xs ys : List A) (read count : ℕ) → length xs ≡ read → read + length ys ≡ count → length (xs ++ ys) ≡ count
joined_size xs ys read count e f = length-append xs ys ∙ ap (λ n. n + length ys) e ∙ f

-- the first answer of a rule, in an index that has grown
rule_grown : {A : Type 0} (rule : ℕ → Option A) (there come new : Option A) (read count : ℕ) → read ≤ count → there ≡ first_below rule read → come ≡ where_none there (later_answer rule read (count - read)) → new ≡ either come there → new ≡ first_below rule count
rule_grown rule there come new read count low was comes is =
    let e : read + (count - read) ≡ count = omega (arith, low) in
    is
    ∙ ap (λ o. either o there) comes
    ∙ put_over there (later_answer rule read (count - read))
    ∙ ap (λ o. or_else o (later_answer rule read (count - read))) was
    ∙ up_to rule read (count - read)
    ∙ ap (first_below rule) e

pub grown : (d : DispatchParts) (g : Growth) (new : DispatchParts) (m : Module) (read : RowsRead) → IsSound m → StandsUpTo d m read → IsGrowth d g m read → HasGrown d g new → StandsForModule new m
grown d g new m read sound stands comes has =
    let methods = d.methods ++ g.methods.items in
    let count : length methods ≡ row_count m 0x06 = joined_size d.methods g.methods.items read.methods (row_count m 0x06) stands.method_count comes.method_count in
    let parts : EachPart (IsMethodPart m) methods = each_append (IsMethodPart m) d.methods g.methods.items read.methods stands.method_count stands.methods comes.methods in
    let own : AreAllOwn m methods Virtual new.own =
    λ c s. has.own (own_key c s) ∙ ap (λ o. either o (value_at d.own (own_key c s))) (comes.own c s) ∙ put_over (value_at d.own (own_key c s)) (own_among m methods Virtual s (later_kids m read.methods c)) ∙ stands.own g.methods.items c s
    in
    let met : AreAllOwn m methods Public new.met =
    λ c s. has.met (own_key c s) ∙ ap (λ o. either o (value_at d.met (own_key c s))) (comes.met c s) ∙ put_over (value_at d.met (own_key c s)) (own_among m methods Public s (later_kids m read.methods c)) ∙ stands.met g.methods.items c s
    in
    let impls = λ (class declaration : ℕ).
    rule_grown (impl_for m class declaration) (value_at d.impls (impl_key class declaration)) (earliest g.impls.items (impl_key class declaration)) (value_at new.impls (impl_key class declaration)) read.impls (row_count m 0x19) comes.counts.impls
    (stands.impls class declaration) (comes.impls class declaration) (has.impls (impl_key class declaration))
    in
    record {
      class_count = ap length has.classes ∙ joined_size d.classes g.classes.items read.classes (row_count m 0x02) stands.class_count comes.class_count;
      classes = subst (EachPart (IsClassPart m)) (sym has.classes) (each_append (IsClassPart m) d.classes g.classes.items read.classes stands.class_count stands.classes comes.classes);
      method_count = ap length has.methods ∙ count;
      methods = subst (EachPart (IsMethodPart m)) (sym has.methods) parts;
      own = λ class row p there part. own_stands m methods new.own count parts own class row p there (ap (λ ms. nth_part ms row) (sym has.methods) ∙ part);
      met = λ class row p there part. met_stands m methods new.met count parts met class row p there (ap (λ ms. nth_part ms row) (sym has.methods) ∙ part);
      own_all = subst (λ ms. AreAllOwn m ms Virtual new.own) (sym has.methods) own;
      met_all = subst (λ ms. AreAllOwn m ms Public new.met) (sym has.methods) met;
      impls = impls;
      bodies = bodies_there m new.impls sound impls;
      interfaces = λ class i.
          rule_grown (says_interface m (class_at class) i) (value_at d.interfaces (interface_key class i)) (earliest g.interfaces.items (interface_key class i)) (value_at new.interfaces (interface_key class i)) read.interfaces (row_count m 0x09) comes.counts.interfaces
          (stands.interfaces class i) (comes.interfaces class i) (has.interfaces (interface_key class i));
      links = ap length has.links ∙ joined_size d.links g.links.items read.methods (row_count m 0x06) stands.links comes.links;
      buckets = subst (AreBuckets (cells_of m) (stored_head new.heads)) (sym has.links)
          (heads_same (cells_of m) (λ key. either (latest g.heads.items (bucket_key key)) (stored_head d.heads key)) (stored_head new.heads) (d.links ++ g.links.items) (λ key. has.heads (bucket_key key)) comes.buckets);
      locals_count = ap length has.locals ∙ joined_size d.locals g.locals.items read.locals (row_count m 0x11) stands.locals_count comes.locals_count;
      locals = subst (EachPart (IsLocalsPart m)) (sym has.locals) (each_append (IsLocalsPart m) d.locals g.locals.items read.locals stands.locals_count stands.locals comes.locals);
    }

-- what is there is the same with more room
pub grown_with_room : (d : DispatchParts) (g : Growth) (room : Room) (new : DispatchParts) → HasGrown (with_room room d) g new → HasGrown d g new
grown_with_room d g room new has = record { classes = has.classes; methods = has.methods; own = has.own; met = has.met; impls = has.impls; interfaces = has.interfaces; heads = has.heads; links = has.links; locals = has.locals }

pub stands_with_room : (d : DispatchParts) (m : Module) (read : RowsRead) (room : Room) → StandsUpTo d m read → StandsUpTo (with_room room d) m read
stands_with_room d m read room s = record {
  class_count = s.class_count;
  classes = s.classes;
  method_count = s.method_count;
  methods = s.methods;
  own = s.own;
  met = s.met;
  impls = s.impls;
  interfaces = s.interfaces;
  links = s.links;
  buckets = s.buckets;
  locals_count = s.locals_count;
  locals = s.locals;
}

pub comes_with_room : (d : DispatchParts) (g : Growth) (m : Module) (read : RowsRead) (room : Room) → IsGrowth d g m read → IsGrowth (with_room room d) g m read
comes_with_room d g m read room c = record {
  counts = c.counts;
  class_count = c.class_count;
  few = c.few;
  classes = c.classes;
  method_count = c.method_count;
  methods = c.methods;
  own = c.own;
  met = c.met;
  impls = c.impls;
  interfaces = c.interfaces;
  links = c.links;
  buckets = c.buckets;
  locals_count = c.locals_count;
  locals = c.locals;
}

pub few_classes : (d : DispatchParts) (g : Growth) (m : Module) (read : RowsRead) → StandsUpTo d m read → IsGrowth d g m read → length d.classes + length g.classes.items < 2 ^ 24
few_classes d g m read s c = omega (arith, s.class_count, c.class_count, c.few)
