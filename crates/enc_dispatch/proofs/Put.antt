-- Values that are put into an index, the first of each key.
use Rattle.std.proofs.Common.{◌≡◌, ℕ, zero, suc, ◌+◌, Bool, true, false, List, [], ◌∷◌, ◌++◌, Option, Some, None, is_some, refl, sym, ap, ◌∙◌, arith}
use Rattle.std.specs.Prelude.{◌&&◌, ◌==◌, if◌then◌else◌}
use Rattle.std.proofs.lemmas.Bool.{and_parts, ne_eqb, eq-eqb, eqb-true}
use Rattle.enc_base.specs.Order.{or_else, first_below}
use Rattle.enc_base.specs.Token.{nth_row, is_token}
use Rattle.enc_base.specs.declared.token.Token.{Token}
use Rattle.enc_base.proofs.First.{first_none, first_suc}
use Rattle.enc_key_map.specs.declared.index.Index.{Index}
use Rattle.enc_key_map.specs.declared.index.KeyEntry.{KeyEntry}
use Rattle.enc_key_map.specs.declared.key.Key.{Key}
use Rattle.enc_key_map.specs.Key.{is_key}
use Rattle.enc_key_map.specs.Index.{value_at, either, latest_one, entry_key, value_of}
use Rattle.enc_plain.specs.Module.{Module, cells_of}
use Rattle.enc_plain.specs.Rows.{token_at}
use Rattle.enc_plain.proofs.Applied.{same_is}
use Rattle.enc_base.specs.Tables as tables
use Rattle.enc_dispatch.specs.declared.impl_part.ImplPart.{ImplPart}
use Rattle.enc_dispatch.specs.Columns.{interface_impl_class, interface_impl_interface}
use Rattle.enc_dispatch.specs.Entries.{earliest, where_none}
use Rattle.enc_dispatch.specs.Growth.{later_answer}
use Rattle.enc_dispatch.specs.Interfaces.{says_interface}
use Rattle.enc_dispatch.specs.Walks.{impl_class, impl_body, impl_declaration}
use Rattle.enc_dispatch.specs.Stored.{class_at, impl_key, interface_key, impl_for}

same_parts : (t r p u s q : ℕ) → t ≡ u → r ≡ s → p ≡ q → ◌≡◌ {A = Key} (record { table = t; row = r; place = p }) (record { table = u; row = s; place = q })
same_parts t r p u s q e f h = rw (e, f, h) refl

pub key_is : (a b : Key) → is_key a b ≡ true → a ≡ b
key_is a b h =
    let p = and_parts (a.table == b.table && a.row == b.row) (a.place == b.place) h in
    let q = and_parts (a.table == b.table) (a.row == b.row) p.0 in
    same_parts a.table a.row a.place b.table b.row b.place (eqb-true a.table b.table q.0) (eqb-true a.row b.row q.1) (eqb-true a.place b.place p.1)

pub or_none : {A : Type 0} (o : Option A) → or_else o None ≡ o
or_none None = refl
or_none (Some x) = refl

none_is : {A : Type 0} (o : Option A) → is_some o ≡ false → o ≡ None
none_is None h = refl
none_is (Some x) h = absurd cc

unless_some : {A : Type 0} (o new : Option A) → is_some o ≡ true → where_none o new ≡ None
unless_some None new h = absurd cc
unless_some (Some x) new h = refl

pub unless_none : {A : Type 0} (o : Option A) → where_none o None ≡ None
unless_none None = refl
unless_none (Some x) = refl

pub unless_or : {A : Type 0} (o a b : Option A) → or_else (where_none o a) (where_none o b) ≡ where_none o (or_else a b)
unless_or None a b = refl
unless_or (Some x) a b = refl

-- what is put in where nothing was
pub put_over : {A : Type 0} (o new : Option A) → either (where_none o new) o ≡ or_else o new
put_over None None = refl
put_over None (Some x) = refl
put_over (Some x) new = refl

pub or_or : {A : Type 0} (a b c : Option A) → or_else (or_else a b) c ≡ or_else a (or_else b c)
or_or None b c = refl
or_or (Some x) b c = refl

pub earliest_push : {P : Type 0} (entries : List (KeyEntry P)) (e : KeyEntry P) (q : Key) → earliest (entries ++ e ∷ []) q ≡ or_else (earliest entries q) (latest_one e q)
earliest_push [] e q = or_none (latest_one e q)
earliest_push (f ∷ fs) e q = ap (or_else (latest_one f q)) (earliest_push fs e q) ∙ sym (or_or (latest_one f q) (earliest fs q) (latest_one e q))

pub push_kept : {P : Type 0} (index : Index P) (key q : Key) (v : P) (old : Option P) → is_some (value_at index key) ≡ true → old ≡ or_else old (where_none (value_at index q) (if is_key key q then Some v else None))
push_kept index key q v old h = by_key (is_key key q) refl
  where
    by_key : (b : Bool) → is_key key q ≡ b → old ≡ or_else old (where_none (value_at index q) (if b then Some v else None))
    by_key true e = sym (ap (or_else old) (unless_some (value_at index q) (Some v) (ap (λ k. is_some (value_at index k)) (sym (key_is key q e)) ∙ h)) ∙ or_none old)
    by_key false e = sym (ap (or_else old) (unless_none (value_at index q)) ∙ or_none old)

new_one : {P : Type 0} (index : Index P) (key q : Key) (v : P) (e : KeyEntry P) → is_some (value_at index key) ≡ false → entry_key e ≡ key → value_of e ≡ v → latest_one e q ≡ where_none (value_at index q) (if is_key key q then Some v else None)
new_one index key q v e h ek ev = ap (λ k. if is_key k q then Some (value_of e) else None) ek ∙ ap (λ x. if is_key key q then Some x else None) ev ∙ by_key (is_key key q) refl
  where
    by_key : (b : Bool) → is_key key q ≡ b → (if b then Some v else None) ≡ where_none (value_at index q) (if b then Some v else None)
    by_key true f = let none : value_at index q ≡ None = ap (value_at index) (sym (key_is key q f)) ∙ none_is (value_at index key) h in rw none refl
    by_key false f = sym (unless_none (value_at index q))

pub push_new : {P : Type 0} (index : Index P) (key q : Key) (v : P) (e : KeyEntry P) (old new : List (KeyEntry P)) → is_some (value_at index key) ≡ false → entry_key e ≡ key → value_of e ≡ v → new ≡ old ++ e ∷ [] → earliest new q ≡ or_else (earliest old q) (where_none (value_at index q) (if is_key key q then Some v else None))
push_new index key q v e old new h ek ev is = ap (λ es. earliest es q) is ∙ earliest_push old e q ∙ ap (or_else (earliest old q)) (new_one index key q v e h ek ev)

over_or : {A : Type 0} (a b old : Option A) → either (or_else a b) old ≡ either a (either b old)
over_or None b old = refl
over_or (Some x) b old = refl

-- an entry put in before those that come earlier
pub put_before : {P : Type 0} (entries rest : List (KeyEntry P)) (e : KeyEntry P) (old : Option P) (q : Key) → entries ≡ rest ++ e ∷ [] → either (earliest entries q) old ≡ either (earliest rest q) (either (latest_one e q) old)
put_before entries rest e old q is = ap (λ es. either (earliest es q) old) is ∙ ap (λ o. either o old) (earliest_push rest e q) ∙ over_or (earliest rest q) (latest_one e q) old

-- one place more of a rule behind a number
later_more : {A : Type 0} (rule : ℕ → Option A) (read k : ℕ) → later_answer rule read (k + 1) ≡ or_else (later_answer rule read k) (rule (read + k))
later_more rule read k = let e : k + 1 ≡ suc k = omega arith in rw e (first_suc (λ j. rule (read + j)) k)

pub later_one_more : {A : Type 0} (rule : ℕ → Option A) (read k : ℕ) (there old new : Option A) → old ≡ where_none there (later_answer rule read k) → new ≡ or_else old (where_none there (rule (read + k))) → new ≡ where_none there (later_answer rule read (k + 1))
later_one_more rule read k there old new was is =
    is
    ∙ ap (λ o. or_else o (where_none there (rule (read + k)))) was
    ∙ unless_or there (later_answer rule read k) (rule (read + k))
    ∙ ap (where_none there) (sym (later_more rule read k))

pub later_none : {A : Type 0} (rule : ℕ → Option A) (read : ℕ) (there : Option A) → None ≡ where_none there (later_answer rule read 0)
later_none rule read there = sym (ap (where_none there) (first_none (λ j. rule (read + j))) ∙ unless_none there)

-- the answers up to a number, and behind it
pub up_to : {A : Type 0} (rule : ℕ → Option A) (read more : ℕ) → or_else (first_below rule read) (later_answer rule read more) ≡ first_below rule (read + more)
up_to rule read zero = let e : read + 0 ≡ read = omega arith in ap (or_else (first_below rule read)) (first_none (λ j. rule (read + j))) ∙ or_none (first_below rule read) ∙ ap (first_below rule) (sym e)
up_to rule read (suc k) =
    let e : read + suc k ≡ suc (read + k) = omega arith in
    ap (or_else (first_below rule read)) (first_suc (λ j. rule (read + j)) k)
    ∙ sym (or_or (first_below rule read) (later_answer rule read k) (rule (read + k)))
    ∙ ap (λ o. or_else o (rule (read + k))) (up_to rule read k)
    ∙ sym (ap (first_below rule) e ∙ first_suc rule (read + k))

-- rows of MethodImpl
abbrev part_by : Bool → ImplPart → Option ImplPart
part_by b p = if b then Some p else None

none_by : (p r q s t : Bool) (part : ImplPart) → (p && q && s) ≡ false → part_by ((p && r) && q && (s && t)) part ≡ None
none_by false r q s t part h = refl
none_by true false q s t part h = refl
none_by true true false s t part h = refl
none_by true true true false t part h = refl
none_by true true true true t part h = absurd cc

pub impl_other : (m : Module) (n : ℕ) (c b d : Token) (there old : Key → Option ImplPart) → c ≡ impl_class m n → b ≡ impl_body m n → d ≡ impl_declaration m n → (c.table == 0x02 && b.table == 0x06 && d.table == 0x06) ≡ false
    → (class declaration : ℕ) → old (impl_key class declaration) ≡ or_else (old (impl_key class declaration)) (where_none (there (impl_key class declaration)) (impl_for m class declaration n))
unfolding impl_for
impl_other m n c b d there old ec eb ed h class declaration =
    rw (← ec, ← eb, ← ed, none_by (c.table == 0x02) (c.row == class) (b.table == 0x06) (d.table == 0x06) (d.row == declaration) (record { number = n; body = b.row }) h)
    (sym (ap (or_else (old (impl_key class declaration))) (unless_none (there (impl_key class declaration))) ∙ or_none (old (impl_key class declaration))))

some_by : (p r q s t : Bool) (part : ImplPart) → (p && q && s) ≡ true → part_by (r && t) part ≡ part_by ((p && r) && q && (s && t)) part
some_by false r q s t part h = absurd cc
some_by true r false s t part h = absurd cc
some_by true r true false t part h = absurd cc
some_by true false true true t part h = refl
some_by true true true true t part h = refl

impl_here : (m : Module) (class declaration n : ℕ) (c b d : Token) → c ≡ impl_class m n → b ≡ impl_body m n → d ≡ impl_declaration m n → (c.table == 0x02 && b.table == 0x06 && d.table == 0x06) ≡ true → part_by (is_key (impl_key c.row d.row) (impl_key class declaration)) (record { number = n; body = b.row }) ≡ impl_for m class declaration n
unfolding impl_for
impl_here m class declaration n c b d ec eb ed h =
    rw (← ec, ← eb, ← ed) (some_by (c.table == 0x02) (c.row == class) (b.table == 0x06) (d.table == 0x06) (d.row == declaration) (record { number = n; body = b.row }) h)

pub impl_put : (m : Module) (n : ℕ) (c b d : Token) (key : Key) (there old new : Key → Option ImplPart) → key ≡ impl_key c.row d.row → c ≡ impl_class m n → b ≡ impl_body m n → d ≡ impl_declaration m n → (c.table == 0x02 && b.table == 0x06 && d.table == 0x06) ≡ true
    → ((q : Key) → new q ≡ or_else (old q) (where_none (there q) (part_by (is_key key q) (record { number = n; body = b.row }))))
    → (class declaration : ℕ) → new (impl_key class declaration) ≡ or_else (old (impl_key class declaration)) (where_none (there (impl_key class declaration)) (impl_for m class declaration n))
impl_put m n c b d key there old new ek ec eb ed h put class declaration =
    put (impl_key class declaration)
    ∙ ap (λ k. or_else (old (impl_key class declaration)) (where_none (there (impl_key class declaration)) (part_by (is_key k (impl_key class declaration)) (record { number = n; body = b.row })))) ek
    ∙ ap (λ o. or_else (old (impl_key class declaration)) (where_none (there (impl_key class declaration)) o)) (impl_here m class declaration n c b d ec eb ed h)

-- rows of InterfaceImpl
abbrev token_by : Bool → Token → Option Token
token_by b t = if b then Some t else None

pub interface_other : (m : Module) (n : ℕ) (c : Token) (there old : Key → Option Token) → c ≡ token_at (cells_of m) (nth_row tables.interface_impl n) interface_impl_class → ¬ (c.table ≡ 0x02)
    → (class : ℕ) (i : Token) → old (interface_key class i) ≡ or_else (old (interface_key class i)) (where_none (there (interface_key class i)) (says_interface m (class_at class) i n))
unfolding says_interface
interface_other m n c there old ec h class i =
    let test : (c.table == 0x02) ≡ false = ne_eqb c.table 0x02 h in
    rw (← ec, test) (sym (ap (or_else (old (interface_key class i))) (unless_none (there (interface_key class i))) ∙ or_none (old (interface_key class i))))

token_of : (t i : Token) → is_token t i ≡ true → t ≡ i
token_of t i h = same_is t i h

told_by : (t i : Token) (p r a b : Bool) → p ≡ true → (t.table == i.table) ≡ a → (t.row == i.row) ≡ b → token_by (a && r && b) t ≡ token_by ((p && r) && (a && b)) i
told_by t i p true true true h x y = rw h (ap (λ u. Some u) (token_of t i (rw (x, y) refl)))
told_by t i p true true false h x y = rw h refl
told_by t i p true false b h x y = rw h refl
told_by t i p false true b h x y = rw h refl
told_by t i p false false b h x y = rw h refl

interface_here : (m : Module) (class n : ℕ) (i c t : Token) → c ≡ token_at (cells_of m) (nth_row tables.interface_impl n) interface_impl_class → t ≡ token_at (cells_of m) (nth_row tables.interface_impl n) interface_impl_interface → (c.table == 0x02) ≡ true → token_by (is_key (interface_key c.row t) (interface_key class i)) t ≡ says_interface m (class_at class) i n
unfolding says_interface
interface_here m class n i c t ec et h = rw (← ec, ← et) (told_by t i (c.table == 0x02) (c.row == class) (t.table == i.table) (t.row == i.row) h refl refl)

pub interface_put : (m : Module) (n : ℕ) (c t : Token) (key : Key) (there old new : Key → Option Token) → key ≡ interface_key c.row t → c ≡ token_at (cells_of m) (nth_row tables.interface_impl n) interface_impl_class → t ≡ token_at (cells_of m) (nth_row tables.interface_impl n) interface_impl_interface → c.table ≡ 0x02
    → ((q : Key) → new q ≡ or_else (old q) (where_none (there q) (token_by (is_key key q) t)))
    → (class : ℕ) (i : Token) → new (interface_key class i) ≡ or_else (old (interface_key class i)) (where_none (there (interface_key class i)) (says_interface m (class_at class) i n))
interface_put m n c t key there old new ek ec et h put class i =
    put (interface_key class i)
    ∙ ap (λ k. or_else (old (interface_key class i)) (where_none (there (interface_key class i)) (token_by (is_key k (interface_key class i)) t))) ek
    ∙ ap (λ o. or_else (old (interface_key class i)) (where_none (there (interface_key class i)) o)) (interface_here m class n i c t ec et (eq-eqb c.table 0x02 h))
