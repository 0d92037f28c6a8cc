-- The bodies that are held say those of the module that is lent with their tokens moved.
use Rattle.std.proofs.Common.{◌≡◌, ℕ, ◌+◌, ◌<◌, ◌≤◌, true, List, [], ◌∷◌, ◌++◌, length, Option, Some, None, sym, ap, subst, ◌∙◌, arith}
use Rattle.std.specs.Prelude.{option_map}
use Rattle.std.specs.BTreeMap.{BTreeMap, get, Updates}
use Rattle.std.specs.Ordering.{nat_cmp}
use Rattle.enc_base.specs.Token.{nth_row}
use Rattle.enc_base.specs.declared.token.Token.{Token}
use Rattle.enc_token_map.specs.Body.{body_moved, MeansMoved}
use Rattle.enc_token_map.specs.Held.{Held, held_code}
use Rattle.enc_opcodes.specs.Body.{Code, Body, code_seen, body_of, texts_are_there}
use Rattle.enc_opcodes.specs.declared.code.CodeRef.{CodeRef}
use Rattle.enc_plain.specs.Cell.{Cell, body}
use Rattle.enc_plain.specs.Module.{Module, has_row, cell_of}
use Rattle.enc_plain.specs.Sound.{IsSound, row_count}
use Rattle.enc_compact.specs.Held.{number_in_slots, held_by, HeldSays, SlotHolds, CellHolds, AreHeldUpto, AreBodiesHeld, AreSlotsKnown}
use Rattle.enc_compact.specs.Mover.{moved_low}
use Rattle.enc_row_order.specs.Orders.{Orders, moved_by, new_order, new_of}
use Rattle.enc_compact.proofs.HeldKept.{rows_of, row_slot, held_still, low_still, last_held, last_low, one_known, one_slot}
use Rattle.enc_compact.proofs.MovesLow.{same_low}
use Rattle.enc_compact.proofs.NewOrder.{new_order_are}

-- what the parts of a body with its tokens moved say
code_says : (f : Token → Token) (texts : ℕ → Option (List ℕ)) (c : Code) (o : Option Held) → texts_are_there texts c.code ≡ true
    → MeansMoved f c (held_code o c (f c.locals)) → HeldSays f texts (body_of texts c) o
unfolding body_of
code_says f texts c None there means = means.means texts
code_says f texts c (Some h) there means = record { means = means.means texts; there = means.texts texts ∙ there }

same_body : (cell : Option Cell) (o : Option Body) (b : Body) → cell ≡ Some (body o) → cell ≡ Some (body (Some b)) → o ≡ Some b
same_body cell o b e f = let same : Some (body o) ≡ Some (body (Some b)) = sym e ∙ f in cc

some_body : (x b : Body) → Some x ≡ Some b → x ≡ b
some_body x b e = cc

-- the body that a view tells
pub code_at : (cell : Option Cell) (texts : ℕ → Option (List ℕ)) (o : Option CodeRef) (c : CodeRef)
    → cell ≡ Some (body (option_map (λ (r : CodeRef). body_of texts (code_seen r)) o)) → o ≡ Some c → cell ≡ Some (body (Some (body_of texts (code_seen c))))
code_at cell texts o c e some = e ∙ ap (λ (x : Option CodeRef). Some (body (option_map (λ (r : CodeRef). body_of texts (code_seen r)) x))) some

pub held_says : (m : Module) (orders : Orders) (texts : ℕ → Option (List ℕ)) (cell : Option Cell) (c : Code) (o : Option Held) (b : Body) → IsSound m
    → orders ≡ new_order m → texts_are_there texts c.code ≡ true → MeansMoved (moved_low orders) c (held_code o c (moved_low orders c.locals))
    → cell ≡ Some (body (Some (body_of texts c))) → cell ≡ Some (body (Some b)) → HeldSays (moved_by (new_order m)) texts b o
held_says m orders texts cell c o b sound is there means at other =
    let f : Token → Token = moved_by (new_order m) in
    let low : moved_low orders ≡ f = ap moved_low is ∙ same_low m (new_order m) (new_order_are m sound) sound.counts in
    let same : body_of texts c ≡ b = some_body (body_of texts c) b (same_body cell (Some (body_of texts c)) b at other) in
    subst (λ x. HeldSays f texts x o) same (code_says f texts c o there (subst (λ (g : Token → Token). MeansMoved g c (held_code o c (g c.locals))) low means))

-- so the number of what isn't held, and of what is held last, tells it
pub none_holds : (f : Token → Token) (texts : ℕ → Option (List ℕ)) (held : List Held) (b : Body) (o : Option Held) → o ≡ None → HeldSays f texts b o
    → SlotHolds f texts held b 0
none_holds f texts held b o none says = record { low = omega arith; says = subst (HeldSays f texts b) none says }

pub last_holds : (f : Token → Token) (texts : ℕ → Option (List ℕ)) (held new : List Held) (b : Body) (h : Held) (o : Option Held) (slot : ℕ) → o ≡ Some h
    → new ≡ held ++ h ∷ [] → slot ≡ length new → HeldSays f texts b o → SlotHolds f texts new b slot
last_holds f texts held new b h o slot some grown many says =
    record { low = last_low new slot many; says = subst (HeldSays f texts b) (some ∙ sym (last_held held new h slot grown many)) says }

-- and still does when more is held
pub holds_still : (f : Token → Token) (texts : ℕ → Option (List ℕ)) (held new more : List Held) (b : Body) (slot : ℕ) → new ≡ held ++ more
    → SlotHolds f texts held b slot → SlotHolds f texts new b slot
holds_still f texts held new more b slot grown holds = subst (λ xs. SlotHolds f texts xs b slot) (sym grown) (record {
  low = low_still held more slot holds.low;
  says = subst (HeldSays f texts b) (sym (held_still held more slot holds.low)) holds.says;
})

pub place_holds : (places : ℕ → Option Body) (f : Token → Token) (texts : ℕ → Option (List ℕ)) (held : List Held) (known : BTreeMap ℕ ℕ) (cell : Option Cell)
    (place slot : ℕ)
    → AreSlotsKnown places (SlotHolds f texts held) known → Some slot ≡ get nat_cmp known place → cell ≡ Some (body (places place))
    → CellHolds f texts held cell slot
place_holds places f texts held known cell place slot all found at b e = all place slot b (sym found) (same_body cell (places place) b at e)

pub place_known : (places : ℕ → Option Body) (f : Token → Token) (texts : ℕ → Option (List ℕ)) (held new more : List Held) (before after : BTreeMap ℕ ℕ)
    (cell : Option Cell) (place slot : ℕ)
    → AreSlotsKnown places (SlotHolds f texts held) before → new ≡ held ++ more → cell ≡ Some (body (places place)) → CellHolds f texts new cell slot
    → Updates nat_cmp before after place (Some slot) → AreSlotsKnown places (SlotHolds f texts new) after
place_known places f texts held new more before after cell place slot all grown at holds updates =
    one_known places (SlotHolds f texts held) (SlotHolds f texts new) before after place slot all (λ b n h. holds_still f texts held new more b n grown h)
    (λ b e. holds b (at ∙ ap (λ (o : Option Body). Some (body o)) e)) updates

-- one more method
pub method_holds : (m : Module) (f : Token → Token) (texts : ℕ → Option (List ℕ)) (held new more : List Held) (slots after : List ℕ) (n slot : ℕ)
    → AreHeldUpto m f texts held slots n → new ≡ held ++ more → CellHolds f texts new (cell_of m (nth_row 0x06 n) 0) slot → after ≡ slots ++ slot ∷ []
    → AreHeldUpto m f texts new after (n + 1)
method_holds m f texts held new more slots after n slot all grown holds pushed =
    one_slot (λ k i. CellHolds f texts held (cell_of m (nth_row 0x06 k) 0) i) (λ k i. CellHolds f texts new (cell_of m
    (nth_row 0x06 k) 0) i) slots after n slot all
    (λ k i h b e. holds_still f texts held new more b i grown (h b e)) holds pushed

-- what is held of a row's body says it
pub row_holds : (m : Module) (f : Token → Token) (texts : ℕ → Option (List ℕ)) (held : List Held) (slots : List ℕ) (row : ℕ) (b : Body)
    → AreBodiesHeld m f texts held slots → 0 < row → row ≤ row_count m 0x06 → cell_of m (record { table = 0x06; row = row }) 0 ≡ Some (body (Some b))
    → SlotHolds f texts held b (number_in_slots slots row)
row_holds m f texts held slots row b all some low at =
    let w = row_slot slots (row_count m 0x06) row all.count some low in
    all.each w.0 (number_in_slots slots row) w.2 b (ap (λ k. cell_of m (record { table = 0x06; row = k }) 0) (sym w.1) ∙ at)

-- so the parts with what is held mean the body with its tokens moved, and name texts that are there
pub said_means : (f : Token → Token) (texts : ℕ → Option (List ℕ)) (c : Code) (o : Option Held) → HeldSays f texts (body_of texts c) o
    → body_of texts (held_code o c (f c.locals)) ≡ body_moved f (body_of texts c)
unfolding body_of
said_means f texts c None says = says
said_means f texts c (Some h) says = says.means

pub said_there : (f : Token → Token) (texts : ℕ → Option (List ℕ)) (c : Code) (b : Body) (o : Option Held) (locals : Token) → HeldSays f texts b o
    → texts_are_there texts c.code ≡ true → texts_are_there texts (held_code o c locals).code ≡ true
said_there f texts c b None locals says there = there
said_there f texts c b (Some h) locals says there = says.there

-- so a moved module's body is what its own view says
pub code_moved : (m : Module) (texts : ℕ → Option (List ℕ)) (held : List Held) (slots : List ℕ) (u : Token) (code : CodeRef) (o : Option CodeRef)
    (locals : Token) (new : Code)
    → AreBodiesHeld m (new_of m) texts held slots → has_row m u ≡ true → u.table ≡ 0x06
    → cell_of m u 0 ≡ Some (body (option_map (λ (r : CodeRef). body_of texts (code_seen r)) o)) → o ≡ Some code → locals ≡ new_of m code.locals
    → new ≡ held_code (held_by held (number_in_slots slots u.row)) (code_seen code) locals → body_of texts new ≡ body_moved (new_of m) (body_of texts (code_seen code))
code_moved m texts held slots u code o locals new all there table cell some moved is =
    let b : Body = body_of texts (code_seen code) in
    let p = rows_of m u there in
    let at : cell_of m (record { table = 0x06; row = u.row }) 0 ≡ Some (body (Some b)) =
    ap (λ t. cell_of m (record { table = t; row = u.row }) 0) (sym table) ∙ code_at (cell_of m u 0) texts o code cell some in
    let holds = row_holds m (new_of m) texts held slots u.row b all p.0 (subst (λ t. u.row ≤ row_count m t) table p.1) at in
    ap (body_of texts) (is ∙ ap (λ (t : Token). held_code (held_by held (number_in_slots slots u.row)) (code_seen code) t) moved)
    ∙ said_means (new_of m) texts (code_seen code) (held_by held (number_in_slots slots u.row)) holds.says

pub code_there : (m : Module) (texts : ℕ → Option (List ℕ)) (held : List Held) (slots : List ℕ) (u : Token) (code : CodeRef) (o : Option CodeRef)
    (locals : Token) (new : Code)
    → AreBodiesHeld m (new_of m) texts held slots → has_row m u ≡ true → u.table ≡ 0x06
    → cell_of m u 0 ≡ Some (body (option_map (λ (r : CodeRef). body_of texts (code_seen r)) o)) → o ≡ Some code → texts_are_there texts code.code.now ≡ true
    → new ≡ held_code (held_by held (number_in_slots slots u.row)) (code_seen code) locals → texts_are_there texts new.code ≡ true
code_there m texts held slots u code o locals new all there table cell some names is =
    let b : Body = body_of texts (code_seen code) in
    let p = rows_of m u there in
    let at : cell_of m (record { table = 0x06; row = u.row }) 0 ≡ Some (body (Some b)) =
    ap (λ t. cell_of m (record { table = t; row = u.row }) 0) (sym table) ∙ code_at (cell_of m u 0) texts o code cell some in
    let holds = row_holds m (new_of m) texts held slots u.row b all p.0 (subst (λ t. u.row ≤ row_count m t) table p.1) at in
    ap (λ (c : Code). texts_are_there texts c.code) is
    ∙ said_there (new_of m) texts (code_seen code) b (held_by held (number_in_slots slots u.row)) locals holds.says names
