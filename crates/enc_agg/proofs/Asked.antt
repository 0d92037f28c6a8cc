-- A look-up of the program: where one of the deltas was found, and where none was.
use Rattle.std.proofs.Common.{◌≡◌, ℕ, true, List, [], ◌∷◌, reverse, Option, Some, None, refl, sym, ap, subst, ◌∙◌}
use Rattle.std.specs.Prelude.{IsTrue, IfSome, MatchOption, is_some, option_map}
use Rattle.enc_base.specs.declared.token.Token.{Token}
use Rattle.enc_meta.specs.Joined.{joined_text, joined_blob, joined_user, joined_guid}
use Rattle.enc_opcodes.specs.declared.code.CodeRef.{CodeRef}
use Rattle.enc_opcodes.specs.Body.{Code, code_seen, body_of, texts_are_there, KeepsTexts}
use Rattle.enc_opcodes.proofs.Bodies.{body_told_alike}
use Rattle.enc_plain.specs.Bodies.{code_loaded, body_loaded}
use Rattle.enc_delta.specs.Rules.{users_after}
use Rattle.enc_image.proofs.Rows.{body_cell}
use Rattle.enc_image.proofs.Texts.{image_texts}
use Rattle.enc_schema.specs.Schema.{column_in}
use Rattle.enc_rows.specs.Source.{Source, raw_in}
use Rattle.enc_plain.specs.Cell.{Cell, number, text, blob, guid, refer, body, field, numbers, texts, blobs, guids, references, kind_in}
use Rattle.enc_plain.specs.Module.{has_row, cell_of}
use Rattle.enc_plain.proofs.MoreTexts.{texts_more}
use Rattle.enc_image.specs.Base.{users_of, module_in}
use Rattle.enc_agg.specs.declared.added.Added.{Added}
use Rattle.enc_agg.specs.declared.added.Found.{Found}
use Rattle.enc_agg.specs.Extend.{extended, chain_with}
use Rattle.enc_agg.specs.Seen.{sources, IsAggregate, found_in, found_seen, newest_number, code_in, token_meant}
use Rattle.enc_agg.proofs.Histories.{IsFound, is_found, unfound_row, unfound_cell, base_users}
use Rattle.enc_agg.proofs.Paired.{changes_fit}
use Rattle.enc_agg.proofs.Viewing.{text_listed, blob_listed, guid_listed, number_listed, refer_listed, body_listed, field_listed, texts_listed}

none_found : (o : Option Found) (r : Option (List Added × ℕ)) → option_map found_seen o ≡ r → o ≡ None → r ≡ None
none_found o r is none = sym is ∙ ap (option_map found_seen) none

-- none was found: row and cells are the base's
pub base_row : (b : Source) (added : List Added) (u : Token) → IsAggregate b added → (o : Option Found) → option_map found_seen o ≡ found_in added u → o ≡ None → IsTrue (has_row (chain_with b (sources added)).plain u) → IsTrue (has_row (module_in b) u)
base_row b added u agg o is none there = unfound_row b added u agg.sound agg.all (none_found o _ is none) there

pub base_cell : (b : Source) (added : List Added) (u : Token) (i : ℕ) (cell : Cell) → IsAggregate b added → (o : Option Found) → option_map found_seen o ≡ found_in added u → o ≡ None → cell_of (module_in b) u i ≡ Some cell → cell_of (chain_with b (sources added)).plain u i ≡ Some cell
base_cell b added u i cell agg o is none here = unfound_cell b added u i cell agg.sound agg.all (none_found o _ is none) here

-- one was found
pub the_found : (b : Source) (added : List Added) (u : Token) → IsAggregate b added → (o : Option Found) (f : Found) → option_map found_seen o ≡ found_in added u → o ≡ Some f → IsFound b added u (reverse f.upto.now) f.row
the_found b added u agg o f is some = is_found b added u (reverse f.upto.now) f.row agg.sound agg.all (sym is ∙ ap (option_map found_seen) some)

also : {A : Type 0} (o : Option A) (P Q : A → Type 0) → ((a : A) → P a → Q a) → MatchOption o ⊥ P → MatchOption o ⊥ Q
also None P Q more h = h
also (Some a) P Q more h = more a h

pub raw_found : (b : Source) (added upto : List Added) (u : Token) (k i n : ℕ) (found : IsFound b added u upto k) → newest_number upto (record { table = u.table; row = k }) i ≡ n → raw_in found.last.delta (record { table = u.table; row = k }) i ≡ n
raw_found b added upto u k i n found is = rw found.upto_is at is

-- the cell of the newest delta's row is the module's
cell_found : (b : Source) (added upto : List Added) (u : Token) (k i : ℕ) (cell : Cell) (found : IsFound b added u upto k) → cell_of (extended (chain_with b (sources found.older)) found.last.delta).plain u i ≡ Some cell → cell_of (chain_with b (sources added)).plain u i ≡ Some cell
unfolding chain_with
cell_found b added upto u k i cell found is = found.cells i cell (rw found.upto_is is)

pub text_found : (b : Source) (added upto : List Added) (u : Token) (k i n : ℕ) → IsFound b added u upto k → kind_in u.table i ≡ Some texts → newest_number upto (record { table = u.table; row = k }) i ≡ n → MatchOption (joined_text (chain_with b (sources upto)).heaps n) ⊥ (λ a. cell_of (chain_with b (sources added)).plain u i ≡ Some (text a))
unfolding chain_with extended
text_found b added upto u k i n found kind is =
    let c = chain_with b (sources found.older) in
    rw found.upto_is (also (joined_text (chain_with b (sources (found.last ∷ found.older))).heaps n) _ _ (λ a h. cell_found b added upto u k i (text a) found h) (text_listed c found.last.delta u k i n found.is_added.follows.lands (changes_fit c found.last.delta found.sound found.is_added.follows.lands) found.place kind (raw_found b added upto u k i n found is)))

pub blob_found : (b : Source) (added upto : List Added) (u : Token) (k i n : ℕ) → IsFound b added u upto k → kind_in u.table i ≡ Some blobs → newest_number upto (record { table = u.table; row = k }) i ≡ n → MatchOption (joined_blob (chain_with b (sources upto)).heaps n) ⊥ (λ a. cell_of (chain_with b (sources added)).plain u i ≡ Some (blob a))
unfolding chain_with extended
blob_found b added upto u k i n found kind is =
    let c = chain_with b (sources found.older) in
    rw found.upto_is (also (joined_blob (chain_with b (sources (found.last ∷ found.older))).heaps n) _ _ (λ a h. cell_found b added upto u k i (blob a) found h) (blob_listed c found.last.delta u k i n found.is_added.follows.lands (changes_fit c found.last.delta found.sound found.is_added.follows.lands) found.place kind (raw_found b added upto u k i n found is)))

pub guid_found : (b : Source) (added upto : List Added) (u : Token) (k i n : ℕ) → IsFound b added u upto k → kind_in u.table i ≡ Some guids → newest_number upto (record { table = u.table; row = k }) i ≡ n → MatchOption (joined_guid (chain_with b (sources upto)).heaps n) ⊥ (λ a. cell_of (chain_with b (sources added)).plain u i ≡ Some (guid a))
unfolding chain_with extended
guid_found b added upto u k i n found kind is =
    let c = chain_with b (sources found.older) in
    rw found.upto_is (also (joined_guid (chain_with b (sources (found.last ∷ found.older))).heaps n) _ _ (λ a h. cell_found b added upto u k i (guid a) found h) (guid_listed c found.last.delta u k i n found.is_added.follows.lands (changes_fit c found.last.delta found.sound found.is_added.follows.lands) found.place kind (raw_found b added upto u k i n found is)))

pub number_found : (b : Source) (added upto : List Added) (u : Token) (k i n : ℕ) → IsFound b added u upto k → kind_in u.table i ≡ Some numbers → newest_number upto (record { table = u.table; row = k }) i ≡ n → cell_of (chain_with b (sources added)).plain u i ≡ Some (number n)
number_found b added upto u k i n found kind is =
    let c = chain_with b (sources found.older) in
    cell_found b added upto u k i (number n) found (number_listed c found.last.delta u k i n found.is_added.follows.lands (changes_fit c found.last.delta found.sound found.is_added.follows.lands) found.place kind (raw_found b added upto u k i n found is))

pub refer_found : (b : Source) (added upto : List Added) (u : Token) (k i n : ℕ) → IsFound b added u upto k → kind_in u.table i ≡ Some references
    → newest_number upto (record { table = u.table; row = k }) i ≡ n
    → MatchOption (token_meant (column_in u.table i) n) ⊥ (λ t. cell_of (chain_with b (sources added)).plain u i ≡ Some (refer t))
refer_found b added upto u k i n found kind is =
    let c = chain_with b (sources found.older) in
    also (token_meant (column_in u.table i) n) _ _ (λ t h. cell_found b added upto u k i (refer t) found h)
    (refer_listed c found.last.delta u k i n found.is_added.follows.lands (changes_fit c found.last.delta found.sound found.is_added.follows.lands)
    found.place kind (raw_found b added upto u k i n found is))

-- an optional value of which a fact is known is there
pub some_there : {A : Type 0} (o : Option A) (P : A → Type 0) → MatchOption o ⊥ P → is_some o ≡ true
some_there None P h = absurd h
some_there (Some a) P h = refl

pub known_there : {A : Type 0} (o : Option A) (P : A → Type 0) (a : A) → o ≡ Some a → MatchOption o ⊥ P → P a
known_there o P a is h = subst (λ x. MatchOption x ⊥ P) is h

mapped : {A B C : Type 0} (f : B → C) (g : A → B) (o : Option A) → option_map f (option_map g o) ≡ option_map (λ x. f (g x)) o
mapped f g None = refl
mapped f g (Some x) = refl

-- the body that parts mean is the same with more user texts, where those that it names are there
told_more : (f g : ℕ → Option (List ℕ)) (o : Option Code) → ((code : Code) → o ≡ Some code → texts_are_there f code.code ≡ true) → ((n : ℕ) (x : List ℕ) → f n ≡ Some x → g n ≡ Some x) → option_map (body_of f) o ≡ option_map (body_of g) o
told_more f g None there more = refl
told_more f g (Some code) there more = ap Some (body_told_alike f g code (there code refl) more)

-- the body by its parts
pub read_as : (f : ℕ → Option (List ℕ)) (o : Option Code) (r : Option CodeRef) → option_map code_seen r ≡ o
    → option_map (body_of f) o ≡ option_map (λ c. body_of f (code_seen c)) r
read_as f o r is = ap (option_map (body_of f)) (sym is) ∙ mapped (body_of f) code_seen r

loaded_as : (d : Source) (n : ℕ) (f g : ℕ → Option (List ℕ)) → ((code : Code) → code_loaded d.loaded n ≡ Some code → texts_are_there f code.code ≡ true) → ((o : ℕ) (x : List ℕ) → f o ≡ Some x → g o ≡ Some x) → body_loaded d.loaded f n ≡ body_loaded d.loaded g n
unfolding body_loaded
loaded_as d n f g there more = told_more f g (code_loaded d.loaded n) there more

-- the body of a method that a delta lists is the one at its place in that delta's code, by the user texts of all or by more
pub loaded_found : (b : Source) (added upto : List Added) (u : Token) (k n : ℕ) (said : ℕ → Option (List ℕ)) (found : IsFound b added u upto k)
    → KeepsTexts (joined_user (chain_with b (sources added)).heaps) said → u.table ≡ 0x06 → newest_number upto (record { table = u.table; row = k }) 0 ≡ n
    → cell_of (chain_with b (sources added)).plain u 0 ≡ Some (body (body_loaded found.last.delta.loaded said n))
loaded_found b added upto u k n said found more is told =
    let c = chain_with b (sources found.older) in
    let d = found.last.delta in
    let raw = raw_found b added upto u k 0 n found told in
    let cell = cell_found b added upto u k 0 (body (body_loaded d.loaded (users_after c d) n)) found (body_listed c d u k n (changes_fit c d found.sound found.is_added.follows.lands) found.place is raw) in
    let same : body_loaded d.loaded (users_after c d) n ≡ body_loaded d.loaded said n = loaded_as d n (users_after c d) said
    (λ code there. texts_listed c d u k n code found.is_added.follows found.place is raw there) (λ o x h. more o x (found.users o x h)) in
    cell ∙ ap (λ o. Some (body o)) same

-- by its parts
pub body_found : (b : Source) (added upto : List Added) (u : Token) (k n : ℕ) (r : Option CodeRef) (said : ℕ → Option (List ℕ)) → IsFound b added u upto k
    → KeepsTexts (joined_user (chain_with b (sources added)).heaps) said → u.table ≡ 0x06 → newest_number upto (record { table = u.table; row = k }) 0 ≡ n
    → option_map code_seen r ≡ code_in upto n → cell_of (chain_with b (sources added)).plain u 0 ≡ Some (body (option_map (λ c. body_of said (code_seen c)) r))
unfolding body_loaded
body_found b added upto u k n r said found more is told code =
    let d = found.last.delta in
    let parts : option_map code_seen r ≡ code_loaded d.loaded n = rw found.upto_is at code in
    loaded_found b added upto u k n said found more is told ∙ ap (λ o. Some (body o)) (read_as said (code_loaded d.loaded n) r parts)

-- that of one that no delta lists is the one at its place in the image
pub base_loaded : (b : Source) (added : List Added) (u : Token) (n : ℕ) (said : ℕ → Option (List ℕ)) → IsAggregate b added
    → KeepsTexts (joined_user (chain_with b (sources added)).heaps) said → (o : Option Found) → option_map found_seen o ≡ found_in added u → o ≡ None
    → IsTrue (has_row (module_in b) u) → u.table ≡ 0x06 → raw_in b u 0 ≡ n
    → cell_of (chain_with b (sources added)).plain u 0 ≡ Some (body (body_loaded b.loaded said n))
base_loaded b added u n said agg more o is none there table raw =
    let same : body_loaded b.loaded (users_of b) n ≡ body_loaded b.loaded said n = loaded_as b n (users_of b) said
    (λ code here. image_texts b u code agg.sound there table (rw (← raw) at here)) (λ o x h. more o x (base_users b added o x h)) in
    let cell : cell_of (module_in b) u 0 ≡ Some (body (body_loaded b.loaded (users_of b) n)) = rw raw at (body_cell b u there table) in
    base_cell b added u 0 (body (body_loaded b.loaded said n)) agg o is none (cell ∙ ap (λ o. Some (body o)) same)

-- by its parts
pub base_body : (b : Source) (added : List Added) (u : Token) (r : Option CodeRef) (said : ℕ → Option (List ℕ)) → IsAggregate b added
    → KeepsTexts (joined_user (chain_with b (sources added)).heaps) said → (o : Option Found) → option_map found_seen o ≡ found_in added u → o ≡ None
    → IsTrue (has_row (module_in b) u) → u.table ≡ 0x06 → option_map code_seen r ≡ code_loaded b.loaded (raw_in b u 0)
    → cell_of (chain_with b (sources added)).plain u 0 ≡ Some (body (option_map (λ c. body_of said (code_seen c)) r))
unfolding body_loaded
base_body b added u r said agg more o is none there table code =
    base_loaded b added u (raw_in b u 0) said agg more o is none there table refl
    ∙ ap (λ o. Some (body o)) (read_as said (code_loaded b.loaded (raw_in b u 0)) r code)

-- a field that a delta lists has no initial bytes
pub field_found : (b : Source) (added upto : List Added) (u : Token) (k : ℕ) → IsFound b added u upto k → u.table ≡ 0x1D → cell_of (chain_with b (sources added)).plain u 0 ≡ Some (field [])
field_found b added upto u k found is =
    let c = chain_with b (sources found.older) in
    cell_found b added upto u k 0 (field []) found (field_listed c found.last.delta u k (changes_fit c found.last.delta found.sound found.is_added.follows.lands) found.place is)

-- the user texts that bodies name are there: of one that a delta lists, and of one that none lists
pub texts_found : (b : Source) (added upto : List Added) (u : Token) (k n : ℕ) (r : Option CodeRef) → IsFound b added u upto k → u.table ≡ 0x06
    → newest_number upto (record { table = u.table; row = k }) 0 ≡ n → option_map code_seen r ≡ code_in upto n
    → IfSome r (λ (c : CodeRef). IsTrue (texts_are_there (joined_user (chain_with b (sources added)).heaps) c.code.now))
texts_found b added upto u k n None found is told code = _
texts_found b added upto u k n (Some r) found is told code =
    let c = chain_with b (sources found.older) in
    let d = found.last.delta in
    let raw = raw_found b added upto u k 0 n found told in
    let parts : option_map code_seen (Some r) ≡ code_loaded d.loaded n = rw found.upto_is at code in
    texts_more (users_after c d) (joined_user (chain_with b (sources added)).heaps) (code_seen r).code
    (texts_listed c d u k n (code_seen r) found.is_added.follows found.place is raw (sym parts)) found.users

pub base_texts : (b : Source) (added : List Added) (u : Token) (r : Option CodeRef) → IsAggregate b added → IsTrue (has_row (module_in b) u) → u.table ≡ 0x06
    → option_map code_seen r ≡ code_loaded b.loaded (raw_in b u 0)
    → IfSome r (λ (c : CodeRef). IsTrue (texts_are_there (joined_user (chain_with b (sources added)).heaps) c.code.now))
base_texts b added u None agg there table code = _
base_texts b added u (Some r) agg there table code =
    texts_more (users_of b) (joined_user (chain_with b (sources added)).heaps) (code_seen r).code
    (image_texts b u (code_seen r) agg.sound there table (sym code)) (base_users b added)
