-- Keys and names that are learnt: none, one more.
use Rattle.std.proofs.Common.{◌≡◌, ℕ, ◌+◌, ◌*◌, ◌^◌, Bool, true, false, List, Option, Some, None, refl, sym, ap, ◌∙◌}
use Rattle.std.specs.Prelude.{◌&&◌, ◌==◌, if◌then◌else◌, unwrap_or}
use Rattle.std.proofs.lemmas.Bool.{eqb-true}
use Rattle.enc_base.specs.declared.token.Token.{Token}
use Rattle.enc_key_map.specs.declared.index.Index.{Index}
use Rattle.enc_key_map.specs.declared.index.KeyEntry.{KeyEntry}
use Rattle.enc_key_map.specs.declared.key.Key.{Key}
use Rattle.enc_key_map.specs.Key.{is_key}
use Rattle.enc_key_map.specs.Index.{value_at, entry_key, value_of, latest_one, either}
use Rattle.enc_sigs.specs.declared.mix.Mix.{Mix}
use Rattle.enc_sigs.proofs.Shared.{both_left, both_right}
use Rattle.enc_plain.specs.Rows.{Rows}
use Rattle.enc_plain.specs.Keys.{near, spec_shape, key_of, signature_key, AreMixes, AreKeys, AreScopesNear, AreOfBlobs, AreSignatureKeys, AreSpecShapes}
use Rattle.enc_plain.specs.declared.near.Near.{Near}

none_given : (mix : Token → Mix) (index : Index Mix) → ((q : Key) → value_at index q ≡ None) → AreMixes mix index
none_given mix index none q k e = absurd_none (sym (none q) ∙ e)
  where
    absurd_none : None ≡ Some k → k ≡ mix (record { table = q.table; row = q.row })
    absurd_none e = absurd cc

by_test : (mix : Token → Mix) (q key : Key) (v k : Mix) (old : Option Mix) (t : Bool) → is_key key q ≡ t → v ≡ mix (record { table = key.table; row = key.row }) → (old ≡ Some k → k ≡ mix (record { table = q.table; row = q.row })) → either (if t then Some v else None) old ≡ Some k → k ≡ mix (record { table = q.table; row = q.row })
by_test mix q key v k old false is here there e = there e
by_test mix q key v k old true is here there e =
    let with_table : ℕ → Token = λ n. record { table = n; row = key.row } in
    let with_row : ℕ → Token = λ n. record { table = q.table; row = n } in
    let both = both_left (key.table == q.table && key.row == q.row) (key.place == q.place) is in
    let table = eqb-true key.table q.table (both_left (key.table == q.table) (key.row == q.row) both) in
    let row = eqb-true key.row q.row (both_right (key.table == q.table) (key.row == q.row) both) in
    sym (ap (λ (o : Option Mix). unwrap_or o v) e) ∙ here ∙ ap mix (ap with_table table ∙ ap with_row row)

more_given : (mix : Token → Mix) (old new : Index Mix) (e : KeyEntry Mix) (t : Token) (v : Mix) → AreMixes mix old → v ≡ mix t → entry_key e ≡ record { table = t.table; row = t.row; place = 0 } → value_of e ≡ v → ((q : Key) → value_at new q ≡ either (latest_one e q) (value_at old q)) → AreMixes mix new
more_given mix old new e t v kept key place value puts q k is =
    let here : value_of e ≡ mix (record { table = (entry_key e).table; row = (entry_key e).row }) = value ∙ key ∙ sym (ap (λ (p : Key). mix (record { table = p.table; row = p.row })) place) in
    by_test mix q (entry_key e) (value_of e) k (value_at old q) (is_key (entry_key e) q) refl here (kept q k) (sym (puts q) ∙ is)

pub none_learnt : (rows : Rows) (index : Index Mix) → ((q : Key) → value_at index q ≡ None) → AreKeys rows index
none_learnt rows index none = none_given (key_of rows) index none

pub more_learnt : (rows : Rows) (old new : Index Mix) (e : KeyEntry Mix) (t : Token) (v : Mix) → AreKeys rows old → v ≡ key_of rows t → entry_key e ≡ record { table = t.table; row = t.row; place = 0 } → value_of e ≡ v → ((q : Key) → value_at new q ≡ either (latest_one e q) (value_at old q)) → AreKeys rows new
more_learnt rows old new e t v kept key place value puts = more_given (key_of rows) old new e t v kept key place value puts

pub none_near : (rows : Rows) (index : Index Near) → ((q : Key) → value_at index q ≡ None) → AreScopesNear rows index
none_near rows index none q k e = absurd_none (sym (none q) ∙ e)
  where
    absurd_none : None ≡ Some k → k ≡ near rows q.place (record { table = q.table; row = q.row })
    absurd_none e = absurd cc

near_test : (rows : Rows) (q key : Key) (v k : Near) (old : Option Near) (t : Bool) → is_key key q ≡ t → v ≡ near rows key.place (record { table = key.table; row = key.row }) → (old ≡ Some k → k ≡ near rows q.place (record { table = q.table; row = q.row })) → either (if t then Some v else None) old ≡ Some k → k ≡ near rows q.place (record { table = q.table; row = q.row })
near_test rows q key v k old false is here there e = there e
near_test rows q key v k old true is here there e =
    let both = both_left (key.table == q.table && key.row == q.row) (key.place == q.place) is in
    let table = eqb-true key.table q.table (both_left (key.table == q.table) (key.row == q.row) both) in
    let row = eqb-true key.row q.row (both_right (key.table == q.table) (key.row == q.row) both) in
    let place = eqb-true key.place q.place (both_right (key.table == q.table && key.row == q.row) (key.place == q.place) is) in
    let one : near rows key.place (record { table = key.table; row = key.row }) ≡ near rows q.place (record { table = q.table; row = q.row }) = rw (table, row, place) refl in
    sym (ap (λ (o : Option Near). unwrap_or o v) e) ∙ here ∙ one

pub more_near : (rows : Rows) (old new : Index Near) (e : KeyEntry Near) (level : ℕ) (t : Token) (v : Near) → AreScopesNear rows old → v ≡ near rows level t → entry_key e ≡ record { table = t.table; row = t.row; place = level } → value_of e ≡ v → ((q : Key) → value_at new q ≡ either (latest_one e q) (value_at old q)) → AreScopesNear rows new
more_near rows old new e level t v kept key place value puts q k is =
    let here : value_of e ≡ near rows (entry_key e).place (record { table = (entry_key e).table; row = (entry_key e).row }) = value ∙ key ∙ sym (ap (λ (p : Key). near rows p.place (record { table = p.table; row = p.row })) place) in
    near_test rows q (entry_key e) (value_of e) k (value_at old q) (is_key (entry_key e) q) refl here (kept q k) (sym (puts q) ∙ is)

none_placed : {K : Type 0} (key : ℕ → List ℕ → K) (stored : ℕ → Option (List ℕ)) (index : Index K) → ((q : Key) → value_at index q ≡ None) → AreOfBlobs key stored index
none_placed key stored index none q k blob e there = absurd_none (sym (none q) ∙ e)
  where
    absurd_none : None ≡ Some k → k ≡ key q.table blob
    absurd_none e = absurd cc

same_blob : (a b : List ℕ) → Some a ≡ Some b → a ≡ b
same_blob a b e = ap (λ (o : Option (List ℕ)). unwrap_or o a) e

place_test : {K : Type 0} (of : ℕ → List ℕ → K) (stored : ℕ → Option (List ℕ)) (q key : Key) (here blob : List ℕ) (v k : K) (old : Option K) (t : Bool) → is_key key q ≡ t → stored (key.place * 2 ^ 32 + key.row) ≡ Some here → v ≡ of key.table here → stored (q.place * 2 ^ 32 + q.row) ≡ Some blob → (old ≡ Some k → k ≡ of q.table blob) → either (if t then Some v else None) old ≡ Some k → k ≡ of q.table blob
place_test of stored q key here blob v k old false is stands v_is there rest e = rest e
place_test {K} of stored q key here blob v k old true is stands v_is there rest e =
    let both = both_left (key.table == q.table && key.row == q.row) (key.place == q.place) is in
    let table = eqb-true key.table q.table (both_left (key.table == q.table) (key.row == q.row) both) in
    let row = eqb-true key.row q.row (both_right (key.table == q.table) (key.row == q.row) both) in
    let place = eqb-true key.place q.place (both_right (key.table == q.table && key.row == q.row) (key.place == q.place) is) in
    let one : key.place * 2 ^ 32 + key.row ≡ q.place * 2 ^ 32 + q.row = rw (place, row) refl in
    let same = same_blob here blob (sym stands ∙ ap stored one ∙ there) in
    sym (ap (λ (o : Option K). unwrap_or o v) e) ∙ v_is ∙ ap (λ n. of n here) table ∙ ap (of q.table) same

more_placed : {K : Type 0} (of : ℕ → List ℕ → K) (stored : ℕ → Option (List ℕ)) (old new : Index K) (e : KeyEntry K) (at : Key) (here : List ℕ) (v : K) → AreOfBlobs of stored old → stored (at.place * 2 ^ 32 + at.row) ≡ Some here → v ≡ of at.table here → entry_key e ≡ at → value_of e ≡ v → ((q : Key) → value_at new q ≡ either (latest_one e q) (value_at old q)) → AreOfBlobs of stored new
more_placed of stored old new e at here v kept stands key place value puts q k blob is there =
    let stands_e : stored ((entry_key e).place * 2 ^ 32 + (entry_key e).row) ≡ Some here = ap (λ (p : Key). stored (p.place * 2 ^ 32 + p.row)) place ∙ stands in
    let key_e : value_of e ≡ of (entry_key e).table here = value ∙ key ∙ sym (ap (λ (p : Key). of p.table here) place) in
    place_test of stored q (entry_key e) here blob (value_of e) k (value_at old q) (is_key (entry_key e) q) refl stands_e key_e there (λ o. kept q k blob o there) (sym (puts q) ∙ is)

pub no_signature : (rows : Rows) (stored : ℕ → Option (List ℕ)) (index : Index ℕ) → ((q : Key) → value_at index q ≡ None) → AreSignatureKeys rows stored index
no_signature rows stored index none = none_placed (signature_key rows) stored index none

pub no_shape : (rows : Rows) (stored : ℕ → Option (List ℕ)) (index : Index Mix) → ((q : Key) → value_at index q ≡ None) → AreSpecShapes rows stored index
no_shape rows stored index none = none_placed (λ (table : ℕ). spec_shape rows) stored index none

pub more_signatures : (rows : Rows) (stored : ℕ → Option (List ℕ)) (old new : Index ℕ) (e : KeyEntry ℕ) (at : Key) (here : List ℕ) (v : ℕ) → AreSignatureKeys rows stored old → stored (at.place * 2 ^ 32 + at.row) ≡ Some here → v ≡ signature_key rows at.table here → entry_key e ≡ at → value_of e ≡ v → ((q : Key) → value_at new q ≡ either (latest_one e q) (value_at old q)) → AreSignatureKeys rows stored new
more_signatures rows stored old new e at here v kept stands key place value puts = more_placed (signature_key rows) stored old new e at here v kept stands key place value puts

pub more_shapes : (rows : Rows) (stored : ℕ → Option (List ℕ)) (old new : Index Mix) (e : KeyEntry Mix) (at : Key) (here : List ℕ) (v : Mix) → AreSpecShapes rows stored old → stored (at.place * 2 ^ 32 + at.row) ≡ Some here → v ≡ spec_shape rows here → entry_key e ≡ at → value_of e ≡ v → ((q : Key) → value_at new q ≡ either (latest_one e q) (value_at old q)) → AreSpecShapes rows stored new
more_shapes rows stored old new e at here v kept stands key place value puts = more_placed (λ (table : ℕ). spec_shape rows) stored old new e at here v kept stands key place value puts

pub ruleset learnt_steps = (none_learnt, no_shape, no_signature)
