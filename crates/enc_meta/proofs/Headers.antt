-- What a loop over the headers of a root has read so far.
use Rattle.std.proofs.Common.{◌≡◌, ℕ, zero, suc, ◌+◌, ◌-◌, ◌<◌, Bool, true, false, ◌||◌, cond, List, [], ◌∷◌, ◌++◌, length, Option, Some, None, option_map, append_assoc, refl, sym, ap, subst, ◌∙◌, arith}
use Rattle.std.proofs.lemmas.List.{append-nil, length-append}
use Rattle.std.proofs.Math.Seq.{take-append_seam}
use Rattle.std.specs.Prelude.{is_some, option_and_then, find, bytes_eq, slice_get}
use Rattle.std.proofs.lemmas.List.Folds.{find-append}
use Rattle.enc_meta.specs.Root.{Header, header_at, headers, headers_found, span_of, has_stream, fault_of, fault_at}
use Rattle.enc_base.specs.Order.{first_below}
use Rattle.enc_base.specs.declared.refusal.StreamName.{StreamName}
use Rattle.enc_base.proofs.First.{first_none, first_more, first_found}

-- so many headers were read, up to a place
abbrev pub IsRead : List ℕ → ℕ → ℕ → ℕ → Type 0
IsRead bytes first n at = headers bytes first n ≡ Some (headers_found (headers bytes first n), at)

pub read_none : (bytes : List ℕ) (first : ℕ) → IsRead bytes first 0 first
unfolding headers
read_none bytes first = refl

one_more : (bytes : List ℕ) (first n at next : ℕ) (all : List Header) (h : Header) → headers bytes first n ≡ Some (all, at) → header_at bytes at ≡ Some (h, next) → headers bytes first (n + 1) ≡ Some (all ++ h ∷ [], next)
unfolding headers
one_more bytes first n at next all h before here =
    let e : n + 1 ≡ suc n = omega arith in
    rw (e, before, here) refl

pub listed_more : (bytes : List ℕ) (first n at next : ℕ) (h : Header) → IsRead bytes first n at → header_at bytes at ≡ Some (h, next) → headers_found (headers bytes first (n + 1)) ≡ headers_found (headers bytes first n) ++ h ∷ []
listed_more bytes first n at next h before here =
    let e = one_more bytes first n at next _ h before here in
    ap headers_found e

pub read_more : (bytes : List ℕ) (first n at next : ℕ) (h : Header) → IsRead bytes first n at → header_at bytes at ≡ Some (h, next) → IsRead bytes first (n + 1) next
read_more bytes first n at next h before here =
    let e = one_more bytes first n at next _ h before here in
    let l = listed_more bytes first n at next h before here in
    e ∙ ap (λ xs. Some (xs, next)) (sym l)

-- where no header stands, no longer run of them is read
none_more : (bytes : List ℕ) (first n : ℕ) → headers bytes first n ≡ None → headers bytes first (n + 1) ≡ None
unfolding headers
none_more bytes first n none =
    let e : n + 1 ≡ suc n = omega arith in
    rw (e, none) refl

none_later : (bytes : List ℕ) (first n d : ℕ) → headers bytes first n ≡ None → headers bytes first (n + d) ≡ None
none_later bytes first n zero none = let e : n + 0 ≡ n = omega arith in rw e none
none_later bytes first n (suc d) none =
    let e : n + suc d ≡ (n + d) + 1 = omega arith in
    rw e (none_more bytes first (n + d) (none_later bytes first n d none))

none_here : (bytes : List ℕ) (first n at : ℕ) → IsRead bytes first n at → header_at bytes at ≡ None → headers bytes first (n + 1) ≡ None
unfolding headers
none_here bytes first n at before none =
    let e : n + 1 ≡ suc n = omega arith in
    rw (e, before, none) refl

pub read_stops : (bytes : List ℕ) (first n at count : ℕ) → IsRead bytes first n at → header_at bytes at ≡ None → n < count → is_some (headers bytes first count) ≡ false
read_stops bytes first n at count before none less =
    let e : count ≡ (n + 1) + (count - (n + 1)) = omega arith in
    rw (e, none_later bytes first (n + 1) (count - (n + 1)) (none_here bytes first n at before none)) refl

-- the headers that a longer run has behind those of a shorter one
abbrev Extends : Option (List Header × ℕ) → Option (List Header × ℕ) → Type 0
Extends shorter longer = (rest : List Header) × (headers_found longer ≡ headers_found shorter ++ rest)

abbrev with_next : List Header → Option (Header × ℕ) → Option (List Header × ℕ)
with_next all next = option_and_then (λ (x : Header × ℕ). Some (all ++ x.0 ∷ [], x.1)) next

abbrev step_from : List ℕ → Option (List Header × ℕ) → Option (List Header × ℕ)
step_from bytes before = option_and_then (λ (x : List Header × ℕ). with_next x.0 (header_at bytes x.1)) before

headers_step : (bytes : List ℕ) (first n : ℕ) → headers bytes first (n + 1) ≡ step_from bytes (headers bytes first n)
unfolding headers
headers_step bytes first n =
    let e : n + 1 ≡ suc n = omega arith in
    rw e refl

next_extends : (p : List Header × ℕ) (next : Option (Header × ℕ)) → is_some (with_next p.0 next) ≡ true → Extends (Some p) (with_next p.0 next)
next_extends p None some = absurd (cc)
next_extends p (Some x) some = (x.0 ∷ [], refl)

step_extends : (bytes : List ℕ) (o : Option (List Header × ℕ)) → is_some (step_from bytes o) ≡ true → (is_some o ≡ true) × Extends o (step_from bytes o)
step_extends bytes None some = absurd (cc)
step_extends bytes (Some p) some = (refl, next_extends p (header_at bytes p.1) some)

joined : (a b c : Option (List Header × ℕ)) → Extends a b → Extends b c → Extends a c
joined a b c one two = (one.0 ++ two.0, two.1 ∙ ap (λ xs. xs ++ two.0) one.1 ∙ append_assoc (headers_found a) one.0 two.0)

-- what was read is kept
extends : (bytes : List ℕ) (first n d : ℕ) → is_some (headers bytes first (n + d)) ≡ true → (is_some (headers bytes first n) ≡ true) × Extends (headers bytes first n) (headers bytes first (n + d))
extends bytes first n zero some =
    let e : n + 0 ≡ n = omega arith in
    (rw e at some, rw e ([], sym (append-nil (headers_found (headers bytes first n)))))
extends bytes first n (suc d) some =
    let e : n + suc d ≡ (n + d) + 1 = omega arith in
    let s = headers_step bytes first (n + d) in
    let whole : is_some (step_from bytes (headers bytes first (n + d))) ≡ true = ap is_some (sym s) ∙ ap (λ k. is_some (headers bytes first k)) (sym e) ∙ some in
    let last = step_extends bytes (headers bytes first (n + d)) whole in
    let front = extends bytes first n d last.0 in
    (front.0, rw (e, s) (joined (headers bytes first n) (headers bytes first (n + d)) (step_from bytes (headers bytes first (n + d))) front.1 last.1))

next_longer : (p : List Header × ℕ) (next : Option (Header × ℕ)) → is_some (with_next p.0 next) ≡ true → length (headers_found (with_next p.0 next)) ≡ length p.0 + 1
next_longer p None some = absurd (cc)
next_longer p (Some x) some = omega (arith, length-append p.0 (x.0 ∷ []))

step_longer : (bytes : List ℕ) (o : Option (List Header × ℕ)) → is_some (step_from bytes o) ≡ true → (is_some o ≡ true) × (length (headers_found (step_from bytes o)) ≡ length (headers_found o) + 1)
step_longer bytes None some = absurd (cc)
step_longer bytes (Some p) some = (refl, next_longer p (header_at bytes p.1) some)

-- so many headers are a list of that length
pub read_length : (bytes : List ℕ) (first n : ℕ) → is_some (headers bytes first n) ≡ true → length (headers_found (headers bytes first n)) ≡ n
unfolding headers
read_length bytes first zero some = refl
read_length bytes first (suc n) some =
    let one = step_longer bytes (headers bytes first n) some in
    omega (arith, one.1, read_length bytes first n one.0)

-- among more headers stand those that were read and the one that stands here
here_among : (bytes : List ℕ) (first n at count next : ℕ) (h : Header) → IsRead bytes first n at → header_at bytes at ≡ Some (h, next) → n < count → is_some (headers bytes first count) ≡ true → (rest : List Header) × (headers_found (headers bytes first count) ≡ headers_found (headers bytes first n) ++ h ∷ rest)
here_among bytes first n at count next h before here less some =
    let e : count ≡ (n + 1) + (count - (n + 1)) = omega arith in
    let x = extends bytes first (n + 1) (count - (n + 1)) (ap (λ k. is_some (headers bytes first k)) (sym e) ∙ some) in
    let m = listed_more bytes first n at next h before here in
    (x.1.0, ap (λ k. headers_found (headers bytes first k)) e ∙ x.1.1 ∙ ap (λ xs. xs ++ x.1.0) m ∙ append_assoc (headers_found (headers bytes first n)) (h ∷ []) x.1.0)

span_or : (same : Bool) (h : Header) (o : Option Header) {b : Bool} → is_some (option_map (λ (x : Header). x.span) o) ≡ b → is_some (option_map (λ (x : Header). x.span) (cond same (Some h) o)) ≡ (same || b)
span_or true h o e = refl
span_or false h o e = e

-- a stream stands among the headers exactly where its span is found
pub is_some_span : (text : List ℕ) (all : List Header) → is_some (span_of text all) ≡ has_stream text all
unfolding span_of has_stream
is_some_span text [] = refl
is_some_span text (h ∷ rest) =
    span_or (bytes_eq h.name text) h (find (λ (x : Header). bytes_eq x.name text) rest) (is_some_span text rest)

none_found : (o : Option Header) → option_map (λ h. h.span) o ≡ None → o ≡ None
none_found None e = refl
none_found (Some h) e = absurd (cc)

-- the first header of this name, behind others that haven't it
span_here : (text : List ℕ) (before rest : List Header) (h : Header) → span_of text before ≡ None → bytes_eq h.name text ≡ true → span_of text (before ++ h ∷ rest) ≡ Some h.span
unfolding span_of
span_here text before rest h none same =
    rw (find-append (λ (x : Header). bytes_eq x.name text) before (h ∷ rest), none_found _ none, same) refl

span_not_here : (text : List ℕ) (before : List Header) (h : Header) → span_of text before ≡ None → bytes_eq h.name text ≡ false → span_of text (before ++ h ∷ []) ≡ None
unfolding span_of
span_not_here text before h none other =
    rw (find-append (λ (x : Header). bytes_eq x.name text) before (h ∷ []), none_found _ none, other) refl

pub span_none : (bytes text : List ℕ) (first : ℕ) → span_of text (headers_found (headers bytes first 0)) ≡ None
unfolding span_of headers
span_none bytes text first = refl

pub span_found : (bytes text : List ℕ) (first n at count next : ℕ) (h : Header) → IsRead bytes first n at → span_of text (headers_found (headers bytes first n)) ≡ None → header_at bytes at ≡ Some (h, next) → bytes_eq h.name text ≡ true → n < count → is_some (headers bytes first count) ≡ true → span_of text (headers_found (headers bytes first count)) ≡ Some h.span
span_found bytes text first n at count next h before none here same less some =
    let w = here_among bytes first n at count next h before here less some in
    rw (w.1) (span_here text (headers_found (headers bytes first n)) w.0 h none same)

pub span_more : (bytes text : List ℕ) (first n at next : ℕ) (h : Header) → IsRead bytes first n at → span_of text (headers_found (headers bytes first n)) ≡ None → header_at bytes at ≡ Some (h, next) → bytes_eq h.name text ≡ false → span_of text (headers_found (headers bytes first (n + 1))) ≡ None
span_more bytes text first n at next h before none here other =
    rw (listed_more bytes first n at next h before here) (span_not_here text (headers_found (headers bytes first n)) h none other)

-- what is wrong with the header that stands here
fault_there : (size : ℕ) (before rest : List Header) (h : Header) → fault_at size (before ++ h ∷ rest) (length before) ≡ fault_of size before h
unfolding fault_at
fault_there size before rest h = rw (take-append_seam before (h ∷ rest), get_seam before rest h) refl
  where
    get_seam : (xs ys : List Header) (x : Header) → slice_get (xs ++ x ∷ ys) (length xs) ≡ Some x
    get_seam [] ys x = refl
    get_seam (y ∷ xs) ys x = get_seam xs ys x

pub fault_here : (bytes : List ℕ) (first n at count next size : ℕ) (h : Header) → IsRead bytes first n at → header_at bytes at ≡ Some (h, next) → n < count → is_some (headers bytes first count) ≡ true → fault_at size (headers_found (headers bytes first count)) n ≡ fault_of size (headers_found (headers bytes first n)) h
fault_here bytes first n at count next size h before here less some =
    let w = here_among bytes first n at count next h before here less some in
    let l = read_length bytes first n (ap is_some before) in
    let P : ℕ → Type 0 = λ k. fault_at size (headers_found (headers bytes first n) ++ h ∷ w.0) k ≡ fault_of size (headers_found (headers bytes first n)) h in
    rw (w.1) (subst P l (fault_there size (headers_found (headers bytes first n)) w.0 h))

-- the fault of the header that stands here is the first of all, where no header before has one
pub fault_found : (bytes : List ℕ) (first n at count next size : ℕ) (h : Header) (o : Option StreamName) → IsRead bytes first n at → header_at bytes at ≡ Some (h, next) → n < count → is_some (headers bytes first count) ≡ true → first_below (fault_at size (headers_found (headers bytes first count))) n ≡ None → o ≡ fault_of size (headers_found (headers bytes first n)) h → is_some o ≡ true → o ≡ first_below (fault_at size (headers_found (headers bytes first count))) count
fault_found bytes first n at count next size h o before here less some none is found =
    let e = fault_here bytes first n at count next size h before here less some in
    first_found (fault_at size (headers_found (headers bytes first count))) count n o less none (is ∙ sym e) found

pub ruleset span_steps = (read_none, read_more, read_stops, span_none, span_found, span_more)

pub ruleset fault_steps = (read_none, read_more, read_stops, fault_here, fault_found, first_none, first_more)

pub ruleset read_steps = (read_none, read_more, read_stops)
