-- Where no watcher is attached, telling is nothing.
use Rattle.std.proofs.Common.{◌≡◌, ℕ, ◌+◌, Bool, List, [], ◌∷◌, ◌++◌, length, refl, sym, ap, subst, arith, append-nil, length-append}
use Rattle.enc_watch.specs.Audience.{Seat, gone_text, line_front, watcher_line, fault_room, behind_text, told_event, told_events, AreTold}
use Rattle.enc_watch.specs.declared.event.Event.{Event}
use Rattle.enc_watch.specs.declared.event.HearError.TheVariants.{Memory}

-- no line is needed to say that watchers are gone: there are none
nobody : (seats : List Seat) → fault_room seats ≡ 0 → seats ≡ []
unfolding fault_room watcher_line
nobody [] none = refl
nobody (s ∷ seats) none =
    let e : length (line_front s.number ++ gone_text Memory ++ 0x0a ∷ []) ≡ length (line_front s.number ++ gone_text Memory) + 1 =
    length-append (line_front s.number ++ gone_text Memory) (0x0a ∷ []) in absurd (omega (arith, e, none))

-- events told to nobody are nothing
nobody_told : (events : List Event) (deaf : List Bool) → told_events events deaf [] ≡ record { seats = []; text = []; deaf = deaf }
unfolding told_events told_event
nobody_told [] deaf = refl
nobody_told (event ∷ events) deaf = ap (behind_text []) (nobody_told events deaf)

told_to_nobody : (events : List Event) (text : List ℕ) → AreTold events [] [] text text
told_to_nobody events text = record { deaf = []; text = []; appended = sym (append-nil text); told = λ more. nobody_told events more }

pub unheard : (events : List Event) (seats : List Seat) (text : List ℕ) → fault_room seats ≡ 0 → AreTold events seats seats text text
unheard events seats text none = subst (λ (xs : List Seat). AreTold events xs xs text text) (sym (nobody seats none)) (told_to_nobody events text)
