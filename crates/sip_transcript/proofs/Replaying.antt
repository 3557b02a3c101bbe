-- What a link over a source has heard, call by call.
use Rattle.std.proofs.Common.{◌≡◌, ℕ, zero, suc, ◌<◌, List, [], ◌∷◌, ◌++◌, length, take, None, Some, Result, Ok, Err, refl, sym, ap, subst, ◌∙◌, arith, append_assoc, append-nil, ⊎_elim, inl, inr}
use Rattle.std.proofs.lemmas.List.{length-append, length-take-le}
use Rattle.std.specs.Prelude.{map, ◌⊎◌, ◌+◌, ◌-◌, ◌^◌, ◌≤◌, min}
use Rattle.std.specs.declared.option.Option.{Option}
use Rattle.std.specs.Io.KnownBytes.{Consumes, IsAtEnd, Keeps}
use Rattle.sip_ports.specs.declared.port.TalkEvent.{TalkEvent}
use Rattle.sip_ports.specs.declared.port.TalkEvent.TheVariants.{Out, In, Ended}
use Rattle.sip_ports.specs.Ports.{heard, ins, outs, received, ended_if, HearsWhole, ReadsWhole}
use Rattle.sip_ports.specs.declared.port.PortStop.{PortStop}
use Rattle.sip_ports.proofs.TalkLemmas.{heard-append, heard-ins, heard-outs, ended_if_short}
use Rattle.std.proofs.lemmas.Bool.Decides.{nat_tests}
use Rattle.sip_transcript.specs.Replaying.{Follows, Replays, heard_count}

-- none of these events is the end
abbrev IsNoEnd : (ℕ → TalkEvent) → Type 0
IsNoEnd event = (byte : ℕ) → event byte ≡ Ended → ⊥

out_is_none : IsNoEnd Out
out_is_none byte e = absurd cc

in_is_none : IsNoEnd In
in_is_none byte e = absurd cc

event_head : (x y : TalkEvent) (xs ys : List TalkEvent) → x ∷ xs ≡ y ∷ ys → x ≡ y
event_head x y xs ys e = cc

event_tail : (x y : TalkEvent) (xs ys : List TalkEvent) → x ∷ xs ≡ y ∷ ys → xs ≡ ys
event_tail x y xs ys e = cc

-- no end is told by no events
nothing : (before after : List TalkEvent) → [] ≡ before ++ Ended ∷ after → ⊥
nothing [] after e = absurd cc
nothing (x ∷ xs) after e = absurd cc

no_end : (event : ℕ → TalkEvent) → IsNoEnd event → (bytes : List ℕ) (before after : List TalkEvent) → map event bytes ≡ before ++ Ended ∷ after → ⊥
no_end event none [] before after e = nothing before after e
no_end event none (b ∷ bytes) [] after e = none b (event_head _ _ _ _ e)
no_end event none (b ∷ bytes) (y ∷ ys) after e = no_end event none bytes ys after (event_tail _ _ _ _ e)

-- an end that is told is told before events that are none
told_before : (event : ℕ → TalkEvent) → IsNoEnd event → (talk : List TalkEvent) (bytes : List ℕ) (before after : List TalkEvent) → talk ++ map event bytes ≡ before ++ Ended ∷ after
    → (more : List TalkEvent) × (talk ≡ before ++ Ended ∷ more)
told_before event none [] bytes before after e = absurd (no_end event none bytes before after e)
told_before event none (x ∷ xs) bytes [] after e = (xs, ap (λ y. y ∷ xs) (event_head _ _ _ _ e))
told_before event none (x ∷ xs) bytes (y ∷ ys) after e =
    let rest = told_before event none xs bytes ys after (event_tail _ _ _ _ e) in
    (rest.0, ap (λ z. z ∷ xs) (event_head _ _ _ _ e) ∙ ap (λ zs. y ∷ zs) rest.1)

-- an end that is told is the last event, or is told before it
end_or_before : (talk before after : List TalkEvent) → talk ++ Ended ∷ [] ≡ before ++ Ended ∷ after → ((more : List TalkEvent) × (talk ≡ before ++ Ended ∷ more)) ⊎ (before ≡ talk)
end_or_before [] [] after e = inr refl
end_or_before [] (y ∷ ys) after e = absurd (nothing ys after (event_tail _ _ _ _ e))
end_or_before (x ∷ xs) [] after e = inl (xs, ap (λ y. y ∷ xs) (event_head _ _ _ _ e))
end_or_before (x ∷ xs) (y ∷ ys) after e =
    let same = event_head _ _ _ _ e in
    ⊎_elim (λ rest. inl (rest.0, ap (λ z. z ∷ xs) same ∙ ap (λ zs. y ∷ zs) rest.1)) (λ all. inr (ap (λ z. z ∷ ys) (sym same) ∙ ap (λ zs. x ∷ zs) all)) (end_or_before xs ys after (event_tail _ _ _ _ e))

-- nothing has happened
pub replays_none : (first left : Option (List ℕ)) → left ≡ first → Replays first [] left
replays_none None left e = tt
replays_none (Some first) None e = absurd cc
replays_none (Some first) (Some left) e = record { came = sym cc; ended = λ before after told. absurd (nothing before after told) }

-- bytes were sent
pub replays_sent : (first left : Option (List ℕ)) (talk : List TalkEvent) (bytes : List ℕ) → Replays first talk left → Replays first (talk ++ outs bytes) left
replays_sent None left talk bytes p = tt
replays_sent (Some first) None talk bytes p = absurd p
replays_sent (Some first) (Some left) talk bytes p = record {
  came = p.came ∙ ap (λ l. l ++ left) (sym (heard-append talk (outs bytes) ∙ ap (λ l. heard talk ++ l) (heard-outs bytes) ∙ append-nil (heard talk)));
  ended = λ before after told. let rest = told_before Out out_is_none talk bytes before after told in p.ended before rest.0 rest.1;
}

-- an end that is told behind what was sent
end_behind : (first sent : List ℕ) (talk before after : List TalkEvent) → ((before after : List TalkEvent) → talk ≡ before ++ Ended ∷ after → first ≡ heard before)
    → outs sent ++ talk ≡ before ++ Ended ∷ after → first ≡ heard before
end_behind first [] talk before after told e = told before after e
end_behind first (b ∷ sent) talk [] after told e = absurd (out_is_none b (event_head _ _ _ _ e))
end_behind first (b ∷ sent) talk (y ∷ ys) after told e =
    let same : Out b ≡ y = event_head _ _ _ _ e in
    end_behind first sent talk ys after told (event_tail _ _ _ _ e) ∙ ap (λ (z : TalkEvent). heard (z ∷ ys)) same

-- bytes were sent before all of this
pub follows_sent : (first left sent : List ℕ) (talk : List TalkEvent) → Follows first talk left → Follows first (outs sent ++ talk) left
follows_sent first left sent talk p = record {
  came = p.came ∙ ap (λ (l : List ℕ). l ++ left) (sym (heard-append (outs sent) talk ∙ ap (λ (l : List ℕ). l ++ heard talk) (heard-outs sent)));
  ended = λ before after told. end_behind first sent talk before after p.ended told;
}

-- of a source that told its bytes, some are left
pub replays_told : (first left : Option (List ℕ)) (bytes : List ℕ) (talk : List TalkEvent) → first ≡ Some bytes → Replays first talk left → (more : List ℕ) × (left ≡ Some more) × Follows bytes talk more
replays_told first None bytes talk told p = absurd (subst (λ (f : Option (List ℕ)). Replays f talk None) told p)
replays_told first (Some more) bytes talk told p = (more, refl, subst (λ (f : Option (List ℕ)). Replays f talk (Some more)) told p)

-- a call stopped
pub replays_kept : (first left now : Option (List ℕ)) (talk : List TalkEvent) → Keeps left now → Replays first talk left → Replays first talk now
replays_kept None left now talk k p = tt
replays_kept (Some first) None now talk k p = absurd p
replays_kept (Some first) (Some left) None talk k p = absurd k
replays_kept (Some first) (Some left) (Some now) talk k p = record { came = p.came ∙ ap (λ l. heard talk ++ l) (sym k); ended = p.ended }

-- bytes were heard
pub replays_heard : (first left now : Option (List ℕ)) (talk : List TalkEvent) (bytes : List ℕ) → Consumes left now bytes → Replays first talk left → Replays first (talk ++ ins bytes) now
replays_heard None left now talk bytes k p = tt
replays_heard (Some first) None now talk bytes k p = absurd p
replays_heard (Some first) (Some left) None talk bytes k p = absurd k
replays_heard (Some first) (Some left) (Some now) talk bytes k p = record {
  came = p.came ∙ ap (λ l. heard talk ++ l) k ∙ sym (append_assoc (heard talk) bytes now) ∙ ap (λ l. l ++ now) (sym (heard-append talk (ins bytes) ∙ ap (λ l. heard talk ++ l) (heard-ins bytes)));
  ended = λ before after told. let rest = told_before In in_is_none talk bytes before after told in p.ended before rest.0 rest.1;
}

-- the end was found
pub replays_ended : (first left now : Option (List ℕ)) (talk : List TalkEvent) → Consumes left now [] → IsAtEnd now → Replays first talk left → Replays first (talk ++ Ended ∷ []) now
replays_ended None left now talk k end p = tt
replays_ended (Some first) None now talk k end p = absurd p
replays_ended (Some first) (Some left) None talk k end p = absurd k
replays_ended (Some first) (Some left) (Some now) talk k end p =
    let all : first ≡ heard talk = p.came ∙ ap (λ l. heard talk ++ l) (k ∙ end) ∙ append-nil (heard talk) in
    record {
      came = p.came ∙ ap (λ l. heard talk ++ l) k ∙ ap (λ l. l ++ now) (sym (heard-append talk (Ended ∷ []) ∙ append-nil (heard talk)));
      ended = λ before after told. ⊎_elim (λ rest. p.ended before rest.0 rest.1) (λ same. all ∙ ap heard (sym same)) (end_or_before talk before after told);
    }

-- a receive into a buffer with room
pub replays_received : (first left now : Option (List ℕ)) (talk : List TalkEvent) (n : ℕ) (buf : List ℕ) → 0 < length buf → Consumes left now (take n buf) × (n ≡ 0 → 0 < length buf → IsAtEnd now)
    → Replays first talk left → Replays first (talk ++ received n buf) now
replays_received first left now talk zero [] room k p = absurd (omega (arith, room))
replays_received first left now talk zero (b ∷ buf) room k p = replays_ended first left now talk k.0 (k.1 refl room) p
replays_received first left now talk (suc n) buf room k p = replays_heard first left now talk (take (suc n) buf) k.0 p

-- ---- the same of a talk that is told

pub told_sent : (first left : Option (List ℕ)) (talk after : List TalkEvent) (bytes : List ℕ) → after ≡ talk ++ outs bytes → Replays first talk left → Replays first after left
told_sent first left talk after bytes told p = subst (λ t. Replays first t left) (sym told) (replays_sent first left talk bytes p)

pub told_received : (first left now : Option (List ℕ)) (talk after : List TalkEvent) (n : ℕ) (buf : List ℕ) → after ≡ talk ++ received n buf → 0 < length buf
    → Consumes left now (take n buf) × (n ≡ 0 → 0 < length buf → IsAtEnd now) → Replays first talk left → Replays first after now
told_received first left now talk after n buf told room k p = subst (λ t. Replays first t now) (sym told) (replays_received first left now talk n buf room k p)

-- ---- how much was heard

-- what is sent is not counted
pub count_sent : (talk after : List TalkEvent) (bytes : List ℕ) → after ≡ talk ++ outs bytes → heard_count after ≡ heard_count talk
count_sent talk after bytes told =
    ap heard_count told ∙ ap (λ l. min (length l) (2 ^ 64 - 1)) (heard-append talk (outs bytes) ∙ ap (λ l. heard talk ++ l) (heard-outs bytes) ∙ append-nil (heard talk))

heard_received : (n : ℕ) (buf : List ℕ) → n ≤ length buf → length (heard (received n buf)) ≡ n
heard_received zero [] fits = refl
heard_received zero (b ∷ buf) fits = refl
heard_received (suc n) buf fits =
    ap length (heard-ins (take (suc n) buf)) ∙ length-take-le (suc n) buf fits

-- a receive is counted by the bytes that it gave
pub count_received : (talk after : List TalkEvent) (n : ℕ) (buf : List ℕ) → after ≡ talk ++ received n buf → n ≤ length buf
    → heard_count after ≡ min (heard_count talk + n) (2 ^ 64 - 1)
count_received talk after n buf told fits =
    let parts = length-append (heard talk) (heard (received n buf)) in
    let came = heard_received n buf fits in
    let all : length (heard after) ≡ length (heard talk) + n = ap (λ t. length (heard t)) told ∙ ap length (heard-append talk (received n buf)) ∙ omega (arith, parts, came) in
    omega (arith, all)

-- ---- a whole receive over such a link is a whole read of its source

heard_ended_if : (n m : ℕ) → heard (ended_if n m) ≡ []
heard_ended_if n m = grind (arith, nat_tests)

nothing_left : (xs left : List ℕ) → xs ≡ xs ++ left → left ≡ []
nothing_left [] left e = sym e
nothing_left (x ∷ xs) left e = nothing_left xs left cc

heard_part : (bytes left part : List ℕ) (talk rest : List TalkEvent) → talk ≡ ins part ++ rest → heard rest ≡ [] → Follows bytes talk left → bytes ≡ part ++ left
heard_part bytes left part talk rest e none p =
    p.came ∙ ap (λ t. heard t ++ left) e ∙ ap (λ l. l ++ left) (heard-append (ins part) rest ∙ ap (λ l. l ++ heard rest) (heard-ins part) ∙ ap (λ l. part ++ l) none ∙ append-nil part)

heard_all : (bytes left part : List ℕ) (talk rest : List TalkEvent) → talk ≡ ins part ++ rest → rest ≡ Ended ∷ [] → heard rest ≡ [] → Follows bytes talk left → left ≡ []
heard_all bytes left part talk rest e end none p =
    nothing_left part left (sym (p.ended (ins part) [] (e ∙ ap (λ l. ins part ++ l) end) ∙ heard-ins part) ∙ heard_part bytes left part talk rest e none p)

pub whole_receive : (bytes : List ℕ) (left : Option (List ℕ)) (talk : List TalkEvent) (r : Result ℕ PortStop) (buf : List ℕ)
    → HearsWhole (Some []) (Some talk) r buf → Replays (Some bytes) talk left → ReadsWhole (Some bytes) left r buf
whole_receive bytes None talk r buf h p = absurd p
whole_receive bytes (Some left) talk (Ok n) buf h p =
    let none = heard_ended_if n (length buf) in
    (h.0, heard_part bytes left (take n buf) talk _ h.1 none p, λ short. heard_all bytes left (take n buf) talk _ h.1 (ended_if_short n (length buf) short) none p)
whole_receive bytes (Some left) talk (Err e) buf h p =
    (h.0, h.1, heard_part bytes left (take h.0 buf) talk [] (h.2 ∙ sym (append-nil (ins (take h.0 buf)))) refl p)
