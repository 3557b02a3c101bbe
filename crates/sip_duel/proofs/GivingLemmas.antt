-- How the bytes that are left move to a buffer, and what a frame of which nothing was sent is.
use Rattle.std.proofs.Common.{◌≡◌, ℕ, ◌+◌, ◌-◌, ◌<◌, ◌≤◌, List, ◌++◌, length, take, drop, sym, ap, subst, ◌∙◌, arith, length-drop, take_all, take-add, Bool, true, false, [], ◌∷◌, append-nil}
use Rattle.sip_ports.specs.declared.port.TalkEvent.{TalkEvent}
use Rattle.sip_ports.specs.declared.port.TalkEvent.TheVariants.{Ended}
use Rattle.sip_ports.specs.Ports.{heard, ins, outs}
use Rattle.sip_ports.proofs.TalkLemmas.{heard-append, heard-ins, heard-outs}
use Rattle.sip_wire.specs.declared.frame.Taken.{Taken}
use Rattle.sip_wire.specs.declared.frame.Taken.TheVariants.{Part}
use Rattle.sip_wire.specs.declared.kind.Place.{Place}
use Rattle.sip_wire.specs.declared.message.Message.{Message}
use Rattle.sip_wire.specs.declared.version.Version.{Version}
use Rattle.sip_wire.specs.Spelling.{asked}
use Rattle.sip_wire.specs.Taking.{Judges}
use Rattle.sip_wire.proofs.ReadingLaws.{asked-least}
use Rattle.std.specs.Prelude.{if◌then◌else◌}
use Rattle.std.proofs.lemmas.Grind.{common_steps}
use Rattle.std.proofs.lemmas.List.{take-append-drop, take-append-le}

drop_again : (at n : ℕ) (bytes : List ℕ) → drop n (drop at bytes) ≡ drop (at + n) bytes
drop_again at n bytes = grind (arith, common_steps)

taken_whole : (n : ℕ) (cs rest : List ℕ) → length cs ≡ n → take n (cs ++ rest) ≡ cs
taken_whole n cs rest e = grind (arith, common_steps)

pub given_from : (at n : ℕ) (bytes cs rest : List ℕ) → cs ≡ take n (drop at bytes) → length cs ≡ n → drop at bytes ≡ take n (cs ++ rest) ++ drop (at + n) bytes
given_from at n bytes cs rest same len =
    sym (ap (λ l. l ++ drop (at + n) bytes) (taken_whole n cs rest len ∙ same) ∙ ap (λ l. take n (drop at bytes) ++ l) (sym (drop_again at n bytes)) ∙ take-append-drop n (drop at bytes))

-- the slice from a place on is all that follows
pub whole_slice : (at : ℕ) (l : List ℕ) → take (length l - at) (drop at l) ≡ drop at l
whole_slice at l = take_all (length l - at) (drop at l) (omega (arith, length-drop at l))

pub copied : (at n : ℕ) (bytes shown cs : List ℕ) → shown ≡ bytes → cs ≡ take n (take (length shown - at) (drop at shown)) → cs ≡ take n (drop at bytes)
copied at n bytes shown cs same e = e ∙ ap (take n) (whole_slice at shown) ∙ ap (λ l. take n (drop at l)) same

pub copied_length : (n : ℕ) (cs buf : List ℕ) → n ≤ length buf → length cs ≡ length (take n buf) → length cs ≡ n
copied_length n cs buf most e = grind (arith, common_steps)

-- ---- what was received is the front of what was appended

-- bytes that are sent are not received
pub sent_none : (talk : List TalkEvent) (bytes : List ℕ) → heard (talk ++ outs bytes) ≡ heard talk
sent_none talk bytes = heard-append talk (outs bytes) ∙ ap (λ l. heard talk ++ l) (heard-outs bytes) ∙ append-nil (heard talk)

-- and neither is an end
pub ended_none : (talk : List TalkEvent) → heard (talk ++ Ended ∷ []) ≡ heard talk
ended_none talk = heard-append talk (Ended ∷ []) ∙ append-nil (heard talk)

-- more was appended
pub front_stays : (at : ℕ) (bytes out more after : List ℕ) → at ≤ length out → after ≡ out ++ more → bytes ≡ take at out → bytes ≡ take at after
front_stays at bytes out more after le longer e = e ∙ sym (take-append-le at out more le) ∙ ap (take at) (sym longer)

-- the next bytes were received
pub front_given : (at n : ℕ) (talk : List TalkEvent) (out cs : List ℕ) → heard talk ≡ take at out → cs ≡ take n (drop at out) → heard (talk ++ ins cs) ≡ take (at + n) out
front_given at n talk out cs e same =
    heard-append talk (ins cs) ∙ ap (λ l. heard talk ++ l) (heard-ins cs) ∙ ap (λ l. l ++ cs) e ∙ ap (λ l. take at out ++ l) same ∙ sym (take-add at n out)

-- bytes were sent, or nothing was told
pub sent_or_not : (b : Bool) (talk after shown events : List TalkEvent) (bytes front : List ℕ) → after ≡ (if b then talk ++ shown else talk) → shown ≡ events → events ≡ outs bytes → heard talk ≡ front → heard after ≡ front
sent_or_not true talk after shown events bytes front e same sent h = ap heard (e ∙ ap (λ x. talk ++ x) (same ∙ sent)) ∙ sent_none talk bytes ∙ h
sent_or_not false talk after shown events bytes front e same sent h = ap heard e ∙ h

-- the end was told, or nothing was
pub ended_or_not : (b : Bool) (talk after : List TalkEvent) (front : List ℕ) → after ≡ (if b then talk ++ Ended ∷ [] else talk) → heard talk ≡ front → heard after ≡ front
ended_or_not true talk after front e h = ap heard e ∙ ended_none talk ∙ h
ended_or_not false talk after front e h = ap heard e ∙ h

-- the next bytes were received, by what was told
pub given_events : (at n : ℕ) (talk after shown events : List TalkEvent) (out cs : List ℕ) → after ≡ talk ++ shown → shown ≡ events → events ≡ ins cs → cs ≡ take n (drop at out) → heard talk ≡ take at out → heard after ≡ take (at + n) out
given_events at n talk after shown events out cs e same came is h = ap heard (e ∙ ap (λ x. talk ++ x) (same ∙ came)) ∙ front_given at n talk out cs h is

-- a part of a frame is less than it
pub part_is_short : (version : Version) (place : Place) (before after : List ℕ) (m : Message) (t : Taken) → t ≡ Part → Judges version place before m t → after ≡ before → length after < asked version place after
part_is_short version place before after m t is judged same =
    rw same (subst (Judges version place before m) is judged).short

-- nothing is less than a frame
pub none_is_short : (version : Version) (place : Place) (bytes : List ℕ) → bytes ≡ [] → length bytes < asked version place bytes
none_is_short version place bytes none = omega (arith, ap (λ (l : List ℕ). length l) none, asked-least version place bytes)
