-- What several calls do to a talk together, for callers of ports. `Consumes-nil`, `Consumes-trans`
-- and `Consumes-kept` of `Rattle.std.proofs.KnownBytes` say the same of the bytes that a source has
-- left.
use Rattle.std.proofs.Common.{◌≡◌, ℕ, zero, suc, ◌<◌, ◌≤◌, List, [], ◌∷◌, ◌++◌, length, take, None, Some, refl, sym, ap, ◌∙◌, arith, append_assoc, append-nil}
use Rattle.std.specs.declared.option.Option.{Option}
use Rattle.std.proofs.lemmas.List.{map-append}
use Rattle.std.specs.Prelude.{option_map}
use Rattle.std.specs.Io.KnownBytes.{Appends}
use Rattle.sip_ports.specs.declared.port.TalkEvent.{TalkEvent}
use Rattle.sip_ports.specs.declared.port.TalkEvent.TheVariants.{Out, In, Ended, Fresh, Stored, Renames, Kept}
use Rattle.std.proofs.lemmas.Bool.Decides.{nat_tests}
use Rattle.sip_ports.specs.Ports.{GoesOn, Writes, ins, outs, written, heard, received, ended_if}

pub GoesOn-refl : (a : Option (List TalkEvent)) → GoesOn a a []
GoesOn-refl None = tt
GoesOn-refl (Some talk) = sym (append-nil talk)

pub GoesOn-trans : (a b c : Option (List TalkEvent)) (es fs : List TalkEvent) → GoesOn a b es → GoesOn b c fs → GoesOn a c (es ++ fs)
GoesOn-trans None b c es fs p q = tt
GoesOn-trans (Some x) None c es fs p q = absurd p
GoesOn-trans (Some x) (Some y) None es fs p q = absurd q
GoesOn-trans (Some x) (Some y) (Some z) es fs p q = q ∙ ap (λ l. l ++ fs) p ∙ append_assoc x es fs

-- a talk that is told is told after it, and is the talk before with the events
pub GoesOn-told : (x : List TalkEvent) (b : Option (List TalkEvent)) (es : List TalkEvent) → GoesOn (Some x) b es → b ≡ Some (x ++ es)
GoesOn-told x None es p = absurd p
GoesOn-told x (Some y) es p = ap Some p

-- where nothing happened, a talk that is told is the same
pub GoesOn-nothing : (x : List TalkEvent) (b : Option (List TalkEvent)) → GoesOn (Some x) b [] → b ≡ Some x
GoesOn-nothing x b p = GoesOn-told x b [] p ∙ ap Some (append-nil x)

-- what a receive of some bytes adds
pub received_some : (n : ℕ) (buf : List ℕ) → (n ≡ 0 → ⊥) → received n buf ≡ ins (take n buf)
received_some zero buf h = absurd (h refl)
received_some (suc n) buf h = refl

-- what a receive adds that finds the end
pub received_none : (n : ℕ) (buf : List ℕ) → n ≡ 0 → 0 < length buf → received n buf ≡ Ended ∷ []
received_none zero [] e h = absurd (omega (arith, h))
received_none zero (x ∷ xs) e h = refl
received_none (suc n) buf e h = absurd (omega (arith, e))

-- fewer bytes came than were asked for
pub ended_if_short : (n m : ℕ) → n < m → ended_if n m ≡ Ended ∷ []
ended_if_short n m h = grind (arith, nat_tests)

-- all came that were asked for
pub ended_if_full : (n m : ℕ) → m ≤ n → ended_if n m ≡ []
ended_if_full n m h = grind (arith, nat_tests)

pub written-append : (xs ys : List TalkEvent) → written (xs ++ ys) ≡ written xs ++ written ys
written-append [] ys = refl
written-append (Out b ∷ xs) ys = ap (λ l. b ∷ l) (written-append xs ys)
written-append (In b ∷ xs) ys = written-append xs ys
written-append (Ended ∷ xs) ys = written-append xs ys
written-append (Fresh ∷ xs) ys = written-append xs ys
written-append (Stored b ∷ xs) ys = written-append xs ys
written-append (Renames ∷ xs) ys = written-append xs ys
written-append (Kept ∷ xs) ys = written-append xs ys

pub heard-append : (xs ys : List TalkEvent) → heard (xs ++ ys) ≡ heard xs ++ heard ys
heard-append [] ys = refl
heard-append (Out b ∷ xs) ys = heard-append xs ys
heard-append (In b ∷ xs) ys = ap (λ l. b ∷ l) (heard-append xs ys)
heard-append (Ended ∷ xs) ys = heard-append xs ys
heard-append (Fresh ∷ xs) ys = heard-append xs ys
heard-append (Stored b ∷ xs) ys = heard-append xs ys
heard-append (Renames ∷ xs) ys = heard-append xs ys
heard-append (Kept ∷ xs) ys = heard-append xs ys

pub written-outs : (bytes : List ℕ) → written (outs bytes) ≡ bytes
written-outs [] = refl
written-outs (b ∷ bytes) = ap (λ l. b ∷ l) (written-outs bytes)

pub written-ins : (bytes : List ℕ) → written (ins bytes) ≡ []
written-ins [] = refl
written-ins (b ∷ bytes) = written-ins bytes

pub heard-ins : (bytes : List ℕ) → heard (ins bytes) ≡ bytes
heard-ins [] = refl
heard-ins (b ∷ bytes) = ap (λ l. b ∷ l) (heard-ins bytes)

pub heard-outs : (bytes : List ℕ) → heard (outs bytes) ≡ []
heard-outs [] = refl
heard-outs (b ∷ bytes) = heard-outs bytes

pub outs-append : (xs ys : List ℕ) → outs (xs ++ ys) ≡ outs xs ++ outs ys
outs-append xs ys = map-append Out xs ys

pub ins-append : (xs ys : List ℕ) → ins (xs ++ ys) ≡ ins xs ++ ins ys
ins-append xs ys = map-append In xs ys

-- events that send bytes tell which
pub outs-injective : (xs ys : List ℕ) → outs xs ≡ outs ys → xs ≡ ys
outs-injective xs ys e = sym (written-outs xs) ∙ ap written e ∙ written-outs ys

-- events that receive bytes tell which
pub ins-injective : (xs ys : List ℕ) → ins xs ≡ ins ys → xs ≡ ys
ins-injective xs ys e = sym (heard-ins xs) ∙ ap heard e ∙ heard-ins ys

-- bytes that are known and are told as sent grow by what the talk goes on by, and no other way
pub Appends-of_GoesOn : (old new : Option (List ℕ)) (bytes : List ℕ)
    → GoesOn (option_map outs old) (option_map outs new) (outs bytes) → Appends old new bytes
Appends-of_GoesOn None new bytes p = tt
Appends-of_GoesOn (Some xs) None bytes p = absurd p
Appends-of_GoesOn (Some xs) (Some ys) bytes p =
    outs-injective ys (xs ++ bytes) (p ∙ sym (outs-append xs bytes))

-- and back
pub GoesOn-of_Appends : (old new : Option (List ℕ)) (bytes : List ℕ)
    → Appends old new bytes → GoesOn (option_map outs old) (option_map outs new) (outs bytes)
GoesOn-of_Appends None new bytes p = tt
GoesOn-of_Appends (Some xs) None bytes p = absurd p
GoesOn-of_Appends (Some xs) (Some ys) bytes p = ap outs p ∙ outs-append xs bytes

pub Writes-refl : (a : Option (List TalkEvent)) → Writes a a []
Writes-refl None = tt
Writes-refl (Some x) = sym (append-nil (written x))

pub Writes-trans : (a b c : Option (List TalkEvent)) (xs ys : List ℕ) → Writes a b xs → Writes b c ys → Writes a c (xs ++ ys)
Writes-trans None b c xs ys p q = tt
Writes-trans (Some x) None c xs ys p q = absurd p
Writes-trans (Some x) (Some y) None xs ys p q = absurd q
Writes-trans (Some x) (Some y) (Some z) xs ys p q = q ∙ ap (λ l. l ++ ys) p ∙ append_assoc (written x) xs ys

-- a talk that goes on has the bytes written that its events send
pub Writes-of_GoesOn : (a b : Option (List TalkEvent)) (es : List TalkEvent) → GoesOn a b es → Writes a b (written es)
Writes-of_GoesOn None b es p = tt
Writes-of_GoesOn (Some x) None es p = absurd p
Writes-of_GoesOn (Some x) (Some y) es p = ap written p ∙ written-append x es

-- bytes that are only sent, or only received
pub ruleset two_sides = (written-outs, heard-ins)

-- bytes that are not on a side
pub ruleset other_sides = (written-ins, heard-outs)

-- sides, and events, of two parts
pub ruleset parts = (written-append, heard-append, outs-append, ins-append)

-- bytes that are told as sent
pub ruleset told_as_sent = (Appends-of_GoesOn, GoesOn-of_Appends)

-- events that tell their bytes
pub ruleset told_bytes = (outs-injective, ins-injective)
