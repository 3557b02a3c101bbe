-- What a crash may leave behind a talk in parts, and behind a front of a replacement's steps.
use Rattle.std.proofs.Common.{◌≡◌, ℕ, zero, suc, ◌+◌, ◌<◌, ◌≤◌, List, [], ◌∷◌, ◌++◌, map, length, take, Some, refl, sym, ap, ◌∙◌, arith, append_assoc, append-nil}
use Rattle.std.proofs.Math.Seq.{take-length}
use Rattle.std.proofs.lemmas.List.{length-append, length-map, take_all, take_min}
use Rattle.std.proofs.lemmas.List.Elements.{Contains-append_right}
use Rattle.std.specs.Prelude.{Contains, min, Result, Ok, Err, MatchResult}
use Rattle.std.specs.declared.option.Option.{Option}
use Rattle.sip_ports.specs.declared.port.TalkEvent.{TalkEvent}
use Rattle.sip_ports.specs.declared.port.TalkEvent.TheVariants.{Out, In, Ended, Fresh, Stored, Renames, Kept}
use Rattle.sip_ports.specs.Ports.{GoesOn, Hears, Sends, outs, ins, received, written, heard}
use Rattle.sip_ports.specs.Memory.{desk_file, desk_start, desk_talk}
use Rattle.sip_ports.specs.declared.memory_desk.MemoryDesk.{MemoryDesk}
use Rattle.sip_ports.specs.Desk.{IsOfLink, Loads, beside_after, file_after, held_after, holds_now, loaded, may_hold, steps}

only : (x : Option (List ℕ)) → Contains (x ∷ []) x
only x = (0, omega arith, refl)

-- a talk in parts
pub held_after-append : (held : List (Option (List ℕ))) (beside : List ℕ) (talk more : List TalkEvent)
    → held_after held beside (talk ++ more) ≡ held_after (held_after held beside talk) (beside_after beside talk) more
held_after-append held beside [] more = refl
held_after-append held beside (Fresh ∷ talk) more = held_after-append held [] talk more
held_after-append held beside (Stored b ∷ talk) more = held_after-append held (beside ++ b ∷ []) talk more
held_after-append held beside (Renames ∷ talk) more = held_after-append (held ++ Some beside ∷ []) beside talk more
held_after-append held beside (Kept ∷ talk) more = held_after-append (Some beside ∷ []) beside talk more
held_after-append held beside (Out _ ∷ talk) more = held_after-append held beside talk more
held_after-append held beside (In _ ∷ talk) more = held_after-append held beside talk more
held_after-append held beside (Ended ∷ talk) more = held_after-append held beside talk more

pub beside_after-append : (beside : List ℕ) (talk more : List TalkEvent)
    → beside_after beside (talk ++ more) ≡ beside_after (beside_after beside talk) more
beside_after-append beside [] more = refl
beside_after-append beside (Fresh ∷ talk) more = beside_after-append [] talk more
beside_after-append beside (Stored b ∷ talk) more = beside_after-append (beside ++ b ∷ []) talk more
beside_after-append beside (Renames ∷ talk) more = beside_after-append beside talk more
beside_after-append beside (Kept ∷ talk) more = beside_after-append beside talk more
beside_after-append beside (Out _ ∷ talk) more = beside_after-append beside talk more
beside_after-append beside (In _ ∷ talk) more = beside_after-append beside talk more
beside_after-append beside (Ended ∷ talk) more = beside_after-append beside talk more

-- the link does nothing to the file
pub held_after-of_link : (held : List (Option (List ℕ))) (beside : List ℕ) (talk : List TalkEvent)
    → IsOfLink talk → held_after held beside talk ≡ held
held_after-of_link held beside [] h = refl
held_after-of_link held beside (Fresh ∷ talk) h = absurd h
held_after-of_link held beside (Stored b ∷ talk) h = absurd h
held_after-of_link held beside (Renames ∷ talk) h = absurd h
held_after-of_link held beside (Kept ∷ talk) h = absurd h
held_after-of_link held beside (Out _ ∷ talk) h = held_after-of_link held beside talk h
held_after-of_link held beside (In _ ∷ talk) h = held_after-of_link held beside talk h
held_after-of_link held beside (Ended ∷ talk) h = held_after-of_link held beside talk h

pub may_hold-append : (start : Option (List ℕ)) (talk more : List TalkEvent)
    → may_hold start (talk ++ more) ≡ held_after (may_hold start talk) (beside_after [] talk) more
may_hold-append start talk more = held_after-append (start ∷ []) [] talk more

pub may_hold-of_link : (start : Option (List ℕ)) (talk more : List TalkEvent)
    → IsOfLink more → may_hold start (talk ++ more) ≡ may_hold start talk
may_hold-of_link start talk more h =
    may_hold-append start talk more ∙ held_after-of_link (may_hold start talk) (beside_after [] talk) more h

pub IsOfLink-append : (talk more : List TalkEvent) → IsOfLink talk → IsOfLink more → IsOfLink (talk ++ more)
IsOfLink-append [] more h k = k
IsOfLink-append (Fresh ∷ talk) more h k = absurd h
IsOfLink-append (Stored b ∷ talk) more h k = absurd h
IsOfLink-append (Renames ∷ talk) more h k = absurd h
IsOfLink-append (Kept ∷ talk) more h k = absurd h
IsOfLink-append (Out _ ∷ talk) more h k = IsOfLink-append talk more h k
IsOfLink-append (In _ ∷ talk) more h k = IsOfLink-append talk more h k
IsOfLink-append (Ended ∷ talk) more h k = IsOfLink-append talk more h k

pub IsOfLink-outs : (bytes : List ℕ) → IsOfLink (outs bytes)
IsOfLink-outs [] = tt
IsOfLink-outs (b ∷ bytes) = IsOfLink-outs bytes

pub IsOfLink-ins : (bytes : List ℕ) → IsOfLink (ins bytes)
IsOfLink-ins [] = tt
IsOfLink-ins (b ∷ bytes) = IsOfLink-ins bytes

-- behind some of the bytes
storing : (held : List (Option (List ℕ))) (beside bytes : List ℕ) (n : ℕ) → n ≤ length bytes
    → held_after held beside (take n (map Stored bytes ++ (Renames ∷ Kept ∷ []))) ≡ held
storing held beside bytes zero h = refl
storing held beside [] (suc n) h = absurd (omega (arith, h))
storing held beside (b ∷ bytes) (suc n) h = storing held (beside ++ b ∷ []) bytes n (omega (arith, h))

-- behind all of them, and some steps more
stored : (held : List (Option (List ℕ))) (beside bytes : List ℕ) (m n : ℕ) → m ≡ length bytes + n
    → held_after held beside (take m (map Stored bytes ++ (Renames ∷ Kept ∷ [])))
    ≡ held_after held (beside ++ bytes) (take n (Renames ∷ Kept ∷ []))
stored held beside [] m n e =
    let same : m ≡ n = omega (arith, e) in
    ap (λ k. held_after held beside (take k (Renames ∷ Kept ∷ []))) same ∙ ap (λ x. held_after held x (take n (Renames ∷ Kept ∷ []))) (sym (append-nil beside))
stored held beside (b ∷ bytes) zero n e = absurd (omega (arith, e))
stored held beside (b ∷ bytes) (suc m) n e =
    stored held (beside ++ b ∷ []) bytes m n (omega (arith, e)) ∙ ap (λ x. held_after held x (take n (Renames ∷ Kept ∷ []))) (append_assoc beside (b ∷ []) bytes)

-- the file may have what it might have before, until the name changes
pub held_before : (held : List (Option (List ℕ))) (beside bytes : List ℕ) (n : ℕ) → n < length bytes + 2
    → held_after held beside (take n (steps bytes)) ≡ held
held_before held beside bytes zero h = refl
held_before held beside bytes (suc n) h = storing held [] bytes n (omega (arith, h))

-- then these bytes too
pub held_renamed : (held : List (Option (List ℕ))) (beside bytes : List ℕ) (n : ℕ) → n ≡ length bytes + 2
    → held_after held beside (take n (steps bytes)) ≡ held ++ Some bytes ∷ []
held_renamed held beside bytes zero e = absurd (omega (arith, e))
held_renamed held beside bytes (suc n) e = stored held [] bytes n 1 (omega (arith, e))

-- and at last these bytes alone
pub held_kept : (held : List (Option (List ℕ))) (beside bytes : List ℕ)
    → held_after held beside (steps bytes) ≡ Some bytes ∷ []
held_kept held beside bytes =
    let long : length (map Stored bytes ++ (Renames ∷ Kept ∷ [])) ≡ length bytes + 2 =
    length-append (map Stored bytes) (Renames ∷ Kept ∷ []) ∙ ap (λ k. k + 2) (length-map bytes Stored) in
    let whole = take_all (length bytes + 2) (map Stored bytes ++ (Renames ∷ Kept ∷ [])) (omega (arith, long)) in
    ap (held_after held []) (sym whole) ∙ stored held [] bytes (length bytes + 2) 2 refl

pub length-steps : (bytes : List ℕ) → length (steps bytes) ≡ length bytes + 3
length-steps bytes =
    let long = length-append (map Stored bytes) (Renames ∷ Kept ∷ []) in
    omega (arith, long, length-map bytes Stored)

-- neither side of the link sees the file
unseen : (bytes : List ℕ) (n : ℕ) → written (take n (map Stored bytes ++ (Renames ∷ Kept ∷ []))) ≡ []
unseen [] zero = refl
unseen [] (suc zero) = refl
unseen [] (suc (suc zero)) = refl
unseen [] (suc (suc (suc n))) = refl
unseen (b ∷ bytes) zero = refl
unseen (b ∷ bytes) (suc n) = unseen bytes n

unheard : (bytes : List ℕ) (n : ℕ) → heard (take n (map Stored bytes ++ (Renames ∷ Kept ∷ []))) ≡ []
unheard [] zero = refl
unheard [] (suc zero) = refl
unheard [] (suc (suc zero)) = refl
unheard [] (suc (suc (suc n))) = refl
unheard (b ∷ bytes) zero = refl
unheard (b ∷ bytes) (suc n) = unheard bytes n

pub written-steps : (bytes : List ℕ) (n : ℕ) → written (take n (steps bytes)) ≡ []
written-steps bytes zero = refl
written-steps bytes (suc n) = unseen bytes n

pub heard-steps : (bytes : List ℕ) (n : ℕ) → heard (take n (steps bytes)) ≡ []
heard-steps bytes zero = refl
heard-steps bytes (suc n) = unheard bytes n

pub written-whole : (bytes : List ℕ) → written (steps bytes) ≡ []
written-whole bytes = ap written (sym (take-length (steps bytes))) ∙ written-steps bytes (length (steps bytes))

pub heard-whole : (bytes : List ℕ) → heard (steps bytes) ≡ []
heard-whole bytes = ap heard (sym (take-length (steps bytes))) ∙ heard-steps bytes (length (steps bytes))

pub may_hold-before : (start : Option (List ℕ)) (talk : List TalkEvent) (bytes : List ℕ) (n : ℕ) → n < length bytes + 2
    → may_hold start (talk ++ take n (steps bytes)) ≡ may_hold start talk
may_hold-before start talk bytes n h =
    may_hold-append start talk (take n (steps bytes)) ∙ held_before (may_hold start talk) (beside_after [] talk) bytes n h

pub may_hold-renamed : (start : Option (List ℕ)) (talk : List TalkEvent) (bytes : List ℕ) (n : ℕ) → n ≡ length bytes + 2
    → may_hold start (talk ++ take n (steps bytes)) ≡ may_hold start talk ++ Some bytes ∷ []
may_hold-renamed start talk bytes n e =
    may_hold-append start talk (take n (steps bytes)) ∙ held_renamed (may_hold start talk) (beside_after [] talk) bytes n e

pub may_hold-kept : (start : Option (List ℕ)) (talk : List TalkEvent) (bytes : List ℕ)
    → may_hold start (talk ++ steps bytes) ≡ Some bytes ∷ []
may_hold-kept start talk bytes =
    may_hold-append start talk (steps bytes) ∙ held_kept (may_hold start talk) (beside_after [] talk) bytes

-- ---- where there was no crash

pub file_after-append : (file : Option (List ℕ)) (beside : List ℕ) (talk more : List TalkEvent)
    → file_after file beside (talk ++ more) ≡ file_after (file_after file beside talk) (beside_after beside talk) more
file_after-append file beside [] more = refl
file_after-append file beside (Fresh ∷ talk) more = file_after-append file [] talk more
file_after-append file beside (Stored b ∷ talk) more = file_after-append file (beside ++ b ∷ []) talk more
file_after-append file beside (Renames ∷ talk) more = file_after-append (Some beside) beside talk more
file_after-append file beside (Kept ∷ talk) more = file_after-append (Some beside) beside talk more
file_after-append file beside (Out _ ∷ talk) more = file_after-append file beside talk more
file_after-append file beside (In _ ∷ talk) more = file_after-append file beside talk more
file_after-append file beside (Ended ∷ talk) more = file_after-append file beside talk more

pub file_after-of_link : (file : Option (List ℕ)) (beside : List ℕ) (talk : List TalkEvent)
    → IsOfLink talk → file_after file beside talk ≡ file
file_after-of_link file beside [] h = refl
file_after-of_link file beside (Fresh ∷ talk) h = absurd h
file_after-of_link file beside (Stored b ∷ talk) h = absurd h
file_after-of_link file beside (Renames ∷ talk) h = absurd h
file_after-of_link file beside (Kept ∷ talk) h = absurd h
file_after-of_link file beside (Out _ ∷ talk) h = file_after-of_link file beside talk h
file_after-of_link file beside (In _ ∷ talk) h = file_after-of_link file beside talk h
file_after-of_link file beside (Ended ∷ talk) h = file_after-of_link file beside talk h

-- behind a front of a replacement: before the rename, and from it on
file_storing : (file : Option (List ℕ)) (beside bytes : List ℕ) (n : ℕ) → n ≤ length bytes
    → file_after file beside (take n (map Stored bytes ++ (Renames ∷ Kept ∷ []))) ≡ file
file_storing file beside bytes zero h = refl
file_storing file beside [] (suc n) h = absurd (omega (arith, h))
file_storing file beside (b ∷ bytes) (suc n) h = file_storing file (beside ++ b ∷ []) bytes n (omega (arith, h))

file_renamed : (file : Option (List ℕ)) (beside bytes : List ℕ) (n : ℕ) → length bytes < n
    → file_after file beside (take n (map Stored bytes ++ (Renames ∷ Kept ∷ []))) ≡ Some (beside ++ bytes)
file_renamed file beside bytes zero h = absurd (omega (arith, h))
file_renamed file beside [] (suc zero) h = ap Some (sym (append-nil beside))
file_renamed file beside [] (suc (suc zero)) h = ap Some (sym (append-nil beside))
file_renamed file beside [] (suc (suc (suc n))) h = ap Some (sym (append-nil beside))
file_renamed file beside (b ∷ bytes) (suc n) h =
    file_renamed file (beside ++ b ∷ []) bytes n (omega (arith, h)) ∙ ap Some (append_assoc beside (b ∷ []) bytes)

pub holds_now-of_link : (start : Option (List ℕ)) (talk more : List TalkEvent)
    → IsOfLink more → holds_now start (talk ++ more) ≡ holds_now start talk
holds_now-of_link start talk more h =
    file_after-append start [] talk more ∙ file_after-of_link (holds_now start talk) (beside_after [] talk) more h

pub holds_now-before : (start : Option (List ℕ)) (talk : List TalkEvent) (bytes : List ℕ) (n : ℕ) → n < length bytes + 2
    → holds_now start (talk ++ take n (steps bytes)) ≡ holds_now start talk
holds_now-before start talk bytes zero h = ap (holds_now start) (append-nil talk)
holds_now-before start talk bytes (suc n) h =
    file_after-append start [] talk (take (suc n) (steps bytes)) ∙ file_storing (holds_now start talk) [] bytes n (omega (arith, h))

pub holds_now-renamed : (start : Option (List ℕ)) (talk : List TalkEvent) (bytes : List ℕ) (n : ℕ) → length bytes + 2 ≤ n
    → holds_now start (talk ++ take n (steps bytes)) ≡ Some bytes
holds_now-renamed start talk bytes zero h = absurd (omega (arith, h))
holds_now-renamed start talk bytes (suc n) h =
    file_after-append start [] talk (take (suc n) (steps bytes)) ∙ file_renamed (holds_now start talk) [] bytes n (omega (arith, h))

-- what the file has is what it may have
pub now-among : (held : List (Option (List ℕ))) (file : Option (List ℕ)) (beside : List ℕ) (talk : List TalkEvent)
    → Contains held file → Contains (held_after held beside talk) (file_after file beside talk)
now-among held file beside [] h = h
now-among held file beside (Fresh ∷ talk) h = now-among held file [] talk h
now-among held file beside (Stored b ∷ talk) h = now-among held file (beside ++ b ∷ []) talk h
now-among held file beside (Renames ∷ talk) h =
    now-among (held ++ Some beside ∷ []) (Some beside) beside talk (Contains-append_right held (Some beside ∷ []) (Some beside) (only (Some beside)))
now-among held file beside (Kept ∷ talk) h = now-among (Some beside ∷ []) (Some beside) beside talk (only (Some beside))
now-among held file beside (Out _ ∷ talk) h = now-among held file beside talk h
now-among held file beside (In _ ∷ talk) h = now-among held file beside talk h
now-among held file beside (Ended ∷ talk) h = now-among held file beside talk h

pub holds_now-among : (start : Option (List ℕ)) (talk : List TalkEvent) → Contains (may_hold start talk) (holds_now start talk)
holds_now-among start talk = now-among (start ∷ []) start [] talk (only start)

-- the file without a crash
pub ruleset without_crash = (holds_now-of_link, holds_now-before, holds_now-renamed, holds_now-among)

-- bytes of the link leave the file
pub holds_now-Sends : {E : Type 0} (start : Option (List ℕ)) (old new : List TalkEvent) (r : Result ℕ E) (buf : List ℕ)
    → Sends (Some old) (Some new) r buf → holds_now start new ≡ holds_now start old
holds_now-Sends start old new (Ok n) buf h =
    ap (holds_now start) h ∙ holds_now-of_link start old (outs (take n buf)) (IsOfLink-outs (take n buf))
holds_now-Sends start old new (Err e) buf h = ap (holds_now start) h ∙ holds_now-of_link start old [] tt

pub IsOfLink-received : (n : ℕ) (buf : List ℕ) → IsOfLink (received n buf)
IsOfLink-received zero [] = tt
IsOfLink-received zero (b ∷ buf) = tt
IsOfLink-received (suc n) buf = IsOfLink-ins (take (suc n) buf)

pub holds_now-Hears : {E : Type 0} (start : Option (List ℕ)) (old new : List TalkEvent) (r : Result ℕ E) (buf : List ℕ)
    → Hears (Some old) (Some new) r buf → holds_now start new ≡ holds_now start old
holds_now-Hears start old new (Ok n) buf h =
    ap (holds_now start) h ∙ holds_now-of_link start old (received n buf) (IsOfLink-received n buf)
holds_now-Hears start old new (Err e) buf h = ap (holds_now start) h ∙ holds_now-of_link start old [] tt

-- a desk that answers what its file has answers what it may have
pub Loads-now : (start : Option (List ℕ)) (talk : List TalkEvent) (file came : Option (List ℕ))
    → holds_now start talk ≡ file → came ≡ loaded file → Loads start (Some talk) came
Loads-now start talk file came is e = (holds_now start talk, holds_now-among start talk, e ∙ ap loaded (sym is))

-- a replacement that stopped behind some steps, or that took none
pub Replaces-stopped : {T E : Type 0} (old mid new : List TalkEvent) (bytes : List ℕ) (n : ℕ) (r : Result T E)
    → mid ≡ old → n < length bytes + 3
    → MatchResult r (λ _. new ≡ mid ++ take n (steps bytes)) (λ _. new ≡ mid)
    → (k : ℕ) × (k < length (steps bytes)) × GoesOn (Some old) (Some new) (take k (steps bytes))
Replaces-stopped old mid new bytes n (Ok _) same h is =
    (n, omega (arith, length-steps bytes, h), is ∙ ap (λ talk. talk ++ take n (steps bytes)) same)
Replaces-stopped old mid new bytes n (Err _) same h is =
    (0, omega (arith, length-steps bytes), is ∙ same ∙ sym (append-nil old))

-- the first bytes, where there may be fewer
pub take_first : (n k : ℕ) (xs : List ℕ) → k ≡ min (length xs) n → take k xs ≡ take n xs
take_first n k xs e =
    let same : k ≡ min n (length xs) = omega (arith, e) in
    ap (λ m. take m xs) same ∙ take_min n xs

-- a desk in memory holds what its talk tells
pub desk_holds : (desk : MemoryDesk) → desk_file desk ≡ holds_now (desk_start desk) (desk_talk desk)
desk_holds desk = sym desk.holds

pub ruleset memory_desks = (desk_holds)

-- what a crash may leave, in parts
pub ruleset parts_of_desks = (may_hold-append, beside_after-append, held_after-append)

-- a replacement's steps, in each of its three parts
pub ruleset crashes = (may_hold-before, may_hold-renamed, may_hold-kept)

-- events of the link alone
pub ruleset of_link = (may_hold-of_link, IsOfLink-append, IsOfLink-outs, IsOfLink-ins)

-- steps that neither side of the link sees
pub ruleset unseen_steps = (written-steps, heard-steps, written-whole, heard-whole, length-steps)
