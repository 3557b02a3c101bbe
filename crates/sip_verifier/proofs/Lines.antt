-- A line that is written in parts: what has gone out, what is gathered, and what is to come.
use Rattle.std.proofs.Common.{◌≡◌, ℕ, ◌+◌, ◌<◌, ◌==◌, Bool, true, false, List, [], ◌∷◌, ◌++◌, length, take, drop, get_or, if◌then◌else◌, Option, Result, Ok, Err, IsErr, MatchResult, refl, sym, ap, ◌∙◌, append_assoc, append-nil, arith}
use Rattle.std.specs.Prelude.{codes}
use Rattle.std.specs.List.{flat_map}
use Rattle.std.proofs.lemmas.Bool.Decides.{Decides-eqb}
use Rattle.std.proofs.lemmas.Grind.{flat_map-append}
use Rattle.std.proofs.lemmas.List.{map-append, take_all, take_more, take-append-drop, length-append, length-take-le, flat_map_more, take_at}
use Rattle.sip_ports.specs.declared.port.PortStop.{PortStop}
use Rattle.sip_ports.specs.declared.port.TalkEvent.{TalkEvent}
use Rattle.sip_ports.specs.declared.port.TalkEvent.TheVariants.{Out}
use Rattle.sip_ports.specs.Ports.{GoesOn, SendsWhole, outs}
use Rattle.sip_ports.proofs.TalkLemmas.{GoesOn-trans}
use Rattle.sip_vector.specs.declared.update.Entry.{Entry}
use Rattle.sip_vector.specs.declared.query.Query.{Query}
use Rattle.sip_vector.specs.Answers.{pairs}
use Rattle.sip_verifier.specs.Reports.{answer_text, line, pair_text, query_word}

-- bytes that are sent one part after another
pub sent_more : (a b c : Option (List TalkEvent)) (sent more : List ℕ) → GoesOn a b (outs sent) → GoesOn b c (outs more) → GoesOn a c (outs (sent ++ more))
sent_more a b c sent more first second = rw (map-append Out sent more) (GoesOn-trans a b c (outs sent) (outs more) first second)

-- the second part of the first list moved to the second list
regroup : {A : Type 0} (h a b t : List A) → (h ++ (a ++ b)) ++ t ≡ (h ++ a) ++ (b ++ t)
regroup h a b t = simp append_assoc

-- a front of a text: what was sent, and a front of what follows it
pub front_sent : (a b c : Option (List TalkEvent)) (sent gathered rest text : List ℕ) (n : ℕ) → GoesOn a b (outs sent) → n < length gathered → GoesOn b c (outs (take n gathered)) → text ≡ (sent ++ gathered) ++ rest → (m : ℕ) × (m < length text) × GoesOn a c (outs (take m text))
front_sent a b c sent gathered rest text n first fewer second is =
    let counted : length text ≡ length sent + length gathered + length rest = rw is (omega (arith, length-append (sent ++ gathered) rest, length-append sent gathered)) in
    let front : text ≡ (sent ++ take n gathered) ++ (drop n gathered ++ rest) = is ∙ (ap (λ x. (sent ++ x) ++ rest) (sym (take-append-drop n gathered)) ∙ regroup sent (take n gathered) (drop n gathered) rest) in
    let shorter : length (sent ++ take n gathered) ≡ length sent + n = omega (arith, length-append sent (take n gathered), length-take-le n gathered (omega arith)) in
    let cut : take (length sent + n) text ≡ sent ++ take n gathered = rw front (take_at (sent ++ take n gathered) (drop n gathered ++ rest) (length sent + n) shorter) in
    (length sent + n, omega arith, rw cut (sent_more a b c sent (take n gathered) first second))

-- the last part
pub whole_sent : (a b c : Option (List TalkEvent)) (r : Result (Unit {0}) PortStop) (sent gathered text : List ℕ) → GoesOn a b (outs sent) → SendsWhole b c r gathered → text ≡ sent ++ gathered → SendsWhole a c r text
whole_sent a b c (Ok x) sent gathered text first second is = rw is (sent_more a b c sent gathered first second)
whole_sent a b c (Err e) sent gathered text first (n, fewer, second) is = front_sent a b c sent gathered [] text n first fewer second (rw append-nil is)

-- a space and a pair
abbrev pub spaced : Entry → List ℕ
spaced e = 32 ∷ pair_text e

-- that there are no pairs
abbrev pub none_if : List Entry → List ℕ
none_if [] = codes " none"
none_if (e ∷ es) = []

pub none_is : (entries : List Entry) (is_empty : Bool) → is_empty ≡ (length entries == 0) → (if is_empty then codes " none" else []) ≡ none_if entries
none_is [] true is = refl
none_is [] false is = absurd cc
none_is (e ∷ es) true is = absurd (let zero = (Decides-eqb (length (e ∷ es)) 0).0 (sym is) in omega arith)
none_is (e ∷ es) false is = refl

-- the line's front with its first pairs
abbrev pub so_far : Query → List Entry → ℕ → List ℕ
so_far query entries count = (query_word query ++ none_if entries) ++ flat_map spaced (take count entries)

-- one pair more
pub so_far_more : (query : Query) (entries : List Entry) (i : ℕ) (d : Entry) → i < length entries → so_far query entries (i + 1) ≡ so_far query entries i ++ spaced (get_or entries i d)
so_far_more query entries i d more =
    let longer = take_more entries i d more in
    rw longer (sym (flat_map_more spaced (query_word query ++ none_if entries) (take i entries) (get_or entries i d)))

-- what follows the query's word
answered : (entries : List Entry) → codes " " ++ answer_text (pairs entries) ≡ none_if entries ++ flat_map spaced entries
answered [] = refl
answered (e ∷ es) = refl

-- all pairs and a line feed
pub line_is : (query : Query) (entries : List Entry) → line query (pairs entries) ≡ so_far query entries (length entries) ++ 10 ∷ []
line_is query entries =
    let all : take (length entries) entries ≡ entries = take_all (length entries) entries (omega arith) in
    let word = query_word query in
    let front : (word ++ codes " ") ++ answer_text (pairs entries) ≡ (word ++ none_if entries) ++ flat_map spaced entries =
    append_assoc word (codes " ") (answer_text (pairs entries)) ∙ (ap (λ text. word ++ text) (answered entries) ∙ sym (append_assoc word (none_if entries) (flat_map spaced entries))) in
    rw all (ap (λ text. text ++ 10 ∷ []) front)

-- what is to come
pub to_come : (query : Query) (entries : List Entry) (i : ℕ) → (rest : List ℕ) × (line query (pairs entries) ≡ so_far query entries i ++ rest)
to_come query entries i =
    let head = query_word query ++ none_if entries in
    let first = flat_map spaced (take i entries) in
    let others = flat_map spaced (drop i entries) in
    let all : flat_map spaced (take (length entries) entries) ≡ first ++ others =
    ap (flat_map spaced) (take_all (length entries) entries (omega arith) ∙ sym (take-append-drop i entries)) ∙ flat_map-append spaced (take i entries) (drop i entries) in
    (others ++ 10 ∷ [], line_is query entries ∙ (ap (λ text. (head ++ text) ++ 10 ∷ []) all ∙ regroup head first others (10 ∷ [])))

-- a text that grew, of which more was sent and to which more was gathered
pub grown : (text more pair sent part before after gathered : List ℕ) → more ≡ text ++ pair → text ≡ sent ++ before → before ≡ part ++ after → gathered ≡ after ++ pair → more ≡ (sent ++ part) ++ gathered
grown text more pair sent part before after gathered longer is parts items =
    longer ∙ (ap (λ front. front ++ pair) (is ∙ ap (λ front. sent ++ front) parts) ∙ (regroup sent part after pair ∙ ap (λ tail. (sent ++ part) ++ tail) (sym items)))

-- the line, in what was sent, what is gathered and what is to come
pub in_parts : (query : Query) (entries : List Entry) (i : ℕ) (sent gathered : List ℕ) → so_far query entries i ≡ sent ++ gathered → (rest : List ℕ) × (line query (pairs entries) ≡ (sent ++ gathered) ++ rest)
in_parts query entries i sent gathered is =
    let (rest, whole) = to_come query entries i in
    (rest, whole ∙ ap (λ part. part ++ rest) is)

-- an error that was handed on says what the call's own error said
pub at_err : (P : Type 0) {Q : Type 0} (r : Result (Unit {0}) PortStop) → IsErr r → Q → MatchResult r (λ _. P) (λ _. Q)
at_err P (Ok x) is q = absurd cc
at_err P (Err e) is q = q
