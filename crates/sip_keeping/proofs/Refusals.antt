-- Words are refused at one number at most, and words of a command at none; they are of one command.
use Rattle.std.proofs.Common.{◌≡◌, ◌≢◌, ℕ, ◌+◌, ◌^◌, ◌<◌, ◌≤◌, Option, None, Some, List, [], ◌++◌, length, get_or, take, drop, sym, refl, ap, subst, ◌∙◌, inl, inr, arith}
use Rattle.std.specs.Prelude.{codes, decimal, ◌==◌, if◌then◌else◌}
use Rattle.std.proofs.lemmas.Bool.{cases_lt}
use Rattle.std.proofs.lemmas.Fmt.{decimal_injective, digits_decimal}
use Rattle.std.proofs.lemmas.Str.Parse.{not_in_digits}
use Rattle.std.proofs.lemmas.List.{append_assoc, append-nil, take-append-drop, take-take}
use Rattle.sip_stream.specs.declared.form.Form.{Form}
use Rattle.sip_sketch.specs.declared.kind.SeatKind.{SeatKind}
use Rattle.sip_words.specs.Shapes.{IsDepth, IsStoredWord}
use Rattle.sip_words.specs.Words.{word}
use Rattle.sip_words.proofs.Decimals.{digits}
use Rattle.sip_words.proofs.QueryWords.{same_parts}
use Rattle.sip_words.proofs.Refusals.{one_at_most}
use Rattle.sip_words.proofs.Stopping.{depth_once}
use Rattle.sip_words.proofs.StreamWords.{stored_once}
use Rattle.sip_keeping.specs.declared.command.SketchCommand.{SketchCommand}
use Rattle.sip_keeping.specs.declared.command.SketchCommand.TheVariants as command
use Rattle.sip_keeping.specs.declared.verb.SketchVerb.{SketchVerb}
use Rattle.sip_keeping.specs.declared.verb.SketchVerb.TheVariants as verb
use Rattle.sip_keeping.specs.Refusing.{AreRefusedAt, BeginSome}
use Rattle.sip_keeping.specs.Words.{AreSeats, IsCount, IsPart, Spells, SpellsBegin, SpellsWatch, verb_word}
use Rattle.sip_keeping.proofs.Numbers.{lacks_slash}
use Rattle.sip_keeping.proofs.SeatWords.{seats_behind}

-- ---- of whatever commands

module _ {C : Type 0} (Says : C → List (List ℕ) → Type 0) where
  -- fewer words begin a command too
  begin_fewer : (words : List (List ℕ)) (m n : ℕ) → m ≤ n → BeginSome Says (take n words) → BeginSome Says (take m words)
  begin_fewer words m n fewer (c, rest, is) =
      let front = take-take m n words fewer in
      let split : take n words ≡ take m words ++ drop m (take n words) = sym (rw front at (take-append-drop m (take n words))) in
      let whole : take n words ++ rest ≡ take m words ++ (drop m (take n words) ++ rest) = ap (λ ws. ws ++ rest) split ∙ append_assoc (take m words) (drop m (take n words)) rest in
      (c, drop m (take n words) ++ rest, subst (Says c) whole is)

  refused_before : (words : List (List ℕ)) (m n : ℕ) → m < n → AreRefusedAt Says words m → AreRefusedAt Says words n → ⊥
  refused_before words m n less first second =
      elim (cases_lt m (length words)) [
        | inl more ↦ first.here more (begin_fewer words (m + 1) n (omega arith) second.before)
        | inr least ↦ (let one = (first.short least).0 in let other = (second.short (omega arith)).0 in omega arith)
      ]

  -- words are refused at one number at most
  pub refused_once : (words : List (List ℕ)) (m n : ℕ) → AreRefusedAt Says words m → AreRefusedAt Says words n → m ≡ n
  refused_once words = one_at_most (AreRefusedAt Says words) (refused_before words)

  -- words of a command are refused at no number
  pub spelled_not_refused : (words : List (List ℕ)) (c : C) (n : ℕ) → Says c words → AreRefusedAt Says words n → ⊥
  spelled_not_refused words c n says refused =
      elim (cases_lt n (length words)) [
        | inl more ↦ refused.here more (c, drop (n + 1) words, subst (Says c) (sym (take-append-drop (n + 1) words)) says)
        | inr least ↦ (refused.short least).1 c says
      ]

-- ---- of those that keep a sketch

-- one word is one part
part_once : (p q n m : ℕ) (w : List ℕ) → IsPart p n w → IsPart q m w → (p ≡ q) × (n ≡ m)
part_once p q n m w (one, few, small, is) (one', few', small', also) =
    let parts = same_parts 47 (decimal p) (decimal q) (decimal n) (decimal m) (lacks_slash p (omega arith)) (lacks_slash q (omega arith)) (sym is ∙ also) in
    (decimal_injective p q (omega arith) (omega arith) parts.0, decimal_injective n m (omega arith) (omega arith) parts.1)

-- and one count, where the sign is no number
count_once : (sign : List ℕ) (least : ℕ) (n m : Option ℕ) (w : List ℕ) → ((k : ℕ) → k < 2 ^ 64 → sign ≢ decimal k) → IsCount sign least n w → IsCount sign least m w → n ≡ m
count_once sign least None None w differs is also = refl
count_once sign least None (Some m) w differs is (low, high, also) = absurd (differs m (omega arith) (sym is ∙ also))
count_once sign least (Some n) None w differs (low, high, is) also = absurd (differs n (omega arith) (sym also ∙ is))
count_once sign least (Some n) (Some m) w differs (low, high, is) (low', high', also) =
    ap Some (decimal_injective n m (omega arith) (omega arith) (sym is ∙ also))

-- words ask for one list of seats
kinds_once : (words : List (List ℕ)) (kinds others : List SeatKind) → AreSeats words kinds → AreSeats words others → length kinds ≤ 64 → length others ≤ 64 → kinds ≡ others
kinds_once words kinds others are also few most =
    let behind = seats_behind words [] kinds others are (subst (λ ws. AreSeats ws others) (sym (append-nil words)) also) few most in
    sym (behind.1 ∙ (ap (λ more. kinds ++ more) behind.2 ∙ append-nil kinds))

-- no decimal number is one of the signs
no_plus : (k : ℕ) → k < 2 ^ 64 → codes "+" ≢ decimal k
no_plus k small is = not_in_digits digits (decimal k) 43 (digits_decimal digits k small) (λ within. omega arith) 0 (let long = ap length is in omega arith) (sym (ap (λ w. get_or w 0 0) is))

no_minus : (k : ℕ) → k < 2 ^ 64 → codes "-" ≢ decimal k
no_minus k small is = not_in_digits digits (decimal k) 45 (digits_decimal digits k small) (λ within. omega arith) 0 (let long = ap length is in omega arith) (sym (ap (λ w. get_or w 0 0) is))

-- the verb of a command
abbrev verb_of : SketchCommand → SketchVerb
verb_of (command.Begin d part parts kinds) = verb.Begin
verb_of (command.Watch form at every) = verb.Watch
verb_of (command.Merge parts) = verb.Merge
verb_of command.Seats = verb.Seats

word_of : (c : SketchCommand) (words : List (List ℕ)) → Spells c words → word words 0 ≡ verb_word (verb_of c)
word_of (command.Begin d part parts kinds) words s = ap (λ ws. word ws 0) s.order
word_of (command.Watch form at every) words s = ap (λ ws. word ws 0) s.order
word_of (command.Merge parts) words s = ap (λ ws. word ws 0) s.order
word_of command.Seats words s = ap (λ ws. word ws 0) s.order

-- the verb that a word is, by its first letter
abbrev lettered : List ℕ → SketchVerb
lettered w =
    if get_or w 0 0 == 98 then verb.Begin else (
    if get_or w 0 0 == 119 then verb.Watch else (
    if get_or w 0 0 == 109 then verb.Merge else verb.Seats))

lettered_word : (v : SketchVerb) → lettered (verb_word v) ≡ v
lettered_word verb.Begin = refl
lettered_word verb.Watch = refl
lettered_word verb.Merge = refl
lettered_word verb.Seats = refl

verbs_agree : (words : List (List ℕ)) (c d : SketchCommand) → Spells c words → Spells d words → verb_of c ≡ verb_of d
verbs_agree words c d s t =
    sym (lettered_word (verb_of c)) ∙ (ap lettered (sym (word_of c words s) ∙ word_of d words t) ∙ lettered_word (verb_of d))

begin_once : (words : List (List ℕ)) (d e p q n m : ℕ) (kinds others : List SeatKind) → SpellsBegin d p n kinds words → SpellsBegin e q m others words → (d ≡ e) × (p ≡ q) × (n ≡ m) × (kinds ≡ others)
begin_once words d e p q n m kinds others s t =
    let depth = depth_once (word words 3) d e (subst (IsDepth d) (sym (ap (λ ws. word ws 3) s.order)) s.deep) (subst (IsDepth e) (sym (ap (λ ws. word ws 3) t.order)) t.deep) in
    let part = part_once p q n m (word words 4) (subst (IsPart p n) (sym (ap (λ ws. word ws 4) s.order)) s.within) (subst (IsPart q m) (sym (ap (λ ws. word ws 4) t.order)) t.within) in
    let seats = kinds_once (drop 5 words) kinds others (subst (λ ws. AreSeats ws kinds) (sym (ap (drop 5) s.order)) s.asked) (subst (λ ws. AreSeats ws others) (sym (ap (drop 5) t.order)) t.asked) s.most t.most in
    (depth, part.0, part.1, seats)

watch_once : (words : List (List ℕ)) (f g : Form) (at at' every every' : Option ℕ) → SpellsWatch f at every words → SpellsWatch g at' every' words → (f ≡ g) × (at ≡ at') × (every ≡ every')
watch_once words f g at at' every every' s t = (
  stored_once f g (word words 2) (subst (IsStoredWord f) (sym (ap (λ ws. word ws 2) s.order)) s.stored) (subst (IsStoredWord g) (sym (ap (λ ws. word ws 2) t.order)) t.stored),
  count_once (codes "+") 0 at at' (word words 3) no_plus (subst (IsCount (codes "+") 0 at) (sym (ap (λ ws. word ws 3) s.order)) s.begins) (subst (IsCount (codes "+") 0 at') (sym (ap (λ ws. word ws 3) t.order)) t.begins),
  count_once (codes "-") 1 every every' (word words 4) no_minus (subst (IsCount (codes "-") 1 every) (sym (ap (λ ws. word ws 4) s.order)) s.stores) (subst (IsCount (codes "-") 1 every') (sym (ap (λ ws. word ws 4) t.order)) t.stores),
)

-- words are of one command
pub command_once : (words : List (List ℕ)) (c d : SketchCommand) → Spells c words → Spells d words → c ≡ d
command_once words (command.Begin d p n kinds) (command.Begin e q m others) s t =
    let one = begin_once words d e p q n m kinds.items others.items s t in
    let all : kinds ≡ others = ap (λ items. record { items = items }) one.3 in
    rw (one.0, one.1, one.2, all) refl
command_once words (command.Watch f at every) (command.Watch g at' every') s t =
    let one = watch_once words f g at at' every every' s t in
    rw (one.0, one.1, one.2) refl
command_once words (command.Merge n) (command.Merge m) s t =
    let long = ap length s.order in
    let long' = ap length t.order in
    let count = s.count in
    let count' = t.count in
    ap command.Merge (omega arith)
command_once words command.Seats command.Seats s t = refl
command_once words c d s t = absurd (let same = verbs_agree words c d s t in cc)
