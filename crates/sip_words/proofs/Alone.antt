-- Words that are one word alone or two, and that one which begins with a dash is no command.
use Rattle.std.proofs.Common.{◌≡◌, ◌≢◌, ℕ, List, [], ◌∷◌, get_or, Option, None, Some, Bor, MatchOption, false, ap, sym, ◌∙◌, arith}
use Rattle.std.specs.Prelude.{is_some}
use Rattle.std.specs.List.{slice_get}
use Rattle.std.specs.Option.{option_copied}
use Rattle.sip_words.specs.declared.verb.Verb.{Verb}
use Rattle.sip_words.specs.declared.verb.Verb.TheVariants.{Verify, Help, Audit, Show, Convert, Gen, Lines, Widen, Play, Lookup, HelpLook, Moments, HelpMoments, Panel, Serve}
use Rattle.sip_words.specs.Verbs.{verb_word}
use Rattle.sip_words.specs.Words.{word, IsRefusedAt}
use Rattle.sip_words.proofs.Beginning.{refused_verb}

-- the word that the first get gives is the only one, where the second gives none
pub alone : (words : List (List ℕ)) (first second : Option (Bor (List ℕ))) → option_copied first ≡ slice_get words 0 → option_copied second ≡ slice_get words 1 → is_some second ≡ false → MatchOption first ((w : List ℕ) → words ≢ w ∷ []) (λ w. words ≡ w.now ∷ [])
alone [] None second is also none = λ w same. cc
alone [] (Some w) second is also none = absurd (let h : Some w.now ≡ None = is in cc)
alone (x ∷ []) None second is also none = absurd (let h : None ≡ Some x = is in cc)
alone (x ∷ []) (Some w) second is also none = let h : Some w.now ≡ Some x = is in cc
alone (x ∷ (y ∷ rest)) first None is also none = absurd (let h : None ≡ Some y = also in cc)
alone (x ∷ (y ∷ rest)) first (Some z) is also none = absurd (let h = none in cc)

-- no verb begins with a dash
pub no_verb : (w : List ℕ) (verb : Verb) → get_or w 0 0 ≡ 45 → w ≢ verb_word verb
no_verb w Verify dash = λ e. let h : get_or w 0 0 ≡ 118 = ap (λ v. get_or v 0 0) e in omega arith
no_verb w Help dash = λ e. let h : get_or w 0 0 ≡ 104 = ap (λ v. get_or v 0 0) e in omega arith
no_verb w Audit dash = λ e. let h : get_or w 0 0 ≡ 97 = ap (λ v. get_or v 0 0) e in omega arith
no_verb w Show dash = λ e. let h : get_or w 0 0 ≡ 115 = ap (λ v. get_or v 0 0) e in omega arith
no_verb w Convert dash = λ e. let h : get_or w 0 0 ≡ 99 = ap (λ v. get_or v 0 0) e in omega arith
no_verb w Gen dash = λ e. let h : get_or w 0 0 ≡ 103 = ap (λ v. get_or v 0 0) e in omega arith
no_verb w Lines dash = λ e. let h : get_or w 0 0 ≡ 108 = ap (λ v. get_or v 0 0) e in omega arith
no_verb w Widen dash = λ e. let h : get_or w 0 0 ≡ 119 = ap (λ v. get_or v 0 0) e in omega arith
no_verb w Play dash = λ e. let h : get_or w 0 0 ≡ 112 = ap (λ v. get_or v 0 0) e in omega arith
no_verb w Lookup dash = λ e. let h : get_or w 0 0 ≡ 108 = ap (λ v. get_or v 0 0) e in omega arith
no_verb w HelpLook dash = λ e. let h : get_or w 0 0 ≡ 104 = ap (λ v. get_or v 0 0) e in omega arith
no_verb w Moments dash = λ e. let h : get_or w 0 0 ≡ 109 = ap (λ v. get_or v 0 0) e in omega arith
no_verb w HelpMoments dash = λ e. let h : get_or w 0 0 ≡ 104 = ap (λ v. get_or v 0 0) e in omega arith
no_verb w Panel dash = λ e. let h : get_or w 0 0 ≡ 112 = ap (λ v. get_or v 0 0) e in omega arith
no_verb w Serve dash = λ e. let h : get_or w 0 0 ≡ 115 = ap (λ v. get_or v 0 0) e in omega arith

-- one word that begins with a dash is refused at once
pub refused_alone : (words : List (List ℕ)) (w : List ℕ) → words ≡ w ∷ [] → get_or w 0 0 ≡ 45 → IsRefusedAt words 0
refused_alone words w is dash = refused_verb words (λ verb some same. no_verb w verb dash (sym (ap (λ ws. word ws 0) is) ∙ same))

-- the words are two where the third get gives none
pub paired : (words : List (List ℕ)) (a b : List ℕ) (third : Option (Bor (List ℕ))) → Some a ≡ slice_get words 0 → Some b ≡ slice_get words 1 → option_copied third ≡ slice_get words 2 → is_some third ≡ false → words ≡ a ∷ b ∷ []
paired [] a b third one two is none = absurd (let h : Some a ≡ None = one in cc)
paired (x ∷ []) a b third one two is none = absurd (let h : Some b ≡ None = two in cc)
paired (x ∷ (y ∷ [])) a b third one two is none = let h : Some a ≡ Some x = one in let k : Some b ≡ Some y = two in cc
paired (x ∷ (y ∷ (z ∷ rest))) a b None one two is none = absurd (let h : None ≡ Some z = is in cc)
paired (x ∷ (y ∷ (z ∷ rest))) a b (Some w) one two is none = absurd (let h = none in cc)
