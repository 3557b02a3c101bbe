-- The words that ask for a text are no command, and a verb begins no command that keeps or asks a
-- sketch.
use Rattle.std.proofs.Common.{◌≡◌, ◌⊎◌, inl, inr, ℕ, Bool, true, false, true≢false, List, [], ◌∷◌, get_or, Option, None, Some, Bor, refl, sym, ap, ◌∙◌}
use Rattle.std.specs.Prelude.{◌==◌, if◌then◌else◌, IsSome, IfSome}
use Rattle.sip_words.specs.declared.verb.Verb.{Verb}
use Rattle.sip_words.specs.declared.verb.Verb.TheVariants.{Verify, Help, Audit, Show, Convert, Gen, Lines, Widen, Play, Lookup, HelpLook, Moments, HelpMoments, Panel, Serve}
use Rattle.sip_words.specs.Verbs.{verb_word}
use Rattle.sip_words.specs.Words.{IsRefusedAt}
use Rattle.sip_words.proofs.Alone.{refused_alone}
use Rattle.sip_advice.specs.Pages.{AsksHelp, AsksVersion, AsksPart, AsksText, IsSketchPart}

-- the words that ask for a text alone begin with a dash
pub dashed : (w : List ℕ) → AsksHelp w ⊎ AsksVersion w → get_or w 0 0 ≡ 45
dashed w (inl (inl long)) = ap (λ v. get_or v 0 0) long
dashed w (inl (inr short)) = ap (λ v. get_or v 0 0) short
dashed w (inr (inl long)) = ap (λ v. get_or v 0 0) long
dashed w (inr (inr short)) = ap (λ v. get_or v 0 0) short

-- so they are refused at once
pub refused_text : (words : List (List ℕ)) (w : List ℕ) → words ≡ w ∷ [] → AsksHelp w ⊎ AsksVersion w → IsRefusedAt words 0
refused_text words w is asks = refused_alone words w is (dashed w asks)

-- words whose part of the page was found ask for it
pub part_is_text : (words : List (List ℕ)) (r : Option (Bor (List ℕ))) → IfSome r (λ text. AsksPart words text.now) → IsSome r → AsksText words
part_is_text words None is some = absurd (let h = some in cc)
part_is_text words (Some text) is some = inr (text.now, is)

-- whether a command that keeps or asks a sketch begins with a word, by its first letters
abbrev keeps_sketch : List ℕ → Bool
keeps_sketch w =
    let first = get_or w 0 0 in
    if first == 97 then get_or w 1 0 == 115 else (
    if first == 98 then true else (
    if first == 119 then get_or w 1 0 == 97 else (
    if first == 109 then get_or w 1 0 == 101 else (
    if first == 115 then (if get_or w 1 0 == 101 then get_or w 2 0 == 97 else false) else false))))

no_verb : (verb : Verb) → keeps_sketch (verb_word verb) ≡ false
no_verb Verify = refl
no_verb Help = refl
no_verb Audit = refl
no_verb Show = refl
no_verb Convert = refl
no_verb Gen = refl
no_verb Lines = refl
no_verb Widen = refl
no_verb Play = refl
no_verb Lookup = refl
no_verb HelpLook = refl
no_verb Moments = refl
no_verb HelpMoments = refl
no_verb Panel = refl
no_verb Serve = refl

begins_one : (word text : List ℕ) → IsSketchPart word text → keeps_sketch word ≡ true
begins_one word text (inl (is, said)) = ap keeps_sketch is
begins_one word text (inr (inl (is, said))) = ap keeps_sketch is
begins_one word text (inr (inr (inl (is, said)))) = ap keeps_sketch is
begins_one word text (inr (inr (inr (inl (is, said))))) = ap keeps_sketch is
begins_one word text (inr (inr (inr (inr (is, said))))) = ap keeps_sketch is

-- a verb has no part that is about such a command
pub no_sketch_verb : (verb : Verb) (word text : List ℕ) → word ≡ verb_word verb → IsSketchPart word text → ⊥
no_sketch_verb verb word text is part = true≢false (sym (begins_one word text part) ∙ (ap keeps_sketch is ∙ no_verb verb))
