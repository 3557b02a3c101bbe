-- The texts that words ask for in place of a command, and what writing one promises.
use Rattle.std.specs.Prelude.{◌≡◌, ◌⊎◌, ℕ, ◌<◌, List, [], ◌∷◌, length, take, codes, Option}
use Rattle.sip_advice.specs.declared.page_text.TheConstants.{AUDIT_PART, CONVERT_PART, GEN_PART}
use Rattle.sip_advice.specs.declared.page_text.TheConstants.{HELP_PART, HELPLOOK_PART, HELPMOM_PART}
use Rattle.sip_advice.specs.declared.page_text.TheConstants.{LINES_PART, LOOKUP_PART, MOMENTS_PART}
use Rattle.sip_advice.specs.declared.page_text.TheConstants.{PANEL_PART, PLAY_PART, SHOW_PART}
use Rattle.sip_advice.specs.declared.page_text.TheConstants.{VERIFY_PART, WIDEN_PART, SERVE_PART}
use Rattle.sip_advice.specs.declared.page_text.TheConstants.{BEGIN_PART, WATCH_PART, MERGE_PART}
use Rattle.sip_advice.specs.declared.page_text.TheConstants.{SEATS_PART, ASK_PART}
use Rattle.sip_words.specs.declared.verb.Verb.{Verb}
use Rattle.sip_words.specs.declared.verb.Verb.TheVariants.{Verify, Help, Audit, Show, Convert, Gen}
use Rattle.sip_words.specs.declared.verb.Verb.TheVariants.{Lines, Widen, Play, Lookup, HelpLook}
use Rattle.sip_words.specs.declared.verb.Verb.TheVariants.{Moments, HelpMoments, Panel, Serve}
use Rattle.sip_words.specs.Verbs.{verb_word}
use Rattle.sip_ports.specs.declared.port.TalkEvent.{TalkEvent}
use Rattle.sip_ports.specs.Ports.{GoesOn, outs}
use Rattle.sip_verifier.specs.declared.status.Port.TheVariants as ports
use Rattle.sip_verifier.specs.declared.status.Status.{Status}
use Rattle.sip_verifier.specs.declared.status.Status.TheVariants as statuses

-- the words that ask for the page, or for a part of it
abbrev pub AsksHelp : List ℕ → Type 0
AsksHelp word = (word ≡ codes "--help") ⊎ (word ≡ codes "-h")

-- the words that ask for the version
abbrev pub AsksVersion : List ℕ → Type 0
AsksVersion word = (word ≡ codes "--version") ⊎ (word ≡ codes "-V")

-- the part of the page that is about a verb
abbrev pub part_of : Verb → List ℕ
part_of Verify = VERIFY_PART.now
part_of Help = HELP_PART.now
part_of Audit = AUDIT_PART.now
part_of Show = SHOW_PART.now
part_of Convert = CONVERT_PART.now
part_of Gen = GEN_PART.now
part_of Lines = LINES_PART.now
part_of Widen = WIDEN_PART.now
part_of Play = PLAY_PART.now
part_of Lookup = LOOKUP_PART.now
part_of HelpLook = HELPLOOK_PART.now
part_of Moments = MOMENTS_PART.now
part_of HelpMoments = HELPMOM_PART.now
part_of Panel = PANEL_PART.now
part_of Serve = SERVE_PART.now

-- the part that is about a command which keeps or asks a sketch, by the first word of it
abbrev pub IsSketchPart : List ℕ → List ℕ → Type 0
IsSketchPart word text = ((word ≡ codes "begin") × (text ≡ BEGIN_PART.now))
    ⊎ ((word ≡ codes "watch") × (text ≡ WATCH_PART.now))
    ⊎ ((word ≡ codes "merge") × (text ≡ MERGE_PART.now))
    ⊎ ((word ≡ codes "seats") × (text ≡ SEATS_PART.now))
    ⊎ ((word ≡ codes "ask") × (text ≡ ASK_PART.now))

-- the part that is about a command, by the first word of it
abbrev pub IsPart : List ℕ → List ℕ → Type 0
IsPart word text = ((verb : Verb) × (word ≡ verb_word verb) × (text ≡ part_of verb))
    ⊎ IsSketchPart word text

-- the words are the first word of a command and one that asks for help, and this is the command's
-- part of the page
abbrev pub AsksPart : List (List ℕ) → List ℕ → Type 0
AsksPart words text = (first : List ℕ) × (second : List ℕ) × AsksHelp second
    × (words ≡ first ∷ second ∷ []) × IsPart first text

-- no other words ask for a text
abbrev pub AsksText : List (List ℕ) → Type 0
AsksText words =
    ((word : List ℕ) × (AsksHelp word ⊎ AsksVersion word) × (words ≡ word ∷ []))
    ⊎ ((text : List ℕ) × AsksPart words text)

-- The report told `old`, and tells `new`, where a text was to be written.
module _ (old new : Option (List TalkEvent)) (text : List ℕ) where
  -- a front of it was written that is shorter
  abbrev pub FrontWritten : Type 0
  FrontWritten = (n : ℕ) × (n < length text) × GoesOn old new (outs (take n text))

  -- all of it was written exactly where it is accepted
  abbrev pub PageClause : Status → Type 0
  PageClause statuses.Accepted = GoesOn old new (outs text)
  PageClause (statuses.WriteFault ports.Report) = FrontWritten
  PageClause statuses.OutOfMemory = FrontWritten
  PageClause _ = ⊥
