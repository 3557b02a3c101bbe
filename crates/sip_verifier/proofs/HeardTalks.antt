-- What is heard in a talk of several questions: their replies, one after another.
use Rattle.std.proofs.Common.{◌≡◌, ℕ, Option, Some, None, List, [], ◌∷◌, ◌++◌, All, refl, sym, ap, ◌∙◌, arith}
use Rattle.std.specs.Prelude.{flat_map}
use Rattle.std.proofs.lemmas.List.Elements.{All-head, All-tail}
use Rattle.sip_ports.specs.declared.port.TalkEvent.{TalkEvent}
use Rattle.sip_ports.specs.Ports.{heard}
use Rattle.sip_ports.proofs.TalkLemmas.{heard-append, heard-outs}
use Rattle.sip_vector.specs.declared.update.Update.{Update}
use Rattle.sip_vector.specs.Answers.{Answer}
use Rattle.sip_wire.specs.Versions.{number_of}
use Rattle.sip_wire.specs.declared.message.Message.TheVariants as messages
use Rattle.sip_wire.specs.declared.message.Message.{Message}
use Rattle.sip_wire.specs.declared.version.Version.{Version}
use Rattle.sip_wire.specs.Spelling.{spelling}
use Rattle.sip_replies.specs.Protocols.{Protocol}
use Rattle.sip_replies.specs.Replies.{IsStated, joined}
use Rattle.sip_replies.specs.Talks.{asked_unless}
use Rattle.sip_replies.proofs.Hearing.{before_sent, heard-asked}
use Rattle.sip_verifier.specs.Talks.{stream_sent, opening_sent, update_frames}
use Rattle.sip_verifier.specs.Questions.{Question, said_for}

-- where replies are accepted, they are what was heard
pub heard_accepted : {S : Type 0} (P : Protocol S) (request : Message) (block : List ℕ)
    (replies : List (List ℕ)) (given : Answer) (unasked : Option Answer)
    → elim unasked as (λ _. Type 0) [
      | None ↦ IsStated P block replies given
      | Some known ↦ (replies ≡ []) × (given ≡ known)
    ] → heard (asked_unless unasked P.rules.version request block replies) ≡ joined replies
heard_accepted P request block replies given None stated =
    heard-asked P.rules.version request block replies (omega (arith, stated.all))
heard_accepted P request block replies given (Some known) none = sym (ap joined none.0)

-- what was heard in a question are its replies
abbrev pub IsHeard : (version : Version) → ℕ → List Update → Question → Type 0
IsHeard version depth stream t = heard (said_for version depth stream t) ≡ joined t.replies

-- the reply bytes of questions
abbrev pub replied : List Question → List ℕ
replied questions = flat_map (λ t. joined t.replies) questions

heard-questions : (version : Version) (depth : ℕ) (stream : List Update) (questions : List Question)
    → All (IsHeard version depth stream) questions
    → heard (flat_map (said_for version depth stream) questions) ≡ replied questions
heard-questions version depth stream [] each = refl
heard-questions version depth stream (t ∷ questions) each =
    heard-append (said_for version depth stream t) (flat_map (said_for version depth stream) questions)
    ∙ ap (λ l. l ++ heard (flat_map (said_for version depth stream) questions))
    (All-head (IsHeard version depth stream) t questions each)
    ∙ ap (λ l. joined t.replies ++ l)
    (heard-questions version depth stream questions (All-tail (IsHeard version depth stream) t questions each))

-- no byte is heard while a stream is sent
pub heard-opening : (version : Version) (depth : ℕ) (stream : List Update) → heard (opening_sent version depth stream) ≡ []
heard-opening version depth stream = heard-outs (flat_map (spelling version) (messages.Open (number_of version) depth ∷ update_frames stream))

pub heard-stream : (version : Version) (depth : ℕ) (stream : List Update) → heard (stream_sent version depth stream) ≡ []
heard-stream version depth stream = before_sent (opening_sent version depth stream) (flat_map (spelling version) (messages.EndStream ∷ [])) ∙ heard-opening version depth stream

pub heard-talk : (version : Version) (depth : ℕ) (stream : List Update) (questions : List Question) (rest : List TalkEvent)
    → All (IsHeard version depth stream) questions
    → heard (stream_sent version depth stream ++ flat_map (said_for version depth stream) questions ++ rest)
    ≡ replied questions ++ heard rest
heard-talk version depth stream questions rest each =
    let said : List TalkEvent = flat_map (said_for version depth stream) questions in
    heard-append (stream_sent version depth stream ++ said) rest
    ∙ ap (λ l. l ++ heard rest)
    (heard-append (stream_sent version depth stream) said
    ∙ ap (λ l. l ++ heard said) (heard-stream version depth stream)
    ∙ heard-questions version depth stream questions each)

-- the last event of a talk in which each event is such
pub last_is : (P : TalkEvent → Type 0) (talk : List TalkEvent) (event : TalkEvent) → All P (talk ++ event ∷ []) → P event
last_is P [] event all = All-head P event [] all
last_is P (e ∷ talk) event all = last_is P talk event (All-tail P e (talk ++ event ∷ []) all)
