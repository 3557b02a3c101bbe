-- What happened on a link whose helper keeps to the turns.
use Rattle.std.specs.Prelude.{drop, ◌≡◌, ◌≢◌, ◌⊎◌, ◌<◌, length, ℕ, Bool, false, IsTrue, List, []}
use Rattle.std.specs.Prelude.{◌∷◌, ◌++◌, Option, Some, None, ⊤, Result, Ok, Err, All}
use Rattle.sip_ports.specs.declared.port.TalkEvent.{TalkEvent}
use Rattle.sip_ports.specs.declared.port.TalkEvent.TheVariants.{Ended}
use Rattle.sip_ports.specs.Ports.{heard, written}
use Rattle.sip_ports.specs.Memory.{sink_bytes}
use Rattle.sip_wire.specs.declared.message.Message.{Message}
use Rattle.sip_wire.specs.declared.kind.Place.TheVariants.{ToHelper}
use Rattle.sip_wire.specs.declared.version.Version.{Version}
use Rattle.sip_wire.specs.Frames.{frame_bytes}
use Rattle.sip_wire.specs.Spelling.{asked, spelling}
use Rattle.sip_wire.specs.Taking.{IsNoFrame}
use Rattle.sip_helper.specs.Serving.{IsMessage}
use Rattle.sip_helper.specs.Turns.{HelperState, fresh, is_allowed, step, owed, after_answer}
use Rattle.sip_duel.specs.declared.helper.More.{More}
use Rattle.sip_duel.specs.declared.helper.More.TheVariants as mores
use Rattle.sip_duel.specs.declared.kept.Kept.{Kept}
use Rattle.sip_duel.specs.declared.kept.Mood.{Mood}
use Rattle.sip_duel.specs.declared.kept.Mood.TheVariants as moods

-- one step of a helper: a message was heard, for which memory may be refused, or the reply that was
-- owed was appended
pub data Step : Type 0 where
  Heard : Message → Bool → Step
  Answered : Step

-- the state after these steps; the last one stands first
abbrev pub state_after : List Step → HelperState
state_after [] = fresh
state_after (Heard m refused ∷ before) = step (state_after before) refused m
state_after (Answered ∷ before) = after_answer (state_after before)

-- the bytes that were owed at the answers
abbrev pub said : List Step → List ℕ
said [] = []
said (Heard m refused ∷ before) = said before
said (Answered ∷ before) = said before ++ owed (state_after before)

-- the frames of the messages that were heard
abbrev pub frames : List Step → List ℕ
frames [] = []
frames (Heard m refused ∷ before) = frames before ++ spelling (state_after before).version m
frames (Answered ∷ before) = frames before

-- each is a message to the helper that might come
abbrev pub AreSteps : List Step → Type 0
AreSteps [] = ⊤
AreSteps (Heard m refused ∷ before) =
    IsMessage (state_after before).version m × IsTrue (is_allowed (state_after before) m)
    × AreSteps before
AreSteps (Answered ∷ before) = AreSteps before

-- The events are those of these steps, but for a part of a frame that was sent, and for these
-- bytes, which were appended and not given yet. None is an end.
pub record Follows (steps : List Step) (part give : List ℕ)
    (talk : List TalkEvent) : Type 0 where
  pub are : AreSteps steps
  pub sent : written talk ≡ frames steps ++ part
  pub came : heard talk ++ give ≡ said steps
  pub lasts : All (λ e. e ≢ Ended) talk

-- the part of a frame that was sent
abbrev pub sent_part : Kept → List ℕ
sent_part k = frame_bytes k.frame

-- the bytes that were appended and not given yet
abbrev pub left : Kept → List ℕ
left k = drop k.at (sink_bytes k.out)

-- it goes on, by the turns
pub record IsLive (state : Option HelperState) (k : Kept) : Type 0 where
  pub steps : List Step
  pub follows : Follows steps (sent_part k) (left k) k.talk.items
  pub told : state ≡ Some (state_after steps)
  pub opened : k.mood ≡ moods.Open
  pub version : k.version ≡ (state_after steps).version

-- a message that may not come
pub record IsOutOfTurn (s : HelperState) (bytes : List ℕ) : Type 0 where
  pub message : Message
  pub is : IsMessage s.version message
  pub out : is_allowed s message ≡ false
  pub said : bytes ≡ spelling s.version message

-- it went on by the turns up to these bytes: a message out of turn, or no frame
pub record IsStray (talk : List TalkEvent) : Type 0 where
  pub steps : List Step
  pub bytes : List ℕ
  pub give : List ℕ
  pub now : List TalkEvent
  pub later : List TalkEvent
  pub follows : Follows steps bytes give now
  pub why : IsOutOfTurn (state_after steps) bytes
      ⊎ IsNoFrame (state_after steps).version ToHelper bytes
  pub split : talk ≡ now ++ later

-- the end was told at once
abbrev pub BeginsWithEnd : List TalkEvent → Type 0
BeginsWithEnd later = (more : List TalkEvent) × (later ≡ Ended ∷ more)

-- why nothing comes any more: nothing was owed, or the helper ran out of memory
abbrev pub WasRight : Mood → HelperState → List ℕ → List ℕ → List TalkEvent → Type 0
WasRight moods.Open s give rest later = ⊥
WasRight moods.Over s give rest later =
    (give ≡ []) × (owed s ≡ []) × (rest ≡ []) × BeginsWithEnd later
WasRight moods.Failed s give rest later = All (λ e. e ≢ Ended) later

-- fewer bytes than a frame has
abbrev pub IsShort : Version → List ℕ → Type 0
IsShort version part = length part < asked version ToHelper part

-- it went on by the turns to its end; nothing comes then
pub record IsOver (k : Kept) : Type 0 where
  pub steps : List Step
  pub part : List ℕ
  pub give : List ℕ
  pub now : List TalkEvent
  pub later : List TalkEvent
  pub follows : Follows steps part give now
  pub short : IsShort (state_after steps).version part
  pub silent : heard later ≡ []
  pub right : WasRight k.mood (state_after steps) give (left k) later
  pub split : k.talk.items ≡ now ++ later

-- the promise of a link with an honest helper
abbrev pub Keeps : Option HelperState → Kept → Type 0
Keeps state k = IsLive state k ⊎ IsStray k.talk.items ⊎ IsOver k

-- the promise once the end is told
abbrev pub KeepsEnded : Option HelperState → Kept → Type 0
KeepsEnded state k =
    (l : Kept) → l.talk.items ≡ k.talk.items ++ Ended ∷ [] → l.out ≡ k.out → l.at ≡ k.at
    → l.mood ≡ moods.Over → Keeps state l

-- the promise, by what a helper answered
abbrev pub KeepsBy : {E : Type 0} → Option HelperState → Kept → Result More E → Type 0
KeepsBy state k (Ok mores.Goes) = Keeps state k
KeepsBy state k (Ok mores.Ended) = KeepsEnded state k
KeepsBy state k (Err e) = Keeps state k

-- what is left, by what a helper answered
abbrev pub HasAsked : {E : Type 0} → Kept → Kept → Result More E → Type 0
HasAsked old new (Ok mores.Goes) = (new.mood ≡ old.mood) × (left new ≢ [])
HasAsked old new (Ok mores.Ended) = (new.mood ≡ old.mood) × (left new ≡ [])
HasAsked old new (Err e) = new.mood ≡ moods.Failed

-- ---- what such a link tells

-- The events are those of steps by the turns, but for a part of a frame that was sent, and for
-- bytes that were appended and not given.
pub record IsUnderWay (talk : List TalkEvent) : Type 0 where
  pub steps : List Step
  pub part : List ℕ
  pub give : List ℕ
  pub follows : Follows steps part give talk

-- They were so up to an end, behind which nothing was received: all was given and nothing was owed,
-- and the end was told; or the helper ran out of memory, and no end was told. No whole frame was
-- left unheard.
pub record IsEnded (talk : List TalkEvent) : Type 0 where
  pub steps : List Step
  pub part : List ℕ
  pub give : List ℕ
  pub now : List TalkEvent
  pub later : List TalkEvent
  pub follows : Follows steps part give now
  pub short : IsShort (state_after steps).version part
  pub silent : heard later ≡ []
  pub why : ((give ≡ []) × (owed (state_after steps) ≡ []) × BeginsWithEnd later)
      ⊎ All (λ e. e ≢ Ended) later
  pub split : talk ≡ now ++ later

-- the talk of a link with an honest helper that had heard nothing: by the turns of a helper, up to
-- where the other side left them, or to the end
abbrev pub IsHonestTalk : List TalkEvent → Type 0
IsHonestTalk talk = IsUnderWay talk ⊎ IsStray talk ⊎ IsEnded talk
