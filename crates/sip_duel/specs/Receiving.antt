-- How a link sends and receives, what a refusal leaves, and how its count of refusals goes.
use Rattle.std.specs.Prelude.{◌≡◌, ℕ, ◌+◌, ◌-◌, ◌^◌, ◌≢◌, ◌⊎◌, [], min, Result, Ok, Err}
use Rattle.sip_ports.specs.declared.port.PortStop.{PortStop}
use Rattle.sip_ports.specs.declared.port.PortStop.TheVariants.{Failed, OutOfMemory}
use Rattle.sip_duel.specs.declared.kept.Kept.{Kept}
use Rattle.sip_duel.specs.declared.kept.Mood.{Mood}
use Rattle.sip_duel.specs.declared.kept.Mood.TheVariants as moods
use Rattle.sip_duel.specs.Story.{left, sent_part}

-- memory was refused, which is the only cause to stop, and the count of refusals rose; else it
-- stays
abbrev pub StopsOnlyByWant : {T : Type 0} → ℕ → ℕ → Result T PortStop → Type 0
StopsOnlyByWant before now (Ok _) = now ≡ before
StopsOnlyByWant before now (Err Failed) = ⊥
StopsOnlyByWant before now (Err OutOfMemory) = now ≡ min (before + 1) (2 ^ 64 - 1)

-- A refusal of memory to the link left all as it was: the talk, the frame that is being sent, what
-- the helper appended, and how much of that was given.
pub record IsAsItWas (old new : Kept) : Type 0 where
  pub talk : new.talk.items ≡ old.talk.items
  pub version : new.version ≡ old.version
  pub part : sent_part new ≡ sent_part old
  pub out : new.out ≡ old.out
  pub at : new.at ≡ old.at
  pub mood : new.mood ≡ old.mood

-- The helper appended bytes, and there was no memory to give them: they are still to be given.
pub record IsStillToGive (old new : Kept) : Type 0 where
  pub at : new.at ≡ old.at
  pub some : left new ≢ []
  pub mood : new.mood ≡ old.mood

-- a link that is closed: one that was open is over, and another one stays as it was
abbrev pub closed : Mood → Mood
closed moods.Open = moods.Over
closed moods.Over = moods.Over
closed moods.Failed = moods.Failed

-- What a receive into a buffer with room did.
pub record Receives (old new : Kept) (result : Result ℕ PortStop) : Type 0 where
  -- it finds the end only where the link has ended and all that was appended is given
  pub ended : result ≡ Ok 0 → (new.mood ≡ moods.Over) × (left new ≡ [])
  -- where that was so before, it finds nothing else
  pub stays : old.mood ≡ moods.Over → left old ≡ [] → (n : ℕ) → result ≡ Ok n → n ≡ 0
  -- where memory was refused to the helper, it answers that
  pub failed : old.mood ≡ moods.Failed → result ≡ Err OutOfMemory
  -- the helper appends only where all was given, and the link had not ended
  pub asks : (left old ≢ []) ⊎ (old.mood ≢ moods.Open) → new.out ≡ old.out
  -- a link that has ended or failed stays so
  pub lasts : old.mood ≢ moods.Open → new.mood ≡ old.mood
  -- it fails only where it answers so
  pub fails : new.mood ≡ moods.Failed → result ≡ Err OutOfMemory
  -- where it stops, memory was refused to the helper, or to the link
  pub stops : (e : PortStop) → result ≡ Err e
      → (new.mood ≡ moods.Failed) ⊎ IsAsItWas old new ⊎ IsStillToGive old new
