-- A protocol of replies: by frames, with a challenge behind each reply.
use Rattle.std.specs.Prelude.{◌≡◌, ℕ, ◌+◌, ◌<◌, List, length, Option, Result}
use Rattle.sip_vector.specs.Answers.{Answer}
use Rattle.sip_wire.specs.declared.kind.Place.{Place}
use Rattle.sip_wire.specs.declared.message.Message.{Message}
use Rattle.sip_wire.specs.declared.message.Reason.{Reason}
use Rattle.sip_wire.specs.declared.version.Version.{Version}
use Rattle.sip_replies.specs.declared.check.More.{More}
use Rattle.sip_replies.specs.declared.check.More.TheVariants as mores

-- How replies are read, frame by frame. S is what they state so far.
pub record Rules (S : Type 0) : Type 0 where
  -- the version of the frames
  pub version : Version
  -- before the first frame of reply 0
  pub start : S
  -- what frames may stand next
  pub place : S → Place
  -- a frame, and whether the reply goes on behind it; or the test that it fails
  pub step : S → Message → Result (More × S) Reason
  -- a challenge, behind each whole reply, the last one too
  pub learn : S → ℕ → S

-- The rules of replies, and what they come to.
pub record Protocol (S : Type 0) : Type 0 where
  pub rules : Rules S
  -- the answer that all replies state once the last challenge was learnt, or the test that fails
  pub finish : S → Result Answer Reason
  -- the answer, where it is known without a reply: then nothing is asked
  pub unasked : Option Answer

-- ---- how far a check is

-- a query's challenges, how many whole replies came, and how many challenges were revealed
pub record Phase : Type 0 where
  pub block : List ℕ
  pub taken : ℕ
  pub revealed : ℕ

-- behind a frame
abbrev pub after : More → Phase → Phase
after mores.Due p = p
after mores.Complete p = record p { taken = p.taken + 1 }

-- behind a challenge
abbrev pub revealed_more : Phase → Phase
revealed_more p = record p { revealed = p.revealed + 1 }

-- a reply may come
pub record Awaits (p : Phase) : Type 0 where
  pub few : p.taken < length p.block
  pub same : p.revealed ≡ p.taken

-- a challenge may be revealed
pub record Reveals (p : Phase) : Type 0 where
  pub few : p.taken < length p.block
  pub same : p.taken ≡ p.revealed + 1

-- all replies came
pub record Ends (p : Phase) : Type 0 where
  pub all : p.taken ≡ length p.block
  pub same : p.taken ≡ p.revealed + 1

-- nothing came yet
pub record Begins (p : Phase) : Type 0 where
  pub none : p.taken ≡ 0
  pub same : p.revealed ≡ 0
  pub some : 0 < length p.block
