-- What a liar has heard, and what it replies to that.
use Rattle.std.specs.Prelude.{◌≡◌, ℕ, ◌+◌, ◌<◌, Bool, ◌&&◌, nat_eq, nat_lt, if◌then◌else◌, List, []}
use Rattle.std.specs.Prelude.{◌∷◌, ◌++◌, length, take, Option, Some, None, Result, Ok, Err}
use Rattle.std.specs.List.{find}
use Rattle.std.specs.Option.{option_and_then}
use Rattle.std.specs.Str.{bytes_eq}
use Rattle.sip_vector.specs.Limits.{most_depth}
use Rattle.sip_wire.specs.declared.message.Message.{Message}
use Rattle.sip_wire.specs.declared.message.Message.TheVariants as messages
use Rattle.sip_duel.specs.declared.helper.More.{More}
use Rattle.sip_duel.specs.Helping.{IsGoing}

-- a point of a talk: the number of queries that were asked, and the challenges that were revealed
-- since the last one
pub record TalkPoint : Type 0 where
  pub queries : ℕ
  pub revealed : List ℕ

abbrev pub talk_start : TalkPoint
talk_start = record { queries = 0; revealed = [] }

-- as many queries as a liar keeps
abbrev pub kept_queries : ℕ
kept_queries = 255

-- the point behind a message; none where the query is one more than a liar keeps, or the challenge
-- one more than a talk has levels
abbrev pub point_after : Message → TalkPoint → Option TalkPoint
point_after (messages.Query q) p =
    if nat_lt p.queries kept_queries
    then Some (record { queries = p.queries + 1; revealed = [] }) else None
point_after (messages.Reveal r) p =
    if nat_lt (length p.revealed) most_depth
    then Some (record p { revealed = p.revealed ++ r ∷ [] }) else None
point_after m p = Some p

-- a lie: the point that it is about, and what it replies there
pub record LieRow : Type 0 where
  pub query : ℕ
  pub revealed : List ℕ
  pub reply : List ℕ

-- the lie is about this point
abbrev pub is_about : TalkPoint → LieRow → Bool
is_about p lie = nat_eq lie.query p.queries && bytes_eq lie.revealed p.revealed

-- the reply of the first lie about this point; nothing where there is none
abbrev pub reply_at : List LieRow → TalkPoint → List ℕ
reply_at lies p = elim (find (is_about p) lies) [ Some lie ↦ lie.reply | None ↦ [] ]

-- a liar: its lies, and the point of its talk, unless that is more than it keeps
pub record Lying : Type 0 where
  pub lies : List LieRow
  pub point : Option TalkPoint

abbrev pub lying_after : Message → Lying → Lying
lying_after m l = record l { point = option_and_then (point_after m) l.point }

-- what it replies
abbrev pub lied : Lying → List ℕ
lied l = elim l.point [ Some p ↦ reply_at l.lies p | None ↦ [] ]

-- this reply was appended, or a shorter front of it where memory ran out
abbrev pub AppendsAll : {E : Type 0}
    → List ℕ → List ℕ → List ℕ → Result More E → Type 0
AppendsAll reply before after (Ok more) = (after ≡ before ++ reply) × IsGoing more reply
AppendsAll reply before after (Err e) =
    (n : ℕ) × (n < length reply) × (after ≡ before ++ take n reply)
