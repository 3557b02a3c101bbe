-- What a helper owes about large entries: behind the question the marks, and behind each challenge
-- the nodes of the next level, until the last are given. It is refused for want of memory, and where
-- the side's weight may have more such entries than are asked for.
use Rattle.std.specs.Prelude.{ℕ, ◌+◌, Bool, true, false, ◌&&◌, ◌||◌, nat_le, nat_lt, ℤ, List}
use Rattle.std.specs.Prelude.{[], ◌∷◌, ◌++◌, length, Option, Some, None, if◌then◌else◌}
use Rattle.sip_field.specs.Moduli.{m61_modulus}
use Rattle.sip_vector.specs.Streams.{int_sum}
use Rattle.sip_vector.specs.Thresholds.{is_wide}
use Rattle.sip_wire.specs.declared.message.Message.{Message}
use Rattle.sip_wire.specs.declared.message.Message.TheVariants as messages
use Rattle.sip_heavy.specs.HonestMarks.{above_messages}
use Rattle.sip_helper.specs.KindRows.{refusal, too_many, want_of_memory}
use Rattle.sip_above.specs.declared.large.Large.{Large}

-- a side as it is shown: its depth, its entries and their weights
pub record Weighed : Type 0 where
  pub depth : ℕ
  pub values : List ℤ
  pub weights : List ℤ

-- a question that is open: the challenges that were revealed behind it, whether its last reply was
-- given or is owed, and whether memory was refused for it
pub record OpenLarge : Type 0 where
  pub large : Large
  pub revealed : List ℕ
  pub given : Bool
  pub refused : Bool

-- ---- what may come, and what it does

abbrev pub newly_asked : Large → Bool → OpenLarge
newly_asked large refused =
    record { large = large; revealed = []; given = false; refused = refused }

-- what may come while a question about a side of this depth is open: a challenge, where the last
-- reply was given and a level is left above it
abbrev pub may_follow : ℕ → OpenLarge → Message → Bool
may_follow depth o (messages.Reveal r) = o.given && nat_lt (length o.revealed + 1) depth
may_follow depth o _ = false

abbrev pub with_challenge : ℕ → OpenLarge → OpenLarge
with_challenge r o = record o { revealed = o.revealed ++ r ∷ []; given = false }

-- ---- the reply that is owed

-- the weight may have more such entries than are asked for
abbrev pub is_many : Weighed → Large → Bool
is_many v large = is_wide large.at_least (int_sum v.weights)

-- the messages of a reply: a refusal, or the honest ones; there is no side where memory was refused
-- for it
abbrev pub reply_to : Option Weighed → OpenLarge → List Message
reply_to None o = refusal want_of_memory
reply_to (Some v) o =
    if o.refused then refusal want_of_memory
    else if is_many v o.large then refusal too_many
    else above_messages m61_modulus v.values v.weights o.large.at_least o.revealed

-- that reply is a refusal
abbrev pub is_refused : Option Weighed → OpenLarge → Bool
is_refused None o = true
is_refused (Some v) o = o.refused || is_many v o.large

-- the question once its reply was given; a refusal and the last reply close it
abbrev pub after_reply : ℕ → Option Weighed → OpenLarge → Option OpenLarge
after_reply depth side o =
    if o.given then Some o
    else if is_refused side o || nat_le depth (length o.revealed + 1) then None
    else Some (record o { given = true })
