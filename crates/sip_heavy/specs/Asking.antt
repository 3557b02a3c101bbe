-- What a check of heavy hitters of the general talk keeps, and what it stands for.
use Rattle.std.specs.Prelude.{◌≡◌, ◌+◌, ◌≤◌, false, List, length, take, slice_index}
use Rattle.sip_field.specs.Moduli.{m61_modulus}
use Rattle.sip_vector.specs.declared.update.Entry.{Entry}
use Rattle.sip_replies.specs.Protocols.{Phase}
use Rattle.sip_heavy.specs.AcceptsHeavy.{most_nodes, nodes_above, leaves_of}
use Rattle.sip_heavy.specs.Checking.{Kept, GivenNodes, HasTaken}
use Rattle.sip_heavy.specs.Protocol.{HeavyAsked, HeavyState}

-- how far it is
abbrev pub phase_of : Kept → Phase
phase_of c = record { block = c.challenges; taken = c.level; revealed = c.revealed }

-- The state's known nodes are the check's: at once where all challenges of the levels that ended
-- were revealed, and else once the next one is.
pub record Knows (s : HeavyState) (c : Kept) : Type 0 where
  pub learnt : c.revealed ≡ c.level → c.known ≡ s.known
  pub due : c.level ≡ c.revealed + 1
      → c.known ≡ nodes_above m61_modulus (slice_index c.challenges c.revealed) s.known

-- The check was given all that replies state so far, and what was found is the first of the places,
-- which have room for an answer.
pub record HeavyStands (asked : HeavyAsked) (s : HeavyState) (c : Kept)
    (places : List Entry) : Type 0 where
  pub field : asked.modulus ≡ m61_modulus
  pub given : GivenNodes
  pub taken : HasTaken m61_modulus asked.query asked.root c.challenges given c
  pub level : c.level ≡ s.level
  pub received : given.received ≡ s.received
  pub leaves : leaves_of given.ended ≡ s.leaves
  pub knows : Knows s c
  pub unspent : c.spent ≡ false
  pub shown : take (length c.found) places ≡ c.found
  pub room : most_nodes asked.query ≤ length places
