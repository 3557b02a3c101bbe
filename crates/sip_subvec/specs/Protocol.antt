-- The replies to a query for a sub-vector as a protocol of the general talk.
--
-- Reply 0 is any number of Entries frames and one Siblings frame; each later reply is one Siblings
-- frame. The siblings that were stated so far count the whole replies, and so say which reply a
-- frame belongs to.
use Rattle.std.specs.Prelude.{ℕ, ◌/◌, ◌^◌, None, List, [], ◌∷◌, ◌++◌, length, Result, Ok, Err}
use Rattle.sip_vector.specs.declared.update.Entry.{Entry}
use Rattle.sip_vector.specs.Answers.{Answer, pairs}
use Rattle.sip_vector.specs.Steps.{◌>>=◌, needs}
use Rattle.sip_wire.specs.declared.kind.Place.{Place}
use Rattle.sip_wire.specs.declared.kind.Place.TheVariants as places
use Rattle.sip_wire.specs.declared.message.Message.{Message}
use Rattle.sip_wire.specs.declared.message.Message.TheVariants as messages
use Rattle.sip_wire.specs.declared.message.Reason.{Reason}
use Rattle.sip_wire.specs.declared.message.Reason.TheVariants as reasons
use Rattle.sip_wire.specs.declared.version.Version.{Version}
use Rattle.sip_replies.specs.declared.check.More.{More}
use Rattle.sip_replies.specs.declared.check.More.TheVariants as mores
use Rattle.sip_replies.specs.Protocols.{Rules, Protocol}
use Rattle.sip_subvec.specs.AcceptsSub.{Siblings, Stated, gives_root}
use Rattle.sip_subvec.specs.Checking.{nothing}
use Rattle.sip_subvec.specs.Replies.{with_entries, asked_siblings}

-- ---- the rules

-- entries stand in reply 0 alone
abbrev pub place_of : List Siblings → Place
place_of [] = places.Entries
place_of (x ∷ xs) = places.Siblings

-- an end of the interval, at the level whose siblings come next
abbrev pub at_level : List Siblings → ℕ → ℕ
at_level xs n = n / 2 ^ length xs

-- entries: they are more of reply 0, and stand in no other
abbrev pub entries_step :
    ℕ → ℕ → List Siblings → List Entry → List Entry → Result (More × Stated) Reason
entries_step lo hi [] before es =
    with_entries lo hi before es >>= λ all. Ok (mores.Due, record { entries = all; siblings = [] })
entries_step lo hi (x ∷ xs) before es = Err reasons.BadKind

-- siblings: they complete a reply
abbrev pub siblings_step : ℕ → ℕ → Stated → Siblings → Result (More × Stated) Reason
siblings_step lo hi s given =
    asked_siblings (at_level s.siblings lo) (at_level s.siblings hi) given
    >>= λ x. Ok (mores.Complete, record s { siblings = s.siblings ++ x ∷ [] })

-- one frame
abbrev pub sub_step : ℕ → ℕ → Stated → Message → Result (More × Stated) Reason
sub_step lo hi s (messages.Entries es) = entries_step lo hi s.siblings s.entries es.items
sub_step lo hi s (messages.Siblings left right) =
    siblings_step lo hi s (record { left = left; right = right })
sub_step lo hi s (messages.Refuse code) = Err (reasons.Refused code)
sub_step lo hi s _ = Err reasons.BadKind

-- How the replies to a query for the entries from lo to hi are read. No test of one reply needs a
-- challenge.
abbrev pub sub_rules : Version → ℕ → ℕ → Rules Stated
sub_rules version lo hi = record {
  version = version;
  start = nothing;
  place = λ s. place_of s.siblings;
  step = sub_step lo hi;
  learn = λ s r. s;
}

-- ---- what they come to

-- All that the definitions need: the entries from lo to hi are asked for in this version, of the
-- vector with this root at the challenges.
pub record SubAsked : Type 0 where
  pub version : Version
  pub modulus : ℕ
  pub root : ℕ
  pub lo : ℕ
  pub hi : ℕ
  pub challenges : List ℕ

abbrev pub sub_asked : Version → ℕ → ℕ → ℕ → ℕ → List ℕ → SubAsked
sub_asked version p root lo hi challenges = record {
  version = version;
  modulus = p;
  root = root;
  lo = lo;
  hi = hi;
  challenges = challenges;
}

-- the entries that are stated, where they give the root
abbrev pub sub_finish : SubAsked → Stated → Result Answer Reason
sub_finish asked s =
    needs (gives_root asked.modulus asked.root asked.lo asked.hi asked.challenges s) reasons.Root
    >>= λ _. Ok (pairs s.entries)

-- no answer is known without a reply
abbrev pub sub_protocol : SubAsked → Protocol Stated
sub_protocol asked = record {
  rules = sub_rules asked.version asked.lo asked.hi;
  finish = sub_finish asked;
  unasked = None;
}
