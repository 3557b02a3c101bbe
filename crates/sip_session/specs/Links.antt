-- What holds of each of some links, as it was before a call and as it is behind it, and what
-- happened on them.
use Rattle.std.specs.Prelude.{◌≡◌, ℕ, List, Some, map}
use Rattle.std.specs.List.{slice_get}
use Rattle.sip_duel.specs.declared.link.HelperLink.{HelperLink}
use Rattle.sip_ports.specs.declared.port.TalkEvent.{TalkEvent}

-- This holds at each place, of the link that was there and of the one that is there now.
abbrev pub EachLink : {L : Type 0} → (ℕ → L → L → Type 0) → List L → List L → Type 0
EachLink {L} holds old new = (place : ℕ) (before now : L) → slice_get old place ≡ Some before
    → slice_get new place ≡ Some now → holds place before now

-- all that happened on each link
abbrev pub talks_of : {X : Type 0} {V : X → Type 0} → List (HelperLink X V)
    → List (List TalkEvent)
talks_of links = map (λ l. l.kept.talk.items) links
