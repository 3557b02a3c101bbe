-- A question that is asked without a link, step by step.
use Rattle.std.proofs.Common.{◌≡◌, ℕ, ◌<◌, ◌++◌, Bool, true, false, if◌then◌else◌, None, Some, List, [], ◌∷◌, length, refl, sym, ap, subst, ◌∙◌, append-nil}
use Rattle.sip_ports.specs.declared.port.TalkEvent.{TalkEvent}
use Rattle.sip_ports.specs.declared.port.TalkEvent.TheVariants.{Ended}
use Rattle.sip_ports.specs.Ports.{ins, outs}
use Rattle.sip_vector.specs.declared.update.Entry.{Entry}
use Rattle.sip_wire.specs.declared.message.Message.{Message}
use Rattle.sip_wire.specs.declared.message.Reason.TheVariants as reasons
use Rattle.sip_wire.specs.Spelling.{asked, spelling}
use Rattle.sip_replies.specs.declared.turn.Stage.{Stage}
use Rattle.sip_replies.specs.declared.turn.Stage.TheVariants as stages
use Rattle.sip_replies.specs.declared.turn.Turn.{Turn}
use Rattle.sip_replies.specs.Feeding.{IsFed}
use Rattle.sip_replies.specs.Following.{Follows, FollowsAt, due_message, is_due, is_hearing, is_open}
use Rattle.sip_replies.specs.Protocols.{Protocol}
use Rattle.sip_replies.proofs.Fed.{HasFault-ended, events_more, short_empty}
use Rattle.sip_replies.proofs.Stepping.{Follows-sent, IsRejected-fault, at_stage}
use Rattle.sip_steps.specs.declared.asking.Asking.{Asking}
use Rattle.sip_steps.specs.Asked.{due_bytes, end_heard}

-- something is due, or a reply is to come, and not both
pub silent_due : (stage : Stage) → is_due stage ≡ true → is_hearing stage ≡ false
silent_due stages.Hears due = absurd cc
silent_due _ due = refl

pub open_due : (stage : Stage) → is_due stage ≡ true → is_open stage ≡ true
open_due (stages.Said said) due = absurd cc
open_due (stages.Rejected round reason) due = absurd cc
open_due _ due = refl

pub no_verdict : false ≡ true → ⊥
no_verdict e = absurd cc

pub hears_of : (stage : Stage) → is_hearing stage ≡ true → stage ≡ stages.Hears
hears_of stages.Hears hears = refl
hears_of _ hears = absurd cc

-- what is due, by the message that is asked
pub due_is : {C Q : Type 0} (message : Q → Message) (request : Message) (a : Asking C Q) → message a.request ≡ request → is_due a.turn.stage ≡ true → due_bytes message a ≡ spelling a.turn.version (due_message request a.turn.stage)
due_is message request a asks due =
    ap (λ (b : Bool). if b then spelling a.turn.version (due_message (message a.request) a.turn.stage) else []) due
    ∙ ap (λ (m : Message). spelling a.turn.version (due_message m a.turn.stage)) asks

pub none_due : {C Q : Type 0} (message : Q → Message) (a : Asking C Q) → is_due a.turn.stage ≡ false → due_bytes message a ≡ []
none_due message a due = ap (λ (b : Bool). if b then spelling a.turn.version (due_message (message a.request) a.turn.stage) else []) due

-- whose end was heard
pub end_is : (stage : Stage) → is_hearing stage ≡ true → end_heard stage ≡ Ended ∷ []
end_is stage hears = ap (λ (b : Bool). if b then Ended ∷ [] else []) hears

pub end_none : (stage : Stage) → is_hearing stage ≡ false → end_heard stage ≡ []
end_none stage hears = ap (λ (b : Bool). if b then Ended ∷ [] else []) hears

-- nothing was said
pub IsFed-begun : {S : Type 0} (P : Protocol S) (request : Message) (block : List ℕ) (Stands : S → Type 0) (places : List Entry) (turn : Turn) (part : List ℕ) → Follows P request block (Some []) (Some []) None None Stands places turn → part ≡ [] → IsFed P request block [] Stands places turn part
IsFed-begun P request block Stands places turn part follows none = record {
  before = [];
  follows = follows;
  last = sym (ap ins none);
  short = λ s stands. short_empty turn.version (P.rules.place s) part none;
  quiet = λ silent. none;
}

module _ {S : Type 0} (P : Protocol S) (request : Message) (block : List ℕ) (events : List TalkEvent) (Stands : S → Type 0) (places : List Entry) (turn : Turn) (part : List ℕ) (fed : IsFed P request block events Stands places turn part) where
  -- a state stands while there is no verdict
  stood_at : (round : ℕ) (stage : Stage) → is_open stage ≡ true → FollowsAt P request block (Some []) (Some fed.before) None None Stands places round stage → (s : S) × Stands s
  stood_at round stages.Asks still_open asks = (P.rules.start, asks.stands)
  stood_at round stages.Hears still_open hears = (hears.entered.state, hears.entered.stands)
  stood_at round (stages.Reveals challenge) still_open reveals = (P.rules.learn reveals.going.state challenge, reveals.going.stands)
  stood_at round _ still_open at = absurd cc

  pub stood : is_open turn.stage ≡ true → (s : S) × Stands s × (length part < asked turn.version (P.rules.place s) part)
  stood still_open = let at = stood_at turn.round turn.stage still_open fed.follows.at in (at.0, at.1, fed.short at.0 at.1)

  -- what is due goes out, and then bytes are to come
  pub IsFed-sent : is_due turn.stage ≡ true → IsFed P request block (events ++ outs (spelling turn.version (due_message request turn.stage))) Stands places (record turn { stage = stages.Hears }) part
  IsFed-sent due =
      let none = fed.quiet (silent_due turn.stage due) in
      let said = outs (spelling turn.version (due_message request turn.stage)) in
      record {
        before = events ++ said;
        follows = Follows-sent P request block Stands (Some []) (Some fed.before) (Some (events ++ said)) None None places turn fed.follows due
            (ap (λ (e : List TalkEvent). e ++ said) (fed.last ∙ ap (λ (l : List ℕ). fed.before ++ ins l) none ∙ append-nil fed.before));
        last = sym (ap (λ (l : List ℕ). (events ++ said) ++ ins l) none ∙ append-nil (events ++ said));
        short = fed.short;
        quiet = λ silent. none;
      }

  -- more bytes came of the frame that is coming, which do not make it whole
  pub IsFed-more : is_hearing turn.stage ≡ true → (piece now : List ℕ) → now ≡ part ++ piece → ((s : S) → Stands s → length now < asked turn.version (P.rules.place s) now) → IsFed P request block (events ++ ins piece) Stands places turn now
  IsFed-more hearing piece now more short = record {
    before = fed.before;
    follows = fed.follows;
    last = sym (events_more fed.before events part now piece fed.last more);
    short = short;
    quiet = λ silent. absurd (no_verdict (sym silent ∙ hearing));
  }

  -- the other end closed while bytes were to come
  pub IsFed-ended : is_hearing turn.stage ≡ true → (now : List ℕ) → now ≡ [] → IsFed P request block (events ++ Ended ∷ []) Stands places (record turn { stage = stages.Rejected turn.round reasons.Closed }) now
  IsFed-ended hearing now none =
      let hears = at_stage P request block Stands (Some []) (Some fed.before) (Some fed.before) None None places turn fed.follows stages.Hears (hears_of turn.stage hearing) in
      let place = P.rules.place hears.entered.state in
      let short = fed.short hears.entered.state hears.entered.stands in
      let rejected = IsRejected-fault P request block Stands turn.round (Some []) (Some fed.before) (Some ((fed.before ++ ins part) ++ Ended ∷ [])) None None None hears turn.version fed.follows.version place refl reasons.Closed (HasFault-ended turn.version place fed.before part short) in
      record {
        before = events ++ Ended ∷ [];
        follows = record {
          version = fed.follows.version;
          at = subst (λ (e : List TalkEvent). FollowsAt P request block (Some []) (Some (e ++ Ended ∷ [])) None None Stands places turn.round (stages.Rejected turn.round reasons.Closed)) (sym fed.last) rejected;
        };
        last = sym (ap (λ (l : List ℕ). (events ++ Ended ∷ []) ++ ins l) none ∙ append-nil (events ++ Ended ∷ []));
        short = λ s stands. short_empty turn.version (P.rules.place s) now none;
        quiet = λ silent. none;
      }
