-- Where no query is open, a message that may come before the stream has ended is heard as by a helper
-- of queries.
use Rattle.std.proofs.Common.{◌≡◌, ℕ, Bool, Option, Some, None, Result, Ok, Err, refl, sym, ap, ◌∙◌}
use Rattle.std.specs.Prelude.{IsOk, IsTrue, OnOk}
use Rattle.sip_wire.specs.declared.message.Message.{Message}
use Rattle.sip_wire.specs.declared.message.Message.TheVariants as messages
use Rattle.sip_helper.specs.Turns.{HelperState, OpenQuery, is_allowed, may_hear}
use Rattle.sip_helper.specs.Turns as turns
use Rattle.sip_moments.specs.Serving.{MomentHelper, step}

-- no challenge may come where no query is open
reveal_out : (s : HelperState) (o : Option OpenQuery) (r : ℕ) → o ≡ None
    → IsTrue (is_allowed (record s { open_query = o }) (messages.Reveal r)) → ⊥
reveal_out s None r none may = absurd cc
reveal_out s (Some o) r none may = absurd cc

-- what may come is heard as by a helper of queries
heard_before : (s : MomentHelper) (refused : Bool) (m : Message)
    → s.helper.open_query ≡ None → IsTrue (may_hear s.helper m)
    → step s refused m ≡ record s { helper = turns.step s.helper refused m }
heard_before s refused (messages.Open _ _) none may = refl
heard_before s refused (messages.Updates _) none may = refl
heard_before s refused messages.EndStream none may = refl
heard_before s refused (messages.Query q) none may = refl
heard_before s refused (messages.Reveal r) none may =
    absurd (reveal_out s.helper s.helper.open_query r none may)
heard_before s refused messages.Bye none may = absurd cc
heard_before s refused (messages.Claim _) none may = absurd cc
heard_before s refused (messages.Poly _ _ _) none may = absurd cc
heard_before s refused (messages.Entries _) none may = absurd cc
heard_before s refused (messages.Siblings _ _) none may = absurd cc
heard_before s refused (messages.Leaves _) none may = absurd cc
heard_before s refused (messages.Nodes _) none may = absurd cc
heard_before s refused messages.LevelEnd none may = absurd cc
heard_before s refused (messages.Refuse _) none may = absurd cc
heard_before s refused (messages.AskLook _ _) none may = absurd cc
heard_before s refused (messages.Found _ _) none may = absurd cc
heard_before s refused messages.End none may = absurd cc
heard_before s refused (messages.AskMoment _ _) none may = absurd cc
heard_before s refused (messages.Held _) none may = absurd cc
heard_before s refused (messages.Recall _) none may = absurd cc
heard_before s refused (messages.Marks _) none may = absurd cc
heard_before s refused (messages.Power _) none may = absurd cc

pub heard_on : {E : Type 0} (result : Result Unit E) (s : MomentHelper) (next : HelperState)
    (m : Message) → s.helper.open_query ≡ None
    → (IsOk result → IsTrue (may_hear s.helper m))
    → OnOk result ((refused : Bool) × (next ≡ turns.step s.helper refused m))
    → OnOk result ((refused : Bool) × (record s { helper = next } ≡ step s refused m))
heard_on (Err e) s next m none may did = tt
heard_on (Ok x) s next m none may did = (
  did.0,
  ap (λ (h : HelperState). record s { helper = h }) did.1
      ∙ sym (heard_before s did.0 m none (may refl)),
)
