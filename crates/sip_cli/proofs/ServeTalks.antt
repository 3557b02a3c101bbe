-- What was said in a talk over a store is what is new on its link.
use Rattle.std.proofs.Common.{ℕ, List, Option, inl, inr}
use Rattle.sip_ports.specs.declared.port.TalkEvent.{TalkEvent}
use Rattle.sip_ports.specs.Ports.{GoesOn}
use Rattle.sip_ports.proofs.TalkLemmas.{GoesOn-trans}
use Rattle.sip_questions.specs.declared.store_status.StoreStatus.{StoreStatus}
use Rattle.sip_questions.specs.Stores.{ServesStore}
use Rattle.sip_stream.specs.declared.form.Form.{Form}

pub said_over_store : (form : Form) (store left again unread : Option (List ℕ))
    (old new : Option (List TalkEvent)) (how : StoreStatus)
    → ServesStore form store left again unread old new how → (said : List TalkEvent) × GoesOn old new said
said_over_store form store left again unread old new how (inl unasked) = elim unasked.stops [
  | inl stops ↦ (stops.rest, stops.talk)
  | inr stops ↦ (_, stops.talk)
]
said_over_store form store left again unread old new how (inr (inl unheard)) = (_, unheard.talk)
said_over_store form store left again unread old new how (inr (inr (inl short))) = (_, short.talk)
said_over_store form store left again unread old new how (inr (inr (inr answers))) =
    (_, GoesOn-trans old answers.between new _ _ answers.talk answers.serves.serves.talk)
