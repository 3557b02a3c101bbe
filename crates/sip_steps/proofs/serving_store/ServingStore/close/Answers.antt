-- The other end closed before a farewell.
use Rattle.std.proofs.Common.{◌≡◌, ◌++◌, [], List, None, not, sym, ap, subst, ◌∙◌, append-nil}
use Rattle.sip_ports.specs.declared.port.TalkEvent.{TalkEvent}
use Rattle.sip_questions.specs.declared.store_status.StoreStatus.TheVariants.{PeerClosed}
use Rattle.sip_steps.specs.Served.{end_seen}
use Rattle.sip_steps.specs.StoreServed.{EndsBy, IsStoreServed}
use Rattle.sip_steps.proofs.OneTalk.{none_of}
use Rattle.sip_steps.proofs.StoreCalls.{closed_at, ended_unseen, goes_still}
use Rattle.sip_steps.proofs.serving_store.ServingStore.close.Goals as goal

pub returns-then-is_none-clause-served : goal.returns-then-is_none-clause-served
returns-then-is_none-clause-served c form read events served =
    let a = c.args.self.now in
    let none : a.status ≡ None = none_of a.status (c.is_none.ensures ∙ ap not c.if-is_none.true) in
    record {
      same_form = served.same_form;
      so = subst (λ (e : List TalkEvent). EndsBy form read (events ++ e) PeerClosed) (sym (ap end_seen none))
          (closed_at form events a.core a.coming read a.stage (goes_still form read events a none served));
    }

pub returns-then-is_none-clause-begun : goal.returns-then-is_none-clause-begun
returns-then-is_none-clause-begun c =
    let b = c.requires.begun in
    (b.0, b.1, b.2 ++ end_seen c.args.self.now.status, returns-then-is_none-clause-served c b.0 b.1 b.2 b.3)

pub returns-else-is_none-clause-served : goal.returns-else-is_none-clause-served
returns-else-is_none-clause-served c form read events served =
    let a = c.args.self.now in
    let none : end_seen a.status ≡ [] = ended_unseen a.status (c.is_none.ensures ∙ ap not c.if-is_none.false) in
    subst (λ (e : List TalkEvent). IsStoreServed form read e a) (sym (ap (λ (e : List TalkEvent). events ++ e) none ∙ append-nil events)) served
