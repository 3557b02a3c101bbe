-- The seats stand for what waited too.
use Rattle.std.proofs.Common.{◌≡◌, ◌++◌, All, List, length, sym, ap, subst, ◌∙◌, rules}
use Rattle.std.proofs.lemmas.List.{with_items_is}
use Rattle.sip_vector.specs.declared.update.Update.{Update}
use Rattle.sip_verifier.specs.Feeding.{Waiting}
use Rattle.sip_runs.specs.Seats.{IsSeated, blocks_of, questions_of}
use Rattle.sip_runs.proofs.following.Following.pass_on.Goals as goal

pub returns-clause-passed : goal.returns-clause-passed
returns-clause-passed c = λ p stream events is.
    let v = c.args.self.now.seats in
    let new = c.raise_all.new.seats in
    let value = c.deref_mut.ensures.value in
    let long : length new ≡ length v.items = c.raise_all.auto.seats ∙ ap length value in
    let items = with_items_is v new (long ∙ sym v.ok.0) in
    let waits : c.waiting.result.now ≡ c.args.self.now.feed.value.waiting = search rules in
    let all : All (IsSeated p.version p.depth stream) new = subst (λ (l : List Update). All (IsSeated p.version p.depth l) new) (ap (λ (w : List Update). is.sent ++ w) waits ∙ sym is.order)
    (c.raise_all.ensures.seated p.version p.depth is.sent (subst (All (IsSeated p.version p.depth is.sent)) (sym value) is.seated)) in
    record {
      version = is.version;
      depth = is.depth;
      questions = ap questions_of items ∙ c.raise_all.ensures.questions ∙ ap questions_of value ∙ is.questions;
      at_blocks = ap blocks_of items ∙ c.raise_all.ensures.blocks ∙ ap blocks_of value ∙ is.at_blocks;
      measured = is.measured;
      none = c.clear.ensures.waiting;
      in_version = c.clear.ensures.version ∙ ap (λ (w : Waiting). w.version) c.deref_mut-2.ensures.value ∙ is.in_version;
      seated = subst (All (IsSeated p.version p.depth stream)) (sym items) all;
    }
