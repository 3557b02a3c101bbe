-- The seats took the frame's updates where there was one.
use Rattle.std.proofs.Common.{List, ◌+◌, length, length-append, ◌≡◌, true, [], ◌∷◌, ◌++◌, ◌∙◌, ap, sym, subst, rules}
use Rattle.std.proofs.lemmas.Bool.{eq-eqb}
use Rattle.std.specs.Prelude.{if◌then◌else◌}
use Rattle.sip_vector.specs.declared.update.Side.{Side}
use Rattle.sip_vector.specs.declared.update.Update.{Update}
use Rattle.sip_verifier.specs.QuerySeats.{HaveRoom}
use Rattle.sip_verifier.specs.Seats.{AreSeats}
use Rattle.sip_verifier.specs.Feeding.{fills}
use Rattle.sip_verifier.specs.inside.Passing.{taken_with}
use Rattle.sip_verifier.proofs.gathering.pass_on.Goals as goal

pub returns-clause-takes : goal.returns-clause-takes
returns-clause-takes g c =
    let waiting = c.args.feed.now.waiting in
    let u = c.args.update.now in
    let filled : length c.push.new.self.waiting ≡ 512 = search rules in
    let count : length waiting + 1 ≡ 512 = sym (length-append waiting (u ∷ [])) ∙ sym (ap length c.push.ensures.waiting) ∙ filled in
    let full : fills waiting ≡ true = eq-eqb (length waiting + 1) 512 count in
    let taken : taken_with waiting u ≡ waiting ++ u ∷ [] = ap (λ b. if b then waiting ++ u ∷ [] else []) full in
    let block : c.waiting.result.now ≡ waiting ++ u ∷ [] = search rules in
    record {
      version = search rules;
      waiting = search rules;
      few = search rules;
      items = search rules;
      depth = search rules;
      stands = λ depth queries blocks stream are.
          subst (λ l. AreSeats depth queries blocks (stream ++ l) c.update_all.new.self) (block ∙ sym taken) (c.update_all.ensures.stands depth queries blocks stream are);
    }

pub update_all-requires-clause-room : goal.update_all-requires-clause-room
update_all-requires-clause-room g c =
    let block : c.waiting.result.now ≡ c.args.feed.now.waiting ++ c.args.update.now ∷ [] = search rules in
    subst (λ (l : List Update). (side : Side) → HaveRoom c.args.seats.now.seats l side) (sym block) c.requires.next.room
