-- There is room for what a legal stream goes on with; updates of a side that is no matter change nothing.
use Rattle.std.proofs.Common.{◌<◌, ◌^◌, All, ℕ, sym, subst, ◌∙◌}
use Rattle.sip_vector.specs.declared.update.Update.{Update}
use Rattle.sip_verifier.specs.Running.{block_of, numbers_of}
use Rattle.sip_verifier.proofs.Seating.{runs_on}
use Rattle.sip_questions.specs.Sittings.{query_like}
use Rattle.sip_runs.proofs.Seated.{all_rest, has_room}
use Rattle.sip_runs.proofs.seat.RunSeat.update_all.Goals as goal

pub update_all-requires-clause-items : goal.update_all-requires-clause-items
update_all-requires-clause-items c =
    let (version, depth, stream, deep, seated, legal) = c.requires.legal in
    subst (λ (n : ℕ). All (λ (u : Update). u.item < 2 ^ n) c.args.updates.now) (sym seated.levels)
    (all_rest (λ (u : Update). u.item < 2 ^ depth) stream c.args.updates.now legal.items)

pub update_all-requires-clause-room : goal.update_all-requires-clause-room
update_all-requires-clause-room c =
    let (version, depth, stream, deep, seated, legal) = c.requires.legal in
    let s = c.args.self.now in
    has_room depth stream c.args.updates.now (query_like s.question) (block_of s.running) (numbers_of s.running) c.args.side seated.runs.runs
    (sym c.takes.ensures ∙ c.if-takes.true) c.requires.sides legal

pub returns-else-takes-clause-seated : goal.returns-else-takes-clause-seated
returns-else-takes-clause-seated c = λ version depth stream is.
    let s = c.args.self.now in
    record {
      can = is.can;
      levels = is.levels;
      kept = is.kept;
      runs = record { runs = runs_on depth stream c.args.updates.now (block_of s.running) c.args.side (query_like s.question) (numbers_of s.running) c.requires.sides (sym c.takes.ensures ∙ c.if-takes.false) is.runs.runs };
    }
