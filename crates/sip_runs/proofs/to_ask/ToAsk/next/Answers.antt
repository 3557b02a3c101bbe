-- The first question is taken, and the others are left.
use Rattle.std.proofs.Common.{◌≡◌, ◌∷◌, length, refl, rules}
use Rattle.std.proofs.lemmas.List.{nil_from_length}
use Rattle.sip_runs.specs.declared.to_ask.ToAsk.{ToAsk}
use Rattle.sip_runs.proofs.Firsts.{first_of, left_behind, none_behind}
use Rattle.sip_runs.proofs.to_ask.ToAsk.next.Goals as goal

pub returns-then-is_empty-clause-asked : goal.returns-then-is_empty-clause-asked
returns-then-is_empty-clause-asked c p stream is =
    let a = c.args.self.now in
    let zero : length a.seats.items ≡ 0 = search rules in
    let none = nil_from_length a.seats.items zero in
    (tt, none_behind p stream a a is refl refl none refl)

pub returns-clause-asked : goal.returns-clause-asked
returns-clause-asked c p stream is =
    let a = c.args.self.now in
    let new : ToAsk = record a { seats = c.remove.new.self } in
    let order : a.seats.items ≡ c.remove.result ∷ c.remove.new.self.items = search rules in
    (first_of p stream a new is refl refl c.remove.result order, left_behind p stream a new is refl refl c.remove.result order)
