use Rattle.std.proofs.Common.{◌≡◌, ◌-◌, length, map, Some}
use Rattle.sip_field.specs.Draw.{draw_list, joined, words_left}
use Rattle.sip_field.specs.Elements.{m61_number}
use Rattle.sip_field.proofs.drawing.draw_next.Given as goal

-- the challenges so far, and then those that are still to be drawn, are the whole list; the words
-- that are left are those of the draws to come
abbrev pub invariant-loop : goal.invariant-loop
invariant-loop g l =
    let drawn = Some (map m61_number l.challenges.items) in
    let words = g.R.Rng.stream l.initial.rng in
    let rest = g.R.Rng.stream l.rng in
    let to_come = draw_list (l.count - l.counter) rest in
    record {
      length : length l.challenges.items ≡ l.counter;
      whole : draw_list l.count words ≡ joined drawn to_come;
      left : words_left l.count words ≡ words_left (l.count - l.counter) rest;
    }
