use Rattle.std.proofs.Common.{◌≡◌, ◌≤◌, length, map}
use Rattle.sip_words.specs.Shapes.{helper_word}
use Rattle.sip_words.proofs.helper_name.read_helpers.Given as goal

-- the parts so far are the words of the helpers so far
abbrev pub invariant-loop-name : goal.invariant-loop-name
invariant-loop-name l = record {
  named : map (λ x. x.now) l.yielded ≡ map helper_word l.names.items;
  room : length l.names.items ≤ 16;
}
