-- What the call over places of its own did, where the places behind the entries are given up.
use Rattle.std.proofs.Common.{◌≡◌, ℕ, List, length, take, ap, ◌∙◌, rules}
use Rattle.std.proofs.lemmas.List.{take_at}
use Rattle.sip_vector.specs.declared.update.Entry.{Entry}
use Rattle.sip_verifier.specs.inside.Judging.{found_in}
use Rattle.sip_above.proofs.asking.ask_large.Goals as goal

pub returns-clause-asks : goal.returns-clause-asks
returns-clause-asks g c = λ depth stream stands.
    let places = c.ask_over-asked.new.places in
    let size : length places ≡ c.resize.new.self.len = search rules in
    let count : c.len.result ≡ length places = search rules in
    let whole = take_at places _ c.resize.new.self.len size in
    let found = c.found_in.ensures ∙ ap (λ (n : ℕ). found_in n c.ask_over-asked.result) count in
    let shown : c.truncate.new.self.items ≡ take (found_in (length places) c.ask_over-asked.result) places =
    c.truncate.ensures.items ∙ ap (λ (l : List Entry). take c.found_in.result l) whole ∙ ap (λ (n : ℕ). take n places) found in
    rw (shown, c.verdict_of.ensures) (c.ask_over-asked.ensures.over.asks depth stream stands)
