-- There is a dash where the body is empty.
use Rattle.std.proofs.Common.{◌≡◌, ◌++◌, List, ℕ, length, ap, ◌∙◌, rules}
use Rattle.std.specs.Prelude.{codes}
use Rattle.std.proofs.lemmas.List.{nil_from_length}
use Rattle.sip_transcript.specs.Listings.{message_name}
use Rattle.sip_transcript.proofs.Digits.{dash-empty}
use Rattle.sip_transcript.proofs.listing.begin.Goals as goal

pub returns-then-is_empty-clause-items : goal.returns-then-is_empty-clause-items
returns-then-is_empty-clause-items c =
    let front = codes "frame " ++ message_name c.args.message.now ++ codes " " in
    let none : length c.args.body.now ≡ 0 = search rules in
    let name = c.as_bytes.ensures.value ∙ c.name.ensures.name in
    let built : c.put-3.new.gathered.items ≡ front =
    c.put-3.ensures.items ∙ ap (λ (l : List ℕ). l ++ codes " ") (c.put-2.ensures.items
    ∙ ap (λ (l : List ℕ). c.put.new.gathered.items ++ l) name
    ∙ ap (λ (l : List ℕ). l ++ message_name c.args.message.now) (c.put.ensures.items ∙ ap (λ (l : List ℕ). l ++ codes "frame ") c.new-line.ensures)) in
    dash-empty front c.put-then-is_empty.new.gathered.items c.args.body.now
    (c.put-then-is_empty.ensures.items ∙ ap (λ (l : List ℕ). l ++ codes "-") built) (nil_from_length c.args.body.now none)
