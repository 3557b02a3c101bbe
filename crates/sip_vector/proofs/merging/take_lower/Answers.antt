-- The lower one is taken of the list that it stands in front of.
use Rattle.std.proofs.Common.{◌≡◌, ◌∙◌, ◌-◌, ◌<◌, ◌≤◌, List, [], ◌∷◌, arith, drop, get_or, length, pos, rules, take}
use Rattle.std.proofs.lemmas.List.{length-drop, take_all}
use Rattle.sip_vector.specs.declared.update.Entry.{Entry}
use Rattle.sip_vector.specs.inside.Gathered.{IsTaken}
use Rattle.sip_vector.proofs.Finds.{get_or-any}
use Rattle.sip_vector.proofs.merging.take_lower.Goals as goal
use Rattle.sip_vector.proofs.merging.take_lower.Goals.{then-is_listed, else-is_listed}

none : Entry
none = record { index = 0; value = pos 0 }

-- all that is left behind some entries
left_at : (n : _) (entries : _) → take (length entries - n) (drop n entries) ≡ drop {A = Entry} n entries
left_at n entries = take_all (length entries - n) (drop n entries) (omega (arith, length-drop n entries))

-- the first one of the list, which is no later
of_list : (list added : List Entry) → 1 ≤ length list → 1 ≤ length added → (get_or list 0 none).index ≤ (get_or added 0 none).index → IsTaken list added (get_or list 0 none) (drop 1 list) added
of_list [] added some others least = absurd (omega (arith, some))
of_list (e ∷ es) [] some others least = absurd (omega (arith, others))
of_list (e ∷ es) (o ∷ os) some others lower = record {
  sums = λ k. search rules;
  light = omega arith;
  rising = λ least n list added. (list.0, list.1, list.2, (lower, added.1, added.2));
  shorter = omega arith;
}

-- the first one of the others, which is earlier
of_added : (list added : List Entry) → 1 ≤ length list → 1 ≤ length added → (get_or added 0 none).index < (get_or list 0 none).index → IsTaken list added (get_or added 0 none) list (drop 1 added)
of_added [] added some others least = absurd (omega (arith, some))
of_added (e ∷ es) [] some others least = absurd (omega (arith, others))
of_added (e ∷ es) (o ∷ os) some others lower = record {
  sums = λ k. search rules;
  light = omega arith;
  rising = λ least n list added. (added.0, added.1, (omega (arith, lower), list.1, list.2), added.2);
  shorter = omega arith;
}

pub returns-after-is_listed : goal.returns-after-is_listed
unfolding none
returns-after-is_listed c =
    let list = c.args.list.now in
    let added = c.args.added.now in
    let some : 1 ≤ length list = search rules in
    let others : 1 ≤ length added = search rules in
    let there = get_or-any added 0 c.other-item.result none others in
    let front : c.entry-other.result ≡ get_or added 0 none =
    c.entry-other.ensures ∙ c.other-item.is ∙ there in
    elim c.if-is_listed.branch [
      | then-is_listed w ↦
          let count : c.from-count.result ≡ 1 = search rules in
          rw (count, left_at 1 list, left_at 0 added, w.entry-is) (of_list list added some others (rw front at w.if-is_listed.true))
      | else-is_listed w ↦
          let count : c.from-count.result ≡ 0 = search rules in
          rw (count, left_at 0 list, left_at 1 added, w.entry-is, front) (of_added list added some others (rw front at w.if-is_listed.false))
    ]
