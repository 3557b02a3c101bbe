-- Entries that passed rise, and are those given.
use Rattle.std.proofs.Common.{◌≡◌, ℕ, suc, Bool, true, nat_lt, ◌&&◌, Ok, List, [], ◌∷◌, ◌++◌, length, sym, ◌∙◌, append_assoc, append-nil}
use Rattle.std.specs.List.{list_all}
use Rattle.std.proofs.lemmas.Bool.{and_parts, ltb-true}
use Rattle.sip_vector.specs.declared.update.Entry.{Entry}
use Rattle.sip_vector.specs.Answers.{is_within}
use Rattle.sip_vector.specs.Steps.{◌>>=◌, needs}
use Rattle.sip_wire.specs.declared.message.Reason.{Reason}
use Rattle.sip_wire.specs.declared.message.Reason.TheVariants as reasons
use Rattle.sip_replies.proofs.Passing.{test_passed, same_ok}
use Rattle.sip_subvec.specs.Replies.{most_entries, with_entries}
use Rattle.sip_subvec.specs.Counting.{rise_within}
use Rattle.sip_subvec.proofs.StatedEntries.{rise-nil, rise-parts, rise-from, within-parts, within-from}

-- one more entry, above those before it
rise-push : (lo hi : ℕ) (before : List Entry) (e : Entry) → rise_within lo hi before ≡ true → is_within lo hi e.index ≡ true → list_all (λ (b : Entry). nat_lt b.index e.index) before ≡ true → rise_within lo hi (before ++ e ∷ []) ≡ true
rise-push lo hi [] e rise within above = let w = within-parts lo hi e.index within in rise-from lo hi e [] w.0 w.1 (rise-nil (suc e.index) hi)
rise-push lo hi (b ∷ before) e rise within above =
    let r = rise-parts lo hi b before rise in
    let a = and_parts (nat_lt b.index e.index) (list_all (λ (x : Entry). nat_lt x.index e.index) before) above in
    let w = within-parts lo hi e.index within in
    rise-from lo hi b (before ++ e ∷ []) r.0 r.1 (rise-push (suc b.index) hi before e r.2 (within-from (suc b.index) hi e.index (ltb-true b.index e.index a.0) w.1) a.1)

-- entries are taken as they stand, and rise
pub entries-taken : (lo hi : ℕ) (before es more : List Entry) → rise_within lo hi before ≡ true → with_entries lo hi before es ≡ Ok more → (rise_within lo hi more ≡ true) × (more ≡ before ++ es)
entries-taken lo hi before [] more rise is =
    let same : before ≡ more = same_ok {E = Reason} before more is in
    (rw (← same) rise, sym same ∙ sym (append-nil before))
entries-taken lo hi before (e ∷ es) more rise is =
    let within : Bool = is_within lo hi e.index in
    let above : Bool = list_all (λ (b : Entry). nat_lt b.index e.index) before in
    let a = test_passed (within && above) reasons.BadOrder (λ _. needs (nat_lt (length before) most_entries) reasons.TooMany >>= λ _. with_entries lo hi (before ++ e ∷ []) es) more is in
    let b = test_passed (nat_lt (length before) most_entries) reasons.TooMany (λ _. with_entries lo hi (before ++ e ∷ []) es) more a.1 in
    let both = and_parts within above a.0 in
    let rest = entries-taken lo hi (before ++ e ∷ []) es more (rise-push lo hi before e rise both.0 both.1) b.1 in
    (rest.0, rest.1 ∙ append_assoc before (e ∷ []) es)
