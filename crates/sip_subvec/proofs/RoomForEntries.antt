-- How many entries can be in order within an interval, and what the siblings of a frame may be.
use Rattle.std.proofs.Common.{◌≡◌, ℕ, suc, ◌+◌, ◌-◌, ◌<◌, ◌≤◌, true, ◌&&◌, Ok, Option, Some, None, List, [], ◌∷◌, ◌++◌, length, subst, arith}
use Rattle.std.specs.Prelude.{nat_lt, IfSome}
use Rattle.std.specs.List.{list_all}
use Rattle.std.proofs.lemmas.Bool.{ltb-true}
use Rattle.std.proofs.lemmas.Bool.Decides.{nat_tests}
use Rattle.std.proofs.lemmas.List.{length-append}
use Rattle.sip_field.specs.Moduli.{m61_modulus}
use Rattle.sip_vector.specs.declared.update.Entry.{Entry}
use Rattle.sip_vector.specs.Answers.{is_within}
use Rattle.sip_vector.specs.Steps.{◌>>=◌, needs}
use Rattle.sip_wire.specs.declared.message.Message.TheVariants as messages
use Rattle.sip_wire.specs.declared.message.Reason.TheVariants as reasons
use Rattle.sip_wire.specs.declared.version.Version.{Version}
use Rattle.sip_wire.specs.Spelling.{all_hold, has_room, fits}
use Rattle.sip_replies.proofs.Passing.{test_passed}
use Rattle.sip_subvec.specs.Counting.{rise_within}
use Rattle.sip_subvec.specs.Replies.{most_entries, with_entries}
use Rattle.sip_subvec.proofs.StatedEntries.{rise-nil, rise-parts}
use Rattle.sip_subvec.proofs.RisingEntries.{entries-taken}
use Rattle.sip_subvec.specs.Asking.{most_answer}

-- ---- how many entries there is room for

-- rising indices within an interval are no more than its items
pub rise-few : (lo hi : ℕ) (es : List Entry) → rise_within lo hi es ≡ true → length es ≤ hi + 1 - lo
rise-few lo hi [] h = omega arith
rise-few lo hi (e ∷ es) h =
    let parts = rise-parts lo hi e es h in
    let few = rise-few (suc e.index) hi es parts.2 in
    omega (arith, parts.0, parts.1, few)

-- entries that passed are no more than an answer may have
pub taken-few : (lo hi : ℕ) (before es more : List Entry) → length before ≤ most_entries → with_entries lo hi before es ≡ Ok more → length more ≤ most_entries
taken-few lo hi before [] more few is = let same : before ≡ more = cc in subst (λ (l : List Entry). length l ≤ most_entries) same few
taken-few lo hi before (e ∷ es) more few is =
    let a = test_passed (is_within lo hi e.index && list_all (λ (b : Entry). nat_lt b.index e.index) before) reasons.BadOrder (λ _. needs (nat_lt (length before) most_entries) reasons.TooMany >>= λ _. with_entries lo hi (before ++ e ∷ []) es) more is in
    let b = test_passed (nat_lt (length before) most_entries) reasons.TooMany (λ _. with_entries lo hi (before ++ e ∷ []) es) more a.1 in
    taken-few lo hi (before ++ e ∷ []) es more (omega (arith, length-append before (e ∷ []), ltb-true (length before) most_entries b.0)) b.1

pub room_for : (lo hi : ℕ) (es : List Entry) → with_entries lo hi [] es ≡ Ok es → length es ≤ most_answer lo hi
room_for lo hi es is =
    let rise = (entries-taken lo hi [] es es (rise-nil lo hi) is).0 in
    omega (arith, rise-few lo hi es rise, taken-few lo hi [] es es (omega arith) is)

-- ---- the siblings of a frame

-- siblings that have a spelling are elements of the field
pub siblings_below : (version : Version) (left right : Option ℕ) → fits version (messages.Siblings left right) ≡ true → IfSome left (λ x. x < m61_modulus) × IfSome right (λ x. x < m61_modulus)
unfolding fits has_room all_hold
siblings_below version None None h = (tt, tt)
siblings_below version (Some l) None h = (grind (arith, nat_tests), tt)
siblings_below version None (Some r) h = (tt, grind (arith, nat_tests))
siblings_below version (Some l) (Some r) h = (grind (arith, nat_tests), grind (arith, nat_tests))
