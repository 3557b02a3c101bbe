-- What a helper of questions keeps while large entries are open.
use Rattle.std.proofs.Common.{◌≡◌, ℕ, Bool, true, false, not, if◌then◌else◌, List, [], Option, Some, None, Result, Ok, Err, refl, sym, ap, subst, ◌∙◌}
use Rattle.std.specs.Prelude.{IfSome, IsTrue, OnErr, OnOk}
use Rattle.std.specs.List.{flat_map}
use Rattle.std.specs.Option.{option_map}
use Rattle.sip_vector.specs.declared.update.Side.{Side}
use Rattle.sip_vector.specs.Vectors.{SideVector, StoredVector, contents}
use Rattle.sip_wire.specs.declared.message.Message.{Message}
use Rattle.sip_wire.specs.declared.version.Version.{Version}
use Rattle.sip_wire.specs.declared.version.Version.TheVariants.{Two}
use Rattle.sip_wire.specs.Spelling.{spelling}
use Rattle.sip_helper.specs.Shown.{counted, shown_vector}
use Rattle.sip_helper.specs.Turns.{HelperState, depth_of}
use Rattle.sip_above.specs.declared.large.Large.{Large}
use Rattle.sip_above.specs.declared.under_way.LargeUnderWay.{LargeUnderWay}
use Rattle.sip_above.specs.Serving.{OpenLarge, Weighed, after_reply, reply_to, with_challenge}
use Rattle.sip_above.specs.UnderWay.{CanReply, open_of, weighed_by}
use Rattle.sip_lookup.specs.declared.lookup.Lookup.{Lookup}
use Rattle.sip_questions.specs.Serving.{QuestionHelper, both_shown, owed, owed_messages, owes, weighed}
use Rattle.sip_questions.specs.inside.Keeping.{IsShown}

-- a question that begins with a side's two vectors can be replied to by what was heard
pub ready_weighed : (helper again : HelperState) (side : Side) (values weights : StoredVector) (q : LargeUnderWay) → shown_vector helper side ≡ Some (contents values) → shown_vector again side ≡ Some (contents weights)
    → values.depth ≡ depth_of helper.heard → CanReply values.depth (Some (weighed_by values weights)) q → CanReply (depth_of helper.heard) (weighed helper (Some again) side) q
ready_weighed helper again side values weights q shown also deep can =
    let same : weighed helper (Some again) side ≡ Some (weighed_by values weights) =
    ap (λ (o : Option SideVector). both_shown o (shown_vector again side)) shown ∙ ap (λ (o : Option SideVector). both_shown (Some (contents values)) o) also in
    subst (λ (d : ℕ). CanReply d (weighed helper (Some again) side) q) deep (subst (λ (v : Option Weighed). CanReply values.depth v q) (sym same) can)

-- that a query was counted changes nothing of a side
pub weighed_counted : (helper : HelperState) (again : Option HelperState) (side : Side) → weighed (counted helper) again side ≡ weighed helper again side
weighed_counted helper None side = refl
weighed_counted helper (Some a) side = refl

pub ready_counted : (helper : HelperState) (again : Option HelperState) (q : LargeUnderWay) → CanReply (depth_of helper.heard) (weighed helper again q.large.side) q → CanReply (depth_of helper.heard) (weighed (counted helper) again q.large.side) q
ready_counted helper again q can = subst (λ (v : Option Weighed). CanReply (depth_of helper.heard) v q) (sym (weighed_counted helper again q.large.side)) can

-- ---- a challenge was taken, or not

module _ (helper : HelperState) (again : Option HelperState) (q next : LargeUnderWay) (shown : IsShown helper again q) where
  -- it can be answered still, where it is the same question
  shown_still : next.large ≡ q.large → CanReply (depth_of helper.heard) (weighed helper again q.large.side) next → IsShown helper again next
  shown_still same can = record {
    whole = shown.whole;
    two = shown.two;
    can = subst (λ (l : Large). CanReply (depth_of helper.heard) (weighed helper again l.side) next) (sym same) can;
  }

  pub shown_revealed : {E : Type 0} (result : Result Unit E) (depth r : ℕ) → depth ≡ depth_of helper.heard → OnOk result (open_of next ≡ with_challenge r (open_of q)) → OnErr result (next ≡ q)
      → ((side : Option Weighed) → CanReply depth side q → CanReply depth side next) → IsShown helper again next
  shown_revealed (Ok x) depth r deep revealed same stands =
      shown_still (ap (λ (o : OpenLarge). o.large) revealed)
      (subst (λ (d : ℕ). CanReply d (weighed helper again q.large.side) q → CanReply d (weighed helper again q.large.side) next) deep (stands (weighed helper again q.large.side)) shown.can)
  shown_revealed (Err e) depth r deep revealed same stands = subst (λ (x : LargeUnderWay). IsShown helper again x) (sym same) shown

-- ---- a reply was given

-- the question is the same
same_large : (given closed : Bool) (o x : OpenLarge) → Some x ≡ (if given then Some o else if closed then None else Some (record o { given = true })) → x.large ≡ o.large
same_large true closed o x is = let e : x ≡ o = (let some = is in cc) in ap (λ (y : OpenLarge). y.large) e
same_large false true o x is = absurd (let none = is in cc)
same_large false false o x is = let e : x ≡ record o { given = true } = (let some = is in cc) in ap (λ (y : OpenLarge). y.large) e

pub shown_after : (helper : HelperState) (again : Option HelperState) (q : LargeUnderWay) (depth : ℕ) (result : Option LargeUnderWay) → IsShown helper again q → depth ≡ depth_of helper.heard
    → ((side : Option Weighed) → CanReply depth side q → option_map open_of result ≡ after_reply depth side (open_of q))
    → ((side : Option Weighed) → CanReply depth side q → IfSome result (CanReply depth side)) → IfSome result (IsShown helper again)
shown_after helper again q depth None shown deep after stands = tt
shown_after helper again q depth (Some next) shown deep after stands =
    let side = weighed helper again q.large.side in
    let can = subst (λ (d : ℕ). CanReply d side q) (sym deep) shown.can in
    shown_still helper again q next shown (same_large _ _ (open_of q) (open_of next) (after side can)) (subst (λ (d : ℕ). CanReply d side next) deep (stands side can))

-- ---- what is owed

not_given : (given : Bool) → not given ≡ true → given ≡ false
not_given true owes = absurd (let e = owes in cc)
not_given false owes = refl

owed_open : (s : QuestionHelper) (sought : Option Lookup) (large : Option OpenLarge) (o : OpenLarge) → sought ≡ None → large ≡ Some o → IsTrue (owes (record s { sought = sought; large = large }))
    → owed_messages (record s { sought = sought; large = large }) ≡ reply_to (weighed s.helper s.again o.large.side) o
owed_open s (Some l) large o none is may = absurd (let e = none in cc)
owed_open s None None o none is may = absurd (let e = is in cc)
owed_open s None (Some p) o none is may =
    let same : p ≡ o = (let some = is in cc) in
    ap (λ (given : Bool). if given then [] else reply_to (weighed s.helper s.again p.large.side) p) (not_given p.given may)
    ∙ ap (λ (x : OpenLarge). reply_to (weighed s.helper s.again x.large.side) x) same

pub level_owed : (v s : QuestionHelper) (o : OpenLarge) → v ≡ s → s.sought ≡ None → v.large ≡ Some o → IsTrue (owes s) → v.helper.version ≡ Two
    → flat_map (spelling Two) (reply_to (weighed v.helper v.again o.large.side) o) ≡ owed s
level_owed v s o seen none is may two =
    ap (λ (w : Version). flat_map (spelling w) (reply_to (weighed v.helper v.again o.large.side) o)) (sym two)
    ∙ ap (λ (ms : List Message). flat_map (spelling v.helper.version) ms) (sym (owed_open v v.sought v.large o (ap (λ (x : QuestionHelper). x.sought) seen ∙ none) is (subst (λ (x : QuestionHelper). IsTrue (owes x)) (sym seen) may)))
    ∙ ap owed seen
