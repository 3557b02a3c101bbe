-- What a helper of questions keeps while it hears messages.
use Rattle.std.proofs.Common.{◌≡◌, ℕ, ◌<◌, Bool, true, false, ◌&&◌, Option, Some, None, Result, Ok, Err, refl, sym, ap, subst, ◌∙◌}
use Rattle.std.specs.Prelude.{IfSome, IsOk, IsTrue, OnOk, ◌↔◌, is_none, nat_lt, not}
use Rattle.std.specs.Option.{is_some, option_map}
use Rattle.sip_wire.specs.Table.{most_queries}
use Rattle.sip_vector.specs.declared.query.Query.{Query}
use Rattle.sip_vector.specs.declared.query.Query.TheVariants as queries
use Rattle.sip_vector.specs.declared.update.Side.{Side}
use Rattle.sip_wire.specs.declared.message.Message.{Message}
use Rattle.sip_wire.specs.declared.message.Message.TheVariants as messages
use Rattle.sip_helper.specs.declared.heard.Heard.{Heard}
use Rattle.sip_helper.specs.declared.heard.Heard.TheVariants.{Nothing, Part, Whole}
use Rattle.sip_helper.specs.Shown.{counted}
use Rattle.sip_helper.specs.Turns.{HelperState, depth_of, whole_of}
use Rattle.sip_helper.specs.Turns as turns
use Rattle.sip_helper.proofs.Falling.{hears_as}
use Rattle.sip_above.specs.declared.under_way.LargeUnderWay.{LargeUnderWay}
use Rattle.sip_above.specs.Serving.{OpenLarge, Weighed, may_follow as large_follows}
use Rattle.sip_above.specs.UnderWay as larges
use Rattle.sip_lookup.specs.declared.lookup.Lookup.{Lookup}
use Rattle.sip_moments.specs.declared.under_way.MomentUnderWay.{MomentUnderWay}
use Rattle.sip_moments.specs.Honest.{Proving}
use Rattle.sip_moments.specs.Serving.{OpenMoment, may_follow}
use Rattle.sip_moments.specs.UnderWay.{CanReply, HasFolded, open_of}
use Rattle.sip_questions.specs.Serving.{QuestionHelper, is_allowed, may_hear, revealed, step, weighed}
use Rattle.sip_questions.specs.declared.sizes.Sizes.{Sizes}
use Rattle.sip_questions.specs.declared.sizes.Sizes.TheVariants.{Unheard, Deltas, Heard as HeardToo}
use Rattle.sip_questions.specs.inside.Keeping.{CanSay, IsReadAgain, IsShown, again_of, questions_left, stream_of}

-- ---- a farewell changes nothing of the stream

refolded : (depth : ℕ) (helper : HelperState) (q : MomentUnderWay) (o : Option Proving)
    → IfSome o (HasFolded depth helper q)
    → IfSome o (HasFolded depth (record helper { done = true }) q)
refolded depth helper q None has = tt
refolded depth helper q (Some prover) has = record {
  vector = has.vector;
  shown = has.shown;
  deep = has.deep;
  size = has.size;
  folded = has.folded;
  height = has.height;
}

pub ready_done : (helper : HelperState) (moment : Option MomentUnderWay)
    → IfSome moment (CanReply helper) → IfSome moment (CanReply (record helper { done = true }))
ready_done helper None can = tt
ready_done helper (Some q) can = record {
  depth = can.depth;
  whole = can.whole;
  left = can.left;
  elements = can.elements;
  proves = refolded can.depth helper q q.prover can.proves;
  owed = can.owed;
}

pub sayable_done : (helper : HelperState) (sought : Option Lookup) → IfSome sought (CanSay helper)
    → IfSome sought (CanSay (record helper { done = true }))
sayable_done helper None can = tt
sayable_done helper (Some l) can = record { depth = can.depth; whole = can.whole; can = can.can }

weighed_done : (helper : HelperState) (again : Option HelperState) (side : Side)
    → weighed (record helper { done = true }) again side ≡ weighed helper again side
weighed_done helper None side = refl
weighed_done helper (Some a) side = refl

pub read_done : (helper : HelperState) (again : Option HelperState)
    → IfSome again (IsReadAgain helper) → IfSome again (IsReadAgain (record helper { done = true }))
read_done helper None read = tt
read_done helper (Some a) read = record { depth = read.depth; whole = read.whole; same = read.same }

pub shown_done : (helper : HelperState) (again : Option HelperState) (large : Option LargeUnderWay)
    → IfSome large (IsShown helper again)
    → IfSome large (IsShown (record helper { done = true }) again)
shown_done helper again None shown = tt
shown_done helper again (Some q) shown = record {
  whole = shown.whole;
  two = shown.two;
  can = subst (λ (v : Option Weighed). larges.CanReply (depth_of helper.heard) v q)
      (sym (weighed_done helper again q.large.side)) shown.can;
}

-- ---- nor does a query that is answered elsewhere

pub sayable_counted : (helper : HelperState) (sought : Option Lookup)
    → IfSome sought (CanSay helper) → IfSome sought (CanSay (counted helper))
sayable_counted helper None can = tt
sayable_counted helper (Some l) can = record { depth = can.depth; whole = can.whole; can = can.can }

pub read_counted : (helper : HelperState) (again : Option HelperState)
    → IfSome again (IsReadAgain helper) → IfSome again (IsReadAgain (counted helper))
read_counted helper None read = tt
read_counted helper (Some a) read =
    record { depth = read.depth; whole = read.whole; same = read.same }

-- ---- nor does what may come behind it

pub open_out : (s : HelperState) (heard : Heard) (number levels depth : ℕ) → whole_of heard ≡ Some depth
    → IsTrue (turns.is_allowed (record s { heard = heard }) (messages.Open number levels)) → ⊥
open_out s Nothing number levels depth whole may = let no = whole in cc
open_out s (Part d) number levels depth whole may = let no = whole in cc
open_out s (Whole d) number levels depth whole may = let no = may in cc

-- what may come while the stream goes on
pub part_out : (heard : Heard) (may : ℕ → Bool) (depth : ℕ) → whole_of heard ≡ Some depth
    → IsTrue (elim heard [ Part d ↦ may d | _ ↦ false ]) → ⊥
part_out Nothing may depth whole is = let no = whole in cc
part_out (Part d) may depth whole is = let no = whole in cc
part_out (Whole d) may depth whole is = let no = is in cc

pub stream_stays : (s : HelperState) (refused : Bool) (m : Message) (depth : ℕ)
    → whole_of s.heard ≡ Some depth → IsTrue (turns.may_hear s m)
    → stream_of (turns.step s refused m) ≡ stream_of s
stream_stays s refused (messages.Open number levels) depth whole may =
    absurd (open_out s s.heard number levels depth whole may)
stream_stays s refused messages.EndStream depth whole may =
    absurd (part_out s.heard (λ d. true) depth whole may)
stream_stays s refused (messages.Updates us) depth whole may =
    absurd (part_out s.heard (λ d. turns.stays_legal d s.weights us.items) depth whole may)
stream_stays s refused (messages.Query _) depth whole may = refl
stream_stays s refused (messages.Reveal _) depth whole may = refl
stream_stays s refused messages.Bye depth whole may = refl
stream_stays s refused (messages.Claim _) depth whole may = refl
stream_stays s refused (messages.Poly _ _ _) depth whole may = refl
stream_stays s refused (messages.Entries _) depth whole may = refl
stream_stays s refused (messages.Siblings _ _) depth whole may = refl
stream_stays s refused (messages.Leaves _) depth whole may = refl
stream_stays s refused (messages.Nodes _) depth whole may = refl
stream_stays s refused messages.LevelEnd depth whole may = refl
stream_stays s refused (messages.Refuse _) depth whole may = refl
stream_stays s refused (messages.AskLook _ _) depth whole may = refl
stream_stays s refused (messages.Found _ _) depth whole may = refl
stream_stays s refused messages.End depth whole may = refl
stream_stays s refused (messages.AskMoment _ _) depth whole may = refl
stream_stays s refused (messages.Held _) depth whole may = refl
stream_stays s refused (messages.Recall _) depth whole may = refl
stream_stays s refused (messages.Marks _) depth whole may = refl
stream_stays s refused (messages.Power _) depth whole may = refl

whole_stays : (s : HelperState) (refused : Bool) (m : Message) (depth : ℕ)
    → whole_of s.heard ≡ Some depth → IsTrue (turns.may_hear s m)
    → whole_of (turns.step s refused m).heard ≡ Some depth
whole_stays s refused m depth whole may =
    ap (λ (h : HelperState). whole_of h.heard) (stream_stays s refused m depth whole may) ∙ whole

-- what is owed can be said still
sayable_on : (s : HelperState) (refused : Bool) (m : Message) (sought : Option Lookup)
    → IsTrue (turns.may_hear s m) → IfSome sought (CanSay s)
    → IfSome sought (CanSay (turns.step s refused m))
sayable_on s refused m None may can = tt
sayable_on s refused m (Some l) may can = record {
  depth = can.depth;
  whole = whole_stays s refused m can.depth can.whole may;
  can = can.can;
}

-- and what is known of the sizes is the same
pub sizes_stay : (s : HelperState) (refused : Bool) (m : Message) (sizes : Sizes)
    → IsTrue (turns.may_hear s m) → IfSome (again_of s sizes) (IsReadAgain s)
    → again_of (turns.step s refused m) sizes ≡ again_of s sizes
sizes_stay s refused m Unheard may read = refl
sizes_stay s refused m Deltas may read =
    ap (λ (h : HelperState). Some h) (stream_stays s refused m read.depth read.whole may)
sizes_stay s refused m (HeardToo a) may read = refl

pub read_on : (s : HelperState) (refused : Bool) (m : Message) (sizes : Sizes)
    → IsTrue (turns.may_hear s m) → IfSome (again_of s sizes) (IsReadAgain s)
    → IfSome (again_of (turns.step s refused m) sizes) (IsReadAgain (turns.step s refused m))
read_on s refused m Unheard may read = tt
read_on s refused m Deltas may read =
    let whole = whole_stays s refused m read.depth read.whole may in
    record { depth = read.depth; whole = whole; same = whole }
read_on s refused m (HeardToo a) may read = record {
  depth = read.depth;
  whole = whole_stays s refused m read.depth read.whole may;
  same = read.same;
}

-- ---- a message that asks for no lookup, no moment and no large entries, where none of them is open

-- a challenge is one of the query
reveal_on : (s : QuestionHelper) (l : Option OpenLarge) (o : Option OpenMoment) (refused : Bool)
    (r : ℕ) → l ≡ None → o ≡ None
    → revealed (record s { large = l; moment = o }) refused r
    ≡ record s { helper = turns.step s.helper refused (messages.Reveal r); large = l; moment = o }
reveal_on s None None refused r shut none = refl
reveal_on s None (Some o) refused r shut none = absurd (let x = none in cc)
reveal_on s (Some l) o refused r shut none = absurd (let x = shut in cc)

-- large entries are not asked of a helper of queries
not_built : (a b : Bool) → (((a && b) && false) && true) ≡ true → ⊥
not_built true true may = let no = may in cc
not_built true false may = let no = may in cc
not_built false b may = let no = may in cc

above_out : (s : HelperState) (heard : Heard) (side : Side) (at_least : ℕ)
    → IsTrue (turns.is_allowed (record s { heard = heard })
    (messages.Query (queries.Above side at_least))) → ⊥
above_out s Nothing side at_least may = let no = may in cc
above_out s (Part d) side at_least may = let no = may in cc
above_out s (Whole d) side at_least may =
    not_built (is_none s.open_query) (nat_lt s.queries most_queries) may

heard_query : (s : QuestionHelper) (refused : Bool) (q : Query)
    → IsTrue (turns.may_hear s.helper (messages.Query q))
    → step s refused (messages.Query q)
    ≡ record s { helper = turns.step s.helper refused (messages.Query q) }
heard_query s refused (queries.Sub lo hi) may = refl
heard_query s refused (queries.Range side lo hi) may = refl
heard_query s refused (queries.F2 side) may = refl
heard_query s refused queries.Inner may = refl
heard_query s refused (queries.Heavy side at_least) may = refl
heard_query s refused (queries.Share side num den) may = refl
heard_query s refused (queries.Above side at_least) may =
    absurd (above_out s.helper s.helper.heard side at_least may)

-- what may come is heard as by a helper of queries
heard_as : (s : QuestionHelper) (refused : Bool) (m : Message) → s.large ≡ None → s.moment ≡ None
    → IsTrue (turns.may_hear s.helper m)
    → step s refused m ≡ record s { helper = turns.step s.helper refused m }
heard_as s refused (messages.Open _ _) shut none may = refl
heard_as s refused (messages.Updates _) shut none may = refl
heard_as s refused messages.EndStream shut none may = refl
heard_as s refused (messages.Query q) shut none may = heard_query s refused q may
heard_as s refused (messages.Reveal r) shut none may =
    reveal_on s s.large s.moment refused r shut none
heard_as s refused messages.Bye shut none may = absurd cc
heard_as s refused (messages.Claim _) shut none may = absurd cc
heard_as s refused (messages.Poly _ _ _) shut none may = absurd cc
heard_as s refused (messages.Entries _) shut none may = absurd cc
heard_as s refused (messages.Siblings _ _) shut none may = absurd cc
heard_as s refused (messages.Leaves _) shut none may = absurd cc
heard_as s refused (messages.Nodes _) shut none may = absurd cc
heard_as s refused messages.LevelEnd shut none may = absurd cc
heard_as s refused (messages.Refuse _) shut none may = absurd cc
heard_as s refused (messages.AskLook _ _) shut none may = absurd cc
heard_as s refused (messages.Found _ _) shut none may = absurd cc
heard_as s refused messages.End shut none may = absurd cc
heard_as s refused (messages.AskMoment _ _) shut none may = absurd cc
heard_as s refused (messages.Held _) shut none may = absurd cc
heard_as s refused (messages.Recall _) shut none may = absurd cc
heard_as s refused (messages.Marks _) shut none may = absurd cc
heard_as s refused (messages.Power _) shut none may = absurd cc

-- and what is known of the sizes stands on
pub heard_on : {E : Type 0} (result : Result Unit E) (s : QuestionHelper) (next : HelperState)
    (sizes : Sizes) (m : Message) → s.large ≡ None → s.moment ≡ None
    → s.again ≡ again_of s.helper sizes → IfSome (again_of s.helper sizes) (IsReadAgain s.helper)
    → (IsOk result → IsTrue (turns.may_hear s.helper m))
    → OnOk result ((refused : Bool) × (next ≡ turns.step s.helper refused m))
    → OnOk result ((refused : Bool)
    × (record s { helper = next; again = again_of next sizes } ≡ step s refused m))
heard_on (Err e) s next sizes m shut none is read may did = tt
heard_on (Ok x) s next sizes m shut none is read may did =
    let stays = sizes_stay s.helper did.0 m sizes (may refl) read ∙ sym is in (
      did.0,
      ap (λ (h : HelperState). record s { helper = h; again = again_of h sizes }) did.1
          ∙ ap (λ (a : Option HelperState). record s { helper = turns.step s.helper did.0 m; again = a }) stays
          ∙ sym (heard_as s did.0 m shut none (may refl)),
    )

-- ---- while large entries or a moment are open

-- what asks for something new
pub record IsNew (m : Message) : Type 0 where
  pub bye : m ≡ messages.Bye → ⊥
  pub look : (code item : ℕ) → m ≡ messages.AskLook code item → ⊥
  pub moment : (side degree : ℕ) → m ≡ messages.AskMoment side degree → ⊥
  pub above : (side : Side) (at_least : ℕ) → m ≡ messages.Query (queries.Above side at_least) → ⊥

-- all but a farewell and what asks for something new is heard as by what is open
allows_as : (s : QuestionHelper) (m : Message) → IsNew m → is_allowed s m ≡ may_hear s m
allows_as s (messages.Query (queries.Sub lo hi)) other = refl
allows_as s (messages.Query (queries.Range side lo hi)) other = refl
allows_as s (messages.Query (queries.F2 side)) other = refl
allows_as s (messages.Query queries.Inner) other = refl
allows_as s (messages.Query (queries.Heavy side at_least)) other = refl
allows_as s (messages.Query (queries.Share side num den)) other = refl
allows_as s (messages.Query (queries.Above side at_least)) other = absurd (other.above side at_least refl)
allows_as s (messages.Open a b) other = refl
allows_as s (messages.Updates a) other = refl
allows_as s messages.EndStream other = refl
allows_as s (messages.Reveal a) other = refl
allows_as s (messages.Claim a) other = refl
allows_as s (messages.Poly a b c) other = refl
allows_as s (messages.Entries a) other = refl
allows_as s (messages.Siblings a b) other = refl
allows_as s (messages.Leaves a) other = refl
allows_as s (messages.Nodes a) other = refl
allows_as s messages.LevelEnd other = refl
allows_as s (messages.Refuse a) other = refl
allows_as s (messages.Found a b) other = refl
allows_as s messages.End other = refl
allows_as s (messages.Held a) other = refl
allows_as s (messages.Recall a) other = refl
allows_as s (messages.Marks a) other = refl
allows_as s (messages.Power a) other = refl
allows_as s messages.Bye other = absurd (other.bye refl)
allows_as s (messages.AskLook a b) other = absurd (other.look a b refl)
allows_as s (messages.AskMoment a b) other = absurd (other.moment a b refl)

-- where nothing is open, as by a helper of queries
hear_idle : (s : QuestionHelper) (l : Option OpenLarge) (o : Option OpenMoment) (m : Message)
    → l ≡ None → o ≡ None
    → may_hear (record s { large = l; moment = o }) m ≡ turns.is_allowed s.helper m
hear_idle s None None m shut none = refl
hear_idle s None (Some o) m shut none = absurd (let no = none in cc)
hear_idle s (Some l) o m shut none = absurd (let no = shut in cc)

pub allowed_idle : {E : Type 0} (result : Result Unit E) (s : QuestionHelper) (m : Message)
    → s.large ≡ None → s.moment ≡ None → IsNew m
    → IsOk result ↔ IsTrue (turns.may_hear s.helper m) → IsOk result ↔ IsTrue (is_allowed s m)
allowed_idle result s m shut none other turn =
    subst (λ (b : Bool). IsOk result ↔ IsTrue b)
    (hears_as s.helper m other.bye
    ∙ sym (allows_as s m other ∙ hear_idle s s.large s.moment m shut none)) turn

hear_open : (s : QuestionHelper) (l : Option OpenLarge) (v : Option OpenMoment) (o : OpenMoment)
    (m : Message) → l ≡ None → v ≡ Some o
    → may_hear (record s { large = l; moment = v }) m ≡ may_follow (depth_of s.helper.heard) o m
hear_open s (Some x) v o m shut is = absurd (let some = shut in cc)
hear_open s None None o m shut is = absurd (let none = is in cc)
hear_open s None (Some p) o m shut is =
    let same : p ≡ o = let some = is in cc in
    ap (λ (q : OpenMoment). may_follow (depth_of s.helper.heard) q m) same

pub allowed_by : {E : Type 0} (result : Result Unit E) (s : QuestionHelper) (v : Option OpenMoment)
    (m : Message) → s.large ≡ None → s.moment ≡ v → IsTrue (is_some v) → IsNew m
    → IfSome v (λ o. IsOk result ↔ IsTrue (may_follow (depth_of s.helper.heard) o m))
    → IsOk result ↔ IsTrue (is_allowed s m)
allowed_by result s None m shut is some other turn = absurd (let none = some in cc)
allowed_by result s (Some o) m shut is some other turn =
    subst (λ (b : Bool). IsOk result ↔ IsTrue b)
    (sym (allows_as s m other ∙ hear_open s s.large s.moment o m shut is)) turn

hear_large : (s : QuestionHelper) (v : Option OpenLarge) (o : OpenLarge) (m : Message) → v ≡ Some o
    → may_hear (record s { large = v }) m ≡ large_follows (depth_of s.helper.heard) o m
hear_large s None o m is = absurd (let none = is in cc)
hear_large s (Some p) o m is =
    let same : p ≡ o = let some = is in cc in
    ap (λ (q : OpenLarge). large_follows (depth_of s.helper.heard) q m) same

pub allowed_large : {E : Type 0} (result : Result Unit E) (s : QuestionHelper)
    (v : Option OpenLarge) (m : Message) → s.large ≡ v → IsTrue (is_some v) → IsNew m
    → IfSome v (λ o. IsOk result ↔ IsTrue (large_follows (depth_of s.helper.heard) o m))
    → IsOk result ↔ IsTrue (is_allowed s m)
allowed_large result s None m is some other turn = absurd (let none = some in cc)
allowed_large result s (Some o) m is some other turn =
    subst (λ (b : Bool). IsOk result ↔ IsTrue b)
    (sym (allows_as s m other ∙ hear_large s s.large o m is)) turn

-- the stream is as it was, and no message of the talk was its last
pub live_still : {E : Type 0} (result : Result Unit E) (s next : QuestionHelper)
    → IsTrue (not s.helper.spent) → OnOk result (next.helper ≡ s.helper)
    → OnOk result (IsTrue (not next.helper.spent))
live_still (Err e) s next live same = tt
live_still (Ok x) s next live same =
    subst (λ (h : HelperState). IsTrue (not h.spent)) (sym same) live

pub not_last : {E : Type 0} (result : Result Unit E) (s next : QuestionHelper) (m : Message)
    → s.helper.done ≡ false → OnOk result (next.helper ≡ s.helper)
    → OnOk result (next.helper.done ≡ true → m ≡ messages.Bye)
not_last (Err e) s next m going same = tt
not_last (Ok x) s next m going same = λ done.
    let still : next.helper.done ≡ false = ap (λ (h : HelperState). h.done) same ∙ going in
    absurd (let no : true ≡ false = sym done ∙ still in cc)

pub some_open : (o : Option MomentUnderWay) → true ≡ is_some o
    → IsTrue (is_some (option_map open_of o))
some_open None some = absurd (let no = some in cc)
some_open (Some q) some = refl

pub some_large : (o : Option LargeUnderWay) → true ≡ is_some o
    → IsTrue (is_some (option_map larges.open_of o))
some_large None some = absurd (let no = some in cc)
some_large (Some q) some = refl

pub none_large : (o : Option LargeUnderWay) → false ≡ is_some o → option_map larges.open_of o ≡ None
none_large None none = refl
none_large (Some q) none = absurd (let no = none in cc)

pub none_open : (o : Option MomentUnderWay) → false ≡ is_some o → option_map open_of o ≡ None
none_open None none = refl
none_open (Some q) none = absurd (let no = none in cc)

pub by_memory : {E : Type 0} (result : Result Unit E) (s next : QuestionHelper) (m : Message)
    → OnOk result (next ≡ step s false m)
    → OnOk result ((refused : Bool) × (next ≡ step s refused m))
by_memory (Err e) s next m did = tt
by_memory (Ok x) s next m did = (false, did)

pub fewer_then : {E : Type 0} (result : Result Unit E) (s next : QuestionHelper)
    → OnOk result (questions_left next < questions_left s)
    → OnOk result (next.helper.done ≡ false → questions_left next < questions_left s)
fewer_then (Err e) s next fewer = tt
fewer_then (Ok x) s next fewer = λ _. fewer
