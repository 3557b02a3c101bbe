-- While no large entries were asked for, a turn is the same whatever is heard of the sizes.
use Rattle.std.proofs.Common.{◌≡◌, ℕ, Bool, true, false, ◌&&◌, if◌then◌else◌, is_some, Option, Some, None, List, refl, sym, ap, subst, ◌∙◌}
use Rattle.std.specs.Prelude.{IsTrue, nat_lt}
use Rattle.sip_wire.specs.Table.{most_queries}
use Rattle.std.specs.List.{flat_map}
use Rattle.sip_ports.specs.declared.port.TalkEvent.{TalkEvent}
use Rattle.sip_ports.specs.Ports.{GoesOn, outs}
use Rattle.sip_vector.specs.declared.query.Query.{Query}
use Rattle.sip_vector.specs.declared.query.Query.TheVariants as queries
use Rattle.sip_wire.specs.declared.message.Message.{Message}
use Rattle.sip_wire.specs.declared.message.Message.TheVariants as messages
use Rattle.sip_wire.specs.Spelling.{spelling}
use Rattle.sip_helper.specs.OneTurn.{Replied}
use Rattle.sip_helper.specs.Turns.{HelperState, whole_of}
use Rattle.sip_helper.specs.Turns as turns
use Rattle.sip_above.specs.Serving.{OpenLarge}
use Rattle.sip_lookup.specs.declared.lookup.Lookup.{Lookup}
use Rattle.sip_moments.specs.Serving.{OpenMoment}
use Rattle.sip_questions.specs.inside.Keeping.{stream_of}
use Rattle.sip_questions.specs.inside.StoreTurns.{with_again}
use Rattle.sip_questions.proofs.HelperKept.{open_out, part_out}
use Rattle.sip_questions.specs.Serving.{QuestionHelper, above_depth, after_answer, idle_depth, is_allowed, is_two, owed_messages, question_rules, revealed, step}

-- ---- which message may come

allows_query : (s : QuestionHelper) (w : Option HelperState) (q : Query) → is_allowed (with_again s w) (messages.Query q) ≡ is_allowed s (messages.Query q)
allows_query s w (queries.Sub lo hi) = refl
allows_query s w (queries.Range side lo hi) = refl
allows_query s w (queries.F2 side) = refl
allows_query s w queries.Inner = refl
allows_query s w (queries.Heavy side at_least) = refl
allows_query s w (queries.Share side num den) = refl
allows_query s w (queries.Above side at_least) = refl

pub allows : (s : QuestionHelper) (w : Option HelperState) (m : Message) → is_allowed (with_again s w) m ≡ is_allowed s m
allows s w (messages.Query q) = allows_query s w q
allows s w (messages.Open _ _) = refl
allows s w (messages.Updates _) = refl
allows s w messages.EndStream = refl
allows s w (messages.Reveal _) = refl
allows s w messages.Bye = refl
allows s w (messages.Claim _) = refl
allows s w (messages.Poly _ _ _) = refl
allows s w (messages.Entries _) = refl
allows s w (messages.Siblings _ _) = refl
allows s w (messages.Leaves _) = refl
allows s w (messages.Nodes _) = refl
allows s w messages.LevelEnd = refl
allows s w (messages.Refuse _) = refl
allows s w (messages.AskLook _ _) = refl
allows s w (messages.Found _ _) = refl
allows s w messages.End = refl
allows s w (messages.AskMoment _ _) = refl
allows s w (messages.Held _) = refl
allows s w (messages.Recall _) = refl
allows s w (messages.Marks _) = refl
allows s w (messages.Power _) = refl

-- ---- what it does

reveals : (s : QuestionHelper) (w : Option HelperState) (large : Option OpenLarge) (moment : Option OpenMoment) (refused : Bool) (r : ℕ)
    → revealed (record s { again = w; large = large; moment = moment }) refused r ≡ with_again (revealed (record s { large = large; moment = moment }) refused r) w
reveals s w (Some o) moment refused r = refl
reveals s w None (Some o) refused r = refl
reveals s w None None refused r = refl

steps_query : (s : QuestionHelper) (w : Option HelperState) (refused : Bool) (q : Query) → step (with_again s w) refused (messages.Query q) ≡ with_again (step s refused (messages.Query q)) w
steps_query s w refused (queries.Sub lo hi) = refl
steps_query s w refused (queries.Range side lo hi) = refl
steps_query s w refused (queries.F2 side) = refl
steps_query s w refused queries.Inner = refl
steps_query s w refused (queries.Heavy side at_least) = refl
steps_query s w refused (queries.Share side num den) = refl
steps_query s w refused (queries.Above side at_least) = refl

pub steps : (s : QuestionHelper) (w : Option HelperState) (refused : Bool) (m : Message) → step (with_again s w) refused m ≡ with_again (step s refused m) w
steps s w refused (messages.Query q) = steps_query s w refused q
steps s w refused (messages.Reveal r) = reveals s w s.large s.moment refused r
steps s w refused (messages.Open _ _) = refl
steps s w refused (messages.Updates _) = refl
steps s w refused messages.EndStream = refl
steps s w refused messages.Bye = refl
steps s w refused (messages.Claim _) = refl
steps s w refused (messages.Poly _ _ _) = refl
steps s w refused (messages.Entries _) = refl
steps s w refused (messages.Siblings _ _) = refl
steps s w refused (messages.Leaves _) = refl
steps s w refused (messages.Nodes _) = refl
steps s w refused messages.LevelEnd = refl
steps s w refused (messages.Refuse _) = refl
steps s w refused (messages.AskLook _ _) = refl
steps s w refused (messages.Found _ _) = refl
steps s w refused messages.End = refl
steps s w refused (messages.AskMoment _ _) = refl
steps s w refused (messages.Held _) = refl
steps s w refused (messages.Recall _) = refl
steps s w refused (messages.Marks _) = refl
steps s w refused (messages.Power _) = refl

-- large entries are asked for, where they may be, by a message that has the depth of the stream
no_pose : (d : Option ℕ) (two more : Bool) → (if two then d else None) ≡ None → (is_some d && more && two) ≡ false
no_pose None two more none = refl
no_pose (Some x) true more none = absurd cc
no_pose (Some x) false true none = refl
no_pose (Some x) false false none = refl

-- nothing is open for large entries behind another message
stays_query : (s : QuestionHelper) (refused : Bool) (q : Query) → s.large ≡ None → IsTrue (is_allowed s (messages.Query q)) → above_depth s (messages.Query q) ≡ None → (step s refused (messages.Query q)).large ≡ None
stays_query s refused (queries.Sub lo hi) none may out = none
stays_query s refused (queries.Range side lo hi) none may out = none
stays_query s refused (queries.F2 side) none may out = none
stays_query s refused queries.Inner none may out = none
stays_query s refused (queries.Heavy side at_least) none may out = none
stays_query s refused (queries.Share side num den) none may out = none
stays_query s refused (queries.Above side at_least) none may out = absurd (let no : true ≡ false = sym may ∙ no_pose (idle_depth s) (is_two s.helper.version) (nat_lt s.helper.queries most_queries) out in cc)

stays_revealed : (s : QuestionHelper) (large : Option OpenLarge) (moment : Option OpenMoment) (refused : Bool) (r : ℕ) → large ≡ None → (revealed (record s { large = large; moment = moment }) refused r).large ≡ None
stays_revealed s (Some o) moment refused r none = absurd (let no = none in cc)
stays_revealed s None (Some o) refused r none = refl
stays_revealed s None None refused r none = refl

pub stays : (s : QuestionHelper) (refused : Bool) (m : Message) → s.large ≡ None → IsTrue (is_allowed s m) → above_depth s m ≡ None → (step s refused m).large ≡ None
stays s refused (messages.Query q) none may out = stays_query s refused q none may out
stays s refused (messages.Reveal r) none may out = stays_revealed s s.large s.moment refused r none
stays s refused (messages.Open _ _) none may out = none
stays s refused (messages.Updates _) none may out = none
stays s refused messages.EndStream none may out = none
stays s refused messages.Bye none may out = none
stays s refused (messages.Claim _) none may out = none
stays s refused (messages.Poly _ _ _) none may out = none
stays s refused (messages.Entries _) none may out = none
stays s refused (messages.Siblings _ _) none may out = none
stays s refused (messages.Leaves _) none may out = none
stays s refused (messages.Nodes _) none may out = none
stays s refused messages.LevelEnd none may out = none
stays s refused (messages.Refuse _) none may out = none
stays s refused (messages.AskLook _ _) none may out = none
stays s refused (messages.Found _ _) none may out = none
stays s refused messages.End none may out = none
stays s refused (messages.AskMoment _ _) none may out = none
stays s refused (messages.Held _) none may out = none
stays s refused (messages.Recall _) none may out = none
stays s refused (messages.Marks _) none may out = none
stays s refused (messages.Power _) none may out = none

-- ---- the reply that is owed

owes : (s : QuestionHelper) (w : Option HelperState) (sought : Option Lookup) (large : Option OpenLarge) (moment : Option OpenMoment) → large ≡ None
    → owed_messages (record s { again = w; sought = sought; large = large; moment = moment }) ≡ owed_messages (record s { sought = sought; large = large; moment = moment })
owes s w (Some l) large moment none = refl
owes s w None (Some o) moment none = absurd (let no = none in cc)
owes s w None None (Some o) none = refl
owes s w None None None none = refl

answered : (s : QuestionHelper) (w : Option HelperState) (sought : Option Lookup) (large : Option OpenLarge) (moment : Option OpenMoment) → large ≡ None
    → after_answer (record s { again = w; sought = sought; large = large; moment = moment }) ≡ with_again (after_answer (record s { sought = sought; large = large; moment = moment })) w
answered s w (Some l) large moment none = refl
answered s w None (Some o) moment none = absurd (let no = none in cc)
answered s w None None (Some o) none = refl
answered s w None None None none = refl

shut : (s : QuestionHelper) (sought : Option Lookup) (large : Option OpenLarge) (moment : Option OpenMoment) → large ≡ None → (after_answer (record s { sought = sought; large = large; moment = moment })).large ≡ None
shut s (Some l) large moment none = none
shut s None (Some o) moment none = absurd (let no = none in cc)
shut s None None (Some o) none = refl
shut s None None None none = refl

-- what is known of the sizes stays
kept : (s : QuestionHelper) (sought : Option Lookup) (large : Option OpenLarge) (moment : Option OpenMoment) → (after_answer (record s { sought = sought; large = large; moment = moment })).again ≡ s.again
kept s (Some l) large moment = refl
kept s None (Some o) moment = refl
kept s None None (Some o) = refl
kept s None None None = refl

-- ---- what was heard of the stream

through : {L M : Type 0} (large : Option L) (moment : Option M) (b : Bool) → IsTrue (elim large [ Some o ↦ false | None ↦ elim moment [ Some o ↦ false | None ↦ b ] ]) → IsTrue b
through (Some o) moment b is = absurd (let no = is in cc)
through None (Some o) b is = absurd (let no = is in cc)
through None None b is = is

stream_revealed : (s : QuestionHelper) (large : Option OpenLarge) (moment : Option OpenMoment) (refused : Bool) (r : ℕ) → stream_of (revealed (record s { large = large; moment = moment }) refused r).helper ≡ stream_of s.helper
stream_revealed s (Some o) moment refused r = refl
stream_revealed s None (Some o) refused r = refl
stream_revealed s None None refused r = refl

stream_query : (s : QuestionHelper) (refused : Bool) (q : Query) → stream_of (step s refused (messages.Query q)).helper ≡ stream_of s.helper
stream_query s refused (queries.Sub lo hi) = refl
stream_query s refused (queries.Range side lo hi) = refl
stream_query s refused (queries.F2 side) = refl
stream_query s refused queries.Inner = refl
stream_query s refused (queries.Heavy side at_least) = refl
stream_query s refused (queries.Share side num den) = refl
stream_query s refused (queries.Above side at_least) = refl

stream_on : (s : QuestionHelper) (refused : Bool) (m : Message) (depth : ℕ) → whole_of s.helper.heard ≡ Some depth → IsTrue (is_allowed s m) → stream_of (step s refused m).helper ≡ stream_of s.helper
stream_on s refused (messages.Open a b) depth whole may = absurd (open_out s.helper s.helper.heard a b depth whole (through s.large s.moment _ may))
stream_on s refused (messages.Updates us) depth whole may = absurd (part_out s.helper.heard (λ d. turns.stays_legal d s.helper.weights us.items) depth whole (through s.large s.moment _ may))
stream_on s refused messages.EndStream depth whole may = absurd (part_out s.helper.heard (λ d. true) depth whole (through s.large s.moment _ may))
stream_on s refused (messages.Query q) depth whole may = stream_query s refused q
stream_on s refused (messages.Reveal r) depth whole may = stream_revealed s s.large s.moment refused r
stream_on s refused messages.Bye depth whole may = refl
stream_on s refused (messages.AskLook _ _) depth whole may = refl
stream_on s refused (messages.AskMoment _ _) depth whole may = refl
stream_on s refused (messages.Claim _) depth whole may = refl
stream_on s refused (messages.Poly _ _ _) depth whole may = refl
stream_on s refused (messages.Entries _) depth whole may = refl
stream_on s refused (messages.Siblings _ _) depth whole may = refl
stream_on s refused (messages.Leaves _) depth whole may = refl
stream_on s refused (messages.Nodes _) depth whole may = refl
stream_on s refused messages.LevelEnd depth whole may = refl
stream_on s refused (messages.Refuse _) depth whole may = refl
stream_on s refused (messages.Found _ _) depth whole may = refl
stream_on s refused messages.End depth whole may = refl
stream_on s refused (messages.Held _) depth whole may = refl
stream_on s refused (messages.Recall _) depth whole may = refl
stream_on s refused (messages.Marks _) depth whole may = refl
stream_on s refused (messages.Power _) depth whole may = refl

stream_answered : (s : QuestionHelper) (sought : Option Lookup) (large : Option OpenLarge) (moment : Option OpenMoment) → stream_of (after_answer (record s { sought = sought; large = large; moment = moment })).helper ≡ stream_of s.helper
stream_answered s (Some l) large moment = refl
stream_answered s None (Some o) moment = refl
stream_answered s None None (Some o) = refl
stream_answered s None None None = refl

-- ---- a turn

module _ (old new : Option (List TalkEvent)) (s next : QuestionHelper) (m : Message) (took : Replied question_rules old new s m next) where
  abbrev stepped : QuestionHelper
  stepped = step s took.refused m

  -- by what is known of the sizes stepped, which is what was known
  pub same_again : next.again ≡ s.again
  same_again = ap (λ (x : QuestionHelper). x.again) took.state ∙ kept stepped stepped.sought stepped.large stepped.moment ∙ ap (λ (x : QuestionHelper). x.again) (steps s s.again took.refused m)

  -- and what was heard of the stream is as it was
  pub same_stream : (depth : ℕ) → whole_of s.helper.heard ≡ Some depth → stream_of next.helper ≡ stream_of s.helper
  same_stream depth whole = ap (λ (x : QuestionHelper). stream_of x.helper) took.state ∙ stream_answered stepped stepped.sought stepped.large stepped.moment ∙ stream_on s took.refused m depth whole took.allowed

  module _ (none : s.large ≡ None) (out : above_depth s m ≡ None) where
    quiet : stepped.large ≡ None
    quiet = stays s took.refused m none took.allowed out

    bytes : (w : Option HelperState) → question_rules.owed (step (with_again s w) took.refused m) ≡ question_rules.owed stepped
    bytes w =
        ap question_rules.owed (steps s w took.refused m)
        ∙ ap (λ (ms : List Message). flat_map (spelling stepped.helper.version) ms) (owes stepped w stepped.sought stepped.large stepped.moment quiet)

    -- where large entries are not asked for, it is the same whatever is known of the sizes
    pub any_replied : (w : Option HelperState) → Replied question_rules old new (with_again s w) m (with_again next w)
    any_replied w =
        let on = steps s w took.refused m in record {
          allowed = subst (λ (b : Bool). IsTrue b) (sym (allows s w m)) took.allowed;
          refused = took.refused;
          state =
              ap (λ (x : QuestionHelper). with_again x w) took.state
              ∙ sym (answered stepped w stepped.sought stepped.large stepped.moment quiet)
              ∙ ap after_answer (sym on);
          going = took.going;
          sent = subst (λ (l : List ℕ). GoesOn old new (outs l)) (sym (bytes w)) took.sent;
        }

    -- and nothing is open for large entries behind it
    pub still_none : next.large ≡ None
    still_none = ap (λ (x : QuestionHelper). x.large) took.state ∙ shut stepped stepped.sought stepped.large stepped.moment quiet
