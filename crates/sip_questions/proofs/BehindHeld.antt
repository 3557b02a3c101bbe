-- How a talk over a store goes on behind what is held.
use Rattle.std.proofs.Common.{◌≡◌, ℕ, ◌+◌, ◌*◌, ◌<◌, ◌≤◌, Bool, true, false, List, length, Option, Some, None, Ok, inl, inr, refl, sym, ap, subst, ◌∙◌, arith}
use Rattle.std.specs.Prelude.{IfSome}
use Rattle.sip_ports.specs.declared.port.TalkEvent.{TalkEvent}
use Rattle.sip_ports.specs.Ports.{GoesOn, ins}
use Rattle.sip_stream.specs.declared.form.Form.{Form}
use Rattle.sip_vector.specs.Tallies.{tally}
use Rattle.sip_vector.specs.declared.tally.Tally.{Tally}
use Rattle.sip_vector.specs.declared.update.Update.{Update}
use Rattle.sip_wire.specs.declared.message.Message.{Message}
use Rattle.sip_wire.specs.Spelling.{spelling}
use Rattle.sip_wire.specs.Table.{longest_frame}
use Rattle.sip_helper.specs.declared.status.HelpStatus.{HelpStatus}
use Rattle.sip_helper.specs.inside.Measures.{most_turns}
use Rattle.sip_helper.specs.OneTurn.{Replied, StopsTurn}
use Rattle.sip_helper.specs.Rules.{IsMessageBy, ServesOn}
use Rattle.sip_helper.specs.Turns.{HelperState, whole_of}
use Rattle.sip_helper.specs.UnderWay.{UnderWay}
use Rattle.sip_helper.proofs.Talks.{begins, ends, goes_on}
use Rattle.sip_helper.proofs.Turning.{turn_taken}
use Rattle.sip_questions.specs.declared.store.Asked.{Asked}
use Rattle.sip_questions.specs.Serving.{QuestionHelper, above_depth, question_rules}
use Rattle.sip_questions.specs.StoreFronts.{Recalls, asked_for}
use Rattle.sip_questions.specs.Stores.{AnswersBy, sizes_heard, store_heard}
use Rattle.sip_questions.specs.inside.Keeping.{questions_left, stream_of}
use Rattle.sip_questions.specs.inside.StoreTurns.{GoesBehind, IsBehind, IsHeardOf, IsWeighed, TriesAgain, with_again}
use Rattle.sip_questions.proofs.AnyAgain.{any_replied, same_again, same_stream, still_none}

-- few turns are left of a helper that has heard a stream
few_left : (r : Recalls) (us : List Update) (w : Option HelperState) → questions_left (with_again (store_heard r.number r.depth us None) w) ≤ most_turns
few_left r us w = omega arith

module _ (r : Recalls) (us : List Update) (form : Form) (again : Option (List ℕ)) (first : QuestionHelper) (before : ℕ) (start : Option (List TalkEvent)) where
  -- nothing was asked yet
  pub behind_begins : (asked : Asked) (told : Tally) → IsBehind r us asked told first → GoesBehind r us form again again first before start start false first before
  behind_begins asked told is = record {
    under_way = λ w same. begins question_rules questions_left (with_again first w) before start
        (ap (λ (s : QuestionHelper). s.helper.done) is.state)
        (subst (λ (s : QuestionHelper). questions_left (with_again s w) ≤ most_turns) (sym is.state) (few_left r us w));
    stream = ap (λ (s : QuestionHelper). stream_of s.helper) is.state;
    untried = λ no. (ap (λ (s : QuestionHelper). s.large) is.state, ap (λ (s : QuestionHelper). s.again) is.state, refl);
    read = subst (λ (o : Option HelperState). IfSome o (IsWeighed r form again again us)) (sym (ap (λ (s : QuestionHelper). s.again) is.state)) tt;
  }

  module _ (now : Option (List TalkEvent)) (unread : Option (List ℕ)) (tried : Bool) (s : QuestionHelper) (offset : ℕ) (goes : GoesBehind r us form again unread first before start now tried s offset) where
    -- the depth of the stream
    whole : whole_of s.helper.heard ≡ Some r.depth
    whole = ap (λ (h : HelperState). whole_of h.heard) goes.stream

    -- the turns, by what is known of the sizes now
    own : UnderWay question_rules questions_left (with_again first s.again) before start now s offset
    own = goes.under_way s.again (λ is. refl)

    pub room_left : offset + longest_frame * questions_left s ≤ before + longest_frame * most_turns
    room_left = own.room

    pub heard_of_it : (asked : Asked) (told : Tally) → asked.count ≡ r.count → told ≡ tally us → IsHeardOf r us asked told s
    heard_of_it asked told count comes = record { count = count; comes = comes; stream = goes.stream }

    -- the store was read again, or not
    pub tried_on : (m : Message) (later : Option (List ℕ)) (next : QuestionHelper) (then : Bool) → TriesAgain r us form unread later tried s m then next
        → GoesBehind r us form again later first before start now then next offset
    tried_on m later next then (inl rests) =
        subst (λ (u : Option (List ℕ)). GoesBehind r us form again u first before start now then next offset) (sym rests.left)
        (subst (λ (b : Bool). GoesBehind r us form again unread first before start now b next offset) (sym rests.still)
        (subst (λ (x : QuestionHelper). GoesBehind r us form again unread first before start now tried x offset) (sym rests.same) goes))
    tried_on m later next then (inr tries) =
        let begun : unread ≡ again = (goes.untried tries.first).2 in
        subst (λ (x : QuestionHelper). GoesBehind r us form again later first before start now then x offset) (sym tries.is) (record {
          under_way = λ w same. goes.under_way w (λ is. absurd (let no : true ≡ false = sym is ∙ tries.first in cc));
          stream = goes.stream;
          untried = λ no. absurd (let e : true ≡ false = sym tries.now_tried ∙ no in cc);
          read = subst (λ (b : Option (List ℕ)). IfSome tries.weights (IsWeighed r form b later us)) begun tries.read;
        })

    -- the talk ends
    module _ (is : first ≡ store_heard r.number r.depth us None) (at : before ≡ length (asked_for r)) (new : Option (List TalkEvent)) (status : HelpStatus) (stop : StopsTurn question_rules now new s offset status) where
      served : (more : Option (List Update)) → s.again ≡ sizes_heard r.number r.depth more → ServesOn question_rules (store_heard r.number r.depth us more) (length (asked_for r)) start new status
      served more same =
          let begun : with_again first s.again ≡ store_heard r.number r.depth us more =
          ap (λ (x : QuestionHelper). with_again x s.again) is ∙ ap (λ (o : Option HelperState). with_again (store_heard r.number r.depth us None) o) same in
          subst (λ n. ServesOn question_rules (store_heard r.number r.depth us more) n start new status) at
          (subst (λ (x : QuestionHelper). ServesOn question_rules x before start new status) begun
          (ends question_rules questions_left (with_again first s.again) before start now new s offset own status stop))

      answers_by : (w : Option HelperState) → s.again ≡ w → IfSome w (IsWeighed r form again unread us) → AnswersBy r us form again unread start new status
      answers_by None none read = record { more = None; reread = tt; serves = served None none }
      answers_by (Some w) some read = record {
        more = Some read.more;
        reread = read.reread;
        serves = served (Some read.more) (some ∙ ap (λ (h : HelperState). Some h) read.is);
      }

      pub answers_then : AnswersBy r us form again unread start new status
      answers_then = answers_by s.again refl goes.read

    -- a turn was taken
    module _ (mid new : Option (List TalkEvent)) (m : Message) (next : QuestionHelper) (is : IsMessageBy question_rules s m) (received : GoesOn now mid (ins (spelling (question_rules.version s) m)))
        (took : Replied question_rules mid new s m next) (out : tried ≡ false → above_depth s m ≡ None) where
      replied : (w : Option HelperState) (b : Bool) → tried ≡ b → (b ≡ true → w ≡ next.again) → Replied question_rules mid new (with_again s w) m (with_again next w)
      replied w true so same =
          let kept = same_again mid new s next m took in
          subst (λ (v : Option HelperState). Replied question_rules mid new (with_again s v) m (with_again next v)) (sym (same refl ∙ kept))
          (subst (λ (v : Option HelperState). Replied question_rules mid new s m (with_again next v)) kept took)
      replied w false so same = any_replied mid new s next m took (goes.untried so).0 (out so) w

      pub turn_on : (got : List ℕ) (n : ℕ) → got ≡ spelling (question_rules.version s) m → n ≡ length got → questions_left next < questions_left s
          → GoesBehind r us form again unread first before start new tried next (offset + n)
      turn_on got n whole_frame count fewer =
          let kept = same_again mid new s next m took in record {
            under_way = λ w same. goes_on question_rules questions_left (with_again first w) before start now new (with_again s w) offset
                (goes.under_way w (λ so. same so ∙ kept)) (with_again next w) got n count fewer
                (turn_taken question_rules (with_again s w) m now mid new is received (with_again next w) offset got whole_frame (Ok tt) (replied w tried refl same));
            stream = same_stream mid new s next m took r.depth whole ∙ goes.stream;
            untried = λ no. (still_none mid new s next m took (goes.untried no).0 (out no), kept ∙ (goes.untried no).1, (goes.untried no).2);
            read = subst (λ (o : Option HelperState). IfSome o (IsWeighed r form again unread us)) (sym kept) goes.read;
          }

-- where the store was read again, nothing else changed
pub tries_keep : (r : Recalls) (us : List Update) (form : Form) (again unread : Option (List ℕ)) (tried now : Bool) (s next : QuestionHelper) (m : Message) → TriesAgain r us form again unread tried s m now next
    → (next.helper ≡ s.helper) × (questions_left next ≡ questions_left s)
tries_keep r us form again unread tried now s next m (inl rests) = (ap (λ (x : QuestionHelper). x.helper) rests.same, ap questions_left rests.same)
tries_keep r us form again unread tried now s next m (inr tries) = (ap (λ (x : QuestionHelper). x.helper) tries.is, ap questions_left tries.is)

-- large entries are not asked for where it was not tried
pub tries_out : (r : Recalls) (us : List Update) (form : Form) (again unread : Option (List ℕ)) (tried now : Bool) (s next : QuestionHelper) (m : Message) → TriesAgain r us form again unread tried s m now next
    → now ≡ false → above_depth next m ≡ None
tries_out r us form again unread tried now s next m (inl rests) untried = ap (λ (x : QuestionHelper). above_depth x m) rests.same ∙ rests.out untried
tries_out r us form again unread tried now s next m (inr tries) untried = absurd (let e : true ≡ false = sym tries.now_tried ∙ untried in cc)
