-- What a call does with its ports where it does a command: the clause of it, by what a command of
-- each kind leaves; under another sign; and where nothing is a command.
use Rattle.std.proofs.Common.{◌≡◌, ◌⊎◌, ℕ, List, [], Option, None, Some, refl, sym, subst, arith}
use Rattle.std.specs.Io.KnownBytes.{Consumes}
use Rattle.sip_ports.specs.declared.port.TalkEvent.{TalkEvent}
use Rattle.sip_stream.specs.declared.form.Form.{Form}
use Rattle.sip_verifier.specs.declared.status.Status.{Status}
use Rattle.sip_verifier.specs.declared.status.Status.TheVariants as statuses
use Rattle.sip_verifier.specs.Exchanges.{TakesAtMost}
use Rattle.sip_words.specs.declared.command.Command.{Command}
use Rattle.sip_words.specs.declared.command.Command.TheVariants.{Verify, Help, Audit, Show, Convert, Gen, Lines, Widen, Play, Lookup, HelpLook, Moments, HelpMoments, Panel, Serve}
use Rattle.sip_cli.specs.CommandClause.{CommandClause}
use Rattle.sip_cli.specs.DoneClause.{DoneClause, Used, Rests, Wanted, before_done, after_done}
use Rattle.sip_cli.specs.Statuses.{IsCopy, IsHelp, IsRendering, IsUnkept, ReadsNoSeed}
use Rattle.sip_cli.proofs.CommandKeeps.{known_by}

-- ---- what is taken of the second source

-- nothing was taken of what is as it was
none_consumed : (o : Option (List ℕ)) → Consumes o o []
none_consumed None = tt
none_consumed (Some xs) = refl

none_taken : (o : Option (List ℕ)) → TakesAtMost 32 o o
none_taken o = ([], omega arith, none_consumed o)

none_taken_of : {B : Type 0} (second : Used B ℕ) → Rests second
    → TakesAtMost 32 (second.told second.old) (second.told second.new)
none_taken_of {B} second same = subst
    (λ (b : B). TakesAtMost 32 (second.told second.old) (second.told b)) (sym same)
    (none_taken (second.told second.old))

-- ---- what a command leaves

module _ {A B L K C : Type 0} (first : Used A ℕ) (second : Used B ℕ) (peer : Used L TalkEvent)
    (report : Used K TalkEvent) (keep : Used C TalkEvent) (status : Status) where
  abbrev Seeded : Type 0
  Seeded = TakesAtMost 32 (second.told second.old) (second.told second.new)

  abbrev Copied : Type 0
  Copied = (Rests second × Rests peer × Rests keep)
      × (status ≡ statuses.OutOfMemory → Wanted first ⊎ Wanted report)

  abbrev Helped : Type 0
  Helped = Rests first × Rests second × Rests report × Rests keep

  abbrev Rendered : Type 0
  Rendered = Rests first × Rests peer × Rests keep

  -- by its kind
  abbrev pub Leaves : Command → Type 0
  Leaves (Verify task) = Seeded
  Leaves Help = Helped
  Leaves (Audit form) = Rests peer × Rests keep
  Leaves Show = Rendered
  Leaves Convert = Rendered
  Leaves (Gen depth) = Copied
  Leaves (Lines form depth) = Copied
  Leaves (Widen form depth) = Copied
  Leaves (Play task name) = Seeded
  Leaves (Lookup task) = Rests keep × Seeded
  Leaves HelpLook = Helped
  Leaves (Moments task) = Rests keep × Seeded
  Leaves HelpMoments = Helped
  Leaves (Panel task names) = Seeded
  Leaves (Serve form) = Rests report × Rests keep

  left_by_copies : (d : Command) → Leaves d → IsCopy d → Copied
  left_by_copies (Gen depth) l is = l
  left_by_copies (Lines form depth) l is = l
  left_by_copies (Widen form depth) l is = l
  left_by_copies _ l is = absurd is

  left_by_helps : (d : Command) → Leaves d → IsHelp d → Helped
  left_by_helps Help l is = l
  left_by_helps HelpLook l is = l
  left_by_helps HelpMoments l is = l
  left_by_helps _ l is = absurd is

  left_unkept : (d : Command) → Leaves d → IsUnkept d → Rests keep
  left_unkept (Lookup task) l is = l.0
  left_unkept (Moments task) l is = l.0
  left_unkept _ l is = absurd is

  left_by_audits : (d : Command) (form : Form) → Leaves d → d ≡ Audit form
      → Rests peer × Rests keep
  left_by_audits d form l is = subst Leaves is l

  left_by_serve : (d : Command) (form : Form) → Leaves d → d ≡ Serve form
      → Rests report × Rests keep
  left_by_serve d form l is = subst Leaves is l

  left_by_shows : (d : Command) → Leaves d → IsRendering d → Rendered
  left_by_shows Show l is = l
  left_by_shows Convert l is = l
  left_by_shows _ l is = absurd is

  left_seed : (d : Command) → Leaves d → (ReadsNoSeed d → ⊥) → Seeded
  left_seed (Verify task) l free = l
  left_seed Help l free = none_taken_of second l.1
  left_seed (Audit form) l free = absurd (free tt)
  left_seed Show l free = absurd (free tt)
  left_seed Convert l free = absurd (free tt)
  left_seed (Gen depth) l free = none_taken_of second l.0.0
  left_seed (Lines form depth) l free = none_taken_of second l.0.0
  left_seed (Widen form depth) l free = none_taken_of second l.0.0
  left_seed (Play task name) l free = l
  left_seed (Lookup task) l free = l.1
  left_seed HelpLook l free = none_taken_of second l.1
  left_seed (Moments task) l free = l.1
  left_seed HelpMoments l free = none_taken_of second l.1
  left_seed (Panel task names) l free = l
  left_seed (Serve form) l free = absurd (free tt)

  done_so : (d : Command)
      → CommandClause (λ is. d ≡ is) (before_done first second peer report keep)
      (after_done first second peer report keep) status
      → Leaves d → DoneClause (λ is. d ≡ is) first second peer report keep status
  done_so d keeps l = record {
    keeps = keeps;
    copies_apart = λ command is. subst
        (λ (k : Command). IsCopy k → Rests second × Rests peer × Rests keep) is
        (λ copies. (left_by_copies d l copies).0);
    copies_want = λ command is. subst
        (λ (k : Command). IsCopy k → status ≡ statuses.OutOfMemory → Wanted first ⊎ Wanted report)
        is (λ copies. (left_by_copies d l copies).1);
    helps_apart = λ command is. subst (λ (k : Command). IsHelp k → Helped) is (left_by_helps d l);
    serves_apart = λ form is. left_by_serve d form l is;
    unkept = λ command is. subst (λ (k : Command). IsUnkept k → Rests keep) is (left_unkept d l);
    audits_apart = λ form is. left_by_audits d form l is;
    shows_apart = λ command is. subst (λ (k : Command). IsRendering k → Rendered) is
        (left_by_shows d l);
    seed = λ free. left_seed d l (free d refl);
  }

module _ {A B L K C : Type 0} {first : Used A ℕ} {second : Used B ℕ} {peer : Used L TalkEvent}
    {report : Used K TalkEvent} {keep : Used C TalkEvent} {status : Status} where
  -- where the command is known, what it keeps and what it leaves is all that is done
  pub does : {c : Command} (d : Command) → c ≡ d
      → CommandClause (λ is. c ≡ is) (before_done first second peer report keep)
      (after_done first second peer report keep) status
      → Leaves first second peer report keep status d
      → DoneClause (λ is. c ≡ is) first second peer report keep status
  does {c} d e keeps l =
      done_so first second peer report keep status c keeps
      (subst (Leaves first second peer report keep status) (sym e) l)

  -- what is done of a command is done for all who know it by another sign
  pub done_by : {Is Other : Command → Type 0} → ((command : Command) → Other command → Is command)
      → ((command : Command) → Is command → Other command)
      → DoneClause Is first second peer report keep status
      → DoneClause Other first second peer report keep status
  done_by is_so so_is k = record {
    keeps = known_by is_so k.keeps;
    copies_apart = λ command so. k.copies_apart command (is_so command so);
    copies_want = λ command so. k.copies_want command (is_so command so);
    helps_apart = λ command so. k.helps_apart command (is_so command so);
    serves_apart = λ form so. k.serves_apart form (is_so (Serve form) so);
    unkept = λ command so. k.unkept command (is_so command so);
    audits_apart = λ form so. k.audits_apart form (is_so (Audit form) so);
    shows_apart = λ command so. k.shows_apart command (is_so command so);
    seed = λ free. k.seed (λ command is. free command (so_is command is));
  }

-- where nothing is a command and nothing is called
module _ {A B L K C : Type 0} {Is : Command → Type 0} {first : Used A ℕ} {second : Used B ℕ}
    {peer : Used L TalkEvent} {report : Used K TalkEvent} {keep : Used C TalkEvent} where
  pub none_done : (word : ℕ) → ((command : Command) → Is command → ⊥)
      → CommandClause Is (before_done first second peer report keep)
      (after_done first second peer report keep) (statuses.Usage word)
      → Rests second
      → DoneClause Is first second peer report keep (statuses.Usage word)
  none_done word none keeps same = record {
    keeps = keeps;
    copies_apart = λ command is. absurd (none command is);
    copies_want = λ command is. absurd (none command is);
    helps_apart = λ command is. absurd (none command is);
    serves_apart = λ form is. absurd (none (Serve form) is);
    unkept = λ command is. absurd (none command is);
    audits_apart = λ form is. absurd (none (Audit form) is);
    shows_apart = λ command is. absurd (none command is);
    seed = λ free. none_taken_of second same;
  }
