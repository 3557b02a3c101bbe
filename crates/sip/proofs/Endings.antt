-- With which statuses a command ends, and that a text ends with no usage fault.
use Rattle.std.proofs.Common.{◌≡◌, ℕ, List, Option, Some, None, refl, subst}
use Rattle.std.specs.Prelude.{IfSome, unwrap_or}
use Rattle.sip_ports.specs.declared.port.TalkEvent.{TalkEvent}
use Rattle.sip_verifier.specs.declared.status.Status.{Status}
use Rattle.sip_verifier.specs.declared.status.Status.TheVariants as statuses
use Rattle.sip_words.specs.declared.command.Command.{Command}
use Rattle.sip_words.specs.declared.command.Command.TheVariants.{Verify, Help, Audit, Show, Convert, Gen, Lines, Widen, Play, Lookup, HelpLook, Moments, HelpMoments, Panel, Serve}
use Rattle.sip_advice.specs.Pages.{PageClause}
use Rattle.sip_cli.specs.Statuses.{Ends}

-- each command may end for want of memory
wanting : (c : Command) → Ends c statuses.OutOfMemory
wanting (Verify task) = refl
wanting Help = tt
wanting (Audit form) = refl
wanting Show = refl
wanting Convert = refl
wanting (Gen depth) = tt
wanting (Lines form depth) = tt
wanting (Widen form depth) = tt
wanting (Play task name) = refl
wanting (Lookup task) = refl
wanting HelpLook = tt
wanting (Moments task) = refl
wanting HelpMoments = tt
wanting (Panel task names) = refl
wanting (Serve form) = tt

-- so a command that was not begun ends with a status of its own too
pub ends_or_wants : (c : Command) (status : Option Status) → IfSome status (λ s. Ends c s)
    → Ends c (unwrap_or status statuses.OutOfMemory)
ends_or_wants c (Some s) ends = ends
ends_or_wants c None ends = wanting c

-- no text ends with a usage fault
pub never_of_page : (old new : Option (List TalkEvent)) (text : List ℕ) (status : Status) (word : ℕ)
    → PageClause old new text status → status ≡ statuses.Usage word → ⊥
never_of_page old new text status word page e = subst (PageClause old new text) e page
