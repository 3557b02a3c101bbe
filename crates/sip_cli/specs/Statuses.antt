-- The statuses that each command may answer.
use Rattle.sip_words.specs.declared.command.Command.{Command}
use Rattle.sip_words.specs.declared.command.Command.TheVariants as command
use Rattle.sip_verifier.specs.declared.status.Port.TheVariants as ports
use Rattle.sip_verifier.specs.declared.status.Status.{Status}
use Rattle.sip_verifier.specs.declared.status.Status.TheVariants as statuses
use Rattle.sip_verifier.specs.Statuses.{IsListed}
use Rattle.sip_lookup.specs.Promises as lookups
use Rattle.sip_moments.specs.MomentClause as moments
use Rattle.sip_transcript.specs.Auditing.{EndsAudit}
use Rattle.sip_transcript.specs.Writing.{EndsWriting}

-- of `gen`, `lines` and `widen`
abbrev pub EndsCopy : Status → Type 0
EndsCopy statuses.Wrote = Unit {0}
EndsCopy (statuses.BadStream at why) = Unit {0}
EndsCopy (statuses.ReadFault ports.First) = Unit {0}
EndsCopy (statuses.WriteFault ports.Report) = Unit {0}
EndsCopy statuses.OutOfMemory = Unit {0}
EndsCopy _ = ⊥

-- of `help`, `helplook` and `helpmom`
abbrev pub EndsHelp : Status → Type 0
EndsHelp statuses.Served = Unit {0}
EndsHelp (statuses.BadFrame offset) = Unit {0}
EndsHelp statuses.PeerClosed = Unit {0}
EndsHelp statuses.PeerFault = Unit {0}
EndsHelp statuses.OutOfMemory = Unit {0}
EndsHelp _ = ⊥

-- of `serve`
abbrev pub EndsServe : Status → Type 0
EndsServe (statuses.BadStream at why) = Unit {0}
EndsServe (statuses.ReadFault ports.First) = Unit {0}
EndsServe status = EndsHelp status

abbrev pub Ends : Command → Status → Type 0
Ends (command.Verify task) status = IsListed status
Ends command.Help status = EndsHelp status
Ends (command.Audit form) status = EndsAudit status
Ends command.Show status = EndsWriting status
Ends command.Convert status = EndsWriting status
Ends (command.Gen depth) status = EndsCopy status
Ends (command.Lines form depth) status = EndsCopy status
Ends (command.Widen form depth) status = EndsCopy status
Ends (command.Play task name) status = IsListed status
Ends (command.Lookup task) status = lookups.IsListed status
Ends command.HelpLook status = EndsHelp status
Ends (command.Moments task) status = moments.IsListed status
Ends command.HelpMoments status = EndsHelp status
Ends (command.Panel task names) status = IsListed status
Ends (command.Serve form) status = EndsServe status

-- the command copies a stream
abbrev pub IsCopy : Command → Type 0
IsCopy (command.Verify task) = ⊥
IsCopy command.Help = ⊥
IsCopy (command.Audit form) = ⊥
IsCopy command.Show = ⊥
IsCopy command.Convert = ⊥
IsCopy (command.Gen depth) = Unit {0}
IsCopy (command.Lines form depth) = Unit {0}
IsCopy (command.Widen form depth) = Unit {0}
IsCopy (command.Play task name) = ⊥
IsCopy (command.Lookup task) = ⊥
IsCopy command.HelpLook = ⊥
IsCopy (command.Moments task) = ⊥
IsCopy command.HelpMoments = ⊥
IsCopy (command.Panel task names) = ⊥
IsCopy (command.Serve form) = ⊥

-- the second source of the command is no seed, but a transcript, or a store that is read again
abbrev pub ReadsNoSeed : Command → Type 0
ReadsNoSeed (command.Verify task) = ⊥
ReadsNoSeed command.Help = ⊥
ReadsNoSeed (command.Audit form) = Unit {0}
ReadsNoSeed command.Show = Unit {0}
ReadsNoSeed command.Convert = Unit {0}
ReadsNoSeed (command.Gen depth) = ⊥
ReadsNoSeed (command.Lines form depth) = ⊥
ReadsNoSeed (command.Widen form depth) = ⊥
ReadsNoSeed (command.Play task name) = ⊥
ReadsNoSeed (command.Lookup task) = ⊥
ReadsNoSeed command.HelpLook = ⊥
ReadsNoSeed (command.Moments task) = ⊥
ReadsNoSeed command.HelpMoments = ⊥
ReadsNoSeed (command.Panel task names) = ⊥
ReadsNoSeed (command.Serve form) = Unit {0}

-- the command writes what a transcript tells
abbrev pub IsRendering : Command → Type 0
IsRendering (command.Verify task) = ⊥
IsRendering command.Help = ⊥
IsRendering (command.Audit form) = ⊥
IsRendering command.Show = Unit {0}
IsRendering command.Convert = Unit {0}
IsRendering (command.Gen depth) = ⊥
IsRendering (command.Lines form depth) = ⊥
IsRendering (command.Widen form depth) = ⊥
IsRendering (command.Play task name) = ⊥
IsRendering (command.Lookup task) = ⊥
IsRendering command.HelpLook = ⊥
IsRendering (command.Moments task) = ⊥
IsRendering command.HelpMoments = ⊥
IsRendering (command.Panel task names) = ⊥
IsRendering (command.Serve form) = ⊥

-- the command serves a talk, whose stream it hears
abbrev pub IsHelp : Command → Type 0
IsHelp (command.Verify task) = ⊥
IsHelp command.Help = Unit {0}
IsHelp (command.Audit form) = ⊥
IsHelp command.Show = ⊥
IsHelp command.Convert = ⊥
IsHelp (command.Gen depth) = ⊥
IsHelp (command.Lines form depth) = ⊥
IsHelp (command.Widen form depth) = ⊥
IsHelp (command.Play task name) = ⊥
IsHelp (command.Lookup task) = ⊥
IsHelp command.HelpLook = Unit {0}
IsHelp (command.Moments task) = ⊥
IsHelp command.HelpMoments = Unit {0}
IsHelp (command.Panel task names) = ⊥
IsHelp (command.Serve form) = ⊥

-- the command asks a helper, and keeps no record of the talk
abbrev pub IsUnkept : Command → Type 0
IsUnkept (command.Verify task) = ⊥
IsUnkept command.Help = ⊥
IsUnkept (command.Audit form) = ⊥
IsUnkept command.Show = ⊥
IsUnkept command.Convert = ⊥
IsUnkept (command.Gen depth) = ⊥
IsUnkept (command.Lines form depth) = ⊥
IsUnkept (command.Widen form depth) = ⊥
IsUnkept (command.Play task name) = ⊥
IsUnkept (command.Lookup task) = Unit {0}
IsUnkept command.HelpLook = ⊥
IsUnkept (command.Moments task) = Unit {0}
IsUnkept command.HelpMoments = ⊥
IsUnkept (command.Panel task names) = ⊥
IsUnkept (command.Serve form) = ⊥
