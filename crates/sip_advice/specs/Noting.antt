-- What was noted of the files of a command, and which of it explains a status.
use Rattle.std.specs.Prelude.{◌≡◌, ◌⊎◌, ℕ, ◌/◌, ◌%◌, List, replicate, Option, Some, None}
use Rattle.std.specs.declared.io.ErrorKind.{ErrorKind}
use Rattle.std.specs.declared.io.ErrorKind.TheVariants.{NotFound, PermissionDenied, IsADirectory}
use Rattle.sip_advice.specs.declared.noted.Noted.{Noted}
use Rattle.sip_advice.specs.declared.noted.Trouble.{Trouble}
use Rattle.sip_advice.specs.declared.noted.Trouble.TheVariants.{Missing, Directory, Denied, Taken}
use Rattle.sip_advice.specs.declared.noted.Trouble.TheVariants.{Other}
use Rattle.sip_advice.specs.declared.noted.Unopened.{Unopened}
use Rattle.sip_words.specs.declared.plan.Opening.{Opening}
use Rattle.sip_words.specs.declared.plan.Opening.TheVariants as opening
use Rattle.sip_verifier.specs.declared.status.Port.TheVariants as ports
use Rattle.sip_verifier.specs.declared.status.Status.{Status}
use Rattle.sip_verifier.specs.declared.status.Status.TheVariants as statuses

-- why a file did not open, by the sort of the system's error
abbrev pub trouble_of : ErrorKind → Trouble
trouble_of NotFound = Missing
trouble_of PermissionDenied = Denied
trouble_of IsADirectory = Directory
trouble_of _ = Other

-- the file that an opening is on, which is not to be had for this reason
abbrev pub unopened : Opening → Trouble → Option Unopened
unopened (opening.Path word skip) why = Some (record { word = word; why = why })
unopened _ why = None

-- the file that was to be opened, where it was spared
abbrev pub taken_from : Opening → Opening → Option Unopened
taken_from asked opening.Spared = unopened asked Taken
taken_from asked _ = None

-- one byte 32 times
abbrev pub IsEven : List ℕ → Type 0
IsEven front = (byte : ℕ) × (front ≡ replicate 32 byte)

-- a mode by which a file's group can read it, or all others
abbrev pub IsShared : ℕ → Type 0
IsShared mode = (mode / 4 % 2 ≡ 1) ⊎ (mode / 32 % 2 ≡ 1)

-- the first of the two that is there
abbrev pub first_of : Option Unopened → Option Unopened → Option Unopened
first_of (Some file) _ = Some file
first_of None other = other

-- the file that explains a status, since it is not to be had: of the link FROM before TO
abbrev pub cause_of : Noted → Status → Option Unopened
cause_of noted (statuses.ReadFault ports.First) = noted.first
cause_of noted (statuses.ReadFault ports.Second) = noted.second
cause_of noted (statuses.WriteFault ports.Keep) = noted.keep
cause_of noted statuses.PeerFault = first_of noted.from noted.to
cause_of noted _ = None
