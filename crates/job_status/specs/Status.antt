-- The status of each ending, and its number.
use Rattle.std.specs.Prelude.{ℕ, Bool, true, false, Result, Ok, Err}
use Rattle.job_status.specs.declared.status.Status.{Status}
use Rattle.job_status.specs.declared.status.Status.TheVariants as status
use Rattle.job_status.specs.declared.stop.Stop.{Stop}
use Rattle.job_status.specs.declared.stop.Stop.TheVariants.{Read, Write, Shelf, Memory, TooLong}

-- the exit status
abbrev pub status_code : Status → ℕ
status_code status.Ok = 0
status_code status.Refused = 1
status_code status.Usage = 2
status_code status.ReadFault = 3
status_code status.WriteFault = 4
status_code status.OutOfMemory = 5
status_code status.ShelfFault = 6
status_code status.NotDump = 7
status_code status.TooLong = 8

-- the status of a job that stopped
abbrev pub stop_status : Stop → Status
stop_status Read = status.ReadFault
stop_status Write = status.WriteFault
stop_status Shelf = status.ShelfFault
stop_status Memory = status.OutOfMemory
stop_status TooLong = status.TooLong

-- the status of a job that ended, by whether a reply was a refusal
abbrev pub refused_status : Bool → Status
refused_status true = status.Refused
refused_status false = status.Ok

-- the status of a job
abbrev pub job_status : Result Bool Stop → Status
job_status (Ok refused) = refused_status refused
job_status (Err stop) = stop_status stop
